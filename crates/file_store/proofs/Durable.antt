-- What calls make durable, and what is true of the store after them.
use Rattle.file_store.proofs.Names.{arith, ◌≡◌, ◌⊎◌, inl, inr, ⊎_elim, ℕ, ◌≤◌, Bool, true, false, if◌then◌else◌, List, refl, sym, ◌∙◌, ap, last_number}
use Rattle.file_store.proofs.Names.{subst, slice_index_or, AllByRecursion, HeldBody, MayBe, Keeps, Same, started, turns_leave, turns_now, joined}
use Rattle.file_store.proofs.Names.{weakened, Space, Held, Catalog, blocks_of, Holds, blocks_in_image, Recovers, Meta, IsMeta, Backs}
use Rattle.file_store.proofs.Names.{StoresOrKeeps, HasStored, IsStoredNow, held_at, held_with, Store, IsDurable, IsEither, Proceeds, IsLive, IsSound}
use Rattle.file_store.proofs.Names.{marks_of, Ghosts, IsHeldFiles}
use Rattle.file_store.proofs.Marks.{marks_there}

-- a store by its parts
pub record Parts (D : Type 0) : Type 0 where
  pub disk : D
  pub meta : Meta
  pub bodies : List HeldBody
  pub durable : List HeldBody
  pub space : Space
  pub failed : Bool

abbrev pub store_of : {D : Type 0} → Parts D → Store D
store_of p = record { disk = p.disk; meta = p.meta; held = held_with p.bodies p.meta.current; durable = held_with p.durable p.meta.durable; space = p.space; failed = p.failed }

-- what recovery finds of a live store
pub durable_found : {D : Type 0} (g : Ghosts D) (s : Store D) → IsLive g s → (c : List ℕ) → MayBe g s.disk c → IsDurable s c
durable_found g s live c may = record { catalog = s.meta.durable; same = refl; is = record { place = s.meta.place; holds = live.backs.image c may }; holds = live.stored c may }

-- where no call of the disk is made
pub sound_idle : {D : Type 0} (g : Ghosts D) (s : Store D) (n : ℕ) → IsSound g s → ((c : List ℕ) → g.left_since s.disk (g.moment s.disk) c → g.may_leave s.disk c) → s.failed ≡ false → Proceeds g s n s
sound_idle g s n sound only_now working =
    let found = durable_found g s (sound.live working) in
    record {
      geometry = refl;
      fsid = refl;
      moments = grind (arith, started, inl);
      now = λ c may. inl (found c may);
      durable = inl (refl, refl);
    }

-- one call after another
pub proceeds_on : {D : Type 0} (g : Ghosts D) (a b c : Store D) (n : ℕ) → Proceeds g a n b → b.held ≡ a.held → Proceeds g b n c → Proceeds g a n c
proceeds_on {D} g a b c n first held second = record {
  geometry = second.geometry ∙ first.geometry;
  fsid = second.fsid ∙ first.fsid;
  moments = joined g a.disk b.disk c.disk (IsEither a n) first.moments (weakened g b.disk c.disk _ _ either second.moments);
  now = λ image may. either image (second.now image may);
  durable = ⊎_elim
      (λ same. ⊎_elim (λ was. inl (same.0 ∙ was.0, same.1 ∙ was.1)) (λ made. inr (same.0 ∙ made.0, same.1 ∙ made.1)) first.durable)
      (λ made. inr (made.0, made.1 ∙ held)) second.durable;
}
  where
    either : (image : List ℕ) → IsEither b n image → IsEither a n image
    either image (inl found) = ⊎_elim (λ was. inl (rw (← first.geometry, ← first.fsid, ← was.0, ← was.1) found)) (λ made. inr (rw (← first.geometry, ← first.fsid, ← made.0, ← made.1) found)) first.durable
    either image (inr found) = inr (rw (← first.geometry, ← first.fsid, ← held) found)

-- ---- a snapshot that may be written

-- what calls tell, where they wrote it, and where they wrote nothing
abbrev pub Tells : {D : Type 0} → Ghosts D → D → Meta → ℕ → Bool → D → Meta → Type 0
Tells g old m n wrote new t = (wrote ≡ true → HasStored g old new m n × IsStoredNow m n t) × (wrote ≡ false → (new ≡ old) × (t ≡ record m { current = t.current }))

-- the data blocks are those that reads gave
holds_new : (y x : Catalog) (h : Held) (fsid n a b : ℕ) (d c : List ℕ) → a ≡ y.geometry → y.geometry ≡ b → Recovers fsid n y d c → held_at (blocks_in_image b d) x ≡ h → held_at (blocks_in_image a c) x ≡ h
holds_new y x h fsid n a b d c from to step was = ap (λ (z : ℕ). held_at (blocks_in_image z c) x) from ∙ ap (λ (blocks : List ℕ). held_at blocks x) step.data_blocks ∙ ap (λ (z : ℕ). held_at (blocks_in_image z d) x) to ∙ was

module _ {D : Type 0} (g : Ghosts D) (s : Store D) (lawful : IsMeta s.meta) (live : IsLive g s) (n : ℕ) where
  kept : (d c : List ℕ) → held_at (blocks_in_image s.meta.durable.geometry d) s.meta.durable ≡ s.durable → Recovers s.meta.fsid s.meta.number s.meta.durable d c → IsEither s n c
  kept d c was step = inl (record { catalog = s.meta.durable; same = refl; is = step.found; holds = grind (arith, holds_new) })

  stored : (d c : List ℕ) → held_at (blocks_in_image s.meta.durable.geometry d) s.meta.current ≡ s.held → Recovers s.meta.fsid n s.meta.current d c → IsEither s n c
  stored d c was step = inr (record { catalog = s.meta.current; same = lawful.stored.geometry; is = step.found; holds = grind (arith, holds_new) })

  -- whether a call succeeds or fails
  pub commit_proceeds : (t : Store D) → StoresOrKeeps g s.disk t.disk s.meta n → t.meta.durable.geometry ≡ s.meta.durable.geometry → t.meta.fsid ≡ s.meta.fsid
      → (t.meta.number ≡ s.meta.number) × (t.durable ≡ s.durable) ⊎ (t.meta.number ≡ n) × (t.durable ≡ s.held) → Proceeds g s n t
  commit_proceeds t turns geometry fsid durable = record {
    geometry = geometry;
    fsid = fsid;
    moments = grind (arith, turns_leave, kept, stored);
    now = grind (arith, turns_now, kept, stored);
    durable = durable;
  }

  -- where it keeps what it knows
  pub kept_proceeds : (t : Store D) → StoresOrKeeps g s.disk t.disk s.meta n → t.meta ≡ s.meta → t.durable ≡ s.durable → Proceeds g s n t
  kept_proceeds t turns meta_is durable_is = commit_proceeds t turns (ap (λ (m : Meta). m.durable.geometry) meta_is) (ap (λ (m : Meta). m.fsid) meta_is) (inl (ap (λ (m : Meta). m.number) meta_is, durable_is))

-- ---- an event that is done

-- what is then held, with which blocks marked
pub record IsDone {D : Type 0} (g : Ghosts D) (old : Parts D) (n : ℕ) (next : Held) (new : Parts D) : Type 0 where
  pub files : IsHeldFiles new.bodies new.meta
  pub sound : IsSound g (store_of new)
  pub held : (store_of new).held ≡ next
  pub proceeds : Proceeds g (store_of old) n (store_of new)

-- the store after it, where it was told whether a snapshot was written of what was held before, whose blocks have the full marks
abbrev pub after_event : {D : Type 0} → Parts D → D → Meta → Bool → List HeldBody → List Bool → List Bool → Parts D
after_event p new m wrote bodies marks full =
    record { disk = new; meta = m; bodies = bodies; durable = if wrote then p.bodies else p.durable; space = record { current = marks; durable = if wrote then full else p.space.durable }; failed = p.failed }

module _ {D : Type 0} (g : Ghosts D) (p : Parts D) (lawful : IsMeta p.meta) (live : IsLive g (store_of p)) (n : ℕ) (new : D) (m : Meta) (bodies : List HeldBody) (marks full : List Bool) where
  proceeds_after : (wrote : Bool) → Tells g p.disk p.meta n wrote new m → StoresOrKeeps g p.disk new p.meta n → Proceeds g (store_of p) n (store_of (after_event p new m wrote bodies marks full))
  proceeds_after true told turns =
      let now = (told.0 refl).1 in
      commit_proceeds g (store_of p) lawful live n _ turns (ap (λ (x : Catalog). x.geometry) now.durable ∙ lawful.stored.geometry) now.fsid (inr (now.number, ap (held_with p.bodies) now.durable))
  proceeds_after false told turns =
      let staged = (told.1 refl).1 in
      commit_proceeds g (store_of p) lawful live n _ turns (ap (λ (x : Meta). x.durable.geometry) staged) (ap (λ (x : Meta). x.fsid) staged) (inl (ap (λ (x : Meta). x.number) staged, ap (λ (x : Meta). held_with p.durable x.durable) staged))

  module _ (backs : Backs g new m) (held : Held) (held_is : held_with bodies m.current ≡ held) (current : (c : List ℕ) → g.gives p.disk c → held_at (blocks_in_image p.meta.durable.geometry c) m.current ≡ held) (exact : marks ≡ marks_of m.current)
      (has : AllByRecursion (λ b. slice_index_or full b false ≡ true) (blocks_of p.meta.current.files)) where
    live_after : (wrote : Bool) → Tells g p.disk p.meta n wrote new m → IsLive g (store_of (after_event p new m wrote bodies marks full))
    live_after true told =
        let now = (told.0 refl).1 in
        let geometry = ap (λ (x : Catalog). x.geometry) now.durable in
        record {
          backs = backs;
          stored = grind (arith, holds_new);
          current = λ c gives. grind (arith, inr, holds_new);
          marks = exact;
          marked = rw now.durable has;
        }
    live_after false told =
        let disk_is = (told.1 refl).0 in
        let store = ap (λ (x : Meta). x.durable) (told.1 refl).1 in
        record {
          backs = backs;
          stored = λ c may. grind arith;
          current = λ c gives. grind arith;
          marks = exact;
          marked = rw store live.marked;
        }

    pub done : (wrote : Bool) → Tells g p.disk p.meta n wrote new m → IsMeta m → StoresOrKeeps g p.disk new p.meta n → IsHeldFiles bodies m → IsDone g p n held (after_event p new m wrote bodies marks full)
    done wrote told lawful_now turns files =
        record { files = files; sound = record { meta = lawful_now; live = λ working. live_after wrote told }; held = held_is; proceeds = proceeds_after wrote told turns }

-- what was stored is what was held, which is lawful
pub stored_meta : (m new : Meta) (n : ℕ) → IsMeta m → IsStoredNow m n new → new.current ≡ m.current → n ≤ last_number → IsMeta new
stored_meta m new n lawful now current bound = record {
  stored = grind arith;
  current = rw current lawful.current;
}

-- ---- an opening

pub opened_sound : {D : Type 0} (g : Ghosts D) (s : Store D) → IsMeta s.meta → Backs g s.disk s.meta → s.meta.current ≡ s.meta.durable → s.held ≡ s.durable
    → ((c : List ℕ) → MayBe g s.disk c → held_at (blocks_in_image s.meta.durable.geometry c) s.meta.durable ≡ s.held) → s.space ≡ record { current = marks_of s.meta.current; durable = marks_of s.meta.current } → IsSound g s
opened_sound g s lawful backs same held holds space = record {
  meta = lawful;
  live = λ working. record {
    backs = backs;
    stored = λ c may. holds c may ∙ held;
    current = λ c gives. grind (arith, inr);
    marks = ap (λ (x : Space). x.current) space;
    marked = rw (space, ← same) (marks_there s.meta.current lawful.current);
  };
}

-- a read changes no image
pub backs_same : {D : Type 0} (g : Ghosts D) (mid new : D) (m : Meta) → Keeps g mid new Same → Backs g mid m → Backs g new m
backs_same g mid new m keeps b = record {
  length = keeps.moments.length ∙ b.length;
  image = λ c may. let d = keeps.now c may in subst (λ (i : List ℕ). Holds m.fsid m.place m.number m.durable i) (sym d.2) (b.image d.0 d.1);
}
