-- Segments of a live file that go away: which ones may, and the store after it.
use Rattle.file_store.proofs.Names.{◌≡◌, ℕ, zero, suc, ◌+◌, ◌-◌, ◌*◌, ◌<◌, ◌≤◌, List, [], ◌∷◌, length, map, get_or, set, take, drop, Bool, true}
use Rattle.file_store.proofs.Names.{false, ◌&&◌, ◌||◌, if◌then◌else◌, Option, Some, None, refl, sym, ◌∙◌, ap, subst, arith, All, AllByRecursion}
use Rattle.file_store.proofs.Names.{All-from_recursion, FileKey, find_key, Held, affected_held, bytes_of, Record, CatalogFile, Catalog}
use Rattle.file_store.proofs.Names.{IsCatalogFile, geometry_of, present, with_changed, after_all, IsEvent, kept_at, blocks_in_image, Meta, IsMeta}
use Rattle.file_store.proofs.Names.{Backs, StoresOrKeeps, held_at, held_with, body_with, HeldBody, no_body, is_away, IsBody, IsLive, IsSound}
use Rattle.file_store.proofs.Names.{marks_of, unmarked, each-found, distinct-uses, IsHeldFiles, IsSome, Ghosts, ⊎_elim, cases_lt, lt-ltb}
use Rattle.std.specs.Prelude.{nat_le, nat_lt}
use Rattle.std.proofs.Math.Bool.{or-true, or-false}
use Rattle.hsm_types.specs.Limits.{segment_bytes, segment_blocks, file_segments}
use Rattle.file_body.proofs.Runs.{length_blocks}
use Rattle.meta_store.proofs.SnapshotFits.{size-few}
use Rattle.hsm_types.specs.Refusals.{first_refusal}
use Rattle.hsm_types.specs.Regions.{covers}
use Rattle.hsm_types.specs.Segments.{from_on, segments_in}
use Rattle.hsm_types.specs.Stubs.{Stubs, stub_at, offline_at, punched, not_punched, already_offline, not_sealed, not_covered, any_unpunched}
use Rattle.hsm_types.specs.declared.dm.DmRefusal.{DmRefusal}
use Rattle.hsm_types.specs.declared.dm.DmRefusal.TheVariants.{Uncovered}
use Rattle.hsm_types.specs.declared.regions.Region.{Region}
use Rattle.hsm_types.specs.declared.stubs.Stub.{Stub}
use Rattle.hsm_types.specs.declared.stubs.StubEntry.{StubEntry}
use Rattle.hsm_types.proofs.Stubbing.{set_away, stub_at-punched}
use Rattle.plain_model.specs.Effects.{Punches}
use Rattle.snapshot_text.specs.Files.{IsCatalogStub}
use Rattle.meta_store.specs.Catalogs.{AreLengths}
use Rattle.snapshot_text.proofs.StubLists.{each-at}
use Rattle.file_store.specs.Punches.{punch_records}
use Rattle.file_store.proofs.Beside.{length-block}
use Rattle.file_store.proofs.Durable.{Parts, store_of, Tells, IsDone, after_event, done}
use Rattle.file_store.proofs.FilesBy.{key_on-live}
use Rattle.file_store.proofs.Marks.{marks-left, uses-changed, length-marks, marks_there}
use Rattle.file_store.proofs.PunchedBodies.{zeroed, length-zeroed, held-punched, held_at-punched}
use Rattle.file_store.proofs.PunchedFiles.{uses-freed, each-freed, without_segments}
use Rattle.file_store.proofs.PunchRecords.{CanGo, sealed_by, AreGoing, going, are_event, lengths_gone}
use Rattle.file_store.proofs.WithBodies.{IsFound, live-held, body-held, bytes-of, is-body, put-there, put-bodies, others, count-put, same-bytes}

-- ---- which segments can go

-- none of these is refused
each_passes : (what : ℕ → Option DmRefusal) (from n j : ℕ) → first_refusal (map what (from_on from n)) ≡ None → from ≤ j → j < from + n → what j ≡ None
each_passes what from zero j none above below = absurd (omega arith)
each_passes what from (suc n) j none above below = by (what from) refl none (λ rest behind. each_passes what (from + 1) n j rest behind (omega arith))
  where
    by : (o : Option DmRefusal) → what from ≡ o → first_refusal (o ∷ map what (from_on (from + 1) n)) ≡ None → (first_refusal (map what (from_on (from + 1) n)) ≡ None → from + 1 ≤ j → what j ≡ None) → what j ≡ None
    by None is rest later = ⊎_elim (λ (here : j < from + 1). let same : from ≡ j = omega arith in subst (λ i. what i ≡ None) same is) (λ (behind : from + 1 ≤ j). later rest behind) (cases_lt j (from + 1))
    by (Some why) is rest later = cc

-- a segment that nothing refuses is sealed and covered
passes : (regions : List Region) (stubs : Stubs) (j : ℕ) → not_punched regions stubs j ≡ None → (entry : StubEntry) × ((stub_at j stubs ≡ Some (sealed_by entry)) × (covers regions j ≡ true))
passes regions stubs j none = by (stub_at j stubs) refl none
  where
    covered : (b : Bool) → covers regions j ≡ b → first_refusal ((if b then None else Some (Uncovered j)) ∷ []) ≡ None → covers regions j ≡ true
    covered true is rest = is
    covered false is rest = cc

    here : (stub : Stub) (b : Bool) → stub.offline ≡ b → stub_at j stubs ≡ Some stub → first_refusal (already_offline j (Some stub) ∷ not_sealed j (Some stub) ∷ not_covered j regions ∷ []) ≡ None
        → (entry : StubEntry) × ((stub_at j stubs ≡ Some (sealed_by entry)) × (covers regions j ≡ true))
    here stub true off is rest = absurd (let bad = rw off at rest in cc)
    here stub false off is rest = (stub.entry, (is ∙ ap (λ b. Some (record stub { offline = b })) off, covered (covers regions j) refl (rw off at rest)))

    by : (o : Option Stub) → stub_at j stubs ≡ o → first_refusal (already_offline j o ∷ not_sealed j o ∷ not_covered j regions ∷ []) ≡ None → (entry : StubEntry) × ((stub_at j stubs ≡ Some (sealed_by entry)) × (covers regions j ≡ true))
    by None is rest = cc
    by (Some stub) is rest = here stub stub.offline refl is rest

pub can_go : (f : CatalogFile) (from n : ℕ) → AllByRecursion (IsCatalogStub f) f.kept.stubs → any_unpunched f.kept.regions f.kept.stubs from (from + n) ≡ None → from + n ≤ segments_in f.size → (j : ℕ) → from ≤ j → j < from + n → CanGo f f.kept.stubs j
can_go f from n each none end j above below =
    let count : from + n - from ≡ n = omega arith in
    let it = passes f.kept.regions f.kept.stubs j (each_passes (not_punched f.kept.regions f.kept.stubs) from n j (rw count at none) above below) in
    let was = each-at (IsCatalogStub f) f.kept.stubs j (sealed_by it.0) each it.1.0 in
    record { entry = it.0; is = it.1.0; start = was.fits.start; volume = was.fits.volume; covered = it.1.1 }

-- ---- which segments of the body are away then

now_away : (from to : ℕ) (stubs : Stubs) (j : ℕ) (was low : Bool) → (from ≤ j → j < to → ((stub : Stub) × (stub_at j stubs ≡ Some stub)) × (low ≡ true)) → was ≡ offline_at stubs j
    → (was || (nat_le from j && nat_lt j to && low)) ≡ offline_at (punched from to stubs) j
now_away from to stubs j was low can here = grind (arith, stub_at-punched, set_away, or-true, or-false)

-- ---- a live store

-- what is known of it before n segments of that file go away, from the first number on
pub record IsGoing {D : Type 0} (g : Ghosts D) (p : Parts D) (k : FileKey) (from n : ℕ) : Type 0 where
  pub files : IsHeldFiles p.bodies p.meta
  pub lawful : IsMeta p.meta
  pub live : IsLive g (store_of p)
  pub at : IsFound (length p.bodies) p.meta.current k
  pub can : (j : ℕ) → from ≤ j → j < from + n → CanGo at.file at.file.kept.stubs j
  pub start : segment_bytes * from ≤ at.file.size

pub kept_is : (c : Catalog) (k : FileKey) (f : CatalogFile) → find_key (λ x. x.key) k c.files ≡ Some f → kept_at k c ≡ f.kept
kept_is c k f found = rw found refl

pub ready : {D : Type 0} (g : Ghosts D) (p : Parts D) (k : FileKey) (from to : ℕ) → IsHeldFiles p.bodies p.meta → IsSound g (store_of p) → p.failed ≡ false → IsSome (find_key (λ f. f.key) k (store_of p).held.files)
    → segment_bytes * from ≤ length (bytes_of k (store_of p).held.files) → from ≤ to → to ≤ segments_in (length (bytes_of k (store_of p).held.files)) → any_unpunched (kept_at k p.meta.current).regions (kept_at k p.meta.current).stubs from to ≡ None → IsGoing g p k from (to - from)
ready g p k from to files sound working there start order end none =
    let at = live-held files k there in
    let own = is-body files at in
    let file = each-found (IsCatalogFile (geometry_of p.meta.current.geometry)) k at.file p.meta.current.files sound.meta.current.each at.found in
    let size : length (bytes_of k (store_of p).held.files) ≡ at.file.size = grind (arith, body-held, own) in
    let last : from + (to - from) ≡ to = omega arith in
    record {
      files = files;
      lawful = sound.meta;
      live = sound.live working;
      at = at;
      can = grind (arith, can_go, kept_is);
      start = rw (← size) start;
    }

-- they are no more than the longest file has
pub few_going : {D : Type 0} {g : Ghosts D} (p : Parts D) (k : FileKey) (from n : ℕ) → IsGoing g p k from n → length (from_on from n) ≤ file_segments
few_going p k from zero x = omega arith
few_going p k from (suc n) x =
    let file = each-found (IsCatalogFile (geometry_of p.meta.current.geometry)) k x.at.file p.meta.current.files x.lawful.current.each x.at.found in
    let last = (x.can (from + n) (omega arith) (omega arith)).start in
    omega (arith, length_blocks None from (suc n), last, size-few p.meta.current.geometry x.at.file file)

module _ {D : Type 0} {g : Ghosts D} {p : Parts D} {k : FileKey} {from to n : ℕ} (x : IsGoing g p k from n) (end : to ≡ from + n) where
  abbrev file : CatalogFile
  file = x.at.file

  abbrev records : List Record
  records = punch_records k.ino file.kept.stubs (from_on from n)

  abbrev next : Catalog
  next = with_changed k (without_segments from n) p.meta.current

  lawful_file : IsCatalogFile (geometry_of p.meta.current.geometry) file
  lawful_file = grind (arith, each-found)

  pub are_going : AreGoing k.ino k file.kept.stubs from n p.meta.current
  are_going = going k.ino k file.kept.stubs from n p.meta.current file (key_on-live p.meta.current k file x.lawful.current x.at.found) x.at.found lawful_file.ascend (λ j above. refl) x.can

  pub event : IsEvent records
  event = are_event k.ino file file.kept.stubs from n x.can

  pub lengths : AreLengths (after_all records p.meta.current)
  lengths = grind (arith, are_going, lengths_gone)

  -- ---- the blocks that go

  abbrev freed : List ℕ
  freed = present (take (segment_blocks * n) (drop (segment_blocks * from) file.places))

  pub freed_within : All (λ b. b < length p.space.current) freed
  freed_within =
      let total : ℕ = (geometry_of p.meta.current.geometry).blocks in
      rw (ap length x.live.marks ∙ length-marks p.meta.current) (All-from_recursion (λ b. b < total) freed (each-freed (λ b. b < total) (segment_blocks * from) (segment_blocks * n) file.places lawful_file.within))

  marks : unmarked freed p.space.current ≡ marks_of next
  marks = grind (arith, marks-left, distinct-uses, uses-changed, without_segments, uses-freed)

  -- ---- what is held

  abbrev held_next : Held
  held_next = record (store_of p).held { files = affected_held (Punches from to) k (store_of p).held.files }

  holds_next : (c : List ℕ) → g.gives p.disk c → held_at (blocks_in_image p.meta.durable.geometry c) next ≡ held_next
  holds_next c gives = grind (arith, held_at-punched, length-block)

  abbrev old_body : HeldBody
  old_body = get_or p.bodies (k.ino - 1) no_body

  -- the body without them
  module _ (b : HeldBody) (bytes : b.bytes ≡ zeroed from to old_body.bytes) (away : (j : ℕ) → is_away b j ≡ (is_away old_body j || (nat_le from j && nat_lt j to && nat_lt (segment_bytes * j) (length old_body.bytes)))) where
    own : IsBody old_body file
    own = is-body x.files x.at

    new_own : IsBody b (without_segments from n file)
    new_own = record {
      size = grind (arith, length-zeroed, own);
      here = λ j.
          subst (λ t. is_away b j ≡ (is_away old_body j || (nat_le from j && nat_lt j t && nat_lt (segment_bytes * j) (length old_body.bytes)))) end (away j)
          ∙ now_away from (from + n) file.kept.stubs j (is_away old_body j) (nat_lt (segment_bytes * j) (length old_body.bytes))
          (λ above below. let it = x.can j above below in ((sealed_by it.entry, it.is), lt-ltb (segment_bytes * j) (length old_body.bytes) (let start = it.start in let size = own.size in omega arith))) (own.here j);
    }

    becomes : held_with (set p.bodies (k.ino - 1) b) next ≡ held_next
    becomes =
        held-punched (λ f. (body_with p.bodies f).bytes) (λ f. (body_with (set p.bodies (k.ino - 1) b) f).bytes) k from to n p.meta.current file x.at.found end
        (ap (λ (y : HeldBody). y.bytes) (put-there x.files x.at b (without_segments from n file) refl) ∙ bytes ∙ ap (zeroed from to) (sym (bytes-of x.files x.at)))
        (same-bytes p.bodies (set p.bodies (k.ino - 1) b) _ (others x.files x.at b))

    files_next : (m : Meta) → m.current ≡ next → IsMeta m → IsHeldFiles (set p.bodies (k.ino - 1) b) m
    files_next m current lawful = record {
      catalog = lawful.current;
      sizes = rw current (put-bodies x.files x.at b (without_segments from n) refl new_own);
      count = grind (arith, count-put);
    }

    pub gone : (new : D) (m : Meta) (number : ℕ) (wrote : Bool) → Tells g p.disk p.meta number wrote new m → m.current ≡ after_all records p.meta.current → IsMeta m → Backs g new m → StoresOrKeeps g p.disk new p.meta number
        → IsDone g p number held_next (after_event p new m wrote (set p.bodies (k.ino - 1) b) (unmarked freed p.space.current) p.space.current)
    gone new m number wrote tells taken lawful backs turns =
        let current = taken ∙ are_going.become in
        done g p x.lawful x.live number new m (set p.bodies (k.ino - 1) b) (unmarked freed p.space.current) p.space.current backs held_next (ap (held_with (set p.bodies (k.ino - 1) b)) current ∙ becomes)
        (λ c gives. ap (held_at (blocks_in_image p.meta.durable.geometry c)) current ∙ holds_next c gives) (marks ∙ ap marks_of (sym current)) (rw x.live.marks (marks_there p.meta.current x.lawful.current)) wrote tells lawful turns (files_next m current lawful)
