-- Events of a live store: a record that concerns no bytes of a file that stays, and bytes with their records.
use Rattle.file_store.proofs.Names.{IsAlike, HeldBody, no_body, IsHere, IsWithin, ◌/◌, held_file, file_by, option_map, rekept, touched, Restore}
use Rattle.file_store.proofs.Names.{each-drop, ◌+◌, IsSome, find_key, used, bytes_with, new_size, touched_of, places_for, IsStaged, get_or, ◌≡◌, ℕ}
use Rattle.file_store.proofs.Names.{◌<◌, List, [], ◌∷◌, length, Bool, true, false, Option, Some, None, refl, sym, ◌∙◌, ap, subst, All, inl, inr}
use Rattle.file_store.proofs.Names.{zero, suc, ◌-◌, ◌*◌, ◌≤◌, take, drop, set, arith, length-take, FileKey, Space, unmarked, free, marked, Record}
use Rattle.file_store.proofs.Names.{Catalog, IsCatalogFile, geometry_of, present, blocks_of, after, CanStand, refusal_of, refusal_of_all}
use Rattle.file_store.proofs.Names.{with_changed, after_all, CanStandAll, key_on, blocks_in_image, Holds, image_size, Meta, IsMeta, Backs, StoresOrKeeps}
use Rattle.file_store.proofs.Names.{held_at, held_with, block_of, bytes_at, IsBodiless, held_after, Store, IsLive, IsSound, marks_of, IsEither}
use Rattle.file_store.proofs.Names.{Proceeds, AllByRecursion, All-from_recursion, All-weaker, part, Follows, MayBe, Keeps, holds_on, holds_now}
use Rattle.file_store.proofs.Names.{layout_of, rebody, blocks_in, size_after, Held, bytes_of, affected_held, Mapping, each-found, Rewrite, Write}
use Rattle.file_store.proofs.Names.{Resize, IsBesideBlocks, HasBlocks, effect_of, IsRewrite, IsAllowedBy, IsRewriting, mappings_of, remapped, freed_by}
use Rattle.file_store.proofs.Names.{places_under, IsHeldFiles, length-marked, marked_keeps, taken_are_free, release_undoes_take, uses, uses-append}
use Rattle.file_store.proofs.Names.{Ghosts, Limits}
use Rattle.hsm_types.specs.Limits.{block_bytes, segment_blocks}
use Rattle.hsm_types.specs.declared.dm.DmRefusal.{DmRefusal}
use Rattle.snapshot_text.specs.declared.refusal.MetaRefusal.{MetaRefusal}
use Rattle.snapshot_text.specs.declared.refusal.MetaRefusal.TheVariants.{Part, Disk, Memory}
use Rattle.file_store.specs.Effects.{IsFreed}
use Rattle.file_store.specs.Refusals.{is_disk}
use Rattle.file_store.proofs.Durable.{Parts, store_of, Tells, IsDone, after_event, done, proceeds_on, kept_proceeds}
use Rattle.file_store.proofs.Marks.{others_free, marks-after, freed-within, marks_there, length-marks, marks-moved, ArePlaces, are_places}
use Rattle.file_store.proofs.WithBodies.{IsHeldFiles-back, held_with-back, each-changed, is-body, bytes-of, live-held, body-held, bodies_after}
use Rattle.file_store.proofs.WithBodies.{held_at-after, held_with-after, IsHeldFiles-after, IsFound, bytes-held, held_with-rewritten}
use Rattle.file_store.proofs.WithBodies.{IsHeldFiles-rewritten}
use Rattle.file_store.proofs.Beside.{blocks_fit, block_in, length-block, holds_beside, used_stay, held_beside, backs_beside, mapped}
use Rattle.file_store.proofs.ByBlocks.{at_place}
use Rattle.file_store.proofs.DataBlocks.{held-changed}
use Rattle.file_store.proofs.EachOf.{each-weaker, each-both, each-join, each-mapped}
use Rattle.file_store.proofs.ByteChanges.{touched-below, touched-ascends}
use Rattle.file_store.proofs.FilesBy.{key_on-live, used-held, find-held}
use Rattle.file_store.proofs.RewriteRecords.{IsFit, after_rewriting, can_stand, not_refused}
use Rattle.file_store.proofs.SoundChanges.{Allowed, allowed, lengths-after, touched-here}
use Rattle.hsm_types.specs.Stubs.{Stubs, offline_at}
use Rattle.plain_model.specs.Sound.{IsSound as IsAllowed}
use Rattle.meta_store.specs.Catalogs.{AreLengths}
use Rattle.snapshot_text.specs.Files.{HasLengths}
use Rattle.std.specs.List.{All}

module _ {D : Type 0} (g : Ghosts D) (k : FileKey) (r : Record) (freed : List ℕ) (p : Parts D) (held : IsHeldFiles p.bodies p.meta) (sound : IsSound g (store_of p)) (working : p.failed ≡ false) (bodiless : IsBodiless k r p.meta.current) (stands : CanStand r p.meta.current)
    (free : IsFreed k r p.meta.current freed) where
  live : IsLive g (store_of p)
  live = sound.live working

  pub freed_low : All (λ b. b < length p.space.current) freed
  freed_low = grind (arith, live, freed-within)

  pub recorded : (new : D) (m : Meta) (n : ℕ) (wrote : Bool) (tells : Tells g p.disk p.meta n wrote new m) → m.current ≡ after r p.meta.current → IsMeta m → Backs g new m → StoresOrKeeps g p.disk new p.meta n
      → IsDone g p n (held_after k r (store_of p).held) (after_event p new m wrote (bodies_after k r p.bodies) (unmarked freed p.space.current) p.space.current)
  recorded new m n wrote tells current lawful backs turns =
      done g p sound.meta live n new m _ _ p.space.current backs _ (ap (held_with (bodies_after k r p.bodies)) current ∙ held_with-after held k r bodiless stands)
      (λ c gives. let blocks = blocks_in_image p.meta.durable.geometry c in ap (held_at blocks) current ∙ held_at-after blocks k r p.meta.current bodiless stands ∙ ap (held_after k r) (live.current c gives))
      (ap (unmarked freed) live.marks ∙ marks-after k p.meta.current sound.meta.current freed r bodiless stands free ∙ ap marks_of (sym current)) (rw live.marks (marks_there p.meta.current sound.meta.current)) wrote tells lawful turns
      (IsHeldFiles-after held k r m bodiless stands current lawful.current)

-- where both maps have just the blocks that files use, all others are free
pub all_free : {D : Type 0} (g : Ghosts D) (p : Parts D) → IsSound g (store_of p) → p.failed ≡ false → p.space.durable ≡ p.space.current → length (free p.space) + used (store_of p).held.files ≡ (geometry_of p.meta.durable.geometry).blocks
all_free g p sound working same = grind (arith, used-held, others_free)

-- ---- it wasn't taken

pub refused_sound : {D : Type 0} (g : Ghosts D) (s : Store D) (new : D) (space : Space) (refusal : MetaRefusal) → IsSound g s → s.failed ≡ false → ((why : DmRefusal) → refusal ≡ Part why → (space ≡ s.space) × (new ≡ s.disk)) → (refusal ≡ Memory → (space ≡ s.space) × (new ≡ s.disk))
    → IsSound g (record s { disk = new; space = space; failed = is_disk refusal })
refused_sound g s new space (Part why) sound working part memory = grind arith
refused_sound g s new space Disk sound working part memory = record { meta = sound.meta; live = λ still. absurd cc }
refused_sound g s new space Memory sound working part memory = grind arith

pub refusal_alone : (rs : List Record) (r : Record) (c : Catalog) → rs ≡ r ∷ [] → refusal_of r c ≡ refusal_of_all rs c
refusal_alone rs r c is = rw is (grind arith)

-- ---- blocks that a file frees

all-present : (P : ℕ → Type 0) (k : ℕ) (ps : List (Option ℕ)) → AllByRecursion P (present ps) → AllByRecursion P (present (drop k ps))
all-present P zero ps all = all
all-present P (suc k) [] all = all
all-present P (suc k) (None ∷ ps) all = all-present P k ps all
all-present P (suc k) (Some p ∷ ps) all = all-present P k ps all.1

all-under : (P : ℕ → Type 0) (bs : List ℕ) (ps : List (Option ℕ)) → AllByRecursion P (present ps) → AllByRecursion P (present (places_under bs ps))
all-under P [] ps all = tt
all-under P (b ∷ bs) ps all =
    let Q : Option ℕ → Type 0 = λ p. AllByRecursion P (present (p ∷ places_under bs ps)) in
    at_place P Q (all-under P bs ps all) (λ p here. (here, all-under P bs ps all)) ps b all

-- each block of a run below so many, of a segment that is here, at a place below so many
fit : (stubs : Stubs) (n total : ℕ) (bs ps : List ℕ) → length ps ≡ length bs → AllByRecursion (λ b. b < n) bs → AllByRecursion (λ p. p < total) ps → AllByRecursion (λ b. offline_at stubs (b / segment_blocks) ≡ false) bs → AllByRecursion (IsFit stubs n total) (mappings_of bs ps)
fit stubs n total bs ps long low within here =
    let P : Mapping → Type 0 = λ m. (m.block < n) × (offline_at stubs (m.block / segment_blocks) ≡ false) in
    let Q : ℕ → Type 0 = λ b. (b < n) × (offline_at stubs (b / segment_blocks) ≡ false) in
    let both = each-both (λ b. b < n) (λ b. offline_at stubs (b / segment_blocks) ≡ false) Q (λ b l h. (l, h)) bs low here in
    each-both P (λ (m : Mapping). m.place < total) (IsFit stubs n total) (λ m a b. (a.0, b, a.1)) (mappings_of bs ps)
    (each-mapped Q (λ (m : Mapping). m.block) (mappings_of bs ps) (rw (mapped bs ps long).0 both)) (each-mapped (λ p. p < total) (λ (m : Mapping). m.place) (mappings_of bs ps) (rw (mapped bs ps long).1 within))

-- places that are taken can be given back, which undoes it
module _ (space : Space) (n : ℕ) where
  pub places_within : All (λ b. b < length (marked (take n (free space)) space.current)) (take n (free space))
  places_within = grind (arith, length-marked, All-weaker, taken_are_free)

  pub undone : unmarked (take n (free space)) (marked (take n (free space)) space.current) ≡ space.current
  undone = grind (arith, release_undoes_take, All-weaker, taken_are_free)

-- the body of that file, and its bytes
abbrev pub body_of : List HeldBody → FileKey → HeldBody
body_of bs k = get_or bs (k.ino - 1) no_body

abbrev pub bytes_in : List HeldBody → FileKey → List ℕ
bytes_in bs k = (body_of bs k).bytes

-- the files are held as they were, with these bodies
abbrev pub IsBack : {D : Type 0} → Parts D → List HeldBody → Type 0
IsBack p bodies = IsHeldFiles bodies p.meta × (held_with bodies p.meta.current ≡ held_with p.bodies p.meta.current)

-- what is known of a store and of a change before the first write
pub record Given {D : Type 0} (g : Ghosts D) (p : Parts D) (k : FileKey) (change : Rewrite) : Type 0 where
  pub files : IsHeldFiles p.bodies p.meta
  pub lawful : IsMeta p.meta
  pub live : IsLive g (store_of p)
  pub at : IsFound (length p.bodies) p.meta.current k
  pub may : IsRewrite change
  pub allowed : Allowed change at.file
  pub few : new_size change (bytes_in p.bodies k) ≤ (geometry_of p.meta.current.geometry).limits.bytes
  pub room : length (touched_of change (bytes_in p.bodies k)) + length (blocks_of p.meta.current.files) ≤ (geometry_of p.meta.current.geometry).blocks
  pub enough : length (touched_of change (bytes_in p.bodies k)) ≤ length (free p.space)

size-allowed : (limits : Limits) (change : Rewrite) (n : ℕ) → IsAllowedBy limits change → n ≤ limits.bytes → size_after (effect_of change) n ≤ limits.bytes
size-allowed limits (Write offset bytes) n allowed few = omega (arith, allowed, few)
size-allowed limits (Resize to) n allowed few = allowed
size-allowed limits (Restore segment bytes) n allowed few = few

pub known : {D : Type 0} (g : Ghosts D) (p : Parts D) (k : FileKey) (change : Rewrite) → IsHeldFiles p.bodies p.meta → IsSound g (store_of p) → p.failed ≡ false → IsSome (find_key (λ f. f.key) k (store_of p).held.files) → IsRewrite change
    → IsAllowedBy (geometry_of p.meta.durable.geometry).limits change → IsAllowed (effect_of change) (held_file k (store_of p).held.files) → length (touched_of change (bytes_of k (store_of p).held.files)) + used (store_of p).held.files ≤ (geometry_of p.meta.durable.geometry).blocks → length (touched_of change (bytes_of k (store_of p).held.files)) ≤ length (free p.space) → Given g p k change
known g p k change files sound working there may limited allows left many =
    let at = live-held files k there in
    let live = sound.live working in
    let body = is-body files at in
    let file = each-found (IsCatalogFile (geometry_of p.meta.current.geometry)) k at.file p.meta.current.files sound.meta.current.each at.found in
    let lengths = each-found HasLengths k at.file p.meta.current.files sound.meta.stored.now at.found in
    let is : held_file k (store_of p).held.files ≡ file_by (bytes_with p.bodies) at.file = grind (arith, find-held, option_map) in
    let room : length (touched_of change (bytes_in p.bodies k)) + length (blocks_of p.meta.current.files) ≤ (geometry_of p.meta.current.geometry).blocks =
    grind (arith, body-held, used-held) in
    record {
      files = files;
      lawful = sound.meta;
      live = live;
      at = at;
      may = may;
      allowed = allowed (bytes_with p.bodies) at.file (geometry_of p.meta.current.geometry) file lengths (ap length (bytes-of files at) ∙ body.size) change (subst (IsAllowed (effect_of change)) is allows);
      few = size-allowed (geometry_of p.meta.current.geometry).limits change _ (subst (λ (n : ℕ). IsAllowedBy (geometry_of n).limits change) (sym sound.meta.stored.geometry) limited) (omega (arith, file.size, body.size));
      room = room;
      enough = grind (arith, body-held);
    }

module _ {D : Type 0} {g : Ghosts D} {p : Parts D} {k : FileKey} {change : Rewrite} (x : Given g p k change) where
  abbrev body : List ℕ
  body = bytes_in p.bodies k

  abbrev size : ℕ
  size = new_size change body

  abbrev blocks : List ℕ
  blocks = touched_of change body

  abbrev places : List ℕ
  places = places_for change body p.space

  abbrev ms : List Mapping
  ms = mappings_of blocks places

  abbrev next : Catalog
  next = with_changed k (remapped change (length body) ms) p.meta.current

  own : length body ≡ x.at.file.size
  own = (is-body x.files x.at).size

  pub within : IsWithin change (length body)
  within = rw own x.allowed.within

  file : IsCatalogFile (geometry_of p.meta.current.geometry) x.at.file
  file = grind (arith, each-found)

  -- what the file becomes
  pub becomes_is : remapped change (length body) ms x.at.file ≡ remapped change x.at.file.size ms x.at.file
  becomes_is = ap (λ (n : ℕ). remapped change n ms x.at.file) own

  pub long : length places ≡ length blocks
  long = omega (arith, x.enough, length-take (length blocks) (free p.space))

  are : ArePlaces p.meta.current p.meta.durable places
  are = are_places p.meta.current x.lawful.current p.meta.durable p.space (length blocks) x.live.marks x.live.marked

  low : AllByRecursion (λ b. b < blocks_in size) blocks
  low = touched-below change (length body) within

  -- the body is as it was
  pub bodies_back : (b : HeldBody) → IsAlike (body_of p.bodies k) b → IsBack p (set p.bodies (k.ino - 1) b)
  bodies_back b alike = (IsHeldFiles-back x.files x.at b alike, held_with-back x.files x.at b alike)

  -- the disk has them
  pub fits : AllByRecursion (λ q. (layout_of p.meta.current.geometry).blocks + block_bytes * q + block_bytes ≤ g.length_of p.disk) places
  fits = grind (arith, blocks_fit, are)

  -- ---- the records

  module _ {records : List Record} (is : IsRewriting k.ino change (length body) x.at.file.kept.stubs ms records) where
    key : key_on k.ino p.meta.current ≡ k
    key = key_on-live p.meta.current k x.at.file x.lawful.current x.at.found

    found_on : find_key (λ f. f.key) (key_on k.ino p.meta.current) p.meta.current.files ≡ Some x.at.file
    found_on = rw key x.at.found

    rewriting : IsRewriting k.ino change x.at.file.size x.at.file.kept.stubs ms records
    rewriting = grind (arith, own)

    pub stand : CanStandAll records p.meta.current
    stand =
        can_stand k.ino change ms records p.meta.current x.at.file found_on file rewriting (record { few = grind (arith, own); free = x.allowed.free })
        (subst (λ (n : ℕ). AllByRecursion (IsFit (rekept (effect_of change) x.at.file.size x.at.file.kept).stubs (blocks_in (size_after (effect_of change) n)) (geometry_of p.meta.current.geometry).blocks) ms) own
        (fit (rekept (effect_of change) x.at.file.size x.at.file.kept).stubs (blocks_in size) (geometry_of p.meta.current.geometry).blocks blocks places long low are.within
        (subst (λ (n : ℕ). AllByRecursion (λ b. offline_at (rekept (effect_of change) x.at.file.size x.at.file.kept).stubs (b / segment_blocks) ≡ false) (touched (effect_of change) n)) (sym own) (touched-here change x.at.file x.may))))
        (λ n. let once = are.once n in omega (arith, uses-append n (blocks_of p.meta.current.files) places, ap (uses n) (mapped blocks places long).1))

    become : after_all records p.meta.current ≡ next
    become = grind (arith, after_rewriting, found_on, file, rewriting, key, own)

    pub passes : refusal_of_all records p.meta.current ≡ None
    passes = not_refused k.ino change ms records p.meta.current x.at.file found_on rewriting

    -- entries keep their lengths
    pub lengths_then : AreLengths (after_all records p.meta.current)
    lengths_then =
        let own_lengths = each-found HasLengths k x.at.file p.meta.current.files x.lawful.stored.now x.at.found in
        subst AreLengths (sym become)
        (each-changed HasLengths k (remapped change (length body) ms) x.at.file p.meta.current.files x.at.found (subst HasLengths (sym becomes_is) (lengths-after change ms x.at.file x.may own_lengths))
        (each-drop HasLengths k p.meta.current.files x.lawful.stored.now))

  -- ---- the marks

  module _ {freed : List ℕ} (freed_are : freed ≡ freed_by size blocks x.at.file.places) where
    pub freed_within : All (λ b. b < length (marked places p.space.current)) freed
    freed_within =
        let file = each-found (IsCatalogFile (geometry_of p.meta.current.geometry)) k x.at.file p.meta.current.files x.lawful.current.each x.at.found in
        let P : ℕ → Type 0 = λ b. b < (geometry_of p.meta.current.geometry).blocks in
        let all = each-join P (present (drop (blocks_in size) x.at.file.places)) (present (places_under blocks x.at.file.places)) (all-present P (blocks_in size) x.at.file.places file.within) (all-under P blocks x.at.file.places file.within) in
        rw (length-marked places p.space.current ∙ ap length x.live.marks ∙ length-marks p.meta.current, freed_are) (All-from_recursion P (freed_by size blocks x.at.file.places) all)

    marks : unmarked freed (marked places p.space.current) ≡ marks_of next
    marks = grind (arith, marks-moved, touched-ascends, low, long, are)

  -- ---- the writes, and then the records

  abbrev held_next : Held
  held_next = record (store_of p).held { files = affected_held (effect_of change) k (store_of p).held.files }

  bytes : (was : List ℕ) → held_at was p.meta.current ≡ (store_of p).held → bytes_at was x.at.file ≡ body
  bytes was holds =
      sym (bytes-held (bytes_at was) p.meta.current k x.at.file x.at.found) ∙ ap (λ (h : Held). bytes_of k h.files) holds ∙ bytes-held (bytes_with p.bodies) p.meta.current k x.at.file x.at.found ∙ bytes-of x.files x.at

  module _ {mid : D} (moments : Keeps g p.disk mid (IsBesideBlocks (layout_of p.meta.current.geometry).blocks places)) where
    keeps : Keeps g p.disk mid (IsBesideBlocks (layout_of p.meta.durable.geometry).blocks places)
    keeps = grind arith

    -- what recovery finds is what was durable
    abbrev Was : List ℕ → Type 0
    Was c = Holds p.meta.fsid p.meta.place p.meta.number p.meta.durable c × (held_at (blocks_in_image p.meta.durable.geometry c) p.meta.durable ≡ (store_of p).durable)

    was : (c : List ℕ) → MayBe g p.disk c → Was c
    was c may = (x.live.backs.image c may, x.live.stored c may)

    stays : (d c : List ℕ) → Was d → IsBesideBlocks (layout_of p.meta.durable.geometry).blocks places d c → Was c
    stays d c w step = (
      holds_beside p.meta.durable.geometry places d c step p.meta refl w.0,
      held_beside p.meta.durable.geometry places d c step p.meta.durable refl x.lawful.stored.catalog are.free ∙ w.1,
    )

    found : (n : ℕ) (c : List ℕ) → Was c → IsEither (store_of p) n c
    found n c w = inl (record { catalog = p.meta.durable; same = refl; is = record { place = p.meta.place; holds = w.0 }; holds = w.1 })

    pub written_proceeds : (n : ℕ) (held : Held) (space : Space) (failed : Bool) → Proceeds g (store_of p) n (record (store_of p) { disk = mid; held = held; space = space; failed = failed })
    written_proceeds n held space failed = record {
      geometry = refl;
      fsid = refl;
      moments = holds_on g p.disk mid _ Was (IsEither (store_of p) n) keeps was (λ d c w step. found n c (stays d c w step));
      now = λ c may. found n c (holds_now g p.disk mid _ Was Was keeps was stays c may);
      durable = inl (refl, refl);
    }

    module _ {records : List Record} {freed : List ℕ} (staged : IsStaged g p.disk mid p.meta.current k change body p.space records freed) where
      abbrev changed : List ℕ
      changed = rebody (effect_of change) body

      abbrev base : ℕ
      base = (layout_of p.meta.durable.geometry).blocks

      has_blocks : Follows (HasBlocks base changed ms) (g.gives p.disk) (g.gives mid)
      has_blocks = grind arith

      beside : (d c : List ℕ) → HasBlocks base changed ms d c → IsBesideBlocks base places d c
      beside d c step = subst (λ (ps : List ℕ). IsBesideBlocks base ps d c) (mapped blocks places long).1 step.beside

      -- the store stays as it is
      pub written_live : IsLive g (store_of (record p { disk = mid }))
      written_live = record {
        backs = backs_beside g p.disk mid p.meta.durable.geometry places p.meta keeps refl x.live.backs;
        stored = λ c may. (holds_now g p.disk mid _ Was Was keeps was stays c may).1;
        current = grind (arith, has_blocks, held_beside, beside, are);
        marks = x.live.marks;
        marked = x.live.marked;
      }

      -- and reads give the new blocks, with all that files use
      holds_next : (c : List ℕ) → g.gives mid c → held_at (blocks_in_image p.meta.durable.geometry c) next ≡ held_next
      holds_next c gives =
          let was_on = has_blocks c gives in
          let was : List ℕ = blocks_in_image p.meta.durable.geometry was_on.0 in
          let now : List ℕ = blocks_in_image p.meta.durable.geometry c in
          let holds = x.live.current was_on.0 was_on.1 in
          let there : AllByRecursion (λ (m : Mapping). part now (block_bytes * m.place) block_bytes ≡ block_of changed m.block) ms =
          each-both (λ (m : Mapping). m.place < (geometry_of p.meta.durable.geometry).blocks) _ _ (λ m low is. block_in p.meta.durable.geometry c m.place low ∙ is) ms
          (each-mapped (λ q. q < (geometry_of p.meta.durable.geometry).blocks) (λ (m : Mapping). m.place) ms (rw ((mapped blocks places long).1, ← x.lawful.stored.geometry) are.within)) was_on.2.there in
          held-changed was now p.meta.current (used_stay p.meta.durable.geometry places was_on.0 c (beside was_on.0 c was_on.2) p.meta.current x.lawful.stored.geometry x.lawful.current are.unused) change k ms x.at.file body x.lawful.current
          (λ b lt. length-block p.meta.durable.geometry was_on.0 b (subst (λ z. b < (geometry_of z).blocks) x.lawful.stored.geometry lt) (image_size (record { place = p.meta.place; holds = x.live.backs.image was_on.0 (inr was_on.1) })))
          x.may within x.at.found (bytes was holds) (mapped blocks places long).0 there
          ∙ ap (λ (h : Held). record h { files = affected_held (effect_of change) k h.files }) holds

      joined : (n : ℕ) (t : Store D) → Proceeds g (store_of (record p { disk = mid })) n t → Proceeds g (store_of p) n t
      joined n t more = proceeds_on g (store_of p) (store_of (record p { disk = mid })) t n (written_proceeds n (store_of p).held p.space p.failed) refl more

      -- the records aren't taken
      pub refused_proceeds : (n : ℕ) (t : Store D) → StoresOrKeeps g mid t.disk p.meta n → t.meta ≡ p.meta → t.durable ≡ (store_of p).durable → Proceeds g (store_of p) n t
      refused_proceeds n t turns meta_is durable_is = joined n t (kept_proceeds g (store_of (record p { disk = mid })) x.lawful written_live n t turns meta_is durable_is)

      -- they are
      pub rewritten : (b : HeldBody) → b.bytes ≡ changed → IsHere b (remapped change x.at.file.size ms x.at.file) → (n : ℕ) (new : D) (m : Meta) (wrote : Bool) → Tells g mid p.meta n wrote new m → m.current ≡ after_all records p.meta.current → IsMeta m → Backs g new m → StoresOrKeeps g mid new p.meta n
          → IsDone g p n held_next (after_event p new m wrote (set p.bodies (k.ino - 1) b) (unmarked freed (marked places p.space.current)) (marked places p.space.current))
      rewritten b bytes_are here n new m wrote tells taken lawful backs turns =
          let current = taken ∙ become (staged.rewriting x.at.file x.at.found) in
          let touched_are = (mapped blocks places long).0 in
          let has_marks = each-weaker (λ b. get_or p.space.current b false ≡ true) (λ b. get_or (marked places p.space.current) b false ≡ true) (λ b. marked_keeps places p.space.current b) (blocks_of p.meta.current.files) (rw x.live.marks (marks_there p.meta.current x.lawful.current)) in
          let it =
          done g (record p { disk = mid }) x.lawful written_live n new m _ (unmarked freed (marked places p.space.current)) (marked places p.space.current) backs held_next
          (ap (held_with (set p.bodies (k.ino - 1) b)) current ∙ held_with-rewritten x.files x.at b change ms touched_are bytes_are)
          (λ c gives. ap (held_at (blocks_in_image p.meta.durable.geometry c)) current ∙ holds_next c gives) (marks (staged.frees x.at.file x.at.found) ∙ ap marks_of (sym current)) has_marks wrote tells lawful turns
          (IsHeldFiles-rewritten x.files x.at b change ms touched_are bytes_are m current lawful.current within (subst (IsHere b) (sym becomes_is) here)) in
          record { files = it.files; sound = it.sound; held = it.held; proceeds = joined n _ it.proceeds }
