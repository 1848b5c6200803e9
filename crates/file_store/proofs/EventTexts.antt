-- The texts of the records of an event, which an empty journal has room for.
use Rattle.std.proofs.Common.{◌≡◌, ℕ, suc, ◌+◌, ◌-◌, ◌*◌, ◌/◌, ◌%◌, ◌≤◌, List, [], ◌∷◌, ◌++◌, length, map, Bool, true, false, cond, eqb, Option, Some, None}
use Rattle.std.proofs.Common.{is_some, refl, ap, subst, arith, length-append}
use Rattle.std.specs.List.{AllByRecursion, flat_map}
use Rattle.commit_slots.specs.Places.{layout_of}
use Rattle.hsm_types.specs.Limits.{block_bytes, segment_bytes, access_bytes, file_segments, file_regions, value_bytes}
use Rattle.hsm_types.specs.Segments.{from_on}
use Rattle.hsm_types.specs.Stubs.{Stubs, stub_at, entry_print, uncovered}
use Rattle.hsm_types.specs.Refusals.{first_refusal}
use Rattle.hsm_types.specs.Regions.{regions_refusal}
use Rattle.hsm_types.specs.Attributes.{Attributes, setting_refusal}
use Rattle.hsm_types.specs.declared.attributes.AttrName.{AttrName}
use Rattle.hsm_types.specs.declared.regions.Region.{Region}
use Rattle.snapshot_text.proofs.KeptBounds.{regions-few}
use Rattle.meta_store.proofs.SnapshotFits.{limits_countable}
use Rattle.hsm_types.specs.declared.stubs.Stub.{Stub as StubOf}
use Rattle.plain_model.specs.Blocks.{blocks_in, old_end, met, touched}
use Rattle.file_body.proofs.Runs.{length_blocks}
use Rattle.journal_records.specs.declared.records.Record.{Record}
use Rattle.journal_records.specs.declared.records.Record.TheVariants.{Make, Drop, Size, Map, Regions, SetAttr, DropAttr, Stub}
use Rattle.journal_records.specs.Texts.{record_text, records_text, sized_bytes, IsShort}
use Rattle.journal_records.proofs.WrittenTexts.{places_long, regions_long}
use Rattle.snapshot_text.specs.declared.snapshot.Mapping.{Mapping}
use Rattle.snapshot_text.specs.FileRecords.{mappings_from}
use Rattle.meta_store.specs.Catalogs.{Catalog, IsCatalog}
use Rattle.meta_store.proofs.FoundFiles.{each-found}
use Rattle.snapshot_text.specs.Files.{CatalogFile, IsCatalogFile, IsCatalogStub, geometry_of}
use Rattle.snapshot_text.proofs.StubLists.{each-at}
use Rattle.hsm_types.specs.Keyed.{find_key}
use Rattle.hsm_types.specs.declared.keys.FileKey.{FileKey}
use Rattle.file_store.specs.Punches.{away_by, punch_records}
use Rattle.file_store.specs.declared.rewrites.Rewrite.{Rewrite}
use Rattle.file_store.specs.declared.rewrites.Rewrite.TheVariants.{Write, Resize, Restore}
use Rattle.file_store.specs.Rewrites.{effect_of, IsRewrite, IsHead, IsMapOn, mappings_in, mappings_of, unsealing}
use Rattle.file_store.specs.Events.{access_blocks, HasDigest, HaveDigests, IsSmall, IsAccess}
use Rattle.file_store.specs.Events.{IsFewAlone, IsFewRewritten, IsFewPunched, IsGreatest, FitsEach}

-- ---- one record

stub-long : (ino j : ℕ) (stub : Option StubOf) → HasDigest stub → length (record_text (Stub ino j stub)) ≤ 58
unfolding record_text
stub-long ino j None has = omega arith
stub-long ino j (Some stub) has = omega (arith, has)

stub-exact : (ino j : ℕ) (stub : Option StubOf) → HasDigest stub → is_some stub ≡ true → length (record_text (Stub ino j stub)) ≡ 58
unfolding record_text
stub-exact ino j None has there = cc
stub-exact ino j (Some stub) has there = omega (arith, has)

alone-long : (r : Record) → IsSmall r → length (record_text r) ≤ 4115
unfolding record_text
alone-long (Make key name) small = omega (arith, small)
alone-long (Drop ino) small = omega arith
alone-long (Size ino size) small = omega arith
alone-long (Map ino block places) small = omega (arith, small, places_long places)
alone-long (Regions ino regions) small = omega (arith, small, regions_long regions)
alone-long (SetAttr ino name value) small = omega (arith, small.0, small.1, length-append name.0 (sized_bytes 2 value))
alone-long (DropAttr ino name) small = omega (arith, small)
alone-long (Stub ino j stub) small = omega (arith, stub-long ino j stub small)

alone-short : (r : Record) → IsSmall r → IsShort r
alone-short (Make key name) small = omega (arith, small)
alone-short (Map ino block places) small = omega (arith, small)
alone-short (Regions ino regions) small = omega (arith, small)
alone-short (SetAttr ino name value) small = omega (arith, small.1)
alone-short (Drop ino) small = tt
alone-short (Size ino size) small = tt
alone-short (DropAttr ino name) small = tt
alone-short (Stub ino j stub) small = tt

texts-more : (r : Record) (rs : List Record) → length (records_text (r ∷ rs)) ≡ length (record_text r) + length (records_text rs)
texts-more r rs = length-append (record_text r) (records_text rs)

pub few_alone : (r : Record) → IsFewAlone r
few_alone r small = record { short = (alone-short r small, tt); bytes = omega (arith, texts-more r [], alone-long r small) }

-- ---- entries of a catalog

pub digests_found : (c : Catalog) (k : FileKey) (f : CatalogFile) → IsCatalog c → find_key (λ x. x.key) k c.files ≡ Some f → HaveDigests f.kept.stubs
digests_found c k f lawful found j = by (stub_at j f.kept.stubs) refl
  where
    file : IsCatalogFile (geometry_of c.geometry) f
    file = each-found (IsCatalogFile (geometry_of c.geometry)) k f c.files lawful.each found

    by : (o : Option StubOf) → stub_at j f.kept.stubs ≡ o → HasDigest o
    by None is = tt
    by (Some stub) is = (each-at (IsCatalogStub f) f.kept.stubs j stub file.stubs is).numbers.entry.digest

-- ---- a punch

away-digest : (stub : Option StubOf) → HasDigest stub → HasDigest (away_by stub)
away-digest None has = tt
away-digest (Some stub) has = has

away-some : (stub : Option StubOf) → is_some stub ≡ true → is_some (away_by stub) ≡ true
away-some None there = there
away-some (Some stub) there = refl

module _ (ino : ℕ) (stubs : Stubs) (has : HaveDigests stubs) where
  punched-short : (js : List ℕ) → AllByRecursion IsShort (punch_records ino stubs js)
  punched-short [] = tt
  punched-short (j ∷ js) = (tt, punched-short js)

  punched-long : (js : List ℕ) → length (records_text (punch_records ino stubs js)) ≤ 58 * length js
  punched-long [] = omega arith
  punched-long (j ∷ js) =
      let r : Record = Stub ino j (away_by (stub_at j stubs)) in
      omega (arith, texts-more r (punch_records ino stubs js), stub-long ino j (away_by (stub_at j stubs)) (away-digest (stub_at j stubs) (has j)), punched-long js)

  punched-exact : ((j : ℕ) → is_some (stub_at j stubs) ≡ true) → (js : List ℕ) → length (records_text (punch_records ino stubs js)) ≡ 58 * length js
  punched-exact all [] = refl
  punched-exact all (j ∷ js) =
      let r : Record = Stub ino j (away_by (stub_at j stubs)) in
      omega (arith, texts-more r (punch_records ino stubs js), stub-exact ino j (away_by (stub_at j stubs)) (away-digest (stub_at j stubs) (has j)) (away-some (stub_at j stubs) (all j)), punched-exact all js)

pub few_punched : (ino : ℕ) (stubs : Stubs) (segments : List ℕ) → IsFewPunched ino stubs segments
few_punched ino stubs segments has few = record { short = punched-short ino stubs has segments; bytes = omega (arith, punched-long ino stubs has segments, few) }

pub greatest_punched : (ino : ℕ) (stubs : Stubs) → IsGreatest ino stubs
greatest_punched ino stubs has all = omega (arith, punched-exact ino stubs has all (from_on 0 file_segments), length_blocks None 0 file_segments)

-- ---- blocks that an access touches

chosen : (b : Bool) (n : ℕ) (xs ys : List ℕ) → length xs ≤ n → length ys ≤ n → length (cond b xs ys) ≤ n
chosen true n xs ys first second = first
chosen false n xs ys first second = second

end-few : (size : ℕ) → length (old_end size) ≤ 1
end-few size = chosen (eqb (size % block_bytes) 0) 1 [] ((size / block_bytes) ∷ []) (omega arith) (omega arith)

met-few : (offset n : ℕ) → n ≤ access_bytes → length (met offset (offset + n)) ≤ 17
met-few offset n few = omega (arith, length_blocks None (offset / block_bytes) (blocks_in (offset + n) - offset / block_bytes), few)

pub touched_few : (change : Rewrite) (size : ℕ) → IsRewrite change → IsAccess change → length (touched (effect_of change) size) ≤ access_blocks
touched_few (Write offset bytes) size is access =
    let end : ℕ = offset + length bytes.now in
    let few = met-few offset (length bytes.now) access in
    chosen _ access_blocks (old_end size ++ met offset end) (met offset end) (omega (arith, length-append (old_end size) (met offset end), end-few size, few)) (omega (arith, few))
touched_few (Resize to) size is access = chosen _ access_blocks (old_end size) [] (omega (arith, end-few size)) (omega arith)
touched_few (Restore segment bytes) size is access = omega (arith, met-few (segment_bytes * segment) (length bytes.now) is.1)

-- ---- a change of a file's bytes

mappings-few : (blocks places : List ℕ) → length (mappings_of blocks places) ≤ length blocks
mappings-few [] places = omega arith
mappings-few (b ∷ bs) [] = omega arith
mappings-few (b ∷ bs) (p ∷ ps) = omega (arith, mappings-few bs ps)

run-long : (block : ℕ) (places : List ℕ) → length (mappings_from block places) ≡ length places
run-long block [] = refl
run-long block (p ∷ ps) = ap suc (run-long (block + 1) ps)

map-long : (ino block : ℕ) (places : List ℕ) → 1 ≤ length places → length (record_text (Map ino block places)) ≤ 18 * length places
unfolding record_text
map-long ino block places some = omega (arith, places_long places, some)

-- no more than 18 bytes for each place
maps-long : (ino : ℕ) (maps : List Record) → AllByRecursion (IsMapOn ino) maps → length (records_text maps) ≤ 18 * length (flat_map mappings_in maps)
maps-long ino [] each = omega arith
maps-long ino (Map i block places ∷ maps) each =
    omega (arith, texts-more (Map i block places) maps, map-long i block places each.0.1, length-append (mappings_from block places) (flat_map mappings_in maps), run-long block places, maps-long ino maps each.1)
maps-long ino (r ∷ maps) each = absurd each.0

maps-short : (ino : ℕ) (maps : List Record) → AllByRecursion (IsMapOn ino) maps → length (flat_map mappings_in maps) ≤ access_blocks → AllByRecursion IsShort maps
maps-short ino [] each few = tt
maps-short ino (Map i block places ∷ maps) each few =
    let all = length-append (mappings_from block places) (flat_map mappings_in maps) in
    let run = run-long block places in
    (omega (arith, all, run, few), maps-short ino maps each.1 (omega (arith, all, run, few)))
maps-short ino (r ∷ maps) each few = absurd each.0

module _ (ino : ℕ) (maps : List Record) where
  unsealed-long : (js : List ℕ) → length (records_text (map (unsealing ino) js ++ maps)) ≡ 14 * length js + length (records_text maps)
  unfolding record_text
  unsealed-long [] = omega arith
  unsealed-long (j ∷ js) = omega (arith, texts-more (unsealing ino j) (map (unsealing ino) js ++ maps), unsealed-long js)

  unsealed-short : (js : List ℕ) → AllByRecursion IsShort maps → AllByRecursion IsShort (map (unsealing ino) js ++ maps)
  unsealed-short [] short = short
  unsealed-short (j ∷ js) short = (tt, unsealed-short js short)

some-digest : (stub : StubOf) (there : Option StubOf) → HasDigest there → there ≡ Some stub → length (entry_print stub.entry).digest.0 ≡ 32
some-digest stub None has is = cc
some-digest stub (Some other) has is = subst HasDigest is has

head-long : (ino : ℕ) (change : Rewrite) (size : ℕ) (stubs : Stubs) (first : Record) → HaveDigests stubs → IsHead ino change size stubs first → (length (record_text first) ≤ 58) × IsShort first
unfolding record_text
head-long ino (Write offset bytes) size stubs first has head = rw head (omega arith, tt)
head-long ino (Resize to) size stubs first has head = rw head (omega arith, tt)
head-long ino (Restore segment bytes) size stubs first has head =
    rw head.2 (stub-long ino segment (Some (record head.0 { offline = false })) (some-digest head.0 (stub_at segment stubs) (has segment) head.1), tt)

pub few_rewritten : (ino : ℕ) (change : Rewrite) (size : ℕ) (stubs : Stubs) (places : List ℕ) (rs : List Record) → IsFewRewritten ino change size stubs places rs
few_rewritten ino change size stubs places rs may access has is =
    let ms : List Mapping = mappings_of (touched (effect_of change) size) places in
    let most : length (flat_map mappings_in is.maps) ≤ access_blocks = rw is.all (omega (arith, mappings-few (touched (effect_of change) size) places, touched_few change size may access)) in
    let first = head-long ino change size stubs is.first has is.head in
    rw is.are record {
      short = (first.1, unsealed-short ino is.maps is.segments (maps-short ino is.maps is.each most));
      bytes = omega (arith, texts-more is.first (map (unsealing ino) is.segments ++ is.maps), first.0, unsealed-long ino is.maps is.segments, is.few, maps-long ino is.maps is.each, most);
    }

-- ---- they fit

pub few_fit : (geometry : ℕ) (rs : List Record) → FitsEach geometry rs
unfolding layout_of
few_fit geometry rs few = record { short = few.short; room = grind (arith, few.bytes) }

-- ---- what isn't refused is small

first-none : {R : Type 0} (a : Option R) (rest : List (Option R)) → first_refusal (a ∷ rest) ≡ None → a ≡ None
first-none None rest is = refl
first-none (Some why) rest is = cc

pub small_regions : (geometry : ℕ) (regions : List Region) (stubs : Stubs) → first_refusal (regions_refusal (geometry_of geometry).limits regions ∷ uncovered regions stubs ∷ []) ≡ None → length regions ≤ file_regions
small_regions geometry regions stubs none =
    regions-few (geometry_of geometry).limits (limits_countable geometry) regions (first-none (regions_refusal (geometry_of geometry).limits regions) (uncovered regions stubs ∷ []) none)

pub small_value : (name : AttrName) (value : List ℕ) (others limit : ℕ) (attrs : Attributes) → setting_refusal name value others limit attrs ≡ None → length value ≤ value_bytes
small_value name value others limit attrs none = grind arith
