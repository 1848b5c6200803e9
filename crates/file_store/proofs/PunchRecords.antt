-- The records of a punch: that they can come, that nothing refuses them, and the catalog after them.
use Rattle.std.proofs.Common.{◌≡◌, ℕ, zero, suc, ◌+◌, ◌*◌, ◌<◌, ◌≤◌, List, true, false, Option, Some, None, refl, sym, ◌∙◌, ap, arith}
use Rattle.std.specs.List.{AllByRecursion}
use Rattle.std.specs.List.Sorted.{IsStrictlySortedBy}
use Rattle.std.specs.Map.{keys_of}
use Rattle.std.specs.Ordering.{nat_cmp}
use Rattle.hsm_types.specs.Limits.{segment_bytes, last_volume}
use Rattle.hsm_types.specs.Regions.{covers}
use Rattle.hsm_types.specs.Segments.{from_on, segment_len}
use Rattle.hsm_types.specs.Stubs.{Stubs, stub_at, punched, entry_place, entry_print}
use Rattle.hsm_types.specs.declared.keys.FileKey.{FileKey}
use Rattle.hsm_types.specs.declared.stubs.Stub.{Stub as StubOf}
use Rattle.hsm_types.specs.declared.stubs.StubEntry.{StubEntry}
use Rattle.hsm_types.proofs.Stubbing.{stub_at-punched}
use Rattle.hsm_types.specs.Keyed.{find_key}
use Rattle.snapshot_text.specs.Files.{CatalogFile, HasLengths}
use Rattle.meta_store.specs.Catalogs.{Catalog, AreLengths}
use Rattle.snapshot_text.specs.FileRecords.{file_after, IsSure}
use Rattle.meta_store.specs.Records.{with_changed, key_on, after, after_all, refusal_of_all, refusal_of, CanStandAll, CanStand, IsEvent}
use Rattle.journal_records.specs.declared.records.Record.{Record}
use Rattle.journal_records.specs.declared.records.Record.TheVariants.{Stub}
use Rattle.snapshot_text.proofs.ClearedPlaces.{without-cleared, cleared-nothing}
use Rattle.meta_store.proofs.FileEdits.{each-changed}
use Rattle.snapshot_text.proofs.StubLists.{punched-with}
use Rattle.file_store.specs.Punches.{away_by, punch_records}
use Rattle.file_store.proofs.FilesBy.{changed-none, changed-found, changed-twice}
use Rattle.file_store.proofs.RewriteRecords.{find-changed, key_on-changed}
use Rattle.file_store.proofs.PunchedFiles.{cleared-on, keys-moved, moved-nothing, moved-on, each-moved, without_segments}

-- ---- one segment after the other

abbrev pub sealed_by : StubEntry → StubOf
sealed_by entry = record { entry = entry; offline = false }

abbrev gone_by : StubEntry → StubOf
gone_by entry = record { entry = entry; offline = true }

-- the segment of the file is sealed and covered
pub record CanGo (f : CatalogFile) (stubs : Stubs) (j : ℕ) : Type 0 where
  pub entry : StubEntry
  pub is : stub_at j stubs ≡ Some (sealed_by entry)
  pub start : segment_bytes * j < f.size
  pub volume : (entry_place entry).volume ≤ last_volume
  pub covered : covers f.kept.regions j ≡ true

-- n segments from the first number on go away
pub record AreGoing (ino : ℕ) (k : FileKey) (stubs : Stubs) (from n : ℕ) (c : Catalog) : Type 0 where
  pub become : after_all (punch_records ino stubs (from_on from n)) c ≡ with_changed k (without_segments from n) c
  pub stand : CanStandAll (punch_records ino stubs (from_on from n)) c
  pub passed : refusal_of_all (punch_records ino stubs (from_on from n)) c ≡ None

one_gone : (ino j : ℕ) (entry : StubEntry) (f : CatalogFile) → IsStrictlySortedBy nat_cmp (keys_of f.kept.stubs) → stub_at j f.kept.stubs ≡ Some (sealed_by entry) → file_after (Stub ino j (Some (gone_by entry))) f ≡ without_segments j 1 f
one_gone ino j entry f sorted is = grind (arith, without-cleared, punched-with)

more_gone : (from n : ℕ) (f : CatalogFile) → without_segments (from + 1) n (without_segments from 1 f) ≡ without_segments from (suc n) f
more_gone from n f = grind (arith, cleared-on, moved-on)

none_gone : (from : ℕ) (f : CatalogFile) → without_segments from 0 f ≡ f
none_gone from f = grind (arith, cleared-nothing, moved-nothing)

later_same : (from : ℕ) (stubs : Stubs) (j : ℕ) → from + 1 ≤ j → stub_at j (punched from (from + 1) stubs) ≡ stub_at j stubs
later_same from stubs j later = grind (arith, stub_at-punched)

pub going : (ino : ℕ) (k : FileKey) (stubs : Stubs) (from n : ℕ) (c : Catalog) (f : CatalogFile) → key_on ino c ≡ k → find_key (λ x. x.key) k c.files ≡ Some f → IsStrictlySortedBy nat_cmp (keys_of f.kept.stubs)
    → ((j : ℕ) → from ≤ j → stub_at j f.kept.stubs ≡ stub_at j stubs) → ((j : ℕ) → from ≤ j → j < from + n → CanGo f stubs j) → AreGoing ino k stubs from n c
going ino k stubs from zero c f on found sorted same can =
    record { become = sym (changed-found k (without_segments from 0) (λ x. x) f c found (none_gone from f) ∙ changed-none k c); stand = tt; passed = refl }
going ino k stubs from (suc n) c f on found sorted same can =
    let it = can from (omega arith) (omega arith) in
    let r : Record = Stub ino from (Some (gone_by it.entry)) in
    let rest : List Record = punch_records ino stubs (from_on (from + 1) n) in
    let here : stub_at from f.kept.stubs ≡ Some (sealed_by it.entry) = same from (omega arith) ∙ it.is in
    let one = one_gone ino from it.entry f sorted here in
    let next : Catalog = with_changed k (file_after r) c in
    let step : after r c ≡ next = grind arith in
    let entries : (file_after r f).kept.stubs ≡ punched from (from + 1) f.kept.stubs = ap (λ (g : CatalogFile). g.kept.stubs) one in
    let later : AreGoing ino k stubs (from + 1) n next =
    going ino k stubs (from + 1) n next (file_after r f) (key_on-changed ino k (file_after r) c (λ x. (refl, refl)) ∙ on) (find-changed k (file_after r) f c.files (λ x. refl) found) (rw (entries, keys-moved true from (from + 1) f.kept.stubs) sorted)
    (λ j above. ap (stub_at j) entries ∙ later_same from f.kept.stubs j above ∙ same j (omega arith))
    (λ j above below. let go = can j (omega arith) (omega arith) in record { entry = go.entry; is = go.is; start = go.start; volume = go.volume; covered = go.covered }) in
    let first : Stub ino from (away_by (stub_at from stubs)) ≡ r = grind (arith, Option) in
    let twice : with_changed k (without_segments (from + 1) n) next ≡ with_changed k (without_segments from (suc n)) c =
    changed-twice k (file_after r) (without_segments (from + 1) n) (λ x. without_segments (from + 1) n (file_after r x)) c (λ x. refl) (λ x. refl)
    ∙ changed-found k (λ x. without_segments (from + 1) n (file_after r x)) (without_segments from (suc n)) f c found (ap (without_segments (from + 1) n) one ∙ more_gone from n f) in
    let can_stand : CanStand r c = grind arith in
    let not_refused : refusal_of r c ≡ None = rw (on, found, here) refl in
    record {
      become = grind arith;
      stand = grind arith;
      passed = grind arith;
    }

-- ---- they are an event

each_sure : (ino : ℕ) (f : CatalogFile) (stubs : Stubs) (from n : ℕ) → ((j : ℕ) → from ≤ j → j < from + n → CanGo f stubs j) → AllByRecursion IsSure (punch_records ino stubs (from_on from n))
each_sure ino f stubs from zero can = tt
each_sure ino f stubs from (suc n) can = grind (arith, each_sure ino f stubs (from + 1) n (λ j above below. can j (omega arith) (omega arith)))

pub are_event : (ino : ℕ) (f : CatalogFile) (stubs : Stubs) (from n : ℕ) → ((j : ℕ) → from ≤ j → j < from + n → CanGo f stubs j) → IsEvent (punch_records ino stubs (from_on from n))
are_event ino f stubs from zero can = tt
are_event ino f stubs from (suc n) can = (each_sure ino f stubs from (suc n) can).1

-- ---- entries keep their lengths

pub lengths_gone : (k : FileKey) (from n : ℕ) (c : Catalog) → AreLengths c → AreLengths (with_changed k (without_segments from n) c)
lengths_gone k from n c are = each-changed HasLengths k (without_segments from n) c.files (λ f found has. each-moved (λ j (entry : StubEntry). (entry_print entry).len ≡ segment_len f.size j) true from (from + n) f.kept.stubs has) are
