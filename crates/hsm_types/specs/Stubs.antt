-- Stub entries of a file by segment. A sealed segment has one beside its bytes, one that is offline has it in their place.
use Rattle.std.specs.Prelude.{◌≡◌, ℕ, ◌+◌, ◌-◌, ◌*◌, ◌<◌, ◌≤◌, List, [], ◌∷◌, length, map, filter, Bool, true, false, not, ◌==◌, ◌&&◌, ◌||◌, nat_eq}
use Rattle.std.specs.Prelude.{nat_lt, nat_le, if◌then◌else◌, Option, Some, None, is_some}
use Rattle.std.specs.BTreeMap.{insert_entry}
use Rattle.std.specs.List.{AllByRecursion, find}
use Rattle.std.specs.List.Sorted.{IsStrictlySortedBy}
use Rattle.std.specs.Map.{keys_of, lookup}
use Rattle.std.specs.Option.{option_map}
use Rattle.std.specs.Ordering.{nat_cmp}
use Rattle.sha2.specs.Sha256.{sha256}
use Rattle.hsm_types.specs.Limits.{segment_bytes, last_volume}
use Rattle.hsm_types.specs.Refusals.{first_refusal}
use Rattle.hsm_types.specs.Regions.{covers}
use Rattle.hsm_types.specs.Segments.{from_on, segment_len, meets_segment}
use Rattle.hsm_types.specs.declared.dm.DmRefusal.{DmRefusal}
use Rattle.hsm_types.specs.declared.dm.DmRefusal.TheVariants.{Offline, NotSealed, NotOffline, Uncovered, TooMany}
use Rattle.hsm_types.specs.declared.regions.Region.{Region}
use Rattle.hsm_types.specs.declared.stubs.Fingerprint.{Fingerprint}
use Rattle.hsm_types.specs.declared.stubs.Place.{Place}
use Rattle.hsm_types.specs.declared.stubs.StubEntry.{StubEntry}
use Rattle.hsm_types.specs.declared.stubs.Stub.{Stub}

abbrev pub Stubs : Type 0
Stubs = List (ℕ × Stub)

abbrev pub print_of : List ℕ → Fingerprint
print_of bytes = record { len = length bytes; digest = record { 0 = sha256 bytes } }

-- ---- an entry

-- that of a copy at the place, of bytes with the fingerprint
abbrev pub entry_at : Place → Fingerprint → StubEntry
entry_at place print = record { volume = place.volume; object = place.object; print = print }

-- where the copy lies
abbrev pub entry_place : StubEntry → Place
entry_place entry = record { volume = entry.volume; object = entry.object }

-- the fingerprint of the copied bytes
abbrev pub entry_print : StubEntry → Fingerprint
entry_print entry = entry.print

-- ---- one segment

abbrev pub stub_at : ℕ → Stubs → Option Stub
stub_at j stubs = lookup (nat_eq j) stubs

abbrev pub is_offline : Option Stub → Bool
is_offline None = false
is_offline (Some stub) = stub.offline

-- the bytes of the segment are away
abbrev pub offline_at : Stubs → ℕ → Bool
offline_at stubs j = is_offline (stub_at j stubs)

-- the segment has both its bytes and an entry
abbrev pub is_sealed : Option Stub → Bool
is_sealed None = false
is_sealed (Some stub) = not stub.offline

-- ---- what is left

-- the bytes are here or away: of segments from the first number up to the second
abbrev pub moved : Bool → ℕ → ℕ → Stubs → Stubs
moved offline from to stubs = map (λ (x : ℕ × Stub). if nat_le from x.0 && nat_lt x.0 to then (x.0, record x.1 { offline = offline }) else x) stubs

-- the segment has this entry, in the place of an older one
abbrev pub with_stub : ℕ → Stub → Stubs → Stubs
with_stub j stub stubs = insert_entry nat_cmp stubs j stub

-- it is sealed with that entry
abbrev pub sealed : ℕ → StubEntry → Stubs → Stubs
sealed j entry stubs = with_stub j (record { entry = entry; offline = false }) stubs

-- the segments from the first number up to the second are offline, by their entries
abbrev pub punched : ℕ → ℕ → Stubs → Stubs
punched from to stubs = moved true from to stubs

-- the segment is sealed, by its entry
abbrev pub restored : ℕ → Stubs → Stubs
restored j stubs = moved false j (j + 1) stubs

-- segments that the range meets have no entry
abbrev pub unsealed : ℕ → ℕ → Stubs → Stubs
unsealed from to stubs = filter (λ x. not (meets_segment from to x.0)) stubs

-- the segment has no entry
abbrev pub without_stub : ℕ → Stubs → Stubs
without_stub j stubs = filter (λ x. not (x.0 == j)) stubs

-- none from that segment on has one
abbrev pub stubs_below : ℕ → Stubs → Stubs
stubs_below n stubs = filter (λ x. nat_lt x.0 n) stubs

-- ---- what refuses a change of one segment

abbrev pub already_offline : ℕ → Option Stub → Option DmRefusal
already_offline j stub = if is_offline stub then Some (Offline j) else None

abbrev pub not_offline : ℕ → Option Stub → Option DmRefusal
not_offline j stub = if is_offline stub then None else Some (NotOffline j)

abbrev pub not_sealed : ℕ → Option Stub → Option DmRefusal
not_sealed j stub = if is_sealed stub then None else Some (NotSealed j)

-- an entry more would be one too many: `others` is how many all other files have
abbrev pub too_many_stubs : ℕ → ℕ → ℕ → Stubs → Option DmRefusal
too_many_stubs j others limit stubs = if is_some (stub_at j stubs) || nat_lt (others + length stubs) limit then None else Some (TooMany limit)

abbrev pub sealing_refusal : ℕ → ℕ → ℕ → Stubs → Option DmRefusal
sealing_refusal j others limit stubs = first_refusal (already_offline j (stub_at j stubs) ∷ too_many_stubs j others limit stubs ∷ [])

abbrev pub punching_refusal : ℕ → Stubs → Option DmRefusal
punching_refusal j stubs = first_refusal (already_offline j (stub_at j stubs) ∷ not_sealed j (stub_at j stubs) ∷ [])

abbrev pub restoring_refusal : ℕ → Stubs → Option DmRefusal
restoring_refusal j stubs = not_offline j (stub_at j stubs)

-- the lowest segment that is offline and that no such region covers
abbrev pub uncovered : List Region → Stubs → Option DmRefusal
uncovered regions stubs = option_map (λ (x : ℕ × Stub). Uncovered x.0) (find (λ (x : ℕ × Stub). x.1.offline && not (covers regions x.0)) stubs)

abbrev pub not_covered : ℕ → List Region → Option DmRefusal
not_covered j regions = if covers regions j then None else Some (Uncovered j)

-- only a segment that is sealed and covered can be punched
abbrev pub not_punched : List Region → Stubs → ℕ → Option DmRefusal
not_punched regions stubs j = first_refusal (already_offline j (stub_at j stubs) ∷ not_sealed j (stub_at j stubs) ∷ not_covered j regions ∷ [])

-- of the segments from the first number up to the second, the lowest that can't
abbrev pub any_unpunched : List Region → Stubs → ℕ → ℕ → Option DmRefusal
any_unpunched regions stubs from to = first_refusal (map (not_punched regions stubs) (from_on from (to - from)))

-- ---- what is always true

-- The entry fits a file of that size with these regions: it has the length of its segment, and where that is offline it is covered.
pub record FitsFile (size : ℕ) (regions : List Region) (x : ℕ × Stub) : Type 0 where
  pub start : segment_bytes * x.0 < size
  pub len : (entry_print x.1.entry).len ≡ segment_len size x.0
  pub volume : (entry_place x.1.entry).volume ≤ last_volume
  pub covered : x.1.offline ≡ true → covers regions x.0 ≡ true

-- at most one entry a segment, and each fits
pub record AreStubs (size : ℕ) (regions : List Region) (stubs : Stubs) : Type 0 where
  pub ascend : IsStrictlySortedBy nat_cmp (keys_of stubs)
  pub each : AllByRecursion (FitsFile size regions) stubs
