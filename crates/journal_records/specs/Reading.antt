-- Reading the text of a record or a snapshot from left to right. A reader takes a value from the front of some bytes, and gives it with the bytes after it.
use Rattle.std.specs.Prelude.{◌≡◌, ℕ, zero, suc, List, [], ◌∷◌, length, take, drop, true, false, Option, Some, None, Result, Ok, Err, ◌==◌}
use Rattle.std.specs.Prelude.{nat_lt, if◌then◌else◌}
use Rattle.byteorder.specs.Endian.{big_number}
use Rattle.hsm_types.specs.Stubs.{entry_at}
use Rattle.hsm_types.specs.declared.regions.Region.{Region}
use Rattle.hsm_types.specs.declared.attributes.AttrName.{AttrName}
use Rattle.hsm_types.specs.declared.stubs.Fingerprint.{Fingerprint}
use Rattle.hsm_types.specs.declared.stubs.StubEntry.{StubEntry}
use Rattle.hsm_types.specs.declared.stubs.Stub.{Stub as StubOf}
use Rattle.journal_records.specs.declared.refusals.Unread.{Unread}
use Rattle.journal_records.specs.declared.refusals.Unread.TheVariants.{Memory, Bad}
use Rattle.journal_records.specs.declared.records.Record.{Record}
use Rattle.journal_records.specs.declared.records.Record.TheVariants.{Make, Drop, Size, Map, Regions, SetAttr, DropAttr, Stub}

infixl 10 ◌>>=◌
abbrev pub ◌>>=◌ : {A B : Type 0} → Option A → (A → Option B) → Option B
(Some x) >>= f = f x
None >>= f = None

-- ---- what a function returned, against what is there

-- only want of memory fails where there is something to read
abbrev pub Fails : {Y : Type 0} → Unread → Option Y → Type 0
Fails Memory read = Unit {0}
Fails Bad read = read ≡ None

-- the function returned what is read, as `view` sees it
abbrev pub Gives : {X Y : Type 0} → (X → Y) → Result X Unread → Option Y → Type 0
Gives view (Ok x) read = read ≡ Some (view x)
Gives view (Err e) read = Fails e read

-- ---- readers of any format

-- a number of n bytes
abbrev pub number_at : ℕ → List ℕ → Option (ℕ × List ℕ)
number_at n bytes = if nat_lt (length bytes) n then None else Some (big_number n bytes, drop n bytes)

-- so many bytes
abbrev pub bytes_at : ℕ → List ℕ → Option (List ℕ × List ℕ)
bytes_at n bytes = if nat_lt (length bytes) n then None else Some (take n bytes, drop n bytes)

-- one value, and then another
unfoldable pub both : {A B : Type 0} → (List ℕ → Option (A × List ℕ)) → (List ℕ → Option (B × List ℕ)) → List ℕ → Option ((A × B) × List ℕ)
both first second bytes = do
  a ← first bytes
  b ← second a.1
  Some ((a.0, b.0), b.1)

-- a value made of what is read
unfoldable pub made : {A B : Type 0} → (A → B) → (List ℕ → Option (A × List ℕ)) → List ℕ → Option (B × List ℕ)
made make reader bytes = do
  a ← reader bytes
  Some (make a.0, a.1)

-- n values
unfoldable pub several : {A : Type 0} → (List ℕ → Option (A × List ℕ)) → ℕ → List ℕ → Option (List A × List ℕ)
several reader zero bytes = Some ([], bytes)
several reader (suc n) bytes = do
  first ← reader bytes
  others ← several reader n first.1
  Some (first.0 ∷ others.0, others.1)

-- a number of n bytes, and as much as it says
unfoldable pub counted : {A : Type 0} → ℕ → (ℕ → List ℕ → Option (A × List ℕ)) → List ℕ → Option (A × List ℕ)
counted n reader bytes = do
  count ← number_at n bytes
  reader count.0 count.1

-- ---- fields

unfoldable pub region_at : List ℕ → Option (Region × List ℕ)
region_at = made (λ n. record { offset = n.0.0; size = n.0.1; flags = n.1 }) (both (both (number_at 8) (number_at 8)) (number_at 1))

unfoldable pub attr_name_at : List ℕ → Option (AttrName × List ℕ)
attr_name_at = made (λ bytes. record { 0 = bytes }) (bytes_at 8)

unfoldable pub print_at : List ℕ → Option (Fingerprint × List ℕ)
print_at = made (λ p. record { len = p.0; digest = record { 0 = p.1 } }) (both (number_at 4) (bytes_at 32))

unfoldable pub entry_in : List ℕ → Option (StubEntry × List ℕ)
entry_in = made (λ p. entry_at (record { volume = p.0.0; object = p.0.1 }) p.1) (both (both (number_at 4) (number_at 4)) print_at)

-- the entry of a segment in that state, if it has one there
unfoldable pub stub_for : ℕ → List ℕ → Option (Option StubOf × List ℕ)
stub_for state bytes =
    if state == 0 then Some (None, bytes) else
    if state == 1 then made (λ e. Some (record { entry = e; offline = false })) entry_in bytes else
    if state == 2 then made (λ e. Some (record { entry = e; offline = true })) entry_in bytes else None

unfoldable pub stub_in : List ℕ → Option (Option StubOf × List ℕ)
stub_in bytes = do
  state ← number_at 1 bytes
  stub_for state.0 state.1

-- ---- records, of what stands behind the tag and the inode

unfoldable pub make_at : ℕ → List ℕ → Option (Record × List ℕ)
make_at ino = made (λ p. Make (record { ino = ino; igen = p.0 }) p.1) (both (number_at 8) (counted 1 bytes_at))

unfoldable pub size_at : ℕ → List ℕ → Option (Record × List ℕ)
size_at ino = made (λ size. Size ino size) (number_at 8)

unfoldable pub map_at : ℕ → List ℕ → Option (Record × List ℕ)
map_at ino = made (λ p. Map ino p.0 p.1) (both (number_at 4) (counted 1 (several (number_at 4))))

unfoldable pub regions_at : ℕ → List ℕ → Option (Record × List ℕ)
regions_at ino = made (λ regions. Regions ino regions) (counted 1 (several region_at))

unfoldable pub set_attr_at : ℕ → List ℕ → Option (Record × List ℕ)
set_attr_at ino = made (λ p. SetAttr ino p.0 p.1) (both attr_name_at (counted 2 bytes_at))

unfoldable pub drop_attr_at : ℕ → List ℕ → Option (Record × List ℕ)
drop_attr_at ino = made (λ name. DropAttr ino name) attr_name_at

unfoldable pub stub_at : ℕ → List ℕ → Option (Record × List ℕ)
stub_at ino = made (λ p. Stub ino p.0 p.1) (both (number_at 4) stub_in)

-- the record of that tag about the file with that inode
unfoldable pub fields_at : ℕ → ℕ → List ℕ → Option (Record × List ℕ)
fields_at tag ino bytes =
    if tag == 1 then make_at ino bytes else
    if tag == 2 then Some (Drop ino, bytes) else
    if tag == 3 then size_at ino bytes else
    if tag == 4 then map_at ino bytes else
    if tag == 5 then regions_at ino bytes else
    if tag == 6 then set_attr_at ino bytes else
    if tag == 7 then drop_attr_at ino bytes else
    if tag == 8 then stub_at ino bytes else None

unfoldable pub record_at : List ℕ → Option (Record × List ℕ)
record_at bytes = do
  tag ← number_at 1 bytes
  ino ← number_at 8 tag.1
  fields_at tag.0 ino.0 ino.1
