-- What is read is spelled so, and what is spelled so is read: for records.
use Rattle.std.proofs.Common.{◌≡◌, ℕ, ◌^◌, ◌<◌, ◌≤◌, ◌==◌, if◌then◌else◌, ◌++◌, [], ◌∷◌, List, length, Bool, true, false, Option, Some, None, refl, sym, ap}
use Rattle.std.proofs.Common.{◌∙◌, subst, arith, append_assoc, length-append}
use Rattle.std.proofs.lemmas.Option.{same_Some}
use Rattle.std.specs.Option.{IfSome}
use Rattle.std.specs.List.{AllByRecursion}
use Rattle.byteorder.specs.Endian.{big_bytes}
use Rattle.hsm_types.specs.Stubs.{entry_place, entry_print}
use Rattle.hsm_types.specs.declared.stubs.StubEntry.{StubEntry}
use Rattle.hsm_types.specs.declared.stubs.Stub.{Stub as StubOf}
use Rattle.journal_records.specs.declared.records.Record.{Record}
use Rattle.journal_records.specs.declared.records.Record.TheVariants.{Make, Drop, Size, Map, Regions, SetAttr, DropAttr, Stub}
use Rattle.journal_records.specs.Texts.{inode_of, tag_of, counted_bytes, sized_bytes, region_bytes, entry_bytes, state_of, stub_bytes, fields_text}
use Rattle.journal_records.specs.Texts.{record_text, records_text}
use Rattle.journal_records.specs.Texts.{RegionFits, EntryFits, StubFits, FieldsFit, RecordFits}
use Rattle.journal_records.specs.Reading.{◌>>=◌, number_at, bytes_at, both, made, several, counted, region_at, attr_name_at, print_at, entry_in, stub_for}
use Rattle.journal_records.specs.Reading.{stub_in}
use Rattle.journal_records.specs.Reading.{make_at, size_at, map_at, regions_at, set_attr_at, drop_attr_at, stub_at, fields_at, record_at}
use Rattle.journal_records.proofs.Readers.{IsBytes, Takes, IsReader, IsWide, refit, wide1, wide2, wide4, wide8, number_reads, bytes_read}
use Rattle.journal_records.proofs.Readers.{several_read, both_read, made_reads, counted_reads}

pub long_reads : IsReader (number_at 8) (big_bytes 8) (λ x. x < 2 ^ 64)
long_reads = number_reads wide8

pub int_reads : IsReader (number_at 4) (big_bytes 4) (λ x. x < 2 ^ 32)
int_reads = number_reads wide4

pub listed_read : {X : Type 0} {n : ℕ} {reader : List ℕ → Option (X × List ℕ)} {text : X → List ℕ} {Fit : X → Type 0} → IsWide n → IsReader reader text Fit
    → IsReader (counted n (several reader)) (counted_bytes n text) (λ xs. (length xs < 256 ^ n) × AllByRecursion Fit xs)
listed_read wide p = counted_reads (λ xs. length xs) wide (several_read p)

region_reads : IsReader region_at region_bytes RegionFits
unfolding region_at
region_reads =
    made_reads (both_read (both_read long_reads long_reads) (number_reads wide1)) (λ r. ((r.offset, r.size), r.flags)) (λ r. refl) (λ n. refl) (λ n fit. (fit.0.0, fit.0.1, fit.1)) (λ r fit. ((fit.0, fit.1), fit.2))

pub attr_name_reads : IsReader attr_name_at (λ a. a.0) (λ a. length a.0 ≡ 8)
unfolding attr_name_at
attr_name_reads = made_reads (bytes_read 8) (λ a. a.0) (λ a. refl) (λ bytes. refl) (λ bytes fit. fit.0) (λ a fit. (fit, tt))

print_reads : IsReader print_at (λ p. big_bytes 4 p.len ++ p.digest.0) (λ p. (p.len < 2 ^ 32) × (length p.digest.0 ≡ 32))
unfolding print_at
print_reads = made_reads (both_read int_reads (bytes_read 32)) (λ p. (p.len, p.digest.0)) (λ p. refl) (λ n. refl) (λ n fit. (fit.0, fit.1.0)) (λ p fit. (fit.0, (fit.1, tt)))

pub entry_reads : IsReader entry_in entry_bytes EntryFits
unfolding entry_in
entry_reads =
    made_reads (both_read (both_read int_reads int_reads) print_reads) (λ e. (((entry_place e).volume, (entry_place e).object), entry_print e)) (λ e. refl) (λ p. refl)
    (λ p fit. search) (λ e fit. search)

-- ---- the state of a segment and its entry

-- one reader, and then another by what the first read
then_is : {X Y : Type 0} (o : Option X) (f : X → Option Y) (x : X) → o ≡ Some x → (o >>= f) ≡ f x
then_is o f x is = ap (λ p. p >>= f) is

made_again : {A B : Type 0} {reader : List ℕ → Option (A × List ℕ)} {text : A → List ℕ} {Fit : A → Type 0} (p : IsReader reader text Fit) (make : A → B) (a : A) (rest : List ℕ) → Fit a → made make reader (text a ++ rest) ≡ Some (make a, rest)
unfolding made
made_again p make a rest fit = rw (p.again a rest fit) refl

state_again : (state : ℕ) (rest : List ℕ) → state < 256 → stub_in (big_bytes 1 state ++ rest) ≡ stub_for state rest
unfolding stub_in
state_again state rest small = then_is (number_at 1 (big_bytes 1 state ++ rest)) (λ s. stub_for s.0 s.1) (state, rest) ((number_reads wide1).again state rest small)

entry_again : (offline : Bool) (e : StubEntry) (rest : List ℕ) → EntryFits e → stub_for (state_of offline) (entry_bytes e ++ rest) ≡ Some (Some (record { entry = e; offline = offline }), rest)
unfolding stub_for
entry_again true e rest fit = made_again entry_reads (λ x. Some (record { entry = x; offline = true })) e rest fit
entry_again false e rest fit = made_again entry_reads (λ x. Some (record { entry = x; offline = false })) e rest fit

state_small : (offline : Bool) → state_of offline < 256
state_small true = omega arith
state_small false = omega arith

none_again : (rest : List ℕ) → stub_for 0 rest ≡ Some (None, rest)
unfolding stub_for
none_again rest = refl

stub_again : (x : Option StubOf) (rest : List ℕ) → StubFits x → stub_in (stub_bytes x ++ rest) ≡ Some (x, rest)
stub_again None rest fit = state_again 0 rest (omega arith) ∙ none_again rest
stub_again (Some stub) rest fit =
    ap stub_in (append_assoc (big_bytes 1 (state_of stub.offline)) (entry_bytes stub.entry) rest)
    ∙ state_again (state_of stub.offline) (entry_bytes stub.entry ++ rest) (state_small stub.offline) ∙ entry_again stub.offline stub.entry rest fit

stub_reads : IsReader stub_in stub_bytes StubFits
unfolding stub_in stub_for made
stub_reads = record { takes = λ bytes ok. grind (arith, append_assoc, (number_reads wide1).takes bytes ok, λ (b : List ℕ) (good : IsBytes b). entry_reads.takes b good); again = stub_again }

-- ---- records

-- the record about that inode with that tag, of what stands behind these, and the bytes after it
record TakesFields (tag ino : ℕ) (bytes : List ℕ) (x : Record × List ℕ) : Type 0 where
  tag_is : tag_of x.0 ≡ tag
  ino_is : inode_of x.0 ≡ ino
  parts : bytes ≡ fields_text x.0 ++ x.1
  fit : FieldsFit x.0
  rest : IsBytes x.1

-- a record made of what is read
record Makes {A : Type 0} (text : A → List ℕ) (Fit : A → Type 0) (make : A → Record) (tag ino : ℕ) : Type 0 where
  tag_is : (a : A) → tag_of (make a) ≡ tag
  ino_is : (a : A) → inode_of (make a) ≡ ino
  text_is : (a : A) → fields_text (make a) ≡ text a
  fits : (a : A) → Fit a → FieldsFit (make a)

made_takes : {A : Type 0} {reader : List ℕ → Option (A × List ℕ)} {text : A → List ℕ} {Fit : A → Type 0} (p : IsReader reader text Fit) (make : A → Record) (tag ino : ℕ) → Makes text Fit make tag ino
    → (bytes : List ℕ) → IsBytes bytes → IfSome (made make reader bytes) (TakesFields tag ino bytes)
unfolding made
made_takes p make tag ino m bytes ok = grind (arith, p.takes bytes ok, m.tag_is, m.ino_is, m.text_is, m.fits)

pub name_reads : IsReader (counted 1 bytes_at) (sized_bytes 1) (λ x. length x < 2 ^ 8)
name_reads = refit (counted_reads (λ bytes. length bytes) wide1 bytes_read) (λ x fit. fit.0) (λ x fit. (fit, tt))

pub value_reads : IsReader (counted 2 bytes_at) (sized_bytes 2) (λ x. length x < 2 ^ 16)
value_reads = refit (counted_reads (λ bytes. length bytes) wide2 bytes_read) (λ x fit. fit.0) (λ x fit. (fit, tt))

places_read : IsReader (counted 1 (several (number_at 4))) (counted_bytes 1 (big_bytes 4)) (λ xs. (length xs < 2 ^ 8) × AllByRecursion (λ p. p < 2 ^ 32) xs)
places_read = listed_read wide1 int_reads

pub regions_read : IsReader (counted 1 (several region_at)) (counted_bytes 1 region_bytes) (λ xs. (length xs < 2 ^ 8) × AllByRecursion RegionFits xs)
regions_read = listed_read wide1 region_reads

make_parts : IsReader (both (number_at 8) (counted 1 bytes_at)) (λ x. big_bytes 8 x.0 ++ sized_bytes 1 x.1) (λ x. (x.0 < 2 ^ 64) × (length x.1 < 2 ^ 8))
make_parts = both_read long_reads name_reads

map_parts : IsReader (both (number_at 4) (counted 1 (several (number_at 4)))) (λ x. big_bytes 4 x.0 ++ counted_bytes 1 (big_bytes 4) x.1) (λ x. (x.0 < 2 ^ 32) × ((length x.1 < 2 ^ 8) × AllByRecursion (λ p. p < 2 ^ 32) x.1))
map_parts = both_read int_reads places_read

set_attr_parts : IsReader (both attr_name_at (counted 2 bytes_at)) (λ x. x.0.0 ++ sized_bytes 2 x.1) (λ x. (length x.0.0 ≡ 8) × (length x.1 < 2 ^ 16))
set_attr_parts = both_read attr_name_reads value_reads

stub_parts : IsReader (both (number_at 4) stub_in) (λ x. big_bytes 4 x.0 ++ stub_bytes x.1) (λ x. (x.0 < 2 ^ 32) × StubFits x.1)
stub_parts = both_read int_reads stub_reads

-- ---- what is read behind a tag and an inode

make_takes : (ino : ℕ) (bytes : List ℕ) → IsBytes bytes → IfSome (make_at ino bytes) (TakesFields 1 ino bytes)
unfolding make_at
make_takes ino = made_takes make_parts (λ p. Make (record { ino = ino; igen = p.0 }) p.1) 1 ino (record { tag_is = λ a. refl; ino_is = λ a. refl; text_is = λ a. refl; fits = λ a fit. fit })

size_takes : (ino : ℕ) (bytes : List ℕ) → IsBytes bytes → IfSome (size_at ino bytes) (TakesFields 3 ino bytes)
unfolding size_at
size_takes ino = made_takes long_reads (λ size. Size ino size) 3 ino (record { tag_is = λ a. refl; ino_is = λ a. refl; text_is = λ a. refl; fits = λ a fit. fit })

map_takes : (ino : ℕ) (bytes : List ℕ) → IsBytes bytes → IfSome (map_at ino bytes) (TakesFields 4 ino bytes)
unfolding map_at
map_takes ino = made_takes map_parts (λ p. Map ino p.0 p.1) 4 ino (record { tag_is = λ a. refl; ino_is = λ a. refl; text_is = λ a. refl; fits = λ a fit. (fit.0, fit.1.0, fit.1.1) })

regions_takes : (ino : ℕ) (bytes : List ℕ) → IsBytes bytes → IfSome (regions_at ino bytes) (TakesFields 5 ino bytes)
unfolding regions_at
regions_takes ino = made_takes regions_read (λ rs. Regions ino rs) 5 ino (record { tag_is = λ a. refl; ino_is = λ a. refl; text_is = λ a. refl; fits = λ a fit. fit })

set_attr_takes : (ino : ℕ) (bytes : List ℕ) → IsBytes bytes → IfSome (set_attr_at ino bytes) (TakesFields 6 ino bytes)
unfolding set_attr_at
set_attr_takes ino = made_takes set_attr_parts (λ p. SetAttr ino p.0 p.1) 6 ino (record { tag_is = λ a. refl; ino_is = λ a. refl; text_is = λ a. refl; fits = λ a fit. fit })

drop_attr_takes : (ino : ℕ) (bytes : List ℕ) → IsBytes bytes → IfSome (drop_attr_at ino bytes) (TakesFields 7 ino bytes)
unfolding drop_attr_at
drop_attr_takes ino = made_takes attr_name_reads (λ name. DropAttr ino name) 7 ino (record { tag_is = λ a. refl; ino_is = λ a. refl; text_is = λ a. refl; fits = λ a fit. fit })

stub_takes : (ino : ℕ) (bytes : List ℕ) → IsBytes bytes → IfSome (stub_at ino bytes) (TakesFields 8 ino bytes)
unfolding stub_at
stub_takes ino = made_takes stub_parts (λ p. Stub ino p.0 p.1) 8 ino (record { tag_is = λ a. refl; ino_is = λ a. refl; text_is = λ a. refl; fits = λ a fit. fit })

drop_takes : (ino : ℕ) (bytes : List ℕ) → IsBytes bytes → TakesFields 2 ino bytes (Drop ino, bytes)
drop_takes ino bytes ok = record { tag_is = refl; ino_is = refl; parts = refl; fit = tt; rest = ok }

-- one of two, by the tag
chosen : {X : Type 0} (tag n : ℕ) (a b : Option X) (P : X → Type 0) → (tag ≡ n → IfSome a P) → IfSome b P → IfSome (if tag == n then a else b) P
chosen tag n a b P same other = grind (arith, same, other)

fields_take : (tag ino : ℕ) (bytes : List ℕ) → IsBytes bytes → IfSome (fields_at tag ino bytes) (TakesFields tag ino bytes)
unfolding fields_at
fields_take tag ino bytes ok =
    let P : Record × List ℕ → Type 0 = TakesFields tag ino bytes in
    chosen tag 1 (make_at ino bytes) _ P (λ e. as_tag 1 (make_at ino bytes) e (make_takes ino bytes ok)) (
    chosen tag 2 (Some (Drop ino, bytes)) _ P (λ e. as_tag 2 (Some (Drop ino, bytes)) e (drop_takes ino bytes ok)) (
    chosen tag 3 (size_at ino bytes) _ P (λ e. as_tag 3 (size_at ino bytes) e (size_takes ino bytes ok)) (
    chosen tag 4 (map_at ino bytes) _ P (λ e. as_tag 4 (map_at ino bytes) e (map_takes ino bytes ok)) (
    chosen tag 5 (regions_at ino bytes) _ P (λ e. as_tag 5 (regions_at ino bytes) e (regions_takes ino bytes ok)) (
    chosen tag 6 (set_attr_at ino bytes) _ P (λ e. as_tag 6 (set_attr_at ino bytes) e (set_attr_takes ino bytes ok)) (
    chosen tag 7 (drop_attr_at ino bytes) _ P (λ e. as_tag 7 (drop_attr_at ino bytes) e (drop_attr_takes ino bytes ok)) (
    chosen tag 8 (stub_at ino bytes) None P (λ e. as_tag 8 (stub_at ino bytes) e (stub_takes ino bytes ok)) tt)))))))
  where
    as_tag : (n : ℕ) (o : Option (Record × List ℕ)) → tag ≡ n → IfSome o (TakesFields n ino bytes) → IfSome o (TakesFields tag ino bytes)
    as_tag n o e h = subst (λ (t : ℕ). IfSome o (TakesFields t ino bytes)) (sym e) h

fields_again : (r : Record) (rest : List ℕ) → FieldsFit r → fields_at (tag_of r) (inode_of r) (fields_text r ++ rest) ≡ Some (r, rest)
unfolding fields_at make_at size_at map_at regions_at set_attr_at drop_attr_at stub_at
fields_again (Make key name) rest fit = made_again make_parts (λ p. Make (record { ino = key.ino; igen = p.0 }) p.1) (key.igen, name) rest fit
fields_again (Drop ino) rest fit = refl
fields_again (Size ino size) rest fit = made_again long_reads (λ n. Size ino n) size rest fit
fields_again (Map ino block places) rest fit = made_again map_parts (λ p. Map ino p.0 p.1) (block, places) rest (fit.0, (fit.1, fit.2))
fields_again (Regions ino regions) rest fit = made_again regions_read (λ rs. Regions ino rs) regions rest fit
fields_again (SetAttr ino name value) rest fit = made_again set_attr_parts (λ p. SetAttr ino p.0 p.1) (name, value) rest fit
fields_again (DropAttr ino name) rest fit = made_again attr_name_reads (λ n. DropAttr ino n) name rest fit
fields_again (Stub ino j stub) rest fit = made_again stub_parts (λ p. Stub ino p.0 p.1) (j, stub) rest fit

tag_small : (r : Record) → tag_of r < 256
tag_small (Make key name) = omega arith
tag_small (Drop ino) = omega arith
tag_small (Size ino size) = omega arith
tag_small (Map ino block places) = omega arith
tag_small (Regions ino regions) = omega arith
tag_small (SetAttr ino name value) = omega arith
tag_small (DropAttr ino name) = omega arith
tag_small (Stub ino j stub) = omega arith

-- one reader, and then another by what the first read
then_some : {X Y : Type 0} (o : Option X) (f : X → Option Y) (P : X → Type 0) (Q : Y → Type 0) → IfSome o P → ((x : X) → P x → IfSome (f x) Q) → IfSome (o >>= f) Q
then_some None f P Q h to = tt
then_some (Some x) f P Q h to = to x h

as_some : {X : Type 0} (o : Option X) (P Q : X → Type 0) → IfSome o P → ((x : X) → P x → Q x) → IfSome o Q
as_some None P Q h to = tt
as_some (Some x) P Q h to = to x h

joined : (bytes behind_tag behind_ino fields rest : List ℕ) (tag ino t i : ℕ) → bytes ≡ big_bytes 1 tag ++ behind_tag → behind_tag ≡ big_bytes 8 ino ++ behind_ino → behind_ino ≡ fields ++ rest → t ≡ tag → i ≡ ino → bytes ≡ (big_bytes 1 t ++ (big_bytes 8 i ++ fields)) ++ rest
joined bytes behind_tag behind_ino fields rest tag ino t i tag_there ino_there fields_there tag_is ino_is =
    tag_there ∙ ap (λ (l : List ℕ). big_bytes 1 tag ++ l) (ino_there ∙ ap (λ (l : List ℕ). big_bytes 8 ino ++ l) fields_there)
    ∙ sym (append_assoc (big_bytes 1 tag) (big_bytes 8 ino ++ fields) rest ∙ ap (λ (l : List ℕ). big_bytes 1 tag ++ l) (append_assoc (big_bytes 8 ino) fields rest))
    ∙ ap (λ (n : ℕ). (big_bytes 1 n ++ (big_bytes 8 ino ++ fields)) ++ rest) (sym tag_is) ∙ ap (λ (n : ℕ). (big_bytes 1 t ++ (big_bytes 8 n ++ fields)) ++ rest) (sym ino_is)

record_takes : (bytes : List ℕ) → IsBytes bytes → IfSome (record_at bytes) (Takes record_text RecordFits bytes)
unfolding record_at record_text
record_takes bytes ok =
    then_some (number_at 1 bytes) _ (Takes (big_bytes 1) (λ x. x < 256) bytes) (Takes record_text RecordFits bytes) ((number_reads wide1).takes bytes ok) (λ tag t.
    then_some (number_at 8 tag.1) _ (Takes (big_bytes 8) (λ x. x < 2 ^ 64) tag.1) (Takes record_text RecordFits bytes) (long_reads.takes tag.1 t.rest) (λ ino i.
    as_some (fields_at tag.0 ino.0 ino.1) (TakesFields tag.0 ino.0 ino.1) (Takes record_text RecordFits bytes) (fields_take tag.0 ino.0 ino.1 i.rest) (λ x f. record {
      parts = joined bytes tag.1 ino.1 (fields_text x.0) x.1 tag.0 ino.0 (tag_of x.0) (inode_of x.0) t.parts i.parts f.parts f.tag_is f.ino_is;
      fit = (omega (arith, i.fit, f.ino_is), f.fit);
      rest = f.rest;
    })))

parts_again : (r : Record) (rest : List ℕ) → RecordFits r → record_at ((big_bytes 1 (tag_of r) ++ (big_bytes 8 (inode_of r) ++ fields_text r)) ++ rest) ≡ Some (r, rest)
unfolding record_at
parts_again r rest fit =
    let behind_ino : List ℕ = fields_text r ++ rest in
    let behind_tag : List ℕ = big_bytes 8 (inode_of r) ++ behind_ino in
    ap record_at (append_assoc (big_bytes 1 (tag_of r)) (big_bytes 8 (inode_of r) ++ fields_text r) rest ∙ ap (λ (l : List ℕ). big_bytes 1 (tag_of r) ++ l) (append_assoc (big_bytes 8 (inode_of r)) (fields_text r) rest))
    ∙ then_is (number_at 1 (big_bytes 1 (tag_of r) ++ behind_tag)) (λ tag. number_at 8 tag.1 >>= (λ ino. fields_at tag.0 ino.0 ino.1)) (tag_of r, behind_tag) ((number_reads wide1).again (tag_of r) behind_tag (tag_small r))
    ∙ then_is (number_at 8 behind_tag) (λ ino. fields_at (tag_of r) ino.0 ino.1) (inode_of r, behind_ino) (long_reads.again (inode_of r) behind_ino fit.0)
    ∙ fields_again r rest fit.1

record_again : (r : Record) (rest : List ℕ) → RecordFits r → record_at (record_text r ++ rest) ≡ Some (r, rest)
unfolding record_text
record_again r rest fit = parts_again r rest fit

pub record_reads : IsReader record_at record_text RecordFits
record_reads = record { takes = record_takes; again = record_again }

-- ---- laws

pub one_record : (r s : Record) (a b : List ℕ) → RecordFits r → RecordFits s → record_text r ++ a ≡ record_text s ++ b → (r ≡ s) × (a ≡ b)
one_record r s a b fit fits same =
    let e : Some (r, a) ≡ Some (s, b) = sym (record_again r a fit) ∙ ap record_at same ∙ record_again s b fits in
    let pairs : (r, a) ≡ (s, b) = same_Some _ _ e in
    (ap (λ (x : Record × List ℕ). x.0) pairs, ap (λ (x : Record × List ℕ). x.1) pairs)

pub some_text : (r : Record) → 1 ≤ length (record_text r)
unfolding record_text
some_text r = omega arith

pub one_list : (rs ss : List Record) → AllByRecursion RecordFits rs → AllByRecursion RecordFits ss → records_text rs ≡ records_text ss → rs ≡ ss
one_list [] [] fit fits same = refl
one_list [] (s ∷ ss) fit fits same = absurd (omega (arith, ap (λ (l : List ℕ). length l) same, length-append (record_text s) (records_text ss), some_text s))
one_list (r ∷ rs) [] fit fits same = absurd (omega (arith, ap (λ (l : List ℕ). length l) same, length-append (record_text r) (records_text rs), some_text r))
one_list (r ∷ rs) (s ∷ ss) fit fits same =
    let first = one_record r s (records_text rs) (records_text ss) fit.0 fits.0 same in
    let others : rs ≡ ss = one_list rs ss fit.1 fits.1 first.1 in
    ap (λ (x : Record). x ∷ rs) first.0 ∙ ap (λ (xs : List Record). s ∷ xs) others
