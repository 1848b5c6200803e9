-- What is read is spelled so, and what is spelled so is read: for the parts of a snapshot.
use Rattle.std.proofs.Common.{◌≡◌, ℕ, ◌^◌, ◌<◌, ◌++◌, List, length, Option, Some, Err, refl, sym, ap, ◌∙◌, arith}
use Rattle.std.specs.Prelude.{IsErrOf}
use Rattle.std.specs.List.{AllByRecursion}
use Rattle.std.proofs.lemmas.Option.{same_Some}
use Rattle.byteorder.specs.Endian.{big_bytes}
use Rattle.snapshot_text.specs.declared.snapshot.RawSnapshot.{RawSnapshot}
use Rattle.snapshot_text.specs.declared.snapshot.ReadRefusal.TheVariants.{Corrupt}
use Rattle.journal_records.specs.declared.refusals.Unread.{Unread}
use Rattle.journal_records.specs.declared.refusals.Unread.TheVariants.{Memory, Bad}
use Rattle.journal_records.specs.Texts.{state_of}
use Rattle.journal_records.specs.Reading.{Fails}
use Rattle.journal_records.proofs.Readers.{IsBytes, IsReader, IsWide, wide1, wide4, number_reads, both_read, made_reads}
use Rattle.journal_records.proofs.RecordReaders.{long_reads, int_reads, listed_read, name_reads, attr_name_reads, value_reads, regions_read, entry_reads}
use Rattle.snapshot_text.specs.Files.{NumbersFit}
use Rattle.snapshot_text.specs.Snapshots.{Snapshot, key_bytes, attribute_bytes, extent_bytes, stub_bytes}
use Rattle.snapshot_text.specs.Snapshots.{bytes_of_file, spelling, AttributeFits, ExtentFits, FileFits, Fits, IsSpelled}
use Rattle.snapshot_text.specs.Reading.{unread_as, only_at, key_at, attribute_at, extent_at, state_at, stub_in, file_at, snapshot_at}

only_reads : {n wanted : ℕ} → IsWide n → wanted < 256 ^ n → IsReader (only_at n wanted) (λ _. big_bytes n wanted) (λ _. Unit {0})
unfolding only_at
only_reads {n} {wanted} wide small = record {
  takes = λ bytes ok. grind (arith, (number_reads wide).takes bytes ok);
  again = λ x rest fit. grind (arith, (number_reads wide).again wanted rest small);
}

key_reads : IsReader key_at key_bytes (λ k. (k.ino < 2 ^ 64) × (k.igen < 2 ^ 64))
unfolding key_at
key_reads = made_reads (both_read long_reads long_reads) (λ k. (k.ino, k.igen)) (λ k. refl) (λ n. refl) (λ n fit. fit) (λ k fit. fit)

attribute_reads : IsReader attribute_at attribute_bytes AttributeFits
unfolding attribute_at
attribute_reads = both_read attr_name_reads value_reads

extent_reads : IsReader extent_at extent_bytes ExtentFits
unfolding extent_at
extent_reads = made_reads (both_read int_reads int_reads) (λ e. (e.block, e.place)) (λ e. refl) (λ n. refl) (λ n fit. fit) (λ e fit. fit)

state_reads : IsReader state_at (λ offline. big_bytes 1 (state_of offline)) (λ _. Unit {0})
unfolding state_at
state_reads = record {
  takes = λ bytes ok. grind (arith, (number_reads wide1).takes bytes ok);
  again = λ offline rest fit. grind (arith, (number_reads wide1).again (state_of offline) rest);
}

stub_reads : IsReader stub_in stub_bytes NumbersFit
unfolding stub_in
stub_reads = made_reads (both_read (both_read int_reads state_reads) entry_reads) (λ x. ((x.0, x.1.offline), x.1.entry)) (λ x. refl) (λ p. refl) (λ p fit. search) (λ x fit. search)

file_reads : IsReader file_at bytes_of_file FileFits
unfolding file_at bytes_of_file
file_reads =
    let named = both_read (both_read key_reads long_reads) name_reads in
    let kept = both_read (both_read named regions_read) (listed_read wide4 attribute_reads) in
    made_reads (both_read (both_read kept (listed_read wide4 extent_reads)) (listed_read wide4 stub_reads))
    (λ f. ((((((f.key, f.size), f.name), f.kept.regions), f.kept.attributes), f.extents), f.kept.stubs)) (λ f. refl) (λ p. refl) (λ p fit. search) (λ f fit. search)

snapshot_reads : IsReader snapshot_at spelling Fits
unfolding snapshot_at spelling
snapshot_reads =
    made_reads (both_read (both_read (both_read long_reads long_reads) (only_reads wide4 (omega arith))) (listed_read wide4 file_reads))
    (λ s. (((s.number, s.next), tt), s.files)) (λ s. refl) (λ p. refl) (λ p fit. search) (λ s fit. search)

pub is_read : (area : List ℕ) (x : Snapshot × List ℕ) → IsBytes area → snapshot_at area ≡ Some x → IsSpelled area x.0
is_read area x ok e = let t = rw e at (snapshot_reads.takes area ok) in record { fits = t.fit; rest = x.1; spelled = t.parts }

again : (area : List ℕ) (s : Snapshot) (is : IsSpelled area s) → snapshot_at area ≡ Some (s, is.rest)
again area s is = ap snapshot_at is.spelled ∙ snapshot_reads.again s is.rest is.fits

-- an area spells one snapshot at most
pub one : (area : List ℕ) (a b : Snapshot) → IsSpelled area a → IsSpelled area b → a ≡ b
one area a b p q = ap (λ (x : Snapshot × List ℕ). x.0) (same_Some _ _ (sym (again area a p) ∙ again area b q))

-- where the area was refused, it spells none
pub is_refused : (area : List ℕ) (e : Unread) → Fails e (snapshot_at area) → IsErrOf {T = RawSnapshot} (Err (unread_as e)) Corrupt → (s : Snapshot) → IsSpelled area s → ⊥
is_refused area Memory failed is s spelled = absurd cc
is_refused area Bad failed is s spelled = cc (again area s spelled, failed)
