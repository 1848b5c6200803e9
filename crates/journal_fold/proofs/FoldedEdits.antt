-- Files by inode after one more, one less and one changed.
use Rattle.std.proofs.Common.{◌≡◌, ℕ, ◌+◌, ◌<◌, Bool, true, false, cond, List, [], ◌∷◌, Some, None, refl, sym, ◌∙◌, ap, arith}
use Rattle.std.specs.Prelude.{◌==◌, nat_lt, is_some}
use Rattle.std.specs.BTreeMap.{insert_entry, is_at}
use Rattle.std.specs.Map.{lookup, remove_entry, values_of}
use Rattle.std.specs.Ordering.{nat_cmp, match_ordering}
use Rattle.std.specs.declared.cmp.Ordering.{Ordering}
use Rattle.std.specs.declared.cmp.Ordering.TheVariants.{Greater}
use Rattle.std.proofs.lemmas.Bool.Decides.{nat_tests}
use Rattle.hsm_types.specs.declared.keys.FileKey.{FileKey}
use Rattle.hsm_types.specs.Keyed.{same_key, find_key, change_key, put_key, drop_key}
use Rattle.inode_table.specs.Listing.{has_inode, Ascend}
use Rattle.snapshot_text.specs.Snapshots.{SnapshotFile}
use Rattle.meta_store.specs.Validity.{names_in}
use Rattle.meta_store.specs.Batches.{key_in}
use Rattle.meta_store.proofs.BatchedRecords.{ino_on}
use Rattle.journal_fold.specs.FoldedStores.{AreKeyed}

abbrev Entries : Type 0
Entries = List (ℕ × SnapshotFile)

abbrev at : ℕ → ℕ → Bool
at ino = is_at (nat_cmp ino)

either : {P : Type 0} (b : Bool) → (b ≡ true → P) → (b ≡ false → P) → P
either true this other = this refl
either false this other = other refl

-- ---- whether a file has an inode

pub in_map : (ino : ℕ) (es : Entries) → AreKeyed es → is_some (lookup (at ino) es) ≡ has_inode ino (names_in (values_of es))
in_map ino [] keyed = refl
in_map ino (e ∷ es) keyed = grind (arith, nat_tests, keyed.0, in_map ino es keyed.1)

-- ---- one more

pub put_files : (k : ℕ) (f : SnapshotFile) (es : Entries) → AreKeyed es → f.key.ino ≡ k → has_inode k (names_in (values_of es)) ≡ false → values_of (insert_entry nat_cmp es k f) ≡ put_key (λ g. g.key) f (values_of es)
put_files k f [] keyed is free = refl
put_files k f (e ∷ es) keyed is free = grind (arith, nat_tests, keyed.0, put_files k f es keyed.1 is)

pub put_keyed : (k : ℕ) (f : SnapshotFile) (es : Entries) → AreKeyed es → f.key.ino ≡ k → AreKeyed (insert_entry nat_cmp es k f)
put_keyed k f [] keyed is = (is, tt)
put_keyed k f (e ∷ es) keyed is = grind (arith, nat_tests, keyed.0, keyed.1, put_keyed k f es keyed.1 is)

-- ---- one less

pub drop_keyed : (ino : ℕ) (es : Entries) → AreKeyed es → AreKeyed (remove_entry (at ino) es)
drop_keyed ino [] keyed = tt
drop_keyed ino (e ∷ es) keyed = grind (arith, nat_tests, keyed.0, keyed.1, drop_keyed ino es keyed.1)

-- what is known of the inode of the first entry
same_inode : (ino : ℕ) (e : ℕ × SnapshotFile) → e.1.key.ino ≡ e.0 → at ino e.0 ≡ (e.1.key.ino == ino)
same_inode ino e is = grind (arith, nat_tests)

itself : (k : FileKey) → same_key k k ≡ true
itself k = grind (arith, nat_tests)

other_inode : (j k : FileKey) → (j.ino == k.ino) ≡ false → same_key j k ≡ false
other_inode j k differs = grind (arith, nat_tests)

-- the key of what has an inode has it
key_inode : (ino : ℕ) (fs : List SnapshotFile) → (key_in ino fs).ino ≡ ino
key_inode ino fs = ino_on ino (names_in fs)

pub drop_files : (ino : ℕ) (es : Entries) → AreKeyed es → values_of (remove_entry (at ino) es) ≡ drop_key (λ g. g.key) (key_in ino (values_of es)) (values_of es)
drop_files ino [] keyed = refl
drop_files ino (e ∷ es) keyed =
    let rest = drop_files ino es keyed.1 in
    either (e.1.key.ino == ino)
    (λ here. grind (arith, same_inode ino e keyed.0, itself e.1.key))
    (λ other. let apart : same_key e.1.key (key_in ino (values_of es)) ≡ false = other_inode e.1.key (key_in ino (values_of es)) (rw (key_inode ino (values_of es)) other) in grind (arith, same_inode ino e keyed.0))

-- the file under an inode is the one that has its key
pub found : (ino : ℕ) (f : SnapshotFile) (es : Entries) → AreKeyed es → lookup (at ino) es ≡ Some f → (key_in ino (values_of es) ≡ f.key) × (find_key (λ g. g.key) f.key (values_of es) ≡ Some f)
found ino f [] keyed is = absurd cc
found ino f (e ∷ es) keyed is =
    either (e.1.key.ino == ino)
    (λ here. let it : e.1 ≡ f = grind (arith, same_inode ino e keyed.0) in (grind (arith, it), grind (arith, it, itself e.1.key)))
    (λ other.
    let rest = found ino f es keyed.1 (grind (arith, same_inode ino e keyed.0)) in
    let low : f.key.ino ≡ ino = ap (λ (k : FileKey). k.ino) (sym rest.0) ∙ key_inode ino (values_of es) in
    let apart : same_key e.1.key f.key ≡ false = other_inode e.1.key f.key (rw low other) in
    (grind (arith, rest.0), grind (arith, rest.1)))

pub key_found : (ino : ℕ) (f : SnapshotFile) (es : Entries) → AreKeyed es → lookup (at ino) es ≡ Some f → f.key.ino ≡ ino
key_found ino f es keyed is = ap (λ (k : FileKey). k.ino) (sym (found ino f es keyed is).0) ∙ key_inode ino (values_of es)

-- ---- one changed

-- all inodes behind the first are above it
above : (low ino : ℕ) (es : Entries) → AreKeyed es → Ascend low (names_in (values_of es)) → ino < low → lookup (at ino) es ≡ None
above low ino [] keyed up lt = refl
above low ino (e ∷ es) keyed up lt =
    let rest = above (e.1.key.ino + 1) ino es keyed.1 up.1 (omega (arith, up.0, lt)) in
    grind (arith, nat_tests, keyed.0, up.0)

-- it goes back to its place
put_first : (low ino : ℕ) (g : SnapshotFile) (es : Entries) → AreKeyed es → Ascend low (names_in (values_of es)) → ino < low → insert_entry nat_cmp es ino g ≡ (ino, g) ∷ es
put_first low ino g [] keyed up lt = refl
put_first low ino g (e ∷ es) keyed up lt = grind (arith, nat_tests, keyed.0, up.0)

later_some : (ino : ℕ) (f : SnapshotFile) (es : Entries) → lookup (at ino) es ≡ Some f → lookup (at ino) es ≡ None → ⊥
later_some ino f es some none = cc

-- what is found behind an entry is above it
behind : (ino : ℕ) (e : ℕ × SnapshotFile) (es : Entries) → e.1.key.ino ≡ e.0 → AreKeyed es → Ascend (e.1.key.ino + 1) (names_in (values_of es)) → (e.1.key.ino == ino) ≡ false → (lookup (at ino) es ≡ None → ⊥) → nat_cmp ino e.0 ≡ Greater
behind ino e es is keyed up other some =
    either (nat_lt ino e.1.key.ino)
    (λ low. absurd (some (above (e.1.key.ino + 1) ino es keyed up (grind (arith, nat_tests)))))
    (λ high. grind (arith, nat_tests))

goes_on : (ino : ℕ) (e : ℕ × SnapshotFile) (es : Entries) (g : SnapshotFile) → at ino e.0 ≡ false → nat_cmp ino e.0 ≡ Greater → values_of (insert_entry nat_cmp (remove_entry (at ino) (e ∷ es)) ino g) ≡ e.1 ∷ values_of (insert_entry nat_cmp (remove_entry (at ino) es) ino g)
goes_on ino e es g away beyond = ap (λ (b : Bool). values_of (insert_entry nat_cmp (cond b es (e ∷ remove_entry (at ino) es)) ino g)) away ∙ ap (λ (o : Ordering). values_of (match_ordering o ((ino, g) ∷ e ∷ remove_entry (at ino) es) ((e.0, g) ∷ remove_entry (at ino) es) (e ∷ insert_entry nat_cmp (remove_entry (at ino) es) ino g))) beyond

goes_behind : (ino : ℕ) (e : ℕ × SnapshotFile) (es : Entries) (to : SnapshotFile → SnapshotFile) → (e.1.key.ino == ino) ≡ false → same_key e.1.key (key_in ino (values_of es)) ≡ false
    → change_key (λ g. g.key) (key_in ino (values_of (e ∷ es))) to (values_of (e ∷ es)) ≡ e.1 ∷ change_key (λ g. g.key) (key_in ino (values_of es)) to (values_of es)
goes_behind ino e es to other apart = grind (arith, apart)

pub change_files : (low ino : ℕ) (f : SnapshotFile) (to : SnapshotFile → SnapshotFile) (es : Entries) → AreKeyed es → Ascend low (names_in (values_of es)) → lookup (at ino) es ≡ Some f
    → values_of (insert_entry nat_cmp (remove_entry (at ino) es) ino (to f)) ≡ change_key (λ g. g.key) (key_in ino (values_of es)) to (values_of es)
change_files low ino f to [] keyed up is = absurd cc
change_files low ino f to (e ∷ es) keyed up is =
    either (e.1.key.ino == ino)
    (λ here.
    let it : e.1 ≡ f = grind (arith, same_inode ino e keyed.0) in
    let there : ino < e.1.key.ino + 1 = grind (arith, nat_tests) in
    let back = put_first (e.1.key.ino + 1) ino (to f) es keyed.1 up.1 there in
    grind (arith, same_inode ino e keyed.0, itself e.1.key, back, it))
    (λ other.
    let later : lookup (at ino) es ≡ Some f = grind (arith, same_inode ino e keyed.0) in
    let rest = change_files (e.1.key.ino + 1) ino f to es keyed.1 up.1 later in
    let apart : same_key e.1.key (key_in ino (values_of es)) ≡ false = other_inode e.1.key (key_in ino (values_of es)) (rw (key_inode ino (values_of es)) other) in
    let away : at ino e.0 ≡ false = same_inode ino e keyed.0 ∙ other in
    let beyond : nat_cmp ino e.0 ≡ Greater = behind ino e es keyed.0 keyed.1 up.1 other (later_some ino f es later) in
    goes_on ino e es (to f) away beyond
    ∙ ap (λ (l : List SnapshotFile). e.1 ∷ l) rest
    ∙ sym (goes_behind ino e es to other apart))
