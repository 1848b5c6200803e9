-- Where files stand, and what an edit at that place is.
use Rattle.std.proofs.Common.{◌≡◌, ◌+◌, ◌<◌, ◌≤◌, ℕ, zero, suc, List, [], ◌∷◌, length, get_or, set, true, false, Some, None, eqb, ltb, refl, ap, arith}
use Rattle.std.proofs.lemmas.Bool.{ltb-true, ltb-false, ne_eqb, eqb-false, lt-ltb, le-ltb, and_left}
use Rattle.std.specs.List.{insert, remove}
use Rattle.std.specs.List.Sorted.{IsPartitionPoint}
use Rattle.hsm_types.specs.declared.keys.FileKey.{FileKey}
use Rattle.hsm_types.specs.Keyed.{same_key, find_key, change_key, put_key, drop_key}
use Rattle.inode_table.specs.declared.entries.FileEntry.{FileEntry}
use Rattle.inode_table.specs.Listing.{listing, has_inode, Ascend}
use Rattle.inode_table.specs.Places.{Cuts, StandsAt}
use Rattle.inode_table.proofs.Choices.{neither}

pub cuts-point : (ino : ℕ) (es : List FileEntry) (i : ℕ) → IsPartitionPoint (λ (f : FileEntry). ltb f.key.ino ino ≡ true) (λ (f : FileEntry). ltb f.key.ino ino ≡ false) es i → i ≤ length es → Cuts ino i es
cuts-point ino [] zero h le = tt
cuts-point ino (f ∷ es) zero h le = h.1 0 f (omega arith) (omega arith)
cuts-point ino [] (suc i) h le = absurd (omega arith)
cuts-point ino (f ∷ es) (suc i) h le = (h.0 0 f (omega arith) (omega arith), cuts-point ino es i ((λ k d low high. h.0 (suc k) d (omega arith) (omega arith)), (λ k d low high. h.1 (suc k) d (omega arith) (omega arith))) (omega arith))

-- ---- a file that stands

pub stands-found : (k : FileKey) (i : ℕ) (d : FileEntry) (es : List FileEntry) → StandsAt k i es → find_key (λ f. f.key) k es ≡ Some (get_or es i d)
stands-found k i d [] s = absurd s
stands-found k zero d (f ∷ es) s = rw s refl
stands-found k (suc i) d (f ∷ es) s = let other = s.0 in rw other (stands-found k i d es s.1)

pub stands-dropped : (k : FileKey) (i : ℕ) (es : List FileEntry) → StandsAt k i es → remove es i ≡ drop_key (λ f. f.key) k es
stands-dropped k i [] s = absurd s
stands-dropped k zero (f ∷ es) s = rw s refl
stands-dropped k (suc i) (f ∷ es) s = let other = s.0 in rw other (ap (λ fs. f ∷ fs) (stands-dropped k i es s.1))

pub stands-changed : (k : FileKey) (i : ℕ) (d : FileEntry) (to : FileEntry → FileEntry) (es : List FileEntry) → StandsAt k i es → set es i (to (get_or es i d)) ≡ change_key (λ f. f.key) k to es
stands-changed k i d to [] s = absurd s
stands-changed k zero d to (f ∷ es) s = rw s refl
stands-changed k (suc i) d to (f ∷ es) s = let other = s.0 in rw other (ap (λ fs. f ∷ fs) (stands-changed k i d to es s.1))

-- ---- from the place of an inode

pub other_inode : (j k : FileKey) → (j.ino ≡ k.ino → ⊥) → same_key j k ≡ false
other_inode j k ne = and_left (eqb j.ino k.ino) (eqb j.igen k.igen) (ne_eqb j.ino k.ino ne)

pub cuts-stands : (k : FileKey) (i : ℕ) (d : FileEntry) (es : List FileEntry) → Cuts k.ino i es → i < length es → same_key (get_or es i d).key k ≡ true → StandsAt k i es
cuts-stands k i d [] c lt same = absurd (omega arith)
cuts-stands k zero d (f ∷ es) c lt same = same
cuts-stands k (suc i) d (f ∷ es) c lt same = let below = ltb-true f.key.ino k.ino c.0 in (other_inode f.key k (λ e. absurd (omega arith)), cuts-stands k i d es c.1 (omega arith) same)

absent-below : (n : ℕ) (k : FileKey) (es : List FileEntry) → Ascend n (listing es) → k.ino < n → find_key (λ f. f.key) k es ≡ None
absent-below n k [] a lt = refl
absent-below n k (f ∷ es) a lt =
    let low = a.0 in
    let other : same_key f.key k ≡ false = other_inode f.key k (λ e. absurd (omega arith)) in
    rw other (absent-below (f.key.ino + 1) k es a.1 (omega arith))

pub cuts-absent : (n : ℕ) (k : FileKey) (i : ℕ) (d : FileEntry) (es : List FileEntry) → Ascend n (listing es) → Cuts k.ino i es → (i < length es → same_key (get_or es i d).key k ≡ false) → find_key (λ f. f.key) k es ≡ None
cuts-absent n k zero d [] a c unlike = refl
cuts-absent n k zero d (f ∷ es) a c unlike =
    let from = ltb-false f.key.ino k.ino c in
    let other : same_key f.key k ≡ false = unlike (omega arith) in
    rw other (absent-below (f.key.ino + 1) k es a.1 (omega arith))
cuts-absent n k (suc i) d [] a c unlike = absurd c
cuts-absent n k (suc i) d (f ∷ es) a c unlike =
    let below = ltb-true f.key.ino k.ino c.0 in
    let other : same_key f.key k ≡ false = other_inode f.key k (λ e. absurd (omega arith)) in
    rw other (cuts-absent (f.key.ino + 1) k i d es a.1 c.1 (λ lt. unlike (omega arith)))

pub cuts-put : (e : FileEntry) (i : ℕ) (es : List FileEntry) → Cuts e.key.ino i es → has_inode e.key.ino (listing es) ≡ false → insert es i e ≡ put_key (λ f. f.key) e es
cuts-put e zero [] c free = refl
cuts-put e zero (f ∷ es) c free =
    let from = ltb-false f.key.ino e.key.ino c in
    let ne = eqb-false f.key.ino e.key.ino (neither (eqb f.key.ino e.key.ino) (has_inode e.key.ino (listing es)) free).0 in
    let before : ltb e.key.ino f.key.ino ≡ true = lt-ltb e.key.ino f.key.ino (omega arith) in
    rw before refl
cuts-put e (suc i) [] c free = absurd c
cuts-put e (suc i) (f ∷ es) c free =
    let below = ltb-true f.key.ino e.key.ino c.0 in
    let rest = neither (eqb f.key.ino e.key.ino) (has_inode e.key.ino (listing es)) free in
    let after : ltb e.key.ino f.key.ino ≡ false = le-ltb e.key.ino f.key.ino (omega arith) in
    rw after (ap (λ fs. f ∷ fs) (cuts-put e i es c.1 rest.1))
