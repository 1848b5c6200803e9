-- Files in the order of their inodes.
use Rattle.std.proofs.Common.{◌≡◌, ◌+◌, ◌-◌, ◌<◌, ◌≤◌, ℕ, zero, suc, List, [], ◌∷◌, length, get_or, false, eqb, ltb, refl, subst, arith}
use Rattle.std.proofs.lemmas.Bool.{cond_both, eqb-true, eqb-false, ltb-true, ltb-false, ne_eqb, lt-ltb}
use Rattle.std.specs.List.Sorted.{IsPartitionedBy}
use Rattle.hsm_types.specs.declared.keys.FileKey.{FileKey}
use Rattle.hsm_types.specs.Keyed.{same_key, put_key, drop_key}
use Rattle.hsm_types.specs.Listing.{Listed, free_inode}
use Rattle.inode_table.specs.declared.entries.FileEntry.{FileEntry}
use Rattle.inode_table.specs.Listing.{listing, has_inode, Ascend, Within}
use Rattle.inode_table.proofs.Choices.{neither}

-- ---- by places

pub ascend-at : (n : ℕ) (es : List FileEntry) (i : ℕ) (d : FileEntry) → Ascend n (listing es) → i < length es → n + i ≤ (get_or es i d).key.ino
ascend-at n [] i d a lt = absurd (omega arith)
ascend-at n (f ∷ es) zero d a lt = let low = a.0 in omega arith
ascend-at n (f ∷ es) (suc i) d a lt = let low = a.0 in let here = ascend-at (f.key.ino + 1) es i d a.1 (omega arith) in omega arith

pub ascend-pairs : (n : ℕ) (es : List FileEntry) (i j : ℕ) (d : FileEntry) → Ascend n (listing es) → i ≤ j → j < length es → (get_or es i d).key.ino ≤ (get_or es j d).key.ino
ascend-pairs n [] i j d a le lt = absurd (omega arith)
ascend-pairs n (f ∷ es) zero zero d a le lt = omega arith
ascend-pairs n (f ∷ es) zero (suc j) d a le lt = let here = ascend-at (f.key.ino + 1) es j d a.1 (omega arith) in omega arith
ascend-pairs n (f ∷ es) (suc i) zero d a le lt = absurd (omega arith)
ascend-pairs n (f ∷ es) (suc i) (suc j) d a le lt = ascend-pairs (f.key.ino + 1) es i j d a.1 (omega arith) (omega arith)

pub partitioned : (n : ℕ) (es : List FileEntry) (ino : ℕ) → Ascend n (listing es) → IsPartitionedBy (λ (f : FileEntry). ltb f.key.ino ino) es
partitioned n es ino a = λ i j d le lt below.
    let pair = ascend-pairs n es i j d a le lt in
    let there = ltb-true (get_or es j d).key.ino ino below in
    lt-ltb (get_or es i d).key.ino ino (omega arith)

pub ascend-low : (m n : ℕ) (ls : List Listed) → n ≤ m → Ascend m ls → Ascend n ls
ascend-low m n [] le a = tt
ascend-low m n (l ∷ ls) le a = let low = a.0 in (omega arith, a.1)

-- ---- the lowest free inode

pub free-ge : (n : ℕ) (ls : List Listed) → n ≤ free_inode n ls
free-ge n [] = omega arith
free-ge n (l ∷ ls) = let P : ℕ → Type 0 = λ m. n ≤ m in cond_both (eqb l.key.ino n) (free_inode (n + 1) ls) n P (λ same. let more = free-ge (n + 1) ls in omega arith) (λ other. omega arith)

pub free-le : (n : ℕ) (ls : List Listed) → free_inode n ls ≤ n + length ls
free-le n [] = omega arith
free-le n (l ∷ ls) = let P : ℕ → Type 0 = λ m. m ≤ n + suc (length ls) in cond_both (eqb l.key.ino n) (free_inode (n + 1) ls) n P (λ same. let more = free-le (n + 1) ls in omega arith) (λ other. omega arith)

pub free-above : (n : ℕ) (es : List FileEntry) (i : ℕ) (d : FileEntry) → Ascend n (listing es) → i < length es → (get_or es i d).key.ino ≡ n + i → n + i + 1 ≤ free_inode n (listing es)
free-above n [] i d a lt e = absurd (omega arith)
free-above n (f ∷ es) zero d a lt e =
    let P : ℕ → Type 0 = λ m. n + 0 + 1 ≤ m in
    cond_both (eqb f.key.ino n) (free_inode (n + 1) (listing es)) n P (λ same. let more = free-ge (n + 1) (listing es) in omega arith) (λ other. absurd (eqb-false f.key.ino n other (omega arith)))
free-above n (f ∷ es) (suc i) d a lt e =
    let low = a.0 in
    let there = ascend-at (f.key.ino + 1) es i d a.1 (omega arith) in
    let first : f.key.ino ≡ n = omega arith in
    let Q : ℕ → Type 0 = λ m. Ascend (m + 1) (listing es) in
    let more = free-above (n + 1) es i d (subst Q first a.1) (omega arith) (omega arith) in
    let P : ℕ → Type 0 = λ m. n + suc i + 1 ≤ m in
    cond_both (eqb f.key.ino n) (free_inode (n + 1) (listing es)) n P (λ same. omega arith) (λ other. absurd (eqb-false f.key.ino n other first))

pub free-below : (n : ℕ) (es : List FileEntry) (i : ℕ) (d : FileEntry) → Ascend n (listing es) → i < length es → ((get_or es i d).key.ino ≡ n + i → ⊥) → free_inode n (listing es) ≤ n + i
free-below n [] i d a lt e = absurd (omega arith)
free-below n (f ∷ es) zero d a lt e =
    let P : ℕ → Type 0 = λ m. m ≤ n + 0 in
    cond_both (eqb f.key.ino n) (free_inode (n + 1) (listing es)) n P (λ same. let is = eqb-true f.key.ino n same in absurd (e (omega arith))) (λ other. omega arith)
free-below n (f ∷ es) (suc i) d a lt e =
    let Q : ℕ → Type 0 = λ m. Ascend (m + 1) (listing es) in
    let P : ℕ → Type 0 = λ m. m ≤ n + suc i in
    cond_both (eqb f.key.ino n) (free_inode (n + 1) (listing es)) n P
    (λ same. let more = free-below (n + 1) es i d (subst Q (eqb-true f.key.ino n same) a.1) (omega arith) (λ is. e (omega arith)) in omega arith)
    (λ other. omega arith)

pub absent-low : (m n : ℕ) (ls : List Listed) → Ascend n ls → m < n → has_inode m ls ≡ false
absent-low m n [] a lt = refl
absent-low m n (l ∷ ls) a lt =
    let low = a.0 in
    let other : eqb l.key.ino m ≡ false = ne_eqb l.key.ino m (λ e. absurd (omega arith)) in
    rw other (absent-low m (l.key.ino + 1) ls a.1 (omega arith))

pub free-absent : (n : ℕ) (ls : List Listed) → Ascend n ls → has_inode (free_inode n ls) ls ≡ false
free-absent n [] a = refl
free-absent n (l ∷ ls) a =
    let low = a.0 in
    let P : ℕ → Type 0 = λ m. has_inode m (l ∷ ls) ≡ false in
    let Q : ℕ → Type 0 = λ m. Ascend (m + 1) ls in
    cond_both (eqb l.key.ino n) (free_inode (n + 1) ls) n P
    (λ same.
    let is = eqb-true l.key.ino n same in
    let more = free-ge (n + 1) ls in
    let other : eqb l.key.ino (free_inode (n + 1) ls) ≡ false = ne_eqb l.key.ino (free_inode (n + 1) ls) (λ e. absurd (omega arith)) in
    rw other (free-absent (n + 1) ls (subst Q is a.1)))
    (λ other. rw other (absent-low n (l.key.ino + 1) ls a.1 (omega arith)))

-- ---- how many files there can be

pub few : (limit next n : ℕ) (ls : List Listed) → Ascend n ls → Within limit next ls → length ls ≤ limit + 1 - n
few limit next n [] a w = omega arith
few limit next n (l ∷ ls) a w = let low = a.0 in let high = w.0 in let more = few limit next (l.key.ino + 1) ls a.1 w.2 in omega arith

-- ---- one file more, and one less

pub ascend-put : (n : ℕ) (l : Listed) (ls : List Listed) → Ascend n ls → n ≤ l.key.ino → has_inode l.key.ino ls ≡ false → Ascend n (put_key (λ x. x.key) l ls)
ascend-put n l [] a le free = (le, tt)
ascend-put n l (x ∷ ls) a le free =
    let low = a.0 in
    let parts = neither (eqb x.key.ino l.key.ino) (has_inode l.key.ino ls) free in
    let other = eqb-false x.key.ino l.key.ino parts.0 in
    let P : List Listed → Type 0 = λ r. Ascend n r in
    cond_both (ltb l.key.ino x.key.ino) (l ∷ x ∷ ls) (x ∷ put_key (λ y. y.key) l ls) P
    (λ before. let lt = ltb-true l.key.ino x.key.ino before in (le, (omega arith, a.1)))
    (λ after. let ge = ltb-false l.key.ino x.key.ino after in (low, ascend-put (x.key.ino + 1) l ls a.1 (omega arith) parts.1))

pub within-put : (limit next : ℕ) (l : Listed) (ls : List Listed) → Within limit next ls → l.key.ino ≤ limit → l.key.igen < next → Within limit next (put_key (λ x. x.key) l ls)
within-put limit next l [] w high old = (high, old, tt)
within-put limit next l (x ∷ ls) w high old =
    let P : List Listed → Type 0 = λ r. Within limit next r in
    cond_both (ltb l.key.ino x.key.ino) (l ∷ x ∷ ls) (x ∷ put_key (λ y. y.key) l ls) P (λ before. (high, old, w)) (λ after. (w.0, w.1, within-put limit next l ls w.2 high old))

pub within-more : (limit next later : ℕ) (ls : List Listed) → next ≤ later → Within limit next ls → Within limit later ls
within-more limit next later [] le w = tt
within-more limit next later (l ∷ ls) le w = let old = w.1 in (w.0, omega arith, within-more limit next later ls le w.2)

pub ascend-drop : (n : ℕ) (k : FileKey) (ls : List Listed) → Ascend n ls → Ascend n (drop_key (λ x. x.key) k ls)
ascend-drop n k [] a = tt
ascend-drop n k (x ∷ ls) a =
    let low = a.0 in
    let P : List Listed → Type 0 = λ r. Ascend n r in
    cond_both (same_key x.key k) ls (x ∷ drop_key (λ y. y.key) k ls) P (λ same. ascend-low (x.key.ino + 1) n ls (omega arith) a.1) (λ other. (low, ascend-drop (x.key.ino + 1) k ls a.1))

pub within-drop : (limit next : ℕ) (k : FileKey) (ls : List Listed) → Within limit next ls → Within limit next (drop_key (λ x. x.key) k ls)
within-drop limit next k [] w = tt
within-drop limit next k (x ∷ ls) w =
    let P : List Listed → Type 0 = λ r. Within limit next r in
    cond_both (same_key x.key k) ls (x ∷ drop_key (λ y. y.key) k ls) P (λ same. w.2) (λ other. (w.0, w.1, within-drop limit next k ls w.2))
