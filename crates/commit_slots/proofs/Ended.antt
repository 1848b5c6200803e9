-- How a reading of the disk ended, and the faults that it counts.
use Rattle.std.proofs.Common.{◌≡◌, ◌⊎◌, inl, inr, ℕ, Ok, Err, ◌∙◌, ap, subst, IsErrOf}
use Rattle.disk_model.specs.Calls.{Counts, RoseByOne}
use Rattle.disk_model.specs.declared.refusal.OpenRefusal.{OpenRefusal}
use Rattle.disk_model.specs.declared.refusal.OpenRefusal.TheVariants.{NotStore, Disk, Memory, Corrupt}

pub ok_apart : {T E : Type 0} (x : T) (e : E) → IsErrOf (Ok x) e → ⊥
ok_apart x e is = cc

-- the same error, of another function
pub err_on : {T U E : Type 0} {e v : E} → IsErrOf {T = T} (Err e) v → IsErrOf {T = U} (Err e) v
err_on {E} {e} {v} is = let same : e ≡ v = cc in ap (λ (x : E). Err x) same

-- one refusal isn't another
pub store_no_disk : {T : Type 0} → IsErrOf {T = T} (Err NotStore) Disk → ⊥
store_no_disk is = cc

pub disk_no_store : {T : Type 0} → IsErrOf {T = T} (Err Disk) NotStore → ⊥
disk_no_store is = cc

pub disk_no_memory : {T : Type 0} → IsErrOf {T = T} (Err Disk) Memory → ⊥
disk_no_memory is = cc

pub disk_no_corrupt : {T : Type 0} (place : ℕ) → IsErrOf {T = T} (Err Disk) (Corrupt place) → ⊥
disk_no_corrupt place is = cc

pub memory_no_store : {T : Type 0} → IsErrOf {T = T} (Err Memory) NotStore → ⊥
memory_no_store is = cc

pub memory_no_disk : {T : Type 0} → IsErrOf {T = T} (Err Memory) Disk → ⊥
memory_no_disk is = cc

pub memory_no_corrupt : {T : Type 0} (place : ℕ) → IsErrOf {T = T} (Err Memory) (Corrupt place) → ⊥
memory_no_corrupt place is = cc

-- what a superblock isn't refused for
pub not_memory : {T : Type 0} (e : OpenRefusal) → (e ≡ NotStore) ⊎ (e ≡ Disk) → IsErrOf {T = T} (Err e) Memory → ⊥
not_memory e (inl store) is = cc
not_memory e (inr disk) is = cc

pub not_corrupt : {T : Type 0} (e : OpenRefusal) → (e ≡ NotStore) ⊎ (e ≡ Disk) → (place : ℕ) → IsErrOf {T = T} (Err e) (Corrupt place) → ⊥
not_corrupt e (inl store) place is = cc
not_corrupt e (inr disk) place is = cc

-- a call failed, after others that didn't
pub fails : {F : Type 0} (old mid new : ℕ) → mid ≡ old → RoseByOne mid new → F → Counts F old new
fails old mid new quiet once failed = record { once = λ _. subst (λ n. RoseByOne n new) quiet once; quiet = λ none. absurd (none failed) }

-- no call failed
pub passes : {F : Type 0} (old mid new : ℕ) → mid ≡ old → new ≡ mid → (F → ⊥) → Counts F old new
passes old mid new first then none = record { once = λ failed. absurd (none failed); quiet = λ _. then ∙ first }
