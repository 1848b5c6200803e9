-- How calls end that only look at files.
use Rattle.file_store.proofs.Names.{◌≡◌, ℕ, false, List, length, None, refl, ◌∙◌, ap, ◌*◌, take, drop, Store, Proceeds, Ghosts, OnlyReads, idle}
use Rattle.std.proofs.Common.{length-take, length-drop}
use Rattle.hsm_types.specs.Limits.{segment_bytes}
use Rattle.std.specs.Prelude.{Result, Ok}
use Rattle.std.specs.Result.{IsErrAnd}
use Rattle.disk_model.specs.Moments.{Same}
use Rattle.hsm_types.specs.Stubs.{print_of}
use Rattle.hsm_types.specs.declared.keys.FileKey.{FileKey}
use Rattle.hsm_types.specs.declared.stubs.Fingerprint.{Fingerprint}
use Rattle.plain_model.specs.Plain.{segment}
use Rattle.plain_model.specs.Seen.{IsOfSeen}
use Rattle.plain_model.specs.State.{Held, bytes_of}
use Rattle.plain_model.proofs.Alike.{size_alike}
use Rattle.snapshot_text.specs.declared.refusal.MetaRefusal.{MetaRefusal}
use Rattle.file_store.specs.Looks.{Looks}
use Rattle.snapshot_text.specs.Refusals.{no_memory}
use Rattle.file_store.proofs.Ended.{ends_done, lacking}

-- what is so of the files as they are held, whatever the disk tells
pub all_seen : {T : Type 0} {held : Held} {P : Held → Type 0} → P held → IsOfSeen T held P
all_seen {T} {held} is = (held, record { alike = refl; told = λ tells. refl }, is)

-- as many bytes at one place
same_length : (n at : ℕ) (a b : List ℕ) → length a ≡ length b → length (take n (drop at a)) ≡ length (take n (drop at b))
same_length n at a b same = simp (length-take, length-drop, same) refl

-- a fingerprint tells how many bytes there are, whatever is seen of them
pub length-print : {T : Type 0} {held : Held} (k : FileKey) (j : ℕ) {print : Fingerprint} → IsOfSeen T held (λ seen. print ≡ print_of (segment j (bytes_of k seen.files))) → print.len ≡ length (segment j (bytes_of k held.files))
length-print {held} k j {print} is =
    let size : length (bytes_of k is.0.files) ≡ length (bytes_of k held.files) = size_alike held is.0 is.1.alike k in
    ap (λ (p : Fingerprint). p.len) is.2 ∙ same_length segment_bytes (segment_bytes * j) (bytes_of k is.0.files) (bytes_of k held.files) size

-- ---- where no call of the disk is made

pub unread : {D : Type 0} (g : Ghosts D) (d : D) → ((c : List ℕ) → g.left_since d (g.moment d) c → g.may_leave d c) → OnlyReads g d d
unread g d only_now = (idle g d Same (λ c. refl) only_now, (λ c gives. gives, λ c gives. gives))

module _ {D T : Type 0} {g : Ghosts D} {s : Store D} (reads : OnlyReads g s.disk s.disk) (works_on : s.failed ≡ false → (n : ℕ) → Proceeds g s n s) (works : s.failed ≡ false) where
  pub looks_done : (x : T) → Looks g s (Ok x) s
  looks_done x = record { reads = reads; meta = refl; held = refl; durable = refl; space = refl; ends = λ n. ends_done g s s n None (works_on works n) x refl works refl }

  pub looks_lacking : (r : Result T MetaRefusal) → IsErrAnd r (λ why. why ≡ no_memory) → Looks g s r s
  looks_lacking r is = record { reads = reads; meta = refl; held = refl; durable = refl; space = refl; ends = λ n. lacking works_on works r is }
