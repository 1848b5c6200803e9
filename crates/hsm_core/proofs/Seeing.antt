-- What is seen of files, histories whose answers are over what is seen, and both where the disk tells what it holds.
use Rattle.std.proofs.Common.{◌≡◌, ℕ, List, [], ◌∷◌, ◌++◌, false, inl, inr, refl, ◌∙◌, subst}
use Rattle.std.specs.Prelude.{Result, Ok, Err, IfOk}
use Rattle.disk_model.specs.Moments.{Tells}
use Rattle.disk_model.specs.declared.device.Disk as disk
use Rattle.hsm_types.specs.declared.stores.Superblock.{Superblock}
use Rattle.plain_model.specs.declared.entries.Entry.{Entry}
use Rattle.plain_model.specs.declared.entries.Actor.{Actor}
use Rattle.plain_model.specs.declared.entries.Action.{Action}
use Rattle.plain_model.specs.declared.entries.Answer.{Answer}
use Rattle.plain_model.specs.Exact.{IsOwn, IsOwnSeen, IsAnswer, IsAnswerSeen, Exact, ExactSeen, left_by, state_by}
use Rattle.plain_model.specs.Faults.{has_fault}
use Rattle.plain_model.specs.Laws.{IsRun, IsRunSeen, IsGoodRun}
use Rattle.plain_model.specs.Seen.{blanked, IsSeen, IsOfSeen}
use Rattle.plain_model.specs.State.{Held, State, just_opened}
use Rattle.plain_model.proofs.Faultless.{has_fault-cons, not_last}
use Rattle.plain_model.proofs.Seeing.{left_own_by}
use Rattle.dm_service.specs.Services.{AreBoth}
use Rattle.snapshot_text.specs.declared.refusal.MetaRefusal.{MetaRefusal}
use Rattle.file_store.specs.Stores.{superblock_of}
use Rattle.hsm_core.specs.Answers.{own_answer, own_state, IsDone}
use Rattle.hsm_core.specs.Kept.{IsKept}
use Rattle.hsm_core.specs.Store.{Store, opening_of, state_of}

-- ---- files that are seen

pub held_seen : {Told : Type 0} (h : Held) → IsSeen Told h h
held_seen h = record { alike = refl; told = λ tells. refl }

pub weaker_seen : {A B : Type 0} → (B → A) → (h seen : Held) → IsSeen A h seen → IsSeen B h seen
weaker_seen to h seen is = record { alike = is.alike; told = λ tells. is.told (to tells) }

-- replies over the files that are held
pub held_replies : {R : Type 0} (Told : Type 0) (r : Result (R × R) MetaRefusal) (h : Held) (own : Held → R) (x : R) → x ≡ own h → IfOk r (λ z. AreBoth x z) → IfOk r (λ z. IsOfSeen Told h (λ seen. AreBoth (own seen) z))
held_replies Told (Ok z) h own x same is = (h, held_seen h, (is.0 ∙ same, is.1 ∙ same))
held_replies Told (Err e) h own x same is = tt

-- and over files that are seen
pub seen_replies : {R : Type 0} (Told : Type 0) (r : Result (R × R) MetaRefusal) (h : Held) (x own : Held → R) → ((seen : Held) → blanked seen ≡ blanked h → x seen ≡ own seen) → IfOk r (λ z. IsOfSeen Told h (λ seen. AreBoth (x seen) z))
    → IfOk r (λ z. IsOfSeen Told h (λ seen. AreBoth (own seen) z))
seen_replies Told (Ok z) h x own same is = let as_own = same is.0 is.1.alike in (is.0, is.1, (is.2.0 ∙ as_own, is.2.1 ∙ as_own))
seen_replies Told (Err e) h x own same is = tt

-- ---- histories

weaker_answer : {A B : Type 0} → (B → A) → (s : Superblock) (st : State) (who : Actor) (what : Action) (answer : Answer) → IsAnswerSeen A s st who what answer → IsAnswerSeen B s st who what answer
weaker_answer to s st who what answer (inl is) = inl is
weaker_answer to s st who what answer (inr is) = inr (is.0, weaker_seen to st.held is.0 is.1, is.2)

weaker_exact : {A B : Type 0} → (B → A) → (s : Superblock) (st : State) (es : List Entry) → ExactSeen A s st es → ExactSeen B s st es
weaker_exact to s st [] exact = tt
weaker_exact to s st (e ∷ es) exact = (weaker_answer to s st e.actor e.action e.answer exact.0, exact.1, weaker_exact to s (left_by s st e.actor e.action e.answer) es exact.2)

-- a disk that tells later has told before
pub weaker_run : {A B : Type 0} → (B → A) → (s : Superblock) (base : ℕ) (h : Held) (es : List Entry) → IsRunSeen A s base h es → IsRunSeen B s base h es
weaker_run to s base h es run = record { opening = run.opening; exact = weaker_exact to s (just_opened base h) es run.exact }

-- one more entry at the end
pub ExactSeen-push : (Told : Type 0) (s : Superblock) (st : State) (es : List Entry) (e : Entry) → ExactSeen Told s st es → has_fault es ≡ false → IsAnswerSeen Told s (state_by s st es) e.actor e.action e.answer → ExactSeen Told s st (es ++ e ∷ [])
ExactSeen-push Told s st [] e exact faultless is = (is, λ fault. refl, tt)
ExactSeen-push Told s st (x ∷ es) e exact faultless is =
    let none = has_fault-cons x es faultless in
    (exact.0, not_last x (es ++ e ∷ []) none.0, ExactSeen-push Told s (left_by s st x.actor x.action x.answer) es e exact.2 none.1 is)

-- ---- where the disk tells

pub told_own : {Told : Type 0} → Told → (s : Superblock) (st : State) (who : Actor) (what : Action) (answer : Answer) → IsOwnSeen Told s st who what answer → IsOwn s st who what answer
told_own tells s st who what answer is = subst (λ (seen : Held). IsOwn s (record st { held = seen }) who what answer) (is.1.told tells) is.2

told_answer : {Told : Type 0} → Told → (s : Superblock) (st : State) (who : Actor) (what : Action) (answer : Answer) → IsAnswerSeen Told s st who what answer → IsAnswer s st who what answer
told_answer tells s st who what answer (inl is) = inl is
told_answer tells s st who what answer (inr is) = inr (told_own tells s st who what answer is)

told_exact : {Told : Type 0} → Told → (s : Superblock) (st : State) (es : List Entry) → ExactSeen Told s st es → Exact s st es
told_exact tells s st [] exact = tt
told_exact tells s st (e ∷ es) exact = (told_answer tells s st e.actor e.action e.answer exact.0, exact.1, told_exact tells s (left_by s st e.actor e.action e.answer) es exact.2)

pub told_run : {Told : Type 0} → Told → (s : Superblock) (base : ℕ) (h : Held) (es : List Entry) → IsRunSeen Told s base h es → IsRun s base h es
told_run tells s base h es run = record { opening = run.opening; exact = told_exact tells s (just_opened base h) es run.exact }

-- so what was done was answered exactly, and left what the store's own answer leaves
pub done_told : {D : Type 0} (g : disk.Ghosts D) (old : Store D) (actor : Actor) (action : Action) (given : Answer) (new : Store D) → Tells g new.files.disk → IsDone g old actor action given new
    → (given ≡ own_answer old actor action) × (state_of new ≡ own_state old actor action)
done_told g old actor action given new tells done =
    let own = told_own tells (superblock_of old.opened) (state_of old) actor action given done.answer in
    (own.1, done.leaves ∙ left_own_by (superblock_of old.opened) (state_of old) actor action given own)

-- and what was kept is a good run
pub kept_told : {D : Type 0} (g : disk.Ghosts D) (s : Store D) → Tells g s.files.disk → IsKept g s → IsGoodRun (superblock_of s.opened) s.opened.meta.number (opening_of s) s.history
kept_told g s tells kept = kept.good tells
