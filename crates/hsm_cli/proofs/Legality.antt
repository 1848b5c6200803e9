-- A run on a new store.
use Rattle.std.proofs.Common.{◌≡◌, ℕ, List, [], ◌∷◌, Option, Some, None, inl, inr, refl, sym, subst, arith}
use Rattle.hsm_types.specs.declared.stores.Superblock.{Superblock}
use Rattle.plain_model.specs.declared.entries.Entry.{Entry}
use Rattle.plain_model.specs.declared.entries.Actor.{Actor}
use Rattle.plain_model.specs.declared.entries.Action.{Action}
use Rattle.plain_model.specs.declared.entries.Answer.{Answer}
use Rattle.plain_model.specs.State.{Held, State, nothing_held, just_opened}
use Rattle.plain_model.specs.Exact.{IsAnswer, IsAnswerSeen, Exact, ExactSeen, left_by}
use Rattle.plain_model.specs.Laws.{IsRunSeen, IsOrderly, IsGoodRun}
use Rattle.plain_model.proofs.AnyDisk.{run_on_any, seen_is_orderly}
use Rattle.plain_model.proofs.Goods.{run_is_good}
use Rattle.seen_history.proofs.Goods.{seen_is_good}
use Rattle.std.proofs.lemmas.Bool.{false≢true}
use Rattle.disk_model.specs.declared.device.Disk as disk
use Rattle.file_store.specs.Stores.{Store, superblock_of}
use Rattle.hsm_core.specs.Packed.{ArePacked}
use Rattle.hsm_cli.specs.Openings.{replay_store, superblock_at, held_at, base_of}
use Rattle.hsm_cli.specs.Outcomes.{ended_with}
use Rattle.hsm_cli.specs.declared.causes.Cause.{Cause}
use Rattle.hsm_cli.specs.declared.outcomes.Outcome.{Outcome}
use Rattle.hsm_cli.specs.Clauses.{TellsGiven, IsRunOver, IsPackedOver, IsGoodSeenOver, IsGoodOver, IsPlainOver, LegalityClause}

-- ---- exact runs

-- what is exact is so on any disk
own_seen : (Told : Type 0) (s : Superblock) (st : State) (who : Actor) (what : Action) (answer : Answer) → IsAnswer s st who what answer → IsAnswerSeen Told s st who what answer
own_seen Told s st who what answer (inl is) = inl is
own_seen Told s st who what answer (inr is) = inr (st.held, record { alike = refl; told = λ told. refl }, is)

exact_seen : (Told : Type 0) (s : Superblock) (st : State) (es : List Entry) → Exact s st es → ExactSeen Told s st es
exact_seen Told s st [] exact = tt
exact_seen Told s st (e ∷ es) exact = (own_seen Told s st e.actor e.action e.answer exact.0, exact.1, exact_seen Told s (left_by s st e.actor e.action e.answer) es exact.2)

pub good_seen : {D : Type 0} (Told : Type 0) (opened : Option (Store D)) (history : List Entry) → IsGoodOver opened history → IsRunOver Told opened history
good_seen Told opened history good = record { opening = good.run.opening; exact = exact_seen Told (superblock_at opened) (just_opened (base_of opened) (held_at opened)) history good.run.exact }

-- ---- on any disk

-- a run gives each token once, and keeps its tables in order
pub orderly : (Told : Type 0) (s : Superblock) (base : ℕ) (h : Held) (es : List Entry) → IsRunSeen Told s base h es → IsOrderly s base h es
orderly Told s base h es run = seen_is_orderly s base h es (run_on_any Told s base h es run)

-- a run is good but for bytes, and its files are plain
pub good_but_bytes : {D : Type 0} (Told : Type 0) (opened : Option (Store D)) (history : List Entry) → IsRunOver Told opened history → IsGoodSeenOver Told opened history
good_but_bytes Told opened history run = seen_is_good Told (superblock_at opened) (base_of opened) (held_at opened) history run

pub plain_over : {D : Type 0} (Told : Type 0) (opened : Option (Store D)) (history : List Entry) → IsRunOver Told opened history → IsPlainOver opened history
plain_over Told opened history run P stands = (good_but_bytes Told opened history run P stands).plain

-- ---- on a new store

-- what is good over a store of that superblock that holds nothing is so over a new one
pub good_new : {D : Type 0} (s : Store D) (history : List Entry) → superblock_of s ≡ replay_store → s.held ≡ nothing_held → s.meta.number ≡ 0 → IsGoodOver (Some s) history → IsGoodRun replay_store 0 nothing_held history
good_new s history superblock held number good =
    subst (λ (h : Held). IsGoodRun replay_store 0 h history) held
    (subst (λ (n : ℕ). IsGoodRun replay_store n s.held history) number (subst (λ (x : Superblock). IsGoodRun x s.meta.number s.held history) superblock good))

-- so it is of its buffers
pub packed_new : {D : Type 0} (s : Store D) (history : List Entry) → superblock_of s ≡ replay_store → s.held ≡ nothing_held → s.meta.number ≡ 0 → IsPackedOver (Some s) history → ArePacked replay_store (just_opened 0 nothing_held) history
packed_new s history superblock held number packed =
    subst (λ (h : Held). ArePacked replay_store (just_opened 0 h) history) held
    (subst (λ (n : ℕ). ArePacked replay_store (just_opened n s.held) history) number (subst (λ (x : Superblock). ArePacked x (just_opened s.meta.number s.held) history) superblock packed))

-- a run in which no store was opened has no events
pub run_unopened : (D Told : Type 0) → IsRunOver {D = D} Told None []
run_unopened D Told = record { opening = omega arith; exact = tt }

pub good_unopened : (D : Type 0) → IsGoodOver {D = D} None []
good_unopened D = run_is_good replay_store 0 nothing_held [] (record { opening = omega arith; exact = tt })

legal_unopened : {D M : Type 0} (g : disk.Ghosts D) (cause : Option Cause) (given : Option D) (drives : List M) → LegalityClause g (record (ended_with cause [] given) { drives = drives })
legal_unopened {D} {M} g cause given drives = record { from = run_unopened D (TellsGiven g given); orderly = orderly _ _ _ _ _ (run_unopened D (TellsGiven g given)); packed = tt; seen = good_but_bytes {D = D} (TellsGiven g given) None [] (run_unopened D (TellsGiven g given)); good = λ tells. good_unopened D; caused = λ is. absurd (false≢true is); told = λ is some. absurd (false≢true some); faultless = λ sound ample. refl }

pub legal_with : {D M : Type 0} (g : disk.Ghosts D) (o : Outcome D M) (cause : Option Cause) (given : Option D) (drives : List M) → o ≡ record (ended_with cause [] given) { drives = drives } → LegalityClause g o
legal_with {D} {M} g o cause given drives is = subst (λ (x : Outcome D M). LegalityClause g x) (sym is) (legal_unopened g cause given drives)

pub legal_as : {D M : Type 0} (g : disk.Ghosts D) (o : Outcome D M) (cause : Option Cause) (given : Option D) → o ≡ ended_with cause [] given → LegalityClause g o
legal_as g o cause given is = legal_with g o cause given [] is
