-- A call of a disk in memory that isn't a sync: what a crash might have left before it, it may leave still.
use Rattle.std.proofs.Common.{◌≡◌, ⊎_elim, ℕ, Bool, true, false, List, [], ◌∷◌, ◌++◌, length, Result, Ok, Err, refl, sym, ◌∙◌, subst}
use Rattle.disk_model.specs.Images.{Within}
use Rattle.disk_model.proofs.Recorded.{all_front, replay-push}
use Rattle.disk_model.specs.Medium.{Medium, Recorded, Records, medium_of, fresh, after, replay, IsBeside, IsLeft, MayLeave}
use Rattle.disk_model.specs.declared.record.Call.{Call}
use Rattle.disk_model.specs.declared.record.Action.{Action}
use Rattle.disk_model.specs.declared.record.Action.TheVariants.{Read, Write, Sync}

abbrev pub IsNoSync : Action → Type 0
IsNoSync (Read at len) = Unit {0}
IsNoSync (Write at bytes) = Unit {0}
IsNoSync Sync = ⊥

still_one : (m : Medium) (action : Action) (done : Bool) (call : Call) (c : List ℕ) → IsNoSync action → length (after call action done m).now ≡ length m.now → IsLeft m c → IsLeft (after call action done m) c
still_one m (Read at len) true call c quiet same left = record { size = left.size; others = λ k all. left.others k (all_front (λ (x : Call). IsBeside k x.action) m.pending (call ∷ []) all) }
still_one m (Read at len) false call c quiet same left = record { size = left.size; others = λ k all. left.others k (all_front (λ (x : Call). IsBeside k x.action) m.pending (call ∷ []) all) }
still_one m (Write at v) true call c quiet same left = record { size = left.size ∙ sym same; others = λ k all. left.others k (all_front (λ (x : Call). IsBeside k x.action) m.pending (call ∷ []) all) }
still_one m (Write at v) false call c quiet same left = record { size = left.size; others = λ k all. left.others k (all_front (λ (x : Call). IsBeside k x.action) m.pending (call ∷ []) all) }
still_one m Sync done call c quiet same left = absurd quiet

still_pushed : (first : List ℕ) (calls : List Call) (call : Call) → IsNoSync call.action → length (replay (fresh first) (calls ++ call ∷ [])).now ≡ length (replay (fresh first) calls).now
    → Within (IsLeft (replay (fresh first) (calls ++ call ∷ []))) (IsLeft (replay (fresh first) calls))
still_pushed first calls call quiet same c left =
    let m : Medium = replay (fresh first) calls in
    let is = replay-push (fresh first) calls call in
    subst (λ (x : Medium). IsLeft x c) (sym is) (still_one m call.action call.done call c quiet (subst (λ (x : Medium). length x.now ≡ length m.now) is same) left)

Stills : Recorded → Recorded → Type 0
Stills old new = length (medium_of new).now ≡ length (medium_of old).now → Within (MayLeave new) (MayLeave old)

pub still : {T E : Type 0} (result : Result T E) (action : Action) (old new : Recorded) → IsNoSync action → Records result action old new → length (medium_of new).now ≡ length (medium_of old).now → Within (MayLeave new) (MayLeave old)
unfolding Stills
still (Ok x) action old new quiet records same =
    subst (Stills old) (sym (records.ok refl)) (λ same. still_pushed old.first old.calls (record { action = action; done = true }) quiet same) same
still (Err e) action old new quiet records same =
    ⊎_elim
    (λ noted. subst (Stills old) (sym noted.1) (λ same. still_pushed old.first old.calls (record { action = action; done = false }) quiet same) same)
    (λ missed. subst (Stills old) (sym missed) (λ same c left. left) same)
    (records.err refl)
