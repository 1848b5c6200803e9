-- Tables whose ids ascend, after a session comes or goes.
use Rattle.std.proofs.Common.{◌≡◌, ℕ, zero, suc, ◌+◌, ◌<◌, ◌≤◌, Bool, true, false, cond, ◌||◌, ◌&&◌, List, [], ◌∷◌}
use Rattle.std.proofs.Common.{◌++◌, length, map, get_or, Option, None, Some, is_some, refl, ap, eqb, leb, arith}
use Rattle.std.proofs.lemmas.Bool.Decides.{nat_tests}
use Rattle.std.specs.List.Sorted.{IsStrictlyIncreasing}
use Rattle.std.specs.Map.{keys_of, lookup, remove_entry}
use Rattle.indexmap.specs.IndexMap.{insert_entry}
use Rattle.hsm_types.specs.Limits.{live_sessions}
use Rattle.hsm_types.specs.declared.keys.Sid.{Sid}
use Rattle.hsm_types.specs.Refusals.{first_refusal}
use Rattle.hsm_types.specs.Sessions.{LiveSession, SessionTable, Ascend, same_sid, change_live, creation_refusal, no_session, bad_info, too_many_sessions}
use Rattle.hsm_types.specs.declared.dm.DmRefusal.TheVariants.{NoSession, TooMany}

abbrev Live : Type 0
Live = List (Sid × LiveSession)

-- ---- one session less

pub Ascend-lower : (low least high : ℕ) (live : Live) → Ascend low high live → least ≤ low → Ascend least high live
Ascend-lower low least high [] h below = tt
Ascend-lower low least high (s ∷ rest) h below = (omega arith, h.1, h.2)

pub Ascend-remove : (test : Sid → Bool) (low high : ℕ) (live : Live) → Ascend low high live → Ascend low high (remove_entry test live)
Ascend-remove test low high [] h = tt
Ascend-remove test low high (s ∷ rest) h =
    elim (test s.0) as (λ (b : Bool). Ascend low high (cond b rest (s ∷ remove_entry test rest))) [
      | true ↦ Ascend-lower s.0.0 low high rest h.2 (omega arith)
      | false ↦ (h.0, h.1, Ascend-remove test s.0.0 high rest h.2)
    ]

pub length-remove_entry : (test : Sid → Bool) (live : Live) → length (remove_entry test live) ≤ length live
length-remove_entry test [] = omega arith
length-remove_entry test (s ∷ rest) =
    let shorter = length-remove_entry test rest in
    elim (test s.0) as (λ (b : Bool). length (cond b rest (s ∷ remove_entry test rest)) ≤ suc (length rest)) [ true ↦ omega arith | false ↦ omega arith ]

-- ---- one session more

pub Ascend-push : (low high next : ℕ) (info : LiveSession) (live : Live) → Ascend low high live → low < next → high < next → Ascend low next (live ++ (record { 0 = next }, info) ∷ [])
Ascend-push low high next info [] h above new = (above, omega arith, tt)
Ascend-push low high next info (s ∷ rest) h above new = let within = h.1 in (h.0, omega arith, Ascend-push s.0.0 high next info rest h.2 (omega arith) new)

pub insert_entry-last : (sid : Sid) (info : LiveSession) (low high : ℕ) (live : Live) → Ascend low high live → high < sid.0 → insert_entry same_sid live sid info ≡ live ++ (sid, info) ∷ []
insert_entry-last sid info low high [] h above = refl
insert_entry-last sid info low high (s ∷ rest) h above =
    let within = h.1 in
    let other : eqb sid.0 s.0.0 ≡ false = grind (arith, nat_tests) in
    rw other (ap (λ (l : Live). s ∷ l) (insert_entry-last sid info s.0.0 high rest h.2 above))

-- ---- one session in the place of another

length-remove_entry-live : (test : Sid → Bool) (live : Live) → is_some (lookup test live) ≡ true → length (remove_entry test live) + 1 ≡ length live
length-remove_entry-live test [] h = absurd cc
length-remove_entry-live test (s ∷ rest) h =
    elim (test s.0) as (λ (b : Bool). is_some (cond b (Some s.1) (lookup test rest)) ≡ true → length (cond b rest (s ∷ remove_entry test rest)) + 1 ≡ suc (length rest)) [
      | true ↦ λ _. omega arith
      | false ↦ λ there. let shorter = length-remove_entry-live test rest there in omega arith
    ] h

-- ---- what isn't refused

pub none-first : {R : Type 0} (first : Option R) (rest : List (Option R)) → first_refusal (first ∷ rest) ≡ None → (first ≡ None) × (first_refusal rest ≡ None)
none-first None rest h = (refl, h)
none-first (Some why) rest h = absurd cc

pub passed : {X : Type 0} (b : Bool) (x : X) → cond b None (Some x) ≡ None → b ≡ true
passed true x h = refl
passed false x h = absurd cc

pub not_met : {X : Type 0} (b : Bool) (x : X) → cond b (Some x) None ≡ None → b ≡ false
not_met true x h = absurd cc
not_met false x h = refl

-- where nothing refuses, the old session lives or there is none, and there is room beside the others
module _ (old : Sid) (info : List ℕ) (t : SessionTable) (none : creation_refusal old info t ≡ None) where
  known : (no_session old t ≡ None) × (first_refusal (bad_info info ∷ too_many_sessions old t ∷ []) ≡ None)
  known = none-first (no_session old t) (bad_info info ∷ too_many_sessions old t ∷ []) none

  old-known : (eqb old.0 0 || is_some (lookup (same_sid old) t.live)) ≡ true
  old-known = passed (eqb old.0 0 || is_some (lookup (same_sid old) t.live)) NoSession known.0

  few-beside : (eqb old.0 0 && leb live_sessions (length t.live)) ≡ false
  few-beside =
      let fits = none-first (bad_info info) (too_many_sessions old t ∷ []) known.1 in
      not_met (eqb old.0 0 && leb live_sessions (length t.live)) (TooMany live_sessions) (none-first (too_many_sessions old t) [] fits.1).0

-- with the new session no more live than may
pub room : (old : Sid) (info : List ℕ) (t : SessionTable) → length t.live ≤ live_sessions → creation_refusal old info t ≡ None → length (remove_entry (same_sid old) t.live) + 1 ≤ live_sessions
room old info t few none = go (eqb old.0 0) refl
  where
    go : (b : Bool) → eqb old.0 0 ≡ b → length (remove_entry (same_sid old) t.live) + 1 ≤ live_sessions
    go true e =
        let below : leb live_sessions (length t.live) ≡ false = rw e at (few-beside old info t none) in
        let shorter = length-remove_entry (same_sid old) t.live in
        grind (arith, nat_tests)
    go false e =
        let one = length-remove_entry-live (same_sid old) t.live (rw e at (old-known old info t none)) in
        omega arith

-- ---- one session changed

pub Ascend-change : (sid : Sid) (change : LiveSession → LiveSession) (low high : ℕ) (live : Live) → Ascend low high live → Ascend low high (change_live sid change live)
Ascend-change sid change low high [] h = tt
Ascend-change sid change low high (s ∷ rest) h =
    let later = Ascend-change sid change s.0.0 high rest h.2 in
    elim (same_sid sid s.0) as (λ (b : Bool). Ascend low high (cond b ((s.0, change s.1) ∷ rest) (s ∷ change_live sid change rest))) [ true ↦ (h.0, h.1, h.2) | false ↦ (h.0, h.1, later) ]

pub length-change : (sid : Sid) (change : LiveSession → LiveSession) (live : Live) → length (change_live sid change live) ≡ length live
length-change sid change [] = refl
length-change sid change (s ∷ rest) =
    let later = length-change sid change rest in
    elim (same_sid sid s.0) as (λ (b : Bool). length (cond b ((s.0, change s.1) ∷ rest) (s ∷ change_live sid change rest)) ≡ suc (length rest)) [ true ↦ refl | false ↦ ap suc later ]

pub Ascend-map : (h : LiveSession → LiveSession) (low high : ℕ) (live : Live) → Ascend low high live → Ascend low high (map (λ (s : Sid × LiveSession). (s.0, h s.1)) live)
Ascend-map h low high [] is = tt
Ascend-map h low high (s ∷ rest) is = (is.0, is.1, Ascend-map h s.0.0 high rest is.2)

-- ---- the ids in their order

step : (low high : ℕ) (live : Live) → Ascend low high live → (k n : ℕ) → n ≡ suc k → n < length (map (λ (sid : Sid). sid.0) (keys_of live)) → get_or (map (λ (sid : Sid). sid.0) (keys_of live)) k 0 < get_or (map (λ (sid : Sid). sid.0) (keys_of live)) n 0
step low high [] h k n is within = absurd (omega arith)
step low high (s ∷ []) h k n is within = absurd (omega arith)
step low high (s ∷ t ∷ rest) h zero n is within = rw is h.2.0
step low high (s ∷ t ∷ rest) h (suc k) n is within = rw is (step s.0.0 high (t ∷ rest) h.2 k (suc k) refl (omega arith))

pub increasing : (low high : ℕ) (live : Live) → Ascend low high live → IsStrictlyIncreasing (map (λ (sid : Sid). sid.0) (keys_of live))
increasing low high live h k within = step low high live h k (k + 1) (omega arith) within
