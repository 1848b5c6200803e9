-- The ids of live sessions ascend after each call.
use Rattle.std.proofs.Common.{ℕ, ◌<◌, ◌≤◌, Bool, true, false, cond, List, [], ◌∷◌, ◌++◌, map, arith}
use Rattle.std.specs.Map.{remove_entry}
use Rattle.hsm_types.specs.declared.keys.Sid.{Sid}
use Rattle.hsm_types.specs.Sessions.{LiveSession, Ascend, same_sid, change_live}

abbrev Live : Type 0
Live = List (Sid × LiveSession)

ascend-lower : (low least high : ℕ) (live : Live) → Ascend low high live → least ≤ low → Ascend least high live
ascend-lower low least high [] h below = tt
ascend-lower low least high (s ∷ rest) h below = (omega arith, h.1, h.2)

pub ascend-removed : (test : Sid → Bool) (low high : ℕ) (live : Live) → Ascend low high live → Ascend low high (remove_entry test live)
ascend-removed test low high [] h = tt
ascend-removed test low high (s ∷ rest) h =
    elim (test s.0) as (λ (b : Bool). Ascend low high (cond b rest (s ∷ remove_entry test rest))) [
      | true ↦ ascend-lower s.0.0 low high rest h.2 (omega arith)
      | false ↦ (h.0, h.1, ascend-removed test s.0.0 high rest h.2)
    ]

pub ascend-pushed : (low high next : ℕ) (s : LiveSession) (live : Live) → Ascend low high live → low < next → high < next → Ascend low next (live ++ (record { 0 = next }, s) ∷ [])
ascend-pushed low high next s [] h above new = (above, omega arith, tt)
ascend-pushed low high next s (e ∷ rest) h above new = let within = h.1 in (h.0, omega arith, ascend-pushed e.0.0 high next s rest h.2 (omega arith) new)

pub ascend-mapped : (change : LiveSession → LiveSession) (low high : ℕ) (live : Live) → Ascend low high live → Ascend low high (map (λ (s : Sid × LiveSession). (s.0, change s.1)) live)
ascend-mapped change low high [] h = tt
ascend-mapped change low high (s ∷ rest) h = (h.0, h.1, ascend-mapped change s.0.0 high rest h.2)

pub ascend-changed : (sid : Sid) (change : LiveSession → LiveSession) (low high : ℕ) (live : Live) → Ascend low high live → Ascend low high (change_live sid change live)
ascend-changed sid change low high [] h = tt
ascend-changed sid change low high (s ∷ rest) h =
    elim (same_sid sid s.0) as (λ (b : Bool). Ascend low high (cond b ((s.0, change s.1) ∷ rest) (s ∷ change_live sid change rest))) [
      | true ↦ (h.0, h.1, h.2)
      | false ↦ (h.0, h.1, ascend-changed sid change s.0.0 high rest h.2)
    ]
