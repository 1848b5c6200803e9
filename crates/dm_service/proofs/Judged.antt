-- The rules by which an access is judged, one after the other.
use Rattle.std.proofs.Common.{◌≡◌, [], ◌∷◌, Option, Some, None}
use Rattle.hsm_types.specs.Refusals.{first_refusal}
use Rattle.plain_model.specs.Verdict.{Judgement}
use Rattle.dm_service.specs.declared.verdict.Verdict.{Verdict}
use Rattle.dm_service.specs.Judging.{verdict_of, said}

-- after three rules that don't apply the fourth decides
pub fourth_says : (a b c d e f : Option Judgement) (v : Verdict) → None ≡ said a → None ≡ said b → None ≡ said c → Some v ≡ said d → v ≡ verdict_of (first_refusal (a ∷ b ∷ c ∷ d ∷ e ∷ f ∷ []))
fourth_says None None None (Some x) e f v is_a is_b is_c is_d = cc
fourth_says (Some x) b c d e f v is_a is_b is_c is_d = absurd cc
fourth_says None (Some x) c d e f v is_a is_b is_c is_d = absurd cc
fourth_says None None (Some x) d e f v is_a is_b is_c is_d = absurd cc
fourth_says None None None None e f v is_a is_b is_c is_d = absurd cc

-- after four the fifth
pub fifth_says : (a b c d e f : Option Judgement) (v : Verdict) → None ≡ said a → None ≡ said b → None ≡ said c → None ≡ said d → Some v ≡ said e → v ≡ verdict_of (first_refusal (a ∷ b ∷ c ∷ d ∷ e ∷ f ∷ []))
fifth_says None None None None (Some x) f v is_a is_b is_c is_d is_e = cc
fifth_says None None None None None f v is_a is_b is_c is_d is_e = absurd cc
fifth_says (Some x) b c d e f v is_a is_b is_c is_d is_e = absurd cc
fifth_says None (Some x) c d e f v is_a is_b is_c is_d is_e = absurd cc
fifth_says None None (Some x) d e f v is_a is_b is_c is_d is_e = absurd cc
fifth_says None None None (Some x) e f v is_a is_b is_c is_d is_e = absurd cc

-- and after five the sixth
pub sixth_says : (a b c d e f : Option Judgement) (v : Verdict) → None ≡ said a → None ≡ said b → None ≡ said c → None ≡ said d → None ≡ said e → Some v ≡ said f → v ≡ verdict_of (first_refusal (a ∷ b ∷ c ∷ d ∷ e ∷ f ∷ []))
sixth_says None None None None None (Some x) v is_a is_b is_c is_d is_e is_f = cc
sixth_says None None None None None None v is_a is_b is_c is_d is_e is_f = absurd cc
sixth_says (Some x) b c d e f v is_a is_b is_c is_d is_e is_f = absurd cc
sixth_says None (Some x) c d e f v is_a is_b is_c is_d is_e is_f = absurd cc
sixth_says None None (Some x) d e f v is_a is_b is_c is_d is_e is_f = absurd cc
sixth_says None None None (Some x) e f v is_a is_b is_c is_d is_e is_f = absurd cc
sixth_says None None None None (Some x) f v is_a is_b is_c is_d is_e is_f = absurd cc
