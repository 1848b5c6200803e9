-- What responses spell, and why nothing else.
use Rattle.std.proofs.Common.{◌≡◌, ◌≢◌, ℕ, List, [], ◌∷◌, ◌++◌, drop, refl, sym, ap, ◌∙◌, arith}
use Rattle.std.specs.Prelude.{codes, ◌==◌, if◌then◌else◌}
use Rattle.std.specs.Fmt.{decimal}
use Rattle.std.specs.Str.Parse.{digits_value}
use Rattle.hsm_types.specs.declared.dm.Response.{Response}
use Rattle.hsm_types.specs.declared.dm.Response.TheVariants.{Continue, Abort, Media}
use Rattle.event_text.specs.Render.{response_word}
use Rattle.script_text.specs.Lines.{IsResponse}
use Rattle.script_text.specs.Reading.{Lacks}
use Rattle.script_text.proofs.Cutting.{Lacks-append, Lacks-not, cut_same}
use Rattle.script_text.proofs.Numerals.{Lacks-decimal, digits_value-decimal}
use Rattle.script_text.proofs.Spelling.{Lacks-computed}

-- ---- a response is got back from its text

-- which of both it is, its first byte tells
abbrev pub response_at : List ℕ → Response
response_at [] = Continue
response_at (b ∷ bs) = if b == 97 then Abort (digits_value 10 (drop 5 bs)) else Continue

pub response_at-word : (r : Response) → IsResponse r → response_at (response_word r) ≡ r
response_at-word Continue h = refl
response_at-word (Media fault) h = absurd h
response_at-word (Abort error) h = ap Abort (digits_value-decimal error (omega (arith, h)))

-- it has a space, and no newline
pub Lacks-response : (r : Response) → IsResponse r → Lacks 10 (response_word r)
Lacks-response Continue h = Lacks-computed 10 (codes "continue") refl
Lacks-response (Media fault) h = absurd h
Lacks-response (Abort error) h = Lacks-append 10 (codes "abort ") (decimal error) (Lacks-computed 10 (codes "abort ") refl) (Lacks-decimal 10 error (omega arith) (omega (arith, h)))

-- ---- what the first space of a response cuts

-- no space
pub response_uncut : (text : List ℕ) (r : Response) → IsResponse r → Lacks 32 text → text ≢ codes "continue" → text ≡ response_word r → ⊥
response_uncut text Continue lawful h other same = other same
response_uncut text (Media fault) lawful h other same = lawful
response_uncut text (Abort error) lawful h other same = Lacks-not 32 (codes "abort") (decimal error) (rw same at h)

-- an abort and its error
pub record IsAbort (word error : List ℕ) (r : Response) : Type 0 where
  pub count : ℕ
  pub is : r ≡ Abort count
  pub first : word ≡ codes "abort"
  pub second : error ≡ decimal count

pub response_cut : (text word error : List ℕ) (r : Response) → IsResponse r → text ≡ word ++ 32 ∷ error → Lacks 32 word → text ≢ codes "continue" → text ≡ response_word r → IsAbort word error r
response_cut text word error Continue lawful cut h other same = absurd (other same)
response_cut text word error (Media fault) lawful cut h other same = absurd lawful
response_cut text word error (Abort n) lawful cut h other same =
    let both = cut_same 32 word error (codes "abort") (decimal n) h (Lacks-computed 32 (codes "abort") refl) (sym cut ∙ same) in
    record { count = n; is = refl; first = both.0; second = both.1 }
