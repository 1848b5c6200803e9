-- What data spell, and why nothing else.
use Rattle.std.proofs.Common.{◌≡◌, ◌≢◌, ℕ, ◌<◌, ◌^◌, inl, inr, ◌⊎◌, List, [], ◌∷◌, ◌++◌, length, Bool, true, false, Option, Some, None, refl, sym, ap, ◌∙◌}
use Rattle.std.proofs.Common.{arith}
use Rattle.std.specs.Prelude.{codes}
use Rattle.std.specs.Fmt.{decimal}
use Rattle.std.specs.Str.{bytes_eq}
use Rattle.std.proofs.lemmas.Bool.{false≢true}
use Rattle.std.proofs.lemmas.List.FromFn.{length-map-range_with_len}
use Rattle.std.proofs.lemmas.Fmt.{decimal_injective}
use Rattle.std.proofs.lemmas.Slice.Eq.{bytes_eq-Decides}
use Rattle.hex.specs.Hex.{encode_lower}
use Rattle.script_text.specs.declared.bodies.Pattern.{Pattern}
use Rattle.script_text.specs.Lines.{coloned, data_word, pattern, pattern_byte, IsData}
use Rattle.script_text.specs.Reading.{Lacks, IsNumber, pattern_text, IsPattern}
use Rattle.script_text.proofs.Cutting.{Lacks-not, cut_same}
use Rattle.script_text.proofs.HexText.{length-encoded}
use Rattle.script_text.proofs.Spelling.{Lacks-computed, Lacks-colon}

-- bytes that compare as the same, and that don't
pub agree : (xs ys zs : List ℕ) (r : Bool) → r ≡ bytes_eq xs ys → ys ≡ zs → r ≡ true → xs ≡ zs
agree xs ys zs r is literal passed = (bytes_eq-Decides xs ys).0 (sym is ∙ passed) ∙ literal

pub differ : (xs ys zs : List ℕ) (r : Bool) → r ≡ bytes_eq xs ys → ys ≡ zs → r ≡ false → xs ≢ zs
differ xs ys zs r is literal failed same = false≢true (sym failed ∙ is ∙ (bytes_eq-Decides xs ys).1 (same ∙ sym literal))

pub pattern_uncut : (text : List ℕ) (x : Pattern) → Lacks 58 text → text ≡ pattern_text x → ⊥
pattern_uncut text x h same = Lacks-not 58 (decimal x.len) (decimal x.seed) (rw same at h)

pub pattern_cut : (text len seed : List ℕ) (x : Pattern) → text ≡ len ++ 58 ∷ seed → Lacks 58 len → IsPattern x → text ≡ pattern_text x → (len ≡ decimal x.len) × (seed ≡ decimal x.seed)
pattern_cut text len seed x cut h k same =
    cut_same 58 len seed (decimal x.len) (decimal x.seed) h (Lacks-colon x.len (omega (arith, k.0))) (sym cut ∙ same)

pub pattern_numbers : (text len seed : List ℕ) (m n : ℕ) (x : Pattern) → text ≡ len ++ 58 ∷ seed → Lacks 58 len → IsNumber m → len ≡ decimal m → IsNumber n → seed ≡ decimal n → IsPattern x → text ≡ pattern_text x → (m ≡ x.len) × (n ≡ x.seed)
pattern_numbers text len seed m n x cut h small is small' is' k same =
    let parts = pattern_cut text len seed x cut h k same in
    (decimal_injective m x.len small (omega (arith, k.0)) (sym is ∙ parts.0), decimal_injective n x.seed small' (omega (arith, k.1)) (sym is' ∙ parts.1))

pub data_kind : (word kind rest : List ℕ) (seed : Option ℕ) (bytes : List ℕ) → word ≡ kind ++ 58 ∷ rest → Lacks 58 kind → word ≡ data_word seed bytes → (kind ≡ codes "x") ⊎ (kind ≡ codes "p")
data_kind word kind rest None bytes cut h same =
    inl (cut_same 58 kind rest (codes "x") (encode_lower bytes) h (Lacks-computed 58 (codes "x") refl) (sym cut ∙ same)).0
data_kind word kind rest (Some seed) bytes cut h same =
    inr (cut_same 58 kind rest (codes "p") (coloned (decimal (length bytes) ∷ decimal seed ∷ [])) h (Lacks-computed 58 (codes "p") refl) (sym cut ∙ same)).0

pub pattern_data : (text : List ℕ) (seed : Option ℕ) (bytes : List ℕ) → IsData seed bytes → codes "p:" ++ text ≡ data_word seed bytes → (x : Pattern) × IsPattern x × (text ≡ pattern_text x)
pattern_data text None bytes h same = let wrong : ◌≡◌ {A = ℕ} 112 120 = cc same in absurd (omega (arith, wrong))
pattern_data text (Some seed) bytes h same =
    let x : Pattern = record { len = length bytes; seed = seed } in (x, (h.0, h.1), cc same)

pub length-pattern : (len seed : ℕ) → length (pattern len seed) ≡ len
length-pattern len seed = length-map-range_with_len (pattern_byte seed) 0 len

-- the bytes of a pattern are data with its seed, and spelled as it is
pub pattern_body : (text bytes : List ℕ) (x : Pattern) → IsPattern x → text ≡ pattern_text x → bytes ≡ pattern x.len x.seed → IsData (Some x.seed) bytes × (codes "p:" ++ text ≡ data_word (Some x.seed) bytes)
pattern_body text bytes x h same is =
    let long : length bytes ≡ x.len = ap length is ∙ length-pattern x.len x.seed in
    rw long ((h.0, h.1, is), ap (λ t. codes "p:" ++ t) same)

-- data are no more than the bytes of their spelling, or than a seed may stand for
pub data_few : (seed : Option ℕ) (bytes : List ℕ) → IsData seed bytes → length (data_word seed bytes) < 2 ^ 32 → length bytes < 2 ^ 32
data_few None bytes is short = omega (arith, length-encoded bytes)
data_few (Some seed) bytes is short = omega (arith, is.0)
