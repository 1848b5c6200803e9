-- Words of a list, each with a space in front.
use Rattle.std.proofs.Common.{◌≡◌, ℕ, ◌<◌, List, [], ◌∷◌, ◌++◌, length, map, ap, arith, rules}
use Rattle.std.specs.List.{flat_map}
use Rattle.std.specs.Prelude.{Result, Ok, Err, OnOk}
use Rattle.std.specs.Fmt.{decimal}
use Rattle.hsm_types.specs.declared.attributes.AttrName.{AttrName}
use Rattle.hsm_types.specs.declared.keys.Sid.{Sid}
use Rattle.hsm_types.specs.declared.keys.Token.{Token}
use Rattle.hsm_types.specs.declared.regions.Region.{Region}
use Rattle.call_forms.specs.declared.parts.Part.{Part}
use Rattle.event_text.specs.Render.{spaced, listed, name_word, region_word, regions_word, part_word, form_words}

each_spaced : (sid : Sid) (sids : List Sid) → flat_map (λ (s : Sid). 32 ∷ decimal s.0) (sid ∷ sids) ≡ 32 ∷ spaced (map (λ (s : Sid). decimal s.0) (sid ∷ sids))
each_spaced sid [] = search rules
each_spaced sid (next ∷ sids) = ap (λ l. 32 ∷ decimal sid.0 ++ l) (each_spaced next sids)

pub ids_spaced : (sids : List Sid) → 0 < length sids → flat_map (λ (s : Sid). 32 ∷ decimal s.0) sids ≡ 32 ∷ spaced (listed (map (λ (s : Sid). decimal s.0) sids))
ids_spaced [] some = absurd (omega arith)
ids_spaced (sid ∷ sids) some = each_spaced sid sids

each_token_spaced : (token : Token) (tokens : List Token) → flat_map (λ (t : Token). 32 ∷ decimal t.0) (token ∷ tokens) ≡ 32 ∷ spaced (map (λ (t : Token). decimal t.0) (token ∷ tokens))
each_token_spaced token [] = search rules
each_token_spaced token (next ∷ tokens) = ap (λ l. 32 ∷ decimal token.0 ++ l) (each_token_spaced next tokens)

pub tokens_spaced : (tokens : List Token) → 0 < length tokens → flat_map (λ (t : Token). 32 ∷ decimal t.0) tokens ≡ 32 ∷ spaced (listed (map (λ (t : Token). decimal t.0) tokens))
tokens_spaced [] some = absurd (omega arith)
tokens_spaced (token ∷ tokens) some = each_token_spaced token tokens

each_name_spaced : (name : AttrName) (names : List AttrName) → flat_map (λ (n : AttrName). 32 ∷ name_word n) (name ∷ names) ≡ 32 ∷ spaced (map name_word (name ∷ names))
each_name_spaced name [] = search rules
each_name_spaced name (next ∷ names) = ap (λ l. 32 ∷ name_word name ++ l) (each_name_spaced next names)

pub names_spaced : (names : List AttrName) → 0 < length names → flat_map (λ (n : AttrName). 32 ∷ name_word n) names ≡ 32 ∷ spaced (listed (map name_word names))
names_spaced [] some = absurd (omega arith)
names_spaced (name ∷ names) some = each_name_spaced name names

-- parts, each with a space in front, behind a verb
pub parts_joined : (word : List ℕ → List ℕ) (verb : List ℕ) (ps : List Part) → verb ++ flat_map (λ (p : Part). 32 ∷ part_word word p) ps ≡ spaced (form_words word verb ps)
parts_joined word verb [] = search rules
parts_joined word verb (p ∷ ps) = ap (λ l. verb ++ 32 ∷ l) (parts_joined word (part_word word p) ps)

-- regions with a comma between each two are the first one, and then each other with a comma in front
pub regions_joined : (r : Region) (rs : List Region) → region_word r ++ flat_map (λ (x : Region). 44 ∷ region_word x) rs ≡ regions_word (r ∷ rs)
regions_joined r [] = search rules
regions_joined r (next ∷ rs) = ap (λ l. region_word r ++ 44 ∷ l) (regions_joined next rs)

-- what follows on success
pub on_ok : {T E P Q : Type 0} (r : Result T E) → (P → Q) → OnOk r P → OnOk r Q
on_ok (Ok x) f p = f p
on_ok (Err e) f p = tt
