-- Calls and their forms, each got from the other. What goes by calls or verbs is computed for each.
use Rattle.std.proofs.Common.{◌≡◌, ℕ, List, [], ◌∷◌, Option, Some, map, drop, refl, sym, ap, ◌∙◌}
use Rattle.std.specs.List.{find}
use Rattle.std.specs.Str.{bytes_eq}
use Rattle.hsm_types.specs.declared.calls.Call.{Call}
use Rattle.hsm_types.specs.declared.calls.Call.TheVariants.{Sync}
use Rattle.hsm_types.specs.declared.dm.DmCall.{DmCall}
use Rattle.hsm_types.specs.declared.dm.DmCall.TheVariants.{GetSpace}
use Rattle.call_forms.specs.declared.forms.CallVerb.{CallVerb}
use Rattle.call_forms.specs.declared.forms.CallVerb.TheVariants as verbs
use Rattle.call_forms.specs.declared.forms.DmVerb.{DmVerb}
use Rattle.call_forms.specs.declared.forms.DmVerb.TheVariants as dm_verbs
use Rattle.call_forms.specs.declared.forms.TheConstants.{CALL_VERBS, DM_VERBS}
use Rattle.call_forms.specs.declared.parts.Part.{Part}
use Rattle.call_forms.specs.declared.parts.Part.TheVariants as part
use Rattle.call_forms.specs.declared.parts.PartKind.{PartKind}
use Rattle.call_forms.specs.declared.parts.PartKind.TheVariants as kinds
use Rattle.call_forms.specs.Parts.{kind_of, number_in, count_in, fetch_in, word_in, handle_in, regions_in, name_in, kinds_in, response_in, right_in}
use Rattle.call_forms.specs.Parts.{digest_in, data_in, verified_in}
use Rattle.call_forms.specs.Forms.{verb_text, verb_kinds, call_form, call_of, dm_verb_text, dm_verb_kinds, dm_form, dm_call_of}

some_same : {A : Type 0} (x y : A) → Some x ≡ Some y → x ≡ y
some_same x y e = cc e

-- ---- parts

-- the first part again, if it is of the kind
abbrev pub made : PartKind → List Part → Part
made kinds.Number ps = part.Number (number_in ps)
made kinds.Count ps = part.Count (count_in ps)
made kinds.Fetch ps = part.Fetch (fetch_in ps)
made kinds.Word ps = part.Word (word_in ps)
made kinds.Handle ps = part.Handle (handle_in ps)
made kinds.Regions ps = part.Regions (regions_in ps)
made kinds.Name ps = part.Name (name_in ps)
made kinds.Kinds ps = part.Kinds (kinds_in ps)
made kinds.Response ps = part.Response (response_in ps)
made kinds.Right ps = part.Right (right_in ps)
made kinds.Digest ps = part.Digest (digest_in ps)
made kinds.Data ps = part.Data (data_in ps)
made kinds.Verified ps = part.Verified (verified_in ps)

pub made-same : (p : Part) (ps : List Part) → made (kind_of p) (p ∷ ps) ≡ p
made-same (part.Number n) ps = refl
made-same other ps = refl

abbrev all_made : List PartKind → List Part → List Part
all_made [] ps = []
all_made (k ∷ ks) ps = made k ps ∷ all_made ks (drop 1 ps)

all_made-same : (ps : List Part) → all_made (map kind_of ps) ps ≡ ps
all_made-same [] = refl
all_made-same (p ∷ ps) = let first = made-same p ps in let others = all_made-same ps in cc (first, others)

-- a form that is made again is the form
formed_again : {V : Type 0} (v : V) (ks : List PartKind) (ps : List Part) (form : V × List Part) → form ≡ (v, all_made ks ps) → map kind_of ps ≡ ks → form ≡ (v, ps)
formed_again v ks ps form is fits = is ∙ ap (λ js. (v, all_made js ps)) (sym fits) ∙ ap (λ qs. (v, qs)) (all_made-same ps)

-- ---- callers

-- the verb that a text is, by the list of them
abbrev pub verb_at : List ℕ → Option CallVerb
verb_at text = find (λ v. bytes_eq (verb_text v) text) CALL_VERBS

-- each verb is in the list, and none before it has its text
pub verb_at-text : (v : CallVerb) → verb_at (verb_text v) ≡ Some v
verb_at-text verbs.Sync = refl
verb_at-text other = refl

pub verb_text-injective : (v w : CallVerb) → verb_text v ≡ verb_text w → v ≡ w
verb_text-injective v w e = some_same v w (sym (verb_at-text v) ∙ ap verb_at e ∙ verb_at-text w)

formed : (v : CallVerb) (ps : List Part) → call_form (call_of v ps) ≡ (v, all_made (verb_kinds v) ps)
formed verbs.Sync ps = refl
formed other ps = refl

-- parts of a verb's kinds are those of its call
pub call_form-of : (v : CallVerb) (ps : List Part) → map kind_of ps ≡ verb_kinds v → call_form (call_of v ps) ≡ (v, ps)
call_form-of v ps fits = formed_again v (verb_kinds v) ps (call_form (call_of v ps)) (formed v ps) fits

-- a call is that of its form
pub call_of-form : (c : Call) → call_of (call_form c).0 (call_form c).1 ≡ c
call_of-form Sync = refl
call_of-form other = refl

-- its parts are of its verb's kinds
pub call_kinds : (c : Call) → map kind_of (call_form c).1 ≡ verb_kinds (call_form c).0
call_kinds Sync = refl
call_kinds other = refl

-- ---- sessions

abbrev pub dm_verb_at : List ℕ → Option DmVerb
dm_verb_at text = find (λ v. bytes_eq (dm_verb_text v) text) DM_VERBS

pub dm_verb_at-text : (v : DmVerb) → dm_verb_at (dm_verb_text v) ≡ Some v
dm_verb_at-text dm_verbs.GetSpace = refl
dm_verb_at-text other = refl

pub dm_verb_text-injective : (v w : DmVerb) → dm_verb_text v ≡ dm_verb_text w → v ≡ w
dm_verb_text-injective v w e = some_same v w (sym (dm_verb_at-text v) ∙ ap dm_verb_at e ∙ dm_verb_at-text w)

dm_formed : (v : DmVerb) (ps : List Part) → dm_form (dm_call_of v ps) ≡ (v, all_made (dm_verb_kinds v) ps)
dm_formed dm_verbs.GetSpace ps = refl
dm_formed other ps = refl

pub dm_form-of : (v : DmVerb) (ps : List Part) → map kind_of ps ≡ dm_verb_kinds v → dm_form (dm_call_of v ps) ≡ (v, ps)
dm_form-of v ps fits = formed_again v (dm_verb_kinds v) ps (dm_form (dm_call_of v ps)) (dm_formed v ps) fits

pub dm_call_of-form : (c : DmCall) → dm_call_of (dm_form c).0 (dm_form c).1 ≡ c
dm_call_of-form GetSpace = refl
dm_call_of-form other = refl

pub dm_kinds : (c : DmCall) → map kind_of (dm_form c).1 ≡ dm_verb_kinds (dm_form c).0
dm_kinds GetSpace = refl
dm_kinds other = refl
