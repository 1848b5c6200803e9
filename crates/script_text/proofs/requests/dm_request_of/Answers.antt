use Rattle.std.proofs.Common.{◌≡◌, ℕ, List, Option, sym, ap, ◌∙◌, subst}
use Rattle.std.specs.Option.{option_map}
use Rattle.hsm_types.specs.declared.dm.DmCall.{DmCall}
use Rattle.call_forms.specs.Forms.{dm_verb_text, dm_verb_kinds, dm_form, dm_call_of}
use Rattle.call_forms.proofs.Forming.{dm_verb_text-injective, dm_form-of, dm_kinds}
use Rattle.script_text.specs.Reading.{dm_request_text, IsDmRequest}
use Rattle.script_text.proofs.Calling.{session_verbs, form_cut, form_read}
use Rattle.script_text.proofs.requests.dm_request_of.Goals as goal

pub returns-in_default : goal.returns-in_default
returns-in_default c x h same =
    let rest : Option (List ℕ) = option_map (λ rest. rest.now) c.first_word.result.1 in
    let cut = form_cut dm_verb_text dm_verb_kinds session_verbs c.args.text.now c.first_word.result.0.now rest (dm_form x.call).0 x.seed (dm_form x.call).1 c.first_word.ensures.whole c.first_word.ensures.first same in
    c.in_default.ensures (dm_form x.call).0 cut.0

pub returns-in_default-2 : goal.returns-in_default-2
returns-in_default-2 c x h same =
    let rest : Option (List ℕ) = option_map (λ rest. rest.now) c.first_word.result.1 in
    let cut = form_cut dm_verb_text dm_verb_kinds session_verbs c.args.text.now c.first_word.result.0.now rest (dm_form x.call).0 x.seed (dm_form x.call).1 c.first_word.ensures.whole c.first_word.ensures.first same in
    let verb : c.in-Some.verb ≡ (dm_form x.call).0 = dm_verb_text-injective c.in-Some.verb (dm_form x.call).0 (sym c.in-Some.ensures ∙ cut.0) in
    let wanted = dm_kinds x.call ∙ ap dm_verb_kinds (sym verb) in
    (rw c.in_default-2.is at c.in_ok-parts.ensures) (record { parts = (dm_form x.call).1; seed = x.seed }) (rw c.kinds.ensures (wanted, h)) cut.1

pub returns : goal.returns
returns c =
    let rest : Option (List ℕ) = option_map (λ rest. rest.now) c.first_word.result.1 in
    let seed : Option ℕ = c.in-Some-2.field-0.seed in
    let read = rw c.in-Some-2.is at c.in_ok-parts.ensures in
    let is = form_read dm_verb_text dm_verb_kinds c.args.text.now c.first_word.result.0.now rest c.in-Some.verb c.in-Some-2.field-0.parts seed (dm_form (dm_call_of c.in-Some.verb c.in-Some-2.field-0.parts))
    (dm_form-of c.in-Some.verb c.in-Some-2.field-0.parts (read.0.0 ∙ c.kinds.ensures)) c.first_word.ensures.whole c.in-Some.ensures (rw c.kinds.ensures at read.0) read.1 in
    let P : DmCall → Type 0 = λ call. IsDmRequest (record { call = call; seed = seed }) × (c.args.text.now ≡ dm_request_text (record { call = call; seed = seed })) in
    subst P (sym c.dm_call_of-call.ensures) is
