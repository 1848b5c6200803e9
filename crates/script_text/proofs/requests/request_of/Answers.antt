use Rattle.std.proofs.Common.{◌≡◌, ℕ, List, Option, sym, ap, ◌∙◌, subst}
use Rattle.std.specs.Option.{option_map}
use Rattle.hsm_types.specs.declared.calls.Call.{Call}
use Rattle.call_forms.specs.Forms.{verb_text, verb_kinds, call_form, call_of}
use Rattle.call_forms.proofs.Forming.{verb_text-injective, call_form-of, call_kinds}
use Rattle.script_text.specs.Reading.{request_text, IsRequest}
use Rattle.script_text.proofs.Calling.{call_verbs, form_cut, form_read}
use Rattle.script_text.proofs.requests.request_of.Goals as goal

pub returns-in_default : goal.returns-in_default
returns-in_default c x h same =
    let rest : Option (List ℕ) = option_map (λ rest. rest.now) c.first_word.result.1 in
    let cut = form_cut verb_text verb_kinds call_verbs c.args.text.now c.first_word.result.0.now rest (call_form x.call).0 x.seed (call_form x.call).1 c.first_word.ensures.whole c.first_word.ensures.first same in
    c.in_default.ensures (call_form x.call).0 cut.0

pub returns-in_default-2 : goal.returns-in_default-2
returns-in_default-2 c x h same =
    let rest : Option (List ℕ) = option_map (λ rest. rest.now) c.first_word.result.1 in
    let cut = form_cut verb_text verb_kinds call_verbs c.args.text.now c.first_word.result.0.now rest (call_form x.call).0 x.seed (call_form x.call).1 c.first_word.ensures.whole c.first_word.ensures.first same in
    let verb : c.in-Some.verb ≡ (call_form x.call).0 = verb_text-injective c.in-Some.verb (call_form x.call).0 (sym c.in-Some.ensures ∙ cut.0) in
    let wanted = call_kinds x.call ∙ ap verb_kinds (sym verb) in
    (rw c.in_default-2.is at c.in_ok-parts.ensures) (record { parts = (call_form x.call).1; seed = x.seed }) (rw c.kinds.ensures (wanted, h)) cut.1

pub returns : goal.returns
returns c =
    let rest : Option (List ℕ) = option_map (λ rest. rest.now) c.first_word.result.1 in
    let seed : Option ℕ = c.in-Some-2.field-0.seed in
    let read = rw c.in-Some-2.is at c.in_ok-parts.ensures in
    let is = form_read verb_text verb_kinds c.args.text.now c.first_word.result.0.now rest c.in-Some.verb c.in-Some-2.field-0.parts seed (call_form (call_of c.in-Some.verb c.in-Some-2.field-0.parts))
    (call_form-of c.in-Some.verb c.in-Some-2.field-0.parts (read.0.0 ∙ c.kinds.ensures)) c.first_word.ensures.whole c.in-Some.ensures (rw c.kinds.ensures at read.0) read.1 in
    let P : Call → Type 0 = λ call. IsRequest (record { call = call; seed = seed }) × (c.args.text.now ≡ request_text (record { call = call; seed = seed })) in
    subst P (sym c.call_of-call.ensures) is
