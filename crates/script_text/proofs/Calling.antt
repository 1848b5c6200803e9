-- Calls: what a verb and the parts behind it spell, and why nothing else.
use Rattle.std.proofs.Common.{◌≡◌, ◌≢◌, ℕ, List, [], ◌∷◌, map, true, false, Option, Some, None, refl, sym, ap, ◌∙◌, subst}
use Rattle.std.specs.Prelude.{codes}
use Rattle.std.specs.List.{AllByRecursion}
use Rattle.std.specs.Str.{bytes_eq}
use Rattle.hsm_types.specs.declared.calls.Call.{Call}
use Rattle.hsm_types.specs.declared.dm.DmCall.{DmCall}
use Rattle.call_forms.specs.declared.forms.CallVerb.{CallVerb}
use Rattle.call_forms.specs.declared.forms.CallVerb.TheVariants as verbs
use Rattle.call_forms.specs.declared.forms.DmVerb.{DmVerb}
use Rattle.call_forms.specs.declared.forms.DmVerb.TheVariants as dm_verbs
use Rattle.call_forms.specs.declared.parts.Part.{Part}
use Rattle.call_forms.specs.declared.parts.PartKind.{PartKind}
use Rattle.call_forms.specs.Parts.{kind_of}
use Rattle.call_forms.specs.Forms.{verb_text, verb_kinds, call_form, call_of, dm_verb_text, dm_verb_kinds, dm_form, dm_call_of}
use Rattle.call_forms.proofs.Forming.{verb_text-injective, call_of-form, call_kinds, dm_verb_text-injective, dm_call_of-form, dm_kinds}
use Rattle.event_text.specs.Render.{spaced, part_word, form_words}
use Rattle.script_text.specs.declared.requests.DmRequest.{DmRequest}
use Rattle.script_text.specs.declared.requests.Request.{Request}
use Rattle.script_text.specs.Lines.{data_word, AreParts}
use Rattle.script_text.specs.Reading.{Lacks, behind_verb, AreOfKinds, is_signature, with_rest, form_text, request_text, IsRequest, dm_request_text, IsDmRequest}
use Rattle.script_text.proofs.Cutting.{Lacks-not, cut_same}
use Rattle.script_text.proofs.DataParts.{differ}
use Rattle.script_text.proofs.Spelling.{IsVisible, Lacks-visible}
use Rattle.script_text.proofs.Parting.{same_parts, Lacks-parts}

-- ---- verbs

-- what is true of all verbs of a kind
pub record AreVerbs {V : Type 0} (text : V → List ℕ) (wanted : V → List PartKind) : Type 0 where
  pub visible : (v : V) → IsVisible (text v)
  pub differ : (v w : V) → text v ≡ text w → v ≡ w
  pub signed : (v : V) → is_signature (wanted v) ≡ true

-- computed for each
visible_verb : (v : CallVerb) → IsVisible (verb_text v)
visible_verb verbs.Sync = refl
visible_verb other = refl

signed_verb : (v : CallVerb) → is_signature (verb_kinds v) ≡ true
signed_verb verbs.Sync = refl
signed_verb other = refl

pub call_verbs : AreVerbs verb_text verb_kinds
call_verbs = record { visible = visible_verb; differ = verb_text-injective; signed = signed_verb }

visible_dm_verb : (v : DmVerb) → IsVisible (dm_verb_text v)
visible_dm_verb dm_verbs.GetSpace = refl
visible_dm_verb other = refl

signed_dm_verb : (v : DmVerb) → is_signature (dm_verb_kinds v) ≡ true
signed_dm_verb dm_verbs.GetSpace = refl
signed_dm_verb other = refl

pub session_verbs : AreVerbs dm_verb_text dm_verb_kinds
session_verbs = record { visible = visible_dm_verb; differ = dm_verb_text-injective; signed = signed_dm_verb }

verb_lacks : {V : Type 0} (text : V → List ℕ) (wanted : V → List PartKind) → AreVerbs text wanted → (v : V) → Lacks 32 (text v)
verb_lacks text wanted are v = Lacks-visible 32 (text v) refl (are.visible v)

-- ---- a word and what stands behind it

with_rest-same : (w v : List ℕ) (r s : Option (List ℕ)) → Lacks 32 w → Lacks 32 v → with_rest w r ≡ with_rest v s → (w ≡ v) × (r ≡ s)
with_rest-same w v None None h k e = (e, refl)
with_rest-same w v None (Some s) h k e = absurd (Lacks-not 32 v s (rw e at h))
with_rest-same w v (Some r) None h k e = absurd (Lacks-not 32 w r (rw (sym e) at k))
with_rest-same w v (Some r) (Some s) h k e =
    let same = cut_same 32 w r v s h k e in
    let rest : r ≡ s = same.1 in
    (same.0, cc rest)

form_text-is : (seed : Option ℕ) (verb : List ℕ) (ps : List Part) → form_text seed verb ps ≡ with_rest verb (behind_verb seed ps)
form_text-is seed verb [] = refl
form_text-is seed verb (p ∷ ps) = refl

-- ---- forms

-- the verb of a text, and what stands behind it
pub form_cut : {V : Type 0} (text : V → List ℕ) (wanted : V → List PartKind) → AreVerbs text wanted → (whole word : List ℕ) (rest : Option (List ℕ)) (v : V) (seed : Option ℕ) (ps : List Part)
    → whole ≡ with_rest word rest → Lacks 32 word → whole ≡ form_text seed (text v) ps → (word ≡ text v) × (rest ≡ behind_verb seed ps)
form_cut text wanted are whole word rest v seed ps cut lacks same =
    with_rest-same word (text v) rest (behind_verb seed ps) lacks (verb_lacks text wanted are v) (sym cut ∙ same ∙ form_text-is seed (text v) ps)

-- a form with that verb and these parts is lawful, and spelled as they are
pub form_read : {V : Type 0} (text : V → List ℕ) (wanted : V → List PartKind) (whole word : List ℕ) (rest : Option (List ℕ)) (v : V) (ps : List Part) (seed : Option ℕ) (form : V × List Part)
    → form ≡ (v, ps) → whole ≡ with_rest word rest → word ≡ text v → AreOfKinds (wanted v) (record { parts = ps; seed = seed }) → rest ≡ behind_verb seed ps
    → AreParts seed form.1 × (whole ≡ form_text seed (text form.0) form.1)
form_read {V} text wanted whole word rest v ps seed form is cut verb h behind =
    let P : V × List Part → Type 0 = λ f. AreParts seed f.1 × (whole ≡ form_text seed (text f.0) f.1) in
    subst P (sym is) (h.1, cut ∙ ap (λ w. with_rest w rest) verb ∙ ap (with_rest (text v)) behind ∙ sym (form_text-is seed (text v) ps))

-- two forms that are one, with their seeds
pub record AreOne {V : Type 0} (s t : Option ℕ) (f g : V × List Part) : Type 0 where
  pub forms : f ≡ g
  pub seeds : s ≡ t

same_words : (s t : Option ℕ) (ps qs : List Part) → behind_verb s ps ≡ behind_verb t qs → spaced (map (part_word (data_word s)) ps) ≡ spaced (map (part_word (data_word t)) qs)
same_words s t [] [] e = refl
same_words s t [] (q ∷ qs) e = cc e
same_words s t (p ∷ ps) [] e = cc e
same_words s t (p ∷ ps) (q ∷ qs) e = cc e

-- one text is that of one form
one_form : {V : Type 0} (text : V → List ℕ) (wanted : V → List PartKind) → AreVerbs text wanted → (s t : Option ℕ) (f g : V × List Part) → map kind_of f.1 ≡ wanted f.0 → map kind_of g.1 ≡ wanted g.0
    → AreParts s f.1 → AreParts t g.1 → form_text s (text f.0) f.1 ≡ form_text t (text g.0) g.1 → AreOne s t f g
one_form text wanted are s t f g fits fits' h k e =
    let cut = form_cut text wanted are (form_text s (text f.0) f.1) (text f.0) (behind_verb s f.1) g.0 t g.1 (form_text-is s (text f.0) f.1) (verb_lacks text wanted are f.0) e in
    let verb : f.0 ≡ g.0 = are.differ f.0 g.0 cut.0 in
    let kinds_are : map kind_of f.1 ≡ map kind_of g.1 = fits ∙ ap wanted verb ∙ sym fits' in
    let same = same_parts s t f.1 g.1 kinds_are (ap is_signature fits ∙ are.signed f.0) h k (same_words s t f.1 g.1 cut.1) in
    record { forms = ap (λ v. (v, f.1)) verb ∙ ap (λ ps. (g.0, ps)) same.parts; seeds = same.seeds }

-- it has no newline
Lacks-form : {V : Type 0} (text : V → List ℕ) (wanted : V → List PartKind) → AreVerbs text wanted → (seed : Option ℕ) (f : V × List Part) → map kind_of f.1 ≡ wanted f.0 → AreParts seed f.1
    → AllByRecursion (Lacks 10) (form_words (data_word seed) (text f.0) f.1)
Lacks-form text wanted are seed f fits h = (Lacks-visible 10 (text f.0) refl (are.visible f.0), Lacks-parts seed f.1 (ap is_signature fits ∙ are.signed f.0) h)

-- ---- requests

pub one_request : (x y : Request) → IsRequest x → IsRequest y → request_text x ≡ request_text y → (x.call ≡ y.call) × (x.seed ≡ y.seed)
one_request x y h k e =
    let one = one_form verb_text verb_kinds call_verbs x.seed y.seed (call_form x.call) (call_form y.call) (call_kinds x.call) (call_kinds y.call) h k e in
    (sym (call_of-form x.call) ∙ ap (λ (f : CallVerb × List Part). call_of f.0 f.1) one.forms ∙ call_of-form y.call, one.seeds)

pub Lacks-request : (seed : Option ℕ) (call : Call) → AreParts seed (call_form call).1 → AllByRecursion (Lacks 10) (form_words (data_word seed) (verb_text (call_form call).0) (call_form call).1)
Lacks-request seed call h = Lacks-form verb_text verb_kinds call_verbs seed (call_form call) (call_kinds call) h

-- computed for each
no_resuming_verb : (v : CallVerb) → bytes_eq (codes "resume") (verb_text v) ≡ false
no_resuming_verb verbs.Sync = refl
no_resuming_verb other = refl

-- no call is spelled as a resume
pub no_resume : (r : Request) → codes "resume" ≢ request_text r
no_resume r same =
    let v : CallVerb = (call_form r.call).0 in
    let cut = form_cut verb_text verb_kinds call_verbs (codes "resume") (codes "resume") None v r.seed (call_form r.call).1 refl (Lacks-visible 32 (codes "resume") refl refl) same in
    differ (codes "resume") (verb_text v) (verb_text v) false (sym (no_resuming_verb v)) refl refl cut.0

pub one_dm_request : (x y : DmRequest) → IsDmRequest x → IsDmRequest y → dm_request_text x ≡ dm_request_text y → (x.call ≡ y.call) × (x.seed ≡ y.seed)
one_dm_request x y h k e =
    let one = one_form dm_verb_text dm_verb_kinds session_verbs x.seed y.seed (dm_form x.call) (dm_form y.call) (dm_kinds x.call) (dm_kinds y.call) h k e in
    (sym (dm_call_of-form x.call) ∙ ap (λ (f : DmVerb × List Part). dm_call_of f.0 f.1) one.forms ∙ dm_call_of-form y.call, one.seeds)

pub Lacks-dm_request : (seed : Option ℕ) (call : DmCall) → AreParts seed (dm_form call).1 → AllByRecursion (Lacks 10) (form_words (data_word seed) (dm_verb_text (dm_form call).0) (dm_form call).1)
Lacks-dm_request seed call h = Lacks-form dm_verb_text dm_verb_kinds session_verbs seed (dm_form call) (dm_kinds call) h
