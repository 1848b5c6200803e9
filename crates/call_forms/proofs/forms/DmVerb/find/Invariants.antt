use Rattle.std.proofs.Common.{◌≡◌, None, take}
use Rattle.call_forms.specs.declared.forms.TheConstants.{DM_VERBS}
use Rattle.call_forms.specs.Forms.{dm_verb_text}
use Rattle.call_forms.proofs.Finding.{found}
use Rattle.call_forms.proofs.forms.DmVerb.find.Given as goal

abbrev pub invariant-loop-verb : goal.invariant-loop-verb
invariant-loop-verb l = record {
  list : l.verb-items ≡ DM_VERBS;
  passed : found dm_verb_text l.word (take l.verb-index DM_VERBS) ≡ None;
}
