use Rattle.std.proofs.Common.{◌≡◌, None, take}
use Rattle.call_forms.specs.declared.forms.TheConstants.{CALL_VERBS}
use Rattle.call_forms.specs.Forms.{verb_text}
use Rattle.call_forms.proofs.Finding.{found}
use Rattle.call_forms.proofs.forms.CallVerb.find.Given as goal

abbrev pub invariant-loop-verb : goal.invariant-loop-verb
invariant-loop-verb l = record {
  list : l.verb-items ≡ CALL_VERBS;
  passed : found verb_text l.word (take l.verb-index CALL_VERBS) ≡ None;
}
