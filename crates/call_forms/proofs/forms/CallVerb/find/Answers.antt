use Rattle.std.proofs.Common.{refl, arith}
use Rattle.call_forms.specs.declared.forms.TheConstants.{CALL_VERBS}
use Rattle.call_forms.specs.declared.forms.CallVerb.TheVariants as verbs
use Rattle.call_forms.specs.Forms.{verb_text}
use Rattle.call_forms.proofs.Finding.{passed_more, passed_all}
use Rattle.call_forms.proofs.Forming.{verb_at-text}
use Rattle.call_forms.proofs.forms.CallVerb.find.Goals as goal

pub loop-verb-preserved : goal.loop-verb-preserved
loop-verb-preserved c = record {
  list = refl;
  passed = passed_more verb_text c.args.word.now c.text.result.now CALL_VERBS c.loop-verb.verb-index verbs.Create c.eq.result (omega arith) c.eq.ensures c.if-eq.false c.text.ensures c.loop-verb.invariant.passed;
}

pub returns : goal.returns
returns c v = passed_all verb_text c.args.word.now CALL_VERBS c.loop-verb.verb-index v (verb_at-text v) (omega arith) c.loop-verb.invariant.passed
