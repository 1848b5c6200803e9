use Rattle.std.proofs.Common.{◌≡◌, true, false, if◌then◌else◌, refl, sym, ◌∙◌}
use Rattle.hsm_types.specs.declared.keys.Token.{Token}
use Rattle.daemon_session.specs.declared.events.Kept.{Kept}
use Rattle.daemon_session.specs.Seats.{has_kept_token}
use Rattle.hsm_types.proofs.Changing.{changed_next}
use Rattle.daemon_session.proofs.keeping.mark.Goals as goal
use Rattle.daemon_session.proofs.keeping.mark.Goals.{then-eq, else-eq}

abbrev marked : Token → Kept → Kept
marked t k = if has_kept_token t k then record k { marked = true } else k

is_marked : (t : Token) (k : Kept) → has_kept_token t k ≡ true → record k { marked = true } ≡ marked t k
is_marked t k same = rw same refl

isnt_marked : (t : Token) (k : Kept) → has_kept_token t k ≡ false → k ≡ marked t k
isnt_marked t k other = rw other refl

pub loop-one-preserved : goal.loop-one-preserved
loop-one-preserved c = elim c.if-eq.branch [
  | then-eq w ↦ w.kept-is ∙ changed_next (marked c.args.token) c.args.kept.now c.loop-one.kept c.loop-one.one-index _ _ c.loop-one.invariant c.loop-one-test.true (is_marked c.args.token _ (sym c.eq.ensures ∙ w.if-eq.true))
  | else-eq w ↦ w.kept-is ∙ changed_next (marked c.args.token) c.args.kept.now c.loop-one.kept c.loop-one.one-index _ _ c.loop-one.invariant c.loop-one-test.true (isnt_marked c.args.token _ (sym c.eq.ensures ∙ w.if-eq.false))
]
