use Rattle.std.proofs.Common.{◌≡◌, true, false}
use Rattle.std.proofs.lemmas.Bool.{not-true}
use Rattle.std.specs.Ordering.{is_gt}
use Rattle.hsm_types.specs.Rights.{same_token}
use Rattle.token_rights.specs.Indices.{held, held_cmp, stands}
use Rattle.token_rights.specs.declared.held.Held.{Held}
use Rattle.token_rights.proofs.Looking.{lowest, lowest-upto, other-first, nothing-held}
use Rattle.token_rights.proofs.rights.Rights.file_of.Goals as goal

pub returns-in_default : goal.returns-in_default
returns-in_default c =
    let part = c.range.ensures.in_range tt in
    rw (← c.self.view_is)
    (nothing-held c.args.token c.self.inside.by_file.entries c.self.inside.by_token.keys c.self.invariant (λ k. part.5 c.in_default.ensures.steps.0 (held c.args.token k) (lowest-upto c.args.token k, tt)))

pub returns-then-ne : goal.returns-then-ne
returns-then-ne c =
    let part = c.range.ensures.in_range tt in
    let first = c.in-Some.held.now in
    let other : same_token first.token c.args.token ≡ false = not-true (same_token first.token c.args.token) (rw (← c.ne.ensures) c.if-ne.true) in
    let above : is_gt (held_cmp (lowest c.args.token) first) ≡ false = (rw c.in-Some.ensures.steps at part.1).0.0 in
    let least : (q : Held) → is_gt (held_cmp (lowest c.args.token) q) ≡ false → stands q c.self.inside.by_token.keys ≡ true → is_gt (held_cmp first q) ≡ false = λ q from there. rw c.in-Some.ensures.steps at (part.2 q (from, tt) there) in
    rw (← c.self.view_is)
    (nothing-held c.args.token c.self.inside.by_file.entries c.self.inside.by_token.keys c.self.invariant (other-first c.args.token first c.self.inside.by_token.keys other above least))
