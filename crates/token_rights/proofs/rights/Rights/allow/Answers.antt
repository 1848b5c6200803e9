use Rattle.std.proofs.Common.{◌≡◌, sym, ap}
use Rattle.std.proofs.lemmas.Bool.{eq-eqb}
use Rattle.hsm_types.specs.Messages.{no_token}
use Rattle.hsm_types.specs.Rights.{bad_right, busy, conflict}
use Rattle.token_rights.proofs.rights.Rights.allow.Goals as goal

pub returns-then-token-eq0 : goal.returns-then-token-eq0
returns-then-token-eq0 c =
    let none : c.args.token ≡ no_token = λ i. record { 0 = c.if-token-eq0.true i } in
    let judged : bad_right c.args.token c.args.key c.args.need c.args.self.now ≡ busy (conflict c.args.key c.args.need c.args.token c.args.self.now) = rw (eq-eqb c.args.token.0 0 c.if-token-eq0.true) (ap (λ own. busy (conflict c.args.key c.args.need own c.args.self.now)) (sym none)) in
    rw judged c.check_free.ensures
