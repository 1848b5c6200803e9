use Rattle.std.proofs.Common.{◌≡◌}
use Rattle.std.specs.String.{string_bytes}
use Rattle.drill_script.proofs.Telling.{told}
use Rattle.drill_script.proofs.summary.summary_text.Goals as goal

pub returns : goal.returns
returns c =
    let made : c.from.result ≡ string_bytes c.in_ok-text.text = cc (c.from.ensures, c.into_bytes.ensures.value) in
    told c.args.n c.args.used c.args.offline c.args.history.now _ _ _ c.in_ok-sha.ensures c.in_ok-text.ensures.ok made
