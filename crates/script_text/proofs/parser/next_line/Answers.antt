use Rattle.std.proofs.Common.{sym, ap, subst, ◌∙◌, ◌+◌, ◌≤◌, arith}
use Rattle.script_text.specs.Limits.{script_access_bytes}
use Rattle.script_text.specs.Lines.{IsAllowed, access_length}
use Rattle.std.proofs.lemmas.Bool.{false≢true}
use Rattle.script_text.proofs.Speaking.{same_line}
use Rattle.script_text.proofs.parser.next_line.Goals as goal

pub returns-then-not-is_allowed : goal.returns-then-not-is_allowed
returns-then-not-is_allowed c line g =
    let read = rw c.in-Some.is at c.in_ok-line.ensures in
    let same = same_line c.args.allowed c.args.before.now c.args.text.now c.in-Some.line line read.0 read.1 g in
    false≢true (sym c.if-not-is_allowed.true ∙ c.is_allowed.ensures.1 (subst (IsAllowed c.args.allowed) same g.taken))

pub returns-then-not-are_within : goal.returns-then-not-are_within
returns-then-not-are_within c line g =
    let read = rw c.in-Some.is at c.in_ok-line.ensures in
    let same = ap access_length (same_line c.args.allowed c.args.before.now c.args.text.now c.in-Some.line line read.0 read.1 g) in
    let light : c.args.total + access_length c.in-Some.line ≤ script_access_bytes = rw (← same, c.requires) g.light in
    false≢true (sym c.if-not-are_within.true ∙ c.are_within.ensures.1 (rw c.access_bytes.ensures (omega (arith, light))))
