use Rattle.std.proofs.Common.{◌≡◌, false, refl, ◌∙◌, rules, arith}
use Rattle.std.proofs.lemmas.Bool.Decides.{nat_tests}
use Rattle.indexmap.specs.IndexMap.{insert_entry}
use Rattle.indexmap.proofs.CallerLemmas.{insert_entry-new}
use Rattle.hsm_types.specs.Messages.{has_token, no_token}
use Rattle.dm_sessions.specs.Moves.{same_token}
use Rattle.dm_sessions.proofs.moving.hold.Goals as goal

pub returns-then-message-ne0-clause-held : goal.returns-then-message-ne0-clause-held
returns-then-message-ne0-clause-held c =
    let placed : c.insert.new.self.entries ≡ insert_entry same_token c.args.outstanding.now.entries c.args.message.token c.args.message = search rules in
    let real : has_token no_token c.args.message ≡ false = grind (arith, nat_tests) in
    placed ∙ insert_entry-new same_token c.args.outstanding.now c.args.message.token c.args.message (c.requires.absent (omega arith))
    ∙ rw real refl
