use Rattle.call_seats.proofs.Telling.{second_tells, second_left, first_answered}
use Rattle.call_seats.proofs.steps.tell_each_other.Goals as goal

pub returns-clause-first : goal.returns-clause-first
returns-clause-first c =
    let v = c.args.first.now.me in
    let w = c.args.second.now.me in
    let told = c.note-told.ensures in
    first_answered v w c.note-told.result.me c.join.new.into.me told.right c.join.ensures.joined c.look.new.pass.me c.look.ensures.me c.note-told.new.from.me c.note-answer.result.me c.join-2.new.into.me told.left c.note-answer.ensures.right c.join-2.ensures.joined

pub returns-clause-second : goal.returns-clause-second
returns-clause-second c =
    let v = c.args.first.now.me in
    let w = c.args.second.now.me in
    second_left v w c.note-told.result.me c.join.new.into.me c.note-told.ensures.right c.join.ensures.joined c.look.new.pass.me c.look.ensures.me c.note-answer.new.from.me c.note-answer.ensures.left

pub returns-clause-tells : goal.returns-clause-tells
returns-clause-tells c =
    let v = c.args.first.now.me in
    let w = c.args.second.now.me in
    second_tells v w c.note-told.result.me c.join.new.into.me c.note-told.ensures.right c.join.ensures.joined c.look.ensures.tells
