use Rattle.std.proofs.Common.{◌∙◌, ap, arith}
use Rattle.byteorder.specs.Endian.{big_number}
use Rattle.event_msgs.proofs.ReadMessages.{access_shown, last_number, nothing_behind}
use Rattle.event_msgs.proofs.reading.access_view.Goals as goal

pub returns : goal.returns
returns c =
    let behind = c.split_at.ensures.back in
    access_shown c.args.kind c.args.token c.args.payload.now _ _ _ _ (λ i. omega (arith, c.type_inv.payload i)) c.requires
    c.split_at.ensures.front
    (c.read_u64.ensures ∙ ap (big_number 8) behind)
    (last_number c.args.payload.now _ _ _ behind (omega (arith, c.split_at.ensures.back_len, c.requires)) c.read_u64-2.ensures)
    (nothing_behind c.args.payload.now _ _ behind c.requires)
