use Rattle.std.proofs.Common.{◌≡◌, ℕ, ◌-◌, take, replicate, ap, ◌∙◌, arith}
use Rattle.std.proofs.lemmas.List.{take-replicate}
use Rattle.hsm_types.specs.Messages.{rounded_up, payload_size, padding}
use Rattle.event_msgs.proofs.PackedMessages.{put}
use Rattle.event_msgs.proofs.writing.put_message.Goals as goal

pub returns-clause-bytes : goal.returns-clause-bytes
returns-clause-bytes c =
    let count : c.rounded_up.result - c.payload_size-size.result ≡ rounded_up (payload_size c.args.message.now) - payload_size c.args.message.now =
    omega (arith, c.rounded_up.ensures, c.payload_size-size.ensures.size) in
    let zeros : take (c.rounded_up.result - c.payload_size-size.result) (replicate 8 0) ≡ padding c.args.message.now =
    take-replicate _ 8 0 (omega (arith, c.rounded_up.ensures)) ∙ ap (λ (n : ℕ). replicate n 0) count in
    put c.args.out.now.items _ _ _ _ _ c.args.next c.args.message.now c.header.ensures.bytes zeros
    c.in_ok-extend_from_slice.ensures.items c.in_ok-put_payload.ensures.bytes c.in_ok-extend_from_slice-2.ensures.items
