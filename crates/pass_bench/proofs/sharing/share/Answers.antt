use denote.Exit.{no}
use denote.Param.Send.{param_send, arg_send}
use Rattle.pass_bench.proofs.Dealt.{new_are_ours}
use Rattle.pass_bench.proofs.Sending.{seats_send}
use Rattle.pass_bench.proofs.sharing.share.Goals as goal

pub seats_of-requires : goal.seats_of-requires
seats_of-requires g c = new_are_ours _ _ _ _ _ c.requires.passes c.requires.table c.open-shared.ensures.callers

pub make_beside-requires-send-C : goal.make_beside-requires-send-C
make_beside-requires-send-C g c κs within = param_send 0 _ (arg_send _ no _ (seats_send _ _ _ c.type_bounds.send-N))
