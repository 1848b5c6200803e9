use denote.Exit.{no}
use denote.Param.Send.{param_send, arg_send}
use Rattle.pass_bench.proofs.Sending.{locked_send}
use Rattle.pass_bench.proofs.forms.done_over_lock.Goals as goal

pub make_beside-requires-send-C : goal.make_beside-requires-send-C
make_beside-requires-send-C g c κs within = param_send 0 _ (arg_send _ no _ (locked_send _))
