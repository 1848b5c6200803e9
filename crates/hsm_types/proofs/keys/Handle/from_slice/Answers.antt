use Rattle.std.proofs.Common.{arith}
use Rattle.hsm_types.proofs.HandleBytes.{handle_bytes-read}
use Rattle.hsm_types.proofs.keys.Handle.from_slice.Goals as goal

pub returns-clause-bytes : goal.returns-clause-bytes
returns-clause-bytes c = handle_bytes-read c.args.bytes.now _ _ _ c.requires (λ i. omega (arith, c.type_inv.bytes i)) (omega arith) (omega arith) c.read_u64.ensures c.read_u64-2.ensures c.read_u64-3.ensures
