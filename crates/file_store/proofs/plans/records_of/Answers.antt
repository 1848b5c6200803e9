use Rattle.file_store.proofs.Names.{List, [], subst, arith, Mapping, IsRewriting}
use Rattle.file_store.proofs.RewriteRecords.{run-within, mappings-runs, unseals_first}
use Rattle.file_store.proofs.plans.records_of.Goals as goal

pub split_at-requires : goal.split_at-requires
split_at-requires c = omega (arith, c.requires.count, run-within _ _ _ _ _ c.runs.ensures.runs)

pub returns : goal.returns
returns c =
    let change = c.args.change in
    let size = c.args.size in
    let stubs = c.args.stubs.now in
    let first : IsRewriting c.args.ino change size stubs [] c.push_unsealed.new.records.items =
    unseals_first c.args.ino change size _ _ stubs c.head.result _ c.requires.lawful c.head.ensures c.unsealed-from.ensures (rw (c.in_ok-push.ensures.items, c.in_ok-records.ensures.items) at c.in_ok-push_unsealed.ensures) in
    let all = c.in_ok-push_map-2.ensures change size stubs _ (c.in_ok-push_map.ensures change size stubs [] first) in
    subst (λ (ms : List Mapping). IsRewriting c.args.ino change size stubs ms c.from.result) (mappings-runs _ _ _ _ _ _ c.runs.ensures.runs c.requires.count)
    (rw (c.from.ensures, ← c.split_at.ensures.front, ← c.split_at.ensures.back) all)
