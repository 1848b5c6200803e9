use Rattle.std.proofs.Common.{◌≡◌, ◌≤◌, ◌+◌, ℕ, None, true, Option, Some, refl, sym, ◌∙◌, ap, subst, arith}
use Rattle.std.specs.Prelude.{Result, Ok, IfSome, IsSomeAnd, is_some, if◌then◌else◌}
use Rattle.std.specs.Option.{option_copied, option_map}
use Rattle.plain_model.specs.Ledger.{Means, goes_on}
use Rattle.access_park.specs.Pending.{has_lawful_answer}
use Rattle.access_park.specs.declared.access.Access.{Access}
use Rattle.dm_service.specs.declared.verdict.Verdict.{Verdict}
use Rattle.dm_service.specs.declared.verdict.Verdict.TheVariants.{Complete}
use Rattle.hsm_types.specs.declared.calls.Reply.{Reply}
use Rattle.plain_model.specs.Accesses.{told_span}
use Rattle.dm_service.specs.Parking.{blocked, parked_on, with_access}
use Rattle.dm_service.specs.Tables.{waiting, seen, pending_as}
use Rattle.file_store.specs.Stores.{superblock_of}
use Rattle.snapshot_text.specs.declared.refusal.MetaRefusal.{MetaRefusal}
use Rattle.hsm_core.specs.Outcomes.{ends, is_aborted, IsFinished, MayAsk}
use Rattle.hsm_core.specs.Targets.{MayLast, key_in}
use Rattle.hsm_core.proofs.Targets.{answered, posted, unaborted}
use Rattle.hsm_core.proofs.Replying.{on_ok, ends_unless, again_waits, again_blocks, again_ends, again_completes}
use Rattle.hsm_core.proofs.answering.go_on.Given.{Over}
use Rattle.hsm_core.proofs.answering.go_on.Goals.{After-judge-verdict}
use Rattle.hsm_core.proofs.answering.go_on.Goals as goal

one_less : (n m k : ℕ) (o : Option Access) → n + (if is_some o then 1 else 0) ≡ m → is_some o ≡ true → n + 1 ≤ m + k
one_less n m k None counted some = absurd cc
one_less n m k (Some a) counted some = omega (arith, counted)

waits : (g : Over) (c : After-judge-verdict g) → waiting c.args.service.now c.args.caller ≡ Some c.unwrap-access.result.now
waits g c = sym c.pending.ensures.access ∙ ap option_copied c.unwrap-access.ensures

goes : (g : Over) (c : After-judge-verdict g) → goes_on (pending_as c.unwrap-access.result.now) c.unwrap-access.result.now.token c.unwrap-access.result.now.answer ≡ Means c.unwrap-access.result.now.key c.unwrap-access.result.now.call
goes g c = subst (λ (x : Option Access). IsSomeAnd x (λ a. goes_on (pending_as a) a.token a.answer ≡ Means a.key a.call)) (waits g c) c.requires.waits

last : (g : Over) (c : After-judge-verdict g) → MayLast (superblock_of c.args.files.now).geometry.limits c.unwrap-access.result.now.call
last g c = subst (λ (x : Option Access). IfSome (option_map pending_as x) (λ a. MayLast (superblock_of c.args.files.now).geometry.limits a.call)) (waits g c) (c.requires.lasts c.args.caller)

lawful : (g : Over) (c : After-judge-verdict g) → has_lawful_answer (Some c.unwrap-access.result.now) ≡ true
lawful g c = subst (λ (x : Option Access). has_lawful_answer x ≡ true) (waits g c) (c.pending.ensures.park.lawful c.args.caller)

pub wait_again-requires-clause-asks : goal.wait_again-requires-clause-asks
wait_again-requires-clause-asks g c =
    let at = (goal.at.wait_again-requires-clause-asks g c).After-judge-verdict in
    subst (λ (x : Option Access). IfSome x (λ a. MayAsk a.call c.in-Post.kind)) (sym (waits g at))
    (posted _ c.unwrap-access.result.now.answer c.facts_again-facts.result c.args.service.now.rights c.args.service.now.sessions c.unwrap-access.result.now.key c.unwrap-access.result.now.call c.in-Post.kind (sym c.judge-verdict.ensures ∙ c.in-Post.is)).1

pub returns-in-Post-clause-replied : goal.returns-in-Post-clause-replied
returns-in-Post-clause-replied g c =
    let at = (goal.at.returns-in-Post-clause-replied g c).After-judge-verdict in
    again_waits g.D.Disk c.args.files.now c.args.number c.args.stamps.now.entries c.args.service.now c.args.caller c.unwrap-access.result.now c.facts_again-facts.result c.requires.working c.requires.idle
    c.find_again-target.result (waits g at) (goes g at) (last g at) c.find_again-target.ensures c.facts_again-facts.ensures
    c.in-Post.kind c.wait_again.new.service c.wait_again.result (sym c.judge-verdict.ensures ∙ c.in-Post.is) c.wait_again.ensures.reply
    (on_ok c.wait_again.result (λ is. subst
    (λ (x : Option Access). IfSome x (λ a. seen c.wait_again.new.service
    ≡ parked_on c.args.caller a c.in-Post.kind (record { fsid = c.args.files.now.meta.fsid; key = a.key }) (told_span a.call c.facts_again-facts.result.short c.in-Post.kind) (seen c.args.service.now))) (waits g at) is)
    c.wait_again.ensures.after) c.wait_again.ensures.err c.wait_again.ensures.memory

pub returns-in-Block-clause-replied : goal.returns-in-Block-clause-replied
returns-in-Block-clause-replied g c =
    let at = (goal.at.returns-in-Block-clause-replied g c).After-judge-verdict in
    again_blocks g.D.Disk c.args.files.now c.args.number c.args.stamps.now.entries c.args.service.now c.args.caller c.unwrap-access.result.now c.facts_again-facts.result c.requires.working c.requires.idle
    c.find_again-target.result (waits g at) (goes g at) (last g at) c.find_again-target.ensures c.facts_again-facts.ensures
    c.in-Block.token c.block_again.new.service c.block_again.result (sym c.judge-verdict.ensures ∙ c.in-Block.is) c.block_again.ensures.reply
    (subst (λ (x : Option Access). IfSome x (λ a. seen c.block_again.new.service ≡ with_access c.args.caller (Some (blocked a)) (seen c.args.service.now))) (waits g at) c.block_again.ensures.after)

pub finish-requires : goal.finish-requires
finish-requires g c =
    let at = (goal.at.finish-requires g c).After-judge-verdict in
    record {
      working = c.requires.working;
      room = λ is. c.requires.room (ap is_aborted (waits g at) ∙ unaborted _ c.unwrap-access.result.now.answer c.facts_again-facts.result c.args.service.now.rights c.args.service.now.sessions c.unwrap-access.result.now.key c.unwrap-access.result.now.call Complete (sym c.judge-verdict.ensures ∙ is) (λ response same. cc same));
      number = c.requires.number;
      idle = c.requires.idle;
      rises = c.requires.rises;
      ends = ends_unless c.judge-verdict.result c.in_default.not-Post c.in_default.not-Block;
      complete = λ is.
          again_completes g.D.Disk c.args.files.now c.args.number c.args.stamps.now.entries c.args.service.now c.args.caller c.unwrap-access.result.now c.facts_again-facts.result c.requires.working c.requires.idle
          c.find_again-target.result (waits g at) (goes g at) (last g at) c.find_again-target.ensures c.facts_again-facts.ensures (sym c.judge-verdict.ensures ∙ is);
      aborted = λ response is. answered _ c.unwrap-access.result.now.answer c.facts_again-facts.result c.args.service.now.rights c.args.service.now.sessions c.unwrap-access.result.now.key c.unwrap-access.result.now.call response (sym c.judge-verdict.ensures ∙ is) (lawful g at);
    }

pub returns-in_ok-replies-in_default : goal.returns-in_ok-replies-in_default
returns-in_ok-replies-in_default g c =
    let at = (goal.at.returns-in_ok-replies-in_default g c).After-judge-verdict in
    record {
      replied = again_ends g.D.Disk c.args.files.now c.args.number c.args.stamps.now.entries c.args.service.now c.args.caller c.unwrap-access.result.now c.facts_again-facts.result c.requires.working c.requires.idle
          c.find_again-target.result (waits g at) (goes g at) (last g at) c.find_again-target.ensures c.facts_again-facts.ensures
          c.end-ended.new.self _ c.finish.new.files c.finish.new.stamps.entries (sym (ap ends c.judge-verdict.ensures) ∙ ends_unless c.judge-verdict.result c.in_default.not-Post c.in_default.not-Block)
          (subst (λ (said : Verdict). IsFinished g.D.Disk c.args.files.now c.args.number c.args.stamps.now.entries (key_in c.find_again-target.result) c.unwrap-access.result.now.call said (Ok c.in_ok-replies-in_default.replies) c.finish.new.files c.finish.new.stamps.entries) c.judge-verdict.ensures
          (subst (λ (r : Result (Reply × Reply) MetaRefusal). IsFinished g.D.Disk c.args.files.now c.args.number c.args.stamps.now.entries (key_in c.find_again-target.result) c.unwrap-access.result.now.call c.judge-verdict.result r c.finish.new.files c.finish.new.stamps.entries) c.in_ok-replies-in_default.was c.finish.ensures))
          c.end-ended.ensures.after tt;
      aborts = λ is. refl;
      room = one_less _ _ _ _ c.end-ended.ensures.counted (ap is_some (c.end-ended.ensures.access ∙ waits g at));
    }
