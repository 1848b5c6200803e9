use Rattle.std.proofs.Common.{map, rules, tests, ap, ◌∙◌, subst, ◌≡◌, List, IfOk}
use Rattle.std.specs.List.{All}
use Rattle.std.proofs.lemmas.Iterator.{items_from_collect}
use Rattle.std.proofs.lemmas.Iterator.Consumers.{YieldsList-from_filter_map, YieldsList-from_first}
use Rattle.event_msgs.specs.Buffers.{IsInGrammar}
use Rattle.event_msgs.specs.Reading.{told}
use Rattle.event_msgs.specs.Views.{shown, seen}
use Rattle.daemon_session.specs.declared.events.Kept.{Kept}
use Rattle.daemon_session.specs.Keeping.{own_shown}
use Rattle.daemon_session.proofs.OwnEvents.{own_events}
use Rattle.daemon_session.proofs.keeping.events_in.Goals as goal

pub returns : goal.returns
returns c =
    let messages = told c.args.buffer.now in
    let each = subst (All IsInGrammar) c.messages.ensures.messages c.messages.ensures.each in
    let views = YieldsList-from_first seen (map shown) (map shown messages) (ap (map shown) (c.filter_map.ensures.source ∙ c.messages.ensures.messages)) in
    let taken = items_from_collect c.collect.result c.collect.ensures.ran (YieldsList-from_filter_map _ (own_shown c.args.daemon) views c.filter_map.ensures.closure (λ x r q k. search (rules, tests))) in
    subst (λ (l : List Kept). IfOk c.collect.result (λ v. v.items ≡ l)) (own_events c.reads_back.ensures c.args.daemon messages each) taken
