use Rattle.std.proofs.Common.{◌≡◌, filter, not, map, true, ap, ◌∙◌, rules}
use Rattle.hsm_types.specs.Messages.{takes}
use Rattle.hsm_types.specs.Sessions.{LiveSession, SessionTable, lives, loses, queued, change_live}
use Rattle.hsm_types.specs.declared.keys.Sid.{Sid}
use Rattle.hsm_types.specs.declared.messages.Message.{Message}
use Rattle.dm_sessions.proofs.Lookups.{Live, disposed-is, lives-change, lives-map, table-disposed}
use Rattle.dm_sessions.proofs.sessions.Sessions.set_kinds.Goals as goal

pub set_kinds-requires : goal.set_kinds-requires
set_kinds-requires c =
    let t : SessionTable = record { given = c.self.inside.given; live = c.self.inside.live.entries; unrouted = c.self.inside.unrouted.items } in
    let alive : lives c.args.sid t ≡ true = search rules in
    let joined : c.join.new.live.entries ≡ change_live c.args.sid (queued (filter (λ (m : Message). takes c.args.kinds m.kind) c.self.inside.unrouted.items)) c.self.inside.live.entries = search rules in
    rw (c.lose_kinds.ensures, joined)
    (lives-map c.args.sid (loses c.args.kinds) (change_live c.args.sid (queued (filter (λ (m : Message). takes c.args.kinds m.kind) c.self.inside.unrouted.items)) c.self.inside.live.entries)
    ∙ lives-change c.args.sid (queued (filter (λ (m : Message). takes c.args.kinds m.kind) c.self.inside.unrouted.items)) c.self.inside.live.entries ∙ alive)

pub invariant_of-self-2 : goal.invariant_of-self-2
invariant_of-self-2 c =
    let t : SessionTable = record { given = c.self.inside.given; live = c.self.inside.live.entries; unrouted = c.self.inside.unrouted.items } in
    let alive : lives c.args.sid t ≡ true = search rules in
    let messages = filter (λ (m : Message). takes c.args.kinds m.kind) c.self.inside.unrouted.items in
    let joined : c.join.new.live.entries ≡ change_live c.args.sid (queued (filter (λ (m : Message). takes c.args.kinds m.kind) c.self.inside.unrouted.items)) c.self.inside.live.entries = search rules in
    let left : c.join.new.messages.items ≡ filter (λ (m : Message). not (takes c.args.kinds m.kind)) c.self.inside.unrouted.items = search rules in
    let whole : c.set_kinds.new.live.entries ≡ change_live c.args.sid (λ s. queued messages (record s { kinds = c.args.kinds })) (map (λ (x : Sid × LiveSession). (x.0, loses c.args.kinds x.1)) c.self.inside.live.entries) =
    c.set_kinds.ensures ∙ ap (λ (l : Live). change_live c.args.sid (λ s. record s { kinds = c.args.kinds }) l) (c.lose_kinds.ensures ∙ ap (λ (l : Live). map (λ (x : Sid × LiveSession). (x.0, loses c.args.kinds x.1)) l) joined)
    ∙ disposed-is c.args.sid c.args.kinds messages c.self.inside.live.entries in
    rw (whole, left) (table-disposed c.args.sid c.args.kinds t c.self.inside.user_tokens c.self.invariant alive)

pub returns-clause-after : goal.returns-clause-after
returns-clause-after c =
    let messages = filter (λ (m : Message). takes c.args.kinds m.kind) c.self.inside.unrouted.items in
    let joined : c.join.new.live.entries ≡ change_live c.args.sid (queued (filter (λ (m : Message). takes c.args.kinds m.kind) c.self.inside.unrouted.items)) c.self.inside.live.entries = search rules in
    let left : c.join.new.messages.items ≡ filter (λ (m : Message). not (takes c.args.kinds m.kind)) c.self.inside.unrouted.items = search rules in
    let whole : c.set_kinds.new.live.entries ≡ change_live c.args.sid (λ s. queued messages (record s { kinds = c.args.kinds })) (map (λ (x : Sid × LiveSession). (x.0, loses c.args.kinds x.1)) c.self.inside.live.entries) =
    c.set_kinds.ensures ∙ ap (λ (l : Live). change_live c.args.sid (λ s. record s { kinds = c.args.kinds }) l) (c.lose_kinds.ensures ∙ ap (λ (l : Live). map (λ (x : Sid × LiveSession). (x.0, loses c.args.kinds x.1)) l) joined)
    ∙ disposed-is c.args.sid c.args.kinds messages c.self.inside.live.entries in
    rw (← c.self.view_is) (λ i. record { given = c.self.inside.given; live = whole i; unrouted = left i })
