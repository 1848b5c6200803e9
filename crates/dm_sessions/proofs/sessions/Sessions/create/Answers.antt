use Rattle.std.proofs.Common.{◌≡◌, ◌+◌, ◌++◌, ◌∷◌, [], None, sym, ap, subst, ◌∙◌, arith, rules}
use Rattle.std.specs.Map.{lookup, remove_entry}
use Rattle.indexmap.specs.IndexMap.{insert_entry}
use Rattle.hsm_types.specs.declared.keys.Sid.{Sid}
use Rattle.hsm_types.specs.Sessions.{SessionTable, same_sid, session_of, heir, next_sid, with_session, creation_refusal}
use Rattle.dm_sessions.specs.Tables.{IsTable}
use Rattle.dm_sessions.proofs.Ascending.{Ascend-remove, insert_entry-last}
use Rattle.dm_sessions.proofs.Lookups.{Live, table-created}
use Rattle.dm_sessions.proofs.sessions.Sessions.create.Goals as goal
use Rattle.dm_sessions.proofs.sessions.Sessions.create.Goals.{in-Some, in-None}

abbrev table : (c : goal.Joined-none) → SessionTable
table c = record { given = c.self.inside.given; live = c.self.inside.live.entries; unrouted = c.self.inside.unrouted.items }

follows : (c : goal.Joined-none) → c.in_ok-next.next ≡ c.self.inside.given + 1
follows c = search rules

none : (c : goal.Joined-none) → creation_refusal c.args.old c.args.info (table c) ≡ None
none c = search rules

inherits : (c : goal.Joined-none) → c.match-shift_remove.session ≡ heir c.args.info (session_of c.args.old (table c))
inherits c =
    elim c.match-shift_remove.branch [
      | in-Some w ↦ w.session-is ∙ w.with_info-session.ensures ∙ ap (heir c.args.info) (sym w.in-Some.is ∙ c.shift_remove.ensures.value ∙ ap (λ (l : Live). lookup (same_sid c.args.old) l) c.reserve.ensures.entries)
      | in-None w ↦ w.session-is ∙ w.new-session.ensures ∙ ap (heir c.args.info) (sym w.in-None.is ∙ c.shift_remove.ensures.value ∙ ap (λ (l : Live). lookup (same_sid c.args.old) l) c.reserve.ensures.entries)
    ]

made : (c : goal.Joined-none) → c.insert.new.self.entries ≡ remove_entry (same_sid c.args.old) c.self.inside.live.entries ++ (record { 0 = c.in_ok-next.next }, c.match-shift_remove.session) ∷ []
made c =
    let next : Sid = record { 0 = c.in_ok-next.next } in
    let inserted : c.insert.new.self.entries ≡ insert_entry same_sid c.shift_remove.new.self.entries next c.match-shift_remove.session = search rules in
    let removed : c.shift_remove.new.self.entries ≡ remove_entry (same_sid c.args.old) c.self.inside.live.entries = c.shift_remove.ensures.entries ∙ ap (λ (l : Live). remove_entry (same_sid c.args.old) l) c.reserve.ensures.entries in
    let above = follows c in
    inserted ∙ ap (λ (l : Live). insert_entry same_sid l next c.match-shift_remove.session) removed
    ∙ insert_entry-last next c.match-shift_remove.session 0 c.self.inside.given (remove_entry (same_sid c.args.old) c.self.inside.live.entries) (Ascend-remove (same_sid c.args.old) 0 c.self.inside.given c.self.inside.live.entries c.self.invariant.ascend) (omega arith)

whole : (c : goal.Joined-none) → c.insert.new.self.entries ≡ remove_entry (same_sid c.args.old) c.self.inside.live.entries ++ (next_sid (table c), heir c.args.info (session_of c.args.old (table c))) ∷ []
whole c = made c ∙ (λ i. remove_entry (same_sid c.args.old) c.self.inside.live.entries ++ (record { 0 = follows c i }, inherits c i) ∷ [])

pub invariant_of-self-2 : goal.invariant_of-self-2
invariant_of-self-2 c =
    let made_is : record { given = c.in_ok-next.next; live = c.insert.new.self.entries; unrouted = c.self.inside.unrouted.items } ≡ with_session c.args.old c.args.info (table c) = λ i. record { given = follows c i; live = whole c i; unrouted = c.self.inside.unrouted.items } in
    subst (λ (t : SessionTable). IsTable t c.self.inside.user_tokens) (sym made_is) (table-created c.args.old c.args.info (table c) c.self.inside.user_tokens c.self.invariant (none c))

pub returns-clause-after : goal.returns-clause-after
returns-clause-after c = rw (← c.self.view_is) (λ i. record { given = follows c i; live = whole c i; unrouted = c.self.inside.unrouted.items })
