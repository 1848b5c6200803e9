-- Where migration may begin a pass by `high`, and how it goes on.
use Rattle.std.proofs.Common.{◌≡◌, ◌∙◌, ◌⊎◌, ◌++◌, ◌∷◌, [], true, List, Option, None, Some, IfSome, inl, inr, refl, sym, ap, subst, append-nil, append_assoc}
use Rattle.std.specs.Option.{option_map}
use Rattle.std.proofs.lemmas.List.Elements.{Contains-append_left, Contains-append_right, Contains-push}
use Rattle.hsm_types.specs.declared.daemons.Act.{Act}
use Rattle.hsm_types.specs.declared.daemons.Act.TheVariants.{Dm, Idle}
use Rattle.hsm_types.specs.declared.daemons.Heard.{Heard}
use Rattle.hsm_types.specs.declared.daemons.Heard.TheVariants as heard
use Rattle.hsm_types.specs.declared.dm.DmCall.{DmCall}
use Rattle.hsm_types.specs.declared.dm.DmCall.TheVariants.{CreateSession, GetAllSessions, GetSpace, GetTable, PunchHole}
use Rattle.hsm_types.specs.declared.dm.DmReply.{DmReply}
use Rattle.hsm_types.specs.declared.dm.DmReply.TheVariants as reply
use Rattle.hsm_types.specs.declared.keys.Sid.{Sid}
use Rattle.plain_model.specs.declared.entries.Action.TheVariants as action
use Rattle.plain_model.specs.declared.entries.Actor.TheVariants.{Session}
use Rattle.plain_model.specs.declared.entries.Answer.TheVariants as answer
use Rattle.plain_model.specs.declared.entries.Entry.{Entry}
use Rattle.hsm_core.specs.Answers.{entry_of}
use Rattle.hsm_policy.specs.Settings.{Numbers}
use Rattle.migrate_daemon.specs.Known.{Known, hears, asks, knows_by, asks_by}
use Rattle.migrate_daemon.specs.Machine.{Machine, StepsOn}
use Rattle.hsm_system.specs.Running.{Migrating, untold_next}
use Rattle.hsm_replay.specs.Freshness.{IsFresh, IsToldTable, StaysFresh}
use Rattle.hsm_system.specs.Systems.{migrate_again}
use Rattle.hsm_replay.specs.Systems.{Run, refreshed, told_next}
use Rattle.hsm_replay.proofs.SessionCalls.{IsNoCall}

-- ---- what is known of it

-- behind a call with its answer
fresh_then : (limits : Numbers) (k : Known) (sid : Sid) (call : DmCall) (given : DmReply) → k.fresh ≡ true → ((hears limits (asks k call) call given).fresh ≡ true) ⊎ IsToldTable (entry_of (Session sid) (action.Dm call) (answer.Dm given) ∷ [])
fresh_then limits k sid GetTable (reply.Table table) fresh = inr (sid, table, Contains-push [] (entry_of (Session sid) (action.Dm GetTable) (answer.Dm (reply.Table table))))
fresh_then limits k sid GetSpace (reply.Space used total) fresh = inl fresh
fresh_then limits k sid GetAllSessions given fresh = inl fresh
fresh_then limits k sid (CreateSession old info) given fresh = inl fresh
fresh_then limits k sid (PunchHole t h offset len) reply.Done fresh = inl fresh
fresh_then limits k sid call given fresh = inl fresh

-- behind a copy or a rest
fresh_behind : (limits : Numbers) (k : Known) (act : Act) (told : Heard) → IsNoCall act → k.fresh ≡ true → (knows_by limits (asks_by k act) act told).fresh ≡ true
fresh_behind limits k (Dm sid call) told no_call fresh = absurd no_call
fresh_behind limits k Idle told no_call fresh = fresh
fresh_behind limits k act told no_call fresh = fresh

-- It knows nothing of the space then, so whatever it hears, it doesn't take a pass for one by `high`.
abbrev freed : Known → Known
freed k = record k { space = None; fresh = true }

freed_hears : (limits : Numbers) (k : Known) (call : DmCall) (given : DmReply) → (hears limits (freed k) call given).fresh ≡ true
freed_hears limits k GetTable (reply.Table table) = refl
freed_hears limits k GetSpace (reply.Space used total) = refl
freed_hears limits k (PunchHole t h offset len) reply.Done = refl
freed_hears limits k call given = refl

freed_knows : (limits : Numbers) (k : Known) (asked : Act) (told : Heard) → (knows_by limits (freed k) asked told).fresh ≡ true
freed_knows limits k (Dm sid call) (heard.Dm given) = freed_hears limits k call given
freed_knows limits k asked told = refl

-- ---- through steps

module _ (m : Migrating) (machine : Machine) (fresh : (knows_by m.machine.limits m.machine.known m.machine.asked (told_next m.next)).fresh ≡ true) where
  abbrev now : Known
  now = knows_by m.machine.limits m.machine.known m.machine.asked (told_next m.next)

  knows_then : (act : Act) (told : Heard) → StepsOn m.machine (told_next m.next) act machine → knows_by machine.limits (asks_by now act) act told ≡ knows_by machine.limits machine.known machine.asked told
  knows_then act told goes = ap (λ (a : Act). knows_by machine.limits (asks_by now act) a told) (sym goes.asked) ∙ ap (λ (k : Known). knows_by machine.limits k machine.asked told) (sym goes.known)

  pub fresh_called : (sid : Sid) (call : DmCall) (given : DmReply) → StepsOn m.machine (told_next m.next) (Dm sid call) machine
      → ((knows_by machine.limits machine.known machine.asked (heard.Dm given)).fresh ≡ true) ⊎ IsToldTable (entry_of (Session sid) (action.Dm call) (answer.Dm given) ∷ [])
  fresh_called sid call given goes = subst (λ (k : Known). (k.fresh ≡ true) ⊎ IsToldTable (entry_of (Session sid) (action.Dm call) (answer.Dm given) ∷ [])) (knows_then (Dm sid call) (heard.Dm given) goes) (fresh_then machine.limits now sid call given fresh)

  pub fresh_went : (act : Act) (told : Heard) → IsNoCall act → StepsOn m.machine (told_next m.next) act machine → (knows_by machine.limits machine.known machine.asked told).fresh ≡ true
  fresh_went act told no_call goes = subst (λ (k : Known). k.fresh ≡ true) (knows_then act told goes) (fresh_behind machine.limits now act told no_call fresh)

-- ---- from one system to the next

told_before : (first then : List Entry) → IsToldTable first → IsToldTable (first ++ then)
told_before first then told = (told.0, told.1, Contains-append_left first then _ told.2)

told_after : (first then : List Entry) → IsToldTable then → IsToldTable (first ++ then)
told_after first then told = (told.0, told.1, Contains-append_right first then _ told.2)

freed_first : (o : Option Migrating) → IfSome (option_map migrate_again o) (λ (m : Migrating). (knows_by m.machine.limits m.machine.known m.machine.asked (told_next m.next)).fresh ≡ true)
freed_first None = tt
freed_first (Some m) = freed_knows m.machine.limits m.machine.known m.machine.asked (told_next (untold_next m.next))

module _ {D M : Type 0} where
  pub fresh_now : (s : Run D M) (m : Migrating) → s.system.migrate ≡ Some m → IsFresh s → (knows_by m.machine.limits m.machine.known m.machine.asked (told_next m.next)).fresh ≡ true
  fresh_now s m runs fresh = subst (λ (o : Option Migrating). IfSome o (λ (x : Migrating). (knows_by x.machine.limits x.machine.known x.machine.asked (told_next x.next)).fresh ≡ true)) runs fresh

  -- migration is as it was
  pub fresh_alone : (old new : Run D M) (entries : List Entry) → new.system.store.history ≡ old.system.store.history ++ entries → new.system.migrate ≡ old.system.migrate → StaysFresh old new
  fresh_alone old new entries history same = (entries, history, λ fresh. inl (subst (λ (o : Option Migrating). IfSome o (λ (m : Migrating). (knows_by m.machine.limits m.machine.known m.machine.asked (told_next m.next)).fresh ≡ true)) (sym same) fresh))

  pub fresh_itself : (s : Run D M) → StaysFresh s s
  fresh_itself s = fresh_alone s s [] (sym (append-nil s.system.store.history)) refl

  pub fresh_on : (a b c : Run D M) → StaysFresh a b → StaysFresh b c → StaysFresh a c
  fresh_on a b c first then = (first.0 ++ then.0, then.1 ∙ ap (λ (es : List Entry). es ++ then.0) first.1 ∙ append_assoc a.system.store.history first.0 then.0, λ fresh. on (first.2 fresh))
    where
      further : IsFresh c ⊎ IsToldTable then.0 → IsFresh c ⊎ IsToldTable (first.0 ++ then.0)
      further (inl fresh) = inl fresh
      further (inr told) = inr (told_after first.0 then.0 told)

      on : IsFresh b ⊎ IsToldTable first.0 → IsFresh c ⊎ IsToldTable (first.0 ++ then.0)
      on (inl fresh) = further (then.2 fresh)
      on (inr told) = inr (told_before first.0 then.0 told)

  -- at a settling's beginning
  pub refreshed_fresh : (s : Run D M) → IsFresh (refreshed s)
  refreshed_fresh s = freed_first s.system.migrate
