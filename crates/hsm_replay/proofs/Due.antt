-- What migration was told of the space in a turn.
use Rattle.std.proofs.Common.{◌≡◌, ◌∙◌, ◌++◌, ◌&&◌, Bool, true, false, List, [], ◌∷◌, Option, Some, None, IfSome, inl, inr, refl, sym, ap₂, subst}
use Rattle.std.proofs.lemmas.List.Elements.{Contains-append_left, Contains-push}
use Rattle.hsm_types.specs.declared.daemons.Act.{Act}
use Rattle.hsm_types.specs.declared.daemons.Act.TheVariants.{Idle}
use Rattle.hsm_types.specs.declared.daemons.Heard.{Heard}
use Rattle.hsm_types.specs.declared.dm.DmCall.{DmCall}
use Rattle.hsm_types.specs.declared.dm.DmCall.TheVariants.{CreateSession, GetAllSessions, GetSpace, GetTable, PunchHole}
use Rattle.hsm_types.specs.declared.dm.DmReply.{DmReply}
use Rattle.hsm_types.specs.declared.dm.DmReply.TheVariants as reply
use Rattle.hsm_types.specs.declared.keys.Sid.{Sid}
use Rattle.plain_model.specs.declared.entries.Action.TheVariants as action
use Rattle.plain_model.specs.declared.entries.Actor.TheVariants.{Session}
use Rattle.plain_model.specs.declared.entries.Answer.TheVariants as answer
use Rattle.plain_model.specs.declared.entries.Entry.{Entry}
use Rattle.hsm_core.specs.Answers.{entry_of}
use Rattle.hsm_policy.specs.Settings.{Numbers}
use Rattle.migrate_daemon.specs.declared.shares.Space.{Space}
use Rattle.migrate_daemon.specs.Known.{Known, is_due, knows_by, hears, asks}
use Rattle.migrate_daemon.specs.Machine.{WantsSpace}
use Rattle.migrate_daemon.specs.Shares.{is_above}
use Rattle.hsm_replay.specs.Settled.{IsToldSpace, NoneDue}

told_still : (entries : List Entry) (e : Entry) (o : Option Space) → IfSome o (IsToldSpace entries) → IfSome o (IsToldSpace (entries ++ e ∷ []))
told_still entries e None told = tt
told_still entries e (Some space) told = (told.0, Contains-append_left entries (e ∷ []) _ told.1)

-- behind a call with its answer
pub space_then : (limits : Numbers) (entries : List Entry) (k : Known) (sid : Sid) (call : DmCall) (given : DmReply) → IfSome k.space (IsToldSpace entries) → IfSome (hears limits (asks k call) call given).space (IsToldSpace (entries ++ entry_of (Session sid) (action.Dm call) (answer.Dm given) ∷ []))
space_then limits entries k sid GetSpace (reply.Space used total) told = (sid, Contains-push entries (entry_of (Session sid) (action.Dm GetSpace) (answer.Dm (reply.Space used total))))
space_then limits entries k sid GetTable (reply.Table table) told = tt
space_then limits entries k sid GetAllSessions given told = tt
space_then limits entries k sid (CreateSession old info) given told = tt
space_then limits entries k sid (PunchHole t h offset len) reply.Done told = told_still entries (entry_of (Session sid) (action.Dm (PunchHole t h offset len)) (answer.Dm reply.Done)) k.space told
space_then limits entries k sid call given told = told_still entries (entry_of (Session sid) (action.Dm call) (answer.Dm given)) k.space told

-- it knows nothing of the space where it rests
pub space_first : (limits : Numbers) (k : Known) (asked : Act) (told : Heard) → asked ≡ Idle → k.space ≡ None → IfSome (knows_by limits k asked told).space (IsToldSpace [])
space_first limits k asked told idle none = subst (λ (a : Act). IfSome (knows_by limits k a told).space (IsToldSpace [])) (sym idle) (subst (λ (o : Option Space). IfSome o (IsToldSpace [])) (sym none) tt)

-- ---- where it rests

module _ (limits : Numbers) (entries : List Entry) (k : Known) (told : IfSome k.space (IsToldSpace entries)) (below : is_due limits k ≡ false) (heard : WantsSpace k → ⊥) where
  by_space : (o : Option Space) → k.fresh ≡ true → k.space ≡ o → NoneDue limits entries k.fresh
  by_space None fresh is = absurd (heard (fresh, is))
  by_space (Some space) fresh is = inr (space, subst (λ (o : Option Space). IfSome o (IsToldSpace entries)) is told, sym (ap₂ (λ (b : Bool) (o : Option Space). b && is_above limits.high o) fresh is) ∙ below)

  by_fresh : (b : Bool) → k.fresh ≡ b → NoneDue limits entries k.fresh
  by_fresh false is = inl is
  by_fresh true is = by_space k.space is refl

  pub none_due : NoneDue limits entries k.fresh
  none_due = by_fresh k.fresh refl
