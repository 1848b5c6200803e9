-- Between passes each answer keeps the pass as it is.
use Rattle.std.proofs.Common.{◌≡◌, ℕ, List, [], ◌∷◌, ◌++◌, Option, Some, None, Err, refl, sym, inl, inr, subst}
use Rattle.std.proofs.lemmas.List.Elements.{Contains-append_left}
use Rattle.hsm_types.specs.declared.daemons.Act.{Act}
use Rattle.hsm_types.specs.declared.daemons.Act.TheVariants.{Dm, Copy, Fetch, Idle}
use Rattle.hsm_types.specs.declared.daemons.Heard.{Heard}
use Rattle.hsm_types.specs.declared.daemons.Heard.TheVariants as heard
use Rattle.hsm_types.specs.declared.dm.DmCall.TheVariants as call
use Rattle.hsm_types.specs.declared.dm.DmReply.TheVariants as reply
use Rattle.hsm_types.specs.declared.dm.DmRefusal.TheVariants as why
use Rattle.hsm_types.specs.declared.keys.Sid.{Sid}
use Rattle.hsm_types.specs.declared.media.CopyRefusal.TheVariants as copying
use Rattle.hsm_policy.specs.Settings.{Numbers}
use Rattle.hsm_policy.specs.declared.picking.Picked.{Picked}
use Rattle.daemon_session.specs.Seats.{first_id, Refuses}
use Rattle.migrate_daemon.specs.declared.skips.Skip.{Skip}
use Rattle.migrate_daemon.specs.declared.stages.Stage.{Stage}
use Rattle.migrate_daemon.specs.declared.stages.Stage.TheVariants.{Outside, Entering, Resting, Measuring, Asking, Looking, Working, Copying, Answering}
use Rattle.migrate_daemon.specs.declared.stages.Turn.{Turn}
use Rattle.migrate_daemon.specs.declared.stages.Work.{Work}
use Rattle.migrate_daemon.specs.declared.stages.Work.TheVariants.{Covering, Setting, Reading, Sealing, Punching}
use Rattle.migrate_daemon.specs.Known.{knows_by}
use Rattle.migrate_daemon.specs.Passes.{Pass, Exchange, Passed, IsDone, IsListed, IsCallOf, IsCopy, IsEnd, IsEndedBy, IsFull, IsOver, told_since}
use Rattle.migrate_daemon.specs.Machine.{IsOfPass, Stays, ComesTo}
use Rattle.migrate_daemon.specs.Stages.{Stands, asked_for}
use Rattle.migrate_daemon.specs.MachineStates.{Standing}
use Rattle.migrate_daemon.specs.Turns.{Moves, Gives, Turns}

-- ---- which acts are of a pass

along : (a b : Act) → a ≡ b → IsOfPass b → IsOfPass a
along a b same of = subst (λ (x : Act). IsOfPass x) (sym same) of

pub call_of_pass : (sid : Sid) (p : Picked) (asked : Act) → IsCallOf sid p asked → IsOfPass asked
call_of_pass sid p asked (inl is) = along asked _ is tt
call_of_pass sid p asked (inr (inl is)) = along asked _ is tt
call_of_pass sid p asked (inr (inr (inl is))) = along asked _ is tt
call_of_pass sid p asked (inr (inr (inr (inl is)))) = along asked _ is.1 tt
call_of_pass sid p asked (inr (inr (inr (inr is)))) = along asked _ is tt

copy_of_pass : (p : Picked) (volume : ℕ) (asked : Act) → IsCopy p volume asked → IsOfPass asked
copy_of_pass p volume asked is = along asked _ is.1 tt

end_of_pass : (volumes : ℕ) (sid : Sid) (p : Picked) (asked : Act) (told : Heard) → IsEnd volumes sid p asked told → IsOfPass asked
end_of_pass volumes sid p asked (heard.Dm (reply.Refused why.NoSession)) is = call_of_pass sid p asked is
end_of_pass volumes sid p asked (heard.Dm (reply.Refused (why.TooMany count))) is = along asked _ is.1 tt
end_of_pass volumes sid p asked (heard.Copied (Err (copying.Failed before after))) is = copy_of_pass p is.0 asked is.1
end_of_pass volumes sid p asked (heard.Copied (Err (copying.Damaged want got))) is = copy_of_pass p is.0 asked is.1
end_of_pass volumes sid p asked (heard.Copied (Err (copying.Full used len capacity))) is = copy_of_pass p is.0 asked is.2
end_of_pass volumes sid p asked (heard.Copied (Err copying.NoVolume)) is = copy_of_pass p is.0 asked is.2
end_of_pass volumes sid p asked told is = absurd is

full_of_pass : (volume : ℕ) (asked : Act) (told : Heard) → IsFull volume asked told → IsOfPass asked
full_of_pass volume (Copy v h segment bytes) told is = tt
full_of_pass volume (Dm sid c) told is = absurd is
full_of_pass volume (Fetch entry) told is = absurd is
full_of_pass volume Idle told is = absurd is

-- ---- more is told

pub done_longer : (talk more : List Exchange) (pass : Pass) (p : Picked) → IsDone talk pass p → IsDone (talk ++ more) pass p
done_longer talk more pass p (inl has) = inl (Contains-append_left talk more _ has)
done_longer talk more pass p (inr d) = inr (d.0, d.1, d.2, d.3, Contains-append_left talk more _ d.4)

pub ended_longer : (volumes : ℕ) (talk more : List Exchange) (pass : Pass) (ended : Option Heard) → IsEndedBy volumes talk pass ended → IsEndedBy volumes (talk ++ more) pass ended
ended_longer volumes talk more pass None e = tt
ended_longer volumes talk more pass (Some told) e = (e.0, e.1, Contains-append_left talk more _ e.2)

pub listed_longer : (talk more : List Exchange) (pass : Pass) (s : Skip) → IsListed talk pass s → IsListed (talk ++ more) pass s
listed_longer talk more pass s l = (l.0, l.1, l.2, l.3, l.4, l.5, l.6, Contains-append_left talk more _ l.7)

pub passed_longer : (volumes : ℕ) (talk more : List Exchange) (pass : Pass) → Passed volumes talk pass → Passed volumes (talk ++ more) pass
passed_longer volumes talk more pass passed = record {
  done = λ k p below is. done_longer talk more pass p (passed.done k p below is);
  listed = λ s has. listed_longer talk more pass s (passed.listed s has);
  ended = ended_longer volumes talk more pass pass.ended passed.ended;
}

-- ---- a pass as it is

pub moves_none : (volumes : ℕ) (pass : Pass) (asked : Act) (told : Heard) → (IsOfPass asked → ⊥) → Moves volumes pass asked told pass
moves_none volumes pass asked told out = record {
  stays = record {
    session = refl;
    picks = refl;
    on = inl refl;
    volume = inl (refl, λ full. out (full_of_pass pass.volume asked told full));
    skipped = inl refl;
    ended = inl (refl, λ ends. out (end_of_pass volumes pass.sid ends.0 asked told ends.2));
  };
  passes = λ talk passed. passed_longer volumes talk _ pass passed;
}

-- ---- the table

-- it is told the table
abbrev pub HasTable : Act → Heard → Type 0
HasTable (Dm sid call.GetTable) (heard.Dm (reply.Table table)) = Unit {0}
HasTable asked told = ⊥

comes : (limits : Numbers) (before : Pass) (asked : Act) (told : Heard) (after : Pass) → (HasTable asked told → ⊥) → Stays limits.volumes before asked told after → ComesTo limits before asked told after
comes limits before (Dm sid call.GetTable) (heard.Dm (reply.Table table)) after none stays = absurd (none tt)
comes limits before asked told after none stays = stays

since : (talk : List Exchange) (asked : Act) (told : Heard) → (HasTable asked told → ⊥) → told_since talk asked told ≡ talk ++ record { asked = asked; heard = told } ∷ []
since talk (Dm sid call.GetTable) (heard.Dm (reply.Table table)) none = absurd (none tt)
since talk asked told none = refl

-- ---- where a pass is over

work_of_pass : (sid : Sid) (p : Picked) (work : Work) → IsOfPass (asked_for sid p work)
work_of_pass sid p Covering = tt
work_of_pass sid p Setting = tt
work_of_pass sid p Reading = tt
work_of_pass sid p (Sealing entry) = tt
work_of_pass sid p Punching = tt

-- where it waits for no answer of a pass
pub over_outside : (stage : Stage) (s : Standing) (pass : Pass) (asked : Act) → Stands stage s pass asked → (IsOfPass asked → ⊥) → IsOver pass
over_outside Outside s pass asked stands out = stands.2
over_outside Entering s pass asked stands out = stands.1.over
over_outside (Resting sid) s pass asked stands out = stands.1.over
over_outside (Measuring sid) s pass asked stands out = stands.1.over
over_outside (Asking sid) s pass asked stands out = stands.1.over
over_outside (Looking sid) s pass asked stands out = stands.1.over
over_outside (Working p work) s pass asked stands out = absurd (out (along asked _ stands.0 (work_of_pass pass.sid p work)))
over_outside (Copying p) s pass asked stands out = absurd (out (copy_of_pass p pass.volume asked stands.0))
over_outside (Answering sid t) s pass asked stands out = stands.2

-- ---- what comes of an answer

pub turns : (old : Standing) (before : Pass) (asked : Act) (told : Heard) (new : Standing) (after : Pass) (turn : Turn)
    → (HasTable asked told → ⊥) → (Refuses asked told → turn.act ≡ Dm first_id call.GetAllSessions) → Moves old.limits.volumes before asked told after
    → Gives old.limits (knows_by old.limits old.known asked told) before after asked told new turn → Turns old before asked told new after turn
turns old before asked told new after turn none begins moves gives = record {
  goes = record {
    limits = gives.limits;
    known = gives.known;
    asked = refl;
    pass = comes old.limits before asked told after none moves.stays;
    may = gives.may;
    over = over_outside turn.stage new after turn.act gives.stands;
    begins = begins;
    passes = λ talk passed. rw (since talk asked told none) (moves.passes talk passed);
  };
  stands = gives.stands;
}

-- outside of passes, where it has no table and a session
pub turns_out : (old : Standing) (pass : Pass) (asked : Act) (told : Heard) (new : Standing) (turn : Turn)
    → (IsOfPass asked → ⊥) → (HasTable asked told → ⊥) → (Refuses asked told → ⊥)
    → Gives old.limits (knows_by old.limits old.known asked told) pass pass asked told new turn → Turns old pass asked told new pass turn
turns_out old pass asked told new turn out none lives gives =
    turns old pass asked told new pass turn none (λ gone. absurd (lives gone)) (moves_none old.limits.volumes pass asked told out) gives
