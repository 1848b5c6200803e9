-- On its way to a session the daemon is in no pass.
use Rattle.std.proofs.Common.{◌≡◌, ℕ, Bool, true, false, Some, None, refl, ap, sym, ◌∙◌, inl, inr, subst}
use Rattle.std.specs.Prelude.{if◌then◌else◌}
use Rattle.std.proofs.lemmas.Bool.{true≢false}
use Rattle.std.proofs.lemmas.List.Elements.{All-nil}
use Rattle.hsm_types.specs.declared.daemons.Act.{Act}
use Rattle.hsm_types.specs.declared.daemons.Act.TheVariants.{Dm, Copy, Fetch, Idle}
use Rattle.hsm_types.specs.declared.daemons.Heard.{Heard}
use Rattle.hsm_types.specs.declared.daemons.Heard.TheVariants as heard
use Rattle.hsm_types.specs.declared.dm.DmCall.{DmCall}
use Rattle.hsm_types.specs.declared.dm.DmCall.TheVariants as call
use Rattle.hsm_types.specs.declared.dm.DmReply.TheVariants as reply
use Rattle.hsm_types.specs.declared.dm.DmRefusal.TheVariants as why
use Rattle.hsm_types.specs.declared.keys.Sid.{Sid}
use Rattle.hsm_policy.specs.Settings.{Numbers}
use Rattle.hsm_policy.specs.declared.picking.Picked.{Picked}
use Rattle.hsm_types.specs.declared.daemons.Daemon.TheVariants.{Migrate}
use Rattle.daemon_session.specs.declared.events.Kept.{Kept}
use Rattle.daemon_session.specs.declared.members.Step.TheVariants as step
use Rattle.daemon_session.specs.Members.{Enters, IsRefusedOne}
use Rattle.daemon_session.specs.Seats.{Seat, MayEnter, seat_asks, seat_hears_by, Refuses}
use Rattle.migrate_daemon.specs.declared.stages.Stage.{Stage}
use Rattle.migrate_daemon.specs.declared.stages.Stage.TheVariants as stage
use Rattle.migrate_daemon.specs.declared.stages.Turn.{Turn}
use Rattle.migrate_daemon.specs.declared.stages.Work.{Work}
use Rattle.migrate_daemon.specs.declared.stages.Work.TheVariants.{Covering, Setting, Reading, Sealing, Punching}
use Rattle.migrate_daemon.specs.Known.{Known, asks_by, knows_by, hears}
use Rattle.migrate_daemon.specs.Passes.{Pass, IsOver, IsCallOf, IsFull}
use Rattle.migrate_daemon.specs.Machine.{IsOfPass, HasAll, NoneServed, MayGive, IsFree}
use Rattle.migrate_daemon.specs.Hearing.{is_gone}
use Rattle.migrate_daemon.specs.MachineStates.{Standing, begun, membership}
use Rattle.migrate_daemon.specs.Stages.{Stands, IsEntering, IsEntry, HasNone, asked_for, begins, is_lost}
use Rattle.migrate_daemon.specs.Turns.{Moves, Gives, Turns}
use Rattle.migrate_daemon.proofs.Turning.{HasTable, turns, moves_none}
use Rattle.migrate_daemon.proofs.InPass.{moves_end}
use Rattle.migrate_daemon.proofs.BetweenPasses.{none_served}

abbrev pub gone : Heard
gone = heard.Dm (reply.Refused why.NoSession)

gone_is : (told : Heard) → is_gone told ≡ true → told ≡ gone
gone_is (heard.Dm (reply.Refused why.NoSession)) is = refl
gone_is told is = cc

-- ---- its session is gone

abbrev IsCall : Act → Type 0
IsCall (Dm sid c) = Unit {0}
IsCall act = ⊥

fresh_lost : (limits : Numbers) (k : Known) (c : DmCall) → (hears limits k c (reply.Refused why.NoSession)).fresh ≡ k.fresh
fresh_lost limits k call.GetSpace = refl
fresh_lost limits k call.GetTable = refl
fresh_lost limits k (call.PunchHole t h offset len) = refl
fresh_lost limits k c = refl

no_table_lost : (sid : Sid) (c : DmCall) → HasTable (Dm sid c) gone → ⊥
no_table_lost sid call.GetTable has = has
no_table_lost sid c has = has

turns_begin : (s : Standing) (before after : Pass) (asked : Act) → IsCall asked → Moves s.limits.volumes before asked gone after → IsOver after → Turns s before asked gone (begun s) after begins
turns_begin s before after (Dm sid c) is moves over =
    turns s before (Dm sid c) gone (begun s) after begins (no_table_lost sid c) (λ lost. refl) moves (record {
      limits = refl;
      known = rw (fresh_lost s.limits s.known c) refl;
      may = (refl, inr (inl refl));
      stands = (refl, record { entry = tt; none = tt; space = refl; punched = refl; served = All-nil (λ (k : Kept). k.marked ≡ false); over = over });
    })
turns_begin s before after (Copy volume h segment bytes) is moves over = absurd is
turns_begin s before after (Fetch entry) is moves over = absurd is
turns_begin s before after Idle is moves over = absurd is

call_of : (sid : Sid) (p : Picked) (work : Work) → IsCallOf sid p (asked_for sid p work)
call_of sid p Covering = inl refl
call_of sid p Setting = inr (inl refl)
call_of sid p Reading = inr (inr (inl refl))
call_of sid p (Sealing entry) = inr (inr (inr (inl (entry, refl))))
call_of sid p Punching = inr (inr (inr (inr refl)))

work_is_call : (sid : Sid) (p : Picked) (work : Work) → IsCall (asked_for sid p work)
work_is_call sid p Covering = tt
work_is_call sid p Setting = tt
work_is_call sid p Reading = tt
work_is_call sid p (Sealing entry) = tt
work_is_call sid p Punching = tt

no_full : (asked : Act) (volume : ℕ) → IsCall asked → IsFull volume asked gone → ⊥
no_full (Dm sid c) volume is full = full
no_full (Copy v h segment bytes) volume is full = is
no_full (Fetch entry) volume is full = is
no_full Idle volume is full = is

pub turns_lost_pass : (s : Standing) (pass : Pass) (asked : Act) (told : Heard) (p : Picked) (work : Work) → Stands (stage.Working p work) s pass asked → is_gone told ≡ true
    → Turns s pass asked told (begun s) (record pass { ended = Some gone }) begins
turns_lost_pass s pass asked told p work stands lost =
    rw (stands.0, gone_is told lost) (turns_begin s pass (record pass { ended = Some gone }) (asked_for pass.sid p work) (work_is_call pass.sid p work)
    (moves_end s.limits.volumes pass (asked_for pass.sid p work) gone (no_full (asked_for pass.sid p work) pass.volume (work_is_call pass.sid p work)) stands.1.at.under_way (p, stands.1.at.pick, call_of pass.sid p work))
    (inr (gone, refl)))

entry_out : (asked : Act) → IsEntry asked → IsOfPass asked → ⊥
entry_out (Dm sid call.GetAllSessions) entry of = of
entry_out (Dm sid (call.QuerySession target)) entry of = of
entry_out (Dm sid (call.CreateSession old info)) entry of = of
entry_out (Dm sid (call.SetDisp kinds)) entry of = of
entry_out (Dm sid call.GetAllTokens) entry of = of
entry_out (Dm sid (call.FindEventMsg t room)) entry of = of
entry_out asked entry of = entry

out_as : (a b : Act) → a ≡ b → (IsOfPass b → ⊥) → IsOfPass a → ⊥
out_as a b same out of = out (subst (λ (x : Act). IsOfPass x) same of)

call_as : (a b : Act) → a ≡ b → IsCall b → IsCall a
call_as a b same is = subst (λ (x : Act). IsCall x) (sym same) is

entry_is_call : (asked : Act) → IsEntry asked → IsCall asked
entry_is_call (Dm sid c) entry = tt
entry_is_call (Copy volume h segment bytes) entry = entry
entry_is_call (Fetch entry') entry = entry
entry_is_call Idle entry = entry

-- it was told so of a call, and outside of passes
record IsOut (s : Standing) (pass : Pass) (asked : Act) (told : Heard) : Type 0 where
  call : IsCall asked
  out : IsOfPass asked → ⊥
  over : IsOver pass
  gone : told ≡ gone

lost_out : (st : Stage) (s : Standing) (pass : Pass) (asked : Act) (told : Heard) → ((p : Picked) (work : Work) → st ≡ stage.Working p work → ⊥) → Stands st s pass asked → is_lost st told ≡ true → IsOut s pass asked told
lost_out stage.Outside s pass asked told other stands lost = absurd (true≢false (sym lost))
lost_out stage.Entering s pass asked told other stands lost = record {
  call = call_as asked s.way stands.0 (entry_is_call s.way stands.1.entry);
  out = out_as asked s.way stands.0 (entry_out s.way stands.1.entry);
  over = stands.1.over;
  gone = gone_is told lost;
}
lost_out (stage.Resting sid) s pass asked told other stands lost = absurd (true≢false (sym lost))
lost_out (stage.Measuring sid) s pass asked told other stands lost = record { call = call_as asked _ stands.0 tt; out = out_as asked _ stands.0 (λ of. of); over = stands.1.over; gone = gone_is told lost }
lost_out (stage.Asking sid) s pass asked told other stands lost = record { call = call_as asked _ stands.0 tt; out = out_as asked _ stands.0 (λ of. of); over = stands.1.over; gone = gone_is told lost }
lost_out (stage.Looking sid) s pass asked told other stands lost = record { call = call_as asked _ stands.0 tt; out = out_as asked _ stands.0 (λ of. of); over = stands.1.over; gone = gone_is told lost }
lost_out (stage.Working p work) s pass asked told other stands lost = absurd (other p work refl)
lost_out (stage.Copying p) s pass asked told other stands lost = absurd (true≢false (sym lost))
lost_out (stage.Answering sid t) s pass asked told other stands lost = record { call = call_as asked _ stands.0.1 tt; out = out_as asked _ stands.0.1 (λ of. of); over = stands.2; gone = gone_is told lost }

pub turns_lost : (st : Stage) (s : Standing) (pass : Pass) (asked : Act) (told : Heard) → ((p : Picked) (work : Work) → st ≡ stage.Working p work → ⊥) → Stands st s pass asked → is_lost st told ≡ true
    → Turns s pass asked told (begun s) pass begins
turns_lost st s pass asked told other stands lost =
    let out = lost_out st s pass asked told other stands lost in
    rw out.gone (turns_begin s pass pass asked out.call (moves_none s.limits.volumes pass asked gone out.out) out.over)

-- ---- its way

knows_entry : (limits : Numbers) (k : Known) (asked : Act) (told : Heard) → IsEntry asked → knows_by limits k asked told ≡ record k { seat = seat_hears_by Migrate k.seat asked told }
knows_entry limits k (Dm sid call.GetAllSessions) (heard.Dm answer) entry = refl
knows_entry limits k (Dm sid call.GetAllSessions) told entry = refl
knows_entry limits k (Dm sid (call.QuerySession target)) (heard.Dm answer) entry = refl
knows_entry limits k (Dm sid (call.QuerySession target)) told entry = refl
knows_entry limits k (Dm sid (call.CreateSession old info)) (heard.Dm answer) entry = refl
knows_entry limits k (Dm sid (call.CreateSession old info)) told entry = refl
knows_entry limits k (Dm sid (call.SetDisp kinds)) (heard.Dm answer) entry = refl
knows_entry limits k (Dm sid (call.SetDisp kinds)) told entry = refl
knows_entry limits k (Dm sid call.GetAllTokens) (heard.Dm answer) entry = refl
knows_entry limits k (Dm sid call.GetAllTokens) told entry = refl
knows_entry limits k (Dm sid (call.FindEventMsg t room)) (heard.Dm answer) entry = refl
knows_entry limits k (Dm sid (call.FindEventMsg t room)) told entry = refl
knows_entry limits k asked told entry = absurd entry

-- a call on the way, as its seat sees it
asks_entry : (k : Known) (sid : Sid) (c : DmCall) → k.space ≡ None → k.punched ≡ false → IsEntry (Dm sid c) → record k { seat = seat_asks k.seat c } ≡ asks_by k (Dm sid c)
asks_entry k sid call.GetAllSessions space punched entry = cc
asks_entry k sid (call.QuerySession target) space punched entry = refl
asks_entry k sid (call.CreateSession old info) space punched entry = cc
asks_entry k sid (call.SetDisp kinds) space punched entry = refl
asks_entry k sid call.GetAllTokens space punched entry = refl
asks_entry k sid (call.FindEventMsg t room) space punched entry = refl
asks_entry k sid c space punched entry = refl

may_is_entry : (s : Seat) (asked : Act) (told : Heard) (sid : Sid) (c : DmCall) → MayEnter Migrate s asked told sid c → IsEntry (Dm sid c)
may_is_entry s asked told sid call.GetAllSessions may = tt
may_is_entry s asked told sid (call.QuerySession target) may = tt
may_is_entry s asked told sid (call.CreateSession old info) may = tt
may_is_entry s asked told sid (call.SetDisp kinds) may = tt
may_is_entry s asked told sid call.GetAllTokens may = tt
may_is_entry s asked told sid (call.FindEventMsg t room) may = tt
may_is_entry s asked told sid c may = may.1

may_give : (limits : Numbers) (k : Known) (before after : Pass) (asked : Act) (told : Heard) (sid : Sid) (c : DmCall) → MayEnter Migrate k.seat asked told sid c → MayGive limits k before after asked told (Dm sid c)
may_give limits k before after asked told sid call.GetAllSessions may = may
may_give limits k before after asked told sid (call.QuerySession target) may = may
may_give limits k before after asked told sid (call.CreateSession old info) may = may
may_give limits k before after asked told sid (call.SetDisp kinds) may = may
may_give limits k before after asked told sid call.GetAllTokens may = may
may_give limits k before after asked told sid (call.FindEventMsg t room) may = may
may_give limits k before after asked told sid c may = absurd may.1

none_either : (b : Bool) (a c : Seat) → NoneServed a.kept → NoneServed c.kept → NoneServed (if b then a else c).kept
none_either true a c first second = first
none_either false a c first second = second

none_heard : (s : Seat) (asked : Act) (told : Heard) → IsEntry asked → NoneServed s.kept → NoneServed (seat_hears_by Migrate s asked told).kept
none_heard s (Dm sid call.GetAllSessions) (heard.Dm (reply.Sids ids)) entry none = none
none_heard s (Dm sid call.GetAllSessions) (heard.Dm answer) entry none = none
none_heard s (Dm sid call.GetAllSessions) told entry none = none
none_heard s (Dm sid (call.QuerySession target)) (heard.Dm (reply.Info info)) entry none = none_either _ (record s { found = Some target }) _ none none
none_heard s (Dm sid (call.QuerySession target)) (heard.Dm answer) entry none = none
none_heard s (Dm sid (call.QuerySession target)) told entry none = none
none_heard s (Dm sid (call.CreateSession old info)) (heard.Dm (reply.Session made)) entry none = All-nil (λ (k : Kept). k.marked ≡ false)
none_heard s (Dm sid (call.CreateSession old info)) (heard.Dm answer) entry none = none
none_heard s (Dm sid (call.CreateSession old info)) told entry none = none
none_heard s (Dm sid (call.SetDisp kinds)) (heard.Dm reply.Done) entry none = none
none_heard s (Dm sid (call.SetDisp kinds)) (heard.Dm answer) entry none = none
none_heard s (Dm sid (call.SetDisp kinds)) told entry none = none
none_heard s (Dm sid call.GetAllTokens) (heard.Dm (reply.Tokens tokens)) entry none = none
none_heard s (Dm sid call.GetAllTokens) (heard.Dm answer) entry none = none
none_heard s (Dm sid call.GetAllTokens) told entry none = none
none_heard s (Dm sid (call.FindEventMsg t room)) (heard.Dm (reply.Packed bytes tokens)) entry none = none_served s.kept bytes none
none_heard s (Dm sid (call.FindEventMsg t room)) (heard.Dm (reply.Refused why.NoToken)) entry none = none
none_heard s (Dm sid (call.FindEventMsg t room)) (heard.Dm (reply.Refused (why.NotYours owner))) entry none = none
none_heard s (Dm sid (call.FindEventMsg t room)) (heard.Dm answer) entry none = none
none_heard s (Dm sid (call.FindEventMsg t room)) told entry none = none
none_heard s asked told entry none = absurd entry

none_asked : (s : Seat) (c : DmCall) → NoneServed s.kept → NoneServed (seat_asks s c).kept
none_asked s call.GetAllSessions none = All-nil (λ (k : Kept). k.marked ≡ false)
none_asked s (call.CreateSession old info) none = All-nil (λ (k : Kept). k.marked ≡ false)
none_asked s c none = none

has_none : (s : Seat) (sid : Sid) (c : DmCall) → HasNone (Dm sid c) (seat_asks s c)
has_none s sid (call.CreateSession old info) = refl
has_none s sid c = tt

entry_no_table : (asked : Act) (told : Heard) → IsEntry asked → HasTable asked told → ⊥
entry_no_table (Dm sid call.GetTable) told entry has = entry
entry_no_table asked told entry has = has

entry_not_all : (asked : Act) (told : Heard) → IsEntry asked → HasAll asked told → ⊥
entry_not_all (Dm sid (call.GetEvents most room)) told entry all = entry
entry_not_all asked told entry all = all

entry_lives : (asked : Act) (told : Heard) → is_gone told ≡ false → Refuses asked told → ⊥
entry_lives (Dm sid c) told lives lost = let is = ap is_gone lost in cc
entry_lives (Copy volume h segment bytes) told lives lost = lost
entry_lives (Fetch entry) told lives lost = lost
entry_lives Idle told lives lost = lost

-- what it knows then
abbrev entered : Standing → Seat → Act → Standing
entered s seat way = record s { known = record (s.known) { seat = seat }; way = way }

abbrev hearing : Standing → Heard → Seat
hearing s told = seat_hears_by Migrate s.known.seat s.way told

whole : (s new : Standing) (seat : Seat) (way : Act) → new ≡ record s { known = record (s.known) { seat = new.known.seat }; way = new.way } → new.known.seat ≡ seat → new.way ≡ way → new ≡ entered s seat way
whole s new seat way stays is asked = stays ∙ (λ i. entered s (is i) (asked i))

turns_entry : (s : Standing) (pass : Pass) (told : Heard) (new : Standing) (turn : Turn) → IsEntering s pass → is_gone told ≡ false
    → Gives s.limits (record (s.known) { seat = hearing s told }) pass pass s.way told new turn → Turns s pass s.way told new pass turn
turns_entry s pass told new turn e lives gives =
    turns s pass s.way told new pass turn (entry_no_table s.way told e.entry) (λ lost. absurd (entry_lives s.way told lives lost)) (moves_none s.limits.volumes pass s.way told (entry_out s.way e.entry))
    (rw (knows_entry s.limits s.known s.way told e.entry) gives)

-- it asks on
turns_asks_call : (s : Standing) (pass : Pass) (told : Heard) (sid : Sid) (c : DmCall) → IsEntering s pass → is_gone told ≡ false → MayEnter Migrate (hearing s told) s.way told sid c
    → Turns s pass s.way told (entered s (seat_asks (hearing s told) c) (Dm sid c)) pass (record { stage = stage.Entering; act = Dm sid c })
turns_asks_call s pass told sid c e lives may =
    let entry = may_is_entry (hearing s told) s.way told sid c may in
    turns_entry s pass told _ _ e lives (record {
      limits = refl;
      known = asks_entry (record (s.known) { seat = hearing s told }) sid c e.space e.punched entry;
      may = may_give s.limits (record (s.known) { seat = hearing s told }) pass pass s.way told sid c may;
      stands = (
        refl,
        record {
          entry = entry;
          none = has_none (hearing s told) sid c;
          space = e.space;
          punched = e.punched;
          served = none_asked (hearing s told) c (none_heard s.known.seat s.way told e.entry e.served);
          over = e.over;
        },
      );
    })

pub turns_asks : (s : Standing) (pass : Pass) (told : Heard) (new : Standing) (act : Act) → IsEntering s pass → is_gone told ≡ false
    → new ≡ record s { known = record (s.known) { seat = new.known.seat }; way = new.way } → Enters (membership s) told (step.Asks act) (membership new)
    → Turns s pass s.way told new pass (record { stage = stage.Entering; act = act })
turns_asks s pass told new (Dm sid c) e lives stays enters = rw (whole s new _ _ stays enters.seat enters.asked) (turns_asks_call s pass told sid c e lives enters.may)
turns_asks s pass told new (Copy volume h segment bytes) e lives stays enters = absurd enters.may
turns_asks s pass told new (Fetch entry) e lives stays enters = absurd enters.may
turns_asks s pass told new Idle e lives stays enters = absurd enters.may

-- it has a session
pub turns_seated : (s : Standing) (pass : Pass) (told : Heard) (new : Standing) (sid : Sid) (turn : Turn) → IsEntering s pass → is_gone told ≡ false
    → new ≡ record s { known = record (s.known) { seat = new.known.seat }; way = new.way } → Enters (membership s) told (step.Seated sid) (membership new)
    → (IsFree new.known pass sid → (HasAll s.way told → ⊥) → Gives new.limits new.known pass pass s.way told new turn)
    → Turns s pass s.way told new pass turn
turns_seated s pass told new sid turn e lives stays enters gives =
    let is = whole s new _ _ stays enters.seat enters.asked in
    let next = rw is at gives in
    rw is (turns_entry s pass told _ turn e lives (next (record { seated = enters.may; over = e.over; answered = none_heard s.known.seat s.way told e.entry e.served }) (entry_not_all s.way told e.entry)))

-- it was refused one
none_refused : (s : Seat) (asked : Act) (told : Heard) → HasNone asked s → IsRefusedOne asked told → (seat_hears_by Migrate s asked told).sid ≡ None
none_refused s asked told none r = rw (r.3, r.4) (rw r.3 at none)

pub turns_refused : (s : Standing) (pass : Pass) (told : Heard) (new : Standing) → IsEntering s pass → is_gone told ≡ false
    → new ≡ record s { known = record (s.known) { seat = new.known.seat }; way = new.way } → Enters (membership s) told step.Refused (membership new)
    → Turns s pass s.way told new pass (record { stage = stage.Outside; act = Idle })
turns_refused s pass told new e lives stays enters =
    rw (whole s new _ _ stays enters.seat enters.asked) (turns_entry s pass told _ _ e lives (record {
      limits = refl;
      known = λ i. record (s.known) { seat = hearing s told; space = e.space i };
      may = inr enters.may;
      stands = (refl, none_refused s.known.seat s.way told e.none enters.may, e.over);
    }))

-- ---- it rests

pub turns_outside : (s : Standing) (pass : Pass) (asked : Act) (told : Heard) → Stands stage.Outside s pass asked → Turns s pass asked told (begun s) pass begins
turns_outside s pass asked told stands =
    rw stands.0 (turns s pass Idle told (begun s) pass begins (λ has. has) (λ lost. absurd lost) (moves_none s.limits.volumes pass Idle told (λ out. out)) (record {
      limits = refl;
      known = refl;
      may = (refl, inl (stands.1, refl));
      stands = (refl, record { entry = tt; none = tt; space = refl; punched = refl; served = All-nil (λ (k : Kept). k.marked ≡ false); over = stands.2 });
    }))

pub turns_resting : (s : Standing) (pass : Pass) (asked : Act) (told : Heard) (sid : Sid) (turn : Turn) → Stands (stage.Resting sid) s pass asked
    → (IsFree s.known pass sid → (HasAll Idle told → ⊥) → Gives s.limits s.known pass pass Idle told s turn) → Turns s pass asked told s pass turn
turns_resting s pass asked told sid turn stands gives =
    rw stands.0 (turns s pass Idle told s pass turn (λ has. has) (λ lost. absurd lost) (moves_none s.limits.volumes pass Idle told (λ out. out)) (gives stands.1 (λ all. all)))
