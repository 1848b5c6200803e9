-- What comes next between passes.
use Rattle.std.proofs.Common.{◌≡◌, ◌≢◌, ℕ, ◌<◌, Bool, true, false, List, [], ◌∷◌, ◌++◌, Option, Some, None, Contains, refl, ap, inl, inr, arith}
use Rattle.std.specs.Prelude.{IfSome, IsTrue, if◌then◌else◌}
use Rattle.std.specs.List.{filter_map, cons_option}
use Rattle.std.specs.Option.{option_map}
use Rattle.std.proofs.lemmas.List.Elements.{All-append, All-nil, All-cons}
use Rattle.hsm_types.specs.Limits.{buffer_bytes}
use Rattle.hsm_types.specs.declared.daemons.Act.{Act}
use Rattle.hsm_types.specs.declared.daemons.Act.TheVariants.{Dm}
use Rattle.hsm_types.specs.declared.daemons.Heard.{Heard}
use Rattle.hsm_types.specs.declared.daemons.Heard.TheVariants as heard
use Rattle.hsm_types.specs.declared.dm.DmCall.TheVariants as call
use Rattle.hsm_types.specs.declared.dm.DmReply.TheVariants as reply
use Rattle.hsm_types.specs.declared.dm.DmRefusal.TheVariants as why
use Rattle.hsm_types.specs.declared.dm.Response.{Response}
use Rattle.hsm_types.specs.declared.keys.Handle.{Handle}
use Rattle.hsm_types.specs.declared.keys.Sid.{Sid}
use Rattle.hsm_types.specs.declared.keys.Token.{Token}
use Rattle.hsm_types.specs.declared.tables.Table.{Table}
use Rattle.hsm_policy.specs.Picking.{IsPick}
use Rattle.hsm_policy.specs.Settings.{Numbers}
use Rattle.hsm_policy.specs.declared.picking.Picked.{Picked}
use Rattle.hsm_types.specs.declared.daemons.Daemon.TheVariants.{Migrate}
use Rattle.daemon_session.specs.declared.events.Kept.{Kept}
use Rattle.hsm_types.specs.declared.messages.Message.{Message}
use Rattle.hsm_types.specs.declared.dm.DmCall.{DmCall}
use Rattle.daemon_session.specs.Tellings.{event_on, own_event, events_in}
use Rattle.daemon_session.specs.Seats.{IsSeated, Refuses}
use Rattle.migrate_daemon.specs.declared.shares.Space.{Space}
use Rattle.migrate_daemon.specs.declared.stages.Turn.{Turn}
use Rattle.migrate_daemon.specs.Known.{Known, is_due, knows_by}
use Rattle.migrate_daemon.specs.Passes.{Pass, begun_pass}
use Rattle.migrate_daemon.specs.Shares.{share}
use Rattle.migrate_daemon.specs.Machine.{IsTable, HasAll, IsFree, WantsSpace, NoneServed}
use Rattle.migrate_daemon.specs.Hearing.{is_gone, has_no_more, space_in, messages_in, table_in}
use Rattle.migrate_daemon.specs.MachineStates.{Standing, resting, taking_up}
use Rattle.migrate_daemon.specs.Stages.{rests, looks}
use Rattle.migrate_daemon.specs.Turns.{Gives, Turns}
use Rattle.migrate_daemon.proofs.Turning.{HasTable, over_outside, turns_out}

pub gives_rest : (s : Standing) (pass before : Pass) (asked : Act) (told : Heard) (sid : Sid) → IsFree s.known pass sid → HasAll asked told
    → (s.known.seat.kept ≡ []) → (is_due s.limits s.known ≡ false) → (WantsSpace s.known → ⊥) → Gives s.limits s.known before pass asked told (resting s) (rests sid)
gives_rest s pass before asked told sid free all none not_due known = record {
  limits = refl;
  known = refl;
  may = inl (all, free.over, none, not_due, known);
  stands = (refl, record { seated = free.seated; over = free.over; answered = free.answered });
}

-- ---- what it knows by the answer

pub not_measured : (limits : Numbers) (k : Known) (sid : Sid) (told : Heard) → space_in told ≡ None → knows_by limits k (Dm sid call.GetSpace) told ≡ k
not_measured limits k sid (heard.Dm (reply.Space used total)) none = cc
not_measured limits k sid (heard.Dm answer) none = refl
not_measured limits k sid told none = refl

pub measured : (limits : Numbers) (k : Known) (sid : Sid) (told : Heard) (space : Space) → space_in told ≡ Some space → knows_by limits k (Dm sid call.GetSpace) told ≡ record k { space = Some space }
measured limits k sid (heard.Dm (reply.Space used total)) space some = ap (λ (s : Option Space). record k { space = s }) some
measured limits k sid told space some = cc

pub told_none : (limits : Numbers) (k : Known) (sid : Sid) (told : Heard) → messages_in told ≡ None → knows_by limits k (Dm sid (call.GetEvents 0 buffer_bytes)) told ≡ k
told_none limits k sid (heard.Dm (reply.Packed bytes tokens)) none = cc
told_none limits k sid (heard.Dm answer) none = refl
told_none limits k sid told none = refl

-- ---- it goes on with what it knows then

-- no event of a buffer is marked
abbrev pub IsFresh : Kept → Type 0
IsFresh k = k.marked ≡ false

fresh_event : (takes : Bool) (m : Message) (o : Option Handle) → IfSome (if takes then option_map (λ (h : Handle). record { event = event_on m h; marked = false }) o else None) IsFresh
fresh_event true m (Some h) = refl
fresh_event true m None = tt
fresh_event false m o = tt

fresh_more : (o : Option Kept) (kept : List Kept) → IfSome o IsFresh → NoneServed kept → NoneServed (cons_option o kept)
fresh_more (Some k) kept fresh none = All-cons IsFresh k kept fresh none
fresh_more None kept fresh none = none

fresh_events : (ms : List Message) → NoneServed (filter_map (own_event Migrate) ms)
fresh_events [] = All-nil IsFresh
fresh_events (m ∷ ms) = fresh_more (own_event Migrate m) _ (fresh_event _ m m.handle) (fresh_events ms)

pub none_served : (kept : List Kept) (bytes : List ℕ) → NoneServed kept → NoneServed (kept ++ events_in Migrate bytes)
none_served kept bytes none = All-append (λ (k : Kept). k.marked ≡ false) kept (events_in Migrate bytes) none (search fresh_events)

-- it stays free through what it hears
pub free_space : (limits : Numbers) (k : Known) (pass : Pass) (sid s : Sid) (told : Heard) → IsFree k pass sid → IsFree (knows_by limits k (Dm s call.GetSpace) told) pass sid
free_space limits k pass sid s (heard.Dm (reply.Space used total)) free = record { seated = free.seated; over = free.over; answered = free.answered }
free_space limits k pass sid s (heard.Dm answer) free = free
free_space limits k pass sid s told free = free

pub free_events : (limits : Numbers) (k : Known) (pass : Pass) (sid s : Sid) (told : Heard) → IsFree k pass sid → IsFree (knows_by limits k (Dm s (call.GetEvents 0 buffer_bytes)) told) pass sid
free_events limits k pass sid s (heard.Dm (reply.Packed bytes tokens)) free = record { seated = record { session = free.seated.session; set = free.seated.set; found = free.seated.found }; over = free.over; answered = none_served k.seat.kept bytes free.answered }
free_events limits k pass sid s (heard.Dm answer) free = free
free_events limits k pass sid s told free = free

pub seated_answer : (limits : Numbers) (k : Known) (sid s : Sid) (t : Token) (response : Response) (told : Heard) → IsSeated k.seat sid → IsSeated (knows_by limits k (Dm s (call.Respond t response)) told).seat sid
seated_answer limits k sid s t response (heard.Dm reply.Done) seated = record { session = seated.session; set = seated.set; found = seated.found }
seated_answer limits k sid s t response (heard.Dm (reply.Refused why.NoToken)) seated = record { session = seated.session; set = seated.set; found = seated.found }
seated_answer limits k sid s t response (heard.Dm (reply.Refused (why.NotYours owner))) seated = record { session = seated.session; set = seated.set; found = seated.found }
seated_answer limits k sid s t response (heard.Dm answer) seated = seated
seated_answer limits k sid s t response told seated = seated

pub lives : (sid : Sid) (c : DmCall) (told : Heard) → is_gone told ≡ false → Refuses (Dm sid c) told → ⊥
lives sid c (heard.Dm (reply.Refused why.NoSession)) no_more gone = cc
lives sid c told no_more gone = cc

pub not_all : (sid : Sid) (told : Heard) → has_no_more told ≡ false → HasAll (Dm sid (call.GetEvents 0 buffer_bytes)) told → ⊥
not_all sid (heard.Dm (reply.Refused why.Again)) no_more all = cc
not_all sid told no_more all = all

-- there are no more events
pub all_told : (sid : Sid) (told : Heard) → has_no_more told ≡ true → HasAll (Dm sid (call.GetEvents 0 buffer_bytes)) told
all_told sid (heard.Dm (reply.Refused why.Again)) is = (refl, refl)
all_told sid told is = cc

pub none_told : (told : Heard) → has_no_more told ≡ true → messages_in told ≡ None
none_told (heard.Dm (reply.Refused why.Again)) is = refl
none_told told is = cc

pub none_kept : (b : Bool) (kept : List Kept) → (IsTrue b → kept ≢ []) × (kept ≢ [] → IsTrue b) → b ≡ false → kept ≡ []
none_kept b [] iff no_more = refl
none_kept b (k ∷ kept) iff no_more = absurd (let yes : IsTrue b = iff.1 (λ same. cc) in cc)

-- ---- the table

not_table : (sid : Sid) (told : Heard) → table_in told ≡ None → HasTable (Dm sid call.GetTable) told → ⊥
not_table sid (heard.Dm (reply.Table table)) none has = cc
not_table sid told none has = has

no_table_told : (told : Heard) → table_in told ≡ None → IsTable told → ⊥
no_table_told (heard.Dm (reply.Table table)) none is = cc
no_table_told told none is = is

untabled : (limits : Numbers) (k : Known) (sid : Sid) (told : Heard) → table_in told ≡ None → knows_by limits k (Dm sid call.GetTable) told ≡ k
untabled limits k sid (heard.Dm (reply.Table table)) none = cc
untabled limits k sid (heard.Dm answer) none = refl
untabled limits k sid told none = refl

-- it asks for the table again
pub turns_look : (s : Standing) (pass : Pass) (sid : Sid) (told : Heard) → IsFree s.known pass sid → is_gone told ≡ false → table_in told ≡ None → Turns s pass (Dm sid call.GetTable) told s pass (looks sid)
turns_look s pass sid told free living none =
    turns_out s pass (Dm sid call.GetTable) told s (looks sid) (λ out. out) (not_table sid told none) (lives sid call.GetTable told living) (rw (untabled s.limits s.known sid told none) (record {
      limits = refl;
      known = refl;
      may = (free, inr (refl, no_table_told told none));
      stands = (refl, free);
    }))

none_contained : {X : Type 0} (x : X) → Contains [] x → ⊥
none_contained x has = absurd (omega (arith, has.1))

-- a pass begins
pub turns_table : (s : Standing) (before : Pass) (sid : Sid) (table : Table) (picks : List Picked) (turn : Turn) → IsPick table (share s.limits.low table.total) picks
    → Gives s.limits (taking_up s).known before (begun_pass sid picks) (Dm sid call.GetTable) (heard.Dm (reply.Table table)) (taking_up s) turn
    → Turns s before (Dm sid call.GetTable) (heard.Dm (reply.Table table)) (taking_up s) (begun_pass sid picks) turn
turns_table s before sid table picks turn picked gives = record {
  goes = record {
    limits = gives.limits;
    known = gives.known;
    asked = refl;
    pass = (picks, picked, refl);
    may = gives.may;
    over = over_outside turn.stage (taking_up s) (begun_pass sid picks) turn.act gives.stands;
    begins = λ lost. cc;
    passes = λ talk passed. record {
      done = λ k p below is. absurd (let none : k < 0 = below in omega arith);
      listed = λ x has. absurd (none_contained x has);
      ended = tt;
    };
  };
  stands = gives.stands;
}
