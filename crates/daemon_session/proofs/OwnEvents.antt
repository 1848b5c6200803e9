-- The events of the daemon's kinds, of messages and of their views.
use Rattle.std.proofs.Common.{◌≡◌, ℕ, suc, List, [], ◌∷◌, length, map, Bool, true, false, if◌then◌else◌, ◌==◌, ◌&&◌, Option, Some, None, refl, ap}
use Rattle.std.proofs.Common.{arith, eq-eqb}
use Rattle.std.specs.List.{All, filter_map, cons_option}
use Rattle.std.specs.Option.{option_map, IfSome}
use Rattle.hsm_types.specs.Handles.{handle_bytes, IsHandle}
use Rattle.hsm_types.specs.Messages.{takes, handle_or_none}
use Rattle.hsm_types.specs.declared.dm.Kind.{Kind}
use Rattle.hsm_types.specs.declared.keys.Handle.{Handle}
use Rattle.hsm_types.specs.declared.keys.Token.{Token}
use Rattle.hsm_types.specs.declared.messages.Message.{Message}
use Rattle.dm_handles.specs.Laws.{ReadsBack}
use Rattle.event_msgs.specs.Buffers.{IsInGrammar}
use Rattle.event_msgs.specs.Reading.{handle_in}
use Rattle.event_msgs.specs.Views.{shown}
use Rattle.hsm_types.specs.declared.daemons.Daemon.{Daemon}
use Rattle.daemon_session.specs.declared.events.Kept.{Kept}
use Rattle.hsm_types.specs.Daemons.{kinds_of}
use Rattle.daemon_session.specs.Tellings.{own_event}
use Rattle.daemon_session.specs.Keeping.{own_shown}

abbrev ReadBack : Type 0
ReadBack = (h : Handle) → IsHandle h → ReadsBack h

handle_again : (h : Handle) → ReadsBack h → handle_in (handle_bytes h) ≡ h
handle_again h r i = record { fsid = r.fsid i; key = record { ino = r.ino i; igen = r.igen i } }

abbrev kept_on : Kind → Token → ℕ → ℕ → Handle → Kept
kept_on k t offset len h = record { event = record { token = t; kind = k; handle = h; offset = offset; length = len }; marked = false }

own_by : ReadBack → (own : Bool) (k : Kind) (t : Token) (offset len : ℕ) (handle : Option Handle) → IfSome handle IsHandle
    → (if own && length (handle_or_none handle) == 24 then Some (kept_on k t offset len (handle_in (handle_or_none handle))) else None) ≡ (if own then option_map (kept_on k t offset len) handle else None)
own_by read false k t offset len handle is = refl
own_by read true k t offset len None is = refl
own_by read true k t offset len (Some h) is =
    let r = read h is in
    rw (eq-eqb _ _ r.size) (ap (λ (g : Handle). Some (kept_on k t offset len g)) (handle_again h r))

own_one : ReadBack → (d : Daemon) (m : Message) → IsInGrammar m → own_shown d (shown m) ≡ own_event d m
own_one read d m is = own_by read (takes (kinds_of d) m.kind) m.kind m.token m.offset m.length m.handle is.handle

pub own_events : ReadBack → (d : Daemon) (messages : List Message) → All IsInGrammar messages → filter_map (own_shown d) (map shown messages) ≡ filter_map (own_event d) messages
own_events read d [] each = refl
own_events read d (m ∷ more) each = λ i. cons_option (own_one read d m (each 0 m (omega arith)) i) (own_events read d more (λ k x lt. each (suc k) x (omega arith)) i)
