-- Events of accesses, and accesses that wait for them.
use Rattle.std.specs.Prelude.{◌≡◌, ℕ, ◌+◌, true, ◌||◌, Option, Some, None}
use Rattle.std.specs.Option.{option_map}
use Rattle.hsm_types.specs.Sessions.{posted}
use Rattle.hsm_types.specs.declared.calls.Reply.TheVariants.{Parked}
use Rattle.hsm_types.specs.declared.dm.Kind.{Kind}
use Rattle.hsm_types.specs.declared.keys.Handle.{Handle}
use Rattle.hsm_types.specs.declared.keys.Token.{Token}
use Rattle.hsm_types.specs.declared.regions.Range.{Range}
use Rattle.hsm_types.specs.Keyed.{set_at}
use Rattle.plain_model.specs.Accesses.{event_message}
use Rattle.plain_model.specs.Ledger.{Means, next_token, ledger_replied}
use Rattle.plain_model.specs.State.{State}
use Rattle.plain_model.specs.Verdict.{Posts, is_no_space, flags_by}
use Rattle.plain_model.specs.Stands.{Awaits}
use Rattle.access_park.specs.Pending.{IsNewToken, has_lawful_answer}
use Rattle.access_park.specs.declared.access.Access.{Access}
use Rattle.dm_service.specs.Tables.{Tables, waiting, pending_as, flags_in, flags_or_none, ledger_of}

-- ---- what is left of a store

-- the access of that caller that waits is this one
abbrev pub with_access : ℕ → Option Access → State → State
with_access c p st = record st { flags = set_at c (flags_or_none p) st.flags; ledger = record st.ledger { pending = set_at c (option_map pending_as p) st.ledger.pending } }

-- an event of that kind is posted, under the next token
abbrev pub with_event : Kind → Handle → Range → State → State
with_event kind handle told st = record st {
  sessions = posted (event_message kind (next_token st.ledger) handle told) st.sessions;
  ledger = record st.ledger { top = st.ledger.top + 1; «open» = set_at (st.ledger.top + 1) true st.ledger.open };
}

-- the caller's access parks on the token of an event of that kind
abbrev pub parked_on : ℕ → Access → Kind → Handle → Range → State → State
parked_on c a kind handle told st = record st {
  sessions = posted (event_message kind (next_token st.ledger) handle told) st.sessions;
  flags = set_at c (flags_by (flags_in a) (Some (Posts kind))) st.flags;
  ledger = ledger_replied st.ledger c (Means a.key a.call) (Parked (next_token st.ledger));
}

-- ---- accesses

-- as it waits for the token of an event of that kind. A continue will clear it
abbrev pub parked : Kind → Token → Access → Access
parked kind t a = record a { cleared = true; spaced = a.spaced || is_no_space kind; token = Some t; answer = None }

-- as it waits for no token, and may be judged again at any time
abbrev pub blocked : Access → Access
blocked a = record a { token = None; answer = None }

-- It may wait: its token was given, is open up to the response, and no other access waits for it; and the response is lawful
pub record MayWait (t : Tables) (a : Access) : Type 0 where
  pub awaits : Awaits (ledger_of t) a.token a.answer
  pub alone : IsNewToken a.token (waiting t)
  pub lawful : has_lawful_answer (Some a) ≡ true
