-- The first of the events that were looked at.
use Rattle.std.proofs.Common.{◌≡◌, ◌≤◌, ◌<◌, ℕ, true, false, List, slice_index_or}
use Rattle.std.specs.Prelude.{Option, Contains, MatchOption}
use Rattle.daemon_session.specs.declared.events.Event.{Event}
use Rattle.daemon_session.specs.declared.events.Kept.{Kept}

pub record PutOffTo (i : ℕ) (kept : List Kept) : Type 0 where
  pub marked : (k : ℕ) → k < i → (d : Kept) → (slice_index_or kept k d).marked ≡ true

pub record FirstTo (i : ℕ) (kept : List Kept) (e : Event) : Type 0 where
  pub is_kept : Contains kept (record { event = e; marked = false })
  pub first : (k : ℕ) → k < i → (d : Kept) → (slice_index_or kept k d).marked ≡ false → e.token.0 ≤ (slice_index_or kept k d).event.token.0

abbrev pub ChosenTo : ℕ → List Kept → Option Event → Type 0
ChosenTo i kept first = MatchOption first (PutOffTo i kept) (FirstTo i kept)
