-- What the passes of who shares a store tell of its events.
use Rattle.std.specs.Prelude.{◌≡◌, ◌++◌, true, All, List, map, Option, Some}
use mathlib.Core.List.{IsPrefix}
use Rattle.atomic_table.specs.Seated.{TableId}
use Rattle.disk_model.specs.declared.device.Disk as disk
use Rattle.plain_model.specs.declared.entries.Action.{Action}
use Rattle.plain_model.specs.declared.entries.Actor.{Actor}
use Rattle.plain_model.specs.declared.entries.Answer.{Answer}
use Rattle.plain_model.specs.declared.entries.Entry.{Entry}
use Rattle.call_seats.specs.Passes.{IsOf, Knowledge}
use Rattle.call_seats.specs.Views.{mark, made_by}
use Rattle.call_seats.specs.declared.views.Mark.{Mark}
use Rattle.file_store.specs.Stores.{Store as FileStore}
use Rattle.hsm_core.specs.Store.{Store}
use Rattle.hsm_threads.specs.Happens.{IsEvent}

abbrev pub entries_of : List Mark → List Entry
entries_of marks = map (λ m. m.entry) marks

-- The pass is at that table, has the right to publish, and has seen just these entries.
pub record HasSeenAll (table : TableId) (history : List Entry) (p : Knowledge) : Type 0 where
  pub at : p.table ≡ table
  pub right : p.right ≡ true
  pub seen : entries_of p.seen ≡ history

-- there is one in the pen
abbrev pub IsPenOf : TableId → List Entry → Option Knowledge → Type 0
IsPenOf table history pen = (p : Knowledge) × (pen ≡ Some p) × HasSeenAll table history p

-- ---- one event

module _ {D : Type 0} (g : disk.Ghosts D) (opened_as : Option (FileStore D)) where
  -- It was one event of the store, made with this pass. What the pass had seen begins what it has seen now, which is the whole history behind the event. Of
  -- that it has made what it had made, and what the event added: its entry, unless memory was wanting or the store was closed before.
  pub record Publishes (actor : Actor) (asked : Action) (given : Answer) (p q : Knowledge) (old new : Store D) : Type 0 where
    pub event : IsEvent g opened_as actor asked given old new
    pub begins : IsPrefix p.seen q.seen
    pub seen : entries_of q.seen ≡ new.history
    pub added : List Entry
    pub history : new.history ≡ old.history ++ added
    pub made : q.made ≡ p.made ++ map (mark p.number) added
    pub owns : made_by q.number q.seen ≡ q.made
    pub number : q.number ≡ p.number
    pub at : q.table ≡ p.table

  -- whatever others did before and do behind it
  abbrev pub Happens : Actor → Action → Answer → Knowledge → Knowledge → Type 0
  Happens actor asked given p q = (old : Store D) × (new : Store D) × Publishes actor asked given p q old new

-- ---- all of it

-- The history is what was published. Each of these passes had seen a beginning of it, and made just its own entries of it.
pub record IsPublished (history : List Entry) (passes : List Knowledge) : Type 0 where
  pub all : List Mark
  pub entries : entries_of all ≡ history
  pub own : All (IsOf all) passes
