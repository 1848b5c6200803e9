-- One event more, published for the pass that it was made with.
use Rattle.std.specs.Prelude.{◌≡◌, ◌⊎◌, ◌<◌, ◌≤◌, ◌+◌, ℕ, List, [], ◌∷◌, ◌++◌, map, length, slice_get, get_or, All, true, Option, Some, None, IfSome}
use Rattle.std.specs.List.{HoldsAt}
use Rattle.std.specs.Option.{MatchOption, option_copied}
use denote.Bor.{Bor}
use Rattle.std.proofs.Common.{refl, inl, inr, ap, sym, subst, ◌∙◌, append-nil, length-append, arith}
use Rattle.std.proofs.lemmas.List.{length-map, map-append}
use Rattle.std.proofs.lemmas.Option.{slice_get-get_or, slice_get_past}
use Rattle.std.proofs.Math.Seq.{get_or-append_seam}
use mathlib.Core.List.{IsPrefix}
use Rattle.atomic_table.specs.Seated.{TableId}
use Rattle.disk_model.specs.declared.device.Disk as disk
use Rattle.plain_model.specs.declared.entries.Action.{Action}
use Rattle.plain_model.specs.declared.entries.Actor.{Actor}
use Rattle.plain_model.specs.declared.entries.Answer.{Answer}
use Rattle.plain_model.specs.declared.entries.Entry.{Entry}
use Rattle.call_seats.specs.Passes.{IsOf, Knowledge, PublishedFor, marks_for}
use Rattle.call_seats.specs.Views.{mark}
use Rattle.call_seats.specs.declared.views.Mark.{Mark}
use Rattle.call_seats.proofs.Beginnings.{prefix_more}
use Rattle.file_store.specs.Stores.{Store as FileStore}
use Rattle.hsm_core.specs.Store.{Store}
use Rattle.hsm_threads.specs.Happens.{IsEvent}
use Rattle.hsm_threads.specs.Published.{HasSeenAll, IsPenOf, IsPublished, Publishes, entries_of}

entries_marked : (n : ℕ) (es : List Entry) → entries_of (map (mark n) es) ≡ es
entries_marked n [] = refl
entries_marked n (e ∷ es) = ap (λ (xs : List Entry). e ∷ xs) (entries_marked n es)

-- what is published of a history that has grown by one entry, or by none
pub record IsNext (old new : List Entry) (entry : Option Entry) : Type 0 where
  pub added : List Entry
  pub history : new ≡ old ++ added
  pub marks : (n : ℕ) → marks_for n entry ≡ map (mark n) added

none_next : (old : List Entry) (entry : Option Entry) → entry ≡ None → IsNext old old entry
none_next old None is = record { added = []; history = sym (append-nil old); marks = λ n. refl }
none_next old (Some e) is = absurd cc

one_next : (old : List Entry) (e : Entry) (entry : Option Entry) → entry ≡ Some e → IsNext old (old ++ e ∷ []) entry
one_next old e None is = absurd cc
one_next old e (Some f) is = let same : f ≡ e = cc is in record { added = e ∷ []; history = refl; marks = λ n. ap (λ (x : Entry). mark n x ∷ []) same }

behind : (old : List Entry) (e : Entry) → slice_get (old ++ e ∷ []) (length old) ≡ Some e
behind old e =
    let longer : length (old ++ e ∷ []) ≡ length old + 1 = length-append old (e ∷ []) in
    let there : length old < length (old ++ e ∷ []) = omega (arith, longer) in
    slice_get-get_or (old ++ e ∷ []) (length old) e there ∙ ap Some (get_or-append_seam old e [] e)

pub next_entry : (old new : List Entry) (e : Entry) → (new ≡ old) ⊎ (new ≡ old ++ e ∷ []) → (entry : Option Entry) → entry ≡ slice_get new (length old) → IsNext old new entry
next_entry old new e (inl same) entry is = subst (λ (es : List Entry). IsNext old es entry) (sym same) (none_next old entry (is ∙ ap (λ (es : List Entry). slice_get es (length old)) same ∙ slice_get_past old (length old) (omega arith)))
next_entry old new e (inr more) entry is = subst (λ (es : List Entry). IsNext old es entry) (sym more) (one_next old e entry (is ∙ ap (λ (es : List Entry). slice_get es (length old)) more ∙ behind old e))

-- the entry that is found where the history ended before
pub found_behind : (found : Option (Bor Entry)) (longer shorter new old : List Entry) → longer ≡ new → shorter ≡ old → IfSome found (λ x. x.now ≡ get_or longer (length shorter) x.now)
    → MatchOption found (length longer ≤ length shorter) (λ x. (length shorter < length longer) × HoldsAt (λ y. x.now ≡ y) longer (length shorter)) → option_copied found ≡ slice_get new (length old)
found_behind found longer shorter new old is was at inside = here found at inside ∙ (λ i. slice_get (is i) (length (was i)))
  where
    here : (found : Option (Bor Entry)) → IfSome found (λ x. x.now ≡ get_or longer (length shorter) x.now) → MatchOption found (length longer ≤ length shorter) (λ x. (length shorter < length longer) × HoldsAt (λ y. x.now ≡ y) longer (length shorter)) → option_copied found ≡ slice_get longer (length shorter)
    here None at inside = sym (slice_get_past longer (length shorter) inside)
    here (Some x) at inside = sym (slice_get-get_or longer (length shorter) x.now inside.0 ∙ ap Some (sym at))

module _ {D : Type 0} (table : TableId) (old new : Store D) (whole p whole_now q : Knowledge) (entry : Option Entry) (pen : HasSeenAll table old.history whole) (next : IsNext old.history new.history entry) (done : PublishedFor entry whole p whole_now q) where
  abbrev marks : List Mark
  marks = marks_for p.number entry

  seen_all : entries_of (whole.seen ++ marks) ≡ new.history
  seen_all =
      let added : entries_of marks ≡ next.added = ap (λ (ms : List Mark). entries_of ms) (next.marks p.number) ∙ entries_marked p.number next.added in
      map-append (λ (m : Mark). m.entry) whole.seen marks ∙ (λ i. pen.seen i ++ added i) ∙ sym next.history

  pub pen_behind : HasSeenAll table new.history whole_now
  pen_behind = record {
    at = ap (λ (k : Knowledge). k.table) done.pen ∙ pen.at;
    right = ap (λ (k : Knowledge). k.right) done.pen ∙ pen.right;
    seen = ap (λ (k : Knowledge). entries_of k.seen) done.pen ∙ seen_all;
  }

  pub publishes : (g : disk.Ghosts D) (opened_as : Option (FileStore D)) (actor : Actor) (asked : Action) (given : Answer) → IsEvent g opened_as actor asked given old new → Publishes g opened_as actor asked given p q old new
  publishes g opened_as actor asked given event = record {
    event = event;
    begins = subst (λ (ms : List Mark). IsPrefix p.seen ms) (sym (ap (λ (k : Knowledge). k.seen) done.pass)) (prefix_more p.seen whole.seen marks done.begins);
    seen = ap (λ (k : Knowledge). entries_of k.seen) done.pass ∙ seen_all;
    added = next.added;
    history = next.history;
    made = ap (λ (k : Knowledge). k.made) done.pass ∙ ap (λ (ms : List Mark). p.made ++ ms) (next.marks p.number);
    owns = done.owns;
    number = ap (λ (k : Knowledge). k.number) done.pass;
    at = ap (λ (k : Knowledge). k.table) done.pass;
  }

-- there is room to publish one more
pub has_room : (table : TableId) (history : List Entry) (p : Knowledge) (most : ℕ) → HasSeenAll table history p → length history < most → length p.seen < most
has_room table history p most all few =
    let same : length p.seen ≡ length history = sym (length-map p.seen (λ (m : Mark). m.entry)) ∙ ap (λ (es : List Entry). length es) all.seen in
    omega (arith, same, few)

-- from the pen as it was, to the pen as it is
module _ {D : Type 0} (g : disk.Ghosts D) (opened_as : Option (FileStore D)) (table : TableId) (actor : Actor) (asked : Action) (given : Answer) (old new : Store D) (pen_old pen_new : Option Knowledge) (p q : Knowledge) (entry : Option Entry) where
  -- what publishing for the pass comes to
  abbrev pub PublishesFor : Type 0
  PublishesFor = (whole : Knowledge) × (whole_now : Knowledge) × (pen_old ≡ Some whole) × (pen_new ≡ Some whole_now) × PublishedFor entry whole p whole_now q

  same_pass : (one other : Knowledge) → pen_old ≡ Some one → pen_old ≡ Some other → one ≡ other
  same_pass one other is also = cc (is, also)

  module _ (pen : IsPenOf table old.history pen_old) (next : IsNext old.history new.history entry) (done : PublishesFor) where
    whole_is : HasSeenAll table old.history done.0
    whole_is = subst (λ (k : Knowledge). HasSeenAll table old.history k) (same_pass pen.0 done.0 pen.1 done.2) pen.2

    pub pen_is : IsPenOf table new.history pen_new
    pen_is = (done.1, done.3, pen_behind table old new done.0 p done.1 q entry whole_is next done.4)

    pub event_published : IsEvent g opened_as actor asked given old new → Publishes g opened_as actor asked given p q old new
    event_published event = publishes table old new done.0 p done.1 q entry whole_is next done.4 g opened_as actor asked given event

-- what the pen's pass has seen is the history, and each other pass is told of it
pub all_published : (table : TableId) (history : List Entry) (pen : Option Knowledge) (passes : List Knowledge) → IsPenOf table history pen → IfSome pen (λ p. p.right ≡ true → All (IsOf p.seen) passes) → IsPublished history passes
all_published table history pen passes has told = record {
  all = has.0.seen;
  entries = has.2.seen;
  own = subst (λ (o : Option Knowledge). IfSome o (λ (p : Knowledge). p.right ≡ true → All (IsOf p.seen) passes)) has.1 told has.2.right;
}
