-- The records of an event are taken one after another.
use Rattle.std.proofs.Common.{◌≡◌, Some, ◌↔◌, ◌⊎◌, ⊎_elim, inr, ◌∙◌, Option, Err, List, [], ◌∷◌, rules, refl, arith}
use Rattle.std.specs.Prelude.{None, Result}
use Rattle.std.specs.List.{AllByRecursion}
use Rattle.hsm_types.specs.Refusals.{first_refusal}
use Rattle.hsm_types.specs.declared.dm.DmRefusal.{DmRefusal}
use Rattle.journal_records.specs.declared.records.Record.{Record}
use Rattle.journal_records.specs.declared.records.Record.TheVariants.{Map, Stub}
use Rattle.meta_store.specs.Catalogs.{Catalog}
use Rattle.meta_store.specs.Records.{after, after_all, refusal_of, refusal_of_all, CanStand, CanStandAll, IsEvent}
use Rattle.snapshot_text.specs.FileRecords.{IsSure}

-- no part refuses what is sure: a segment that goes away has an entry before
sure_stands : (r : Record) (c : Catalog) → IsSure r → CanStand r c → refusal_of r c ≡ None
sure_stands (Map ino block places) c sure can = refl
sure_stands (Stub ino j None) c sure can = refl
sure_stands (Stub ino j (Some stub)) c sure can = rw (can.1, can.2.turns.goes sure) refl
sure_stands r c sure can = absurd sure

all_stand : (rs : List Record) (c : Catalog) → AllByRecursion IsSure rs → CanStandAll rs c → refusal_of_all rs c ≡ None
all_stand [] c sure can = refl
all_stand (r ∷ rs) c sure can = rw (sure_stands r c sure.0 can.0, all_stand rs (after r c) sure.1 can.1) refl

-- Some of an event's records are taken, and these are left: all of them, or only such as are sure.
pub record IsTaking (records : List Record) (old : Catalog) (left : List Record) (now : Catalog) : Type 0 where
  pub stand : CanStandAll left now
  pub geometry : now.geometry ≡ old.geometry
  pub ends : after_all left now ≡ after_all records old
  pub judged : refusal_of_all left now ≡ refusal_of_all records old
  pub begun : (now ≡ old) × IsEvent left ⊎ AllByRecursion IsSure left

first-passes : (a b : Option DmRefusal) → a ≡ None → b ≡ first_refusal (a ∷ b ∷ [])
first-passes a b none = grind arith

module _ (records : List Record) (old : Catalog) (r : Record) (left : List Record) (now : Catalog) (taking : IsTaking records old (r ∷ left) now) where
  -- behind it only such are left
  sure_left : AllByRecursion IsSure left
  sure_left = ⊎_elim (λ h. h.1) (λ sure. sure.1) taking.begun

  -- a record that isn't taken is the first
  pub taking-stops : (IsSure r → ⊥) → now ≡ old
  taking-stops other = ⊎_elim (λ h. h.0) (λ sure. absurd (other sure.0)) taking.begun

  pub taking-judged : refusal_of r now ≡ refusal_of_all records old
  taking-judged = grind (arith, all_stand left (after r now) sure_left taking.stand.1, taking.judged)

geometry-after : (r : Record) (c : Catalog) → (after r c).geometry ≡ c.geometry
geometry-after r c = grind arith

-- one more is taken
pub taking-next : (records : List Record) (old : Catalog) (r : Record) (left : List Record) (now new : Catalog) → IsTaking records old (r ∷ left) now → refusal_of r now ≡ None → new ≡ after r now → IsTaking records old left new
taking-next records old r left now new t passes is = rw is (record {
  stand = t.stand.1;
  geometry = geometry-after r now ∙ t.geometry;
  ends = t.ends;
  judged = first-passes (refusal_of r now) (refusal_of_all left (after r now)) passes ∙ t.judged;
  begun = inr (sure_left records old r left now t);
})

-- the same error, of another function
pub told_on : {T U E : Type 0} (e v : E) (P : Type 0) → ◌≡◌ {A = Result T E} (Err e) (Err v) ↔ P → ◌≡◌ {A = Result U E} (Err e) (Err v) ↔ P
told_on e v P h = search (rules, h)
