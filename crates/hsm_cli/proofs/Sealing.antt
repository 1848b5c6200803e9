-- What marks tell of what was sealed, over drives of a sure type.
use Rattle.std.proofs.Common.{◌≡◌, ◌≢◌, ◌⊎◌, ◌++◌, ◌∷◌, [], ℕ, true, List, subst}
use Rattle.std.specs.List.{AllByRecursion}
use Rattle.std.proofs.lemmas.List.Elements.{filter_map-append}
use Rattle.media_model.specs.Objects.{Objects}
use Rattle.media_model.specs.declared.drive.Drive as drive
use Rattle.hsm_types.specs.Stubs.{entry_place}
use Rattle.hsm_types.specs.declared.daemons.Daemon.TheVariants.{Recall}
use Rattle.hsm_types.specs.declared.dm.DmCall.TheVariants.{Respond}
use Rattle.hsm_types.specs.declared.dm.Response.TheVariants.{Abort}
use Rattle.hsm_types.specs.declared.stubs.Place.{Place}
use Rattle.hsm_types.specs.declared.stubs.StubEntry.{StubEntry}
use Rattle.hsm_policy.specs.Settings.{Numbers, standard}
use Rattle.recall_daemon.specs.Known.{Known}
use Rattle.marked_history.specs.Marks.{Mark, made}
use Rattle.hsm_replay.specs.Sealed.{seal_by, sealed_in, IsUnnamed, Gives, IsThere, IsStored, IsLost, NeedsLost, Tallies, SealsAreWhole}
use Rattle.marked_history.specs.Served.{shown, nothing_shown}
use Rattle.hsm_cli.specs.Sealing.{IsUnknown, NeedsUnknown, LosesNothing}
use Rattle.marked_history.proofs.Lists.{all_first}

-- of the entries that are sealed, those of a beginning
sealed_first : (P : StubEntry → Type 0) (marks first rest : List Mark) → marks ≡ first ++ rest → AllByRecursion P (sealed_in marks) → AllByRecursion P (sealed_in first)
sealed_first P marks first rest is each =
    let parted : AllByRecursion P (sealed_in (first ++ rest)) = subst (λ (l : List Mark). AllByRecursion P (sealed_in l)) is each in
    all_first P (sealed_in first) (sealed_in rest) (subst (λ (l : List StubEntry). AllByRecursion P l) (filter_map-append (λ (m : Mark). seal_by m.by m.entry.action) first rest) parted)

module _ {M : Type 0} (g : drive.Ghosts M) (opened ds : List M) (law : (d : M) (v : ℕ) → g.has d v ≡ true → (o : Objects) × g.gives d v o) where
  -- a volume with what is stored tells its objects
  none_named : (entry : StubEntry) (xs : List StubEntry) → AllByRecursion (IsStored g ds) xs → ((o : Objects) → Gives g ds (entry_place entry).volume o → IsUnnamed xs entry) → IsUnnamed xs entry
  none_named entry [] each told = tt
  none_named entry (x ∷ xs) each told = (unlike, none_named entry xs each.1 (λ o gives. (told o gives).1))
    where
      unlike : entry_place x ≢ entry_place entry
      unlike same =
          let there : IsThere g ds (entry_place entry).volume = subst (λ (p : Place). IsThere g ds p.volume) same each.0.there in
          let tells = law there.0 (entry_place entry).volume there.2 in
          (told tells.0 (there.0, there.1, tells.1)).0 same

  unknown : (marks : List Mark) (entry : StubEntry) → AllByRecursion (IsStored g ds) (sealed_in marks) → IsLost g opened ds marks entry → IsUnknown marks entry
  unknown marks entry stored lost = record {
    first = lost.first;
    since = lost.since;
    parted = lost.parted;
    others = lost.others;
    unnamed = none_named entry (sealed_in lost.first) (sealed_first (IsStored g ds) marks lost.first lost.since lost.parted stored) lost.unnamed;
  }

  needs_unknown : (k : Known) (marks : List Mark) → AllByRecursion (IsStored g ds) (sealed_in marks) → NeedsLost g opened ds k marks → NeedsUnknown k marks
  needs_unknown k marks stored needs = (needs.0, needs.1, needs.2, needs.3, unknown marks needs.1.entry stored needs.4)

  loses_nothing : (marks : List Mark) → SealsAreWhole g marks → g.sure ≡ true → Tallies g opened ds standard marks → LosesNothing marks
  loses_nothing marks whole sure tallies = record {
    aborts = λ before sid t reply rest is. needs_unknown (shown standard nothing_shown before).recall before (sealed_first (IsStored g ds) marks before (made Recall sid (Respond t (Abort 2)) reply ∷ rest) is tallies.stored) (tallies.aborts before sid t reply rest is);
    damages = whole sure;
  }

-- what marks tell with drives in memory
pub right_of : {M : Type 0} (g : drive.Ghosts M) (opened left : List M) → ((opened drives : List M) (limits : Numbers) (marks : List Mark) → Tallies g opened drives limits marks → SealsAreWhole g marks) → g.sure ≡ true
    → ((d : M) (v : ℕ) → g.has d v ≡ true → (o : Objects) × g.gives d v o) → (marks : List Mark) → Tallies g opened left standard marks → LosesNothing marks
right_of g opened left whole sure law marks tallies = loses_nothing g opened left law marks (whole opened left standard marks tallies) sure tallies
