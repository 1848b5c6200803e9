-- What is heard of a fetch.
use Rattle.std.proofs.Common.{◌≡◌, ◌∙◌, ◌∷◌, ◌%◌, [], ℕ, zero, suc, true, List, length, Option, Some, None, IfSome, Result, Ok, Err, refl, sym, ap}
use Rattle.std.proofs.Common.{subst, length-set, arith}
use Rattle.std.specs.List.{AllByRecursion}
use Rattle.std.specs.Prelude.{slice_get, slice_set}
use Rattle.media_model.specs.declared.drive.Drive as drive
use Rattle.hsm_types.specs.Stubs.{entry_place}
use Rattle.hsm_types.specs.declared.daemons.Act.TheVariants.{Fetch}
use Rattle.hsm_types.specs.declared.daemons.Heard.TheVariants as heard
use Rattle.hsm_types.specs.declared.media.Fault.{Fault}
use Rattle.hsm_types.specs.declared.media.Fault.TheVariants.{Failed, Damaged}
use Rattle.hsm_types.specs.declared.media.FetchRefusal.{FetchRefusal}
use Rattle.hsm_types.specs.declared.media.FetchRefusal.TheVariants as fetching
use Rattle.hsm_types.specs.declared.stubs.StubEntry.{StubEntry}
use Rattle.volume_shelf.specs.Shelf.{IsCause, HasPrint}
use Rattle.hsm_replay.specs.Acts.{FetchesFrom}
use Rattle.hsm_replay.specs.Drives.{HasGrown}
use Rattle.hsm_replay.specs.Faults.{IsApart, TellsFault, IsTrue, volume_of}
use Rattle.hsm_replay.specs.Keeping.{IsHeardOf}
use Rattle.hsm_replay.proofs.Growing.{reads_grow, still_tells, all_ended, all_apart_damage}

pub set_there : {M : Type 0} (n : ℕ) (ds : List M) (d e : M) → slice_get ds n ≡ Some d → slice_get (slice_set ds n e) n ≡ Some e
set_there n [] d e is = let wrong : None ≡ Some d = is in cc wrong
set_there zero (x ∷ ds) d e is = refl
set_there (suc n) (x ∷ ds) d e is = set_there n ds d e is

module _ {M : Type 0} (g : drive.Ghosts M) (ds : List M) (entry : StubEntry) (d e : M) (at : slice_get ds ((entry_place entry).volume % length ds) ≡ Some d) where
  abbrev pub left : List M
  left = slice_set ds ((entry_place entry).volume % length ds) e

  same_count : length left ≡ length ds
  same_count = length-set ds ((entry_place entry).volume % length ds) e

  -- what the drive tells now is true
  true_now : (fault : Fault) → volume_of fault ≡ (entry_place entry).volume → TellsFault g e fault → IsTrue g left fault
  true_now fault on tells =
      let number : volume_of fault % length left ≡ (entry_place entry).volume % length ds = rw (same_count, on) refl in
      let there : slice_get left (volume_of fault % length left) ≡ Some e = ap (λ (n : ℕ). slice_get left n) number ∙ set_there ((entry_place entry).volume % length ds) ds d e at in
      subst (λ (x : Option M). IfSome x (λ y. TellsFault g y fault)) (sym there) tells

  heard_of_fault : (faults : List Fault) → AllByRecursion (IsTrue g ds) faults → HasGrown g d e → (fault : Fault) → IsCause g entry d e fault → IsHeardOf g left faults (Fetch entry) (heard.Fetched (Err (fetching.Media fault)))
  heard_of_fault faults each grown (Failed volume object before after) cause =
      let began : before ≡ g.fault_count d = cause.2 in
      let ended : after ≡ g.fault_count e = cause.3 in
      let tells : TellsFault g e (Failed volume object before after) = (cause.4, omega (arith, ended), cause.5) in
      let apart = all_ended g ds (entry_place entry).volume object after d at faults each in
      let apart_so = subst (λ (v : ℕ). AllByRecursion (λ earlier. IsApart (length ds) earlier (Failed v object (g.fault_count d) after)) faults) (sym cause.0) apart in
      let apart_now = subst (λ (b : ℕ). AllByRecursion (λ earlier. IsApart (length ds) earlier (Failed volume object b after)) faults) (sym began) apart_so in
      ((cause.0, cause.1), true_now (Failed volume object before after) cause.0 tells, subst (λ (n : ℕ). AllByRecursion (λ earlier. IsApart n earlier (Failed volume object before after)) faults) (sym same_count) apart_now)
  heard_of_fault faults each grown (Damaged volume object want got) cause =
      let print : HasPrint (g.gives d volume) object got = subst (λ (v : ℕ). HasPrint (g.gives d v) object got) (sym cause.0) (subst (λ (o : ℕ). HasPrint (g.gives d (entry_place entry).volume) o got) (sym cause.1) cause.5) in
      let has : g.has d volume ≡ true = subst (λ (v : ℕ). g.has d v ≡ true) (sym cause.0) cause.4 in
      let tells : TellsFault g e (Damaged volume object want got) = still_tells g d e grown (Damaged volume object want got) (cause.3, has, print) in
      ((cause.0, cause.1, cause.2), true_now (Damaged volume object want got) cause.0 tells, all_apart_damage g (length left) volume object want got faults)

  pub heard_of_fetch : (faults : List Fault) → AllByRecursion (IsTrue g ds) faults → (fetched : Result (List ℕ) FetchRefusal) → FetchesFrom g entry fetched d e → IsHeardOf g left faults (Fetch entry) (heard.Fetched fetched)
  heard_of_fetch faults each (Ok bytes) fetches = fetches.0.print
  heard_of_fetch faults each (Err (fetching.Media fault)) fetches = heard_of_fault faults each (reads_grow g d e fetches.1) fault fetches.0
  heard_of_fetch faults each (Err (fetching.NoObject volume object)) fetches = tt
  heard_of_fetch faults each (Err fetching.Memory) fetches = tt
