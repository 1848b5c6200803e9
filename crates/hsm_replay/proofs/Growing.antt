-- Drives that are used.
use Rattle.std.proofs.Common.{◌≡◌, ◌∙◌, ◌+◌, ◌%◌, ◌∷◌, ◌++◌, [], ℕ, zero, suc, Bool, true, false, List, length, get_or, drop, Option, Some, IfSome}
use Rattle.std.proofs.Common.{inl, inr, refl, sym, ap, subst, append_assoc, append-nil, length-append, arith}
use Rattle.std.specs.List.{AllByRecursion}
use Rattle.std.specs.Prelude.{slice_get, slice_set, ◌==◌}
use Rattle.std.proofs.lemmas.Bool.{eqb-true, eqb-false}
use Rattle.std.proofs.lemmas.List.{get_or_append_left}
use Rattle.media_model.specs.Objects.{Objects, Follows}
use Rattle.media_model.specs.declared.drive.Drive as drive
use Rattle.hsm_types.specs.Stubs.{print_of}
use Rattle.hsm_types.specs.declared.media.Fault.{Fault}
use Rattle.hsm_types.specs.declared.media.Fault.TheVariants.{Failed, Damaged}
use Rattle.hsm_types.specs.declared.stubs.Fingerprint.{Fingerprint}
use Rattle.volume_shelf.specs.Shelf.{Reads, Grows, MayGrow, HasPrint}
use Rattle.hsm_replay.specs.Drives.{Extends, HasGrown, HaveGrown}
use Rattle.marked_history.proofs.Lists.{all_and}
use Rattle.hsm_replay.specs.Faults.{IsApart, AreApart, TellsFault, IsTrue, AreTrue, volume_of}

-- ---- objects

extends_itself : (o : Objects) → Extends o o
extends_itself o = ([], sym (append-nil o))

extends_then : (a b c : Objects) → Extends a b → Extends b c → Extends a c
extends_then a b c first then = (first.0 ++ then.0, then.1 ∙ ap (λ (o : Objects). o ++ then.0) first.1 ∙ append_assoc a first.0 then.0)

may_extend : (a b : Objects) → MayGrow a b → Extends a b
may_extend a b (inl same) = ([], same ∙ sym (append-nil a))
may_extend a b (inr one) = (one.0 ∷ [], one.1)

-- ---- one drive

module _ {M : Type 0} (g : drive.Ghosts M) where
  pub grown_itself : (d : M) → HasGrown g d d
  grown_itself d = record {
    objects = λ v now given. (now, given, extends_itself now);
    volumes = record { has = λ v. refl; capacity = refl; lasting = λ v. omega arith };
    faults = omega arith;
  }

  pub grown_on : (a b c : M) → HasGrown g a b → HasGrown g b c → HasGrown g a c
  grown_on a b c first then = record {
    objects = λ v now given. let mid = then.objects v now given in let old = first.objects v mid.0 mid.1 in (old.0, old.1, extends_then old.0 mid.0 now old.2 mid.2);
    volumes = record {
      has = λ v. then.volumes.has v ∙ first.volumes.has v;
      capacity = then.volumes.capacity ∙ first.volumes.capacity;
      lasting = λ v. omega (arith, first.volumes.lasting v, then.volumes.lasting v);
    };
    faults = omega (arith, first.faults, then.faults);
  }

  pub reads_grow : (old new : M) → Reads g old new → HasGrown g old new
  reads_grow old new reads = record {
    objects = λ v now given. (now, (reads.same v).0 now given, extends_itself now);
    volumes = reads.volumes;
    faults = reads.faults;
  }

  pub grows_grow : (volume : ℕ) (old new : M) → Grows g volume old new → HasGrown g old new
  grows_grow volume old new grows = record { objects = λ v. on v (v == volume) refl; volumes = grows.volumes; faults = grows.faults }
    where
      on : (v : ℕ) (b : Bool) → (v == volume) ≡ b → Follows Extends (g.gives old v) (g.gives new v)
      on v true is now given =
          let at : v ≡ volume = eqb-true v volume is in
          let step = grows.one_more now (subst (λ (w : ℕ). g.gives new w now) at given) in
          (step.0, subst (λ (w : ℕ). g.gives old w step.0) (sym at) step.1, may_extend step.0 now step.2)
      on v false is now given = (now, (grows.others v (eqb-false v volume is)).0 now given, extends_itself now)

  -- ---- what it tells of faults

  later_print : (v object : ℕ) (got : Fingerprint) (old new : M) → HasGrown g old new → HasPrint (g.gives old v) object got → HasPrint (g.gives new v) object got
  later_print v object got old new grown print now given =
      let before = grown.objects v now given in
      let had = print before.0 before.1 in
      let longer : length now ≡ length before.0 + length before.2.0 = ap (λ (o : Objects). length o) before.2.1 ∙ length-append before.0 before.2.0 in
      let same : get_or now object [] ≡ get_or before.0 object [] = ap (λ (o : Objects). get_or o object []) before.2.1 ∙ get_or_append_left before.0 before.2.0 [] object had.0 in
      (omega (arith, longer, had.0), had.1 ∙ ap (λ (o : List ℕ). print_of (drop 72 o)) (sym same))

  pub still_tells : (old new : M) → HasGrown g old new → (fault : Fault) → TellsFault g old fault → TellsFault g new fault
  still_tells old new grown (Failed volume object before after) tells = (tells.0, omega (arith, tells.1, grown.faults), tells.2)
  still_tells old new grown (Damaged volume object want got) tells = (tells.0, grown.volumes.has volume ∙ tells.1, later_print volume object got old new grown tells.2)

  -- ---- all drives

  pub have_grown_itself : (ds : List M) → HaveGrown g ds ds
  have_grown_itself [] = tt
  have_grown_itself (d ∷ ds) = (grown_itself d, have_grown_itself ds)

  pub have_grown_on : (xs ys zs : List M) → HaveGrown g xs ys → HaveGrown g ys zs → HaveGrown g xs zs
  have_grown_on [] [] [] first then = tt
  have_grown_on [] [] (c ∷ zs) first then = absurd then
  have_grown_on [] (b ∷ ys) zs first then = absurd first
  have_grown_on (a ∷ xs) [] zs first then = absurd first
  have_grown_on (a ∷ xs) (b ∷ ys) [] first then = absurd then
  have_grown_on (a ∷ xs) (b ∷ ys) (c ∷ zs) first then = (grown_on a b c first.0 then.0, have_grown_on xs ys zs first.1 then.1)

  pub grown_at : (n : ℕ) (ds : List M) (d e : M) → slice_get ds n ≡ Some d → HasGrown g d e → HaveGrown g ds (slice_set ds n e)
  grown_at n [] d e is grown = tt
  grown_at zero (x ∷ ds) d e is grown = let same : x ≡ d = cc is in (subst (λ (y : M). HasGrown g y e) (sym same) grown, have_grown_itself ds)
  grown_at (suc n) (x ∷ ds) d e is grown = (grown_itself x, grown_at n ds d e is grown)

  pub grown_count : (ds es : List M) → HaveGrown g ds es → length es ≡ length ds
  grown_count [] [] grown = refl
  grown_count [] (e ∷ es) grown = absurd grown
  grown_count (d ∷ ds) [] grown = absurd grown
  grown_count (d ∷ ds) (e ∷ es) grown = ap (λ (n : ℕ). suc n) (grown_count ds es grown.1)

  -- what the drive of that number tells
  tells_at : (n : ℕ) (ds es : List M) (fault : Fault) → HaveGrown g ds es → IfSome (slice_get ds n) (λ d. TellsFault g d fault) → IfSome (slice_get es n) (λ d. TellsFault g d fault)
  tells_at n [] [] fault grown tells = tt
  tells_at n [] (e ∷ es) fault grown tells = absurd grown
  tells_at n (d ∷ ds) [] fault grown tells = absurd grown
  tells_at zero (d ∷ ds) (e ∷ es) fault grown tells = still_tells d e grown.0 fault tells
  tells_at (suc n) (d ∷ ds) (e ∷ es) fault grown tells = tells_at n ds es fault grown.1 tells

  pub still_true : (ds es : List M) (fault : Fault) → HaveGrown g ds es → IsTrue g ds fault → IsTrue g es fault
  still_true ds es fault grown true_then = subst (λ (n : ℕ). IfSome (slice_get es (volume_of fault % n)) (λ d. TellsFault g d fault)) (sym (grown_count ds es grown)) (tells_at (volume_of fault % length ds) ds es fault grown true_then)

  pub all_true : (ds es : List M) (faults : List Fault) → HaveGrown g ds es → AllByRecursion (IsTrue g ds) faults → AllByRecursion (IsTrue g es) faults
  all_true ds es [] grown each = tt
  all_true ds es (fault ∷ faults) grown each = (still_true ds es fault grown each.0, all_true ds es faults grown each.1)

  pub are_true : (ds es : List M) (faults : List Fault) → HaveGrown g ds es → AreTrue g ds faults → AreTrue g es faults
  are_true ds es faults grown all = record { each = all_true ds es faults grown all.each; apart = subst (λ (n : ℕ). AreApart n faults) (sym (grown_count ds es grown)) all.apart }

  -- ---- one fault more

  and_apart : (count : ℕ) (faults : List Fault) (fault : Fault) → AreApart count faults → AllByRecursion (λ earlier. IsApart count earlier fault) faults → AreApart count (faults ++ fault ∷ [])
  and_apart count [] fault apart from = (tt, tt)
  and_apart count (f ∷ faults) fault apart from = (all_and (IsApart count f) faults fault apart.0 from.0, and_apart count faults fault apart.1 from.1)

  pub one_more_true : (ds : List M) (faults : List Fault) (fault : Fault) → AreTrue g ds faults → IsTrue g ds fault → AllByRecursion (λ earlier. IsApart (length ds) earlier fault) faults → AreTrue g ds (faults ++ fault ∷ [])
  one_more_true ds faults fault all is from = record { each = all_and (IsTrue g ds) faults fault all.each is; apart = and_apart (length ds) faults fault all.apart from }

  -- ---- a fault that was just found

  module _ (ds : List M) (volume object after : ℕ) (d : M) (at : slice_get ds (volume % length ds) ≡ Some d) where
    -- a fault of the same drive ended at what the drive counted when the fetch began
    ended : (earlier : Fault) → IsTrue g ds earlier → IsApart (length ds) earlier (Failed volume object (g.fault_count d) after)
    ended (Failed v o b a) is = λ same.
        let there = subst (λ (n : ℕ). IfSome (slice_get ds n) (λ x. TellsFault g x (Failed v o b a))) same is in
        let told : TellsFault g d (Failed v o b a) = subst (λ (x : Option M). IfSome x (λ y. TellsFault g y (Failed v o b a))) at there in
        told.1
    ended (Damaged v o want got) is = tt

    pub all_ended : (faults : List Fault) → AllByRecursion (IsTrue g ds) faults → AllByRecursion (λ earlier. IsApart (length ds) earlier (Failed volume object (g.fault_count d) after)) faults
    all_ended [] each = tt
    all_ended (fault ∷ faults) each = (ended fault each.0, all_ended faults each.1)

  -- damage has no interval
  apart_damage : (count volume object : ℕ) (want got : Fingerprint) (earlier : Fault) → IsApart count earlier (Damaged volume object want got)
  apart_damage count volume object want got (Failed v o b a) = tt
  apart_damage count volume object want got (Damaged v o w h) = tt

  pub all_apart_damage : (count volume object : ℕ) (want got : Fingerprint) (faults : List Fault) → AllByRecursion (λ earlier. IsApart count earlier (Damaged volume object want got)) faults
  all_apart_damage count volume object want got [] = tt
  all_apart_damage count volume object want got (fault ∷ faults) = (apart_damage count volume object want got fault, all_apart_damage count volume object want got faults)
