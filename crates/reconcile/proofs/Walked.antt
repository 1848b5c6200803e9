-- A walk along entries that stand in the order of their objects.
use Rattle.std.proofs.Common.{◌≡◌, ◌≢◌, ◌⊎◌, inl, inr, ℕ, zero, suc, ◌+◌, ◌^◌, ◌<◌, ◌≤◌, Bool, true, false, cond, not, ◌||◌, ◌-◌, nat_lt}
use Rattle.std.proofs.Common.{if◌then◌else◌, List, [], length, get_or, take, sum_by, count_by, Option, Some, None, is_some, is_none, IfSome}
use Rattle.std.proofs.Common.{option_map, refl, sym, ap, subst, ◌∙◌, arith, rules, add-zero, add-one, length-take}
use Rattle.std.proofs.Math.Bool.{or-false}
use Rattle.std.proofs.lemmas.Bool.{ltb-true, ltb-false}
use Rattle.std.proofs.lemmas.List.{get_or-take, take_all}
use Rattle.std.proofs.lemmas.List.Folds.{list_any_more, list_any_none, list_any_at}
use Rattle.std.proofs.lemmas.List.Sums.{sum_by_more}
use Rattle.std.proofs.lemmas.Option.{none-some, same_Some}
use Rattle.std.specs.List.{range_with_len}
use Rattle.std.proofs.lemmas.List.Sorted.{list_any-IsPermutation, sum_by-IsPermutation}
use Rattle.std.specs.List.Sorted.{IsPermutation, IsNonDecreasingBy}
use Rattle.std.specs.Option.{option_map_or}
use Rattle.hsm_types.specs.Stubs.{print_of, entry_place, entry_print}
use Rattle.hsm_types.specs.declared.stubs.Fingerprint.{Fingerprint}
use Rattle.hsm_types.specs.declared.stubs.StubEntry.{StubEntry}
use Rattle.media_model.specs.Objects.{Objects}
use Rattle.media_model.specs.declared.drive.Drive as drive
use Rattle.plain_model.specs.Segments.{same_print}
use Rattle.store_summary.specs.declared.summaries.ClassCounts.{ClassCounts}
use Rattle.reconcile.specs.Classes.{names, is_live, count_objects, payload_of, is_held, is_missing, is_altered, class_counts, AreTold}
use Rattle.reconcile.specs.Steps.{place, print_on, counted, seen, Repeats, Looks, Finds}
use Rattle.reconcile.specs.declared.walking.Seen.{Seen}
use Rattle.reconcile.specs.declared.walking.Walk.{Walk}
use Rattle.reconcile.proofs.Sums.{zero_sum, same_count, count_more, all_objects}

-- ---- one entry more is counted

-- in the classes of which the tests say so
record IsMore (holds lacks differs : Bool) (old new : ClassCounts) : Type 0 where
  pub live : new.live ≡ old.live
  pub dead : new.dead ≡ old.dead
  pub held : new.held ≡ old.held + cond holds 1 0
  pub missing : new.missing ≡ old.missing + cond lacks 1 0
  pub altered : new.altered ≡ old.altered + cond differs 1 0

by_print : (same : Bool) (c : ClassCounts) → IsMore same false (not same) c (cond same (record c { held = c.held + 1 }) (record c { altered = c.altered + 1 }))
by_print true c = record { live = refl; dead = refl; held = refl; missing = omega arith; altered = omega arith }
by_print false c = record { live = refl; dead = refl; held = omega arith; missing = omega arith; altered = refl }

by_payload : (p : Option (List ℕ)) (want : Fingerprint) (c : ClassCounts)
    → IsMore (option_map_or (λ payload. same_print (print_of payload) want) p false) (is_none p) (option_map_or (λ payload. not (same_print (print_of payload) want)) p false) c (counted want (option_map print_of p) c)
by_payload None want c = record { live = refl; dead = refl; held = omega arith; missing = refl; altered = omega arith }
by_payload (Some payload) want c = by_print (same_print (print_of payload) want) c

by_same : (same : Bool) (c : ClassCounts) → let n = cond same (record c { held = c.held + 1 }) (record c { altered = c.altered + 1 }) in (n.live ≡ c.live) × (n.held + n.missing + n.altered ≡ c.held + c.missing + c.altered + 1)
by_same true c = (refl, omega arith)
by_same false c = (refl, omega arith)

-- an entry has one class
one_class : (want : Fingerprint) (found : Option Fingerprint) (c : ClassCounts) → let n = counted want found c in (n.live ≡ c.live) × (n.held + n.missing + n.altered ≡ c.held + c.missing + c.altered + 1)
one_class want None c = (refl, omega arith)
one_class want (Some print) c = by_same (same_print print want) c

at_most_one : (b : Bool) (n : ℕ) → n + (if b then 1 else 0) ≤ n + 1
at_most_one true n = omega arith
at_most_one false n = omega arith

-- whatever the drives tell
pub tallies : {D : Type 0} (g : drive.Ghosts D) (volumes : ℕ) (drives : List D) (e : StubEntry) (found : Option Fingerprint) (old mid : Walk) (i : ℕ) → Finds g volumes drives e old mid found → old.counts.live ≤ i → old.counts.held + old.counts.missing + old.counts.altered ≡ i
    → let n = counted (entry_print e) found mid.counts in (n.live ≤ i + 1) × (n.held + n.missing + n.altered ≡ i + 1)
tallies g volumes drives e found old mid i (inl r) live classes =
    let one = one_class (entry_print e) found mid.counts in
    let same : mid.counts ≡ old.counts = ap (λ (w : Walk). w.counts) r.1 in
    (omega (arith, one.0, ap (λ (c : ClassCounts). c.live) same), omega (arith, one.1, ap (λ (c : ClassCounts). c.held + c.missing + c.altered) same))
tallies g volumes drives e found old mid i (inr r) live classes =
    let one = one_class (entry_print e) found mid.counts in
    let same : mid.counts ≡ record old.counts { live = old.counts.live + (if is_some found then 1 else 0) } = ap (λ (w : Walk). w.counts) r.left in
    (omega (arith, one.0, ap (λ (c : ClassCounts). c.live) same, at_most_one (is_some found) old.counts.live), omega (arith, one.1, ap (λ (c : ClassCounts). c.held + c.missing + c.altered) same))

-- ---- which objects are named

named : (e : StubEntry) → names (entry_place e).volume (entry_place e).object e ≡ true
named e = search rules

names_alike : (v o : ℕ) (e : StubEntry) → names v o e ≡ true → ((entry_place e).volume ≡ v) × ((entry_place e).object ≡ o)
names_alike v o e is = search rules

named_alone : (v o : ℕ) (e : StubEntry) → ((entry_place e).volume ≡ v → (entry_place e).object ≡ o → ⊥) → names v o e ≡ false
named_alone v o e apart = by (names v o e) refl
  where
    by : (b : Bool) → names v o e ≡ b → b ≡ false
    by true is = let same = names_alike v o e is in absurd (apart same.0 same.1)
    by false is = refl

same_place : (x e : StubEntry) → place x ≡ place e → (entry_place x).object < 2 ^ 32 → (entry_place e).object < 2 ^ 32 → ((entry_place x).volume ≡ (entry_place e).volume) × ((entry_place x).object ≡ (entry_place e).object)
same_place x e same small short = (omega arith, omega arith)

module _ (xs : List StubEntry) (i : ℕ) (e : StubEntry) (within : i < length xs) (is : (d : StubEntry) → get_or xs i d ≡ e) where
  -- an object is live by one entry more
  live_more : (v o : ℕ) → is_live (take (i + 1) xs) v o ≡ (is_live (take i xs) v o || names v o e)
  live_more v o = list_any_more (names v o) xs i e within ∙ ap (λ x. is_live (take i xs) v o || names v o x) (is e)

  -- as the entry before names the same object, it was live before
  live_before : (k : ℕ) (d : StubEntry) → k + 1 ≡ i → ((entry_place (get_or xs k d)).volume ≡ (entry_place e).volume) × ((entry_place (get_or xs k d)).object ≡ (entry_place e).object) → is_live (take i xs) (entry_place e).volume (entry_place e).object ≡ true
  live_before k d at same =
      let here : get_or (take i xs) k d ≡ get_or xs k d = get_or-take i xs k d (omega arith) in
      let names_it : names (entry_place e).volume (entry_place e).object (get_or (take i xs) k d) ≡ true = rw (here, ← (same.0), ← (same.1)) (named (get_or xs k d)) in
      list_any_at (names (entry_place e).volume (entry_place e).object) (take i xs) k d (omega (arith, length-take i xs)) names_it

  -- as it names another one, none did
  not_before : IsNonDecreasingBy place xs → ((k : ℕ) (d : StubEntry) → k + 1 ≡ i → place (get_or xs k d) ≡ place e → ⊥) → is_live (take i xs) (entry_place e).volume (entry_place e).object ≡ false
  not_before ascending apart =
      list_any_none (names (entry_place e).volume (entry_place e).object) (take i xs)
      (λ k d below.
      let low : k < i = omega (arith, length-take i xs) in
      let here : get_or (take i xs) k d ≡ get_or xs k d = get_or-take i xs k d low in
      rw here (named_alone (entry_place e).volume (entry_place e).object (get_or xs k d)
      (λ v o.
      let last : i - 1 + 1 ≡ i = omega arith in
      let up : place (get_or xs k d) ≤ place (get_or xs (i - 1) d) = ascending k (i - 1) d (omega arith) (omega arith) in
      let down : place (get_or xs (i - 1) d) ≤ place e = rw (is d) at (ascending (i - 1) i d (omega arith) within) in
      apart (i - 1) d last (omega (arith, up, down, v, o)))))

-- ---- the walk, where the drives tell these objects

-- after the first i entries
pub record IsWalk (volumes : ℕ) (told : ℕ → Objects) (xs : List StubEntry) (i : ℕ) (w : Walk) : Type 0 where
  pub live : w.counts.live ≡ count_objects (is_live (take i xs)) volumes told
  pub dead : w.counts.dead ≡ 0
  pub held : w.counts.held ≡ count_by (is_held volumes told) (take i xs)
  pub missing : w.counts.missing ≡ count_by (is_missing volumes told) (take i xs)
  pub altered : w.counts.altered ≡ count_by (is_altered volumes told) (take i xs)
  pub none : i ≡ 0 → w.last ≡ None
  pub last : (k : ℕ) (d : StubEntry) → k + 1 ≡ i → w.last ≡ Some (seen (get_or xs k d) (print_on volumes told (get_or xs k d)))

pub walk_starts : (volumes : ℕ) (told : ℕ → Objects) (xs : List StubEntry) → IsWalk volumes told xs 0 (record { counts = record { live = 0; dead = 0; held = 0; missing = 0; altered = 0 }; last = None })
walk_starts volumes told xs = record {
  live = sym (zero_sum (λ v. count_by (is_live [] v) (range_with_len 0 (length (told v)))) (λ v. zero_sum (λ o. 0) (λ o. refl) (range_with_len 0 (length (told v)))) (range_with_len 0 volumes));
  dead = refl;
  held = refl;
  missing = refl;
  altered = refl;
  none = λ is. refl;
  last = λ k d at. absurd (omega arith);
}

-- all entries
pub walk_ends : (volumes : ℕ) (told : ℕ → Objects) (xs : List StubEntry) (i : ℕ) (w : Walk) → length xs ≤ i → IsWalk volumes told xs i w → w.counts ≡ record (class_counts volumes told xs) { dead = 0 }
walk_ends volumes told xs i w all is =
    let same : take i xs ≡ xs = take_all i xs all in
    let live : w.counts.live ≡ count_objects (is_live xs) volumes told = is.live ∙ ap (λ l. count_objects (is_live l) volumes told) same in
    let held : w.counts.held ≡ count_by (is_held volumes told) xs = is.held ∙ ap (count_by (is_held volumes told)) same in
    let missing : w.counts.missing ≡ count_by (is_missing volumes told) xs = is.missing ∙ ap (count_by (is_missing volumes told)) same in
    let altered : w.counts.altered ≡ count_by (is_altered volumes told) xs = is.altered ∙ ap (count_by (is_altered volumes told)) same in
    λ j. record { live = live j; dead = is.dead j; held = held j; missing = missing j; altered = altered j }

-- ---- one entry more

module _ (volumes : ℕ) (told : ℕ → Objects) where
  print_alike : (x e : StubEntry) → (entry_place x).volume ≡ (entry_place e).volume → (entry_place x).object ≡ (entry_place e).object → print_on volumes told x ≡ print_on volumes told e
  print_alike x e volume object = ap (λ (v : ℕ). print_on volumes told (record x { volume = v })) volume ∙ ap (λ (o : ℕ). print_on volumes told (record e { object = o })) object

  -- the object is there, or not
  there_or_not : (e : StubEntry) → (((entry_place e).volume < volumes) × ((entry_place e).object < length (told (entry_place e).volume)) × (is_some (print_on volumes told e) ≡ true)) ⊎ (((entry_place e).volume < volumes → (entry_place e).object < length (told (entry_place e).volume) → ⊥) × (is_some (print_on volumes told e) ≡ false))
  there_or_not e = by (nat_lt (entry_place e).volume volumes) (nat_lt (entry_place e).object (length (told (entry_place e).volume))) refl refl
    where
      by : (v o : Bool) → nat_lt (entry_place e).volume volumes ≡ v → nat_lt (entry_place e).object (length (told (entry_place e).volume)) ≡ o
          → (((entry_place e).volume < volumes) × ((entry_place e).object < length (told (entry_place e).volume)) × (is_some (print_on volumes told e) ≡ true)) ⊎ (((entry_place e).volume < volumes → (entry_place e).object < length (told (entry_place e).volume) → ⊥) × (is_some (print_on volumes told e) ≡ false))
      by true true a b = inl (ltb-true (entry_place e).volume volumes a, ltb-true (entry_place e).object (length (told (entry_place e).volume)) b, rw (a, b) refl)
      by true false a b = inr (λ volume object. absurd (omega (arith, ltb-false (entry_place e).object (length (told (entry_place e).volume)) b)), rw (a, b) refl)
      by false o a b = inr (λ volume object. absurd (omega (arith, ltb-false (entry_place e).volume volumes a)), rw a refl)

  module _ (xs : List StubEntry) (i : ℕ) (e : StubEntry) (within : i < length xs) (is : (d : StubEntry) → get_or xs i d ≡ e) where
    class_more : (p : StubEntry → Bool) → count_by p (take (i + 1) xs) ≡ count_by p (take i xs) + cond (p e) 1 0
    class_more p = sum_by_more (λ x. cond (p x) 1 0) xs i e within ∙ ap (λ x. count_by p (take i xs) + cond (p x) 1 0) (is e)

    -- an object that was live before
    no_more_live : is_live (take i xs) (entry_place e).volume (entry_place e).object ≡ true → count_objects (is_live (take (i + 1) xs)) volumes told ≡ count_objects (is_live (take i xs)) volumes told
    no_more_live was = same_count (is_live (take i xs)) (is_live (take (i + 1) xs)) volumes told (λ v o there has. live_more xs i e within is v o ∙ by v o (names v o e) refl)
      where
        by : (v o : ℕ) (b : Bool) → names v o e ≡ b → (is_live (take i xs) v o || b) ≡ is_live (take i xs) v o
        by v o true names_it = let same = names_alike v o e names_it in rw (← (same.0), ← (same.1), was) refl
        by v o false other = or-false (is_live (take i xs) v o)

    -- an object that wasn't
    more_live : is_live (take i xs) (entry_place e).volume (entry_place e).object ≡ false → count_objects (is_live (take (i + 1) xs)) volumes told ≡ count_objects (is_live (take i xs)) volumes told + (if is_some (print_on volumes told e) then 1 else 0)
    more_live was =
        elim (there_or_not e) [
          | inl there ↦ rw (there.2) (count_more (is_live (take i xs)) (is_live (take (i + 1) xs)) volumes told (entry_place e).volume (entry_place e).object there.0 there.1 was now others)
          | inr gone ↦ rw (gone.1) (same_count (is_live (take i xs)) (is_live (take (i + 1) xs)) volumes told (λ v o below has. others v o (λ at number. gone.0 (rw (← at) below) (rw (← at, ← number) has))) ∙ sym (add-zero _))
        ]
      where
        now : is_live (take (i + 1) xs) (entry_place e).volume (entry_place e).object ≡ true
        now = live_more xs i e within is (entry_place e).volume (entry_place e).object ∙ rw (was, named e) refl

        others : (v o : ℕ) → (v ≡ (entry_place e).volume → o ≡ (entry_place e).object → ⊥) → is_live (take (i + 1) xs) v o ≡ is_live (take i xs) v o
        others v o apart = live_more xs i e within is v o ∙ rw (named_alone v o e (λ at number. apart (sym at) (sym number))) (or-false (is_live (take i xs) v o))

none_or_last : (i : ℕ) → (i ≡ 0) ⊎ ((k : ℕ) × (k + 1 ≡ i))
none_or_last zero = inl refl
none_or_last (suc k) = inr (k, add-one k)

module _ {D : Type 0} (g : drive.Ghosts D) (volumes : ℕ) (told : ℕ → Objects) (drives : List D) (are : AreTold g volumes drives told) (xs : List StubEntry) (i : ℕ) (e : StubEntry) (within : i < length xs) (is : (d : StubEntry) → get_or xs i d ≡ e)
    (ascending : IsNonDecreasingBy place xs) (small : (k : ℕ) → k < i → (d : StubEntry) → (entry_place (get_or xs k d)).object < 2 ^ 32) (short : (entry_place e).object < 2 ^ 32) (old mid : Walk) (found : Option Fingerprint) (was : IsWalk volumes told xs i old) where
  -- one entry more, where that is the number of live objects by it
  counts_on : found ≡ print_on volumes told e → mid.counts.live ≡ count_objects (is_live (take (i + 1) xs)) volumes told → mid ≡ record { counts = record old.counts { live = mid.counts.live }; last = Some (seen e found) }
      → IsWalk volumes told xs (i + 1) (record mid { counts = counted (entry_print e) found mid.counts })
  counts_on is_print live left =
      let more : IsMore (is_held volumes told e) (is_missing volumes told e) (is_altered volumes told e) mid.counts (counted (entry_print e) found mid.counts) =
      subst (λ (f : Option Fingerprint). IsMore (is_held volumes told e) (is_missing volumes told e) (is_altered volumes told e) mid.counts (counted (entry_print e) f mid.counts)) (sym is_print) (by_payload (payload_of volumes told e) (entry_print e) mid.counts) in
      record {
        live = more.live ∙ live;
        dead = more.dead ∙ ap (λ (w : Walk). w.counts.dead) left ∙ was.dead;
        held = omega (arith, more.held, ap (λ (w : Walk). w.counts.held) left, was.held, class_more volumes told xs i e within is (is_held volumes told));
        missing = omega (arith, more.missing, ap (λ (w : Walk). w.counts.missing) left, was.missing, class_more volumes told xs i e within is (is_missing volumes told));
        altered = omega (arith, more.altered, ap (λ (w : Walk). w.counts.altered) left, was.altered, class_more volumes told xs i e within is (is_altered volumes told));
        none = λ zero. absurd (omega arith);
        last = λ k d at.
            let here : get_or xs k d ≡ e = ap (λ (n : ℕ). get_or xs n d) (omega arith) ∙ is d in
            ap (λ (w : Walk). w.last) left ∙ ap (λ (f : Option Fingerprint). Some (seen e f)) is_print ∙ ap (λ (x : StubEntry). Some (seen x (print_on volumes told x))) (sym here);
      }

  -- the last entry names the same object
  repeats : Repeats e found old mid → IsWalk volumes told xs (i + 1) (record mid { counts = counted (entry_print e) found mid.counts })
  repeats r =
      elim (none_or_last i) [
        | inl none ↦ absurd (none-some (seen e found) (sym (was.none none) ∙ r.0))
        | inr last ↦
            let x = get_or xs last.0 e in
            let both : seen e found ≡ seen x (print_on volumes told x) = same_Some _ _ (sym r.0 ∙ was.last last.0 e last.1) in
            let same = same_place x e (sym (ap (λ (s : Seen). s.place) both)) (small last.0 (omega (arith, last.1)) e) short in
            let is_print : found ≡ print_on volumes told e = ap (λ (s : Seen). s.print) both ∙ print_alike volumes told x e same.0 same.1 in
            let lived = live_before xs i e within is last.0 e last.1 same in
            counts_on is_print (ap (λ (w : Walk). w.counts.live) r.1 ∙ was.live ∙ sym (no_more_live volumes told xs i e within is lived))
            (r.1 ∙ (λ j. record { counts = record old.counts { live = ap (λ (w : Walk). w.counts.live) (sym r.1) j }; last = r.0 j }))
      ]

  -- none did
  looks : Looks g volumes drives e old mid found → IsWalk volumes told xs (i + 1) (record mid { counts = counted (entry_print e) found mid.counts })
  looks r =
      let is_print : found ≡ print_on volumes told e = r.looked.told told are in
      let more : mid.counts.live ≡ old.counts.live + (if is_some found then 1 else 0) = ap (λ (w : Walk). w.counts.live) r.left in
      let lived = not_before xs i e within is ascending (λ k d at same. subst (λ (o : Option Seen). IfSome o (λ last. last.place ≢ place e)) (was.last k d at) r.apart same) in
      counts_on is_print (more ∙ ap (λ (n : ℕ). n + (if is_some found then 1 else 0)) was.live ∙ ap (λ (f : Option Fingerprint). count_objects (is_live (take i xs)) volumes told + (if is_some f then 1 else 0)) is_print ∙ sym (more_live volumes told xs i e within is lived))
      (r.left ∙ (λ j. record { counts = record old.counts { live = sym more j }; last = Some (seen e found) }))

  pub walk_on : Finds g volumes drives e old mid found → IsWalk volumes told xs (i + 1) (record mid { counts = counted (entry_print e) found mid.counts })
  walk_on (inl r) = repeats r
  walk_on (inr r) = looks r

-- ---- all objects and entries

same_classes : (volumes : ℕ) (told : ℕ → Objects) (given sorted : List StubEntry) → IsPermutation given sorted → class_counts volumes told sorted ≡ class_counts volumes told given
same_classes volumes told given sorted same =
    let alike : (v o : ℕ) → is_live sorted v o ≡ is_live given v o = λ v o. sym (list_any-IsPermutation (names v o) given sorted same) in
    let live = same_count (is_live given) (is_live sorted) volumes told (λ v o there has. alike v o) in
    let dead = same_count (λ v o. not (is_live given v o)) (λ v o. not (is_live sorted v o)) volumes told (λ v o there has. ap not (alike v o)) in
    let held = sum_by-IsPermutation (λ e. cond (is_held volumes told e) 1 0) given sorted same in
    let missing = sum_by-IsPermutation (λ e. cond (is_missing volumes told e) 1 0) given sorted same in
    let altered = sum_by-IsPermutation (λ e. cond (is_altered volumes told e) 1 0) given sorted same in
    λ j. record { live = live j; dead = dead j; held = held j; missing = missing j; altered = altered j }

-- dead is what isn't live
pub all_counts : (volumes : ℕ) (told : ℕ → Objects) (given sorted : List StubEntry) (objects dead : ℕ) (c : ClassCounts) → IsPermutation given sorted → objects ≡ sum_by (λ v. length (told v)) (range_with_len 0 volumes) → c ≡ record (class_counts volumes told sorted) { dead = 0 } → dead ≡ objects - c.live
    → record c { dead = dead } ≡ class_counts volumes told given
all_counts volumes told given sorted objects dead c same all is left =
    let live : c.live ≡ count_objects (is_live sorted) volumes told = ap (λ (n : ClassCounts). n.live) is in
    let others : dead ≡ count_objects (λ v o. not (is_live sorted v o)) volumes told = omega (arith, left, all, live, all_objects (is_live sorted) volumes told) in
    (λ j. record (is j) { dead = others j }) ∙ same_classes volumes told given sorted same
