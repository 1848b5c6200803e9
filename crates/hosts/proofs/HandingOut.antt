-- What a call of a host in memory leaves of what its names hold.
use Rattle.std.proofs.Common.{◌≡◌, ◌∙◌, ◌<◌, ◌%◌, ⊎_elim, ℕ, zero, suc, Bool, true, false, ◌&&◌, ◌||◌, ◌==◌, List, [], ◌∷◌, length, Option}
use Rattle.std.proofs.Common.{Some, None, IfSome, Result, Ok, Err, OnOk, IfOk, IfErr, option_map, refl, ap, sym, subst, arith}
use Rattle.std.proofs.Math.Nat.{eq-or-lt_of_le}
use Rattle.std.proofs.lemmas.Bool.Decides.{nat_tests}
use Rattle.std.proofs.lemmas.Map.Made.{is_some-lookup}
use Rattle.std.proofs.lemmas.Option.{slice_get_within}
use Rattle.std.specs.Prelude.{slice_get, is_some, if◌then◌else◌, nat_eq, nat_lt}
use Rattle.std.specs.List.{AllByRecursion, list_all, list_any}
use Rattle.std.specs.Map.{keys_of}
use Rattle.std.specs.Option.{IsSomeAnd, option_map_or}
use Rattle.std.specs.FinMap.{get, remove}
use Rattle.media_model.specs.Objects.{Objects}
use Rattle.media_model.specs.Memory.{AreObjects, no_objects, volume_in, has_volume}
use Rattle.media_model.specs.Faults.{Faulty}
use Rattle.media_model.specs.Sharing.{IsNew, AreNew, is_shared, have_room, have_volumes, has_shared, shares_only, first_share_only, share_only}
use Rattle.disk_model.specs.Images.{Alike}
use Rattle.disk_model.specs.Calls.{raised}
use Rattle.disk_model.specs.Fuse.{Fused}
use Rattle.disk_model.specs.Medium.{Recorded, medium_of}
use Rattle.hosts.specs.declared.outside.HostRefusal.{HostRefusal}
use Rattle.hosts.specs.declared.outside.HostRefusal.TheVariants.{Failed, Memory}
use Rattle.hosts.specs.Hosts.{HoldsNothing, HoldsOthers, StoresNothing, StoresOthers, StoresAll}
use Rattle.hosts.specs.MemHosts.{Hosted, HasImage, HasObjects, StoredIn, Handed, AreUnfailed, unfailed, IsToFail, fit, asked_for_drives}
use Rattle.hosts.specs.MemHosts.{drives_handed, image_at, Makes, Gives, Hands}
use Rattle.hosts.proofs.NamedThings.{get-removed, get-others}

-- a name under which nothing stands
nothing : (name : List ℕ) (old new : Hosted) → new.disks ≡ remove old.disks name → HoldsNothing (HasImage new name)
nothing name old new removed c has =
    let none : image_at new.disks name ≡ None = ap (λ disks. image_at disks name) removed ∙ ap (option_map (λ d. (medium_of d.inner).now)) (get-removed old.disks name) in
    cc

alike : (name : List ℕ) (old new : Hosted) → image_at new.disks name ≡ image_at old.disks name → Alike (HasImage old name) (HasImage new name)
alike name old new same = (λ c has. sym same ∙ has, λ c has. same ∙ has)

others : (name : List ℕ) (old new : Hosted) → new.disks ≡ remove old.disks name → HoldsOthers name (HasImage old) (HasImage new)
others name old new removed other differs =
    alike other old new (ap (λ disks. image_at disks other) removed ∙ ap (option_map (λ d. (medium_of d.inner).now)) (get-others old.disks name other differs))

all : (name : List ℕ) (old new : Hosted) → new.disks ≡ old.disks → HoldsOthers name (HasImage old) (HasImage new)
all name old new same other differs = alike other old new (ap (λ disks. image_at disks other) same)

-- ---- the folders

stays : (old new : Hosted) → new.folders ≡ old.folders → StoresAll (HasObjects old) (HasObjects new)
stays old new same name v = (λ o has. subst (λ folders. StoredIn (get folders name) v o) same has, λ o has. subst (λ folders. StoredIn (get folders name) v o) (sym same) has)

removed : (name : List ℕ) (old new : Hosted) → new.folders ≡ remove old.folders name → StoresOthers name (HasObjects old) (HasObjects new)
removed name old new without other differs v =
    let same : get new.folders other ≡ get old.folders other = ap (λ folders. get folders other) without ∙ get-others old.folders name other differs in
    (λ o has. subst (λ found. StoredIn found v o) same has, λ o has. subst (λ found. StoredIn found v o) (sym same) has)

-- ---- a call for a disk

module _ (name : List ℕ) (old new : Hosted) where
  pub Makes-gone : (len : ℕ) (result : Result (Fused Recorded) HostRefusal) → Makes name len old new result → OnOk result (HoldsNothing (HasImage new name))
  Makes-gone len (Ok d) makes = nothing name old new (ap (λ h. h.disks) makes.2)
  Makes-gone len (Err why) makes = tt

  pub Makes-others : (len : ℕ) (result : Result (Fused Recorded) HostRefusal) → Makes name len old new result → HoldsOthers name (HasImage old) (HasImage new)
  Makes-others len (Ok d) makes = others name old new (ap (λ h. h.disks) makes.2)
  Makes-others len (Err Failed) makes = all name old new (ap (λ h. h.disks) makes.1)
  Makes-others len (Err Memory) makes = all name old new (ap (λ h. h.disks) makes.1)

  pub Gives-gone : (result : Result (Fused Recorded) HostRefusal) → Gives name old new result → OnOk result (HoldsNothing (HasImage new name))
  Gives-gone (Ok d) gives = nothing name old new (ap (λ h. h.disks) gives.2)
  Gives-gone (Err why) gives = tt

  pub Gives-others : (result : Result (Fused Recorded) HostRefusal) → Gives name old new result → HoldsOthers name (HasImage old) (HasImage new)
  Gives-others (Ok d) gives = others name old new (ap (λ h. h.disks) gives.2)
  Gives-others (Err Failed) gives = all name old new (ap (λ h. h.disks) gives.1)
  Gives-others (Err Memory) gives = absurd gives

  pub Makes-made : (len : ℕ) (result : Result (Fused Recorded) HostRefusal) → Makes name len old new result → (new.makes ≡ raised old.makes) × (new.openings ≡ old.openings)
  Makes-made len (Ok d) makes = (ap (λ h. h.makes) makes.2, ap (λ h. h.openings) makes.2)
  Makes-made len (Err Failed) makes = (ap (λ h. h.makes) makes.1, ap (λ h. h.openings) makes.1)
  Makes-made len (Err Memory) makes = (ap (λ h. h.makes) makes.1, ap (λ h. h.openings) makes.1)

  pub Gives-opened : (result : Result (Fused Recorded) HostRefusal) → Gives name old new result → (new.openings ≡ raised old.openings) × (new.makes ≡ old.makes)
  Gives-opened (Ok d) gives = (ap (λ h. h.openings) gives.2, ap (λ h. h.makes) gives.2)
  Gives-opened (Err Failed) gives = (ap (λ h. h.openings) gives.1, ap (λ h. h.makes) gives.1)
  Gives-opened (Err Memory) gives = absurd gives

  pub Makes-folders : (len : ℕ) (result : Result (Fused Recorded) HostRefusal) → Makes name len old new result → StoresAll (HasObjects old) (HasObjects new) × (new.askings ≡ old.askings)
  Makes-folders len (Ok d) makes = (stays old new (ap (λ h. h.folders) makes.2), ap (λ h. h.askings) makes.2)
  Makes-folders len (Err Failed) makes = (stays old new (ap (λ h. h.folders) makes.1), ap (λ h. h.askings) makes.1)
  Makes-folders len (Err Memory) makes = (stays old new (ap (λ h. h.folders) makes.1), ap (λ h. h.askings) makes.1)

  pub Gives-folders : (result : Result (Fused Recorded) HostRefusal) → Gives name old new result → StoresAll (HasObjects old) (HasObjects new) × (new.askings ≡ old.askings)
  Gives-folders (Ok d) gives = (stays old new (ap (λ h. h.folders) gives.2), ap (λ h. h.askings) gives.2)
  Gives-folders (Err Failed) gives = (stays old new (ap (λ h. h.folders) gives.1), ap (λ h. h.askings) gives.1)
  Gives-folders (Err Memory) gives = absurd gives

-- ---- a call for drives

pub both_of : (a b : Bool) → (a && b) ≡ true → (a ≡ true) × (b ≡ true)
both_of true true is = (refl, refl)
both_of true false is = absurd cc
both_of false b is = absurd cc

-- what holds of each by its place holds of each
pub each_place : {X : Type 0} (P : ℕ → X → Type 0) (Q : X → Type 0) → ((i : ℕ) (x : X) → P i x → Q x) → (xs : List X) → ((i : ℕ) → IfSome (slice_get xs i) (P i)) → AllByRecursion Q xs
each_place P Q goes [] each = tt
each_place P Q goes (x ∷ xs) each = (goes 0 x (each 0), each_place (λ i. P (suc i)) Q (λ i. goes (suc i)) xs (λ i. each (suc i)))

-- what a test of each tells
each_passes : {X : Type 0} (test : X → Bool) (Q : X → Type 0) → ((x : X) → test x ≡ true → Q x) → (xs : List X) → list_all test xs ≡ true → AllByRecursion Q xs
each_passes test Q goes [] passes = tt
each_passes test Q goes (x ∷ xs) passes = let both = both_of (test x) (list_all test xs) passes in (goes x both.0, each_passes test Q goes xs both.1)

pub if_some : {X : Type 0} (P Q : X → Type 0) → ((x : X) → P x → Q x) → (o : Option X) → IfSome o P → IfSome o Q
if_some P Q goes None p = tt
if_some P Q goes (Some x) p = goes x p

some_and : {X : Type 0} (P : X → Type 0) (o : Option X) → IsSomeAnd o P → IfSome o P
some_and P None p = tt
some_and P (Some x) p = p

-- a new drive has its volumes, without objects
module _ (drives volumes capacity v : ℕ) (d : Faulty) (within : v < volumes) (new : IsNew (v % drives) drives volumes capacity d) where
  has_empty : volume_in v d.held ≡ Some no_objects
  has_empty =
      let shared : is_shared (v % drives) drives volumes v ≡ true = grind (arith, nat_tests, within) in
      new.shares v ∙ ap (λ (b : Bool). if b then Some no_objects else None) shared

  new_has : has_volume v d.held ≡ true
  new_has = ap is_some has_empty

  new_has_none : AreObjects d.held v []
  new_has_none = ap (option_map (λ x. x.objects)) has_empty

-- ---- no other volumes

-- a volume that the drive of that number shares
shared_there : (number drives volumes v : ℕ) → is_shared number drives volumes v ≡ true → (v < volumes) × (v % drives ≡ number)
shared_there number drives volumes v is =
    let both = both_of (nat_lt v volumes) (v % drives == number) is in
    (grind (arith, nat_tests, both.0), grind (arith, nat_tests, both.1))

-- its volumes are those that it shares
abbrev HasOnly : ℕ → ℕ → ℕ → Faulty → Type 0
HasOnly number drives volumes d = (v : ℕ) → has_volume v d.held ≡ true → (v < volumes) × (v % drives ≡ number)

pub new_has_only : (number drives volumes capacity : ℕ) (d : Faulty) → IsNew number drives volumes capacity d → HasOnly number drives volumes d
new_has_only number drives volumes capacity d new v has = shared_there number drives volumes v (by (is_shared number drives volumes v) (sym (ap is_some (new.shares v)) ∙ has))
  where
    by : (shared : Bool) → is_some (if shared then Some no_objects else None) ≡ true → shared ≡ true
    by true is = refl
    by false is = absurd cc

-- what a test of each number tells of one
passes_first : (test : ℕ → Bool) (v n : ℕ) (numbers : List ℕ) (same : Bool) → nat_eq v n ≡ same → (nat_eq v n || list_any (nat_eq v) numbers) ≡ true → test n ≡ true → (list_any (nat_eq v) numbers ≡ true → test v ≡ true) → test v ≡ true
passes_first test v n numbers true is there first later = let one : v ≡ n = grind (arith, nat_tests, is) in rw one first
passes_first test v n numbers false is there first later = later (sym (ap (λ (b : Bool). b || list_any (nat_eq v) numbers) is) ∙ there)

passes_one : (test : ℕ → Bool) (v : ℕ) (numbers : List ℕ) → list_any (nat_eq v) numbers ≡ true → list_all test numbers ≡ true → test v ≡ true
passes_one test v [] there passes = absurd cc
passes_one test v (n ∷ numbers) there passes =
    let both = both_of (test n) (list_all test numbers) passes in
    passes_first test v n numbers (nat_eq v n) refl there both.0 (λ later. passes_one test v numbers later both.1)

shares_has_only : (number drives volumes : ℕ) (d : Faulty) → shares_only number drives volumes d ≡ true → HasOnly number drives volumes d
shares_has_only number drives volumes d shares v has =
    shared_there number drives volumes v (passes_one (is_shared number drives volumes) v (keys_of d.held.volumes) (sym (is_some-lookup (nat_eq v) d.held.volumes) ∙ has) shares)

-- what a test of the first drives tells of one
first_each : (ds : List Faulty) (volumes n number : ℕ) → number < n → first_share_only ds volumes n ≡ true → option_map_or (shares_only number (length ds) volumes) (slice_get ds number) true ≡ true
first_each ds volumes zero number within all = absurd (omega (arith, within))
first_each ds volumes (suc n) number within all =
    let both = both_of (first_share_only ds volumes n) (option_map_or (shares_only n (length ds) volumes) (slice_get ds n) true) all in
    ⊎_elim (λ (same : number ≡ n). rw same both.1) (λ (less : number < n). first_each ds volumes n number less both.0) (eq-or-lt_of_le (omega (arith, within)))

each_has_only : (ds : List Faulty) (volumes : ℕ) → share_only ds volumes ≡ true → (number : ℕ) → IfSome (slice_get ds number) (HasOnly number (length ds) volumes)
each_has_only ds volumes all number = by (slice_get ds number) refl
  where
    by : (found : Option Faulty) → slice_get ds number ≡ found → IfSome found (HasOnly number (length ds) volumes)
    by None is = tt
    by (Some d) is =
        shares_has_only number (length ds) volumes d
        (sym (ap (λ (o : Option Faulty). option_map_or (shares_only number (length ds) volumes) o true) is) ∙ first_each ds volumes (length ds) number (slice_get_within ds number d is) all)

-- what a test of all volumes tells of one
has_each : (ds : List Faulty) (n v : ℕ) → v < n → have_volumes ds n ≡ true → has_shared ds v ≡ true
has_each ds zero v within all = absurd (omega (arith, within))
has_each ds (suc n) v within all =
    let both = both_of (have_volumes ds n) (has_shared ds n) all in
    ⊎_elim (λ (same : v ≡ n). rw same both.1) (λ (less : v < n). has_each ds n v less both.0) (eq-or-lt_of_le (omega (arith, within)))

if_has : (v : ℕ) (o : Option Faulty) → option_map_or (λ d. has_volume v d.held) o false ≡ true → IfSome o (λ d. has_volume v d.held ≡ true)
if_has v None has = tt
if_has v (Some d) has = has

module _ (drives volumes capacity : ℕ) (held : List Faulty) (fits : fit held drives volumes capacity ≡ true) where
  fit_both : ((length held == drives && have_room held capacity && have_volumes held volumes) ≡ true) × (share_only held volumes ≡ true)
  fit_both = both_of (length held == drives && have_room held capacity && have_volumes held volumes) (share_only held volumes) fits

  fit_count : length held ≡ drives
  fit_count = let first = (both_of (length held == drives) (have_room held capacity) (both_of (length held == drives && have_room held capacity) (have_volumes held volumes) fit_both.0).0).0 in grind (arith, nat_tests, first)

  fit_rest : (have_room held capacity ≡ true) × (have_volumes held volumes ≡ true)
  fit_rest =
      let both = both_of (length held == drives && have_room held capacity) (have_volumes held volumes) fit_both.0 in
      ((both_of (length held == drives) (have_room held capacity) both.0).1, both.1)

  fit_room : AllByRecursion (λ d. d.held.capacity ≡ capacity) held
  fit_room = each_passes (λ d. d.held.capacity == capacity) (λ d. d.held.capacity ≡ capacity) (λ d is. grind (arith, nat_tests, is)) held fit_rest.0

  fit_has : (v : ℕ) → v < volumes → IfSome (slice_get held (v % drives)) (λ d. has_volume v d.held ≡ true)
  fit_has v within = subst (λ (n : ℕ). IfSome (slice_get held (v % n)) (λ d. has_volume v d.held ≡ true)) fit_count (if_has v (slice_get held (v % length held)) (has_each held volumes v within fit_rest.1))

  fit_only : (number : ℕ) → IfSome (slice_get held number) (HasOnly number drives volumes)
  fit_only number = subst (λ (n : ℕ). IfSome (slice_get held number) (HasOnly number n volumes)) fit_count (each_has_only held volumes fit_both.1 number)

  fit_there : (v : ℕ) (o : Objects) → StoredIn (Some held) v o → IfSome (slice_get held (v % drives)) (λ d. AreObjects d.held v o)
  fit_there v o stored = subst (λ (n : ℕ). IfSome (slice_get held (v % n)) (λ d. AreObjects d.held v o)) fit_count (some_and (λ d. AreObjects d.held v o) (slice_get held (v % length held)) stored)

module _ (name : List ℕ) (drives volumes capacity : ℕ) (old new : Hosted) where
  pub handed-count : (held : Option (List Faulty)) (given : List Faulty) → Handed held drives volumes capacity given → length given ≡ drives
  handed-count None given news = news.count
  handed-count (Some held) given same = ap length same.0 ∙ fit_count drives volumes capacity held same.1

  pub handed-room : (held : Option (List Faulty)) (given : List Faulty) → Handed held drives volumes capacity given → AllByRecursion (λ d. d.held.capacity ≡ capacity) given
  handed-room None given news = each_place (λ i. IsNew i drives volumes capacity) (λ d. d.held.capacity ≡ capacity) (λ i d is. is.room) given news.each
  handed-room (Some held) given same = subst (AllByRecursion (λ d. d.held.capacity ≡ capacity)) (sym same.0) (fit_room drives volumes capacity held same.1)

  pub handed-has : (held : Option (List Faulty)) (given : List Faulty) → Handed held drives volumes capacity given → (v : ℕ) → v < volumes → IfSome (slice_get given (v % drives)) (λ d. has_volume v d.held ≡ true)
  handed-has None given news v within = if_some (IsNew (v % drives) drives volumes capacity) (λ d. has_volume v d.held ≡ true) (λ d is. new_has drives volumes capacity v d within is) (slice_get given (v % drives)) (news.each (v % drives))
  handed-has (Some held) given same v within = subst (λ ds. IfSome (slice_get ds (v % drives)) (λ d. has_volume v d.held ≡ true)) (sym same.0) (fit_has drives volumes capacity held same.1 v within)

  pub handed-only : (held : Option (List Faulty)) (given : List Faulty) → Handed held drives volumes capacity given → (number : ℕ) → IfSome (slice_get given number) (HasOnly number drives volumes)
  handed-only None given news number = if_some (IsNew number drives volumes capacity) (HasOnly number drives volumes) (λ d is. new_has_only number drives volumes capacity d is) (slice_get given number) (news.each number)
  handed-only (Some held) given same number = subst (λ ds. IfSome (slice_get ds number) (HasOnly number drives volumes)) (sym same.0) (fit_only drives volumes capacity held same.1 number)

  pub handed-there : (held : Option (List Faulty)) (given : List Faulty) → Handed held drives volumes capacity given → (v : ℕ) (o : Objects) → v < volumes → StoredIn held v o → IfSome (slice_get given (v % drives)) (λ d. AreObjects d.held v o)
  handed-there None given news v o within none = rw none (if_some (IsNew (v % drives) drives volumes capacity) (λ d. AreObjects d.held v []) (λ d is. new_has_none drives volumes capacity v d within is) (slice_get given (v % drives)) (news.each (v % drives)))
  handed-there (Some held) given same v o within stored = subst (λ ds. IfSome (slice_get ds (v % drives)) (λ d. AreObjects d.held v o)) (sym same.0) (fit_there drives volumes capacity held same.1 v o stored)

  pub Hands-gone : (result : Result (List Faulty) HostRefusal) → Hands name drives volumes capacity old new result → OnOk result (StoresNothing (HasObjects new name))
  Hands-gone (Ok given) hands = λ v o has. let none : get new.folders name ≡ None = ap (λ h. get h.folders name) hands.2 ∙ get-removed old.folders name in subst (λ found. StoredIn found v o) none has
  Hands-gone (Err why) hands = tt

  pub Hands-others : (result : Result (List Faulty) HostRefusal) → Hands name drives volumes capacity old new result → StoresOthers name (HasObjects old) (HasObjects new)
  Hands-others (Ok given) hands = removed name old new (ap (λ h. h.folders) hands.2)
  Hands-others (Err Failed) hands = λ other differs. stays old new (ap (λ h. h.folders) hands.1) other
  Hands-others (Err Memory) hands = λ other differs. stays old new (ap (λ h. h.folders) hands.2) other

-- ---- new drives

pub no_value : {X : Type 0} (o : Option X) → ((x : X) → o ≡ Some x → ⊥) → o ≡ None
no_value None none = refl
no_value (Some x) none = absurd (none x refl)

pub new_hands : (name : List ℕ) (drives volumes capacity : ℕ) (old new : Hosted) (result : Result (List Faulty) HostRefusal) → ¬ (IsToFail old) → get old.folders name ≡ None → new ≡ drives_handed name (asked_for_drives old) → new ≡ asked_for_drives old
    → IfOk result (AreNew drives volumes capacity) → IfErr result (λ why. why ≡ Memory) → Hands name drives volumes capacity old new result
new_hands name drives volumes capacity old new (Ok given) works none without asked news memory = (works, rw none news, without)
new_hands name drives volumes capacity old new (Err Memory) works none without asked news memory = (works, none, asked)
new_hands name drives volumes capacity old new (Err Failed) works none without asked news memory = absurd cc

pub new_unfailed : (drives volumes capacity : ℕ) (result : Result (List Faulty) HostRefusal) → IfOk result (AreNew drives volumes capacity) → IfOk result AreUnfailed
new_unfailed drives volumes capacity (Ok given) news = each_place (λ i. IsNew i drives volumes capacity) (λ d. d.faults ≡ 0) (λ i d is. is.unfailed) given news.each
new_unfailed drives volumes capacity (Err why) news = tt

pub are_unfailed : (drives : List Faulty) → AreUnfailed (unfailed drives)
are_unfailed [] = tt
are_unfailed (d ∷ ds) = (refl, are_unfailed ds)

pub always_ok : {T E A : Type 0} (r : Result T E) → A → OnOk r A
always_ok (Ok x) a = a
always_ok (Err e) a = tt
