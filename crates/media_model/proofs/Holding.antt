-- What calls of drives in memory answer and leave.
use Rattle.std.proofs.Common.{◌≡◌, inl, ⊎_elim, ℕ, ◌+◌, ◌<◌, ◌≤◌, Bool, true, false, cond, nat_eq, nat_lt, List, [], ◌∷◌, ◌++◌, length, get_or}
use Rattle.std.proofs.Common.{Option, None, Some, Result, Ok, Err, OnOk, OnErr, IsOk, is_some, refl, sym, ap, subst, ◌∙◌, arith}
use Rattle.std.proofs.lemmas.Bool.{true≢false, false≢true, eqb-true, eq-eqb}
use Rattle.std.proofs.lemmas.Result.{on_ok_weaker}
use Rattle.std.proofs.lemmas.Option.{slice_get_within, get_or_from_slice_get, none-some}
use Rattle.std.specs.Option.{option_map, option_map_or}
use Rattle.std.specs.List.{slice_get}
use Rattle.std.specs.Map.{lookup, set_value}
use Rattle.media_model.specs.Objects.{Objects, size_of, Adds, AddsOne, Follows, Alike, HasCause, KeepsVolumes}
use Rattle.media_model.specs.Memory.{Volume, Held, volume_in, objects_in, has_volume, lasting_in, AreObjects, of_volume, of_bytes, of_object}
use Rattle.media_model.specs.Memory.{number_in, with_object, synced, change_entry, change_volume, Appends}
use Rattle.media_model.specs.declared.drive.DriveRefusal.{DriveRefusal}
use Rattle.media_model.specs.declared.drive.DriveRefusal.TheVariants.{Failed, Full, NoVolume, Memory}

abbrev Table : Type 0
Table = List (ℕ × Volume)

-- ---- a volume that was changed

set-same : (v : ℕ) (new old : Volume) (table : Table) → lookup (nat_eq v) table ≡ Some old → lookup (nat_eq v) (set_value (nat_eq v) table new) ≡ Some new
set-same v new old [] there = absurd (none-some old there)
set-same v new old (e ∷ rest) there = by (nat_eq v e.0) refl (λ found. set-same v new old rest found) there
  where
    by : (b : Bool) → nat_eq v e.0 ≡ b → (lookup (nat_eq v) rest ≡ Some old → lookup (nat_eq v) (set_value (nat_eq v) rest new) ≡ Some new)
        → cond b (Some e.1) (lookup (nat_eq v) rest) ≡ Some old → lookup (nat_eq v) (cond b ((e.0, new) ∷ rest) (e ∷ set_value (nat_eq v) rest new)) ≡ Some new
    by true is later found = rw is refl
    by false is later found = rw is (later found)

set-other : (v w : ℕ) (new : Volume) (table : Table) → (w ≡ v → ⊥) → lookup (nat_eq w) (set_value (nat_eq v) table new) ≡ lookup (nat_eq w) table
set-other v w new [] apart = refl
set-other v w new (e ∷ rest) apart = by (nat_eq v e.0) (nat_eq w e.0) refl refl (set-other v w new rest apart)
  where
    by : (b c : Bool) → nat_eq v e.0 ≡ b → nat_eq w e.0 ≡ c → lookup (nat_eq w) (set_value (nat_eq v) rest new) ≡ lookup (nat_eq w) rest
        → lookup (nat_eq w) (cond b ((e.0, new) ∷ rest) (e ∷ set_value (nat_eq v) rest new)) ≡ cond c (Some e.1) (lookup (nat_eq w) rest)
    by true true first second later = absurd (apart (eqb-true w e.0 second ∙ sym (eqb-true v e.0 first)))
    by true false first second later = rw second refl
    by false true first second later = rw second refl
    by false false first second later = rw second later

pub same-entry : (v : ℕ) (change : Volume → Volume) (table : Table) → lookup (nat_eq v) (change_entry v change table) ≡ option_map change (lookup (nat_eq v) table)
same-entry v change table = by (lookup (nat_eq v) table) refl
  where
    by : (o : Option Volume) → lookup (nat_eq v) table ≡ o → lookup (nat_eq v) (option_map_or (λ x. set_value (nat_eq v) table (change x)) o table) ≡ option_map change o
    by None is = is
    by (Some x) is = set-same v (change x) x table is

pub other-entry : (v w : ℕ) (change : Volume → Volume) (table : Table) → (w ≡ v → ⊥) → lookup (nat_eq w) (change_entry v change table) ≡ lookup (nat_eq w) table
other-entry v w change table apart = by (lookup (nat_eq v) table)
  where
    by : (o : Option Volume) → lookup (nat_eq w) (option_map_or (λ x. set_value (nat_eq v) table (change x)) o table) ≡ lookup (nat_eq w) table
    by None = refl
    by (Some x) = set-other v w (change x) table apart

-- another volume is as before
pub other-alike : (v w : ℕ) (change : Volume → Volume) (old : Held) → (w ≡ v → ⊥) → Alike (AreObjects old w) (AreObjects (change_volume v change old) w)
other-alike v w change old apart =
    let same : objects_in w (change_volume v change old) ≡ objects_in w old = ap (option_map (λ (x : Volume). x.objects)) (other-entry v w change old.volumes apart) in
    (λ o given. sym same ∙ given, λ o given. same ∙ given)

-- ---- what a change keeps

keeps_at : (v w : ℕ) (change : Volume → Volume) (old : Held) → ((x : Volume) → volume_in v old ≡ Some x → x.lasting ≤ (change x).lasting) → (has_volume w (change_volume v change old) ≡ has_volume w old) × (lasting_in w old ≤ lasting_in w (change_volume v change old))
keeps_at v w change old lasts = by (nat_eq w v) refl
  where
    here : (o : Option Volume) → volume_in v old ≡ o → (is_some (option_map change o) ≡ is_some o) × (option_map_or (λ x. x.lasting) o 0 ≤ option_map_or (λ x. x.lasting) (option_map change o) 0)
    here None is = (refl, omega arith)
    here (Some x) is = (refl, lasts x is)

    by : (b : Bool) → nat_eq w v ≡ b → (has_volume w (change_volume v change old) ≡ has_volume w old) × (lasting_in w old ≤ lasting_in w (change_volume v change old))
    by true is =
        let same : w ≡ v = eqb-true w v is in
        subst (λ (u : ℕ). (has_volume u (change_volume v change old) ≡ has_volume u old) × (lasting_in u old ≤ lasting_in u (change_volume v change old))) (sym same)
        (rw (same-entry v change old.volumes) (here (volume_in v old) refl))
    by false is =
        let same : volume_in w (change_volume v change old) ≡ volume_in w old = other-entry v w change old.volumes (λ e. true≢false (sym (eq-eqb w v e) ∙ is)) in
        (ap is_some same, rw same (omega arith))

abbrev pub Keeps : Held → Held → Type 0
Keeps old new = KeepsVolumes (λ v. has_volume v old) (λ v. has_volume v new) old.capacity new.capacity (λ v. lasting_in v old) (λ v. lasting_in v new)

pub change-keeps : (v : ℕ) (change : Volume → Volume) (old : Held) → ((x : Volume) → volume_in v old ≡ Some x → x.lasting ≤ (change x).lasting) → Keeps old (change_volume v change old)
change-keeps v change old lasts = record { has = λ w. (keeps_at v w change old lasts).0; capacity = refl; lasting = λ w. (keeps_at v w change old lasts).1 }

pub same-keeps : (old new : Held) → new ≡ old → Keeps old new
same-keeps old new is = subst (Keeps old) (sym is) (record { has = λ w. refl; capacity = refl; lasting = λ w. omega arith })

pub same-alike : (v : ℕ) (old new : Held) → new ≡ old → Alike (AreObjects old v) (AreObjects new v)
same-alike v old new is = (λ o given. subst (λ (h : Held). AreObjects h v o) is given, λ o given. subst (λ (h : Held). AreObjects h v o) (sym is) given)

-- a change that keeps the objects of each volume
pub change-alike : (v w : ℕ) (change : Volume → Volume) (old : Held) → ((x : Volume) → (change x).objects ≡ x.objects) → Alike (AreObjects old w) (AreObjects (change_volume v change old) w)
change-alike v w change old same = by (nat_eq w v) refl
  where
    here : (o : Option Volume) → option_map (λ x. x.objects) (option_map change o) ≡ option_map (λ x. x.objects) o
    here None = refl
    here (Some x) = ap Some (same x)

    by : (b : Bool) → nat_eq w v ≡ b → Alike (AreObjects old w) (AreObjects (change_volume v change old) w)
    by true is =
        let at : objects_in v (change_volume v change old) ≡ objects_in v old = ap (option_map (λ (x : Volume). x.objects)) (same-entry v change old.volumes) ∙ here (volume_in v old) in
        subst (λ (u : ℕ). Alike (AreObjects old u) (AreObjects (change_volume v change old) u)) (sym (eqb-true w v is)) ((λ o given. sym at ∙ given, λ o given. at ∙ given))
    by false is = other-alike v w change old (λ e. true≢false (sym (eq-eqb w v e) ∙ is))

-- one object more, whichever it is
pub change-adds : (v : ℕ) (bytes : List ℕ) (old : Held) → Follows (Adds bytes) (AreObjects old v) (AreObjects (change_volume v (with_object bytes) old) v)
change-adds v bytes old now given = by (volume_in v old) (rw (same-entry v (with_object bytes) old.volumes) at given)
  where
    by : (w : Option Volume) → option_map (λ x. x.objects) (option_map (with_object bytes) w) ≡ Some now → (before : Objects) × (option_map (λ x. x.objects) w ≡ Some before) × Adds bytes before now
    by None given = absurd (none-some now given)
    by (Some x) given = let same : x.objects ++ bytes ∷ [] ≡ now = cc in (x.objects, refl, sym same)

-- after a sync all objects of the volume last
pub synced-last : (v : ℕ) (old : Held) (o : Objects) → AreObjects (change_volume v synced old) v o → length o ≤ lasting_in v (change_volume v synced old)
synced-last v old o given = rw (same-entry v synced old.volumes) (by (volume_in v old) (rw (same-entry v synced old.volumes) at given))
  where
    by : (w : Option Volume) → option_map (λ x. x.objects) (option_map synced w) ≡ Some o → length o ≤ option_map_or (λ x. x.lasting) (option_map synced w) 0
    by None given = absurd (none-some o given)
    by (Some x) given = let same : x.objects ≡ o = cc in omega (arith, ap length same)

-- ---- an object that was found

pub found-object : (v n : ℕ) (held : Held) (bytes : List ℕ) → of_object (λ b. b) n (volume_in v held) ≡ Ok bytes → (o : Objects) → AreObjects held v o → (n < length o) × (get_or o n [] ≡ bytes)
found-object v n held bytes found o given = by (volume_in v held) found given
  where
    at : (x : Volume) (got : Option (List ℕ)) → slice_get x.objects n ≡ got → of_bytes (λ b. b) got ≡ Ok bytes → slice_get x.objects n ≡ Some bytes
    at x None is told = absurd cc
    at x (Some b) is told = let same : b ≡ bytes = cc in is ∙ ap Some same

    by : (w : Option Volume) → of_object (λ b. b) n w ≡ Ok bytes → option_map (λ x. x.objects) w ≡ Some o → (n < length o) × (get_or o n [] ≡ bytes)
    by None told is = absurd cc
    by (Some x) told is =
        let same : x.objects ≡ o = cc in
        let got : slice_get o n ≡ Some bytes = ap (λ (l : Objects). slice_get l n) (sym same) ∙ at x (slice_get x.objects n) refl told in
        (slice_get_within o n bytes got, get_or_from_slice_get o n bytes [] got)

-- ---- an append

number-kinds : (len capacity : ℕ) (w : Option Volume) → (of_volume (number_in len capacity) w ≡ Err Failed → ⊥) × (is_some w ≡ false → of_volume (number_in len capacity) w ≡ Err NoVolume) × (of_volume (number_in len capacity) w ≡ Err NoVolume → is_some w ≡ false) × (IsOk (of_volume (number_in len capacity) w) → is_some w ≡ true)
number-kinds len capacity None = (λ e. absurd cc, λ e. refl, λ e. refl, λ ok. absurd (false≢true ok))
number-kinds len capacity (Some x) = by (nat_lt capacity (size_of x.objects + len))
  where
    by : (b : Bool) → (cond b (Err (Full (size_of x.objects) len capacity)) (Ok (length x.objects)) ≡ Err Failed → ⊥) × (true ≡ false → cond b (Err (Full (size_of x.objects) len capacity)) (Ok (length x.objects)) ≡ Err NoVolume) × (cond b (Err (Full (size_of x.objects) len capacity)) (Ok (length x.objects)) ≡ Err NoVolume → true ≡ false) × (IsOk (cond b (Err (Full (size_of x.objects) len capacity)) (Ok (length x.objects))) → true ≡ true)
    by true = (λ e. absurd cc, λ e. absurd (true≢false e), λ e. absurd cc, λ ok. refl)
    by false = (λ e. absurd cc, λ e. absurd (true≢false e), λ e. absurd cc, λ ok. refl)

-- the answer, where memory suffices
abbrev told : ℕ → ℕ → Held → Result ℕ DriveRefusal
told v len held = of_volume (number_in len held.capacity) (volume_in v held)

module _ (result : Result ℕ DriveRefusal) (v len : ℕ) (stored : List ℕ) (old new : Held) (a : Appends result v len stored old new) where
  -- the drive is as before, or has the object
  cases : (P : Result ℕ DriveRefusal → Held → Type 0) → ((n : ℕ) → P (Ok n) (change_volume v (with_object stored) old)) → ((why : DriveRefusal) → P (Err why) old) → P result new
  cases P ok err = by result a.ok a.err
    where
      by : (r : Result ℕ DriveRefusal) → OnOk r (new ≡ change_volume v (with_object stored) old) → OnErr r (new ≡ old) → P r new
      by (Ok n) is same = subst (P (Ok n)) (sym is) (ok n)
      by (Err why) is same = subst (P (Err why)) (sym same) (err why)

  pub appends-keeps : Keeps old new
  appends-keeps = cases (λ r h. Keeps old h) (λ n. change-keeps v (with_object stored) old (λ x is. omega arith)) (λ why. same-keeps old old refl)

  pub appends-others : (w : ℕ) → (w ≡ v → ⊥) → Alike (AreObjects old w) (AreObjects new w)
  appends-others w apart = cases (λ r h. Alike (AreObjects old w) (AreObjects h w)) (λ n. other-alike v w (with_object stored) old apart) (λ why. same-alike w old old refl)

  pub appends-exact : OnOk result (Follows (Adds stored) (AreObjects old v) (AreObjects new v))
  appends-exact = cases (λ r h. OnOk r (Follows (Adds stored) (AreObjects old v) (AreObjects h v))) (λ n. change-adds v stored old) (λ why. tt)

  pub appends-one : OnOk result (Follows AddsOne (AreObjects old v) (AreObjects new v))
  appends-one = on_ok_weaker result (λ follows now given. let p = follows now given in (p.0, p.1, (stored, p.2))) appends-exact

  pub appends-cause : HasCause result (has_volume v old) 0 0
  appends-cause = record {
    never_falls = omega arith;
    quiet = λ well. refl;
    failed = λ is. absurd (⊎_elim (λ (m : (result ≡ Err Memory) × IsOk (told v len old)). other Failed m.0 is (λ e. absurd cc)) (λ (e : result ≡ told v len old). kinds.0 (sym e ∙ is)) a.answer);
    missing = λ none. ⊎_elim (λ (m : (result ≡ Err Memory) × IsOk (told v len old)). absurd (true≢false (sym (kinds.3 m.1) ∙ none))) (λ (e : result ≡ told v len old). inl (e ∙ kinds.1 none)) a.answer;
    no_volume = λ is. ⊎_elim (λ (m : (result ≡ Err Memory) × IsOk (told v len old)). absurd (other NoVolume m.0 is (λ e. absurd cc))) (λ (e : result ≡ told v len old). kinds.2 (sym e ∙ is)) a.answer;
  }
    where
      kinds : (told v len old ≡ Err Failed → ⊥) × (is_some (volume_in v old) ≡ false → told v len old ≡ Err NoVolume) × (told v len old ≡ Err NoVolume → is_some (volume_in v old) ≡ false) × (IsOk (told v len old) → is_some (volume_in v old) ≡ true)
      kinds = number-kinds len old.capacity (volume_in v old)

      other : (why : DriveRefusal) → result ≡ Err Memory → result ≡ Err why → (Memory ≡ why → ⊥) → ⊥
      other why m is apart = let same : Memory ≡ why = cc in apart same
