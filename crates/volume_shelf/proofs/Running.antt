-- How the steps of a copy and of a fetch make one.
use Rattle.std.proofs.Common.{◌≡◌, ℕ, ◌+◌, ◌<◌, ◌≤◌, true, List, [], ◌∷◌, ◌++◌, length, get_or, drop, refl, sym, ap, subst, ◌∙◌, arith, length-append}
use Rattle.std.proofs.Math.Seq.{get_or-append_seam}
use Rattle.hsm_types.specs.Stubs.{print_of, entry_place, entry_print, entry_at}
use Rattle.hsm_types.specs.declared.keys.Handle.{Handle}
use Rattle.hsm_types.specs.declared.media.CopyRefusal.{CopyRefusal}
use Rattle.hsm_types.specs.declared.media.CopyRefusal.TheVariants.{Failed, Full, Damaged, NoVolume, Memory}
use Rattle.hsm_types.specs.declared.stubs.Fingerprint.{Fingerprint}
use Rattle.hsm_types.specs.declared.stubs.StubEntry.{StubEntry}
use Rattle.media_model.specs.Objects.{Objects, Adds, Follows, KeepsVolumes}
use Rattle.media_model.specs.declared.drive.Drive as drive
use Rattle.volume_format.specs.Objects.{object_bytes}
use Rattle.volume_shelf.specs.Shelf.{AddsPrint, MayGrow, Reads, Grows, HasRoom, Copied, CopyRefused}
use Rattle.volume_shelf.specs.Steps.{IsPut, Prints, IsUnlike}
use Rattle.volume_shelf.proofs.Rising.{rises_by_one, raised_since}

module _ {D : Type 0} (g : drive.Ghosts D) where
  -- ---- runs of calls

  pub idle : (d : D) → Reads g d d
  idle d = record { same = λ v. (λ o given. given, λ o given. given); volumes = record { has = λ v. refl; capacity = refl; lasting = λ v. omega arith }; faults = omega arith }

  keeps_on : (old mid new : D) → KeepsVolumes (g.has old) (g.has mid) (g.capacity_of old) (g.capacity_of mid) (g.lasting old) (g.lasting mid) → KeepsVolumes (g.has mid) (g.has new) (g.capacity_of mid) (g.capacity_of new) (g.lasting mid) (g.lasting new)
      → KeepsVolumes (g.has old) (g.has new) (g.capacity_of old) (g.capacity_of new) (g.lasting old) (g.lasting new)
  keeps_on old mid new a b = record {
    has = λ v. b.has v ∙ a.has v;
    capacity = b.capacity ∙ a.capacity;
    lasting = λ v. let first = a.lasting v in let second = b.lasting v in omega arith;
  }

  pub reads_on : (old mid new : D) → Reads g old mid → Reads g mid new → Reads g old new
  reads_on old mid new a b = record {
    same = λ v. (λ o given. (a.same v).0 o ((b.same v).0 o given), λ o given. (b.same v).1 o ((a.same v).1 o given));
    volumes = keeps_on old mid new a.volumes b.volumes;
    faults = let first = a.faults in let second = b.faults in omega arith;
  }

  pub follows_on : (S : Objects → Objects → Type 0) (volume : ℕ) (old mid new : D) → Follows S (g.gives old volume) (g.gives mid volume) → Reads g mid new → Follows S (g.gives old volume) (g.gives new volume)
  follows_on S volume old mid new follows r now given = follows now ((r.same volume).0 now given)

  pub grows_on : (volume : ℕ) (old mid new : D) → Grows g volume old mid → Reads g mid new → Grows g volume old new
  grows_on volume old mid new a b = record {
    one_more = follows_on MayGrow volume old mid new a.one_more b;
    others = λ v apart. (λ o given. (a.others v apart).0 o ((b.same v).0 o given), λ o given. (b.same v).1 o ((a.others v apart).1 o given));
    volumes = keeps_on old mid new a.volumes b.volumes;
    faults = let first = a.faults in let second = b.faults in omega arith;
  }

  -- ---- a copy

  -- what is told of the object that was put is told of the one that each list has more
  adds_print : (volume number : ℕ) (old mid : D) (object : List ℕ) (print : Fingerprint) → IsPut g volume object old mid number → Prints g volume number mid print → Follows (AddsPrint print) (g.gives old volume) (g.gives mid volume)
  adds_print volume number old mid object print p told now given =
      let before = p.added now given in
      let x = before.2.0 in
      let is : now ≡ before.0 ++ x ∷ [] = before.2.1 in
      let at : number ≡ length before.0 = p.next before.0 before.1 in
      let there : number < length now = omega (arith, ap length is, length-append before.0 (x ∷ []), at) in
      let last : get_or now number [] ≡ x = ap (λ (l : Objects). get_or l number []) is ∙ ap (λ (n : ℕ). get_or (before.0 ++ x ∷ []) n []) at ∙ get_or-append_seam before.0 x [] [] in
      (before.0, before.1, (x, is, told now given there ∙ ap (λ (l : List ℕ). print_of (drop 72 l)) last))

  -- The bytes were put, read back, and made to last.
  pub copied : (volume number segment : ℕ) (handle : Handle) (bytes object : List ℕ) (old put read new : D) (entry : StubEntry) → object ≡ object_bytes handle segment bytes → length object ≡ 72 + length bytes → entry ≡ entry_at (record { volume = volume; object = number }) (print_of bytes)
      → IsPut g volume object old put number → Reads g put read → Prints g volume number put (print_of bytes) → Reads g read new → ((o : Objects) → g.gives new volume o → length o ≤ g.lasting new volume) → Copied g volume handle segment bytes old new entry
  copied volume number segment handle bytes object old put read new entry is size names p a told b lasts = record {
    room = subst (λ (n : ℕ). HasRoom g volume n old) size p.room;
    on = ap (λ (e : StubEntry). (entry_place e).volume) names;
    number = λ o given. ap (λ (e : StubEntry). (entry_place e).object) names ∙ p.next o given;
    print = ap (λ (e : StubEntry). entry_print e) names;
    given = follows_on (AddsPrint (print_of bytes)) volume old put new (adds_print volume number old put object (print_of bytes) p told) r;
    exact = λ sure. follows_on (Adds (object_bytes handle segment bytes)) volume old put new (subst (λ (x : List ℕ). Follows (Adds x) (g.gives old volume) (g.gives put volume)) is (p.exact sure)) r;
    lasts = λ o given.
        let before = p.added o ((r.same volume).0 o given) in
        let at : number ≡ length before.0 = p.next before.0 before.1 in
        let named : (entry_place entry).object ≡ number = ap (λ (e : StubEntry). (entry_place e).object) names in
        let all : length o ≤ g.lasting new volume = lasts o given in
        omega (arith, ap length before.2.1, length-append before.0 (before.2.0 ∷ []), at, named, all);
  }
    where
      r : Reads g put new
      r = reads_on put read new a b

  -- What was read back is unlike what was put.
  pub unlike : (volume number size : ℕ) (bytes object : List ℕ) (old put new : D) (why : CopyRefusal) → length object ≡ size → drop 72 object ≡ bytes → ((d : D) (v : ℕ) → g.sure ≡ true → g.has d v ≡ true → (o : Objects) × g.gives d v o)
      → IsPut g volume object old put number → Grows g volume old put → g.fault_count put ≡ g.fault_count old → Reads g put new → IsUnlike g volume number (print_of bytes) (g.fault_count old) put new why → CopyRefused g volume size (print_of bytes) old new why
  unlike volume number size bytes object old put new (Failed before after) is payload tells p grew quiet r why =
      let one = raised_since (g.fault_count old) (g.fault_count put) (g.fault_count new) quiet why.2 in
      (why.0, why.1, rw (why.0, why.1) (rises_by_one (g.fault_count old) (g.fault_count new) one), rw (why.0, why.1) one)
  unlike volume number size bytes object old put new (Full used len capacity) is payload tells p grew quiet r why = absurd why
  unlike volume number size bytes object old put new (Damaged want got) is payload tells p grew quiet r why = (
    subst (λ (n : ℕ). HasRoom g volume n old) is p.room,
    why.0,
    why.1,
    follows_on (AddsPrint got) volume old put new (adds_print volume number old put object got p why.2) r,
    λ sure.
        let given = tells put volume sure (grew.volumes.has volume ∙ p.room.there) in
        let before = p.exact sure given.0 given.1 in
        let is_now : given.0 ≡ before.0 ++ object ∷ [] = before.2 in
        let at : number ≡ length before.0 = p.next before.0 before.1 in
        let there : number < length given.0 = omega (arith, ap length is_now, length-append before.0 (object ∷ []), at) in
        let last : get_or given.0 number [] ≡ object = ap (λ (l : Objects). get_or l number []) is_now ∙ ap (λ (n : ℕ). get_or (before.0 ++ object ∷ []) n []) at ∙ get_or-append_seam before.0 object [] [] in
        why.1 (why.0 ∙ ap print_of (sym (ap (drop 72) last ∙ payload)) ∙ sym (why.2 given.0 given.1 there)),
  )
  unlike volume number size bytes object old put new NoVolume is payload tells p grew quiet r why = absurd why
  unlike volume number size bytes object old put new Memory is payload tells p grew quiet r why = absurd why
