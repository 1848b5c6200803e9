-- What is sealed, while drives are used and histories go on.
use Rattle.std.proofs.Common.{◌≡◌, ◌≢◌, ◌∙◌, ◌+◌, ◌%◌, ◌<◌, ◌≤◌, ◌∷◌, ◌++◌, [], ℕ, zero, suc, true, List, length, get_or, drop, Option, Some}
use Rattle.std.proofs.Common.{None, IfSome, Result, Ok, Err, inl, inr, refl, sym, ap, subst, append_assoc, append-nil, length-append, length-set}
use Rattle.std.proofs.Common.{arith}
use Rattle.std.specs.List.{AllByRecursion, cons_option}
use Rattle.std.specs.Prelude.{slice_get, slice_set}
use Rattle.std.proofs.Math.Seq.{get_or-append_seam}
use Rattle.std.proofs.lemmas.List.{get_or_append_left}
use Rattle.std.proofs.lemmas.List.Elements.{filter_map-append}
use Rattle.media_model.specs.Objects.{Objects}
use Rattle.media_model.specs.declared.drive.Drive as drive
use Rattle.hsm_types.specs.Stubs.{print_of, entry_place, entry_at}
use Rattle.hsm_types.specs.declared.daemons.Act.{Act}
use Rattle.hsm_types.specs.declared.daemons.Act.TheVariants.{Dm, Copy, Fetch}
use Rattle.hsm_types.specs.declared.daemons.Daemon.TheVariants.{Recall}
use Rattle.hsm_types.specs.declared.daemons.Heard.{Heard}
use Rattle.hsm_types.specs.declared.daemons.Heard.TheVariants as heard
use Rattle.hsm_types.specs.declared.dm.DmCall.{DmCall}
use Rattle.hsm_types.specs.declared.dm.DmCall.TheVariants.{Respond, Seal}
use Rattle.hsm_types.specs.declared.dm.DmReply.{DmReply}
use Rattle.hsm_types.specs.declared.dm.Response.TheVariants.{Abort, Media}
use Rattle.hsm_types.specs.declared.keys.Handle.{Handle}
use Rattle.hsm_types.specs.declared.keys.Sid.{Sid}
use Rattle.hsm_types.specs.declared.keys.Token.{Token}
use Rattle.hsm_types.specs.declared.media.CopyRefusal.{CopyRefusal}
use Rattle.hsm_types.specs.declared.media.Fault.TheVariants.{Damaged}
use Rattle.hsm_types.specs.declared.media.FetchRefusal.{FetchRefusal}
use Rattle.hsm_types.specs.declared.media.FetchRefusal.TheVariants as fetching
use Rattle.hsm_types.specs.declared.stubs.Fingerprint.{Fingerprint}
use Rattle.hsm_types.specs.declared.stubs.Place.{Place as MediaPlace}
use Rattle.hsm_types.specs.declared.stubs.StubEntry.{StubEntry}
use Rattle.hsm_policy.specs.Settings.{Numbers}
use Rattle.volume_shelf.specs.Shelf.{Copied}
use Rattle.recall_daemon.specs.Known.{Known}
use Rattle.hsm_system.specs.Running.{Recalling, Migrating}
use Rattle.hsm_replay.specs.Acts.{CopiesTo, FetchesFrom}
use Rattle.hsm_replay.specs.Drives.{Extends, HasGrown, HaveGrown}
use Rattle.hsm_replay.specs.Faults.{TellsFault, IsTrue}
use Rattle.marked_history.specs.Marks.{Mark, made}
use Rattle.hsm_replay.specs.Sealed.{seal_by, sealed_in, IsUnsealed, Gives, IsThere, IsStored, MayLack, IsLost, HearsStored, HearsLost, NeedsLost}
use Rattle.hsm_replay.specs.Sealed.{AbortsAreRight, DamagesAreRight, Tallies, SealsAreWhole}
use Rattle.marked_history.specs.Served.{shown, nothing_shown}
use Rattle.marked_history.proofs.Lists.{all_weaker, all_and, all_first, Place, place}
use Rattle.hsm_replay.specs.Systems.{drive_of, told_next}
use Rattle.hsm_replay.proofs.Growing.{grown_count, have_grown_on, grown_at, reads_grow}
use Rattle.hsm_replay.proofs.Fetching.{set_there}

-- ---- lists

all_or_one : {A : Type 0} (P : A → Type 0) (xs : List A) (found : Option A) → AllByRecursion P xs → IfSome found P → AllByRecursion P (xs ++ cons_option found [])
all_or_one {A = A} P xs None each is = subst (λ (l : List A). AllByRecursion P l) (sym (append-nil xs)) each
all_or_one P xs (Some x) each is = all_and P xs x each is

-- ---- entries that are sealed

sealed_more : (marks more : List Mark) → sealed_in (marks ++ more) ≡ sealed_in marks ++ sealed_in more
sealed_more marks more = filter_map-append (λ (m : Mark). seal_by m.by m.entry.action) marks more

all_sealed_more : (P : StubEntry → Type 0) (marks : List Mark) (m : Mark) → AllByRecursion P (sealed_in marks) → IfSome (seal_by m.by m.entry.action) P → AllByRecursion P (sealed_in (marks ++ m ∷ []))
all_sealed_more P marks m each is = subst (λ (l : List StubEntry). AllByRecursion P l) (sym (sealed_more marks (m ∷ []))) (all_or_one P (sealed_in marks) (seal_by m.by m.entry.action) each is)

all_sealed_before : (P : StubEntry → Type 0) (marks before : List Mark) (m : Mark) (rest : List Mark) → marks ≡ before ++ m ∷ rest → AllByRecursion P (sealed_in marks) → AllByRecursion P (sealed_in before)
all_sealed_before P marks before m rest is each = all_first P (sealed_in before) (sealed_in (m ∷ rest)) (subst (λ (l : List StubEntry). AllByRecursion P l) (ap sealed_in is ∙ sealed_more before (m ∷ rest)) each)

module _ {M : Type 0} (g : drive.Ghosts M) where
  -- ---- drives that are used

  -- each was one before
  grown_from : (n : ℕ) (ds es : List M) (e : M) → HaveGrown g ds es → slice_get es n ≡ Some e → (d : M) × (slice_get ds n ≡ Some d) × HasGrown g d e
  grown_from n [] [] e grown is = let wrong : None ≡ Some e = is in cc wrong
  grown_from n [] (x ∷ es) e grown is = absurd grown
  grown_from n (d ∷ ds) [] e grown is = absurd grown
  grown_from zero (d ∷ ds) (x ∷ es) e grown is = let same : x ≡ e = cc is in (d, refl, subst (λ (y : M). HasGrown g d y) same grown.0)
  grown_from (suc n) (d ∷ ds) (x ∷ es) e grown is = grown_from n ds es e grown.1 is

  -- and each is one now
  pub grown_to : (n : ℕ) (ds es : List M) (d : M) → HaveGrown g ds es → slice_get ds n ≡ Some d → (e : M) × (slice_get es n ≡ Some e) × HasGrown g d e
  grown_to n [] [] d grown is = let wrong : None ≡ Some d = is in cc wrong
  grown_to n [] (x ∷ es) d grown is = absurd grown
  grown_to n (x ∷ ds) [] d grown is = absurd grown
  grown_to zero (x ∷ ds) (e ∷ es) d grown is = let same : x ≡ d = cc is in (e, refl, subst (λ (y : M). HasGrown g y e) same grown.0)
  grown_to (suc n) (x ∷ ds) (e ∷ es) d grown is = grown_to n ds es d grown.1 is

  -- what a volume may have now is what it may have had, and perhaps more behind it
  pub gave : (volume : ℕ) (ds es : List M) (o : Objects) → HaveGrown g ds es → Gives g es volume o → (before : Objects) × Gives g ds volume before × Extends before o
  gave volume ds es o grown gives =
      let at : slice_get es (volume % length ds) ≡ Some gives.0 = subst (λ (n : ℕ). slice_get es (volume % n) ≡ Some gives.0) (grown_count g ds es grown) gives.1 in
      let was = grown_from (volume % length ds) ds es gives.0 grown at in
      let had = was.2.objects volume o gives.2 in
      (had.0, (was.0, was.1, had.1), had.2)

  pub there_still : (volume : ℕ) (ds es : List M) → HaveGrown g ds es → IsThere g ds volume → IsThere g es volume
  there_still volume ds es grown there =
      let is = grown_to (volume % length ds) ds es there.0 grown there.1 in
      (is.0, subst (λ (n : ℕ). slice_get es (volume % n) ≡ Some is.0) (sym (grown_count g ds es grown)) is.1, is.2.volumes.has volume ∙ there.2)

  pub stored_still : (ds es : List M) → HaveGrown g ds es → (entry : StubEntry) → IsStored g ds entry → IsStored g es entry
  stored_still ds es grown entry stored = record {
    there = there_still (entry_place entry).volume ds es grown stored.there;
    print = λ now given.
        let before = gave (entry_place entry).volume ds es now grown given in
        let had = stored.print before.0 before.1 in
        let more = before.2.0 in
        let longer : length now ≡ length before.0 + length more = ap (λ (o : Objects). length o) before.2.1 ∙ length-append before.0 more in
        let same : get_or now (entry_place entry).object [] ≡ get_or before.0 (entry_place entry).object [] = ap (λ (o : Objects). get_or o (entry_place entry).object []) before.2.1 ∙ get_or_append_left before.0 more [] (entry_place entry).object had.0 in
        (omega (arith, longer, had.0), had.1 ∙ ap (λ (o : List ℕ). print_of (drop 72 o)) (sym same));
    lasts = λ now given.
        let at : slice_get es ((entry_place entry).volume % length ds) ≡ Some given.0 = subst (λ (n : ℕ). slice_get es ((entry_place entry).volume % n) ≡ Some given.0) (grown_count g ds es grown) given.1 in
        let was = grown_from ((entry_place entry).volume % length ds) ds es given.0 grown at in
        let had = was.2.objects (entry_place entry).volume now given.2 in
        let lasted : (entry_place entry).object < g.lasting was.0 (entry_place entry).volume = stored.lasts had.0 (was.0, was.1, had.1) in
        let kept : g.lasting was.0 (entry_place entry).volume ≤ g.lasting given.0 (entry_place entry).volume = was.2.volumes.lasting (entry_place entry).volume in
        omega (arith, lasted, kept);
  }

  lost_still : (opened ds es : List M) (marks : List Mark) (entry : StubEntry) → HaveGrown g ds es → IsLost g opened ds marks entry → IsLost g opened es marks entry
  lost_still opened ds es marks entry grown lost = record {
    first = lost.first;
    since = lost.since;
    parted = lost.parted;
    others = lost.others;
    unnamed = λ o gives. let before = gave (entry_place entry).volume ds es o grown gives in lost.unnamed before.0 before.1;
    lacked = λ o gives. let before = gave (entry_place entry).volume ds es o grown gives in lost.lacked before.0 before.1;
  }

  needs_still : (opened ds es : List M) (k : Known) (marks : List Mark) → HaveGrown g ds es → NeedsLost g opened ds k marks → NeedsLost g opened es k marks
  needs_still opened ds es k marks grown needs = (needs.0, needs.1, needs.2, needs.3, lost_still opened ds es marks needs.1.entry grown needs.4)

  pub tallies_still : (opened ds es : List M) (limits : Numbers) (marks : List Mark) → HaveGrown g ds es → Tallies g opened ds limits marks → Tallies g opened es limits marks
  tallies_still opened ds es limits marks grown tallies = record {
    grown = have_grown_on g opened ds es tallies.grown grown;
    stored = all_weaker (IsStored g ds) (IsStored g es) (sealed_in marks) (stored_still ds es grown) tallies.stored;
    aborts = λ before sid t reply rest is. needs_still opened ds es (shown limits nothing_shown before).recall before grown (tallies.aborts before sid t reply rest is);
    damages = λ before sid t volume object want got reply rest is o gives. let had = gave volume ds es o grown gives in tallies.damages before sid t volume object want got reply rest is had.0 had.1;
  }

  -- ---- what daemons have heard, while drives are used

  lost_heard : (opened ds es : List M) (marks : List Mark) (asked : Act) (told : Heard) → HaveGrown g ds es → HearsLost g opened ds marks asked told → HearsLost g opened es marks asked told
  lost_heard opened ds es marks (Fetch entry) (heard.Fetched (Err (fetching.NoObject volume object))) grown is = lost_still opened ds es marks entry grown is
  lost_heard opened ds es marks asked told grown is = tt

  pub lost_still_if : (opened ds es : List M) (marks : List Mark) (r : Option Recalling) → HaveGrown g ds es → IfSome r (λ (x : Recalling). HearsLost g opened ds marks x.machine.asked (told_next x.next)) → IfSome r (λ (x : Recalling). HearsLost g opened es marks x.machine.asked (told_next x.next))
  lost_still_if opened ds es marks None grown is = tt
  lost_still_if opened ds es marks (Some r) grown is = lost_heard opened ds es marks r.machine.asked (told_next r.next) grown is

  stored_heard : (ds es : List M) (asked : Act) (told : Heard) → HaveGrown g ds es → HearsStored g ds asked told → HearsStored g es asked told
  stored_heard ds es (Copy volume h segment bytes) (heard.Copied (Ok entry)) grown is = stored_still ds es grown entry is
  stored_heard ds es (Dm sid (Seal t h segment entry)) told grown is = stored_still ds es grown entry is
  stored_heard ds es asked told grown is = tt

  pub stored_still_if : (ds es : List M) (m : Option Migrating) → HaveGrown g ds es → IfSome m (λ (x : Migrating). HearsStored g ds x.machine.asked (told_next x.next)) → IfSome m (λ (x : Migrating). HearsStored g es x.machine.asked (told_next x.next))
  stored_still_if ds es None grown is = tt
  stored_still_if ds es (Some m) grown is = stored_heard ds es m.machine.asked (told_next m.next) grown is

  -- ---- an entry more

  lost_more : (opened ds : List M) (marks : List Mark) (m : Mark) (entry : StubEntry) → m.by ≢ Some Recall → IsLost g opened ds marks entry → IsLost g opened ds (marks ++ m ∷ []) entry
  lost_more opened ds marks m entry other lost = record {
    first = lost.first;
    since = lost.since ++ m ∷ [];
    parted = ap (λ (l : List Mark). l ++ m ∷ []) lost.parted ∙ append_assoc lost.first lost.since (m ∷ []);
    others = all_and (λ (x : Mark). x.by ≢ Some Recall) lost.since m lost.others other;
    unnamed = lost.unnamed;
    lacked = lost.lacked;
  }

  lost_heard_more : (opened ds : List M) (marks : List Mark) (m : Mark) (asked : Act) (told : Heard) → m.by ≢ Some Recall → HearsLost g opened ds marks asked told → HearsLost g opened ds (marks ++ m ∷ []) asked told
  lost_heard_more opened ds marks m (Fetch entry) (heard.Fetched (Err (fetching.NoObject volume object))) other is = lost_more opened ds marks m entry other is
  lost_heard_more opened ds marks m asked told other is = tt

  pub lost_more_if : (opened ds : List M) (marks : List Mark) (m : Mark) (r : Option Recalling) → m.by ≢ Some Recall → IfSome r (λ (x : Recalling). HearsLost g opened ds marks x.machine.asked (told_next x.next)) → IfSome r (λ (x : Recalling). HearsLost g opened ds (marks ++ m ∷ []) x.machine.asked (told_next x.next))
  lost_more_if opened ds marks m None other is = tt
  lost_more_if opened ds marks m (Some r) other is = lost_heard_more opened ds marks m r.machine.asked (told_next r.next) other is

  -- where the entry is an answer that there is no such object, it is right
  abbrev pub AbortIsRight : (opened ds : List M) → Numbers → List Mark → Mark → Type 0
  AbortIsRight opened ds limits marks m = (sid : Sid) (t : Token) (reply : DmReply) → made Recall sid (Respond t (Abort 2)) reply ≡ m → NeedsLost g opened ds (shown limits nothing_shown marks).recall marks

  -- so it is where that is for a damaged one
  abbrev pub DamageIsRight : List M → List Mark → Mark → Type 0
  DamageIsRight ds marks m = (sid : Sid) (t : Token) (volume object : ℕ) (want got : Fingerprint) (reply : DmReply) → made Recall sid (Respond t (Media (Damaged volume object want got))) reply ≡ m → (o : Objects) → Gives g ds volume o → IsUnsealed (sealed_in marks) volume object want

  module _ (opened ds : List M) (limits : Numbers) (marks : List Mark) (tallies : Tallies g opened ds limits marks) where
    module _ (m : Mark) where
      aborts_more : AbortIsRight opened ds limits marks m → AbortsAreRight g opened ds limits (marks ++ m ∷ [])
      aborts_more right before sid t reply rest is = by (place marks m before (made Recall sid (Respond t (Abort 2)) reply) rest is)
        where
          by : Place marks m before (made Recall sid (Respond t (Abort 2)) reply) rest → NeedsLost g opened ds (shown limits nothing_shown before).recall before
          by (inl last) = subst (λ (l : List Mark). NeedsLost g opened ds (shown limits nothing_shown l).recall l) (sym last.0) (right sid t reply last.1)
          by (inr within) = tallies.aborts before sid t reply within.0 within.2

      damages_more : DamageIsRight ds marks m → DamagesAreRight g ds (marks ++ m ∷ [])
      damages_more right before sid t volume object want got reply rest is o gives = by (place marks m before (made Recall sid (Respond t (Media (Damaged volume object want got))) reply) rest is)
        where
          by : Place marks m before (made Recall sid (Respond t (Media (Damaged volume object want got))) reply) rest → IsUnsealed (sealed_in before) volume object want
          by (inl last) = subst (λ (l : List Mark). IsUnsealed (sealed_in l) volume object want) (sym last.0) (right sid t volume object want got reply last.1 o gives)
          by (inr within) = tallies.damages before sid t volume object want got reply within.0 within.2 o gives

      pub tallies_more : IfSome (seal_by m.by m.entry.action) (IsStored g ds) → AbortIsRight opened ds limits marks m → DamageIsRight ds marks m → Tallies g opened ds limits (marks ++ m ∷ [])
      tallies_more stored abort damage = record {
        grown = tallies.grown;
        stored = all_sealed_more (IsStored g ds) marks m tallies.stored stored;
        aborts = aborts_more abort;
        damages = damages_more damage;
      }

      -- an entry that recall didn't make
      by_recall : (sid : Sid) (asked : DmCall) (reply : DmReply) → made Recall sid asked reply ≡ m → m.by ≡ Some Recall
      by_recall sid asked reply is = sym (ap (λ (x : Mark). x.by) is)

      pub tallies_by_other : m.by ≢ Some Recall → IfSome (seal_by m.by m.entry.action) (IsStored g ds) → Tallies g opened ds limits (marks ++ m ∷ [])
      tallies_by_other other stored = tallies_more stored
          (λ sid t reply is. absurd (other (by_recall sid (Respond t (Abort 2)) reply is)))
          (λ sid t volume object want got reply is. absurd (other (by_recall sid (Respond t (Media (Damaged volume object want got))) reply is)))

    -- ---- a damaged object

    -- What is stored isn't damaged, where the volume's objects are told.
    pub damage_unsealed : (volume object : ℕ) (want got : Fingerprint) → IsTrue g ds (Damaged volume object want got) → (o : Objects) → Gives g ds volume o → IsUnsealed (sealed_in marks) volume object want
    damage_unsealed volume object want got tells o gives = all_weaker (IsStored g ds) (λ (e : StubEntry). e ≢ entry) (sealed_in marks) unlike tallies.stored
      where
        entry : StubEntry
        entry = entry_at (record { volume = volume; object = object }) want

        unlike : (e : StubEntry) → IsStored g ds e → e ≢ entry
        unlike e stored is =
            let there : IsStored g ds (entry_at (record { volume = volume; object = object }) want) = subst (λ (x : StubEntry). IsStored g ds x) is stored in
            let told : TellsFault g gives.0 (Damaged volume object want got) = subst (λ (x : Option M). IfSome x (λ (d : M). TellsFault g d (Damaged volume object want got))) gives.1 tells in
            let wanted = there.print o gives in
            let found = told.2 o gives.2 in
            told.0 (wanted.1 ∙ sym found.1)

    -- ---- a fetch

    module _ (entry : StubEntry) (d e : M) (at : slice_get ds (drive_of (entry_place entry).volume ds) ≡ Some d) where
      missing_now : ((o : Objects) → g.gives d (entry_place entry).volume o → length o ≤ (entry_place entry).object) → IsLost g opened ds marks entry
      missing_now missing = record {
        first = marks;
        since = [];
        parted = sym (append-nil marks);
        others = tt;
        unnamed = λ o gives. all_weaker (IsStored g ds) (λ (s : StubEntry). entry_place s ≢ entry_place entry) (sealed_in marks) (unlike o gives) tallies.stored;
        lacked = λ o gives.
            let had = gave (entry_place entry).volume opened ds o tallies.grown gives in
            let longer : length o ≡ length had.0 + length had.2.0 = ap (λ (l : Objects). length l) had.2.1 ∙ length-append had.0 had.2.0 in
            (had.0, had.1, omega (arith, longer, short o gives));
      }
        where
          short : (o : Objects) → Gives g ds (entry_place entry).volume o → length o ≤ (entry_place entry).object
          short o gives =
              let both : Some d ≡ Some gives.0 = sym at ∙ gives.1 in
              let same : gives.0 ≡ d = cc both in
              missing o (subst (λ (x : M). g.gives x (entry_place entry).volume o) same gives.2)

          unlike : (o : Objects) → Gives g ds (entry_place entry).volume o → (s : StubEntry) → IsStored g ds s → entry_place s ≢ entry_place entry
          unlike o gives s stored same =
              let has = stored.print o (subst (λ (p : MediaPlace). Gives g ds p.volume o) (sym same) gives) in
              omega (arith, has.0, ap (λ (p : MediaPlace). p.object) same, short o gives)

      pub heard_of_missing : (fetched : Result (List ℕ) FetchRefusal) → FetchesFrom g entry fetched d e → HearsLost g opened (slice_set ds (drive_of (entry_place entry).volume ds) e) marks (Fetch entry) (heard.Fetched fetched)
      heard_of_missing (Err (fetching.NoObject volume object)) fetches = lost_still opened ds (slice_set ds (drive_of (entry_place entry).volume ds) e) marks entry (grown_at g (drive_of (entry_place entry).volume ds) ds d e at (reads_grow g d e fetches.1)) (missing_now fetches.0.2)
      heard_of_missing fetched fetches = tt

  -- ---- a copy

  module _ (ds : List M) (volume segment : ℕ) (handle : Handle) (bytes : List ℕ) (d e : M) (at : slice_get ds (drive_of volume ds) ≡ Some d) where
    abbrev pub left : List M
    left = slice_set ds (drive_of volume ds) e

    stored_now : (entry : StubEntry) → Copied g volume handle segment bytes d e entry → g.has e volume ≡ g.has d volume → IsStored g left entry
    stored_now entry copied has = record {
      there = (e, there, ap (λ (v : ℕ). g.has e v) copied.on ∙ has ∙ copied.room.there);
      print = λ o gives.
          let both : Some e ≡ Some gives.0 = sym there ∙ gives.1 in
          let same : gives.0 ≡ e = cc both in
          let given : g.gives e volume o = subst (λ (v : ℕ). g.gives e v o) copied.on (subst (λ (x : M). g.gives x (entry_place entry).volume o) same gives.2) in
          let had = copied.given o given in
          let number : (entry_place entry).object ≡ length had.0 = copied.number had.0 had.1 in
          let object : List ℕ = had.2.0 in
          let is : o ≡ had.0 ++ object ∷ [] = had.2.1 in
          let longer : length o ≡ length had.0 + 1 = ap (λ (l : Objects). length l) is ∙ length-append had.0 (object ∷ []) in
          let last : get_or o (entry_place entry).object [] ≡ object = ap (λ (l : Objects). get_or l (entry_place entry).object []) is ∙ ap (λ (n : ℕ). get_or (had.0 ++ object ∷ []) n []) number ∙ get_or-append_seam had.0 object [] [] in
          (omega (arith, longer, number), copied.print ∙ had.2.2 ∙ ap (λ (l : List ℕ). print_of (drop 72 l)) (sym last));
      lasts = λ o gives.
          let both : Some e ≡ Some gives.0 = sym there ∙ gives.1 in
          let same : gives.0 ≡ e = cc both in
          let given : g.gives e volume o = subst (λ (v : ℕ). g.gives e v o) copied.on (subst (λ (x : M). g.gives x (entry_place entry).volume o) same gives.2) in
          subst (λ (x : M). (entry_place entry).object < g.lasting x (entry_place entry).volume) (sym same) (subst (λ (v : ℕ). (entry_place entry).object < g.lasting e v) (sym copied.on) (copied.lasts o given));
    }
      where
        same_count : length left ≡ length ds
        same_count = length-set ds (drive_of volume ds) e

        number_now : drive_of (entry_place entry).volume left ≡ drive_of volume ds
        number_now = ap (λ (n : ℕ). (entry_place entry).volume % n) same_count ∙ ap (λ (v : ℕ). v % length ds) copied.on

        there : slice_get left (drive_of (entry_place entry).volume left) ≡ Some e
        there = ap (λ (n : ℕ). slice_get left n) number_now ∙ set_there (drive_of volume ds) ds d e at

    pub heard_of_copy : (copied : Result StubEntry CopyRefusal) → CopiesTo g volume handle segment bytes copied d e → HearsStored g left (Copy volume handle segment bytes) (heard.Copied copied)
    heard_of_copy (Ok entry) copies = stored_now entry copies.0 (copies.1.volumes.has volume)
    heard_of_copy (Err why) copies = tt

  -- ---- a volume of which one list is told

  pub lacks : (drives : List M) (entry : StubEntry) → ((x y : Objects) → Gives g drives (entry_place entry).volume x → Gives g drives (entry_place entry).volume y → x ≡ y) → MayLack g drives entry → (o : Objects) → Gives g drives (entry_place entry).volume o → length o ≤ (entry_place entry).object
  lacks drives entry one lack o gives = subst (λ (x : Objects). length x ≤ (entry_place entry).object) (one lack.0 o lack.1 gives) lack.2

  -- ---- drives of a sure type

  module _ (law : (d : M) (v : ℕ) → g.has d v ≡ true → (o : Objects) × g.gives d v o) (ds : List M) (x : StubEntry) where
    -- a volume with what is stored tells its objects
    none_is : (xs : List StubEntry) → AllByRecursion (IsStored g ds) xs → ((o : Objects) → Gives g ds (entry_place x).volume o → AllByRecursion (λ (e : StubEntry). e ≢ x) xs) → AllByRecursion (λ (e : StubEntry). e ≢ x) xs
    none_is [] each told = tt
    none_is (e ∷ xs) each told = (unlike, none_is xs each.1 (λ o gives. (told o gives).1))
      where
        unlike : e ≢ x
        unlike is =
            let there : IsThere g ds (entry_place x).volume = subst (λ (s : StubEntry). IsThere g ds (entry_place s).volume) is each.0.there in
            let tells = law there.0 (entry_place x).volume there.2 in
            (told tells.0 (there.0, there.1, tells.1)).0 is

  pub seals_are_whole : (g.sure ≡ true → (d : M) (v : ℕ) → g.has d v ≡ true → (o : Objects) × g.gives d v o) → (opened ds : List M) (limits : Numbers) (marks : List Mark) → Tallies g opened ds limits marks → SealsAreWhole g marks
  seals_are_whole law opened ds limits marks tallies sure before sid t volume object want got reply rest is =
      none_is (law sure) ds (entry_at (record { volume = volume; object = object }) want) (sealed_in before)
      (all_sealed_before (IsStored g ds) marks before (made Recall sid (Respond t (Media (Damaged volume object want got))) reply) rest is tallies.stored)
      (tallies.damages before sid t volume object want got reply rest is)
