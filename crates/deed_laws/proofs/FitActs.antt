-- What migration gives in a pass is fit for it, by the exchanges since its table: one more with each act.
use Rattle.std.proofs.Common.{◌≡◌, ◌≢◌, ◌∙◌, ◌⊎◌, ◌*◌, ◌+◌, ◌<◌, ◌∷◌, ◌++◌, [], ℕ, true, false, List, None, Some, Ok, Contains, inl, inr, refl, sym, ap, ap₂, subst, append_assoc, arith}
use Rattle.std.specs.Prelude.{slice_get}
use Rattle.std.proofs.lemmas.List.Elements.{All-nil, All-push, Contains-append_left}
use Rattle.std.proofs.lemmas.Option.{slice_get_within, get_or_from_slice_get}
use Rattle.hsm_types.specs.Limits.{segment_bytes}
use Rattle.hsm_types.specs.Messages.{no_token}
use Rattle.hsm_types.specs.Regions.{covers}
use Rattle.hsm_types.specs.declared.daemons.Act.{Act}
use Rattle.hsm_types.specs.declared.daemons.Act.TheVariants.{Dm, Copy}
use Rattle.hsm_types.specs.declared.daemons.Heard.{Heard}
use Rattle.hsm_types.specs.declared.daemons.Heard.TheVariants as heard
use Rattle.hsm_types.specs.declared.dm.DmCall.TheVariants.{GetRegion, SetRegion, ReadInvis, Seal, PunchHole}
use Rattle.hsm_types.specs.declared.dm.DmReply.TheVariants as reply
use Rattle.hsm_types.specs.declared.keys.Handle.{Handle}
use Rattle.hsm_types.specs.declared.keys.Sid.{Sid}
use Rattle.hsm_types.specs.declared.stubs.StubEntry.{StubEntry}
use Rattle.hsm_policy.specs.Settings.{Numbers}
use Rattle.hsm_policy.specs.declared.picking.Picked.{Picked}
use Rattle.migrate_daemon.specs.Known.{Known}
use Rattle.migrate_daemon.specs.Machine.{IsOfPass, IsCovered, MaySetRegions, MayRead, MaySeal, MayPunch, MayGive}
use Rattle.migrate_daemon.specs.Passes.{Exchange, Pass, IsCallOf, IsCopy, start_of, asks_regions, sets_regions, reads, seals, punches, copies}
use Rattle.marked_history.proofs.Lists.{stands_in}
use Rattle.deed_laws.specs.Passes.{exchange, EndsWith, IsCoveredIn, IsOfCopy, IsSealedIn, AreFullBelow, IsFit}

got : {A : Type 0} (xs : List A) (n : ℕ) (x : A) → slice_get xs n ≡ Some x → Contains xs x
got xs n x is = (n, slice_get_within xs n x is, get_or_from_slice_get xs n x x is)

pub ends_there : (talk : List Exchange) (x : Exchange) → EndsWith talk x → Contains talk x
ends_there talk x ends = subst (λ (l : List Exchange). Contains l x) (sym ends.1) (stands_in ends.0 x [])

-- of the same segment of the same file
covered_as : (talk : List Exchange) (sid : Sid) (p q : Picked) → p.handle ≡ q.handle → p.segment ≡ q.segment → IsCoveredIn talk sid p → IsCoveredIn talk sid q
covered_as talk sid p q handle segment (inl told) =
    inl (told.0, subst (λ (h : Handle). Contains talk (exchange (Dm sid (GetRegion no_token h)) (heard.Dm (reply.Regions told.0)))) handle told.1, subst (λ (n : ℕ). covers told.0 n ≡ true) segment told.2)
covered_as talk sid p q handle segment (inr set) = inr (subst (λ (h : Handle). Contains talk (exchange (sets_regions sid (record p { handle = h })) (heard.Dm reply.Done))) handle set)

-- ---- one exchange more, where what was asked is of the pass

module _ (volumes : ℕ) (picks : List Picked) (old talk : List Exchange) (sid : Sid) (asked : Act) (told : Heard) (more : IsOfPass asked → talk ≡ old ++ exchange asked told ∷ []) (fit : IsFit volumes picks old sid asked) where
  fit_as : (act : Act) → asked ≡ act → IsFit volumes picks old sid act
  fit_as act is = subst (λ (a : Act). IsFit volumes picks old sid a) is fit

  ends_so : (act : Act) (so : Heard) → IsOfPass act → asked ≡ act → told ≡ so → EndsWith talk (exchange act so)
  ends_so act so of is tells = (old, more (subst IsOfPass (sym is) of) ∙ ap (λ (x : Exchange). old ++ x ∷ []) (ap₂ (λ (a : Act) (h : Heard). exchange a h) is tells))

  heard_there : (act : Act) (so : Heard) → IsOfPass act → asked ≡ act → told ≡ so → Contains talk (exchange act so)
  heard_there act so of is tells = ends_there talk (exchange act so) (ends_so act so of is tells)

  module _ (of : IsOfPass asked) where
    there : (x : Exchange) → Contains old x → Contains talk x
    there x was = subst (λ (l : List Exchange). Contains l x) (sym (more of)) (Contains-append_left old (exchange asked told ∷ []) x was)

    covered_longer : (p : Picked) → IsCoveredIn old sid p → IsCoveredIn talk sid p
    covered_longer p (inl by) = inl (by.0, there _ by.1, by.2)
    covered_longer p (inr by) = inr (there _ by)

    sealed_longer : (p : Picked) → IsSealedIn old sid p → IsSealedIn talk sid p
    sealed_longer p (inl by) = inl by
    sealed_longer p (inr by) = inr (by.0, there _ by.1)

    copy_longer : (p : Picked) (entry : StubEntry) → asked ≡ seals sid p entry → IsOfCopy old sid p entry → IsOfCopy talk sid p entry
    copy_longer p entry is copy = record {
      first = copy.first;
      volume = copy.volume;
      bytes = copy.bytes;
      since = copy.since ++ exchange asked told ∷ [];
      parted = more of ∙ ap (λ (l : List Exchange). l ++ exchange asked told ∷ []) copy.parted ∙ append_assoc copy.first (exchange (copies p copy.volume copy.bytes) (heard.Copied (Ok entry)) ∷ copy.since) (exchange asked told ∷ []);
      again = All-push (λ (x : Exchange). x.asked ≡ seals sid p entry) copy.since (exchange asked told) copy.again is;
    }

  -- ---- what is known of a segment

  covered_by : (p : Picked) → IsCovered sid p asked told → IsCoveredIn talk sid p
  covered_by p (inl by) = inl (by.0, heard_there (asks_regions sid p) (heard.Dm (reply.Regions by.0)) tt by.1 by.2, by.3)
  covered_by p (inr by) = inr (heard_there (sets_regions sid p) (heard.Dm reply.Done) tt by.0 by.1)

  covered_read : (p : Picked) → asked ≡ reads sid p → IsCoveredIn talk sid p
  covered_read p is =
      let was = fit_as (reads sid p) is in
      let both : Dm sid (ReadInvis no_token p.handle (start_of p) segment_bytes) ≡ Dm sid (ReadInvis no_token was.0.handle (start_of was.0) segment_bytes) = was.2 in
      let handle : was.0.handle ≡ p.handle = cc both in
      let start : segment_bytes * was.0.segment ≡ segment_bytes * p.segment = cc both in
      covered_longer (subst IsOfPass (sym is) tt) p (covered_as old sid was.0 p handle (omega (arith, start)) was.4)

  covered_copy : (p : Picked) (volume : ℕ) → IsCopy p volume asked → IsCoveredIn talk sid p
  covered_copy p volume is =
      let was = fit_as (copies p volume is.0) is.1 in
      let both : Copy volume p.handle p.segment is.0 ≡ Copy volume was.0.handle was.0.segment is.0 = was.2 in
      let handle : was.0.handle ≡ p.handle = cc both in
      let segment : was.0.segment ≡ p.segment = cc both in
      covered_longer (subst IsOfPass (sym is.1) tt) p (covered_as old sid was.0 p handle segment was.4)

  covered_seal : (p : Picked) (entry : StubEntry) → asked ≡ seals sid p entry → IsCoveredIn talk sid p
  covered_seal p entry is =
      let was = fit_as (seals sid p entry) is in
      let both : Dm sid (Seal no_token p.handle p.segment entry) ≡ Dm sid (Seal no_token was.0.handle was.0.segment entry) = was.2 in
      let handle : was.0.handle ≡ p.handle = cc both in
      let segment : was.0.segment ≡ p.segment = cc both in
      covered_longer (subst IsOfPass (sym is) tt) p (covered_as old sid was.0 p handle segment was.4)

  of_copy : (p : Picked) (volume : ℕ) (bytes : List ℕ) (entry : StubEntry) → asked ≡ copies p volume bytes → told ≡ heard.Copied (Ok entry) → IsOfCopy talk sid p entry
  of_copy p volume bytes entry is tells =
      let ends = ends_so (copies p volume bytes) (heard.Copied (Ok entry)) tt is tells in
      record { first = ends.0; volume = volume; bytes = bytes; since = []; parted = ends.1; again = All-nil (λ (x : Exchange). x.asked ≡ seals sid p entry) }

  -- ---- what may come next

  module _ (p : Picked) (picked : Contains picks p) where
    may_set : MaySetRegions volumes sid p asked told → IsFit volumes picks talk sid (sets_regions sid p)
    may_set (inl bare) = (p, picked, refl, (bare.0, heard_there (asks_regions sid p) (heard.Dm (reply.Regions bare.0)) tt bare.1 bare.2, bare.3))
    may_set (inr again) = let was = fit_as (sets_regions sid p) again.0 in (was.0, was.1, was.2, (was.3.0, there (subst IsOfPass (sym again.0) tt) _ was.3.1, was.3.2))

    may_read : p.sealed ≡ false → MayRead volumes sid p asked told → IsFit volumes picks talk sid (reads sid p)
    may_read bare (inl covered) = (p, picked, refl, bare, covered_by p covered)
    may_read bare (inr (inl again)) = (p, picked, refl, bare, covered_copy p again.0.0 again.0.1)
    may_read bare (inr (inr again)) = (p, picked, refl, bare, covered_read p again.0)

    may_seal : (entry : StubEntry) → p.sealed ≡ false → MaySeal volumes sid p entry asked told → IsFit volumes picks talk sid (seals sid p entry)
    may_seal entry bare (inl now) = (p, picked, refl, bare, covered_copy p now.0.0 now.0.1, of_copy p now.0.0 now.0.1.0 entry now.0.1.1 now.1)
    may_seal entry bare (inr again) =
        let was = fit_as (seals sid p entry) again.0 in
        let of : IsOfPass asked = subst IsOfPass (sym again.0) tt in
        (was.0, was.1, was.2, was.3, covered_longer of was.0 was.4, copy_longer of was.0 entry (again.0 ∙ was.2) was.5)

    may_punch : MayPunch volumes sid p asked told → IsFit volumes picks talk sid (punches sid p)
    may_punch (inl was) = (p, picked, refl, covered_by p was.1, inl was.0)
    may_punch (inr (inl now)) = (p, picked, refl, covered_seal p now.0.0 now.0.1, inr (now.0.0, heard_there (seals sid p now.0.0) (heard.Dm reply.Done) tt now.0.1 now.1))
    may_punch (inr (inr again)) =
        let was = fit_as (punches sid p) again.0 in
        let of : IsOfPass asked = subst IsOfPass (sym again.0) tt in
        (was.0, was.1, was.2, covered_longer of was.0 was.3, sealed_longer of was.0 was.4)

    -- of the bytes just read
    may_copy : (volume : ℕ) (bytes : List ℕ) → p.sealed ≡ false → asked ≡ reads sid p → told ≡ heard.Dm (reply.Data bytes) → bytes ≢ [] → volume < volumes → AreFullBelow talk volume → IsFit volumes picks talk sid (copies p volume bytes)
    may_copy volume bytes bare is tells some room full = (p, picked, refl, bare, covered_read p is, ends_so (reads sid p) (heard.Dm (reply.Data bytes)) tt is tells, some, room, full)

-- ---- what it gives

module _ (limits : Numbers) (k : Known) (before new : Pass) (old talk : List Exchange) (asked : Act) (told : Heard) (more : IsOfPass asked → talk ≡ old ++ exchange asked told ∷ []) (fit : IsFit limits.volumes new.picks old new.sid asked)
    (full : AreFullBelow talk new.volume) where
  given_as : (act given : Act) → given ≡ act → IsFit limits.volumes new.picks talk new.sid act → IsFit limits.volumes new.picks talk new.sid given
  given_as act given is so = subst (λ (a : Act). IsFit limits.volumes new.picks talk new.sid a) (sym is) so

  pub gives_fit : (act : Act) → MayGive limits k before new asked told act → IsFit limits.volumes new.picks talk new.sid act
  gives_fit (Dm s (GetRegion t h)) may = (may.0, got new.picks new.at may.0 may.1.pick, may.2.0)
  gives_fit (Dm s (SetRegion t h regions)) may = given_as (sets_regions new.sid may.0) (Dm s (SetRegion t h regions)) may.2.0 (may_set limits.volumes new.picks old talk new.sid asked told more fit may.0 (got new.picks new.at may.0 may.1.pick) may.2.1)
  gives_fit (Dm s (ReadInvis t h offset len)) may = given_as (reads new.sid may.0) (Dm s (ReadInvis t h offset len)) may.2.0 (may_read limits.volumes new.picks old talk new.sid asked told more fit may.0 (got new.picks new.at may.0 may.1.pick) may.2.1 may.2.2)
  gives_fit (Copy volume h segment bytes) may =
      given_as (copies may.0 new.volume bytes) (Copy volume h segment bytes) may.2.0 (may_copy limits.volumes new.picks old talk new.sid asked told more fit may.0 (got new.picks new.at may.0 may.1.pick) new.volume bytes may.2.1 may.2.2 may.2.3 may.2.4 may.2.6 full)
  gives_fit (Dm s (Seal t h segment entry)) may = given_as (seals new.sid may.0 entry) (Dm s (Seal t h segment entry)) may.2.0 (may_seal limits.volumes new.picks old talk new.sid asked told more fit may.0 (got new.picks new.at may.0 may.1.pick) entry may.2.1 may.2.2)
  gives_fit (Dm s (PunchHole t h offset len)) may = given_as (punches new.sid may.0) (Dm s (PunchHole t h offset len)) may.2.0 (may_punch limits.volumes new.picks old talk new.sid asked told more fit may.0 (got new.picks new.at may.0 may.1.pick) may.2.1)
  gives_fit act may = tt

-- it stands at a pick of a pass that is under way, of which the act is
abbrev pub CallsAt : Pass → Act → Type 0
CallsAt pass asked = (p : Picked) × (slice_get pass.picks pass.at ≡ Some p) × (pass.ended ≡ None) × (IsCallOf pass.sid p asked ⊎ ((volume : ℕ) × IsCopy p volume asked))

pub calls_at : (limits : Numbers) (k : Known) (old new : Pass) (asked : Act) (told : Heard) (act : Act) → IsOfPass act → MayGive limits k old new asked told act → CallsAt new act
calls_at limits k old new asked told (Dm s (GetRegion t h)) of may = (may.0, may.1.pick, may.1.under_way, inl (inl may.2.0))
calls_at limits k old new asked told (Dm s (SetRegion t h regions)) of may = (may.0, may.1.pick, may.1.under_way, inl (inr (inl may.2.0)))
calls_at limits k old new asked told (Dm s (ReadInvis t h offset len)) of may = (may.0, may.1.pick, may.1.under_way, inl (inr (inr (inl may.2.0))))
calls_at limits k old new asked told (Dm s (Seal t h segment entry)) of may = (may.0, may.1.pick, may.1.under_way, inl (inr (inr (inr (inl (entry, may.2.0))))))
calls_at limits k old new asked told (Dm s (PunchHole t h offset len)) of may = (may.0, may.1.pick, may.1.under_way, inl (inr (inr (inr (inr may.2.0)))))
calls_at limits k old new asked told (Copy volume h segment bytes) of may = (may.0, may.1.pick, may.1.under_way, inr (new.volume, (bytes, may.2.0)))
calls_at limits k old new asked told act of may = absurd of
