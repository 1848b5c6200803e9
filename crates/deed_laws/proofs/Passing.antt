-- Behind deeds each act of a pass of migration is within one, and a pass that is over has done with its picks.
use Rattle.std.proofs.Common.{◌≡◌, ◌∙◌, ◌⊎◌, ◌+◌, ◌<◌, ◌≤◌, ◌∷◌, ◌++◌, [], ℕ, All, List, length, Option, None, Some, Err, inl, inr, refl, sym, ap, subst, arith}
use Rattle.std.specs.Prelude.{slice_get, Contains}
use Rattle.std.specs.Option.{option_map, option_or, unwrap_or}
use Rattle.std.proofs.lemmas.Bool.{cases_lt}
use Rattle.std.proofs.lemmas.List.Elements.{All-nil, All-push, All-head, Contains-append_left}
use Rattle.std.proofs.lemmas.Option.{none-some, slice_get_within}
use Rattle.hsm_types.specs.declared.daemons.Act.{Act}
use Rattle.hsm_types.specs.declared.daemons.Act.TheVariants.{Dm, Copy}
use Rattle.hsm_types.specs.declared.daemons.Daemon.TheVariants.{Migrate}
use Rattle.hsm_types.specs.declared.daemons.Heard.{Heard}
use Rattle.hsm_types.specs.declared.daemons.Heard.TheVariants as heard
use Rattle.hsm_types.specs.declared.daemons.Heard.TheVariants.{Nothing}
use Rattle.hsm_types.specs.declared.dm.DmCall.{DmCall}
use Rattle.hsm_types.specs.declared.dm.DmCall.TheVariants.{GetTable, GetRegion, SetRegion, ReadInvis, Seal, PunchHole}
use Rattle.hsm_types.specs.declared.dm.DmRefusal.TheVariants.{NoSession}
use Rattle.hsm_types.specs.declared.dm.DmReply.TheVariants as reply
use Rattle.hsm_types.specs.declared.keys.Handle.{Handle}
use Rattle.hsm_types.specs.declared.keys.Sid.{Sid}
use Rattle.hsm_types.specs.declared.media.CopyRefusal.TheVariants as copying
use Rattle.hsm_types.specs.declared.tables.Table.{Table}
use Rattle.hsm_policy.specs.Picking.{IsPick}
use Rattle.hsm_policy.specs.Settings.{Numbers}
use Rattle.hsm_policy.specs.declared.picking.Picked.{Picked}
use Rattle.migrate_daemon.specs.Known.{Known, knows_by}
use Rattle.migrate_daemon.specs.Machine.{Machine, started, freshened, IsOfPass, Begins as BeginsPass, VolumeStays, Stays, ComesTo, MayGive, StepsOn}
use Rattle.migrate_daemon.specs.Passes.{Exchange, Pass, IsCallOf, IsCopy, IsEnd, IsFull, IsDone, EndsAt, Passed, IsOver, copies, punches, IsSkip, told_since}
use Rattle.migrate_daemon.specs.Shares.{share}
use Rattle.marked_history.proofs.Lists.{Place, place, none_there, none_in}
use Rattle.deeds.specs.Deeds.{Deed, Gives}
use Rattle.deeds.specs.KnownByMoves.{Standing, begins_known, renews_known, asks_known, hears_known, stands_by, stands}
use Rattle.deeds.specs.Leads.{Situation, nothing_done, Leads}
use Rattle.deeds.specs.Lives.{Living, Move, Begins, Ends, Renews, Asks, Learns, Fails, Misses, hearing, life, MovesTo, Lives}
use Rattle.deeds.proofs.Leading.{leads_through}
use Rattle.deeds.proofs.Lists.{all_first, all_rest, same_head}
use Rattle.recall_daemon.specs.Machine as recall
use Rattle.hsm_system.specs.Lives.{recalls, migrates}
use Rattle.deed_laws.specs.Knowing.{known_now}
use Rattle.deed_laws.specs.Passes.{exchange, table_told, exchanges, talk_behind, IsPassOn, AreFullBelow, IsFit, IsWithinPass, IsDoneIn, IsEndedIn, IsPassed, EndsGone, ServedPasses}
use Rattle.deed_laws.proofs.FitActs.{ends_there, gives_fit, CallsAt, calls_at}

-- ---- one exchange more

abbrev IsTable : Act → Heard → Type 0
IsTable (Dm sid GetTable) (heard.Dm (reply.Table table)) = Unit {0}
IsTable asked told = ⊥

is_table : (asked : Act) (told : Heard) (sid : Sid) (table : Table) → exchange asked told ≡ table_told sid table → IsTable asked told
is_table asked told sid table is = subst (λ (x : Exchange). IsTable x.asked x.heard) (sym is) tt

-- a pass begins with the table
record HasBegun (talk : List Exchange) (asked : Act) (told : Heard) : Type 0 where
  sid : Sid
  table : Table
  asks : asked ≡ Dm sid GetTable
  told_it : told_since talk asked told ≡ table_told sid table ∷ []
  begins : (limits : Numbers) (old new : Pass) → ComesTo limits old asked told new → BeginsPass limits sid table new

-- or it goes on
record HasGoneOn (talk : List Exchange) (asked : Act) (told : Heard) : Type 0 where
  none : IsTable asked told → ⊥
  told_it : told_since talk asked told ≡ talk ++ exchange asked told ∷ []
  stays : (limits : Numbers) (old new : Pass) → ComesTo limits old asked told new → Stays limits.volumes old asked told new

begun_or_on : (talk : List Exchange) (asked : Act) (told : Heard) → HasBegun talk asked told ⊎ HasGoneOn talk asked told
begun_or_on talk (Dm sid GetTable) (heard.Dm (reply.Table table)) = inl (record { sid = sid; table = table; asks = refl; told_it = refl; begins = λ limits old new comes. comes })
begun_or_on talk asked told = inr (record { none = λ is. is; told_it = refl; stays = λ limits old new comes. comes })

abbrev IsOne : Exchange → Type 0
IsOne x = IsOfPass x.asked

-- a longer pass was one before
on_before : (talk : List Exchange) (asked : Act) (told : Heard) (sid : Sid) (table : Table) → HasGoneOn talk asked told → IsPassOn sid table (told_since talk asked told) → IsPassOn sid table talk × IsOfPass asked
on_before talk asked told sid table goes on = by (place talk (exchange asked told) [] (table_told sid table) on.0 (sym goes.told_it ∙ on.1))
  where
    by : Place talk (exchange asked told) [] (table_told sid table) on.0 → IsPassOn sid table talk × IsOfPass asked
    by (inl last) = absurd (goes.none (is_table asked told sid table (sym last.1)))
    by (inr within) =
        let all : All IsOne (within.0 ++ exchange asked told ∷ []) = subst (All IsOne) within.1 on.2 in
        ((within.0, within.2, all_first IsOne within.0 (exchange asked told ∷ []) all), All-head IsOne (exchange asked told) [] (all_rest IsOne within.0 (exchange asked told ∷ []) all))

of_pass_or_not : (act : Act) → IsOfPass act ⊎ (IsOfPass act → ⊥)
of_pass_or_not (Dm s (GetRegion t h)) = inl tt
of_pass_or_not (Dm s (SetRegion t h regions)) = inl tt
of_pass_or_not (Dm s (ReadInvis t h offset len)) = inl tt
of_pass_or_not (Dm s (Seal t h segment entry)) = inl tt
of_pass_or_not (Dm s (PunchHole t h offset len)) = inl tt
of_pass_or_not (Copy volume h segment bytes) = inl tt
of_pass_or_not act = inr (λ is. is)

-- ---- how a pass stands

-- where it was ended, that was at a segment up to which all were done
abbrev IsEndedAt : ℕ → List Exchange → Sid → Pass → Type 0
IsEndedAt volumes talk sid pass = (at : ℕ) × (p : Picked) × (at ≤ pass.at) × (slice_get pass.picks at ≡ Some p) × IsEndedIn volumes talk sid p

-- it began with that table, and has come to what it is by those exchanges
record IsPassOf (limits : Numbers) (sid : Sid) (table : Table) (talk : List Exchange) (pass : Pass) : Type 0 where
  session : pass.sid ≡ sid
  pick : IsPick table (share limits.low table.total) pass.picks
  ended : (told : Heard) → pass.ended ≡ Some told → IsEndedAt limits.volumes talk sid pass
  full : AreFullBelow talk pass.volume

-- Where migration gives an act of a pass there is one, which stands at a segment; elsewhere the last one is over.
record Stands (limits : Numbers) (talk : List Exchange) (m : Machine) : Type 0 where
  counts : m.limits ≡ limits
  passed : Passed limits.volumes talk m.pass
  on : (sid : Sid) (table : Table) → IsPassOn sid table talk → IsPassOf limits sid table talk m.pass × IsFit limits.volumes m.pass.picks talk sid m.asked
  at : IsOfPass m.asked → CallsAt m.pass m.asked
  opened : IsOfPass m.asked → (sid : Sid) × (table : Table) × IsPassOn sid table talk
  over : (IsOfPass m.asked → ⊥) → IsOver m.pass

no_pass_on : (sid : Sid) (table : Table) → IsPassOn sid table [] → ⊥
no_pass_on sid table on = none_there [] (table_told sid table) on.0 on.1

started_stands : (limits : Numbers) → Stands limits [] (started limits)
started_stands limits = record {
  counts = refl;
  passed = record { done = λ k p below is. absurd (omega (arith, below)); listed = λ s has. absurd (none_in s has); ended = tt };
  on = λ sid table on. absurd (no_pass_on sid table on);
  at = λ of. absurd of;
  opened = λ of. absurd of;
  over = λ none. inl refl;
}

-- one that is over doesn't go on
over_stays : (volumes : ℕ) (old : Pass) (asked : Act) (told : Heard) (new : Pass) (act : Act) → Stays volumes old asked told new → IsOver old → CallsAt new act → ⊥
over_stays volumes old asked told new act stays (inl all) at = by stays.on
  where
    below : new.at < length new.picks
    below = slice_get_within new.picks new.at at.0 at.1

    same : length new.picks ≡ length old.picks
    same = ap (λ (l : List Picked). length l) stays.picks

    by : (new.at ≡ old.at) ⊎ (new.at ≡ old.at + 1) → ⊥
    by (inl here) = absurd (omega (arith, below, same, all, here))
    by (inr next) = absurd (omega (arith, below, same, all, next))
over_stays volumes old asked told new act stays (inr early) at = by stays.ended
  where
    by : ((new.ended ≡ old.ended) × (EndsAt volumes old asked told → ⊥)) ⊎ ((old.ended ≡ None) × (new.ended ≡ Some told) × EndsAt volumes old asked told) → ⊥
    by (inl still) = none-some early.0 (sym at.2 ∙ still.0 ∙ early.1)
    by (inr now) = none-some told (sym at.2 ∙ now.1)

-- ---- a pass begins

begins_pass_of : (limits : Numbers) (sid : Sid) (table : Table) (new : Pass) → BeginsPass limits sid table new → IsPassOf limits sid table (table_told sid table ∷ []) new
begins_pass_of limits sid table new begins = record {
  session = ap (λ (p : Pass). p.sid) begins.2;
  pick = subst (λ (p : Pass). IsPick table (share limits.low table.total) p.picks) (sym begins.2) begins.1;
  ended = λ told is. absurd (none-some told (sym (ap (λ (p : Pass). p.ended) begins.2) ∙ is));
  full = λ v below. let none : new.volume ≡ 0 = ap (λ (p : Pass). p.volume) begins.2 in absurd (omega (arith, below, none));
}

-- ---- a pass goes on

lower_or_last : (v volume : ℕ) → v < volume + 1 → (v < volume) ⊎ (v ≡ volume)
lower_or_last v volume below = by (cases_lt v volume)
  where
    by : (v < volume) ⊎ (volume ≤ v) → (v < volume) ⊎ (v ≡ volume)
    by (inl lower) = inl lower
    by (inr least) = inr (omega (arith, below, least))

-- only a copy tells that a volume is full
full_copy : (v : ℕ) (asked : Act) (told : Heard) → IsFull v asked told → (h : Handle) × (segment : ℕ) × (bytes : List ℕ) × (asked ≡ Copy v h segment bytes)
full_copy v (Copy w h segment bytes) (heard.Copied (Err (copying.Full used len capacity))) is = (h, segment, bytes, ap (λ (n : ℕ). Copy n h segment bytes) is)
full_copy v (Copy w h segment bytes) (heard.Copied (Err copying.NoVolume)) is = (h, segment, bytes, ap (λ (n : ℕ). Copy n h segment bytes) is)
full_copy v asked told is = absurd is

-- where that ends a pass it is the last volume
end_full : (volumes : ℕ) (sid : Sid) (p : Picked) (v : ℕ) (asked : Act) (told : Heard) → IsEnd volumes sid p asked told → IsFull v asked told → v + 1 ≡ volumes
end_full volumes sid p v (Copy w h segment bytes) (heard.Copied (Err (copying.Full used len capacity))) ends is =
    let both : Copy w h segment bytes ≡ Copy ends.0 p.handle p.segment ends.2.0 = ends.2.1 in
    let same : w ≡ ends.0 = cc both in
    let count = ends.1 in
    omega (arith, count, same, is)
end_full volumes sid p v (Copy w h segment bytes) (heard.Copied (Err copying.NoVolume)) ends is =
    let both : Copy w h segment bytes ≡ Copy ends.0 p.handle p.segment ends.2.0 = ends.2.1 in
    let same : w ≡ ends.0 = cc both in
    let count = ends.1 in
    omega (arith, count, same, is)
end_full volumes sid p v asked told ends is = absurd is

full_longer : (talk : List Exchange) (x : Exchange) (volume : ℕ) → AreFullBelow talk volume → AreFullBelow (talk ++ x ∷ []) volume
full_longer talk x volume full v below = let one = full v below in (one.0, one.1, one.2, Contains-append_left talk (x ∷ []) (exchange one.0 one.1) one.3)

-- one volume more was found full by the last exchange
full_next : (talk : List Exchange) (asked : Act) (told : Heard) (volume : ℕ) → IsFull volume asked told → AreFullBelow talk volume → AreFullBelow (talk ++ exchange asked told ∷ []) (volume + 1)
full_next talk asked told volume is full v below = by (lower_or_last v volume below)
  where
    by : (v < volume) ⊎ (v ≡ volume) → (a : Act) × (h : Heard) × IsFull v a h × Contains (talk ++ exchange asked told ∷ []) (exchange a h)
    by (inl lower) = full_longer talk (exchange asked told) volume full v lower
    by (inr last) = (asked, told, subst (λ (n : ℕ). IsFull n asked told) (sym last) is, ends_there (talk ++ exchange asked told ∷ []) (exchange asked told) (talk, refl))

module _ (limits : Numbers) (sid : Sid) (table : Table) (talk : List Exchange) (old new : Pass) (asked : Act) (told : Heard) (was : IsPassOf limits sid table talk old) (fit : IsFit limits.volumes old.picks talk sid asked)
    (stays : Stays limits.volumes old asked told new) where
  abbrev more : List Exchange
  more = talk ++ exchange asked told ∷ []

  -- a copy goes to a volume below which each was found full
  full_all : (p : Picked) → IsEnd limits.volumes old.sid p asked told → (v : ℕ) → IsFull v asked told → AreFullBelow more limits.volumes
  full_all p ends v is =
      let copy = full_copy v asked told is in
      let below = subst (λ (a : Act). IsFit limits.volumes old.picks talk sid a) copy.3 fit in
      subst (λ (n : ℕ). AreFullBelow more n) (end_full limits.volumes old.sid p v asked told ends is) (full_next talk asked told v is below.8)

  no_less : (new.at ≡ old.at) ⊎ (new.at ≡ old.at + 1) → old.at ≤ new.at
  no_less (inl here) = omega (arith, here)
  no_less (inr next) = omega (arith, next)

  ended_more : (p : Picked) → slice_get old.picks old.at ≡ Some p → IsEnd limits.volumes old.sid p asked told → IsEndedAt limits.volumes more sid new
  ended_more p here ends = (old.at, p, no_less stays.on, ap (λ (picks : List Picked). slice_get picks old.at) stays.picks ∙ here, (asked, told, subst (λ (s : Sid). IsEnd limits.volumes s p asked told) was.session ends, (talk, refl), full_all p ends))

  abbrev EndsOrNot : Type 0
  EndsOrNot = ((new.ended ≡ old.ended) × (EndsAt limits.volumes old asked told → ⊥)) ⊎ ((old.ended ≡ None) × (new.ended ≡ Some told) × EndsAt limits.volumes old asked told)

  ends_on : old.ended ≡ None → EndsOrNot → (so : Heard) → new.ended ≡ Some so → IsEndedAt limits.volumes more sid new
  ends_on under_way (inl still) so is = absurd (none-some so (sym under_way ∙ sym still.0 ∙ is))
  ends_on under_way (inr now) so is = ended_more now.2.0 now.2.1 now.2.2

  full_on : VolumeStays old asked told new → AreFullBelow more new.volume
  full_on (inl same) = subst (λ (n : ℕ). AreFullBelow more n) (sym same.0) (full_longer talk (exchange asked told) old.volume was.full)
  full_on (inr next) = subst (λ (n : ℕ). AreFullBelow more n) (sym next.0) (full_next talk asked told old.volume next.1 was.full)

  goes_pass_of : old.ended ≡ None → IsPassOf limits sid table more new
  goes_pass_of under_way = record {
    session = stays.session ∙ was.session;
    pick = subst (λ (picks : List Picked). IsPick table (share limits.low table.total) picks) (sym stays.picks) was.pick;
    ended = ends_on under_way stays.ended;
    full = full_on stays.volume;
  }

-- ---- the daemon gives an act

module _ (limits : Numbers) (talk : List Exchange) (m : Machine) (told : Heard) (act : Act) (n : Machine) (is : Stands limits talk m) (goes : StepsOn m told act n) where
  abbrev talk_on : List Exchange
  talk_on = told_since talk m.asked told

  abbrev k : Known
  k = knows_by m.limits m.known m.asked told

  comes : ComesTo limits m.pass m.asked told n.pass
  comes = subst (λ (l : Numbers). ComesTo l m.pass m.asked told n.pass) is.counts goes.pass

  may : MayGive limits k m.pass n.pass m.asked told act
  may = subst (λ (l : Numbers). MayGive l k m.pass n.pass m.asked told act) is.counts goes.may

  passed_next : Passed limits.volumes talk_on n.pass
  passed_next = subst (λ (l : Numbers). Passed l.volumes talk m.pass → Passed l.volumes talk_on n.pass) is.counts (goes.passes talk) is.passed

  at_next : IsOfPass act → CallsAt n.pass act
  at_next of = calls_at limits k m.pass n.pass m.asked told act of may

  -- a pass begins
  module _ (begun : HasBegun talk m.asked told) where
    same_table : (sid : Sid) (table : Table) → IsPassOn sid table talk_on → table_told begun.sid begun.table ≡ table_told sid table
    same_table sid table on = same_head (table_told begun.sid begun.table) (table_told sid table) [] on.0 (sym begun.told_it ∙ on.1)

    begun_of : IsPassOf limits begun.sid begun.table talk_on n.pass
    begun_of = subst (λ (l : List Exchange). IsPassOf limits begun.sid begun.table l n.pass) (sym begun.told_it) (begins_pass_of limits begun.sid begun.table n.pass (begun.begins limits m.pass n.pass comes))

    begun_pass_of : (sid : Sid) (table : Table) → IsPassOn sid table talk_on → IsPassOf limits sid table talk_on n.pass
    begun_pass_of sid table on =
        let asks : Dm begun.sid GetTable ≡ Dm sid GetTable = ap (λ (x : Exchange). x.asked) (same_table sid table on) in
        let hears : heard.Dm (reply.Table begun.table) ≡ heard.Dm (reply.Table table) = ap (λ (x : Exchange). x.heard) (same_table sid table on) in
        let sids : begun.sid ≡ sid = cc asks in
        let tables : begun.table ≡ table = cc hears in
        subst (λ (t : Table). IsPassOf limits sid t talk_on n.pass) tables (subst (λ (s : Sid). IsPassOf limits s begun.table talk_on n.pass) sids begun_of)

    not_of_pass : IsOfPass m.asked → ⊥
    not_of_pass of = subst IsOfPass begun.asks of

    begun_fit : AreFullBelow talk_on n.pass.volume → IsFit limits.volumes n.pass.picks talk_on n.pass.sid act
    begun_fit full = gives_fit limits k m.pass n.pass [] talk_on m.asked told (λ of. absurd (not_of_pass of)) (subst (λ (a : Act). IsFit limits.volumes n.pass.picks [] n.pass.sid a) (sym begun.asks) tt) full act may

  -- it goes on
  module _ (on_it : HasGoneOn talk m.asked told) where
    stays : Stays limits.volumes m.pass m.asked told n.pass
    stays = on_it.stays limits m.pass n.pass comes

    gone_pass_of : (sid : Sid) (table : Table) → IsPassOn sid table talk_on → IsPassOf limits sid table talk_on n.pass
    gone_pass_of sid table on =
        let before = on_before talk m.asked told sid table on_it on in
        let here = is.at before.1 in
        let was = is.on sid table before.0 in
        subst (λ (l : List Exchange). IsPassOf limits sid table l n.pass) (sym on_it.told_it) (goes_pass_of limits sid table talk m.pass n.pass m.asked told was.0 was.1 stays here.2)

    gone_fit : (sid : Sid) (table : Table) → IsPassOn sid table talk_on → n.pass.sid ≡ sid → AreFullBelow talk_on n.pass.volume → IsFit limits.volumes n.pass.picks talk_on n.pass.sid act
    gone_fit sid table on session full =
        let before = on_before talk m.asked told sid table on_it on in
        let was : IsFit limits.volumes m.pass.picks talk sid m.asked = (is.on sid table before.0).1 in
        gives_fit limits k m.pass n.pass talk talk_on m.asked told (λ of. on_it.told_it)
        (subst (λ (picks : List Picked). IsFit limits.volumes picks talk n.pass.sid m.asked) (sym stays.picks) (subst (λ (s : Sid). IsFit limits.volumes m.pass.picks talk s m.asked) (sym session) was)) full act may

    gone_opened : IsOfPass act → IsOfPass m.asked ⊎ (IsOfPass m.asked → ⊥) → (sid : Sid) × (table : Table) × IsPassOn sid table talk_on
    gone_opened of (inl asked) =
        let was = is.opened asked in
        let on : IsPassOn was.0 was.1 talk = was.2 in
        (was.0, was.1, (on.0 ++ exchange m.asked told ∷ [], on_it.told_it ∙ ap (λ (l : List Exchange). l ++ exchange m.asked told ∷ []) on.1, All-push IsOne on.0 (exchange m.asked told) on.2 asked))
    gone_opened of (inr none) = absurd (over_stays limits.volumes m.pass m.asked told n.pass act stays (is.over none) (at_next of))

  pass_of : HasBegun talk m.asked told ⊎ HasGoneOn talk m.asked told → (sid : Sid) (table : Table) → IsPassOn sid table talk_on → IsPassOf limits sid table talk_on n.pass
  pass_of (inl begun) sid table on = begun_pass_of begun sid table on
  pass_of (inr on_it) sid table on = gone_pass_of on_it sid table on

  fit_by : HasBegun talk m.asked told ⊎ HasGoneOn talk m.asked told → (sid : Sid) (table : Table) → IsPassOn sid table talk_on → IsPassOf limits sid table talk_on n.pass → IsFit limits.volumes n.pass.picks talk_on n.pass.sid act
  fit_by (inl begun) sid table on pass = begun_fit begun pass.full
  fit_by (inr on_it) sid table on pass = gone_fit on_it sid table on pass.session pass.full

  opened_by : HasBegun talk m.asked told ⊎ HasGoneOn talk m.asked told → IsOfPass act → (sid : Sid) × (table : Table) × IsPassOn sid table talk_on
  opened_by (inl begun) of = (begun.sid, begun.table, ([], begun.told_it, All-nil IsOne))
  opened_by (inr on_it) of = gone_opened on_it of (of_pass_or_not m.asked)

  on_next : (sid : Sid) (table : Table) → IsPassOn sid table talk_on → IsPassOf limits sid table talk_on n.pass × IsFit limits.volumes n.pass.picks talk_on sid n.asked
  on_next sid table on =
      let pass = pass_of (begun_or_on talk m.asked told) sid table on in
      (pass, subst (λ (a : Act). IsFit limits.volumes n.pass.picks talk_on sid a) (sym goes.asked) (subst (λ (s : Sid). IsFit limits.volumes n.pass.picks talk_on s act) pass.session (fit_by (begun_or_on talk m.asked told) sid table on pass)))

  steps : Stands limits talk_on n
  steps = record {
    counts = goes.limits ∙ is.counts;
    passed = passed_next;
    on = on_next;
    at = λ of. subst (λ (a : Act). CallsAt n.pass a) (sym goes.asked) (at_next (subst IsOfPass goes.asked of));
    opened = λ of. opened_by (begun_or_on talk m.asked told) (subst IsOfPass goes.asked of);
    over = λ none. goes.over (λ of. none (subst IsOfPass (sym goes.asked) of));
  }

-- ---- along its life

module _ (limits : Numbers) where
  record Talks (s : Option (Standing (List Exchange))) (r : Living Machine) : Type 0 where
    talk : List Exchange
    known : s ≡ Some (record { known = talk; asked = r.machine.asked; hears = r.hears })
    pass : Stands limits talk r.machine

  abbrev TalksSo : Option (Standing (List Exchange)) → Option (Living Machine) → Type 0
  TalksSo s None = s ≡ None
  TalksSo s (Some r) = Talks s r

  abbrev Talk : Type 0
  Talk = Option (Standing (List Exchange))

  freshened_stands : (talk : List Exchange) (m : Machine) → Stands limits talk m → Stands limits talk (freshened m)
  freshened_stands talk m is = record { counts = is.counts; passed = is.passed; on = is.on; at = is.at; opened = is.opened; over = is.over }

  gave : (s : Talk) (m : Machine) (told : Heard) (act : Act) (n : Machine) → StepsOn m told act n → Talks s (hearing m (Some told)) → Talks (stands_by exchanges s (Asks act)) (hearing n None)
  gave s m told act n goes is = record {
    talk = told_since is.talk m.asked told;
    known = ap (λ (o : Talk). option_map (asks_known exchanges act) o) is.known ∙ ap (λ (a : Act). Some (record { known = told_since is.talk m.asked told; asked = a; hears = None })) (sym goes.asked);
    pass = steps limits is.talk m told act n is.pass goes;
  }

  -- it hears that, and knows no more
  heard_it : (s : Talk) (m : Machine) (before : Option Heard) (told : Heard) → Talks s (hearing m before) → Talks (option_map (hears_known exchanges told) s) (hearing m (Some told))
  heard_it s m before told is = record { talk = is.talk; known = ap (λ (o : Talk). option_map (hears_known exchanges told) o) is.known; pass = is.pass }

  talks_on : (move : Move) (s : Talk) (old new : Option (Living Machine)) → MovesTo (migrates limits) move old new → TalksSo s old → TalksSo (stands_by exchanges s move) new
  talks_on Begins s None new to is = subst (TalksSo (stands_by exchanges s Begins)) (sym to) (record { talk = []; known = ap (λ (o : Talk). option_or o (Some (begins_known exchanges))) is; pass = started_stands limits })
  talks_on Begins s (Some r) new to is = subst (TalksSo (stands_by exchanges s Begins)) (sym to) (record { talk = is.talk; known = ap (λ (o : Talk). option_or o (Some (begins_known exchanges))) is.known; pass = is.pass })
  talks_on Ends s old new to is = subst (TalksSo (stands_by exchanges s Ends)) (sym to) refl
  talks_on Renews s None new to is = subst (TalksSo (stands_by exchanges s Renews)) (sym to) (ap (λ (o : Talk). option_map (renews_known exchanges) o) is)
  talks_on Renews s (Some r) new to is =
      subst (TalksSo (stands_by exchanges s Renews)) (sym to) (record { talk = is.talk; known = ap (λ (o : Talk). option_map (renews_known exchanges) o) is.known; pass = freshened_stands is.talk r.machine is.pass })
  talks_on (Asks act) s old new to is = subst (TalksSo (stands_by exchanges s (Asks act))) (sym to.5) (gave s to.0 to.1 act to.2 to.4 (subst (TalksSo s) to.3 is))
  talks_on (Learns asked told) s old new to is = subst (TalksSo (stands_by exchanges s (Learns asked told))) (sym to.4) (heard_it s to.0 None told (subst (TalksSo s) to.1 is))
  talks_on (Fails sid call) s old new to is = subst (TalksSo (stands_by exchanges s (Fails sid call))) (sym to.3) (heard_it s to.0 None Nothing (subst (TalksSo s) to.1 is))
  talks_on Misses s old new to is = let was : Talks s to.0 = subst (TalksSo s) to.1 is in subst (TalksSo (stands_by exchanges s Misses)) (sym to.2) (heard_it s to.0.machine to.0.hears Nothing was)

  talks : (moves : List Move) (s : Talk) (old new : Option (Living Machine)) → Lives (migrates limits) moves old new → TalksSo s old → TalksSo (stands exchanges moves s) new
  talks [] s old new lived is = subst (TalksSo s) (sym lived) is
  talks (move ∷ moves) s old new lived is = talks moves (stands_by exchanges s move) lived.0 new lived.2 (talks_on move s old lived.0 lived.1 is)

-- ---- what a pass comes to

done_in : (talk : List Exchange) (pass : Pass) (sid : Sid) (p : Picked) → pass.sid ≡ sid → IsDone talk pass p → IsDoneIn talk sid p
done_in talk pass sid p same (inl has) = inl (subst (λ (s : Sid). Contains talk (exchange (punches s p) (heard.Dm reply.Done))) same has)
done_in talk pass sid p same (inr skips) = inr (skips.0, skips.1, subst (λ (s : Sid). IsSkip s p skips.0 skips.1) same skips.3, skips.4)

done_longer : (talk : List Exchange) (x : Exchange) (sid : Sid) (p : Picked) → IsDoneIn talk sid p → IsDoneIn (talk ++ x ∷ []) sid p
done_longer talk x sid p (inl has) = inl (Contains-append_left talk (x ∷ []) _ has)
done_longer talk x sid p (inr skips) = inr (skips.0, skips.1, skips.2, Contains-append_left talk (x ∷ []) _ skips.3)

module _ (limits : Numbers) (sid : Sid) (table : Table) (talk : List Exchange) (m : Machine) (of : IsPassOf limits sid table talk m.pass) (passed : Passed limits.volumes talk m.pass) where
  passed_by : (at : ℕ) → at ≤ m.pass.at → (at ≡ length m.pass.picks) ⊎ ((p : Picked) × (slice_get m.pass.picks at ≡ Some p) × IsEndedIn limits.volumes talk sid p) → IsPassed limits sid table talk
  passed_by at up over = record {
    picks = m.pass.picks;
    pick = of.pick;
    at = at;
    done = λ k p below is. done_in talk m.pass sid p of.session (passed.done k p (omega (arith, up, below)) is);
    over = over;
  }

  passed_over : IsOver m.pass → IsPassed limits sid table talk
  passed_over (inl all) = passed_by m.pass.at (omega arith) (inl all)
  passed_over (inr early) = let ends = of.ended early.0 early.1 in passed_by ends.0 ends.2 (inr (ends.1, ends.3, ends.4))

-- ---- where its session is gone

abbrev gone : Heard
gone = heard.Dm (reply.Refused NoSession)

module _ (limits : Numbers) (sid : Sid) (table : Table) (talk : List Exchange) (m : Machine) (told : Heard) (is : Stands limits talk m) where
  abbrev now : List Exchange
  now = told_since talk m.asked told

  -- a table is no such answer
  begun_never : HasBegun talk m.asked told → EndsGone now → ⊥
  begun_never begun ends = by (place [] (table_told begun.sid begun.table) ends.2.0 (exchange (Dm ends.0 ends.1) gone) [] (sym begun.told_it ∙ ends.2.1))
    where
      by : Place [] (table_told begun.sid begun.table) ends.2.0 (exchange (Dm ends.0 ends.1) gone) [] → ⊥
      by (inl last) = let wrong : gone ≡ heard.Dm (reply.Table begun.table) = ap (λ (x : Exchange). x.heard) last.1 in cc wrong
      by (inr within) = none_there within.0 (table_told begun.sid begun.table) [] within.1

  -- it was heard last, of a call
  abbrev LostNow : Type 0
  LostNow = (s : Sid) × (c : DmCall) × (m.asked ≡ Dm s c) × (told ≡ gone)

  lost_now : HasGoneOn talk m.asked told → EndsGone now → LostNow
  lost_now on_it ends = by (place talk (exchange m.asked told) ends.2.0 (exchange (Dm ends.0 ends.1) gone) [] (sym on_it.told_it ∙ ends.2.1))
    where
      by : Place talk (exchange m.asked told) ends.2.0 (exchange (Dm ends.0 ends.1) gone) [] → LostNow
      by (inl last) = (ends.0, ends.1, ap (λ (x : Exchange). x.asked) (sym last.1), ap (λ (x : Exchange). x.heard) (sym last.1))
      by (inr within) = absurd (none_there within.0 (exchange m.asked told) [] within.1)

  own_call : (p : Picked) (s : Sid) (c : DmCall) → m.asked ≡ Dm s c → IsCallOf m.pass.sid p m.asked ⊎ ((volume : ℕ) × IsCopy p volume m.asked) → IsCallOf m.pass.sid p m.asked
  own_call p s c asks (inl call) = call
  own_call p s c asks (inr copy) = let wrong : copies p copy.0 copy.1.0 ≡ Dm s c = sym copy.1.1 ∙ asks in absurd (cc wrong)

  never_full : (v : ℕ) (s : Sid) (c : DmCall) → m.asked ≡ Dm s c → IsFull v m.asked told → ⊥
  never_full v s c asks full = let copy = full_copy v m.asked told full in let wrong : Copy v copy.0 copy.1 copy.2 ≡ Dm s c = sym copy.3 ∙ asks in cc wrong

  gone_by : HasBegun talk m.asked told ⊎ HasGoneOn talk m.asked told → IsPassOn sid table now → EndsGone now → IsPassed limits sid table now
  gone_by (inl begun) on ends = absurd (begun_never begun ends)
  gone_by (inr on_it) on ends =
      let before = on_before talk m.asked told sid table on_it on in
      let of : IsPassOf limits sid table talk m.pass = (is.on sid table before.0).0 in
      let at : CallsAt m.pass m.asked = is.at before.1 in
      let lost : LostNow = lost_now on_it ends in
      let call : IsCallOf sid at.0 m.asked = subst (λ (s : Sid). IsCallOf s at.0 m.asked) of.session (own_call at.0 lost.0 lost.1 lost.2 at.3) in
      record {
        picks = m.pass.picks;
        pick = of.pick;
        at = m.pass.at;
        done = λ k p below got. subst (λ (l : List Exchange). IsDoneIn l sid p) (sym on_it.told_it) (done_longer talk (exchange m.asked told) sid p (done_in talk m.pass sid p of.session (is.passed.done k p below got)));
        over = inr (at.0, at.1, (m.asked, told, subst (λ (h : Heard). IsEnd limits.volumes sid at.0 m.asked h) (sym lost.3) call, (talk, on_it.told_it), λ v full. absurd (never_full v lost.0 lost.1 lost.2 full)));
      }

-- ---- the law

abbrev talk_now : Option (Standing (List Exchange)) → List Exchange
talk_now s = unwrap_or (option_map (known_now exchanges) s) []

module _ (limits : Numbers) where
  -- where it gives an act, that stands so
  asked_stands : (s : Option (Standing (List Exchange))) (act : Act) (at next : Option (Living Machine)) → TalksSo limits s at → MovesTo (migrates limits) (Asks act) at next → (n : Machine) × (n.asked ≡ act) × Stands limits (talk_now s) n
  asked_stands s act at next is to =
      let was : Talks limits s (hearing to.0 (Some to.1)) = subst (TalksSo limits s) to.3 is in
      (to.2, to.4.asked, subst (λ (l : List Exchange). Stands limits l to.2) (sym (ap talk_now was.known)) (steps limits was.talk to.0 to.1 act to.2 was.pass to.4))

  gone_at : (sid : Sid) (table : Table) (s : Option (Standing (List Exchange))) (at : Option (Living Machine)) → TalksSo limits s at → IsPassOn sid table (talk_now s) → EndsGone (talk_now s) → IsPassed limits sid table (talk_now s)
  gone_at sid table s None none on ends = absurd (no_pass_on sid table (subst (λ (o : Option (Standing (List Exchange))). IsPassOn sid table (talk_now o)) none on))
  gone_at sid table s (Some r) is on ends =
      let same : talk_now s ≡ told_since is.talk r.machine.asked (unwrap_or r.hears Nothing) = ap talk_now is.known in
      subst (IsPassed limits sid table) (sym same) (gone_by limits sid table is.talk r.machine (unwrap_or r.hears Nothing) is.pass (begun_or_on is.talk r.machine.asked (unwrap_or r.hears Nothing)) (subst (IsPassOn sid table) same on) (subst EndsGone same ends))

  abbrev Led : List Deed → Situation recall.Machine Machine → Type 0
  Led deeds end = Leads recalls (migrates limits) deeds nothing_done end

  given_stands : (end : Situation recall.Machine Machine) (before : List Deed) (act : Act) (rest : List Deed) → Led (before ++ Gives Migrate act ∷ rest) end → (n : Machine) × (n.asked ≡ act) × Stands limits (talk_behind before) n
  given_stands end before act rest led =
      let mid = leads_through recalls (migrates limits) before (Gives Migrate act ∷ rest) nothing_done end led in
      asked_stands (stands exchanges (life Migrate before) None) act mid.0.migrate mid.2.migrate.0 (talks limits (life Migrate before) None None mid.0.migrate mid.1.migrate refl) mid.2.migrate.1

  within_by : (talk : List Exchange) (act : Act) (n : Machine) → n.asked ≡ act → Stands limits talk n → IsOfPass act → IsWithinPass limits talk act
  within_by talk act n same is of =
      let opened = is.opened (subst IsOfPass (sym same) of) in
      let on : IsPassOn opened.0 opened.1 talk = opened.2 in
      let here = is.on opened.0 opened.1 on in
      record { sid = opened.0; table = opened.1; picks = n.pass.picks; on = on; pick = here.0.pick; fit = subst (IsFit limits.volumes n.pass.picks talk opened.0) same here.1 }

  over_by : (talk : List Exchange) (act : Act) (n : Machine) (sid : Sid) (table : Table) → n.asked ≡ act → Stands limits talk n → IsPassOn sid table talk → (IsOfPass act → ⊥) → IsPassed limits sid table talk
  over_by talk act n sid table same is on none = passed_over limits sid table talk n (is.on sid table on).0 is.passed (is.over (λ of. none (subst IsOfPass same of)))

  gone_behind : (end : Situation recall.Machine Machine) (before rest : List Deed) (sid : Sid) (table : Table) → Led (before ++ rest) end → IsPassOn sid table (talk_behind before) → EndsGone (talk_behind before) → IsPassed limits sid table (talk_behind before)
  gone_behind end before rest sid table led on ends =
      let mid = leads_through recalls (migrates limits) before rest nothing_done end led in
      gone_at sid table (stands exchanges (life Migrate before) None) mid.0.migrate (talks limits (life Migrate before) None None mid.0.migrate mid.1.migrate refl) on ends

pub all_passed : (limits : Numbers) (deeds : List Deed) → ServedPasses limits deeds
all_passed limits deeds (end, leads) = record {
  within = λ before act rest parted of. let one = given_stands limits end before act rest (led parted) in within_by limits (talk_behind before) act one.0 one.1 one.2 of;
  over = λ before act rest sid table parted on none. let one = given_stands limits end before act rest (led parted) in over_by limits (talk_behind before) act one.0 sid table one.1 one.2 on none;
  gone = λ before rest sid table parted on ends. gone_behind limits end before rest sid table (led parted) on ends;
}
  where
    led : {others : List Deed} → deeds ≡ others → Led limits others end
    led {others = others} parted = subst (λ (ds : List Deed). Led limits ds end) parted leads
