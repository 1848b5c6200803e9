-- With each answer that says something a pass comes nearer to its end.
use Rattle.std.proofs.Common.{◌≡◌, ℕ, zero, suc, ◌+◌, ◌-◌, ◌*◌, ◌<◌, ◌≤◌, ◌⊎◌, List, [], ◌∷◌, length, slice_get, Option, Some, None, Err, ap, sym}
use Rattle.std.proofs.Common.{◌∙◌, inl, inr, subst, arith}
use Rattle.std.proofs.lemmas.Option.{same_Some}
use Rattle.hsm_types.specs.declared.daemons.Act.{Act}
use Rattle.hsm_types.specs.declared.daemons.Act.TheVariants.{Dm, Copy}
use Rattle.hsm_types.specs.declared.daemons.Heard.{Heard}
use Rattle.hsm_types.specs.declared.daemons.Heard.TheVariants as heard
use Rattle.hsm_types.specs.declared.dm.DmCall.TheVariants.{GetTable, GetRegion, SetRegion, ReadInvis, Seal, PunchHole}
use Rattle.hsm_types.specs.declared.dm.DmReply.{DmReply}
use Rattle.hsm_types.specs.declared.dm.DmReply.TheVariants as reply
use Rattle.hsm_types.specs.declared.dm.DmRefusal.TheVariants as why
use Rattle.hsm_types.specs.declared.keys.Sid.{Sid}
use Rattle.hsm_types.specs.declared.media.CopyRefusal.TheVariants as copying
use Rattle.hsm_policy.specs.Settings.{Numbers}
use Rattle.hsm_policy.specs.declared.picking.Picked.{Picked}
use Rattle.migrate_daemon.specs.Known.{Known, knows_by}
use Rattle.migrate_daemon.specs.Passes.{Pass, begun_pass, IsCallOf, IsCopy, IsEnd, IsFull, IsSkip, EndsAt}
use Rattle.migrate_daemon.specs.Machine.{Machine, StepsOn, MayGive, MayPass, MayTake, IsOfPass, IsTable, IsToCopyAgain, SaysNothing, LeadsOn, SkipsAt}
use Rattle.migrate_daemon.specs.Machine.{VolumeStays, Stays, ComesTo}
use Rattle.migrate_daemon.specs.Bounds.{IsPassing, SaysSomething, step_of, acts_left, most_acts}
use Rattle.migrate_daemon.proofs.Turning.{call_of_pass}

-- ---- calls and copies

call_no_copy : (sid : Sid) (p q : Picked) (volume : ℕ) (asked : Act) → IsCallOf sid p asked → IsCopy q volume asked → ⊥
call_no_copy sid p q volume asked (inl is) copy = let other = copy.1 in cc
call_no_copy sid p q volume asked (inr (inl is)) copy = let other = copy.1 in cc
call_no_copy sid p q volume asked (inr (inr (inl is))) copy = let other = copy.1 in cc
call_no_copy sid p q volume asked (inr (inr (inr (inl is)))) copy = let seal = is.1 in let other = copy.1 in cc
call_no_copy sid p q volume asked (inr (inr (inr (inr is)))) copy = let other = copy.1 in cc

skip_is_call : (sid : Sid) (p : Picked) (asked : Act) (answer : DmReply) → IsSkip sid p asked answer → IsCallOf sid p asked
skip_is_call sid p asked (reply.Data bytes) skips = inr (inr (inl skips.1))
skip_is_call sid p asked (reply.Refused why.NoObject) skips = skips
skip_is_call sid p asked (reply.Refused (why.Busy token)) skips = skips
skip_is_call sid p asked (reply.Refused (why.Offline segment)) (inl read) = inr (inr (inl read))
skip_is_call sid p asked (reply.Refused (why.Offline segment)) (inr (inl seal)) = inr (inr (inr (inl seal)))
skip_is_call sid p asked (reply.Refused (why.Offline segment)) (inr (inr punch)) = inr (inr (inr (inr punch)))
skip_is_call sid p asked (reply.Refused why.BadRange) (inl seal) = inr (inr (inr (inl seal)))
skip_is_call sid p asked (reply.Refused why.BadRange) (inr punch) = inr (inr (inr (inr punch)))
skip_is_call sid p asked (reply.Refused (why.Changed want got)) skips = inr (inr (inr (inl skips)))
skip_is_call sid p asked (reply.Refused (why.NotSealed segment)) skips = inr (inr (inr (inr skips)))
skip_is_call sid p asked (reply.Refused (why.Uncovered segment)) skips = inr (inr (inr (inr skips)))
skip_is_call sid p asked answer skips = absurd skips

copy_no_skip : (sid : Sid) (p : Picked) (volume : ℕ) (asked : Act) (told : Heard) → IsCopy p volume asked → SkipsAt sid p asked told → ⊥
copy_no_skip sid p volume asked (heard.Dm answer) copy skips = call_no_copy sid p p volume asked (skip_is_call sid p asked answer skips) copy
copy_no_skip sid p volume asked told copy skips = skips

no_full : (volume : ℕ) (told : Heard) (asked call : Act) → asked ≡ call → (IsFull volume call told → ⊥) → IsFull volume asked told → ⊥
no_full volume told asked call is none full = none (subst (λ (x : Act). IsFull volume x told) is full)

call_no_full : (sid : Sid) (p : Picked) (volume : ℕ) (asked : Act) (told : Heard) → IsCallOf sid p asked → IsFull volume asked told → ⊥
call_no_full sid p volume asked told (inl is) full = no_full volume told asked _ is (λ f. f) full
call_no_full sid p volume asked told (inr (inl is)) full = no_full volume told asked _ is (λ f. f) full
call_no_full sid p volume asked told (inr (inr (inl is))) full = no_full volume told asked _ is (λ f. f) full
call_no_full sid p volume asked told (inr (inr (inr (inl is)))) full = no_full volume told asked _ is.1 (λ f. f) full
call_no_full sid p volume asked told (inr (inr (inr (inr is)))) full = no_full volume told asked _ is (λ f. f) full

-- the pass ends where the last volume is full
full_ends : (volumes : ℕ) (sid : Sid) (p : Picked) (volume : ℕ) (asked : Act) (told : Heard) → volume + 1 ≡ volumes → IsCopy p volume asked → IsFull volume asked told → IsEnd volumes sid p asked told
full_ends volumes sid p volume asked (heard.Copied (Err (copying.Full used len capacity))) last copy full = (volume, last, copy)
full_ends volumes sid p volume asked (heard.Copied (Err copying.NoVolume)) last copy full = (volume, last, copy)
full_ends volumes sid p volume (Copy v h segment bytes) told last copy full = absurd full
full_ends volumes sid p volume asked told last copy full = absurd full

-- ---- what StepsOn says of an act of a pass

of_pass : (sid : Sid) (p : Picked) (volume : ℕ) (asked : Act) → IsCallOf sid p asked ⊎ IsCopy p volume asked → IsOfPass asked
of_pass sid p volume asked (inl call) = call_of_pass sid p asked call
of_pass sid p volume asked (inr copy) = subst (λ (x : Act). IsOfPass x) (sym copy.1) tt

stays : (limits : Numbers) (old : Pass) (asked : Act) (told : Heard) (new : Pass) → IsOfPass asked → ComesTo limits old asked told new → Stays limits.volumes old asked told new
stays limits old (Dm sid (GetRegion t h)) told new of comes = comes
stays limits old (Dm sid (SetRegion t h regions)) told new of comes = comes
stays limits old (Dm sid (ReadInvis t h offset len)) told new of comes = comes
stays limits old (Dm sid (Seal t h segment entry)) told new of comes = comes
stays limits old (Dm sid (PunchHole t h offset len)) told new of comes = comes
stays limits old (Copy volume h segment bytes) told new of comes = comes
stays limits old asked told new of comes = absurd of

may_pass : (limits : Numbers) (k : Known) (old new : Pass) (asked : Act) (told : Heard) (act : Act) → IsOfPass act → MayGive limits k old new asked told act → MayPass limits k old new asked told act
may_pass limits k old new asked told (Dm sid (GetRegion t h)) of may = may
may_pass limits k old new asked told (Dm sid (SetRegion t h regions)) of may = may
may_pass limits k old new asked told (Dm sid (ReadInvis t h offset len)) of may = may
may_pass limits k old new asked told (Dm sid (Seal t h segment entry)) of may = may
may_pass limits k old new asked told (Dm sid (PunchHole t h offset len)) of may = may
may_pass limits k old new asked told (Copy volume h segment bytes) of may = may
may_pass limits k old new asked told act of may = absurd of

on_segment : (volumes : ℕ) (old new : Pass) (p : Picked) (asked : Act) (told : Heard) (act : Act) → MayTake volumes old new p asked told act → IsCallOf new.sid p act ⊎ IsCopy p new.volume act
on_segment volumes old new p asked told (Dm sid (GetRegion t h)) take = inl (inl take.0)
on_segment volumes old new p asked told (Dm sid (SetRegion t h regions)) take = inl (inr (inl take.0))
on_segment volumes old new p asked told (Dm sid (ReadInvis t h offset len)) take = inl (inr (inr (inl take.0)))
on_segment volumes old new p asked told (Dm sid (Seal t h segment entry)) take = inl (inr (inr (inr (inl (entry, take.0)))))
on_segment volumes old new p asked told (Dm sid (PunchHole t h offset len)) take = inl (inr (inr (inr (inr take.0))))
on_segment volumes old new p asked told (Copy volume h segment bytes) take = inr (bytes, take.0)
on_segment volumes old new p asked told act take = absurd take

-- ---- the steps

some_step : (act : Act) → IsOfPass act → 0 < step_of act
some_step (Dm sid (GetRegion t h)) of = omega arith
some_step (Dm sid (SetRegion t h regions)) of = omega arith
some_step (Dm sid (ReadInvis t h offset len)) of = omega arith
some_step (Dm sid (Seal t h segment entry)) of = omega arith
some_step (Dm sid (PunchHole t h offset len)) of = omega arith
some_step (Copy volume h segment bytes) of = omega arith
some_step act of = absurd of

six_steps : (act : Act) → IsOfPass act → step_of act ≤ 6
six_steps (Dm sid (GetRegion t h)) of = omega arith
six_steps (Dm sid (SetRegion t h regions)) of = omega arith
six_steps (Dm sid (ReadInvis t h offset len)) of = omega arith
six_steps (Dm sid (Seal t h segment entry)) of = omega arith
six_steps (Dm sid (PunchHole t h offset len)) of = omega arith
six_steps (Copy volume h segment bytes) of = omega arith
six_steps act of = absurd of

-- a later step, or the one before for the next volume
abbrev Goes : Pass → Act → Pass → Act → Type 0
Goes old asked new act = (step_of asked < step_of act) ⊎ ((new.volume ≡ old.volume + 1) × (step_of asked ≡ step_of act + 1))

before : (asked : Act) (m n : ℕ) → step_of asked ≡ m → m < n → step_of asked < n
before asked m n is less = subst (λ (x : ℕ). x < n) (sym is) less

goes : (volumes : ℕ) (old new : Pass) (p : Picked) (asked : Act) (told : Heard) (act : Act) → new.at ≡ old.at → IsOfPass asked
    → (IsCallOf new.sid p asked → SaysNothing volumes new.sid p asked told → ⊥) → (IsToCopyAgain p asked told → new.volume ≡ old.volume + 1)
    → MayTake volumes old new p asked told act → Goes old asked new act
goes volumes old new p asked told (Dm sid (GetRegion t h)) same of says again (is, inl (inl table)) = absurd (subst (λ (x : Act). IsOfPass x) table.1 of)
goes volumes old new p asked told (Dm sid (GetRegion t h)) same of says again (is, inl (inr next)) = absurd (omega arith)
goes volumes old new p asked told (Dm sid (GetRegion t h)) same of says again (is, inr nothing) = absurd (says (inl nothing.0) nothing.1)
goes volumes old new p asked told (Dm sid (SetRegion t h regions)) same of says again (is, inl bare) = inl (before asked 1 2 (ap step_of bare.1) (omega arith))
goes volumes old new p asked told (Dm sid (SetRegion t h regions)) same of says again (is, inr nothing) = absurd (says (inr (inl nothing.0)) nothing.1)
goes volumes old new p asked told (Dm sid (ReadInvis t h offset len)) same of says again (is, s, inl (inl covered)) = inl (before asked 1 3 (ap step_of covered.1) (omega arith))
goes volumes old new p asked told (Dm sid (ReadInvis t h offset len)) same of says again (is, s, inl (inr set)) = inl (before asked 2 3 (ap step_of set.0) (omega arith))
goes volumes old new p asked told (Dm sid (ReadInvis t h offset len)) same of says again (is, s, inr (inl copy)) = inr (again copy, ap step_of copy.0.1.1)
goes volumes old new p asked told (Dm sid (ReadInvis t h offset len)) same of says again (is, s, inr (inr nothing)) = absurd (says (inr (inr (inl nothing.0))) nothing.1)
goes volumes old new p asked told (Dm sid (Seal t h segment entry)) same of says again (is, s, inl copied) = inl (before asked 4 5 (ap step_of copied.0.1.1) (omega arith))
goes volumes old new p asked told (Dm sid (Seal t h segment entry)) same of says again (is, s, inr nothing) = absurd (says (inr (inr (inr (inl (entry, nothing.0))))) nothing.1)
goes volumes old new p asked told (Dm sid (PunchHole t h offset len)) same of says again (is, inl (s, inl covered)) = inl (before asked 1 6 (ap step_of covered.1) (omega arith))
goes volumes old new p asked told (Dm sid (PunchHole t h offset len)) same of says again (is, inl (s, inr set)) = inl (before asked 2 6 (ap step_of set.0) (omega arith))
goes volumes old new p asked told (Dm sid (PunchHole t h offset len)) same of says again (is, inr (inl sealed)) = inl (before asked 5 6 (ap step_of sealed.0.1) (omega arith))
goes volumes old new p asked told (Dm sid (PunchHole t h offset len)) same of says again (is, inr (inr nothing)) = absurd (says (inr (inr (inr (inr nothing.0)))) nothing.1)
goes volumes old new p asked told (Copy volume h segment bytes) same of says again (is, s, read, t, some, few, room) = inl (before asked 3 4 (ap step_of read) (omega arith))
goes volumes old new p asked told act same of says again take = absurd take

-- ---- the measure

at_next : (n at volumes v w a b : ℕ) → at + 1 < n → a ≤ 6 → 0 < b → v ≤ w → 6 * (n - (at + 1)) + 2 * (volumes - (w + 1)) - b < 6 * (n - at) + 2 * (volumes - (v + 1)) - a
at_next n at volumes v w a b below six some less = grind arith

at_same : (n at volumes v w a b : ℕ) → at < n → b ≤ 6 → v ≤ w → a < b → 6 * (n - at) + 2 * (volumes - (w + 1)) - b < 6 * (n - at) + 2 * (volumes - (v + 1)) - a
at_same n at volumes v w a b below six less later = grind arith

at_volume : (n at volumes v a b : ℕ) → at < n → a ≤ 6 → v + 1 < volumes → a ≡ b + 1 → 6 * (n - at) + 2 * (volumes - (v + 1 + 1)) - b < 6 * (n - at) + 2 * (volumes - (v + 1)) - a
at_volume n at volumes v a b below six room is = grind arith

within : {X : Type 0} (xs : List X) (i : ℕ) (x : X) → slice_get xs i ≡ Some x → i < length xs
within [] i x is = absurd cc
within (y ∷ ys) zero x is = omega arith
within (y ∷ ys) (suc i) x is = let below = within ys i x is in omega arith

-- ---- the law

none_or_some : (told : Heard) (o : Option Heard) → o ≡ None → o ≡ Some told → ⊥
none_or_some told o none some = cc

-- where the pass goes on, no answer ended it
no_end : (volumes : ℕ) (old new : Pass) (asked : Act) (told : Heard) → Stays volumes old asked told new → new.ended ≡ None → EndsAt volumes old asked told → ⊥
no_end volumes old new asked told moves open' ends = elim moves.ended [
  | inl same ↦ same.1 ends
  | inr early ↦ none_or_some told new.ended open' early.1
]

no_less : (volumes : ℕ) (old : Pass) (asked : Act) (told : Heard) (new : Pass) → VolumeStays old asked told new → old.volume ≤ new.volume
no_less volumes old asked told new (inl same) = let is : new.volume ≡ old.volume = same.0 in omega arith
no_less volumes old asked told new (inr next) = let is : new.volume ≡ old.volume + 1 = next.0 in omega arith

-- there is a volume for what it asks next
room : (volumes : ℕ) (old new : Pass) (p : Picked) (asked : Act) (told : Heard) → slice_get old.picks old.at ≡ Some p → IsCallOf old.sid p asked ⊎ IsCopy p old.volume asked → old.volume < volumes
    → (EndsAt volumes old asked told → ⊥) → VolumeStays old asked told new → new.volume < volumes
room volumes old new p asked told at on below none (inl same) = let is : new.volume ≡ old.volume = same.0 in omega arith
room volumes old new p asked told at (inl call) below none (inr next) = absurd (call_no_full old.sid p old.volume asked told call next.1)
room volumes old new p asked told at (inr copy) below none (inr next) =
    let is : new.volume ≡ old.volume + 1 = next.0 in
    let other : old.volume + 1 ≡ volumes → ⊥ = λ last. none (p, at, full_ends volumes old.sid p old.volume asked told last copy next.1) in
    grind arith

-- the act before this one was answered at the same segment
goes_here : (volumes : ℕ) (old new : Pass) (p : Picked) (asked : Act) (told : Heard) (act : Act) → Stays volumes old asked told new → new.at ≡ old.at → slice_get old.picks old.at ≡ Some p
    → IsCallOf old.sid p asked ⊎ IsCopy p old.volume asked → (EndsAt volumes old asked told → ⊥)
    → LeadsOn asked told ⊎ (SkipsAt old.sid p asked told ⊎ (IsEnd volumes old.sid p asked told ⊎ IsFull old.volume asked told)) → MayTake volumes old new p asked told act → Goes old asked new act
goes_here volumes old new p asked told act moves same at on none says take =
    goes volumes old new p asked told act same (of_pass old.sid p old.volume asked on)
    (λ call nothing. elim says [
      | inl leads ↦ nothing.leads leads
      | inr (inl skips) ↦ nothing.skips (subst (λ (s : Sid). SkipsAt s p asked told) (sym moves.session) skips)
      | inr (inr (inl ends)) ↦ none (p, at, ends)
      | inr (inr (inr full)) ↦ call_no_full new.sid p old.volume asked told call full
    ])
    (λ copy. elim says [
      | inl leads ↦ absurd (copy.1 leads)
      | inr (inl skips) ↦ absurd (copy_no_skip old.sid p copy.0.0 asked told copy.0.1 skips)
      | inr (inr (inl ends)) ↦ absurd (none (p, at, ends))
      | inr (inr (inr full)) ↦ elim moves.volume [ inl stay ↦ absurd (stay.1 full) | inr next ↦ next.0 ]
    ])
    take

fewer_here : (old new : Pass) (volumes : ℕ) (asked act : Act) → new.picks ≡ old.picks → new.at ≡ old.at → old.at < length old.picks → old.volume ≤ new.volume → new.volume < volumes → IsOfPass asked → IsOfPass act
    → Goes old asked new act
    → 6 * (length new.picks - new.at) + 2 * (volumes - (new.volume + 1)) - step_of act < 6 * (length old.picks - old.at) + 2 * (volumes - (old.volume + 1)) - step_of asked
fewer_here old new volumes asked act picks same below less room of of' (inl later) =
    rw picks (rw same (at_same (length old.picks) old.at volumes old.volume new.volume (step_of asked) (step_of act) below (six_steps act of') less later))
fewer_here old new volumes asked act picks same below less room of of' (inr next) =
    rw picks (rw same (rw next.0 (at_volume (length old.picks) old.at volumes old.volume (step_of asked) (step_of act) below (six_steps asked of) (subst (λ (v : ℕ). v < volumes) next.0 room) next.1)))

fewer_next : (old new : Pass) (volumes : ℕ) (asked act : Act) → new.picks ≡ old.picks → new.at ≡ old.at + 1 → new.at < length new.picks → old.volume ≤ new.volume → IsOfPass asked → IsOfPass act
    → 6 * (length new.picks - new.at) + 2 * (volumes - (new.volume + 1)) - step_of act < 6 * (length old.picks - old.at) + 2 * (volumes - (old.volume + 1)) - step_of asked
fewer_next old new volumes asked act picks next below less of of' =
    let inside : old.at + 1 < length old.picks = subst (λ (xs : List Picked). old.at + 1 < length xs) picks (subst (λ (i : ℕ). i < length new.picks) next below) in
    rw picks (rw next (at_next (length old.picks) old.at volumes old.volume new.volume (step_of asked) (step_of act) inside (six_steps asked of) (some_step act of') less))

-- over the parts of the two machines
fewer : (volumes : ℕ) (old new : Pass) (p q : Picked) (asked : Act) (told : Heard) (act : Act) → slice_get old.picks old.at ≡ Some p → IsCallOf old.sid p asked ⊎ IsCopy p old.volume asked
    → slice_get new.picks new.at ≡ Some q → new.volume < volumes → (EndsAt volumes old asked told → ⊥) → Stays volumes old asked told new
    → LeadsOn asked told ⊎ (SkipsAt old.sid p asked told ⊎ (IsEnd volumes old.sid p asked told ⊎ IsFull old.volume asked told)) → MayTake volumes old new q asked told act → IsOfPass act
    → 6 * (length new.picks - new.at) + 2 * (volumes - (new.volume + 1)) - step_of act < 6 * (length old.picks - old.at) + 2 * (volumes - (old.volume + 1)) - step_of asked
fewer volumes old new p q asked told act at on at' room none moves says take of' =
    let of : IsOfPass asked = of_pass old.sid p old.volume asked on in
    let less : old.volume ≤ new.volume = no_less volumes old asked told new moves.volume in
    elim moves.on [
      | inl same ↦
          let one : q ≡ p = same_Some _ _ (sym at' ∙ ap (λ (xs : List Picked). slice_get xs new.at) moves.picks ∙ ap (λ (i : ℕ). slice_get old.picks i) same ∙ at) in
          let takes : MayTake volumes old new p asked told act = subst (λ (x : Picked). MayTake volumes old new x asked told act) one take in
          fewer_here old new volumes asked act moves.picks same (within old.picks old.at p at) less room of of' (goes_here volumes old new p asked told act moves same at on none says takes)
      | inr next ↦ fewer_next old new volumes asked act moves.picks next (within new.picks new.at q at') less of of'
    ]

pub pass_comes_nearer : (old new : Machine) (p : Picked) (told : Heard) (act : Act) → IsPassing old p → StepsOn old told act new → IsOfPass act
    → ((q : Picked) × IsPassing new q) × (SaysSomething old p told → acts_left new < acts_left old)
pass_comes_nearer old new p told act passing next of =
    let volumes : ℕ = old.limits.volumes in
    let moves : Stays volumes old.pass old.asked told new.pass = stays old.limits old.pass old.asked told new.pass (of_pass old.pass.sid p old.pass.volume old.asked passing.asked) next.pass in
    let may = may_pass old.limits (knows_by old.limits old.known old.asked told) old.pass new.pass old.asked told act of next.may in
    let none = no_end volumes old.pass new.pass old.asked told moves may.1.under_way in
    let room' : new.pass.volume < volumes = room volumes old.pass new.pass p old.asked told passing.pick passing.asked passing.room none moves.volume in (
      (
        may.0,
        record {
          pick = may.1.pick;
          asked = subst (λ (x : Act). IsCallOf new.pass.sid may.0 x ⊎ IsCopy may.0 new.pass.volume x) (sym next.asked) (on_segment volumes old.pass new.pass may.0 old.asked told act may.2);
          room = subst (λ (l : Numbers). new.pass.volume < l.volumes) (sym next.limits) room';
        },
      ),
      λ says. rw next.limits (rw next.asked (fewer volumes old.pass new.pass p may.0 old.asked told act passing.pick passing.asked may.1.pick room' none moves says may.2 of)),
    )

-- ---- its first act

begins : (limits : Numbers) (old : Pass) (asked : Act) (sid : Sid) (told : Heard) (new : Pass) → asked ≡ Dm sid GetTable → IsTable told → ComesTo limits old asked told new
    → (picks : List Picked) × (new ≡ begun_pass sid picks)
begins limits old asked sid (heard.Dm (reply.Table table)) new is has comes =
    let begun = subst (λ (x : Act). ComesTo limits old x (heard.Dm (reply.Table table)) new) is comes in (begun.0, begun.2)
begins limits old asked sid told new is has comes = absurd has

at_first : (n volumes a : ℕ) → 0 < n → 0 < a → 6 * (n - 0) + 2 * (volumes - (0 + 1)) - a < 6 * n + 2 * (volumes - 1)
at_first n volumes a some step = grind arith

fewer_than_most : (volumes : ℕ) (pass : Pass) (sid : Sid) (picks : List Picked) (act : Act) → pass ≡ begun_pass sid picks → pass.at < length pass.picks → IsOfPass act
    → 6 * (length pass.picks - pass.at) + 2 * (volumes - (pass.volume + 1)) - step_of act < most_acts volumes pass.picks
fewer_than_most volumes pass sid picks act is some of =
    let here : 0 < length picks = subst (λ (x : Pass). x.at < length x.picks) is some in
    subst (λ (x : Pass). 6 * (length x.picks - x.at) + 2 * (volumes - (x.volume + 1)) - step_of act < most_acts volumes x.picks) (sym is) (at_first (length picks) volumes (step_of act) here (some_step act of))

pub pass_begins : (old new : Machine) (sid : Sid) (told : Heard) (act : Act) → 0 < old.limits.volumes → old.asked ≡ Dm sid GetTable → IsTable told → StepsOn old told act new → IsOfPass act
    → ((p : Picked) × IsPassing new p) × (acts_left new < most_acts new.limits.volumes new.pass.picks)
pass_begins old new sid told act some is has next of =
    let volumes : ℕ = old.limits.volumes in
    let begun = begins old.limits old.pass old.asked sid told new.pass is has next.pass in
    let may = may_pass old.limits (knows_by old.limits old.known old.asked told) old.pass new.pass old.asked told act of next.may in
    let less = fewer_than_most volumes new.pass sid begun.0 act begun.1 (within new.pass.picks new.pass.at may.0 may.1.pick) of in
    let room' : new.pass.volume < volumes = subst (λ (x : Pass). x.volume < volumes) (sym begun.1) some in (
      (
        may.0,
        record {
          pick = may.1.pick;
          asked = subst (λ (x : Act). IsCallOf new.pass.sid may.0 x ⊎ IsCopy may.0 new.pass.volume x) (sym next.asked) (on_segment volumes old.pass new.pass may.0 old.asked told act may.2);
          room = subst (λ (l : Numbers). new.pass.volume < l.volumes) (sym next.limits) room';
        },
      ),
      rw next.limits (rw next.asked less),
    )
