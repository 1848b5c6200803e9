-- In a pass each answer keeps what the pass is.
use Rattle.std.proofs.Common.{◌≡◌, ◌≢◌, ℕ, zero, suc, ◌+◌, ◌<◌, ◌≤◌, ◌⊎◌, Bool, true, false, List, [], ◌∷◌, ◌++◌, length, slice_get, Option, Some}
use Rattle.std.proofs.Common.{None, Result, Ok, Err, refl, ap, sym, ◌∙◌, inl, inr, subst, arith}
use Rattle.std.specs.Prelude.{IfOk, OnOk, if◌then◌else◌, ◌==◌}
use Rattle.std.specs.declared.alloc.AllocError.{AllocError}
use Rattle.std.proofs.lemmas.List.Elements.{Contains-append_left, Contains-push, Contains-push_cases}
use Rattle.std.proofs.lemmas.Bool.Decides.{nat_tests}
use Rattle.std.proofs.lemmas.Option.{same_Some}
use Rattle.hsm_types.specs.Limits.{segment_bytes}
use Rattle.hsm_types.specs.Regions.{covers}
use Rattle.hsm_types.specs.declared.daemons.Act.{Act}
use Rattle.hsm_types.specs.declared.daemons.Heard.{Heard}
use Rattle.hsm_types.specs.declared.daemons.Heard.TheVariants as heard
use Rattle.hsm_types.specs.declared.dm.DmReply.{DmReply}
use Rattle.hsm_types.specs.declared.dm.DmReply.TheVariants as reply
use Rattle.hsm_types.specs.declared.dm.DmRefusal.{DmRefusal}
use Rattle.hsm_types.specs.declared.dm.DmRefusal.TheVariants as why
use Rattle.hsm_types.specs.declared.keys.Sid.{Sid}
use Rattle.hsm_types.specs.declared.media.CopyRefusal.{CopyRefusal}
use Rattle.hsm_types.specs.declared.media.CopyRefusal.TheVariants as copying
use Rattle.hsm_types.specs.declared.regions.Region.{Region}
use Rattle.hsm_types.specs.declared.stubs.StubEntry.{StubEntry}
use Rattle.hsm_policy.specs.Settings.{Numbers}
use Rattle.hsm_policy.specs.declared.picking.Picked.{Picked}
use Rattle.daemon_session.specs.Seats.{Refuses}
use Rattle.migrate_daemon.specs.declared.skips.Skip.{Skip}
use Rattle.migrate_daemon.specs.declared.stages.Stage.TheVariants.{Copying}
use Rattle.migrate_daemon.specs.declared.stages.Turn.{Turn}
use Rattle.migrate_daemon.specs.declared.stages.Work.{Work}
use Rattle.migrate_daemon.specs.declared.stages.Work.TheVariants.{Covering, Setting, Reading, Sealing, Punching}
use Rattle.migrate_daemon.specs.Known.{Known, knows_by}
use Rattle.migrate_daemon.specs.Passes.{Pass, Exchange, Passed, IsDone, IsListed, IsEnd, EndsAt, IsEndedBy, IsCopy, IsFull, IsSkip, IsCallOf}
use Rattle.migrate_daemon.specs.Passes.{skip_of, punches, copies}
use Rattle.migrate_daemon.specs.Machine.{MayTake, SaysNothing, LeadsOn, SkipsAt, IsCovered, ComesAnew, HasAll}
use Rattle.migrate_daemon.specs.Hearing.{is_gone, is_done, refusal_in, regions_in, reply_in, copied_in}
use Rattle.migrate_daemon.specs.MachineStates.{Standing}
use Rattle.migrate_daemon.specs.Stages.{Holds, Suits, asked_for, works}
use Rattle.migrate_daemon.specs.Turns.{Moves, Gives, Turns}
use Rattle.migrate_daemon.proofs.Turning.{HasTable, turns, passed_longer}

-- ---- the answers of the calls

-- what ends the pass ends it at the segment at which it stands
ends_here : (volumes : ℕ) (pass : Pass) (p : Picked) (asked : Act) (told : Heard) → slice_get pass.picks pass.at ≡ Some p → EndsAt volumes pass asked told → IsEnd volumes pass.sid p asked told
ends_here volumes pass p asked told is ends = subst (λ (q : Picked). IsEnd volumes pass.sid q asked told) (same_Some _ _ (sym ends.1 ∙ is)) ends.2

skip_is_no_end : (volumes : ℕ) (sid : Sid) (p : Picked) (asked : Act) (answer : DmReply) → IsSkip sid p asked answer → IsEnd volumes sid p asked (heard.Dm answer) → ⊥
skip_is_no_end volumes sid p asked (reply.Refused why.NoSession) skips ends = skips
skip_is_no_end volumes sid p asked (reply.Refused (why.TooMany count)) skips ends = skips
skip_is_no_end volumes sid p asked answer skips ends = ends

not_full : (sid : Sid) (p : Picked) (work : Work) (volume : ℕ) (told : Heard) → IsFull volume (asked_for sid p work) told → ⊥
not_full sid p Covering volume told full = full
not_full sid p Setting volume told full = full
not_full sid p Reading volume told full = full
not_full sid p (Sealing entry) volume told full = full
not_full sid p Punching volume told full = full

no_table : (sid : Sid) (p : Picked) (work : Work) (told : Heard) → HasTable (asked_for sid p work) told → ⊥
no_table sid p Covering told has = has
no_table sid p Setting told has = has
no_table sid p Reading told has = has
no_table sid p (Sealing entry) told has = has
no_table sid p Punching told has = has

not_all_work : (sid : Sid) (p : Picked) (work : Work) (told : Heard) → HasAll (asked_for sid p work) told → ⊥
not_all_work sid p Covering told all = all
not_all_work sid p Setting told all = all
not_all_work sid p Reading told all = all
not_all_work sid p (Sealing entry) told all = all
not_all_work sid p Punching told all = all

pub at_end : {X : Type 0} (xs : List X) (i : ℕ) → slice_get xs i ≡ None → i ≤ length xs → i ≡ length xs
at_end [] i none within = omega arith
at_end (x ∷ xs) zero none within = cc
at_end (x ∷ xs) (suc i) none within = ap suc (at_end xs i none (omega arith))

-- no answer but that to a punch tells what it did not know
knows_work : (limits : Numbers) (k : Known) (sid : Sid) (p : Picked) (work : Work) (told : Heard) → (work ≡ Punching → told ≡ heard.Dm reply.Done → ⊥) → knows_by limits k (asked_for sid p work) told ≡ k
knows_work limits k sid p Covering (heard.Dm answer) not = refl
knows_work limits k sid p Covering told not = refl
knows_work limits k sid p Setting (heard.Dm answer) not = refl
knows_work limits k sid p Setting told not = refl
knows_work limits k sid p Reading (heard.Dm answer) not = refl
knows_work limits k sid p Reading told not = refl
knows_work limits k sid p (Sealing entry) (heard.Dm answer) not = refl
knows_work limits k sid p (Sealing entry) told not = refl
knows_work limits k sid p Punching (heard.Dm reply.Done) not = absurd (not refl refl)
knows_work limits k sid p Punching (heard.Dm answer) not = refl
knows_work limits k sid p Punching told not = refl

leads_done : (sid : Sid) (p : Picked) (work : Work) (told : Heard) → work ≡ Punching → told ≡ heard.Dm reply.Done → LeadsOn (asked_for sid p work) told
leads_done sid p Punching (heard.Dm reply.Done) is done = tt
leads_done sid p work told is done = cc

-- ---- how far the pass is then

abbrev exchange : Act → Heard → Exchange
exchange asked told = record { asked = asked; heard = told }

split : (k n : ℕ) → k < n + 1 → (k < n) ⊎ (k ≡ n)
split k n less = grind arith

-- as it was
pub moves_same : (volumes : ℕ) (pass : Pass) (asked : Act) (told : Heard) → (IsFull pass.volume asked told → ⊥) → (EndsAt volumes pass asked told → ⊥) → Moves volumes pass asked told pass
moves_same volumes pass asked told no_full no_end = record {
  stays = record { session = refl; picks = refl; on = inl refl; volume = inl (refl, no_full); skipped = inl refl; ended = inl (refl, no_end) };
  passes = λ talk passed. passed_longer volumes talk _ pass passed;
}

-- the volume is nothing to what was done
ended_volume : (volumes : ℕ) (talk : List Exchange) (pass : Pass) (v : ℕ) (ended : Option Heard) → IsEndedBy volumes talk pass ended → IsEndedBy volumes talk (record pass { volume = v }) ended
ended_volume volumes talk pass v None e = tt
ended_volume volumes talk pass v (Some told) e = e

-- the next volume
pub moves_full : (volumes : ℕ) (pass : Pass) (asked : Act) (told : Heard) → IsFull pass.volume asked told → (EndsAt volumes pass asked told → ⊥) → Moves volumes pass asked told (record pass { volume = pass.volume + 1 })
moves_full volumes pass asked told full no_end = record {
  stays = record { session = refl; picks = refl; on = inl refl; volume = inr (refl, full); skipped = inl refl; ended = inl (refl, no_end) };
  passes = λ talk passed. let longer = passed_longer volumes talk (exchange asked told ∷ []) pass passed in record {
    done = λ k p below is. longer.done k p below is;
    listed = λ s has. longer.listed s has;
    ended = ended_volume volumes (talk ++ exchange asked told ∷ []) pass (pass.volume + 1) pass.ended longer.ended;
  };
}

-- it ends early
ends_passed : (volumes : ℕ) (pass : Pass) (v : ℕ) (asked : Act) (told : Heard) → EndsAt volumes pass asked told → (talk : List Exchange) → Passed volumes talk pass
    → Passed volumes (talk ++ record { asked = asked; heard = told } ∷ []) (record pass { volume = v; ended = Some told })
ends_passed volumes pass v asked told ends talk passed =
    let longer = passed_longer volumes talk (exchange asked told ∷ []) pass passed in record {
      done = λ k p below is. longer.done k p below is;
      listed = λ s has. longer.listed s has;
      ended = (asked, ends, Contains-push talk (exchange asked told));
    }

pub moves_end : (volumes : ℕ) (pass : Pass) (asked : Act) (told : Heard) → (IsFull pass.volume asked told → ⊥) → pass.ended ≡ None → EndsAt volumes pass asked told → Moves volumes pass asked told (record pass { ended = Some told })
moves_end volumes pass asked told no_full open' ends = record {
  stays = record { session = refl; picks = refl; on = inl refl; volume = inl (refl, no_full); skipped = inl refl; ended = inr (open', refl, ends) };
  passes = ends_passed volumes pass pass.volume asked told ends;
}

pub moves_last : (volumes : ℕ) (pass : Pass) (asked : Act) (told : Heard) → IsFull pass.volume asked told → pass.ended ≡ None → EndsAt volumes pass asked told → Moves volumes pass asked told (record pass { volume = pass.volume + 1; ended = Some told })
moves_last volumes pass asked told full open' ends = record {
  stays = record { session = refl; picks = refl; on = inl refl; volume = inr (refl, full); skipped = inl refl; ended = inr (open', refl, ends) };
  passes = ends_passed volumes pass (pass.volume + 1) asked told ends;
}

-- the pass goes on to the next segment
one_more : (P : ℕ → Type 0) (n : ℕ) → ((k : ℕ) → k < n → P k) → P n → (k : ℕ) → k < n + 1 → P k
one_more P n below here k less = elim (split k n less) [ inl l ↦ below k l | inr e ↦ subst P (sym e) here ]

ended_none : (volumes : ℕ) (talk : List Exchange) (pass : Pass) (ended : Option Heard) → ended ≡ None → IsEndedBy volumes talk pass ended
ended_none volumes talk pass None none = tt
ended_none volumes talk pass (Some told) none = cc

abbrev past : Pass → List Skip → Pass
past pass skipped = record pass { at = pass.at + 1; skipped = skipped }

listed_past : (talk more : List Exchange) (pass : Pass) (skipped : List Skip) (s : Skip) → IsListed talk pass s → IsListed (talk ++ more) (past pass skipped) s
listed_past talk more pass skipped s l = (l.0, l.1, l.2, (let below : l.0 < pass.at = l.3 in omega arith), l.4, l.5, l.6, Contains-append_left talk more _ l.7)

done_past : (talk more : List Exchange) (pass : Pass) (extra : List Skip) (p : Picked) → IsDone talk pass p → IsDone (talk ++ more) (past pass (pass.skipped ++ extra)) p
done_past talk more pass extra p (inl has) = inl (Contains-append_left talk more _ has)
done_past talk more pass extra p (inr d) = inr (d.0, d.1, Contains-append_left pass.skipped extra _ d.2, d.3, Contains-append_left talk more _ d.4)

-- the segment is done
pub moves_done : (volumes : ℕ) (pass : Pass) (p : Picked) → slice_get pass.picks pass.at ≡ Some p → pass.ended ≡ None → Moves volumes pass (punches pass.sid p) (heard.Dm reply.Done) (record pass { at = pass.at + 1 })
moves_done volumes pass p is open' = record {
  stays = record { session = refl; picks = refl; on = inr refl; volume = inl (refl, λ full. full); skipped = inl refl; ended = inl (refl, λ ends. ends.2) };
  passes = λ talk passed.
      let new : Pass = past pass pass.skipped in
      let more : List Exchange = exchange (punches pass.sid p) (heard.Dm reply.Done) ∷ [] in
      let longer = passed_longer volumes talk more pass passed in
      let here : (q : Picked) → slice_get pass.picks pass.at ≡ Some q → IsDone (talk ++ more) new q =
      λ q is'. subst (λ (x : Picked). IsDone (talk ++ more) new x) (same_Some _ _ (sym is ∙ is')) (inl (Contains-push talk _)) in record {
        done = λ k q below is'. one_more (λ j. (x : Picked) → slice_get pass.picks j ≡ Some x → IsDone (talk ++ more) new x) pass.at (λ j less x isx. longer.done j x less isx) here k below q is';
        listed = λ s has. listed_past talk more pass pass.skipped s (passed.listed s has);
        ended = ended_none volumes (talk ++ more) new pass.ended open';
      };
}

-- it is skipped
pub moves_skip : (volumes : ℕ) (pass : Pass) (p : Picked) (asked : Act) (answer : DmReply) → slice_get pass.picks pass.at ≡ Some p → pass.ended ≡ None → IsSkip pass.sid p asked answer → (IsFull pass.volume asked (heard.Dm answer) → ⊥)
    → Moves volumes pass asked (heard.Dm answer) (record pass { at = pass.at + 1; skipped = pass.skipped ++ skip_of p answer ∷ [] })
moves_skip volumes pass p asked answer is open' skips no_full = record {
  stays = record {
    session = refl;
    picks = refl;
    on = inr refl;
    volume = inl (refl, no_full);
    skipped = inr (p, answer, is, refl, skips, refl, refl);
    ended = inl (refl, λ ends. skip_is_no_end volumes pass.sid p asked answer skips (ends_here volumes pass p asked (heard.Dm answer) is ends));
  };
  passes = λ talk passed.
      let skipped : List Skip = pass.skipped ++ skip_of p answer ∷ [] in
      let new : Pass = past pass skipped in
      let more : List Exchange = exchange asked (heard.Dm answer) ∷ [] in
      let same : (q : Picked) → slice_get pass.picks pass.at ≡ Some q → IsDone (talk ++ more) new q =
      λ q is'. subst (λ (x : Picked). IsDone (talk ++ more) new x) (same_Some _ _ (sym is ∙ is')) (inr (asked, answer, Contains-push pass.skipped _, skips, Contains-push talk _)) in record {
        done = λ k q below is'. one_more (λ j. (x : Picked) → slice_get pass.picks j ≡ Some x → IsDone (talk ++ more) new x) pass.at (λ j less x isx. done_past talk more pass (skip_of p answer ∷ []) x (passed.done j x less isx)) same k below q is';
        listed = λ s has. elim (Contains-push_cases pass.skipped (skip_of p answer) s has) [
          | inl old ↦ listed_past talk more pass skipped s (passed.listed s old)
          | inr e ↦ subst (λ (x : Skip). IsListed (talk ++ more) new x) e (pass.at, p, asked, omega arith, is, refl, skips, Contains-push talk _)
        ];
        ended = ended_none volumes (talk ++ more) new pass.ended open';
      };
}

-- ---- what comes next

-- a call on the segment
pub gives_work : (s : Standing) (before after : Pass) (asked : Act) (told : Heard) (p : Picked) (work : Work) → Holds s after p → Suits p work
    → MayTake s.limits.volumes before after p asked told (asked_for after.sid p work) → Gives s.limits s.known before after asked told s (works after.sid p work)
gives_work s before after asked told p Covering holds suits take = record { limits = refl; known = refl; may = (p, holds.at, take); stands = (refl, holds, suits) }
gives_work s before after asked told p Setting holds suits take = record { limits = refl; known = refl; may = (p, holds.at, take); stands = (refl, holds, suits) }
gives_work s before after asked told p Reading holds suits take = record { limits = refl; known = refl; may = (p, holds.at, take); stands = (refl, holds, suits) }
gives_work s before after asked told p (Sealing entry) holds suits take = record { limits = refl; known = refl; may = (p, holds.at, take); stands = (refl, holds, suits) }
gives_work s before after asked told p Punching holds suits take = record { limits = refl; known = refl; may = (p, holds.at, take); stands = (refl, holds, suits) }

-- the same call again
takes_again : (volumes : ℕ) (before after : Pass) (p : Picked) (told : Heard) (work : Work) → Suits p work → SaysNothing volumes after.sid p (asked_for after.sid p work) told
    → MayTake volumes before after p (asked_for after.sid p work) told (asked_for after.sid p work)
takes_again volumes before after p told Covering suits nothing = (refl, inr (refl, nothing))
takes_again volumes before after p told Setting suits nothing = (refl, inr (refl, nothing))
takes_again volumes before after p told Reading suits nothing = (refl, suits, inr (inr (refl, nothing)))
takes_again volumes before after p told (Sealing entry) suits nothing = (refl, suits, inr (refl, nothing))
takes_again volumes before after p told Punching suits nothing = (refl, inr (inr (refl, nothing)))

-- ---- what comes of an answer

-- to a call that isn't refused for its session
pub turns_work : (old : Standing) (before : Pass) (p : Picked) (work : Work) (told : Heard) (new : Standing) (after : Pass) (turn : Turn) → (Refuses (asked_for before.sid p work) told → ⊥)
    → Moves old.limits.volumes before (asked_for before.sid p work) told after
    → Gives old.limits (knows_by old.limits old.known (asked_for before.sid p work) told) before after (asked_for before.sid p work) told new turn
    → Turns old before (asked_for before.sid p work) told new after turn
turns_work old before p work told new after turn lives moves gives =
    turns old before (asked_for before.sid p work) told new after turn (no_table before.sid p work told) (λ gone. absurd (lives gone)) moves gives

-- the call is made again
pub turns_again : (s : Standing) (pass : Pass) (p : Picked) (work : Work) (told : Heard) → Holds s pass p → Suits p work → (Refuses (asked_for pass.sid p work) told → ⊥)
    → SaysNothing s.limits.volumes pass.sid p (asked_for pass.sid p work) told → Turns s pass (asked_for pass.sid p work) told s pass (works pass.sid p work)
turns_again s pass p work told holds suits lives nothing =
    let no_end : EndsAt s.limits.volumes pass (asked_for pass.sid p work) told → ⊥ = λ ends. nothing.ends (ends_here s.limits.volumes pass p _ told holds.at.pick ends) in
    let same = knows_work s.limits s.known pass.sid p work told (λ is done. nothing.leads (leads_done pass.sid p work told is done)) in
    turns_work s pass p work told s pass (works pass.sid p work) lives (moves_same s.limits.volumes pass _ told (not_full pass.sid p work pass.volume told) no_end)
    (rw same (gives_work s pass pass _ told p work holds suits (takes_again s.limits.volumes pass pass p told work suits nothing)))

-- an answer that leads on to another call
turns_on : (s : Standing) (pass : Pass) (p : Picked) (work : Work) (told : Heard) (next : Work) → Holds s pass p → Suits p next → (Refuses (asked_for pass.sid p work) told → ⊥)
    → (EndsAt s.limits.volumes pass (asked_for pass.sid p work) told → ⊥) → (work ≡ Punching → told ≡ heard.Dm reply.Done → ⊥)
    → MayTake s.limits.volumes pass pass p (asked_for pass.sid p work) told (asked_for pass.sid p next)
    → Turns s pass (asked_for pass.sid p work) told s pass (works pass.sid p next)
turns_on s pass p work told next holds suits lives no_end not_punched takes =
    let same = knows_work s.limits s.known pass.sid p work told not_punched in
    turns_work s pass p work told s pass (works pass.sid p next) lives (moves_same s.limits.volumes pass _ told (not_full pass.sid p work pass.volume told) no_end)
    (rw same (gives_work s pass pass _ told p next holds suits takes))

-- a covered segment is read, and one that was sealed is punched
turns_covered : (s : Standing) (pass : Pass) (p : Picked) (sealed : Bool) → p.sealed ≡ sealed → (work : Work) (told : Heard) → Holds s pass p → (Refuses (asked_for pass.sid p work) told → ⊥)
    → (EndsAt s.limits.volumes pass (asked_for pass.sid p work) told → ⊥) → (work ≡ Punching → told ≡ heard.Dm reply.Done → ⊥) → IsCovered pass.sid p (asked_for pass.sid p work) told
    → Turns s pass (asked_for pass.sid p work) told s pass (works pass.sid p (if sealed then Punching else Reading))
turns_covered s pass p true is work told holds lives no_end not_punched covered = turns_on s pass p work told Punching holds tt lives no_end not_punched (refl, inl (is, covered))
turns_covered s pass p false is work told holds lives no_end not_punched covered = turns_on s pass p work told Reading holds is lives no_end not_punched (refl, is, inl covered)

regions_is : (answer : DmReply) (regions : List Region) → regions_in answer ≡ Some regions → answer ≡ reply.Regions regions
regions_is (reply.Regions regions') regions is = ap reply.Regions (same_Some _ _ is)
regions_is answer regions is = cc

done_is : (answer : DmReply) → is_done answer ≡ true → answer ≡ reply.Done
done_is reply.Done is = refl
done_is answer is = cc

pub turns_regions : (s : Standing) (pass : Pass) (p : Picked) (answer : DmReply) (regions : List Region) → Holds s pass p → regions_in answer ≡ Some regions → covers regions p.segment ≡ true
    → Turns s pass (asked_for pass.sid p Covering) (heard.Dm answer) s pass (works pass.sid p (if p.sealed then Punching else Reading))
turns_regions s pass p answer regions holds is covered =
    rw (regions_is answer regions is) (turns_covered s pass p p.sealed refl Covering (heard.Dm (reply.Regions regions)) holds (λ gone. cc) (λ ends. ends.2) (λ e. cc) (inl (regions, refl, refl, covered)))

pub turns_bare : (s : Standing) (pass : Pass) (p : Picked) (answer : DmReply) (regions : List Region) → Holds s pass p → regions_in answer ≡ Some regions → covers regions p.segment ≡ false
    → Turns s pass (asked_for pass.sid p Covering) (heard.Dm answer) s pass (works pass.sid p Setting)
turns_bare s pass p answer regions holds is bare =
    rw (regions_is answer regions is) (turns_on s pass p Covering (heard.Dm (reply.Regions regions)) Setting holds tt (λ gone. cc) (λ ends. ends.2) (λ e. cc) (refl, inl (regions, refl, refl, bare)))

pub turns_set : (s : Standing) (pass : Pass) (p : Picked) (answer : DmReply) → Holds s pass p → is_done answer ≡ true
    → Turns s pass (asked_for pass.sid p Setting) (heard.Dm answer) s pass (works pass.sid p (if p.sealed then Punching else Reading))
turns_set s pass p answer holds is =
    rw (done_is answer is) (turns_covered s pass p p.sealed refl Setting (heard.Dm reply.Done) holds (λ gone. cc) (λ ends. ends.2) (λ e. cc) (inr (refl, refl)))

pub turns_sealed : (s : Standing) (pass : Pass) (p : Picked) (entry : StubEntry) (answer : DmReply) → Holds s pass p → p.sealed ≡ false → is_done answer ≡ true
    → Turns s pass (asked_for pass.sid p (Sealing entry)) (heard.Dm answer) s pass (works pass.sid p Punching)
turns_sealed s pass p entry answer holds sealed is =
    rw (done_is answer is) (turns_on s pass p (Sealing entry) (heard.Dm reply.Done) Punching holds tt (λ gone. cc) (λ ends. ends.2) (λ e. cc) (refl, inr (inl ((entry, refl), refl))))

-- the segment is offline
pub turns_punched : (old : Standing) (pass : Pass) (p : Picked) (answer : DmReply) (new : Standing) (turn : Turn) → Holds old pass p → is_done answer ≡ true
    → ((before : Pass) (asked : Act) (told : Heard) → ComesAnew before (record pass { at = pass.at + 1 }) asked told → (HasAll asked told → ⊥)
    → Gives old.limits (record (old.known) { punched = true }) before (record pass { at = pass.at + 1 }) asked told new turn)
    → Turns old pass (asked_for pass.sid p Punching) (heard.Dm answer) new (record pass { at = pass.at + 1 }) turn
turns_punched old pass p answer new turn holds is gives =
    rw (done_is answer is) (turns_work old pass p Punching (heard.Dm reply.Done) new (record pass { at = pass.at + 1 }) turn (λ gone. cc) (moves_done old.limits.volumes pass p holds.at.pick holds.at.under_way)
    (gives pass (punches pass.sid p) (heard.Dm reply.Done) (inr refl) (λ all. all)))

-- the bytes are copied
pub turns_read : (s : Standing) (pass : Pass) (p : Picked) (bytes : List ℕ) → Holds s pass p → p.sealed ≡ false → bytes ≢ [] → length bytes ≤ segment_bytes
    → Turns s pass (asked_for pass.sid p Reading) (heard.Dm (reply.Data bytes)) s pass (record { stage = Copying p; act = copies p pass.volume bytes })
turns_read s pass p bytes holds sealed some within =
    turns_work s pass p Reading (heard.Dm (reply.Data bytes)) s pass _ (λ gone. cc) (moves_same s.limits.volumes pass _ _ (λ full. full) (λ ends. ends.2)) (record {
      limits = refl;
      known = refl;
      may = (p, holds.at, (refl, sealed, refl, refl, some, within, holds.room));
      stands = ((bytes, refl), holds, sealed);
    })

-- the segment is skipped
skip_keeps : (sid : Sid) (p : Picked) (work : Work) (answer : DmReply) → IsSkip sid p (asked_for sid p work) answer → work ≡ Punching → heard.Dm answer ≡ heard.Dm reply.Done → ⊥
skip_keeps sid p work reply.Done skips is done = skips
skip_keeps sid p work answer skips is done = cc

pub turns_skip : (s : Standing) (pass : Pass) (p : Picked) (work : Work) (answer : DmReply) (new : Pass) (r : Result Turn AllocError) → Holds s pass p → (Refuses (asked_for pass.sid p work) (heard.Dm answer) → ⊥)
    → IsSkip pass.sid p (asked_for pass.sid p work) answer → OnOk r (new ≡ record pass { at = pass.at + 1; skipped = pass.skipped ++ skip_of p answer ∷ [] })
    → IfOk r (λ turn. (asked : Act) (told : Heard) → (HasAll asked told → ⊥) → Gives s.limits s.known pass new asked told s turn)
    → IfOk r (λ turn. Turns s pass (asked_for pass.sid p work) (heard.Dm answer) s new turn)
turns_skip s pass p work answer new (Ok turn) holds lives skips is gives =
    let same = knows_work s.limits s.known pass.sid p work (heard.Dm answer) (skip_keeps pass.sid p work answer skips) in
    let moves = moves_skip s.limits.volumes pass p (asked_for pass.sid p work) answer holds.at.pick holds.at.under_way skips (not_full pass.sid p work pass.volume (heard.Dm answer)) in
    turns_work s pass p work (heard.Dm answer) s new turn lives (rw is moves) (rw same (gives (asked_for pass.sid p work) (heard.Dm answer) (not_all_work pass.sid p work (heard.Dm answer))))
turns_skip s pass p work answer new (Err e) holds lives skips is gives = tt

-- the pass ends
end_keeps : (volumes : ℕ) (sid : Sid) (p : Picked) (work : Work) (told : Heard) → IsEnd volumes sid p (asked_for sid p work) told → work ≡ Punching → told ≡ heard.Dm reply.Done → ⊥
end_keeps volumes sid p work (heard.Dm reply.Done) ends is done = ends
end_keeps volumes sid p work told ends is done = cc

pub turns_end : (s : Standing) (pass : Pass) (p : Picked) (work : Work) (told : Heard) (new : Pass) (turn : Turn) → Holds s pass p → (Refuses (asked_for pass.sid p work) told → ⊥)
    → IsEnd s.limits.volumes pass.sid p (asked_for pass.sid p work) told → new ≡ record pass { ended = Some told }
    → ((before : Pass) (asked : Act) (heard : Heard) → (HasAll asked heard → ⊥) → Gives s.limits s.known before new asked heard s turn)
    → Turns s pass (asked_for pass.sid p work) told s new turn
turns_end s pass p work told new turn holds lives ends is gives =
    let same = knows_work s.limits s.known pass.sid p work told (end_keeps s.limits.volumes pass.sid p work told ends) in
    let moves = moves_end s.limits.volumes pass (asked_for pass.sid p work) told (not_full pass.sid p work pass.volume told) holds.at.under_way (p, holds.at.pick, ends) in
    turns_work s pass p work told s new turn lives (rw is moves) (rw same (gives pass (asked_for pass.sid p work) told (not_all_work pass.sid p work told)))

-- the call is made again
pub turns_again_ok : (s : Standing) (pass : Pass) (p : Picked) (work : Work) (told : Heard) (r : Result Turn AllocError) → Holds s pass p → Suits p work → (Refuses (asked_for pass.sid p work) told → ⊥)
    → SaysNothing s.limits.volumes pass.sid p (asked_for pass.sid p work) told → IfOk r (λ turn. turn ≡ works pass.sid p work) → IfOk r (λ turn. Turns s pass (asked_for pass.sid p work) told s pass turn)
turns_again_ok s pass p work told (Ok turn) holds suits lives nothing is = subst (λ (t : Turn). Turns s pass (asked_for pass.sid p work) told s pass t) (sym is) (turns_again s pass p work told holds suits lives nothing)
turns_again_ok s pass p work told (Err e) holds suits lives nothing is = tt

-- an answer that is no refusal and doesn't lead on
no_refusal : (volumes : ℕ) (sid : Sid) (p : Picked) (work : Work) (answer : DmReply) → refusal_in answer ≡ None → IsEnd volumes sid p (asked_for sid p work) (heard.Dm answer) → ⊥
no_refusal volumes sid p work (reply.Refused why) none ends = cc
no_refusal volumes sid p work answer none ends = ends

no_skip : (sid : Sid) (p : Picked) (work : Work) (answer : DmReply) → refusal_in answer ≡ None → (LeadsOn (asked_for sid p work) (heard.Dm answer) → ⊥) → IsSkip sid p (asked_for sid p work) answer → ⊥
no_skip sid p Covering (reply.Data bytes) none leads skips = let other = skips.1 in cc
no_skip sid p Setting (reply.Data bytes) none leads skips = let other = skips.1 in cc
no_skip sid p Reading (reply.Data bytes) none leads skips = leads tt
no_skip sid p (Sealing entry) (reply.Data bytes) none leads skips = let other = skips.1 in cc
no_skip sid p Punching (reply.Data bytes) none leads skips = let other = skips.1 in cc
no_skip sid p work (reply.Refused why) none leads skips = cc
no_skip sid p work answer none leads skips = skips

pub nothing_said : (volumes : ℕ) (sid : Sid) (p : Picked) (work : Work) (answer : DmReply) → refusal_in answer ≡ None → (LeadsOn (asked_for sid p work) (heard.Dm answer) → ⊥)
    → SaysNothing volumes sid p (asked_for sid p work) (heard.Dm answer)
nothing_said volumes sid p work answer none leads = record { leads = leads; skips = no_skip sid p work answer none leads; ends = no_refusal volumes sid p work answer none }

-- ---- the copy

copy_no_call : (sid : Sid) (p : Picked) (volume : ℕ) (bytes : List ℕ) → IsCallOf sid p (copies p volume bytes) → ⊥
copy_no_call sid p volume bytes (inl is) = cc
copy_no_call sid p volume bytes (inr (inl is)) = cc
copy_no_call sid p volume bytes (inr (inr (inl is))) = cc
copy_no_call sid p volume bytes (inr (inr (inr (inl is)))) = let other = is.1 in cc
copy_no_call sid p volume bytes (inr (inr (inr (inr is)))) = cc

turns_copy : (s : Standing) (pass : Pass) (p : Picked) (bytes : List ℕ) (told : Heard) (new : Pass) (turn : Turn) → Moves s.limits.volumes pass (copies p pass.volume bytes) told new
    → Gives s.limits s.known pass new (copies p pass.volume bytes) told s turn → Turns s pass (copies p pass.volume bytes) told s new turn
turns_copy s pass p bytes told new turn moves gives = turns s pass (copies p pass.volume bytes) told s new turn (λ has. has) (λ gone. absurd gone) moves gives

-- the copy is sealed
pub copied_is : (told : Heard) (copied : Result StubEntry CopyRefusal) → copied_in told ≡ Some copied → told ≡ heard.Copied copied
copied_is (heard.Copied copied') copied is = ap heard.Copied (same_Some _ _ is)
copied_is told copied is = cc

pub turns_copied : (s : Standing) (pass : Pass) (p : Picked) (bytes : List ℕ) (told : Heard) (entry : StubEntry) → Holds s pass p → p.sealed ≡ false → copied_in told ≡ Some (Ok entry)
    → Turns s pass (copies p pass.volume bytes) told s pass (works pass.sid p (Sealing entry))
turns_copied s pass p bytes told entry holds sealed is =
    rw (copied_is told (Ok entry) is) (turns_copy s pass p bytes (heard.Copied (Ok entry)) pass _ (moves_same s.limits.volumes pass _ _ (λ full. full) (λ ends. ends.2))
    (gives_work s pass pass _ _ p (Sealing entry) holds sealed (refl, sealed, inl ((pass.volume, (bytes, refl)), refl))))

-- the bytes are read again
turns_reread : (s : Standing) (pass : Pass) (p : Picked) (bytes : List ℕ) (told : Heard) (new : Pass) → Holds s new p → p.sealed ≡ false → (LeadsOn (copies p pass.volume bytes) told → ⊥)
    → Moves s.limits.volumes pass (copies p pass.volume bytes) told new → Turns s pass (copies p pass.volume bytes) told s new (works new.sid p Reading)
turns_reread s pass p bytes told new holds sealed leads moves =
    turns_copy s pass p bytes told new _ moves (gives_work s pass new _ told p Reading holds sealed (refl, sealed, inr (inl ((pass.volume, (bytes, refl)), leads))))

pub turns_memory : (s : Standing) (pass : Pass) (p : Picked) (bytes : List ℕ) → Holds s pass p → p.sealed ≡ false
    → Turns s pass (copies p pass.volume bytes) (heard.Copied (Err copying.Memory)) s pass (works pass.sid p Reading)
turns_memory s pass p bytes holds sealed = turns_reread s pass p bytes _ pass holds sealed (λ leads. leads) (moves_same s.limits.volumes pass _ _ (λ full. full) (λ ends. ends.2))

-- it isn't told what becomes of the copy
untold_leads : (p : Picked) (volume : ℕ) (bytes : List ℕ) (told : Heard) → copied_in told ≡ None → LeadsOn (copies p volume bytes) told → ⊥
untold_leads p volume bytes (heard.Copied copied) none leads = cc
untold_leads p volume bytes told none leads = leads

untold_full : (p : Picked) (volume : ℕ) (bytes : List ℕ) (told : Heard) → copied_in told ≡ None → IsFull volume (copies p volume bytes) told → ⊥
untold_full p volume bytes (heard.Copied copied) none full = cc
untold_full p volume bytes told none full = full

untold_ends : (volumes : ℕ) (sid : Sid) (p q : Picked) (volume : ℕ) (bytes : List ℕ) (told : Heard) → copied_in told ≡ None → p ≡ q → IsEnd volumes sid q (copies p volume bytes) told → ⊥
untold_ends volumes sid p q volume bytes (heard.Copied copied) none same ends = cc
untold_ends volumes sid p q volume bytes (heard.Dm (reply.Refused why.NoSession)) none same ends = copy_no_call sid p volume bytes (subst (λ (x : Picked). IsCallOf sid x (copies p volume bytes)) (sym same) ends)
untold_ends volumes sid p q volume bytes (heard.Dm (reply.Refused (why.TooMany count))) none same ends = let other = ends.1 in cc
untold_ends volumes sid p q volume bytes told none same ends = ends

pub turns_untold : (s : Standing) (pass : Pass) (p : Picked) (bytes : List ℕ) (told : Heard) → Holds s pass p → p.sealed ≡ false → copied_in told ≡ None
    → Turns s pass (copies p pass.volume bytes) told s pass (works pass.sid p Reading)
turns_untold s pass p bytes told holds sealed none =
    let no_end : EndsAt s.limits.volumes pass (copies p pass.volume bytes) told → ⊥ = λ ends. untold_ends s.limits.volumes pass.sid p ends.0 pass.volume bytes told none (same_Some _ _ (sym holds.at.pick ∙ ends.1)) ends.2 in
    turns_reread s pass p bytes told pass holds sealed (untold_leads p pass.volume bytes told none)
    (moves_same s.limits.volumes pass _ told (untold_full p pass.volume bytes told none) no_end)

-- the copy failed
pub turns_uncopied : (s : Standing) (pass : Pass) (p : Picked) (bytes : List ℕ) (why : CopyRefusal) (new : Pass) (turn : Turn) → Holds s pass p → (IsFull pass.volume (copies p pass.volume bytes) (heard.Copied (Err why)) → ⊥)
    → IsEnd s.limits.volumes pass.sid p (copies p pass.volume bytes) (heard.Copied (Err why)) → new ≡ record pass { ended = Some (heard.Copied (Err why)) }
    → ((before : Pass) (asked : Act) (told : Heard) → (HasAll asked told → ⊥) → Gives s.limits s.known before new asked told s turn)
    → Turns s pass (copies p pass.volume bytes) (heard.Copied (Err why)) s new turn
turns_uncopied s pass p bytes why new turn holds no_full ends is gives =
    turns_copy s pass p bytes _ new turn (rw is (moves_end s.limits.volumes pass _ _ no_full holds.at.under_way (p, holds.at.pick, ends))) (gives pass _ _ (λ all. all))

-- the volume is full, or not there
full_volume : (p : Picked) (v : ℕ) (bytes bytes' : List ℕ) (why : CopyRefusal) → IsFull v (copies p v bytes) (heard.Copied (Err why)) → IsFull v (copies p v bytes') (heard.Copied (Err why))
full_volume p v bytes bytes' (copying.Full used len capacity) full = full
full_volume p v bytes bytes' copying.NoVolume full = full
full_volume p v bytes bytes' (copying.Failed before after) full = full
full_volume p v bytes bytes' (copying.Damaged want got) full = full
full_volume p v bytes bytes' copying.Memory full = full

full_last : (volumes : ℕ) (sid : Sid) (p : Picked) (v : ℕ) (bytes : List ℕ) (why : CopyRefusal) → IsFull v (copies p v bytes) (heard.Copied (Err why)) → v + 1 ≡ volumes → IsEnd volumes sid p (copies p v bytes) (heard.Copied (Err why))
full_last volumes sid p v bytes (copying.Full used len capacity) full last = (v, last, (bytes, refl))
full_last volumes sid p v bytes copying.NoVolume full last = (v, last, (bytes, refl))
full_last volumes sid p v bytes (copying.Failed before after) full last = absurd full
full_last volumes sid p v bytes (copying.Damaged want got) full last = absurd full
full_last volumes sid p v bytes copying.Memory full last = absurd full

same_volume : (p q : Picked) (v w : ℕ) (bytes bytes' : List ℕ) → copies p v bytes ≡ copies q w bytes' → v ≡ w
same_volume p q v w bytes bytes' same = cc

full_no_end : (volumes : ℕ) (sid : Sid) (p q : Picked) (v : ℕ) (bytes : List ℕ) (why : CopyRefusal) → IsFull v (copies p v bytes) (heard.Copied (Err why)) → v + 1 < volumes → IsEnd volumes sid q (copies p v bytes) (heard.Copied (Err why)) → ⊥
full_no_end volumes sid p q v bytes (copying.Full used len capacity) full more ends = let e = same_volume p q v ends.0 bytes ends.2.0 ends.2.1 in absurd (omega (arith, e, ends.1))
full_no_end volumes sid p q v bytes copying.NoVolume full more ends = let e = same_volume p q v ends.0 bytes ends.2.0 ends.2.1 in absurd (omega (arith, e, ends.1))
full_no_end volumes sid p q v bytes (copying.Failed before after) full more ends = full
full_no_end volumes sid p q v bytes (copying.Damaged want got) full more ends = full
full_no_end volumes sid p q v bytes copying.Memory full more ends = full

full_leads : (p : Picked) (v : ℕ) (bytes : List ℕ) (why : CopyRefusal) → LeadsOn (copies p v bytes) (heard.Copied (Err why)) → ⊥
full_leads p v bytes why leads = leads

pub turns_next_volume : (s : Standing) (pass : Pass) (p : Picked) (bytes : List ℕ) (why : CopyRefusal) (new : Pass) → Holds s pass p → p.sealed ≡ false
    → IsFull pass.volume (copies p pass.volume []) (heard.Copied (Err why)) → pass.volume + 1 < s.limits.volumes → new ≡ record pass { volume = pass.volume + 1 }
    → Turns s pass (copies p pass.volume bytes) (heard.Copied (Err why)) s new (works new.sid p Reading)
turns_next_volume s pass p bytes why new holds sealed full more is =
    let here = full_volume p pass.volume [] bytes why full in
    let no_end : EndsAt s.limits.volumes pass (copies p pass.volume bytes) (heard.Copied (Err why)) → ⊥ = λ ends. full_no_end s.limits.volumes pass.sid p ends.0 pass.volume bytes why here more ends.2 in
    rw is (turns_reread s pass p bytes (heard.Copied (Err why)) (record pass { volume = pass.volume + 1 }) (record { at = record { seated = holds.at.seated; pick = holds.at.pick; under_way = holds.at.under_way }; room = more }) sealed
    (full_leads p pass.volume bytes why) (moves_full s.limits.volumes pass _ _ here no_end))

pub turns_last_volume : (s : Standing) (pass : Pass) (p : Picked) (bytes : List ℕ) (why : CopyRefusal) (new : Pass) (turn : Turn) → Holds s pass p
    → IsFull pass.volume (copies p pass.volume []) (heard.Copied (Err why)) → pass.volume + 1 ≡ s.limits.volumes → new ≡ record pass { volume = pass.volume + 1; ended = Some (heard.Copied (Err why)) }
    → ((before : Pass) (asked : Act) (told : Heard) → (HasAll asked told → ⊥) → Gives s.limits s.known before new asked told s turn)
    → Turns s pass (copies p pass.volume bytes) (heard.Copied (Err why)) s new turn
turns_last_volume s pass p bytes why new turn holds full last is gives =
    let here = full_volume p pass.volume [] bytes why full in
    turns_copy s pass p bytes _ new turn (rw is (moves_last s.limits.volumes pass _ _ here holds.at.under_way (p, holds.at.pick, full_last s.limits.volumes pass.sid p pass.volume bytes why here last))) (gives pass _ _ (λ all. all))

-- ---- what the functions are told

pub ok_of : (P : Turn → Type 0) (next : Turn) (r : Result Turn AllocError) → IfOk r (λ turn. turn ≡ next) → P next → IfOk r P
ok_of P next (Ok turn) is holds = subst P (sym is) holds
ok_of P next (Err e) is holds = tt

lost_is : (sid : Sid) (p : Picked) (work : Work) (told : Heard) → Refuses (asked_for sid p work) told → told ≡ heard.Dm (reply.Refused why.NoSession)
lost_is sid p Covering told lost = lost
lost_is sid p Setting told lost = lost
lost_is sid p Reading told lost = lost
lost_is sid p (Sealing entry) told lost = lost
lost_is sid p Punching told lost = lost

pub not_lost : (sid : Sid) (p : Picked) (work : Work) (refusal : DmRefusal) → (refusal ≡ why.NoSession → ⊥) → Refuses (asked_for sid p work) (heard.Dm (reply.Refused refusal)) → ⊥
not_lost sid p work refusal lives lost = lives (let is = lost_is sid p work _ lost in cc)

lives_lost : (sid : Sid) (p : Picked) (work : Work) (told : Heard) → is_gone told ≡ false → Refuses (asked_for sid p work) told → ⊥
lives_lost sid p work told lives lost = let is = ap is_gone (lost_is sid p work told lost) in cc

pub turns_otherwise : (s : Standing) (pass : Pass) (p : Picked) (work : Work) (answer : DmReply) (r : Result Turn AllocError) → Holds s pass p → Suits p work → is_gone (heard.Dm answer) ≡ false
    → refusal_in answer ≡ None → IfOk r (λ turn. turn ≡ works pass.sid p work)
    → IfOk r (λ turn. (LeadsOn (asked_for pass.sid p work) (heard.Dm answer) → ⊥) → Turns s pass (asked_for pass.sid p work) (heard.Dm answer) s pass turn)
turns_otherwise s pass p work answer (Ok turn) holds suits lives none is = λ leads.
    turns_again_ok s pass p work (heard.Dm answer) (Ok turn) holds suits (lives_lost pass.sid p work (heard.Dm answer) lives) (nothing_said s.limits.volumes pass.sid p work answer none leads) is
turns_otherwise s pass p work answer (Err e) holds suits lives none is = tt

-- it isn't told of the call
unanswered_leads : (sid : Sid) (p : Picked) (work : Work) (told : Heard) → reply_in told ≡ None → LeadsOn (asked_for sid p work) told → ⊥
unanswered_leads sid p work (heard.Dm answer) none leads = cc
unanswered_leads sid p Covering told none leads = leads
unanswered_leads sid p Setting told none leads = leads
unanswered_leads sid p Reading told none leads = leads
unanswered_leads sid p (Sealing entry) told none leads = leads
unanswered_leads sid p Punching told none leads = leads

unanswered_skips : (sid : Sid) (p : Picked) (asked : Act) (told : Heard) → reply_in told ≡ None → SkipsAt sid p asked told → ⊥
unanswered_skips sid p asked (heard.Dm answer) none skips = cc
unanswered_skips sid p asked told none skips = skips

no_copy : (sid : Sid) (p q : Picked) (work : Work) (volume : ℕ) → IsCopy q volume (asked_for sid p work) → ⊥
no_copy sid p q Covering volume copied = let is = copied.1 in cc
no_copy sid p q Setting volume copied = let is = copied.1 in cc
no_copy sid p q Reading volume copied = let is = copied.1 in cc
no_copy sid p q (Sealing entry) volume copied = let is = copied.1 in cc
no_copy sid p q Punching volume copied = let is = copied.1 in cc

unanswered_ends : (volumes : ℕ) (sid : Sid) (p : Picked) (work : Work) (told : Heard) → reply_in told ≡ None → IsEnd volumes sid p (asked_for sid p work) told → ⊥
unanswered_ends volumes sid p work (heard.Dm answer) none ends = cc
unanswered_ends volumes sid p work (heard.Copied (Err (copying.Failed before after))) none ends = no_copy sid p p work ends.0 ends.1
unanswered_ends volumes sid p work (heard.Copied (Err (copying.Damaged want got))) none ends = no_copy sid p p work ends.0 ends.1
unanswered_ends volumes sid p work (heard.Copied (Err (copying.Full used len capacity))) none ends = no_copy sid p p work ends.0 ends.2
unanswered_ends volumes sid p work (heard.Copied (Err copying.NoVolume)) none ends = no_copy sid p p work ends.0 ends.2
unanswered_ends volumes sid p work told none ends = ends

unanswered_lost : (sid : Sid) (p : Picked) (work : Work) (told : Heard) → reply_in told ≡ None → Refuses (asked_for sid p work) told → ⊥
unanswered_lost sid p work told none lost = let is = ap reply_in (lost_is sid p work told lost) in cc

pub turns_unanswered : (s : Standing) (pass : Pass) (p : Picked) (work : Work) (told : Heard) (r : Result Turn AllocError) → Holds s pass p → Suits p work → reply_in told ≡ None
    → IfOk r (λ turn. turn ≡ works pass.sid p work) → IfOk r (λ turn. Turns s pass (asked_for pass.sid p work) told s pass turn)
turns_unanswered s pass p work told r holds suits none is =
    turns_again_ok s pass p work told r holds suits (unanswered_lost pass.sid p work told none) (record {
      leads = unanswered_leads pass.sid p work told none;
      skips = unanswered_skips pass.sid p (asked_for pass.sid p work) told none;
      ends = unanswered_ends s.limits.volumes pass.sid p work told none;
    }) is

pub no_bytes : (bytes : List ℕ) → (length bytes == 0) ≡ true → bytes ≡ []
no_bytes [] is = refl
no_bytes (x ∷ xs) is = absurd (grind (arith, nat_tests))

pub some_bytes : (bytes : List ℕ) → (length bytes == 0) ≡ false → bytes ≢ []
some_bytes [] is none = cc
some_bytes (x ∷ xs) is none = cc
