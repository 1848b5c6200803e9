-- What a run keeps, and one event more of it.
use Rattle.std.proofs.Common.{◌≡◌, ℕ, ◌+◌, List, [], ◌∷◌, ◌++◌, Bool, true, false, Option, Some, None, refl, sym, ◌∙◌, ap, subst, arith}
use Rattle.std.specs.Prelude.{IfSome}
use Rattle.std.specs.Option.{option_map}
use Rattle.disk_model.specs.declared.device.Disk as disk
use Rattle.disk_model.specs.Calls.{raised, RoseByOne}
use Rattle.disk_model.specs.Moments.{Tells}
use Rattle.hsm_types.specs.declared.stores.Limits.{Limits}
use Rattle.hsm_types.specs.declared.stores.Superblock.{Superblock}
use Rattle.plain_model.specs.declared.entries.Entry.{Entry}
use Rattle.plain_model.specs.Faults.{is_fault}
use Rattle.plain_model.specs.State.{Held, State, just_opened}
use Rattle.plain_model.specs.Exact.{IsAnswerSeen, left_by}
use Rattle.plain_model.specs.Laws.{IsOpening, IsRunSeen, RunIsGood}
use Rattle.plain_model.proofs.AnyDisk.{run_on_any, seen_is_orderly}
use Rattle.plain_model.proofs.Faultless.{has_fault-push}
use Rattle.plain_model.proofs.Histories.{state_by-push}
use Rattle.file_store.specs.Stores.{superblock_of, Proceeds}
use Rattle.access_park.specs.Pending.{waiting_in}
use Rattle.access_park.proofs.Counting.{waiting-nobody}
use Rattle.dm_service.specs.Tables.{Tables, waiting, is_open, pending_as, ledger_of, open_among, awaited_in, AreNew}
use Rattle.hsm_core.specs.Targets.{MayLast, EachLasts}
use Rattle.hsm_core.specs.Store.{Store, opening_of, state_of, HasRun}
use Rattle.hsm_core.specs.Kept.{IsKept}
use Rattle.hsm_core.specs.Packed.{ArePacked}
use Rattle.hsm_core.proofs.Seeing.{weaker_run, told_run, ExactSeen-push}

-- the store is formatted as it was
pub formatted_as : {D : Type 0} {g : disk.Ghosts D} (s : Store D) → HasRun g s → superblock_of s.files ≡ superblock_of s.opened
formatted_as s has = rw (has.geometry, has.fsid) refl

pub kept : ((s : Superblock) (base : ℕ) (h : Held) (es : List Entry) → RunIsGood s base h es) → {D : Type 0} (g : disk.Ghosts D) (s : Store D) → HasRun g s → ArePacked (superblock_of s.opened) (just_opened s.opened.meta.number s.opened.held) s.history → IsKept g s
kept good g s has packed = record {
  superblock = formatted_as s has;
  run = has.run;
  orderly = seen_is_orderly (superblock_of s.opened) s.opened.meta.number (opening_of s) s.history (run_on_any (Tells g s.files.disk) (superblock_of s.opened) s.opened.meta.number (opening_of s) s.history has.run);
  good = λ tells. good (superblock_of s.opened) s.opened.meta.number s.opened.held s.history (told_run tells (superblock_of s.opened) s.opened.meta.number s.opened.held s.history has.run);
  packed = packed;
  faultless = has.faultless;
  failure = has.failure;
  state = has.state;
}

plus_nothing : (n : ℕ) → n + 0 ≡ n
plus_nothing n = omega arith

pub true_false : {A : Type 0} (b : Bool) → b ≡ true → b ≡ false → A
true_false b is isnt = absurd cc

-- a store that was just opened
pub HasRun-opened : {D : Type 0} (g : disk.Ghosts D) (s : Store D) → s.opened ≡ s.files → s.files.failed ≡ false → s.history ≡ [] → s.stamps ≡ [] → AreNew s.tables → IsOpening s.files.held → HasRun g s
HasRun-opened g s opened works none stamps new opening = record {
  geometry = rw opened refl;
  fsid = rw opened refl;
  run = record { opening = rw opened opening; exact = rw none tt };
  faultless = λ working. rw none refl;
  failure = record {
    told = λ failed. true_false s.files.failed failed works;
    once = λ failed. true_false s.files.failed failed works;
    quiet = λ working. rw opened refl;
  };
  state = λ working. rw (none, opened, stamps) (λ i. record { held = s.files.held; stamps = λ k. 0; number = plus_nothing s.files.meta.number i; sessions = (new i).sessions; rights = (new i).rights; flags = (new i).flags; ledger = (new i).ledger });
}

-- nothing waits in new tables, and nothing is awaited
none_of : {A B : Type 0} (f : A → B) (o : Option A) → option_map f o ≡ None → o ≡ None
none_of f None is = refl
none_of f (Some x) is = cc

pub new_awaited : (t : Tables) → AreNew t → awaited_in t ≡ 0
new_awaited t new =
    let idle : waiting_in (waiting t) ≡ 0 = (λ i. waiting_in (λ c. none_of pending_as (waiting t c) (ap (λ (st : State). st.ledger.pending c) new) i)) ∙ waiting-nobody in
    let shut : open_among t.tokens (is_open t.sessions) ≡ 0 = ap (λ (st : State). open_among st.ledger.top (is_open t.sessions)) new in
    omega (arith, idle, shut)

pub new_lasts : (limits : Limits) (t : Tables) → AreNew t → EachLasts limits (ledger_of t)
new_lasts limits t new c = subst (λ x. IfSome x (λ a. MayLast limits a.call)) (sym (ap (λ (st : State). st.ledger.pending c) new)) tt

module _ {D : Type 0} (g : disk.Ghosts D) (s t : Store D) (has : HasRun g s) (n : ℕ) (opened : t.opened ≡ s.opened) (proceeds : Proceeds g s.files n t.files) where
  -- a disk that tells after the event told before it
  run_before : IsRunSeen (Tells g t.files.disk) (superblock_of s.opened) s.opened.meta.number (opening_of s) s.history
  run_before = weaker_run proceeds.moments.tells (superblock_of s.opened) s.opened.meta.number (opening_of s) s.history has.run

  -- an event that isn't kept
  pub HasRun-unkept : s.files.failed ≡ false → t.history ≡ s.history → state_of t ≡ state_of s → t.files.failed ≡ false → g.fault_count t.files.disk ≡ g.fault_count s.files.disk → HasRun g t
  HasRun-unkept working history state still quiet = record {
    geometry = proceeds.geometry ∙ has.geometry ∙ rw opened refl;
    fsid = proceeds.fsid ∙ has.fsid ∙ rw opened refl;
    run = rw (opened, history) run_before;
    faultless = λ still. rw history (has.faultless working);
    failure = record {
      told = λ failed. true_false t.files.failed failed still;
      once = λ failed. true_false t.files.failed failed still;
      quiet = λ same. rw opened (quiet ∙ has.failure.quiet working);
    };
    state = λ still. state ∙ has.state working ∙ rw (opened, history) refl;
  }

  -- the event's own call of the disk that failed
  pub record TellsEvent (e : Entry) : Type 0 where
    pub told : t.files.failed ≡ true → is_fault e.answer ≡ true
    pub once : t.files.failed ≡ true → RoseByOne (g.fault_count s.files.disk) (g.fault_count t.files.disk)
    pub quiet : t.files.failed ≡ false → g.fault_count t.files.disk ≡ g.fault_count s.files.disk

  -- an event more, answered over what is seen
  pub HasRun-kept : (e : Entry) → s.files.failed ≡ false → t.history ≡ s.history ++ e ∷ [] → IsAnswerSeen (Tells g t.files.disk) (superblock_of s.opened) (state_of s) e.actor e.action e.answer
      → (t.files.failed ≡ false → (is_fault e.answer ≡ false) × (state_of t ≡ left_by (superblock_of s.opened) (state_of s) e.actor e.action e.answer)) → TellsEvent e → HasRun g t
  HasRun-kept e working history is leaves tells =
      let start : State = just_opened s.opened.meta.number s.opened.held in
      record {
        geometry = proceeds.geometry ∙ has.geometry ∙ rw opened refl;
        fsid = proceeds.fsid ∙ has.fsid ∙ rw opened refl;
        run = rw (opened, history) (record {
          opening = has.run.opening;
          exact = ExactSeen-push (Tells g t.files.disk) (superblock_of s.opened) start s.history e run_before.exact (has.faultless working)
              (subst (λ (st : State). IsAnswerSeen (Tells g t.files.disk) (superblock_of s.opened) st e.actor e.action e.answer) (has.state working) is);
        });
        faultless = λ still. rw (history, has_fault-push s.history e (has.faultless working)) (leaves still).0;
        failure = record {
          told = λ failed. rw (history, has_fault-push s.history e (has.faultless working)) (tells.told failed);
          once = λ failed. rw opened (tells.once failed ∙ ap raised (has.failure.quiet working));
          quiet = λ still. rw opened (tells.quiet still ∙ has.failure.quiet working);
        };
        state = λ still. (leaves still).1 ∙ ap (λ (st : State). left_by (superblock_of s.opened) st e.actor e.action e.answer) (has.state working)
            ∙ sym (state_by-push (superblock_of s.opened) start s.history e) ∙ rw (opened, history) refl;
      }
