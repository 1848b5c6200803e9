-- What a step of a daemon keeps.
use Rattle.std.proofs.Common.{◌≡◌, ◌≢◌, ◌∙◌, ◌∷◌, ◌++◌, [], Bool, true, false, List, length, Option, Some, None, IfSome, Err, inr, refl, sym, ap}
use Rattle.std.proofs.Common.{subst, append-nil}
use Rattle.std.specs.List.{AllByRecursion}
use Rattle.media_model.specs.declared.drive.Drive as drive
use Rattle.hsm_types.specs.declared.daemons.Act.{Act}
use Rattle.hsm_types.specs.declared.daemons.Act.TheVariants.{Dm, Fetch}
use Rattle.hsm_types.specs.declared.daemons.Daemon.TheVariants.{Recall, Migrate}
use Rattle.hsm_types.specs.declared.daemons.Heard.{Heard}
use Rattle.hsm_types.specs.declared.daemons.Heard.TheVariants as heard
use Rattle.hsm_types.specs.declared.dm.DmCall.{DmCall}
use Rattle.hsm_types.specs.declared.dm.DmCall.TheVariants.{Respond, Seal}
use Rattle.hsm_types.specs.declared.dm.DmReply.{DmReply}
use Rattle.hsm_types.specs.declared.dm.Response.TheVariants.{Continue, Abort, Media}
use Rattle.hsm_types.specs.declared.keys.Sid.{Sid}
use Rattle.hsm_types.specs.declared.keys.Token.{Token}
use Rattle.hsm_types.specs.declared.media.Fault.{Fault}
use Rattle.hsm_types.specs.declared.media.Fault.TheVariants.{Damaged}
use Rattle.hsm_types.specs.declared.media.FetchRefusal.TheVariants as fetching
use Rattle.plain_model.specs.declared.entries.Action.TheVariants as action
use Rattle.plain_model.specs.declared.entries.Actor.TheVariants.{Session}
use Rattle.plain_model.specs.declared.entries.Answer.TheVariants as answer
use Rattle.plain_model.specs.declared.entries.Entry.{Entry}
use Rattle.hsm_core.specs.Answers.{entry_of}
use Rattle.hsm_core.specs.Store.{Store}
use Rattle.recall_daemon.specs.Known as recall
use Rattle.recall_daemon.specs.Machine as recaller
use Rattle.migrate_daemon.specs.Known as migrate
use Rattle.migrate_daemon.specs.Machine as migrator
use Rattle.hsm_system.specs.Running.{Recalling, Migrating}
use Rattle.hsm_system.specs.declared.daemons.Next.TheVariants.{Hears}
use Rattle.hsm_replay.specs.Drives.{HaveGrown}
use Rattle.hsm_replay.specs.Faults.{fault_in, faults_in, IsApart, IsTrue, AreTrue}
use Rattle.hsm_replay.specs.Keeping.{IsHeardOf, IsKnownAs, IsShownAs, RecallKnows, MigrateKnows, IsMarked, Shows}
use Rattle.marked_history.specs.Marks.{Mark, made}
use Rattle.hsm_replay.specs.Sealed.{seal_by, IsStored, HearsLost, HearsStored, NeedsLost, Tallies}
use Rattle.marked_history.specs.Served.{Shown, shown, nothing_shown, MigrateMay}
use Rattle.hsm_replay.specs.Systems.{Run, told_next}
use Rattle.hsm_replay.proofs.Growing.{one_more_true}
use Rattle.hsm_replay.proofs.Marked.{shown_more, marked_more, marked_still, no_fault_more, fault_more, still_known_if}
use Rattle.hsm_replay.proofs.SessionCalls.{IsNoCall}
use Rattle.hsm_replay.proofs.ActSteps.{recall_left, migrate_left}
use Rattle.hsm_replay.proofs.RecallShown.{recall_may, recall_told, recall_lost, recall_rests}
use Rattle.hsm_replay.proofs.MigrateShown.{migrate_may, migrate_told, migrate_seals, migrate_rests}
use Rattle.hsm_replay.proofs.Sealing.{AbortIsRight, DamageIsRight, tallies_more, tallies_by_other, damage_unsealed, lost_still_if, lost_more_if}
use Rattle.hsm_replay.proofs.Sealing.{stored_still_if}

-- migration continues, or aborts
answers_none : (punched : Bool) (fault : Fault) → Media fault ≡ migrator.answer_of punched → ⊥
answers_none true fault is = let wrong : Media fault ≡ Continue = is in cc wrong
answers_none false fault is = let wrong : Media fault ≡ Abort 28 = is in cc wrong

module _ {D M : Type 0} (h : drive.Ghosts M) (opened : List M) (marks : List Mark) (old : Run D M) (shows : Shows h opened marks old) where
  abbrev pub before : Shown
  before = shown old.system.limits nothing_shown marks

  abbrev pub told_faults : List Fault
  told_faults = faults_in old.system.store.history

  -- ---- recall

  module _ (r : Recalling) (machine : recaller.Machine) (runs : old.system.recall ≡ Some r) where
    knows : RecallKnows h before.recall old.drives told_faults r
    knows = subst (λ (o : Option Recalling). IfSome o (RecallKnows h before.recall old.drives told_faults)) runs shows.recall

    lost_then : HearsLost h opened old.drives marks r.machine.asked (told_next r.next)
    lost_then = subst (λ (o : Option Recalling). IfSome o (λ (x : Recalling). HearsLost h opened old.drives marks x.machine.asked (told_next x.next))) runs shows.lost

    module _ (sid : Sid) (asked : DmCall) (reply : DmReply) (goes : recaller.StepsOn r.machine (told_next r.next) (Dm sid asked) machine) where
      abbrev pub entry : Entry
      entry = entry_of (Session sid) (action.Dm asked) (answer.Dm reply)

      -- its response with a fault is for the one that it heard of
      answers_for : (t : _) (fault : Fault) → asked ≡ Respond t (Media fault) → IsTrue h old.drives fault × AllByRecursion (λ earlier. IsApart (length old.drives) earlier fault) told_faults
      answers_for t fault is =
          let may = subst (λ (c : DmCall). recall.MayGive (recall.knows_by r.machine.known r.machine.asked (told_next r.next)) r.machine.asked (told_next r.next) (Dm sid c)) is goes.may in
          let fetched = may.1.3 in
          let about : IsHeardOf h old.drives told_faults (Fetch fetched.0.entry) (heard.Fetched (Err (fetching.Media fault))) = subst (λ (told : Heard). IsHeardOf h old.drives told_faults (Fetch fetched.0.entry) told) fetched.2 (subst (λ (a : Act). IsHeardOf h old.drives told_faults a (told_next r.next)) fetched.1 knows.heard) in
          (about.1, about.2)

      faults_now : (c : DmCall) → asked ≡ c → AreTrue h old.drives (faults_in (old.system.store.history ++ entry_of (Session sid) (action.Dm c) (answer.Dm reply) ∷ []))
      faults_now (Respond t (Media fault)) is =
          let e = entry_of (Session sid) (action.Dm (Respond t (Media fault))) (answer.Dm reply) in
          let about = answers_for t fault is in
          subst (λ (fs : List Fault). AreTrue h old.drives fs) (sym (fault_more old.system.store.history e fault refl)) (one_more_true h old.drives told_faults fault shows.marked.faults about.0 about.1)
      faults_now (Respond t Continue) is = subst (λ (fs : List Fault). AreTrue h old.drives fs) (sym (no_fault_more old.system.store.history (entry_of (Session sid) (action.Dm (Respond t Continue)) (answer.Dm reply)) refl)) shows.marked.faults
      faults_now (Respond t (Abort error)) is = subst (λ (fs : List Fault). AreTrue h old.drives fs) (sym (no_fault_more old.system.store.history (entry_of (Session sid) (action.Dm (Respond t (Abort error))) (answer.Dm reply)) refl)) shows.marked.faults
      faults_now other is = subst (λ (fs : List Fault). AreTrue h old.drives fs) (sym (no_fault_more old.system.store.history (entry_of (Session sid) (action.Dm other) (answer.Dm reply)) refl)) shows.marked.faults

      abbrev one : Mark
      one = made Recall sid asked reply

      -- its answer that there is no such object is for the one that it heard of
      aborts_for : (t : Token) → asked ≡ Respond t (Abort 2) → NeedsLost h opened old.drives before.recall marks
      aborts_for t is =
          let by = recall_lost h before.recall old.drives told_faults r machine knows sid t (subst (λ (c : DmCall). recaller.StepsOn r.machine (told_next r.next) (Dm sid c) machine) is goes) in
          (by.0, by.1, by.4, by.5, subst (λ (told : Heard). HearsLost h opened old.drives marks (Fetch by.1.entry) told) by.7 (subst (λ (a : Act). HearsLost h opened old.drives marks a (told_next r.next)) by.6 lost_then))

      same_call : (x : Sid) (c : DmCall) (y : DmReply) → made Recall x c y ≡ one → asked ≡ c
      same_call x c y is = let actions : action.Dm c ≡ action.Dm asked = ap (λ (m : Mark). m.entry.action) is in let calls : asked ≡ c = cc actions in calls

      abort_right : AbortIsRight h opened old.drives old.system.limits marks one
      abort_right x t y is = aborts_for t (same_call x (Respond t (Abort 2)) y is)

      damage_right : DamageIsRight h old.drives marks one
      damage_right x t volume object want got y is = damage_unsealed h opened old.drives old.system.limits marks shows.marked.sealed volume object want got (answers_for t (Damaged volume object want got) (same_call x (Respond t (Media (Damaged volume object want got))) y is)).0

      recall_tallies : Tallies h opened old.drives old.system.limits (marks ++ one ∷ [])
      recall_tallies = tallies_more h opened old.drives old.system.limits marks shows.marked.sealed one tt abort_right damage_right

      module _ (told : Heard) (store : Store D) (kept : store.history ≡ old.system.store.history ++ entry ∷ []) where
        pub recall_marked : IsMarked h opened (marks ++ made Recall sid asked reply ∷ []) (recall_left old machine told store old.drives)
        recall_marked = marked_more h opened marks (made Recall sid asked reply) old (recall_left old machine told store old.drives) shows.marked refl kept (recall_may h before.recall old.drives told_faults r machine knows sid asked goes)
            (subst (λ (es : List Entry). AreTrue h old.drives (faults_in es)) (sym kept) (faults_now asked refl)) recall_tallies

      pub recall_called : (store : Store D) → store.history ≡ old.system.store.history ++ entry ∷ [] → Shows h opened (marks ++ made Recall sid asked reply ∷ []) (recall_left old machine (heard.Dm reply) store old.drives)
      recall_called store kept = record {
        marked = recall_marked (heard.Dm reply) store kept;
        recall = record {
          known = inr (subst (λ (k : Shown). IsKnownAs (recall.knows_by machine.known machine.asked (heard.Dm reply)) k.recall) (sym (shown_more old.system.limits nothing_shown marks (made Recall sid asked reply))) (recall_told h before.recall old.drives told_faults r machine knows sid asked reply goes));
          heard = subst (λ (a : Act). IsHeardOf h old.drives (faults_in store.history) a (heard.Dm reply)) (sym goes.asked) tt;
        };
        migrate = subst (λ (k : Shown). IfSome old.system.migrate (MigrateKnows k.migrate)) (sym (shown_more old.system.limits nothing_shown marks (made Recall sid asked reply))) shows.migrate;
        lost = subst (λ (a : Act). HearsLost h opened old.drives (marks ++ made Recall sid asked reply ∷ []) a (heard.Dm reply)) (sym goes.asked) tt;
        stored = shows.stored;
      }

    -- a rest, or what is heard of a fetch
    pub recall_went : (act : Act) (told : Heard) → IsNoCall act → recaller.StepsOn r.machine (told_next r.next) act machine → (drives : List M) → HaveGrown h old.drives drives → IsHeardOf h drives told_faults act told → HearsLost h opened drives marks act told → Shows h opened (marks ++ []) (recall_left old machine told old.system.store drives)
    recall_went act told no_call goes drives grown about lost = record {
      marked = marked_still h opened marks old (recall_left old machine told old.system.store drives) shows.marked refl refl grown;
      recall = subst (λ (ms : List Mark). RecallKnows h (shown old.system.limits nothing_shown ms).recall drives told_faults (record { machine = machine; next = Hears told })) (sym (append-nil marks))
          (record { known = recall_rests h before.recall old.drives told_faults r machine knows act told no_call goes; heard = subst (λ (a : Act). IsHeardOf h drives told_faults a told) (sym goes.asked) about });
      migrate = subst (λ (ms : List Mark). IfSome old.system.migrate (MigrateKnows (shown old.system.limits nothing_shown ms).migrate)) (sym (append-nil marks)) shows.migrate;
      lost = subst (λ (ms : List Mark). HearsLost h opened drives ms machine.asked told) (sym (append-nil marks)) (subst (λ (a : Act). HearsLost h opened drives marks a told) (sym goes.asked) lost);
      stored = stored_still_if h old.drives drives old.system.migrate grown shows.stored;
    }

  -- ---- migration

  module _ (m : Migrating) (machine : migrator.Machine) (runs : old.system.migrate ≡ Some m) where
    knew : MigrateKnows before.migrate m
    knew = subst (λ (o : Option Migrating). IfSome o (MigrateKnows before.migrate)) runs shows.migrate

    stored_then : HearsStored h old.drives m.machine.asked (told_next m.next)
    stored_then = subst (λ (o : Option Migrating). IfSome o (λ (x : Migrating). HearsStored h old.drives x.machine.asked (told_next x.next))) runs shows.stored

    module _ (sid : Sid) (asked : DmCall) (reply : DmReply) (goes : migrator.StepsOn m.machine (told_next m.next) (Dm sid asked) machine) where
      abbrev pub call_entry : Entry
      call_entry = entry_of (Session sid) (action.Dm asked) (answer.Dm reply)

      -- it answers for no fault of a medium
      names_none : (t : _) (fault : Fault) → asked ≡ Respond t (Media fault) → ⊥
      names_none t fault is =
          let may = subst (λ (c : DmCall). MigrateMay before.migrate sid c) is (migrate_may before.migrate m machine knew sid asked goes) in
          answers_none before.migrate.punched fault may.2

      no_faults : (c : DmCall) → asked ≡ c → fault_in (action.Dm c) ≡ None
      no_faults (Respond t (Media fault)) is = absurd (names_none t fault is)
      no_faults (Respond t Continue) is = refl
      no_faults (Respond t (Abort error)) is = refl
      no_faults other is = refl

      -- what it seals is stored
      seals_stored : (c : DmCall) → asked ≡ c → IfSome (seal_by (Some Migrate) (action.Dm c)) (IsStored h old.drives)
      seals_stored (Seal t file segment entry) is = migrate_seals before.migrate m machine knew h old.drives stored_then sid t file segment entry (subst (λ (c : DmCall). migrator.StepsOn m.machine (told_next m.next) (Dm sid c) machine) is goes)
      seals_stored other is = tt

      hears_stored : (c : DmCall) → asked ≡ c → HearsStored h old.drives (Dm sid c) (heard.Dm reply)
      hears_stored (Seal t file segment entry) is = seals_stored (Seal t file segment entry) is
      hears_stored other is = tt

      not_recall : Some Migrate ≢ Some Recall
      not_recall is = let wrong : Some Migrate ≡ Some Recall = is in cc wrong

      migrate_tallies : Tallies h opened old.drives old.system.limits (marks ++ made Migrate sid asked reply ∷ [])
      migrate_tallies = tallies_by_other h opened old.drives old.system.limits marks shows.marked.sealed (made Migrate sid asked reply) not_recall (seals_stored asked refl)

      module _ (told : Heard) (store : Store D) (kept : store.history ≡ old.system.store.history ++ call_entry ∷ []) where
        same_faults : faults_in store.history ≡ told_faults
        same_faults = ap faults_in kept ∙ no_fault_more old.system.store.history call_entry (no_faults asked refl)

        pub migrate_marked : IsMarked h opened (marks ++ made Migrate sid asked reply ∷ []) (migrate_left old machine told store old.drives)
        migrate_marked = marked_more h opened marks (made Migrate sid asked reply) old (migrate_left old machine told store old.drives) shows.marked refl kept (migrate_may before.migrate m machine knew sid asked goes)
            (subst (λ (fs : List Fault). AreTrue h old.drives fs) (sym same_faults) shows.marked.faults) migrate_tallies

      pub migrate_called : (store : Store D) → store.history ≡ old.system.store.history ++ call_entry ∷ [] → Shows h opened (marks ++ made Migrate sid asked reply ∷ []) (migrate_left old machine (heard.Dm reply) store old.drives)
      migrate_called store kept = record {
        marked = migrate_marked (heard.Dm reply) store kept;
        recall = subst (λ (fs : List Fault). IfSome old.system.recall (RecallKnows h (shown old.system.limits nothing_shown (marks ++ made Migrate sid asked reply ∷ [])).recall old.drives fs)) (sym (same_faults (heard.Dm reply) store kept))
            (subst (λ (k : Shown). IfSome old.system.recall (RecallKnows h k.recall old.drives told_faults)) (sym (shown_more old.system.limits nothing_shown marks (made Migrate sid asked reply))) shows.recall);
        migrate = inr (subst (λ (k : Shown). IsShownAs (migrate.knows_by machine.limits machine.known machine.asked (heard.Dm reply)) k.migrate) (sym (shown_more old.system.limits nothing_shown marks (made Migrate sid asked reply))) (migrate_told before.migrate m machine knew old.system.limits sid asked reply goes));
        lost = lost_more_if h opened old.drives marks (made Migrate sid asked reply) old.system.recall not_recall shows.lost;
        stored = subst (λ (a : Act). HearsStored h old.drives a (heard.Dm reply)) (sym goes.asked) (hears_stored asked refl);
      }

    -- a rest, or what is heard of a copy
    pub migrate_went : (act : Act) (told : Heard) → IsNoCall act → migrator.StepsOn m.machine (told_next m.next) act machine → (drives : List M) → HaveGrown h old.drives drives → HearsStored h drives act told
        → Shows h opened (marks ++ []) (migrate_left old machine told old.system.store drives)
    migrate_went act told no_call goes drives grown about = record {
      marked = marked_still h opened marks old (migrate_left old machine told old.system.store drives) shows.marked refl refl grown;
      recall = subst (λ (ms : List Mark). IfSome old.system.recall (RecallKnows h (shown old.system.limits nothing_shown ms).recall drives told_faults)) (sym (append-nil marks)) (still_known_if h before.recall old.drives drives told_faults old.system.recall grown shows.recall);
      migrate = subst (λ (ms : List Mark). MigrateKnows (shown old.system.limits nothing_shown ms).migrate (record { machine = machine; next = Hears told })) (sym (append-nil marks)) (migrate_rests before.migrate m machine knew act told no_call goes);
      lost = subst (λ (ms : List Mark). IfSome old.system.recall (λ (x : Recalling). HearsLost h opened drives ms x.machine.asked (told_next x.next))) (sym (append-nil marks)) (lost_still_if h opened old.drives drives marks old.system.recall grown shows.lost);
      stored = subst (λ (a : Act). HearsStored h drives a told) (sym goes.asked) about;
    }
