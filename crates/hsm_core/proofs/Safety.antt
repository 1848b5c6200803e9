-- What a crash may leave of a store, after one event more.
use Rattle.std.proofs.Common.{◌≡◌, ◌⊎◌, inl, inr, ⊎_elim, ℕ, ◌+◌, ◌≤◌, List, [], ◌∷◌, ◌++◌, length, take, Bool, true, false, refl, sym, ◌∙◌, ap}
use Rattle.std.proofs.Common.{subst, arith, length-append}
use Rattle.std.proofs.lemmas.List.{take-append-le, take_all}
use Rattle.std.specs.Prelude.{if◌then◌else◌}
use Rattle.disk_model.specs.declared.device.Disk as disk
use Rattle.disk_model.specs.Moments.{MayBe, LeavesOnly}
use Rattle.disk_model.proofs.Steps.{started, joined, weakened}
use Rattle.plain_model.specs.declared.entries.Entry.{Entry}
use Rattle.plain_model.specs.State.{Held, State}
use Rattle.plain_model.specs.Exact.{held_by}
use Rattle.plain_model.specs.Synced.{is_sync, synced}
use Rattle.plain_model.proofs.Syncing.{synced_laws}
use Rattle.file_store.specs.Stores.{Store as FileStore, superblock_of, IsRecovered, IsDurable, IsEither, Proceeds}
use Rattle.hsm_core.specs.Store.{Store, last_number, HasRun}
use Rattle.hsm_core.specs.Crashes.{IsPrefix, IsSynced, IsUpTo, IsSafe}

-- ---- prefixes

module _ {D : Type 0} (opened : FileStore D) where
  -- more entries after it
  prefix_longer : (low : ℕ) (history more : List Entry) (c : List ℕ) → IsPrefix opened history low c → IsPrefix opened (history ++ more) low c
  prefix_longer low history more c p = record {
    n = p.n;
    from = p.from;
    to = omega (arith, p.to, length-append history more);
    found = subst (λ (es : List Entry). IsRecovered opened.meta.durable.geometry opened.meta.fsid (opened.meta.number + p.n) (held_by (superblock_of opened) opened.meta.number opened.held es) c) (sym (take-append-le p.n history more p.to)) p.found;
  }

  prefix_lower : (low less : ℕ) (history : List Entry) (c : List ℕ) → less ≤ low → IsPrefix opened history low c → IsPrefix opened history less c
  prefix_lower low less history c le p = record { n = p.n; from = omega (arith, le, p.from); to = p.to; found = p.found }

all_taken : (es : List Entry) → take (length es) es ≡ es
all_taken es = take_all (length es) es (omega arith)

-- ---- of a store that works

-- it holds what its history leaves
held_now : {D : Type 0} {g : disk.Ghosts D} (s : Store D) → HasRun g s → s.files.failed ≡ false → s.files.held ≡ held_by (superblock_of s.opened) s.opened.meta.number s.opened.held s.history
held_now s run working = ap (λ (st : State). st.held) (run.state working)

-- what was made durable last has no greater number than the last entry
pub rises_now : {D : Type 0} {g : disk.Ghosts D} (s : Store D) → IsSafe g s → s.files.failed ≡ false → s.files.meta.number ≤ last_number s
rises_now s safe working = let up = safe.durable working in omega (arith, up.number, up.to)

module _ {D : Type 0} (g : disk.Ghosts D) (s : Store D) (run : HasRun g s) where
  formatted : (c : List ℕ) (n : ℕ) (h : Held) → IsRecovered s.files.meta.durable.geometry s.files.meta.fsid n h c → IsRecovered s.opened.meta.durable.geometry s.opened.meta.fsid n h c
  formatted c n h is = subst (λ (z : ℕ). IsRecovered z s.opened.meta.fsid n h c) run.geometry (subst (λ (z : ℕ). IsRecovered s.files.meta.durable.geometry z n h c) run.fsid is)

  -- what was made durable
  from_durable : IsUpTo s → (c : List ℕ) → IsDurable s.files c → IsPrefix s.opened s.history (synced s.history) c
  from_durable up c is = record {
    n = up.n;
    from = up.from;
    to = up.to;
    found = subst (λ (h : Held). IsRecovered s.opened.meta.durable.geometry s.opened.meta.fsid (s.opened.meta.number + up.n) h c) up.holds
        (subst (λ (n : ℕ). IsRecovered s.opened.meta.durable.geometry s.opened.meta.fsid n s.files.durable c) up.number (formatted c s.files.meta.number s.files.durable is));
  }

  -- what is held is what all entries have left
  from_held : s.files.failed ≡ false → (c : List ℕ) → IsRecovered s.files.meta.durable.geometry s.files.meta.fsid (last_number s) s.files.held c → IsPrefix s.opened s.history (length s.history) c
  from_held working c is = record {
    n = length s.history;
    from = omega arith;
    to = omega arith;
    found = subst (λ (es : List Entry). IsRecovered s.opened.meta.durable.geometry s.opened.meta.fsid (s.opened.meta.number + length s.history) (held_by (superblock_of s.opened) s.opened.meta.number s.opened.held es) c) (sym (all_taken s.history))
        (subst (λ (h : Held). IsRecovered s.opened.meta.durable.geometry s.opened.meta.fsid (s.opened.meta.number + length s.history) h c) (held_now s run working) (formatted c (last_number s) s.files.held is));
  }

  either : IsSafe g s → s.files.failed ≡ false → (c : List ℕ) → IsEither s.files (last_number s) c → IsPrefix s.opened s.history (synced s.history) c
  either safe working c is = ⊎_elim (from_durable (safe.durable working) c) (λ held. prefix_lower s.opened (length s.history) (synced s.history) s.history c (synced_laws s.history).within (from_held working c held)) is

  -- a crash in the next event
  pub safe_within : (t : Store D) → IsSafe g s → s.files.failed ≡ false → Proceeds g s.files (last_number s) t.files → LeavesOnly g s.files.disk t.files.disk (IsPrefix s.opened s.history (synced s.history))
  safe_within t safe working proceeds = weakened g s.files.disk t.files.disk (IsEither s.files (last_number s)) (IsPrefix s.opened s.history (synced s.history)) (either safe working) proceeds.moments

-- ---- an event more

-- what was made durable, where nothing was kept of the event
up_unkept : {D : Type 0} {g : disk.Ghosts D} (s t : Store D) → HasRun g s → IsUpTo s → s.files.failed ≡ false → t.opened ≡ s.opened → t.history ≡ s.history
    → (t.files.meta.number ≡ s.files.meta.number) × (t.files.durable ≡ s.files.durable) ⊎ (t.files.meta.number ≡ last_number s) × (t.files.durable ≡ s.files.held) → IsUpTo t
up_unkept s t run up working opened history (inl same) = record {
  n = up.n;
  from = rw history up.from;
  to = rw history up.to;
  number = same.0 ∙ rw opened up.number;
  holds = same.1 ∙ rw (opened, history) up.holds;
}
up_unkept s t run up working opened history (inr new) = record {
  n = length s.history;
  from = rw history (synced_laws s.history).within;
  to = rw history (omega arith);
  number = new.0 ∙ rw opened refl;
  holds = new.1 ∙ held_now s run working ∙ rw (opened, history, all_taken s.history) refl;
}

-- where an entry was, and a sync or a commit has made all durable
up_kept : {D : Type 0} (g : disk.Ghosts D) (s t : Store D) (e : Entry) → HasRun g s → IsUpTo s → s.files.failed ≡ false → t.opened ≡ s.opened → t.history ≡ s.history ++ e ∷ []
    → (is_sync e ≡ true → IsSynced g (last_number s) s.files t.files)
    → (t.files.meta.number ≡ s.files.meta.number) × (t.files.durable ≡ s.files.durable) ⊎ (t.files.meta.number ≡ last_number s) × (t.files.durable ≡ s.files.held) → IsUpTo t
up_kept g s t e run up working opened history syncs made = at (is_sync e) refl made
  where
    longer : length t.history ≡ length s.history + 1
    longer = omega (arith, ap length history, length-append s.history (e ∷ []))

    counted : (b : Bool) → is_sync e ≡ b → synced t.history ≡ (if b then length s.history else synced s.history)
    counted b is = ap synced history ∙ (synced_laws s.history).more e ∙ ap (λ b. if b then length s.history else synced s.history) is

    whole : synced t.history ≤ length s.history → (t.files.meta.number ≡ last_number s) → (t.files.durable ≡ s.files.held) → IsUpTo t
    whole few number durable = record {
      n = length s.history;
      from = few;
      to = omega (arith, longer);
      number = number ∙ rw opened refl;
      holds = durable ∙ held_now s run working ∙ rw (opened, history, take-append-le (length s.history) s.history (e ∷ []) (omega arith), all_taken s.history) refl;
    }

    at : (b : Bool) → is_sync e ≡ b → (t.files.meta.number ≡ s.files.meta.number) × (t.files.durable ≡ s.files.durable) ⊎ (t.files.meta.number ≡ last_number s) × (t.files.durable ≡ s.files.held) → IsUpTo t
    at true is made = whole (omega (arith, counted true is)) (syncs is).number (syncs is).durable
    at false is (inr new) = whole (omega (arith, counted false is, (synced_laws s.history).within)) new.0 new.1
    at false is (inl same) = record {
      n = up.n;
      from = omega (arith, counted false is, up.from);
      to = omega (arith, longer, up.to);
      number = same.0 ∙ rw opened up.number;
      holds = same.1 ∙ rw (opened, history, take-append-le up.n s.history (e ∷ []) up.to) up.holds;
    }

module _ {D : Type 0} (g : disk.Ghosts D) (s t : Store D) (run : HasRun g s) (safe : IsSafe g s) (working : s.files.failed ≡ false) (opened : t.opened ≡ s.opened) (proceeds : Proceeds g s.files (last_number s) t.files) where
  moments : LeavesOnly g s.opened.disk t.files.disk (IsPrefix s.opened s.history 0)
  moments = joined g s.opened.disk s.files.disk t.files.disk _ safe.since
      (weakened g s.files.disk t.files.disk _ _ (λ c is. prefix_lower s.opened (synced s.history) 0 s.history c (omega arith) (either g s run safe working c is)) proceeds.moments)

  -- from now on, at least what was synced before
  now_before : (c : List ℕ) → MayBe g t.files.disk c → IsPrefix s.opened s.history (synced s.history) c
  now_before c may = either g s run safe working c (proceeds.now c may)

  -- and after a sync all that was held
  now_synced : IsSynced g (last_number s) s.files t.files → (c : List ℕ) → MayBe g t.files.disk c → IsPrefix s.opened s.history (length s.history) c
  now_synced syncs c may = from_held g s run working c
      (subst (λ (z : ℕ). IsRecovered z s.files.meta.fsid (last_number s) s.files.held c) proceeds.geometry
      (subst (λ (z : ℕ). IsRecovered t.files.meta.durable.geometry z (last_number s) s.files.held c) proceeds.fsid
      (subst (λ (z : ℕ). IsRecovered t.files.meta.durable.geometry t.files.meta.fsid z s.files.held c) syncs.number
      (subst (λ (h : Held). IsRecovered t.files.meta.durable.geometry t.files.meta.fsid t.files.meta.number h c) syncs.durable (syncs.found c may)))))

  pub safe_unkept : t.history ≡ s.history → t.files.failed ≡ false → IsSafe g t
  safe_unkept history still = record {
    since = rw (opened, history) moments;
    durable = λ works. up_unkept s t run (safe.durable working) working opened history proceeds.durable;
    now = rw (opened, history) now_before;
  }

  -- an entry more, which syncs or not
  now_kept : (e : Entry) (b : Bool) → is_sync e ≡ b → (is_sync e ≡ true → IsSynced g (last_number s) s.files t.files) → (c : List ℕ) → MayBe g t.files.disk c → IsPrefix s.opened (s.history ++ e ∷ []) (synced (s.history ++ e ∷ [])) c
  now_kept e true is syncs c may =
      let count : synced (s.history ++ e ∷ []) ≡ length s.history = (synced_laws s.history).more e ∙ ap (λ b. if b then length s.history else synced s.history) is in
      rw count (prefix_longer s.opened (length s.history) s.history (e ∷ []) c (now_synced (syncs is) c may))
  now_kept e false is syncs c may =
      let count : synced (s.history ++ e ∷ []) ≡ synced s.history = (synced_laws s.history).more e ∙ ap (λ b. if b then length s.history else synced s.history) is in
      rw count (prefix_longer s.opened (synced s.history) s.history (e ∷ []) c (now_before c may))

  pub safe_kept : (e : Entry) → t.history ≡ s.history ++ e ∷ [] → t.files.failed ≡ false → (is_sync e ≡ true → IsSynced g (last_number s) s.files t.files) → IsSafe g t
  safe_kept e history still syncs = record {
    since = rw (opened, history) (weakened g s.opened.disk t.files.disk _ _ (λ c p. prefix_longer s.opened 0 s.history (e ∷ []) c p) moments);
    durable = λ works. up_kept g s t e run (safe.durable working) working opened history syncs proceeds.durable;
    now = rw (opened, history) (now_kept e (is_sync e) refl syncs);
  }

  pub safe_faulted : (e : Entry) → t.history ≡ s.history ++ e ∷ [] → is_sync e ≡ false → t.files.failed ≡ true → IsSafe g t
  safe_faulted e history plain closed = record {
    since = rw (opened, history) (weakened g s.opened.disk t.files.disk _ _ (λ c p. prefix_longer s.opened 0 s.history (e ∷ []) c p) moments);
    durable = λ works. absurd cc;
    now = rw (opened, history) (now_kept e (is_sync e) refl (λ syncs. absurd cc));
  }

-- a store that was just opened
pub safe_opened : {D : Type 0} (g : disk.Ghosts D) (s : Store D) → s.opened ≡ s.files → s.history ≡ [] → s.files.failed ≡ false → s.files.held ≡ s.files.durable
    → ((c : List ℕ) → MayBe g s.files.disk c → IsDurable s.files c) → ((c : List ℕ) → g.left_since s.files.disk (g.moment s.files.disk) c → g.may_leave s.files.disk c) → IsSafe g s
safe_opened g s opened none working held found only_now = record {
  since = rw (opened, none) (started g s.files.disk (IsPrefix s.files [] 0) (λ c left. record {
    n = 0;
    from = omega arith;
    to = omega arith;
    found = rw held (subst (λ (n : ℕ). IsRecovered s.files.meta.durable.geometry s.files.meta.fsid n s.files.durable c) same (found c (inl (only_now c left))));
  }));
  durable = λ works. record { n = 0; from = rw none (omega arith); to = omega arith; number = rw opened same; holds = sym held ∙ rw opened refl };
  now = λ c may. rw (opened, none) (record { n = 0; from = omega arith; to = omega arith; found = rw held (subst (λ (n : ℕ). IsRecovered s.files.meta.durable.geometry s.files.meta.fsid n s.files.durable c) same (found c may)) });
}
  where
    same : s.files.meta.number ≡ s.files.meta.number + 0
    same = omega arith
