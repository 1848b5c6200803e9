-- A daemon whose last call was refused, as too many sessions live, or was told that there are no more events.
use Rattle.std.proofs.Common.{◌≡◌, ◌≢◌, ◌∙◌, ◌++◌, ◌∷◌, [], ℕ, List, None, Some, refl, sym, ap, ap₂, subst, append_assoc, append-nil}
use Rattle.std.specs.List.{AllByRecursion}
use Rattle.hsm_types.specs.Limits.{buffer_bytes}
use Rattle.hsm_types.specs.declared.daemons.Daemon.{Daemon}
use Rattle.hsm_types.specs.declared.daemons.Daemon.TheVariants.{Recall, Migrate}
use Rattle.hsm_types.specs.declared.dm.DmCall.{DmCall}
use Rattle.hsm_types.specs.declared.dm.DmCall.TheVariants.{CreateSession, GetEvents}
use Rattle.hsm_types.specs.declared.dm.DmRefusal.TheVariants.{Again, TooMany}
use Rattle.hsm_types.specs.declared.dm.DmReply.{DmReply}
use Rattle.hsm_types.specs.declared.dm.DmReply.TheVariants.{Refused}
use Rattle.hsm_types.specs.declared.keys.Sid.{Sid}
use Rattle.plain_model.specs.declared.entries.Action.TheVariants.{Dm}
use Rattle.plain_model.specs.declared.entries.Actor.TheVariants.{Session}
use Rattle.plain_model.specs.declared.entries.Answer.TheVariants.{Dm as Told}
use Rattle.plain_model.specs.declared.entries.Entry.{Entry}
use Rattle.hsm_policy.specs.Settings.{Numbers}
use Rattle.daemon_session.specs.Seats.{first_id}
use Rattle.hsm_core.specs.Answers.{entry_of}
use Rattle.marked_history.specs.Follows.{IsMadeBy}
use Rattle.marked_history.specs.Marks.{Mark, entries_of, made}
use Rattle.marked_history.specs.Served.{Shown, nothing_shown, learned, shown, MayCall, IsServedBy, ServedFrom, Served}
use Rattle.marked_history.specs.Settling.{IsToldNoMore, IsTurnedAway}
use Rattle.marked_history.specs.Waiting.{no_more}
use Rattle.hsm_replay.specs.Resting.{EndsInTurns}
use Rattle.marked_history.proofs.Lists.{all_weaker}

-- ---- the last entry of a turn

-- a session was refused as too many live
abbrev pub IsRefusedOne : Entry → Type 0
IsRefusedOne e = (sid : Sid) × (old : Sid) × (info : List ℕ) × (count : ℕ) × (e ≡ entry_of (Session sid) (Dm (CreateSession old info)) (Told (Refused (TooMany count))))

-- the last of the entries is that
abbrev pub EndsRefused : List Entry → Type 0
EndsRefused entries = (first : List Entry) × (e : Entry) × (entries ≡ first ++ e ∷ []) × IsRefusedOne e

-- the daemon's call, as it is marked
abbrev pub refused_one : Daemon → Sid → Sid → List ℕ → ℕ → Mark
refused_one daemon sid old info count = made daemon sid (CreateSession old info) (Refused (TooMany count))

-- the last of the marks is that
abbrev pub EndsAway : Daemon → List Mark → Type 0
EndsAway daemon marks = (first : List Mark) × (sid : Sid) × (old : Sid) × (info : List ℕ) × (count : ℕ) × (marks ≡ first ++ refused_one daemon sid old info count ∷ [])

last_away : (daemon : Daemon) (marks : List Mark) (first : List Entry) (e : Entry) → AllByRecursion (IsMadeBy daemon) marks → entries_of marks ≡ first ++ e ∷ [] → IsRefusedOne e → EndsAway daemon marks
last_away daemon [] [] e all is one = absurd cc
last_away daemon [] (x ∷ first) e all is one = absurd cc
last_away daemon (m ∷ []) [] e all is one =
    let entry : m.entry ≡ e = cc in
    let by = all.0 in
    let same : entry_of (Session by.0) (Dm by.1) (Told by.2) ≡ entry_of (Session one.0) (Dm (CreateSession one.1 one.2)) (Told (Refused (TooMany one.3))) = sym (ap (λ (x : Mark). x.entry) by.3) ∙ entry ∙ one.4 in
    let what : Dm by.1 ≡ Dm (CreateSession one.1 one.2) = ap (λ (x : Entry). x.action) same in
    let answer : Told by.2 ≡ Told (Refused (TooMany one.3)) = ap (λ (x : Entry). x.answer) same in
    let asked : by.1 ≡ CreateSession one.1 one.2 = cc in
    let told : by.2 ≡ Refused (TooMany one.3) = cc in
    ([], by.0, one.1, one.2, one.3, ap (λ (x : Mark). x ∷ []) (by.3 ∙ ap₂ (λ (c : DmCall) (r : DmReply). made daemon by.0 c r) asked told))
last_away daemon (m ∷ n ∷ marks) [] e all is one = absurd cc
last_away daemon (m ∷ marks) (x ∷ first) e all is one =
    let later : entries_of marks ≡ first ++ e ∷ [] = cc in
    let found = last_away daemon marks first e all.1 later one in
    (m ∷ found.0, found.1, found.2, found.3, found.4, ap (λ (ms : List Mark). m ∷ ms) found.5)

pub ends_away : (daemon : Daemon) (marks : List Mark) (entries : List Entry) → AllByRecursion (IsMadeBy daemon) marks → entries_of marks ≡ entries → EndsRefused entries → EndsAway daemon marks
ends_away daemon marks entries all same refused = last_away daemon marks refused.0 refused.1 all (same ∙ refused.2) refused.3

-- ---- what it shows

pub shown_append : (limits : Numbers) (k : Shown) (marks more : List Mark) → shown limits k (marks ++ more) ≡ shown limits (shown limits k marks) more
shown_append limits k [] more = refl
shown_append limits k (m ∷ marks) more = shown_append limits (learned limits k m) marks more

module _ (limits : Numbers) (k : Shown) (marks : List Mark) where
  -- the daemon has no session then
  pub recall_away : EndsAway Recall marks → (shown limits k marks).recall.seat.sid ≡ None
  recall_away away =
      let last : List Mark = refused_one Recall away.1 away.2 away.3 away.4 ∷ [] in
      ap (λ (ms : List Mark). (shown limits k ms).recall.seat.sid) away.5 ∙ ap (λ (x : Shown). x.recall.seat.sid) (shown_append limits k away.0 last)

  pub migrate_away : EndsAway Migrate marks → (shown limits k marks).migrate.seat.sid ≡ None
  migrate_away away =
      let last : List Mark = refused_one Migrate away.1 away.2 away.3 away.4 ∷ [] in
      ap (λ (ms : List Mark). (shown limits k ms).migrate.seat.sid) away.5 ∙ ap (λ (x : Shown). x.migrate.seat.sid) (shown_append limits k away.0 last)

-- ---- the daemon is turned away

-- by what the marks before it have shown
pub served_at : (limits : Numbers) (k : Shown) (first : List Mark) (m : Mark) (rest : List Mark) → ServedFrom limits k (first ++ m ∷ rest) → IsServedBy m.by (shown limits k first) m
served_at limits k [] m rest served = served.0
served_at limits k (x ∷ first) m rest served = served_at limits (learned limits k x) first m rest served.1

-- no session asks for one
asks_as_none : (daemon : Daemon) (k : Shown) (sid old : Sid) (info : List ℕ) → MayCall daemon k sid (CreateSession old info) → sid ≡ first_id
asks_as_none Recall k sid old info may = may.0
asks_as_none Migrate k sid old info may = may.0

not_recalls : (m : Mark) → IsMadeBy Migrate m → m.by ≢ Some Recall
not_recalls m by is = let wrong : Some Migrate ≡ Some Recall = sym (ap (λ (x : Mark). x.by) by.3) ∙ is in cc wrong

module _ (limits : Numbers) (before part : List Mark) (served : Served limits (before ++ part)) where
  last_since : (daemon : Daemon) (first calls since : List Mark) → part ≡ first ++ (calls ++ since) → EndsAway daemon calls → AllByRecursion (λ (m : Mark). m.by ≢ Some daemon) since → IsTurnedAway daemon part
  last_since daemon first calls since parted away others =
      let earlier : List Mark = first ++ away.0 in
      let m : Mark = refused_one daemon away.1 away.2 away.3 away.4 in
      let whole : part ≡ earlier ++ m ∷ since = parted ∙ ap (λ (ms : List Mark). first ++ (ms ++ since)) away.5 ∙ ap (λ (ms : List Mark). first ++ ms) (append_assoc away.0 (m ∷ []) since) ∙ sym (append_assoc first away.0 (m ∷ since)) in
      let all : before ++ part ≡ (before ++ earlier) ++ m ∷ since = ap (λ (ms : List Mark). before ++ ms) whole ∙ sym (append_assoc before earlier (m ∷ since)) in
      let may : MayCall daemon (shown limits nothing_shown (before ++ earlier)) away.1 (CreateSession away.2 away.3) = served_at limits nothing_shown (before ++ earlier) m since (subst (λ (ms : List Mark). ServedFrom limits nothing_shown ms) all served) in
      record {
        first = earlier;
        old = away.2;
        info = away.3;
        count = away.4;
        since = since;
        parted = whole ∙ ap (λ (sid : Sid). earlier ++ refused_one daemon sid away.2 away.3 away.4 ∷ since) (asks_as_none daemon (shown limits nothing_shown (before ++ earlier)) away.1 away.2 away.3 may);
        last = others;
      }

  module _ (recall_turn migrate_turn : List Entry) (ends : EndsInTurns part recall_turn migrate_turn) where
    pub recall_turned_away : EndsRefused recall_turn → IsTurnedAway Recall part
    recall_turned_away refused = last_since Recall ends.before ends.recalls ends.migrates ends.parted (ends_away Recall ends.recalls recall_turn ends.by_recall ends.recalled refused)
        (all_weaker (IsMadeBy Migrate) (λ (m : Mark). m.by ≢ Some Recall) ends.migrates not_recalls ends.by_migrate)

    pub migrate_turned_away : EndsRefused migrate_turn → IsTurnedAway Migrate part
    migrate_turned_away refused = last_since Migrate (ends.before ++ ends.recalls) ends.migrates []
        (ends.parted ∙ sym (append_assoc ends.before ends.recalls ends.migrates) ∙ ap (λ (ms : List Mark). (ends.before ++ ends.recalls) ++ ms) (sym (append-nil ends.migrates)))
        (ends_away Migrate ends.migrates migrate_turn ends.by_migrate ends.migrated refused) tt

-- ---- the daemon was told that there are no more events

-- the daemon's call, as it is marked
abbrev pub told_no_more : Daemon → Sid → Mark
told_no_more daemon sid = made daemon sid (GetEvents 0 buffer_bytes) (Refused Again)

last_told : (daemon : Daemon) (marks : List Mark) (first : List Entry) (sid : Sid) → AllByRecursion (IsMadeBy daemon) marks → entries_of marks ≡ first ++ no_more sid ∷ [] → (calls : List Mark) × (marks ≡ calls ++ told_no_more daemon sid ∷ [])
last_told daemon [] [] sid all is = absurd cc
last_told daemon [] (x ∷ first) sid all is = absurd cc
last_told daemon (m ∷ []) [] sid all is =
    let entry : m.entry ≡ no_more sid = cc in
    let by = all.0 in
    let same : entry_of (Session by.0) (Dm by.1) (Told by.2) ≡ no_more sid = sym (ap (λ (x : Mark). x.entry) by.3) ∙ entry in
    let who : Session by.0 ≡ Session sid = ap (λ (x : Entry). x.actor) same in
    let what : Dm by.1 ≡ Dm (GetEvents 0 buffer_bytes) = ap (λ (x : Entry). x.action) same in
    let answer : Told by.2 ≡ Told (Refused Again) = ap (λ (x : Entry). x.answer) same in
    let own : by.0 ≡ sid = cc in
    let asked : by.1 ≡ GetEvents 0 buffer_bytes = cc in
    let told : by.2 ≡ Refused Again = cc in
    ([], ap (λ (x : Mark). x ∷ []) (by.3 ∙ ap (λ (x : Sid). made daemon x by.1 by.2) own ∙ ap₂ (λ (c : DmCall) (r : DmReply). made daemon sid c r) asked told))
last_told daemon (m ∷ n ∷ marks) [] sid all is = absurd cc
last_told daemon (m ∷ marks) (x ∷ first) sid all is =
    let later : entries_of marks ≡ first ++ no_more sid ∷ [] = cc in
    let found = last_told daemon marks first sid all.1 later in
    (m ∷ found.0, ap (λ (ms : List Mark). m ∷ ms) found.1)

told_since : (daemon : Daemon) (sid : Sid) (part first calls since : List Mark) → part ≡ first ++ (calls ++ since) → (own : List Mark) × (calls ≡ own ++ told_no_more daemon sid ∷ []) → AllByRecursion (λ (m : Mark). m.by ≢ Some daemon) since → IsToldNoMore daemon sid part
told_since daemon sid part first calls since parted told others =
    let m : Mark = told_no_more daemon sid in
    record {
      first = first ++ told.0;
      since = since;
      parted = parted ∙ ap (λ (ms : List Mark). first ++ (ms ++ since)) told.1 ∙ ap (λ (ms : List Mark). first ++ ms) (append_assoc told.0 (m ∷ []) since) ∙ sym (append_assoc first told.0 (m ∷ since));
      last = others;
    }

module _ (part : List Mark) (recall_turn migrate_turn : List Entry) (ends : EndsInTurns part recall_turn migrate_turn) (sid : Sid) (first : List Entry) where
  pub recall_told : recall_turn ≡ first ++ no_more sid ∷ [] → IsToldNoMore Recall sid part
  recall_told is = told_since Recall sid part ends.before ends.recalls ends.migrates ends.parted (last_told Recall ends.recalls first sid ends.by_recall (ends.recalled ∙ is))
      (all_weaker (IsMadeBy Migrate) (λ (m : Mark). m.by ≢ Some Recall) ends.migrates not_recalls ends.by_migrate)

  pub migrate_told : migrate_turn ≡ first ++ no_more sid ∷ [] → IsToldNoMore Migrate sid part
  migrate_told is = told_since Migrate sid part (ends.before ++ ends.recalls) ends.migrates []
      (ends.parted ∙ sym (append_assoc ends.before ends.recalls ends.migrates) ∙ ap (λ (ms : List Mark). (ends.before ++ ends.recalls) ++ ms) (sym (append-nil ends.migrates)))
      (last_told Migrate ends.migrates first sid ends.by_migrate (ends.migrated ∙ is)) tt
