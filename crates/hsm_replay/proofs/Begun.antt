-- Passes that began in a settle.
use Rattle.std.proofs.Common.{◌≡◌, ◌∙◌, ◌++◌, ◌∷◌, [], List, inl, inr, refl, sym, ap, ap₂, subst, append_assoc, Contains}
use Rattle.std.specs.List.{AllByRecursion}
use Rattle.hsm_types.specs.declared.daemons.Daemon.{Daemon}
use Rattle.hsm_types.specs.declared.daemons.Daemon.TheVariants.{Recall, Migrate}
use Rattle.hsm_types.specs.declared.dm.DmCall.{DmCall}
use Rattle.hsm_types.specs.declared.dm.DmCall.TheVariants.{GetTable}
use Rattle.hsm_types.specs.declared.dm.DmReply.{DmReply}
use Rattle.hsm_types.specs.declared.dm.DmReply.TheVariants.{Table as TheTable}
use Rattle.hsm_types.specs.declared.keys.Sid.{Sid}
use Rattle.hsm_types.specs.declared.tables.Table.{Table}
use Rattle.plain_model.specs.declared.entries.Action.TheVariants.{Dm}
use Rattle.plain_model.specs.declared.entries.Actor.TheVariants.{Caller, Session}
use Rattle.plain_model.specs.declared.entries.Answer.TheVariants.{Dm as Told}
use Rattle.plain_model.specs.declared.entries.Entry.{Entry}
use Rattle.hsm_policy.specs.Settings.{Numbers}
use Rattle.hsm_core.specs.Answers.{entry_of}
use Rattle.marked_history.specs.Follows.{IsMadeBy, IsOfSettling}
use Rattle.marked_history.specs.Marks.{Mark, entries_of, made}
use Rattle.marked_history.specs.Served.{Shown, nothing_shown, shown, MayCall, IsServedBy, ServedFrom, Served}
use Rattle.marked_history.specs.Settling.{BeginsPass}
use Rattle.hsm_replay.specs.Freshness.{IsToldTable}
use Rattle.marked_history.proofs.Lists.{all_at, none_in, first_or_rest, stands_in}
use Rattle.hsm_replay.proofs.TurnedAway.{served_at}

-- where an entry is marked
abbrev IsMarkedIn : List Mark → Entry → Type 0
IsMarkedIn marks e = (first : List Mark) × (m : Mark) × (rest : List Mark) × (marks ≡ first ++ m ∷ rest) × (m.entry ≡ e)

marked_in : (marks : List Mark) (e : Entry) → Contains (entries_of marks) e → IsMarkedIn marks e
marked_in [] e there = absurd (none_in e there)
marked_in (m ∷ marks) e there = elim (first_or_rest m.entry (entries_of marks) e there) [
  | inl same ↦ ([], m, marks, refl, same)
  | inr behind ↦ let later = marked_in marks e behind in (m ∷ later.0, later.1, later.2, ap (λ (ms : List Mark). m ∷ ms) later.3, later.4)
]

abbrev told_table : Sid → Table → Entry
told_table sid table = entry_of (Session sid) (Dm GetTable) (Told (TheTable table))

-- recall never asks for the table
asks_for_table : (daemon : Daemon) (k : Shown) (sid : Sid) → MayCall daemon k sid GetTable → daemon ≡ Migrate
asks_for_table Recall k sid may = absurd may
asks_for_table Migrate k sid may = refl

module _ (k : Shown) (m : Mark) (sid : Sid) (table : Table) (is : m.entry ≡ told_table sid table) (served : IsServedBy m.by k m) where
  table_made : (daemon : Daemon) → IsMadeBy daemon m → m ≡ made daemon sid GetTable (TheTable table)
  table_made daemon by =
      let same : entry_of (Session by.0) (Dm by.1) (Told by.2) ≡ told_table sid table = sym (ap (λ (x : Mark). x.entry) by.3) ∙ is in
      let who : Session by.0 ≡ Session sid = ap (λ (x : Entry). x.actor) same in
      let what : Dm by.1 ≡ Dm GetTable = ap (λ (x : Entry). x.action) same in
      let answer : Told by.2 ≡ Told (TheTable table) = ap (λ (x : Entry). x.answer) same in
      let own : by.0 ≡ sid = cc in
      let asked : by.1 ≡ GetTable = cc in
      let told : by.2 ≡ TheTable table = cc in
      by.3 ∙ ap (λ (x : Sid). made daemon x by.1 by.2) own ∙ ap₂ (λ (c : DmCall) (r : DmReply). made daemon sid c r) asked told

  made_by : (daemon : Daemon) → m ≡ made daemon sid GetTable (TheTable table) → m ≡ made Migrate sid GetTable (TheTable table)
  made_by daemon so =
      let may : MayCall daemon k sid GetTable = subst (λ (x : Mark). IsServedBy x.by k x) so served in
      so ∙ ap (λ (d : Daemon). made d sid GetTable (TheTable table)) (asks_for_table daemon k sid may)

  made_by_migration : IsOfSettling m → m ≡ made Migrate sid GetTable (TheTable table)
  made_by_migration (inl by) = made_by by.0 (table_made by.0 by.1)
  made_by_migration (inr resume) = absurd (let wrong : Caller resume.0 ≡ Session sid = ap (λ (x : Entry). x.actor) (sym (ap (λ (x : Mark). x.entry) resume.3) ∙ is) in cc)

-- a table that was told in a settle began a pass of migration
pub begins_pass : (limits : Numbers) (before part : List Mark) → Served limits (before ++ part) → AllByRecursion IsOfSettling part → IsToldTable (entries_of part) → BeginsPass part
begins_pass limits before part served settles told =
    let sid : Sid = told.0 in
    let table : Table = told.1 in
    let at : IsMarkedIn part (told_table sid table) = marked_in part (told_table sid table) told.2 in
    let all : before ++ part ≡ (before ++ at.0) ++ at.1 ∷ at.2 = ap (λ (ms : List Mark). before ++ ms) at.3 ∙ sym (append_assoc before at.0 (at.1 ∷ at.2)) in
    let by : IsServedBy at.1.by (shown limits nothing_shown (before ++ at.0)) at.1 = served_at limits nothing_shown (before ++ at.0) at.1 at.2 (subst (λ (ms : List Mark). ServedFrom limits nothing_shown ms) all served) in
    let own = made_by_migration (shown limits nothing_shown (before ++ at.0)) at.1 sid table at.4 by (all_at IsOfSettling at.0 at.1 at.2 (subst (λ (ms : List Mark). AllByRecursion IsOfSettling ms) at.3 settles)) in
    let within : Contains (at.0 ++ at.1 ∷ at.2) (made Migrate sid GetTable (TheTable table)) = subst (λ (x : Mark). Contains (at.0 ++ at.1 ∷ at.2) x) own (stands_in at.0 at.1 at.2) in
    (sid, table, subst (λ (ms : List Mark). Contains ms (made Migrate sid GetTable (TheTable table))) (sym at.3) within)
