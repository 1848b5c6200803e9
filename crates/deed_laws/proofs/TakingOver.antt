-- In deeds that are served a daemon takes the place only of a session of which it was told that it has its information.
use Rattle.std.proofs.Common.{◌≡◌, ◌≢◌, ◌∙◌, ◌∷◌, ◌++◌, [], ℕ, Bool, true, false, All, List, Option, Some, None, inl, inr, refl, sym, ap, subst}
use Rattle.std.proofs.Common.{append_assoc}
use Rattle.std.specs.Str.{bytes_eq}
use Rattle.std.proofs.lemmas.List.Elements.{All-nil, All-push}
use Rattle.std.proofs.lemmas.Option.{none-some, same_Some}
use Rattle.std.proofs.lemmas.Slice.Eq.{bytes_eq-Decides}
use Rattle.hsm_types.specs.Daemons.{information}
use Rattle.hsm_types.specs.declared.daemons.Act.TheVariants as act
use Rattle.hsm_types.specs.declared.daemons.Daemon.{Daemon}
use Rattle.hsm_types.specs.declared.daemons.Daemon.TheVariants.{Recall, Migrate}
use Rattle.hsm_types.specs.declared.daemons.Heard.TheVariants as heard
use Rattle.hsm_types.specs.declared.dm.DmCall.{DmCall}
use Rattle.hsm_types.specs.declared.dm.DmCall.TheVariants as call
use Rattle.hsm_types.specs.declared.dm.DmReply.{DmReply}
use Rattle.hsm_types.specs.declared.dm.DmReply.TheVariants as reply
use Rattle.hsm_types.specs.declared.keys.Sid.{Sid}
use Rattle.hsm_policy.specs.Settings.{Numbers}
use Rattle.daemon_session.specs.Seats.{Seat, first_id, MayMake}
use Rattle.marked_history.proofs.Ways.{Way, way_of, no_way, way_told, way_next}
use Rattle.deeds.specs.Deeds.{Deed, Gives}
use Rattle.deeds.specs.Leads.{nothing_done, Leads}
use Rattle.deeds.specs.Lives.{Workings, Living, Move, Asks, Learns, hearing, life, IsMoveOf}
use Rattle.deeds.specs.Lives.{MovesTo, Lives}
use Rattle.deeds.proofs.Finding.{moves_are_deeds}
use Rattle.deeds.proofs.Leading.{leads_through}
use Rattle.hsm_system.specs.Lives.{recalls, migrates}
use Rattle.deed_laws.specs.DaemonSessions.{StaysOn, IsKnownAs, ServedTakesOver}
use Rattle.deed_laws.proofs.Sitting.{HasGiven, Sits, Sound, along}
use Rattle.deed_laws.proofs.KnownOnTheWay.{HearsOn, KeepsWay, Both, KnowsWay, way_on}
use Rattle.deed_laws.proofs.Machines.{recall_sits, migrate_sits}

module _ (d : Daemon) where
  abbrev told_own : Sid → Move
  told_own old = Learns (act.Dm first_id (call.QuerySession old)) (heard.Dm (reply.Info (information d)))

  -- it was told so of it, and goes on there
  record IsToldOf (old : Sid) (moves : List Move) : Type 0 where
    before : List Move
    since : List Move
    parted : moves ≡ before ++ told_own old ∷ since
    last : All StaysOn since

  -- so it is of the session that is found
  abbrev Found : List Move → Way → Type 0
  Found moves way = (old : Sid) → way.found ≡ Some old → IsToldOf old moves

  none_found : (moves : List Move) → Found moves no_way
  none_found moves old own = absurd (none-some _ own)

  found_more : (moves : List Move) (next : Move) → StaysOn next → (way : Way) → Found moves way → Found (moves ++ next ∷ []) way
  found_more moves next stays way is old own =
      let one = is old own in
      record { before = one.before; since = one.since ++ next ∷ []; parted = ap (λ (l : List Move). l ++ next ∷ []) one.parted ∙ append_assoc one.before (told_own old ∷ one.since) (next ∷ []); last = All-push StaysOn one.since next one.last stays }

  -- ---- an answer

  module _ (moves : List Move) (x : Sid) (way : Way) (is : Found moves way) where
    abbrev Next : DmCall → DmReply → Way → Type 0
    Next c a next = Found (moves ++ Learns (act.Dm x c) (heard.Dm a) ∷ []) next

    found_told : (target : Sid) (info : List ℕ) → x ≡ first_id → (b : Bool) → bytes_eq info (information d) ≡ b → Next (call.QuerySession target) (reply.Info info) (way_told b target way)
    found_told target info first true own old same =
        let it : target ≡ old = same_Some target old same in
        let its : info ≡ information d = (bytes_eq-Decides info (information d)).0 own in
        record {
          before = moves;
          since = [];
          parted = λ i. moves ++ Learns (act.Dm (first i) (call.QuerySession (it i))) (heard.Dm (reply.Info (its i))) ∷ [];
          last = All-nil StaysOn;
        }
    found_told target info first false own old same = found_more moves (Learns (act.Dm x (call.QuerySession target)) (heard.Dm (reply.Info info))) tt way is old same

    found_queried : (target : Sid) (a : DmReply) → x ≡ first_id → Next (call.QuerySession target) a (way_next d way (call.QuerySession target) a)
    found_queried target (reply.Info info) first = found_told target info first (bytes_eq info (information d)) refl
    found_queried target a first = found_more moves (Learns (act.Dm x (call.QuerySession target)) (heard.Dm a)) tt way is

    found_all : (a : DmReply) → Next call.GetAllSessions a (way_next d way call.GetAllSessions a)
    found_all (reply.Sids ids) = λ old own. absurd (none-some _ own)
    found_all a = none_found (moves ++ Learns (act.Dm x call.GetAllSessions) (heard.Dm a) ∷ [])

    found_answer : (s : Seat) (c : DmCall) (a : DmReply) → HasGiven d s (act.Dm x c) → Next c a (way_next d way c a)
    found_answer s call.GetAllSessions a given = found_all a
    found_answer s (call.CreateSession old info) a given = none_found (moves ++ Learns (act.Dm x (call.CreateSession old info)) (heard.Dm a) ∷ [])
    found_answer s (call.QuerySession target) a given = found_queried target a given.0.0
    found_answer s c a given = found_more moves (Learns (act.Dm x c) (heard.Dm a)) tt way is

  -- ---- along a life

  found_heard : (moves : List Move) (move : Move) → HearsOn d (Found moves) (Found (moves ++ move ∷ [])) move
  found_heard moves (Learns (act.Dm x c) (heard.Dm a)) = λ s given is. found_answer moves x (way_of s) is s c a given
  found_heard moves move = tt

  found_kept : (moves : List Move) (move : Move) → KeepsWay d (Found moves) (Found (moves ++ move ∷ [])) move
  found_kept moves move = record { none = none_found (moves ++ move ∷ []); stays = found_more moves move; hears = found_heard moves move }

  module _ {M : Type 0} (w : Workings M) (sits : Sits d w) where
    abbrev Knowing : List Move → Option (Living M) → Type 0
    Knowing moves r = KnowsWay d w sits (Found moves) r

    knows_on : (moves : List Move) (move : Move) (old new : Option (Living M)) → MovesTo w move old new → Sound d w sits old → Knowing moves old → Knowing (moves ++ move ∷ []) new
    knows_on moves move old new to sound is = way_on d w sits (Found moves) (Found (moves ++ move ∷ [])) move old new (found_kept moves move) to sound is

    -- ---- a call for a session in the place of one

    made_one : (s : Seat) (old : Sid) → old.0 ≢ 0 → MayMake s old → s.found ≡ Some old
    made_one s old taken (inl none) = absurd (taken none.0)
    made_one s old taken (inr own) = own

    made_so : (moves : List Move) (sid old : Sid) (info : List ℕ) (at next : Option (Living M)) → old.0 ≢ 0 → Lives w moves None at → MovesTo w (Asks (act.Dm sid (call.CreateSession old info))) at next → IsToldOf old moves
    made_so moves sid old info at next taken lives to =
        let knows : Knowing moves at = along d w sits Knowing knows_on moves [] None at lives tt tt in
        let was : Both d w sits (Found moves) (hearing to.0 (Some to.1)) = subst (Knowing moves) to.3 knows in
        was.now old (made_one (sits.told to.0 to.1) old taken (sits.may to.0 to.1 sid (call.CreateSession old info) to.2 to.4).2)

-- ---- the law

told_deed : (d : Daemon) (old : Sid) (deeds : List Deed) → IsToldOf d old (life d deeds) → IsKnownAs d old deeds
told_deed d old deeds is =
    let at : IsMoveOf d deeds is.before (told_own d old) is.since = moves_are_deeds d deeds is.before (told_own d old) is.since is.parted in
    record { before = at.first; since = at.rest; parted = at.parted; last = subst (All StaysOn) (sym at.behind_it) is.last }

pub takes_over : (limits : Numbers) (deeds : List Deed) → ServedTakesOver limits deeds
takes_over limits deeds (end, leads) before d sid old info rest taken parted = by d (subst (λ (ds : List Deed). Leads recalls (migrates limits) ds nothing_done end) parted leads)
  where
    by : (d : Daemon) → Leads recalls (migrates limits) (before ++ Gives d (act.Dm sid (call.CreateSession old info)) ∷ rest) nothing_done end → IsKnownAs d old before
    by Recall led =
        let mid = leads_through recalls (migrates limits) before (Gives Recall (act.Dm sid (call.CreateSession old info)) ∷ rest) nothing_done end led in
        told_deed Recall old before (made_so Recall recalls recall_sits (life Recall before) sid old info mid.0.recall mid.2.recall.0 taken mid.1.recall mid.2.recall.1)
    by Migrate led =
        let mid = leads_through recalls (migrates limits) before (Gives Migrate (act.Dm sid (call.CreateSession old info)) ∷ rest) nothing_done end led in
        told_deed Migrate old before (made_so Migrate (migrates limits) (migrate_sits limits) (life Migrate before) sid old info mid.0.migrate mid.2.migrate.0 taken mid.1.migrate mid.2.migrate.1)
