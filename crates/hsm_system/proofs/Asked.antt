-- What a daemon knows when it has given its next act.
use Rattle.std.proofs.Common.{◌≡◌, ◌∙◌, List, [], ◌∷◌, false, None, inl, inr, refl, sym, ap, subst}
use Rattle.hsm_types.specs.declared.daemons.Act.{Act}
use Rattle.hsm_types.specs.declared.daemons.Act.TheVariants.{Dm, Idle}
use Rattle.hsm_types.specs.declared.daemons.Heard.{Heard}
use Rattle.hsm_types.specs.declared.daemons.Heard.TheVariants as heard
use Rattle.hsm_types.specs.declared.dm.DmCall.TheVariants.{CreateSession, GetEvents}
use Rattle.hsm_types.specs.declared.dm.DmReply.TheVariants.{Refused}
use Rattle.hsm_types.specs.declared.dm.DmRefusal.TheVariants.{Again}
use Rattle.hsm_policy.specs.Settings.{Numbers}
use Rattle.daemon_session.specs.declared.events.Kept.{Kept}
use Rattle.daemon_session.specs.Members.{IsRefusedOne}
use Rattle.daemon_session.specs.Seats.{all_marked, IsSeated}
use Rattle.recall_daemon.specs.Known as recall
use Rattle.recall_daemon.specs.Machine as recaller
use Rattle.migrate_daemon.specs.Known as migrate
use Rattle.migrate_daemon.specs.Machine as migrator
use Rattle.migrate_daemon.specs.Passes.{Pass}
use Rattle.hsm_system.specs.Asking.{AsksFrom, NonePutOff, IsEmptyHanded, RecallAsks, MigrateAsks}

-- ---- recall

pub none_put_off : (kept : List Kept) → NonePutOff (all_marked false kept)
none_put_off [] = tt
none_put_off (k ∷ more) = (refl, none_put_off more)

-- what lets it rest tells it nothing
pub recall_rest_knows : (k : recall.Known) (asked : Act) (told : Heard) → recall.MayRest (recall.knows_by k asked told) asked told → recall.knows_by k asked told ≡ k
recall_rest_knows k asked told (inl all) = rw (all.0.1, all.0.2) refl
recall_rest_knows k asked told (inr refused) = rw (refused.3, refused.4) refl

module _ (old : recaller.Machine) (told : Heard) (asks : RecallAsks old) where
  abbrev pub knows_now : recall.Known
  knows_now = recall.knows_by old.known old.asked told

  rest_hand : recall.MayRest knows_now old.asked told → knows_now.hand ≡ None
  rest_hand (inl all) = ap (λ (k : recall.Known). k.hand) (recall_rest_knows old.known old.asked told (inl all)) ∙ subst (λ (a : Act). IsEmptyHanded old.known a) all.0.1 asks.free
  rest_hand (inr refused) = ap (λ (k : recall.Known). k.hand) (recall_rest_knows old.known old.asked told (inr refused)) ∙ subst (λ (a : Act). IsEmptyHanded old.known a) refused.3 asks.free

  seat_on : (act : Act) → recall.MayGive knows_now old.asked told act → AsksFrom (recall.asks_by knows_now act).seat act
  seat_on (Dm sid (GetEvents most room)) may = may.0
  seat_on (Dm sid (CreateSession previous info)) may = refl
  seat_on act may = tt

  free_on : (act : Act) → recall.MayGive knows_now old.asked told act → IsEmptyHanded (recall.asks_by knows_now act) act
  free_on (Dm sid (GetEvents most room)) may = may.3
  free_on (Dm sid (CreateSession previous info)) may = refl
  free_on Idle may = (rest_hand may, none_put_off knows_now.seat.kept)
  free_on act may = tt

  pub recall_asks_on : (act : Act) (new : recaller.Machine) → recaller.StepsOn old told act new → RecallAsks new
  recall_asks_on act new goes = record {
    seat = subst (λ (k : recall.Known). AsksFrom k.seat new.asked) (sym goes.known) (subst (λ (a : Act). AsksFrom (recall.asks_by knows_now act).seat a) (sym goes.asked) (seat_on act goes.may));
    free = subst (λ (k : recall.Known). IsEmptyHanded k new.asked) (sym goes.known) (subst (λ (a : Act). IsEmptyHanded (recall.asks_by knows_now act) a) (sym goes.asked) (free_on act goes.may));
  }

  -- Where it rests, its session is set up and was told that there are no more events, or it has none.
  pub recall_rest_seated : (all : recall.HasAll old.asked told) → IsSeated old.known.seat all.0
  recall_rest_seated all = subst (λ (a : Act). AsksFrom old.known.seat a) all.1 asks.seat

-- ---- migration

abbrev pub migrate_knows : migrator.Machine → Heard → migrate.Known
migrate_knows old told = migrate.knows_by old.limits old.known old.asked told

module _ (old : migrator.Machine) (told : Heard) where
  migrate_seat_on : (pass : Pass) (act : Act) → migrator.MayGive old.limits (migrate_knows old told) old.pass pass old.asked told act → AsksFrom (migrate.asks_by (migrate_knows old told) act).seat act
  migrate_seat_on pass (Dm sid (GetEvents most room)) may = may.0.seated
  migrate_seat_on pass (Dm sid (CreateSession previous info)) may = refl
  migrate_seat_on pass act may = tt

  pub migrate_asks_on : (limits : Numbers) (act : Act) (new : migrator.Machine) → MigrateAsks limits old → migrator.StepsOn old told act new → MigrateAsks limits new
  migrate_asks_on limits act new asks goes = record {
    counts = goes.limits ∙ asks.counts;
    seat = subst (λ (k : migrate.Known). AsksFrom k.seat new.asked) (sym goes.known) (subst (λ (a : Act). AsksFrom (migrate.asks_by (migrate_knows old told) act).seat a) (sym goes.asked) (migrate_seat_on new.pass act goes.may));
    space = λ idle. let rests : act ≡ Idle = sym goes.asked ∙ idle in ap (λ (k : migrate.Known). k.space) goes.known ∙ subst (λ (a : Act). (migrate.asks_by (migrate_knows old told) a).space ≡ None) (sym rests) refl;
  }

-- what lets it rest tells it nothing
pub all_told : (limits : Numbers) (k : migrate.Known) (asked : Act) (told : Heard) → migrator.HasAll asked told → (migrate.knows_by limits k asked told).seat ≡ k.seat
all_told limits k (Dm sid (GetEvents most room)) (heard.Dm (Refused Again)) all = refl
all_told limits k asked told all = absurd all

pub refusal_told : (limits : Numbers) (k : migrate.Known) (asked : Act) (told : Heard) → IsRefusedOne asked told → (migrate.knows_by limits k asked told).seat ≡ k.seat
refusal_told limits k asked told refused = rw (refused.3, refused.4) refl
