-- From one situation to another by deeds: some behind others, and the first of some.
use Rattle.std.proofs.Common.{◌∙◌, ◌++◌, List, refl, sym, ap, subst, append_assoc}
use Rattle.std.proofs.lemmas.List.Elements.{All-append}
use Rattle.hsm_types.specs.declared.daemons.Daemon.{Daemon}
use Rattle.hsm_types.specs.declared.daemons.Daemon.TheVariants.{Recall, Migrate}
use Rattle.plain_model.specs.declared.entries.Entry.{Entry}
use Rattle.deeds.specs.Deeds.{Deed, entries_of, IsRight}
use Rattle.deeds.specs.Lives.{Move, life, Workings, Lives}
use Rattle.deeds.specs.Leads.{Situation, Leads, ServedOnce}
use Rattle.deeds.proofs.Answering.{once_answered}
use Rattle.deeds.proofs.Lists.{all_first, all_rest}
use Rattle.deeds.proofs.Living.{entries_then, life_then, lives_then, lives_apart}

module _ {R M : Type 0} (recalls : Workings R) (migrates : Workings M) where
  abbrev Led : List Deed → Situation R M → Situation R M → Type 0
  Led = Leads recalls migrates

  -- ---- some behind others

  pub leads_on : (xs ys : List Deed) (a b c : Situation R M) → Led xs a b → Led ys b c → Led (xs ++ ys) a c
  leads_on xs ys a b c first then = record {
    entries = then.entries ∙ ap (λ (l : List Entry). l ++ entries_of ys) first.entries ∙ append_assoc a.history (entries_of xs) (entries_of ys) ∙ ap (λ (l : List Entry). a.history ++ l) (sym (entries_then xs ys));
    recall = subst (λ (ms : List Move). Lives recalls ms a.recall c.recall) (sym (life_then Recall xs ys)) (lives_then recalls (life Recall xs) (life Recall ys) a.recall b.recall c.recall first.recall then.recall);
    migrate = subst (λ (ms : List Move). Lives migrates ms a.migrate c.migrate) (sym (life_then Migrate xs ys)) (lives_then migrates (life Migrate xs) (life Migrate ys) a.migrate b.migrate c.migrate first.migrate then.migrate);
    right = All-append IsRight xs ys first.right then.right;
  }

  -- ---- the first of some

  pub leads_through : (xs ys : List Deed) (a c : Situation R M) → Led (xs ++ ys) a c → (b : Situation R M) × Led xs a b × Led ys b c
  leads_through xs ys a c is =
      let recall = lives_apart recalls (life Recall xs) (life Recall ys) a.recall c.recall (subst (λ (ms : List Move). Lives recalls ms a.recall c.recall) (life_then Recall xs ys) is.recall) in
      let migrate = lives_apart migrates (life Migrate xs) (life Migrate ys) a.migrate c.migrate (subst (λ (ms : List Move). Lives migrates ms a.migrate c.migrate) (life_then Migrate xs ys) is.migrate) in (
        record { history = a.history ++ entries_of xs; recall = recall.0; migrate = migrate.0 },
        record { entries = refl; recall = recall.1; migrate = migrate.1; right = all_first IsRight xs ys is.right },
        record {
          entries = is.entries ∙ ap (λ (l : List Entry). a.history ++ l) (entries_then xs ys) ∙ sym (append_assoc a.history (entries_of xs) (entries_of ys));
          recall = recall.2;
          migrate = migrate.2;
          right = all_rest IsRight xs ys is.right;
        },
      )

  -- ---- answers

  pub served_once : (daemon : Daemon) (deeds : List Deed) → ServedOnce recalls migrates daemon deeds
  served_once Recall deeds served = once_answered recalls (life Recall deeds) served.0.recall served.1.recall
  served_once Migrate deeds served = once_answered migrates (life Migrate deeds) served.0.migrate served.1.migrate
