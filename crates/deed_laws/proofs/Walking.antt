-- What each deed keeps is so behind all of them: of the deeds so far and those that come, of the state behind their entries, and of both daemons.
use Rattle.std.proofs.Common.{◌≡◌, ◌∙◌, ℕ, List, [], ◌∷◌, ◌++◌, All, Option, None, Some, refl, sym, ap, subst, append_assoc, append-nil}
use Rattle.std.proofs.lemmas.List.Elements.{All-head, All-tail}
use Rattle.std.specs.List.{cons_option}
use Rattle.hsm_types.specs.declared.daemons.Daemon.TheVariants.{Recall, Migrate}
use Rattle.hsm_types.specs.declared.stores.Superblock.{Superblock}
use Rattle.plain_model.specs.declared.entries.Entry.{Entry}
use Rattle.plain_model.specs.State.{Held, State, just_opened}
use Rattle.plain_model.specs.Stands.{InOrder}
use Rattle.plain_model.specs.Exact.{IsAnswerSeen, left_by, ExactSeen, state_by}
use Rattle.plain_model.specs.Laws.{IsRunSeen}
use Rattle.plain_model.proofs.AnyDisk.{seen_ordered}
use Rattle.plain_model.proofs.Histories.{state_by-push}
use Rattle.plain_model.proofs.Orders.{ordered_at_first}
use Rattle.hsm_core.specs.Packed.{HandsBy, ArePacked}
use Rattle.deeds.specs.Deeds.{Deed, Enters, Starts, Kills, Refreshes, Gives, Hears, Breaks, Loses, entry_in, entries_of, NamesNoFault, IsRight}
use Rattle.deeds.specs.Leads.{Situation, nothing_done, Leads}
use Rattle.deeds.specs.Lives.{Workings, Living, Move, Begins, Ends, Renews, Asks, Learns, Fails, Misses, move_of, deed_by, life, MovesTo, Lives}
use Rattle.deeds.proofs.Living.{entries_then}
use Rattle.deed_laws.proofs.Sitting.{Sits, Sound, sound_on}

-- ---- the entry of a deed, if it has one

abbrev pub after : Superblock → State → Option Entry → State
after s now None = now
after s now (Some e) = left_by s now e.actor e.action e.answer

-- the state behind deeds
module _ (s : Superblock) (st : State) where
  abbrev pub IsBehind : List Deed → State → Type 0
  IsBehind done now = now ≡ state_by s st (entries_of done)

  pub behind_more : (done : List Deed) (x : Deed) (now : State) → IsBehind done now → IsBehind (done ++ x ∷ []) (after s now (entry_in x))
  behind_more done x now is = ap (λ (y : State). after s y (entry_in x)) is ∙ sym (by (entry_in x)) ∙ sym (ap (state_by s st) (entries_then done (x ∷ [])))
    where
      by : (o : Option Entry) → state_by s st (entries_of done ++ cons_option o []) ≡ after s (state_by s st (entries_of done)) o
      by None = ap (state_by s st) (append-nil (entries_of done))
      by (Some e) = state_by-push s st (entries_of done) e

-- where it is known of buffers that they are packed
module _ (s : Superblock) (Packs : Type 0) where
  -- it is an answer that may come, and its buffer that of its messages
  abbrev pub Happens : State → Option Entry → Type 0
  Happens now None = Unit {0}
  Happens now (Some e) = IsAnswerSeen ⊥ s now e.actor e.action e.answer × (Packs → HandsBy now e.actor e.action e.answer)

  record Rest (now : State) (o : Option Entry) (es : List Entry) : Type 0 where
    happens : Happens now o
    exact : ExactSeen ⊥ s (after s now o) es
    packed : Packs → ArePacked s (after s now o) es
    ordered : InOrder (after s now o)
    ends : state_by s now (cons_option o es) ≡ state_by s (after s now o) es

  rest_of : (now : State) (o : Option Entry) (es : List Entry) → ExactSeen ⊥ s now (cons_option o es) → (Packs → ArePacked s now (cons_option o es)) → InOrder now → Rest now o es
  rest_of now None es exact packed ordered = record { happens = tt; exact = exact; packed = packed; ordered = ordered; ends = refl }
  rest_of now (Some e) es exact packed ordered = record {
    happens = (exact.0, λ packs. (packed packs).0);
    exact = exact.2;
    packed = λ packs. (packed packs).1;
    ordered = seen_ordered ⊥ s now e ordered exact.0;
    ends = refl;
  }

-- ---- the move of a daemon, if it makes one

abbrev MovesBy : {M : Type 0} → Workings M → Option Move → Option (Living M) → Option (Living M) → Type 0
MovesBy w None old new = new ≡ old
MovesBy w (Some move) old new = MovesTo w move old new

life_rest : {M : Type 0} (w : Workings M) (o : Option Move) (moves : List Move) (old new : Option (Living M)) → Lives w (cons_option o moves) old new → (mid : Option (Living M)) × MovesBy w o old mid × Lives w moves mid new
life_rest w None moves old new lives = (old, refl, lives)
life_rest w (Some move) moves old new lives = lives

module _ {R M : Type 0} (recalls : Workings R) (migrates : Workings M) (recall_sits : Sits Recall recalls) (migrate_sits : Sits Migrate migrates) (s : Superblock) (Packs : Type 0)
    (P : (done rest : List Deed) → State → Option (Living R) → Option (Living M) → Type 0) where
  abbrev RecallSound : Option (Living R) → Type 0
  RecallSound = Sound Recall recalls recall_sits

  abbrev MigrateSound : Option (Living M) → Type 0
  MigrateSound = Sound Migrate migrates migrate_sits

  -- what keeps it: an entry of a line, and a move of either daemon
  pub record Keeps : Type 0 where
    pub line : (done rest : List Deed) (now : State) (e : Entry) (r : Option (Living R)) (m : Option (Living M)) → NamesNoFault e.action → InOrder now → Happens s Packs now (Some e)
        → P done (Enters e ∷ rest) now r m → P (done ++ Enters e ∷ []) rest (after s now (Some e)) r m
    pub recall : (done rest : List Deed) (now : State) (move : Move) (old new : Option (Living R)) (m : Option (Living M)) → move_of Recall (deed_by Recall move) ≡ Some move → move_of Migrate (deed_by Recall move) ≡ None → MovesTo recalls move old new → RecallSound old → InOrder now → Happens s Packs now (entry_in (deed_by Recall move))
        → P done (deed_by Recall move ∷ rest) now old m → P (done ++ deed_by Recall move ∷ []) rest (after s now (entry_in (deed_by Recall move))) new m
    pub migrate : (done rest : List Deed) (now : State) (move : Move) (r : Option (Living R)) (old new : Option (Living M)) → move_of Migrate (deed_by Migrate move) ≡ Some move → move_of Recall (deed_by Migrate move) ≡ None → MovesTo migrates move old new → MigrateSound old → InOrder now → Happens s Packs now (entry_in (deed_by Migrate move))
        → P done (deed_by Migrate move ∷ rest) now r old → P (done ++ deed_by Migrate move ∷ []) rest (after s now (entry_in (deed_by Migrate move))) r new

  module _ (keeps : Keeps) where
    module _ (done rest : List Deed) (now : State) (r r2 : Option (Living R)) (m m2 : Option (Living M)) (rs : RecallSound r) (ms : MigrateSound m) (ordered : InOrder now) where
      abbrev Next : Deed → Type 0
      Next x = Happens s Packs now (entry_in x) → P done (x ∷ rest) now r m → P (done ++ x ∷ []) rest (after s now (entry_in x)) r2 m2

      of_line : (e : Entry) → NamesNoFault e.action → r2 ≡ r → m2 ≡ m → Next (Enters e)
      of_line e right same_r same_m happens is =
          subst (λ (x : Option (Living R)). P (done ++ Enters e ∷ []) rest (after s now (Some e)) x m2) (sym same_r)
          (subst (λ (x : Option (Living M)). P (done ++ Enters e ∷ []) rest (after s now (Some e)) r x) (sym same_m) (keeps.line done rest now e r m right ordered happens is))

      of_recall : (move : Move) → move_of Recall (deed_by Recall move) ≡ Some move → move_of Migrate (deed_by Recall move) ≡ None → MovesTo recalls move r r2 → m2 ≡ m → Next (deed_by Recall move)
      of_recall move own other to same happens is =
          subst (λ (x : Option (Living M)). P (done ++ deed_by Recall move ∷ []) rest (after s now (entry_in (deed_by Recall move))) r2 x) (sym same) (keeps.recall done rest now move r r2 m own other to rs ordered happens is)

      of_migrate : (move : Move) → move_of Migrate (deed_by Migrate move) ≡ Some move → move_of Recall (deed_by Migrate move) ≡ None → r2 ≡ r → MovesTo migrates move m m2 → Next (deed_by Migrate move)
      of_migrate move own other same to happens is =
          subst (λ (x : Option (Living R)). P (done ++ deed_by Migrate move ∷ []) rest (after s now (entry_in (deed_by Migrate move))) x m2) (sym same) (keeps.migrate done rest now move r m m2 own other to ms ordered happens is)

      -- one deed
      one : (x : Deed) → IsRight x → MovesBy recalls (move_of Recall x) r r2 → MovesBy migrates (move_of Migrate x) m m2 → Next x
      one (Enters e) right rm mm = of_line e right rm mm
      one (Starts Recall) right rm mm = of_recall Begins refl refl rm mm
      one (Kills Recall) right rm mm = of_recall Ends refl refl rm mm
      one (Gives Recall asked) right rm mm = of_recall (Asks asked) refl refl rm mm
      one (Hears Recall asked told) right rm mm = of_recall (Learns asked told) refl refl rm mm
      one (Breaks Recall sid call) right rm mm = of_recall (Fails sid call) refl refl rm mm
      one (Loses Recall) right rm mm = of_recall Misses refl refl rm mm
      one (Starts Migrate) right rm mm = of_migrate Begins refl refl rm mm
      one (Kills Migrate) right rm mm = of_migrate Ends refl refl rm mm
      one Refreshes right rm mm = of_migrate Renews refl refl rm mm
      one (Gives Migrate asked) right rm mm = of_migrate (Asks asked) refl refl rm mm
      one (Hears Migrate asked told) right rm mm = of_migrate (Learns asked told) refl refl rm mm
      one (Breaks Migrate sid call) right rm mm = of_migrate (Fails sid call) refl refl rm mm
      one (Loses Migrate) right rm mm = of_migrate Misses refl refl rm mm

    sound_by_recall : (o : Option Move) (old new : Option (Living R)) → MovesBy recalls o old new → RecallSound old → RecallSound new
    sound_by_recall None old new same is = subst RecallSound (sym same) is
    sound_by_recall (Some move) old new to is = sound_on Recall recalls recall_sits move old new to is

    sound_by_migrate : (o : Option Move) (old new : Option (Living M)) → MovesBy migrates o old new → MigrateSound old → MigrateSound new
    sound_by_migrate None old new same is = subst MigrateSound (sym same) is
    sound_by_migrate (Some move) old new to is = sound_on Migrate migrates migrate_sits move old new to is

    walk : (rest done : List Deed) (now : State) (r er : Option (Living R)) (m em : Option (Living M)) → ExactSeen ⊥ s now (entries_of rest) → (Packs → ArePacked s now (entries_of rest)) → InOrder now → All IsRight rest
        → Lives recalls (life Recall rest) r er → Lives migrates (life Migrate rest) m em → RecallSound r → MigrateSound m → P done rest now r m → P (done ++ rest) [] (state_by s now (entries_of rest)) er em
    walk [] done now r er m em exact packed ordered right rl ml rs ms is =
        subst (λ (l : List Deed). P l [] now er em) (sym (append-nil done)) (subst (λ (x : Option (Living R)). P done [] now x em) (sym rl) (subst (λ (x : Option (Living M)). P done [] now r x) (sym ml) is))
    walk (x ∷ rest) done now r er m em exact packed ordered right rl ml rs ms is =
        let here = rest_of s Packs now (entry_in x) (entries_of rest) exact packed ordered in
        let rn = life_rest recalls (move_of Recall x) (life Recall rest) r er rl in
        let mn = life_rest migrates (move_of Migrate x) (life Migrate rest) m em ml in
        subst (λ (l : List Deed). P l [] (state_by s now (entries_of (x ∷ rest))) er em) (append_assoc done (x ∷ []) rest)
        (subst (λ (y : State). P ((done ++ x ∷ []) ++ rest) [] y er em) (sym here.ends)
        (walk rest (done ++ x ∷ []) (after s now (entry_in x)) rn.0 er mn.0 em here.exact here.packed here.ordered (All-tail IsRight x rest right) rn.2 mn.2
        (sound_by_recall (move_of Recall x) r rn.0 rn.1 rs) (sound_by_migrate (move_of Migrate x) m mn.0 mn.1 ms)
        (one done rest now r rn.0 m mn.0 rs ms ordered x (All-head IsRight x rest right) rn.1 mn.1 here.happens is)))

    pub behind : (base : ℕ) (h : Held) (deeds : List Deed) (end : Situation R M) → Leads recalls migrates deeds nothing_done end → IsRunSeen ⊥ s base h (entries_of deeds) → (Packs → ArePacked s (just_opened base h) (entries_of deeds))
        → P [] deeds (just_opened base h) None None → P deeds [] (state_by s (just_opened base h) (entries_of deeds)) end.recall end.migrate
    behind base h deeds end leads run packed first =
        walk deeds [] (just_opened base h) None end.recall None end.migrate run.exact packed (ordered_at_first base h) leads.right leads.recall leads.migrate tt tt first
