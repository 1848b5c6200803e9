-- Tokens of which a daemon doesn't know: how they go, and stay gone.
use Rattle.std.proofs.Common.{◌≡◌, ◌∙◌, ◌⊎◌, true, false, List, [], ◌∷◌, ◌++◌, All, Option, None, Some, inl, inr}
use Rattle.std.proofs.Common.{refl, sym, ap, subst, append_assoc, append-nil}
use Rattle.std.specs.List.{cons_option}
use Rattle.std.proofs.lemmas.Bool.{false≢true}
use Rattle.std.proofs.lemmas.List.Elements.{All-head, All-tail}
use Rattle.std.proofs.lemmas.Option.{none-some}
use Rattle.hsm_types.specs.declared.daemons.Daemon.{Daemon}
use Rattle.hsm_types.specs.declared.daemons.Daemon.TheVariants.{Recall, Migrate}
use Rattle.hsm_types.specs.declared.keys.Token.{Token}
use Rattle.deeds.specs.Deeds.{Deed, entry_in}
use Rattle.deeds.specs.Lives.{Move, Ends, Asks, Misses, life, move_of}
use Rattle.deeds.proofs.Finding.{deed_of}
use Rattle.deeds.proofs.Lists.{all_rest}
use Rattle.deed_laws.specs.Keeping.{loses_next, WentToLine, WasLost, FindsAgain, NeverFinds, IsTaken, IsLost, IsNoLoss, LosesNoAnswer}

abbrev pub Went : Deed → List Deed → Token → Type 0
Went x rest t = WentToLine x rest t ⊎ WasLost x rest t

module _ (d : Daemon) (t : Token) where
  -- not in these deeds, behind which others come
  abbrev NeverIn : List Deed → List Deed → Type 0
  NeverIn [] rest = Unit {0}
  NeverIn (x ∷ deeds) rest = (FindsAgain d t x → loses_next (life d (deeds ++ rest)) ≡ true) × NeverIn deeds rest

  never_more : (deeds : List Deed) (x : Deed) (rest : List Deed) → NeverIn deeds (x ∷ rest) → (FindsAgain d t x → loses_next (life d rest) ≡ true) → NeverIn (deeds ++ x ∷ []) rest
  never_more [] x rest never lost = (lost, tt)
  never_more (y ∷ deeds) x rest never lost =
      (λ found. subst (λ (l : List Deed). loses_next (life d l) ≡ true) (sym (append_assoc deeds (x ∷ []) rest)) (never.0 found), never_more deeds x rest never.1 lost)

  never_end : (deeds : List Deed) → NeverIn deeds [] → NeverFinds d t deeds
  never_end [] never = tt
  never_end (x ∷ deeds) never = (λ found. subst (λ (l : List Deed). loses_next (life d l) ≡ true) (append-nil deeds) (never.0 found), never_end deeds never.1)

-- by the deeds that are done, and those that come
pub record Gone (d : Daemon) (done rest : List Deed) (t : Token) : Type 0 where
  pub before : List Deed
  pub deed : Deed
  pub since : List Deed
  pub parted : done ≡ before ++ deed ∷ since
  pub went : Went deed (since ++ rest) t
  pub never : NeverIn d t since rest

module _ (d : Daemon) (done : List Deed) (x : Deed) (rest : List Deed) (t : Token) where
  pub gone_more : (FindsAgain d t x → loses_next (life d rest) ≡ true) → Gone d done (x ∷ rest) t → Gone d (done ++ x ∷ []) rest t
  gone_more lost is = record {
    before = is.before;
    deed = is.deed;
    since = is.since ++ x ∷ [];
    parted = ap (λ (l : List Deed). l ++ x ∷ []) is.parted ∙ append_assoc is.before (is.deed ∷ is.since) (x ∷ []);
    went = subst (λ (l : List Deed). Went is.deed l t) (sym (append_assoc is.since (x ∷ []) rest)) is.went;
    never = never_more d t is.since x rest is.never lost;
  }

  pub gone_last : Went x rest t → Gone d (done ++ x ∷ []) rest t
  gone_last went = record { before = done; deed = x; since = []; parted = refl; went = went; never = tt }

-- ---- deeds by which none is found again

pub no_entry : (d : Daemon) (t : Token) (x : Deed) → entry_in x ≡ None → FindsAgain d t x → ⊥
no_entry d t x none found = none-some _ (sym none ∙ ap entry_in found.4)

own_move : (d : Daemon) (t : Token) (x : Deed) → FindsAgain d t x → (move_of d x ≡ None) → ⊥
own_move Recall t x found none = none-some _ (sym none ∙ ap (move_of Recall) found.4)
own_move Migrate t x found none = none-some _ (sym none ∙ ap (move_of Migrate) found.4)

-- one of another
pub not_own : (d : Daemon) (t : Token) (x : Deed) → move_of d x ≡ None → FindsAgain d t x → ⊥
not_own d t x none found = own_move d t x found none

-- ---- behind all deeds

pub gone_end : (d : Daemon) (deeds : List Deed) (t : Token) → Gone d deeds [] t → IsTaken d deeds t ⊎ IsLost d deeds t
gone_end d deeds t is = by (subst (λ (l : List Deed). Went is.deed l t) (append-nil is.since) is.went)
  where
    by : Went is.deed is.since t → IsTaken d deeds t ⊎ IsLost d deeds t
    by (inl line) = inl (record { before = is.before; deed = is.deed; rest = is.since; parted = is.parted; went = line; never = never_end d t is.since is.never })
    by (inr lost) = inr (record { before = is.before; deed = is.deed; rest = is.since; parted = is.parted; went = lost; never = never_end d t is.since is.never })

-- ---- where nothing is lost

by_move : (d : Daemon) (x : Deed) (o : Option Move) (moves : List Move) → move_of d x ≡ o → IsNoLoss x → loses_next moves ≡ false → loses_next (cons_option o moves) ≡ false
by_move d x None moves own kept is = is
by_move d x (Some Ends) moves own kept is = refl
by_move d x (Some (Asks asked)) moves own kept is = refl
by_move d x (Some Misses) moves own kept is = absurd (subst IsNoLoss (deed_of d x Misses own) kept)
by_move d x (Some move) moves own kept is = is

none_loses : (d : Daemon) (deeds : List Deed) → All IsNoLoss deeds → loses_next (life d deeds) ≡ false
none_loses d [] all = refl
none_loses d (x ∷ deeds) all = by_move d x (move_of d x) (life d deeds) refl (All-head IsNoLoss x deeds all) (none_loses d deeds (All-tail IsNoLoss x deeds all))

pub loses_no_answer : (d : Daemon) (deeds : List Deed) (t : Token) → LosesNoAnswer d deeds t
loses_no_answer d deeds t all is =
    let behind : All IsNoLoss is.rest = All-tail IsNoLoss is.deed is.rest (all_rest IsNoLoss is.before (is.deed ∷ is.rest) (subst (All IsNoLoss) is.parted all)) in
    false≢true (sym (none_loses is.went.0 is.rest behind) ∙ is.went.7)
