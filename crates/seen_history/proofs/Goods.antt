-- A run on any disk is good but for bytes, from each plain map for which its opening stands.
use Rattle.std.proofs.Common.{◌≡◌, ◌+◌, ℕ, List, [], ◌∷◌, take, Bool, inl, inr, refl, sym, ◌∙◌, ap, subst}
use Rattle.std.specs.Prelude.{IsTrue}
use Rattle.hsm_types.specs.declared.stores.Superblock.{Superblock}
use Rattle.plain_model.specs.declared.entries.Entry.{Entry}
use Rattle.plain_model.specs.declared.entries.Actor.{Actor}
use Rattle.plain_model.specs.declared.entries.Action.{Action}
use Rattle.plain_model.specs.declared.entries.Answer.{Answer}
use Rattle.plain_model.specs.Exact.{IsAnswerSeen, left_by, ExactSeen, state_by}
use Rattle.plain_model.specs.Laws.{IsRunSeen, IsGoodFrom, IsGoodRun, state_at}
use Rattle.plain_model.specs.Legal.{Legal, After}
use Rattle.plain_model.specs.Plain.{File}
use Rattle.plain_model.specs.Side.{Side, sides_of, side_after}
use Rattle.plain_model.specs.Stamps.{accesses, access_numbers, last_or}
use Rattle.plain_model.specs.Stands.{InOrder}
use Rattle.plain_model.specs.State.{Held, State, just_opened}
use Rattle.plain_model.specs.Step.{World, start, Allows, after}
use Rattle.plain_model.proofs.AnyDisk.{seen_ordered}
use Rattle.plain_model.proofs.Goods.{run_is_good}
use Rattle.plain_model.proofs.Histories.{left_by-number, ExactSeen-take}
use Rattle.plain_model.proofs.Orders.{ordered_at_first}
use Rattle.plain_model.proofs.Seeing.{tells_all}
use Rattle.plain_model.proofs.Stamping.{last_if}
use Rattle.plain_model.proofs.Steps.{stands_at_first}
use Rattle.seen_history.specs.Alike.{AreAlike}
use Rattle.seen_history.specs.Laws.{LegalSeen, IsGoodSeen, SeenIsGood, GoodWhereTold}
use Rattle.seen_history.specs.Outlines.{StandsButBytes}
use Rattle.seen_history.proofs.Leaving.{Leaves}
use Rattle.seen_history.proofs.Likening.{likened, all_likened, likened_so, same_fault}
use Rattle.seen_history.proofs.Outlined.{stands_but_bytes}
use Rattle.seen_history.proofs.Plainly.{likened_plain}
use Rattle.seen_history.proofs.Stepping.{EventStep, event_step}

-- ---- whole histories

none_likened : (W : World) (es : List Entry) → es ≡ [] → all_likened W es ≡ []
none_likened W [] is = refl
none_likened W (e ∷ es) is = cc

module _ (Tells : Type 0) (s : Superblock) where
  -- in the worlds that likened entries leave, these are legal
  like_legal : (st : State) (W : World) (es : List Entry) → StandsButBytes st W → InOrder st → ExactSeen Tells s st es → (Tells → Legal s W es) → AreAlike Tells es (all_likened W es) × Legal s W (all_likened W es)
  like_legal st W [] stands ordered exact told = (tt, tt)
  like_legal st W (e ∷ es) stands ordered exact told =
      let step : EventStep s st W e = event_step s st W Tells e stands exact.0 in
      let left : State = left_by s st e.actor e.action e.answer in
      let world : World = after W (likened W e) in
      let same : Tells → likened W e ≡ e = λ t. likened_so s W e (told t).0 in
      let rest = like_legal left world es step.stands (seen_ordered Tells s st e ordered exact.0) exact.2 (λ t. subst (λ (x : Entry). Legal s (after W x) es) (sym (same t)) (told t).2) in (
        (record { alike = step.like; told = same }, rest.0),
        (step.may ordered, (λ fault. none_likened world es (exact.1 (sym (same_fault W e.actor e.action e.answer) ∙ fault))), rest.1),
      )

  -- in those that the entries themselves leave, each is alike to one that may come
  legal_seen : (st : State) (W : World) (es : List Entry) → StandsButBytes st W → InOrder st → ExactSeen Tells s st es → (Tells → Legal s W es) → LegalSeen Tells s W es
  legal_seen st W [] stands ordered exact told = tt
  legal_seen st W (e ∷ es) stands ordered exact told =
      let step : EventStep s st W e = event_step s st W Tells e stands exact.0 in (
        (likened W e, record { alike = step.like; told = λ t. likened_so s W e (told t).0 }, step.may ordered),
        exact.1,
        legal_seen (left_by s st e.actor e.action e.answer) (after W e) es step.leaves.stands (seen_ordered Tells s st e ordered exact.0) exact.2 (λ t. (told t).2),
      )

  -- and the store stands but for bytes
  stays : (st : State) (W : World) (es : List Entry) → StandsButBytes st W → ExactSeen Tells s st es
      → Leaves (state_by s st es) (After W es) (side_after W (sides_of st.held.files) es) (λ k. last_or (st.stamps k) (access_numbers W st.number k es))
  stays st W [] stands exact = record { stands = stands; beside = refl; stamped = λ k. refl }
  stays st W (e ∷ es) stands exact =
      let step : EventStep s st W e = event_step s st W Tells e stands exact.0 in
      let left : State = left_by s st e.actor e.action e.answer in
      let rest = stays left (after W e) es step.leaves.stands exact.2 in
      record {
        stands = rest.stands;
        beside = rest.beside ∙ ap (λ (X : List Side). side_after (after W e) X es) step.leaves.beside;
        stamped = λ k.
            rest.stamped k
            ∙ (λ i. last_or (step.leaves.stamped k i) (access_numbers (after W e) (left_by-number s st e.actor e.action e.answer i) k es))
            ∙ last_if (accesses W k e.actor e.action e.answer) (st.stamps k) (st.number + 1) (access_numbers (after W e) (st.number + 1) k es);
      }

  -- ---- where the disk tells

  told_answer : (t : Tells) (st : State) (who : Actor) (what : Action) (answer : Answer) → IsAnswerSeen Tells s st who what answer → IsAnswerSeen (Unit {0}) s st who what answer
  told_answer t st who what answer (inl is) = inl is
  told_answer t st who what answer (inr is) = inr (is.0, record { alike = is.1.alike; told = λ any. is.1.told t }, is.2)

  told_exact : (t : Tells) (st : State) (es : List Entry) → ExactSeen Tells s st es → ExactSeen (Unit {0}) s st es
  told_exact t st [] exact = tt
  told_exact t st (e ∷ es) exact = (told_answer t st e.actor e.action e.answer exact.0, exact.1, told_exact t (left_by s st e.actor e.action e.answer) es exact.2)

  told_good : (t : Tells) (base : ℕ) (h : Held) (es : List Entry) → IsRunSeen Tells s base h es → IsGoodRun s base h es
  told_good t base h es run = run_is_good s base h es (tells_all s base h es (record { opening = run.opening; exact = told_exact t (just_opened base h) es run.exact }))

-- ---- the laws

pub seen_is_good : (Tells : Type 0) (s : Superblock) (base : ℕ) (h : Held) (es : List Entry) → IsRunSeen Tells s base h es → IsGoodSeen Tells s base h es
seen_is_good Tells s base h es run P stands = record {
  legal = legal_seen Tells s (just_opened base h) (start P) es first (ordered_at_first base h) run.exact (λ t. (good t).legal);
  like = (all_likened (start P) es, likened_legal.0, likened_legal.1);
  stands = λ i. record { outline = (beginning i).stands; told = λ t. (good t).stands i };
  sides = λ i. (beginning i).beside;
  stamps = λ i k. (beginning i).stamped k;
  plain = likened_plain s P es likened_legal.1;
}
  where
    good : Tells → IsGoodFrom s base h es P
    good t = (told_good Tells s t base h es run).good P stands

    first : StandsButBytes (just_opened base h) (start P)
    first = stands_but_bytes (just_opened base h) (start P) (stands_at_first base h P run.opening stands)

    likened_legal : AreAlike Tells es (all_likened (start P) es) × Legal s (start P) (all_likened (start P) es)
    likened_legal = like_legal Tells s (just_opened base h) (start P) es first (ordered_at_first base h) run.exact (λ t. (good t).legal)

    beginning : (i : ℕ)
        → Leaves (state_by s (just_opened base h) (take i es)) (After (start P) (take i es)) (side_after (start P) (sides_of h.files) (take i es)) (λ k. last_or 0 (access_numbers (start P) base k (take i es)))
    beginning i = stays Tells s (just_opened base h) (start P) (take i es) first (ExactSeen-take Tells s (just_opened base h) es i run.exact)

pub seen_law : (tells : Bool) (s : Superblock) (base : ℕ) (h : Held) (es : List Entry) → SeenIsGood tells s base h es
seen_law tells = seen_is_good (IsTrue tells)

-- ---- good runs

told_legal : (s : Superblock) (W : World) (es : List Entry) → LegalSeen (Unit {0}) s W es → Legal s W es
told_legal s W [] legal = tt
told_legal s W (e ∷ es) legal = (subst (Allows s W) (legal.0.1.told tt) legal.0.2, legal.1, told_legal s (after W e) es legal.2)

legal_so : (Tells : Type 0) (s : Superblock) (W : World) (es : List Entry) → Legal s W es → LegalSeen Tells s W es
legal_so Tells s W [] legal = tt
legal_so Tells s W (e ∷ es) legal = ((e, record { alike = refl; told = λ t. refl }, legal.0), legal.1, legal_so Tells s (after W e) es legal.2)

alike_so : (Tells : Type 0) (es : List Entry) → AreAlike Tells es es
alike_so Tells [] = tt
alike_so Tells (e ∷ es) = (record { alike = refl; told = λ t. refl }, alike_so Tells es)

pub good_where_told : (s : Superblock) (base : ℕ) (h : Held) (es : List Entry) (P : List File) → GoodWhereTold s base h es P
good_where_told s base h es P = record {
  good = λ seen. record { legal = told_legal s (start P) es seen.legal; stands = λ i. (seen.stands i).told tt; sides = seen.sides; stamps = seen.stamps; plain = seen.plain };
  seen = λ good. record {
    legal = legal_so (Unit {0}) s (start P) es good.legal;
    like = (es, alike_so (Unit {0}) es, good.legal);
    stands = λ i. record { outline = stands_but_bytes (state_at s base h es i) (After (start P) (take i es)) (good.stands i); told = λ any. good.stands i };
    sides = good.sides;
    stamps = good.stamps;
    plain = good.plain;
  };
}
