-- A run is good from each plain map for which its opening stands.
use Rattle.std.proofs.Common.{ℕ, List, take}
use Rattle.hsm_types.specs.declared.stores.Superblock.{Superblock}
use Rattle.plain_model.specs.declared.entries.Entry.{Entry}
use Rattle.plain_model.specs.Plain.{File}
use Rattle.plain_model.specs.Step.{start}
use Rattle.plain_model.specs.Legal.{Legal}
use Rattle.plain_model.specs.State.{Held, just_opened}
use Rattle.plain_model.specs.Stands.{Stands}
use Rattle.plain_model.specs.Exact.{Exact}
use Rattle.plain_model.specs.Laws.{BeginningIsRun, IsRun, IsGoodFrom, RunIsGood}
use Rattle.plain_model.proofs.Histories.{Exact-first, Exact-take}
use Rattle.plain_model.proofs.Onces.{exact_is_once}
use Rattle.plain_model.proofs.Orders.{ordered_at_first, state_ordered}
use Rattle.plain_model.proofs.Same.{transparent}
use Rattle.plain_model.proofs.Sides.{exact_is_sided}
use Rattle.plain_model.proofs.Stamping.{exact_is_stamped}
use Rattle.plain_model.proofs.Steps.{exact_is_legal}

pub beginning_is_run : (s : Superblock) (base : ℕ) (h : Held) (first rest : List Entry) → BeginningIsRun s base h first rest
beginning_is_run s base h first rest run = record { opening = run.opening; exact = Exact-first s (just_opened base h) first rest run.exact }

good_from : (s : Superblock) (base : ℕ) (h : Held) (es : List Entry) → IsRun s base h es → (P : List File) → Stands h.files P → IsGoodFrom s base h es P
good_from s base h es run P stands = record {
  legal = legal;
  stands = λ i. (exact_is_legal s base h (take i es) P run.opening (beginning i) stands).1;
  sides = λ i. exact_is_sided s base h (take i es) P run.opening (beginning i) stands;
  stamps = λ i k. exact_is_stamped s base h (take i es) P run.opening (beginning i) stands k;
  plain = λ clash. transparent s P es legal clash;
}
  where
    beginning : (i : ℕ) → Exact s (just_opened base h) (take i es)
    beginning i = Exact-take s (just_opened base h) es i run.exact

    legal : Legal s (start P) es
    legal = (exact_is_legal s base h es P run.opening run.exact stands).0

pub run_is_good : (s : Superblock) (base : ℕ) (h : Held) (es : List Entry) → RunIsGood s base h es
run_is_good s base h es run = record { run = run; once = exact_is_once s (just_opened base h) es (ordered_at_first base h) run.exact; ordered = λ i. state_ordered s (just_opened base h) (take i es) (ordered_at_first base h) (Exact-take s (just_opened base h) es i run.exact); good = good_from s base h es run }
