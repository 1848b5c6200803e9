-- A store that stands for a world does so but for bytes.
use Rattle.std.proofs.Common.{◌≡◌, ◌<◌, ◌≤◌, ◌*◌, ℕ, List, [], ◌∷◌, length, true, Option, Some, None, refl, sym, ◌∙◌, ap, subst, ⊎_elim}
use Rattle.std.proofs.lemmas.Bool.{cases_lt}
use Rattle.std.specs.Prelude.{IfSome}
use Rattle.std.specs.List.{AllByRecursion}
use Rattle.hsm_types.specs.Limits.{segment_bytes}
use Rattle.hsm_types.specs.Regions.{covers}
use Rattle.hsm_types.specs.Segments.{segment_len}
use Rattle.hsm_types.specs.Stubs.{print_of, stub_at, is_offline, entry_print}
use Rattle.hsm_types.specs.declared.regions.Region.{Region}
use Rattle.hsm_types.specs.declared.stubs.Fingerprint.{Fingerprint}
use Rattle.hsm_types.specs.declared.stubs.Stub.{Stub}
use Rattle.plain_model.specs.Plain.{File, segment}
use Rattle.plain_model.specs.Stands.{HasBody, IsFile, Stands, StandsFor}
use Rattle.plain_model.specs.State.{FileState, State}
use Rattle.plain_model.specs.Step.{World}
use Rattle.plain_model.proofs.Bodies.{length-read}
use Rattle.seen_history.specs.Outlines.{outline, held_outline, outlines, held_outlines, FitsSegment, FitStubs, StandsButBytes}

stub_fits : (body : List ℕ) (size : ℕ) (regions : List Region) (j : ℕ) (o : Option Stub) → size ≡ length body → IfSome o (λ stub. entry_print stub.entry ≡ print_of (segment j body))
    → (length body ≤ segment_bytes * j → o ≡ None) → (is_offline o ≡ true → covers regions j ≡ true) → IfSome o (FitsSegment size regions j)
stub_fits body size regions j None is print within covered = tt
stub_fits body size regions j (Some x) is print within covered = record {
  start = ⊎_elim (λ (inside : segment_bytes * j < length body). subst (λ n. segment_bytes * j < n) (sym is) inside)
      (λ (past : length body ≤ segment_bytes * j). absurd (let none : Some x ≡ None = within past in cc)) (cases_lt (segment_bytes * j) (length body));
  len = ap (λ (p : Fingerprint). p.len) print ∙ length-read (segment_bytes * j) segment_bytes body ∙ ap (λ n. segment_len n j) (sym is);
  covered = covered;
}

body_fits : (f : FileState) (body : List ℕ) → HasBody f body → FitStubs f
body_fits f body h j = stub_fits body (length f.body) f.kept.regions j (stub_at j f.kept.stubs) h.size (h.prints j) (h.within j) (h.covered j)

file_outline : (f : FileState) (g : File) → IsFile f g → held_outline f ≡ outline g
file_outline f g is i = record { key = is.key i; name = is.name i; size = is.body.size i }

same_outlines : (fs : List FileState) (gs : List File) → Stands fs gs → held_outlines fs ≡ outlines gs
same_outlines [] [] stands = refl
same_outlines (f ∷ fs) (g ∷ gs) stands = λ i. file_outline f g stands.0 i ∷ same_outlines fs gs stands.1 i
same_outlines [] (g ∷ gs) stands = absurd stands
same_outlines (f ∷ fs) [] stands = absurd stands

all_fit : (fs : List FileState) (gs : List File) → Stands fs gs → AllByRecursion FitStubs fs
all_fit [] [] stands = tt
all_fit (f ∷ fs) (g ∷ gs) stands = (body_fits f g.body stands.0.body, all_fit fs gs stands.1)
all_fit [] (g ∷ gs) stands = absurd stands
all_fit (f ∷ fs) [] stands = absurd stands

pub stands_but_bytes : (st : State) (W : World) → StandsFor st W → StandsButBytes st W
stands_but_bytes st W stands = record {
  files = same_outlines st.held.files W.files stands.files;
  stubs = all_fit st.held.files W.files stands.files;
  newer = stands.newer;
  ledger = stands.ledger;
}
