-- Segments one after the other: their records, and what refuses the first that can't go away.
use Rattle.std.proofs.Common.{◌≡◌, ℕ, zero, suc, ◌+◌, ◌-◌, ◌<◌, ◌≤◌, List, [], ◌∷◌, ◌++◌, map, Option, Some, None, refl, sym, ◌∙◌, ap, arith}
use Rattle.std.proofs.lemmas.List.{map-append}
use Rattle.hsm_types.specs.Refusals.{first_refusal}
use Rattle.hsm_types.specs.Segments.{from_on}
use Rattle.hsm_types.specs.Stubs.{Stubs, stub_at, not_punched, any_unpunched}
use Rattle.hsm_types.specs.declared.dm.DmRefusal.{DmRefusal}
use Rattle.hsm_types.specs.declared.regions.Region.{Region}
use Rattle.hsm_types.specs.declared.stubs.Stub.{Stub as StubOf}
use Rattle.journal_records.specs.declared.records.Record.{Record}
use Rattle.journal_records.specs.declared.records.Record.TheVariants.{Stub}
use Rattle.file_store.specs.Punches.{away_by, punch_records}

run_joins : (a m n k : ℕ) → k ≡ m + n → from_on a k ≡ from_on a m ++ from_on (a + m) n
run_joins a zero n k all = grind arith
run_joins a (suc m) n zero all = absurd (omega arith)
run_joins a (suc m) n (suc k) all = grind (arith, run_joins (a + 1) m n k (omega arith))

-- up to i, then i and those behind it
run_at : (from i to : ℕ) → from ≤ i → i < to → from_on from (to - from) ≡ from_on from (i - from) ++ i ∷ from_on (i + 1) (to - (i + 1))
run_at from i to above below =
    let rest : to - i ≡ suc (to - (i + 1)) = omega arith in
    let start : from + (i - from) ≡ i = omega arith in
    run_joins from (i - from) (to - i) (to - from) (omega arith) ∙ rw (start, rest) refl

nothing_behind : (i : ℕ) → i + 1 - (i + 1) ≡ 0
nothing_behind i = omega arith

refusal_joins : (os ps : List (Option DmRefusal)) → first_refusal os ≡ None → first_refusal (os ++ ps) ≡ first_refusal ps
refusal_joins [] ps none = refl
refusal_joins (None ∷ os) ps none = refusal_joins os ps none
refusal_joins (Some why ∷ os) ps none = cc

-- none of those before is refused
refused_by : (regions : List Region) (stubs : Stubs) (from i to : ℕ) → from ≤ i → i < to → any_unpunched regions stubs from i ≡ None → any_unpunched regions stubs from to ≡ first_refusal (not_punched regions stubs i ∷ map (not_punched regions stubs) (from_on (i + 1) (to - (i + 1))))
refused_by regions stubs from i to above below none =
    ap (λ ns. first_refusal (map (not_punched regions stubs) ns)) (run_at from i to above below)
    ∙ ap first_refusal (map-append (not_punched regions stubs) (from_on from (i - from)) (i ∷ from_on (i + 1) (to - (i + 1))))
    ∙ refusal_joins (map (not_punched regions stubs) (from_on from (i - from))) (not_punched regions stubs i ∷ map (not_punched regions stubs) (from_on (i + 1) (to - (i + 1)))) none

pub refused_at : (regions : List Region) (stubs : Stubs) (from i to : ℕ) (why : DmRefusal) → from ≤ i → i < to → any_unpunched regions stubs from i ≡ None → not_punched regions stubs i ≡ Some why → any_unpunched regions stubs from to ≡ Some why
refused_at regions stubs from i to why above below none is = refused_by regions stubs from i to above below none ∙ rw is refl

pub judged_more : (regions : List Region) (stubs : Stubs) (from i : ℕ) → from ≤ i → any_unpunched regions stubs from i ≡ None → not_punched regions stubs i ≡ None → any_unpunched regions stubs from (i + 1) ≡ None
judged_more regions stubs from i above none is = grind (arith, refused_by, nothing_behind)

pub records_more : (ino : ℕ) (stubs : Stubs) (from i : ℕ) (stub : StubOf) (items : List Record) → from ≤ i → items ≡ punch_records ino stubs (from_on from (i - from)) → away_by (stub_at i stubs) ≡ Some stub
    → items ++ Stub ino i (Some stub) ∷ [] ≡ punch_records ino stubs (from_on from (i + 1 - from))
records_more ino stubs from i stub items above are is =
    let what : ℕ → Record = λ j. Stub ino j (away_by (stub_at j stubs)) in
    sym (ap (map what) (run_at from i (i + 1) above (omega arith)) ∙ map-append what (from_on from (i - from)) (i ∷ from_on (i + 1) (i + 1 - (i + 1))) ∙ rw (nothing_behind i, is, ← are) refl)
