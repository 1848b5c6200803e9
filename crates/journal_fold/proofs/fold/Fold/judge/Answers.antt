use Rattle.std.proofs.Common.{◌≡◌, [], ◌∷◌, ◌++◌, Some, None, sym, subst}
use Rattle.std.specs.BTreeMap.{is_at}
use Rattle.std.specs.Map.{lookup}
use Rattle.std.specs.Ordering.{nat_cmp}
use Rattle.hsm_types.specs.declared.stores.Geometry.{Geometry}
use Rattle.snapshot_text.specs.Files.{geometry_of}
use Rattle.journal_fold.specs.FoldedStores.{files_in}
use Rattle.journal_fold.specs.Judged.{IsAlone}
use Rattle.journal_fold.specs.Counted.{FitTogether, IsCounted}
use Rattle.journal_fold.specs.Open.{untouched}
use Rattle.journal_fold.proofs.SettledStores.{settled_none, settled, fit_of, places_within}
use Rattle.journal_fold.proofs.fold.Fold.judge.Goals as goal

pub returns-in_default-clause-open : goal.returns-in_default-clause-open
returns-in_default-clause-open c = λ _ others is.
    let none : lookup (is_at (nat_cmp c.args.ino)) c.args.self.now.store.files.entries ≡ None = sym (rw c.in_default.is at c.get.ensures.value) in
    settled_none c.args.self.now.geometry c.args.self.now.store c.args.self.now.uses others c.args.ino is none

pub claim-requires-clause-within : goal.claim-requires-clause-within
claim-requires-clause-within c =
    let s = c.args.self.now.store in
    let alone : IsAlone (geometry_of c.args.self.now.geometry) s.next c.in-Some.file.now = subst (λ (g : Geometry). IsAlone g s.next c.in-Some.file.now) c.geometry_of-bounds.ensures.geometry (c.in_ok-is_alone.ensures.0 c.if-not-branch.false) in
    places_within c.args.self.now.geometry s c.args.self.now.uses c.requires.0 c.args.ino c.requires.1 c.in-Some.file.now (sym c.in-Some.ensures.value) alone

pub returns-clause-open : goal.returns-clause-open
returns-clause-open c = λ yes others is.
    let s = c.args.self.now.store in
    let f = c.in-Some.file.now in
    let there : lookup (is_at (nat_cmp c.args.ino)) s.files.entries ≡ Some f = sym c.in-Some.ensures.value in
    let bounds = c.geometry_of-bounds.ensures.geometry in
    let alone : IsAlone (geometry_of c.args.self.now.geometry) s.next f = subst (λ (g : Geometry). IsAlone g s.next f) bounds (c.in_ok-is_alone.ensures.0 c.if-not-branch.false) in
    let left = untouched (others ++ c.args.ino ∷ []) (files_in s) in
    let counted : IsCounted (geometry_of c.args.self.now.geometry) c.claim.new.self (f ∷ left) =
    subst (λ (g : Geometry). IsCounted g c.claim.new.self (f ∷ left)) bounds (c.claim.ensures.joined yes left (subst (λ (g : Geometry). IsCounted g c.args.self.now.uses left) (sym bounds) is.counted)) in
    settled c.args.self.now.geometry s c.args.self.now.uses others c.args.ino is f there c.claim.new.self alone counted

pub returns-clause-refused : goal.returns-clause-refused
returns-clause-refused c = λ other all.
    let s = c.args.self.now.store in
    let f = c.in-Some.file.now in
    let there : lookup (is_at (nat_cmp c.args.ino)) s.files.entries ≡ Some f = sym c.in-Some.ensures.value in
    let bounds = c.geometry_of-bounds.ensures.geometry in
    let others = c.requires.0 in
    let is = c.requires.1 in
    let left = untouched (others ++ c.args.ino ∷ []) (files_in s) in
    c.claim.ensures.refused other left (subst (λ (g : Geometry). IsCounted g c.args.self.now.uses left) (sym bounds) is.counted)
    (subst (λ (g : Geometry). FitTogether g (f ∷ left)) (sym bounds) (fit_of c.args.self.now.geometry s c.args.self.now.uses others c.args.ino is f there all))
