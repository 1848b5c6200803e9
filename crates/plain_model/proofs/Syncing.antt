-- How the synced entries of a history grow.
use Rattle.std.proofs.Common.{◌≡◌, ◌≤◌, ◌+◌, ℕ, List, [], ◌∷◌, ◌++◌, length, Bool, true, false, suc, refl, ◌∙◌, ap, add-one, arith}
use Rattle.std.specs.Prelude.{if◌then◌else◌, ◌||◌}
use Rattle.std.specs.List.{list_any}
use Rattle.plain_model.specs.declared.entries.Entry.{Entry}
use Rattle.plain_model.specs.Synced.{is_sync, synced, SyncedLaws}

within_if : (b : Bool) (n m : ℕ) → n ≤ m → (if b then n + 1 else 0) ≤ m + 1
within_if true n m le = omega arith
within_if false n m le = omega arith

within : (es : List Entry) → synced es ≤ length es
within [] = omega arith
within (e ∷ es) = omega (arith, within_if (list_any is_sync es) (synced es) (length es) (within es))

or-none : (b : Bool) → (b || false) ≡ b
or-none true = refl
or-none false = refl

or-assoc : (a b c : Bool) → (a || (b || c)) ≡ ((a || b) || c)
or-assoc true b c = refl
or-assoc false b c = refl

any-push : (es : List Entry) (e : Entry) → list_any is_sync (es ++ e ∷ []) ≡ (list_any is_sync es || is_sync e)
any-push [] e = or-none (is_sync e)
any-push (x ∷ es) e = rw (any-push es e) (or-assoc (is_sync x) (list_any is_sync es) (is_sync e))

either : (b : Bool) (n : ℕ) → n ≡ (if b then n else n)
either true n = refl
either false n = refl

-- by whether the new entry is a sync, and whether there was one
count : (a b : Bool) (n m k : ℕ) → m ≡ (if b then k else n) → (if a || b then m + 1 else 0) ≡ (if b then suc k else (if a then n + 1 else 0))
count true true n m k is = ap (λ x. x + 1) is ∙ add-one k
count true false n m k is = ap (λ x. x + 1) is
count false true n m k is = ap (λ x. x + 1) is ∙ add-one k
count false false n m k is = refl

more : (es : List Entry) (e : Entry) → synced (es ++ e ∷ []) ≡ (if is_sync e then length es else synced es)
more [] e = either (is_sync e) 0
more (x ∷ es) e = rw (any-push es e) (count (list_any is_sync es) (is_sync e) (synced es) _ (length es) (more es e))

pub synced_laws : (es : List Entry) → SyncedLaws es
synced_laws es = record { within = within es; more = more es }
