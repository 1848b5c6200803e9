-- Lists of stub entries: what is true of each, and how many there are, after a change of one.
use Rattle.std.proofs.Common.{◌≡◌, ℕ, ◌+◌, ◌≤◌, [], ◌∷◌, length, Bool, true, false, Some, None, Less, refl, arith}
use Rattle.std.specs.Prelude.{◌==◌, if◌then◌else◌, is_some}
use Rattle.std.specs.List.{AllByRecursion}
use Rattle.std.specs.List.Sorted.{IsStrictlySortedBy}
use Rattle.std.specs.Map.{keys_of}
use Rattle.std.specs.Ordering.{nat_cmp}
use Rattle.hsm_types.specs.Stubs.{Stubs, stub_at, is_sealed, offline_at, moved, punched, restored, with_stub, without_stub, too_many_stubs}
use Rattle.hsm_types.specs.declared.stubs.Stub.{Stub}
use Rattle.stub_map.proofs.Entries.{absent-moved}

-- the first segment stands below the others
abbrev IsBelow : ℕ → Stubs → Type 0
IsBelow j stubs = AllByRecursion (λ k. nat_cmp j k ≡ Less) (keys_of stubs)

-- so it has none of their entries, nor has one below it
below-none : (i j : ℕ) (stubs : Stubs) → IsBelow j stubs → i ≤ j → stub_at i stubs ≡ None
below-none i j [] below low = refl
below-none i j (x ∷ rest) below low = grind (arith, below.0, below-none i j rest below.1)

-- what is true of each entry is true of that of each segment, and back

pub each-at : (P : ℕ × Stub → Type 0) (stubs : Stubs) (j : ℕ) (stub : Stub) → AllByRecursion P stubs → stub_at j stubs ≡ Some stub → P (j, stub)
each-at P [] j stub each is = cc
each-at P (x ∷ rest) j stub each is = grind (arith, each.0, each-at P rest j stub each.1)

pub at-each : (P : ℕ × Stub → Type 0) (stubs : Stubs) → IsStrictlySortedBy nat_cmp (keys_of stubs) → ((j : ℕ) (stub : Stub) → stub_at j stubs ≡ Some stub → P (j, stub)) → AllByRecursion P stubs
unfolding IsStrictlySortedBy
at-each P [] sorted at = tt
at-each P (x ∷ rest) sorted at = (at x.0 x.1 (grind arith), at-each P rest sorted.1 (λ j stub is. at j stub (grind (arith, is, below-none j x.0 rest sorted.0))))

-- an entry in the place of an older one: one more where the segment had none

pub stub_at-with : (k : ℕ) (stub : Stub) (stubs : Stubs) (j : ℕ) → stub_at j (with_stub k stub stubs) ≡ (if j == k then Some stub else stub_at j stubs)
stub_at-with k stub [] j = refl
stub_at-with k stub (x ∷ rest) j = grind (arith, stub_at-with k stub rest j)

length-with : (k : ℕ) (stub : Stub) (stubs : Stubs) → IsStrictlySortedBy nat_cmp (keys_of stubs) → length (with_stub k stub stubs) + (if is_some (stub_at k stubs) then 1 else 0) ≡ length stubs + 1
unfolding IsStrictlySortedBy
length-with k stub [] sorted = refl
length-with k stub (x ∷ rest) sorted = grind (arith, below-none k x.0 rest sorted.0, length-with k stub rest sorted.1)

pub room-with : (j others limit : ℕ) (stub : Stub) (stubs : Stubs) → IsStrictlySortedBy nat_cmp (keys_of stubs) → too_many_stubs j others limit stubs ≡ None → others + length stubs ≤ limit → others + length (with_stub j stub stubs) ≤ limit
room-with j others limit stub stubs sorted none room = let count = length-with j stub stubs sorted in grind (arith, count)

-- a segment that isn't offline has a seal or nothing to lose
absent-without : (j : ℕ) (stubs : Stubs) → stub_at j stubs ≡ None → without_stub j stubs ≡ stubs
absent-without j [] none = refl
absent-without j (x ∷ rest) none = grind (arith, absent-without j rest)

pub unsealed-without : (j : ℕ) (stubs : Stubs) → offline_at stubs j ≡ false → (if is_sealed (stub_at j stubs) then without_stub j stubs else stubs) ≡ without_stub j stubs
unsealed-without j stubs here = grind (arith, absent-without j stubs)

pub ruleset unsealed = (unsealed-without)

-- an entry that is moved is set
pub moved-with : (j : ℕ) (b : Bool) (stub : Stub) (stubs : Stubs) → IsStrictlySortedBy nat_cmp (keys_of stubs) → stub_at j stubs ≡ Some (record stub { offline = b }) → moved stub.offline j (j + 1) stubs ≡ with_stub j stub stubs
unfolding IsStrictlySortedBy
moved-with j b stub [] sorted found = cc
moved-with j b stub (x ∷ rest) sorted found = grind (arith, below-none j x.0 rest sorted.0, absent-moved stub.offline j rest, moved-with j b stub rest sorted.1)

pub punched-with : (j : ℕ) (stub : Stub) (stubs : Stubs) → IsStrictlySortedBy nat_cmp (keys_of stubs) → stub.offline ≡ true → stub_at j stubs ≡ Some (record stub { offline = false }) → punched j (j + 1) stubs ≡ with_stub j stub stubs
punched-with j stub stubs sorted off found = rw (← off) (moved-with j false stub stubs sorted found)

pub restored-with : (j : ℕ) (stub : Stub) (stubs : Stubs) → IsStrictlySortedBy nat_cmp (keys_of stubs) → stub.offline ≡ false → stub_at j stubs ≡ Some (record stub { offline = true }) → restored j stubs ≡ with_stub j stub stubs
restored-with j stub stubs sorted here found = rw (← here) (moved-with j true stub stubs sorted found)
