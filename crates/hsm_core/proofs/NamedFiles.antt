-- A name that a file has leads to a live file.
use Rattle.std.proofs.Common.{◌≡◌, ℕ, List, [], ◌∷◌, Bool, true, false, Option, Some, None, refl, arith}
use Rattle.std.proofs.lemmas.Bool.Decides.{nat_tests}
use Rattle.std.specs.Prelude.{◌&&◌, ◌==◌, is_some, IsSome, if◌then◌else◌}
use Rattle.std.specs.Option.{option_map}
use Rattle.std.specs.Str.{bytes_eq}
use Rattle.hsm_types.specs.declared.keys.FileKey.{FileKey}
use Rattle.hsm_types.specs.Keyed.{same_key, find_key}
use Rattle.plain_model.specs.Plain.{Listed, named, key_or_none}
use Rattle.plain_model.specs.State.{FileState, names_of}

both_true : (a b : Bool) → a ≡ true → b ≡ true → (a && b) ≡ true
both_true true true left right = refl
both_true true false left right = right
both_true false b left right = left

itself : (n : ℕ) → (n == n) ≡ true
itself n = grind (arith, nat_tests)

same_self : (k : FileKey) → same_key k k ≡ true
same_self k = both_true (k.ino == k.ino) (k.igen == k.igen) (itself k.ino) (itself k.igen)

found_first : (b : Bool) (f : FileState) (rest : Option FileState) → b ≡ true → is_some (if b then Some f else rest) ≡ true
found_first true f rest is = refl
found_first false f rest is = cc

found_later : (b : Bool) (f : FileState) (rest : Option FileState) → is_some rest ≡ true → is_some (if b then Some f else rest) ≡ true
found_later true f rest is = refl
found_later false f rest is = is

live_if : (b : Bool) (f : FileState) (fs : List FileState) (rest : Option Listed) → is_some (if b then Some (record { key = f.key; name = f.name }) else rest) ≡ true
    → (is_some rest ≡ true → is_some (find_key (λ f. f.key) (key_or_none rest) fs) ≡ true)
    → is_some (find_key (λ f. f.key) (key_or_none (if b then Some (record { key = f.key; name = f.name }) else rest)) (f ∷ fs)) ≡ true
live_if true f fs rest some later = found_first (same_key f.key f.key) f (find_key (λ f. f.key) f.key fs) (same_self f.key)
live_if false f fs rest some later = found_later (same_key f.key (key_or_none rest)) f (find_key (λ f. f.key) (key_or_none rest) fs) (later some)

pub live_named : (name : List ℕ) (fs : List FileState) → is_some (named name (names_of fs)) ≡ true → is_some (find_key (λ f. f.key) (key_or_none (named name (names_of fs))) fs) ≡ true
live_named name [] some = some
live_named name (f ∷ fs) some = live_if (bytes_eq f.name name) f fs (named name (names_of fs)) some (live_named name fs)

of_found : (found : Option Listed) (k : FileKey) → option_map (λ l. l.key) found ≡ Some k → (k ≡ key_or_none found) × (is_some found ≡ true)
of_found None k is = absurd cc
of_found (Some l) k is = (cc, refl)

-- the key that a name leads to is that of a live file
pub found_live : (name : List ℕ) (fs : List FileState) (k : FileKey) → option_map (λ l. l.key) (named name (names_of fs)) ≡ Some k
    → (k ≡ key_or_none (named name (names_of fs))) × IsSome (find_key (λ f. f.key) k fs)
found_live name fs k is =
    let found = of_found (named name (names_of fs)) k is in
    (found.0, rw (found.0) (live_named name fs found.1))
