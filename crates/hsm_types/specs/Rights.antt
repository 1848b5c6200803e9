-- Rights: which tokens hold which files, and how.
use Rattle.std.specs.Prelude.{◌≡◌, ◌≢◌, List, filter, Bool, true, false, not, ◌==◌, ◌&&◌, if◌then◌else◌, Option, Some, None}
use Rattle.std.specs.BTreeMap.{insert_entry}
use Rattle.std.specs.List.{All, find}
use Rattle.std.specs.List.Sorted.{IsStrictlySortedBy}
use Rattle.std.specs.Map.{lookup, remove_entry, keys_of, values_of}
use Rattle.std.specs.Option.{option_map}
use Rattle.std.specs.Ordering.{nat_cmp, ordering_then}
use Rattle.std.specs.declared.cmp.Ordering.{Ordering}
use Rattle.hsm_types.specs.Handles.{same_key}
use Rattle.hsm_types.specs.Messages.{no_token}
use Rattle.hsm_types.specs.declared.dm.DmRefusal.{DmRefusal}
use Rattle.hsm_types.specs.declared.dm.DmRefusal.TheVariants.{NeedRight, Busy}
use Rattle.hsm_types.specs.declared.dm.Right.{Right}
use Rattle.hsm_types.specs.declared.dm.Right.TheVariants.{Null, Shared, Excl}
use Rattle.hsm_types.specs.declared.keys.FileKey.{FileKey}
use Rattle.hsm_types.specs.declared.keys.Holding.{Holding}
use Rattle.hsm_types.specs.declared.keys.Token.{Token}

-- ---- one right beside another

-- what is held is at least as high as what is needed
abbrev pub reaches : Right → Right → Bool
reaches have Null = true
reaches Null need = false
reaches Shared Excl = false
reaches have need = true

-- no two tokens may have these on one file
abbrev pub excludes : Right → Right → Bool
excludes Null have = false
excludes Shared Excl = true
excludes Shared have = false
excludes Excl Null = false
excludes Excl have = true

-- ---- who holds what

abbrev pub same_token : Token → Token → Bool
same_token t u = t.0 == u.0

abbrev pub same_holding : Holding → Holding → Bool
same_holding a b = same_key a.key b.key && same_token a.token b.token

-- by files, and on one file by tokens
abbrev pub key_cmp : FileKey → FileKey → Ordering
key_cmp j k = ordering_then (nat_cmp j.ino k.ino) (nat_cmp j.igen k.igen)

abbrev pub holding_cmp : Holding → Holding → Ordering
holding_cmp a b = ordering_then (key_cmp a.key b.key) (nat_cmp a.token.0 b.token.0)

-- what tokens hold, in that order
abbrev pub Rights : Type 0
Rights = List (Holding × Right)

abbrev pub holding : Token → FileKey → Holding
holding t k = record { key = k; token = t }

abbrev pub right_or_null : Option Right → Right
right_or_null None = Null
right_or_null (Some right) = right

-- what the token holds on the file
abbrev pub right_of : Token → FileKey → Rights → Right
right_of t k rights = right_or_null (lookup (same_holding (holding t k)) rights)

-- it is another token's right on that file, and excludes this one
abbrev pub hinders : FileKey → Right → Token → Holding × Right → Bool
hinders k need own held = same_key held.0.key k && not (same_token held.0.token own) && excludes need held.1

-- The lowest other token whose right on the file excludes this one: the first, since tokens stand in their order.
abbrev pub conflict : FileKey → Right → Token → Rights → Option Token
conflict k need own rights = option_map (λ held. held.0.token) (find (hinders k need own) rights)

-- ---- what refuses

abbrev pub busy : Option Token → Option DmRefusal
busy other = option_map Busy other

-- what the token has on the file is less than what is needed
abbrev pub too_low : Right → Right → Option DmRefusal
too_low need have = if reaches have need then None else Some (NeedRight have)

-- A token must have the right that is needed. Without one a call takes it, unless the right of some token excludes it
abbrev pub bad_right : Token → FileKey → Right → Rights → Option DmRefusal
bad_right t k need rights = if same_token t no_token then busy (conflict k need no_token rights) else too_low need (right_of t k rights)

-- ---- what is left

-- the token has this right on the file, and no other
abbrev pub with_right : Token → FileKey → Right → Rights → Rights
with_right t k right rights = insert_entry holding_cmp rights (holding t k) right

-- it has this right at least
abbrev pub requested : Token → FileKey → Right → Rights → Rights
requested t k right rights = if reaches (right_of t k rights) right then rights else with_right t k right rights

-- it has none on the file
abbrev pub without_right : Token → FileKey → Rights → Rights
without_right t k rights = remove_entry (same_holding (holding t k)) rights

-- it has none at all
abbrev pub released : Token → Rights → Rights
released t rights = filter (λ held. not (same_token held.0.token t)) rights

-- ---- what is always true

-- At most one right a token and file, each more than nothing; and a token that holds a file exclusively is the only one that holds it.
pub record AreRights (rights : Rights) : Type 0 where
  pub ascend : IsStrictlySortedBy holding_cmp (keys_of rights)
  pub some : All (λ right. right ≢ Null) (values_of rights)
  pub alone : (t u : Token) (k : FileKey) → right_of t k rights ≡ Excl → right_of u k rights ≢ Null → t ≡ u
