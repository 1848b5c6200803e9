-- Rights in two orders: by files, and by tokens.
use Rattle.std.specs.Prelude.{◌≡◌, ◌<◌, ◌^◌, List, Bool}
use Rattle.std.specs.BTreeMap.{is_at}
use Rattle.std.specs.List.{All, list_any}
use Rattle.std.specs.Map.{lookup, keys_of}
use Rattle.std.specs.Option.{is_some}
use Rattle.std.specs.Ordering.{nat_cmp, ordering_then}
use Rattle.std.specs.declared.cmp.Ordering.{Ordering}
use Rattle.hsm_types.specs.Rights.{Rights, AreRights, key_cmp, holding, same_holding}
use Rattle.hsm_types.specs.declared.keys.FileKey.{FileKey}
use Rattle.hsm_types.specs.declared.keys.Token.{Token}
use Rattle.token_rights.specs.declared.held.Held.{Held}

-- by tokens, and of one token by files
abbrev pub held_cmp : Held → Held → Ordering
held_cmp a b = ordering_then (nat_cmp a.token.0 b.token.0) (key_cmp a.key b.key)

abbrev pub held : Token → FileKey → Held
held t k = record { token = t; key = k }

-- whether it stands there
abbrev pub stands : Held → List Held → Bool
stands h all = list_any (is_at (held_cmp h)) all

-- the second has what the first has, and each token is a number of 64 bits
pub record AreIndexed (rights : Rights) (by_token : List Held) : Type 0 where
  pub are : AreRights rights
  pub tokens : All (λ h. h.token.0 < 2 ^ 64) (keys_of rights)
  pub same : (t : Token) (k : FileKey) → stands (held t k) by_token ≡ is_some (lookup (same_holding (holding t k)) rights)
