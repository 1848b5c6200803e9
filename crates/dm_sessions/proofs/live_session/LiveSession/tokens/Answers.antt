use Rattle.std.proofs.Common.{◌≡◌, List, ap, subst, ◌∙◌, rules}
use Rattle.std.specs.List.Sorted.{IsPermutation, IsNonDecreasingBy}
use Rattle.std.specs.Map.{keys_of}
use Rattle.std.proofs.lemmas.List.Sorted.{IsNonDecreasingBy-from_sort_by_key}
use Rattle.hsm_types.specs.Sessions.{LiveSession, tokens_of}
use Rattle.hsm_types.specs.declared.keys.Token.{Token}
use Rattle.dm_sessions.proofs.Climbing.{increasing-keys}
use Rattle.dm_sessions.proofs.TokenOrder.{climbs-ordered, tokens-ordered}
use Rattle.dm_sessions.proofs.live_session.LiveSession.tokens.Goals as goal

ordered : (c : goal.After-from) → IsPermutation (keys_of c.self.inside.outstanding.entries) c.sort_unstable_by_key.new.self.items
ordered c =
    let all : c.in_ok-tokens.tokens.items ≡ keys_of c.self.inside.outstanding.entries = search rules in
    subst (λ (l : List Token). IsPermutation l c.sort_unstable_by_key.new.self.items) all c.sort_unstable_by_key.ensures.permutation

up : (c : goal.After-from) → IsNonDecreasingBy (λ (t : Token). t.0) c.sort_unstable_by_key.new.self.items
up c = IsNonDecreasingBy-from_sort_by_key (λ (t : Token). t.0) c.sort_unstable_by_key.new.self.items c.sort_unstable_by_key.ensures.sorted (λ a r f' call. search rules)

pub returns-clause-tokens : goal.returns-clause-tokens
returns-clause-tokens c =
    c.from.ensures ∙ tokens-ordered c.self.inside.outstanding.entries c.sort_unstable_by_key.new.self.items c.self.invariant.kept c.self.invariant.apart (ordered c) (up c) ∙ ap (λ (s : LiveSession). tokens_of s.outstanding) c.self.view_is

pub returns-clause-ascending : goal.returns-clause-ascending
returns-clause-ascending c = rw c.from.ensures (increasing-keys (λ (t : Token). t.0) 0 c.sort_unstable_by_key.new.self.items (climbs-ordered c.self.inside.outstanding.entries c.sort_unstable_by_key.new.self.items c.self.invariant.kept c.self.invariant.apart (ordered c) (up c)))
