use Rattle.std.proofs.Common.{◌∙◌, ◌-◌, ◌+◌, ℕ, List, None, Option, get_or, take, drop, length, ap, subst, arith}
use Rattle.block_cache.specs.Lent.{AreCached, lent_parts}
use Rattle.block_cache.specs.Rests.{places_left}
use Rattle.block_cache.specs.declared.parts.Parts.{Parts}
use Rattle.block_cache.proofs.PartLists.{head_there, left_next, left_none, parts_none, parts_empty, parts_next, tail_there}
use Rattle.block_cache.proofs.parts.PartsIterator.next.Goals as goal

-- the places behind the next one
abbrev behind : Parts → List (Option ℕ)
behind s = take (s.end - (s.next + 1)) (drop (s.next + 1) s.places)

pub returns-then-self-eq0-clause-steps : goal.returns-then-self-eq0-clause-steps
returns-then-self-eq0-clause-steps c = let s = c.args.self.now in let is = parts_none s.cache.now (places_left s) s.start s.count c.if-self-eq0.true in (is, is)

pub returns-then-self-clause-steps : goal.returns-then-self-clause-steps
returns-then-self-clause-steps c =
    let s = c.args.self.now in
    let is = ap (λ (ps : List (Option ℕ)). lent_parts s.cache.now ps s.start s.count) (left_none s.next s.end s.places c.if-self.true) ∙ parts_empty s.cache.now s.start s.count in
    (is, is)

pub lend-requires-clause-there : goal.lend-requires-clause-there
lend-requires-clause-there c =
    let s = c.args.self.now in
    head_there s.cache.now (get_or s.places s.next None) (behind s) (subst (AreCached s.cache.now) (left_next s.next s.end s.places c.if-self.false s.ends.1) s.there)

pub returns-clause-steps : goal.returns-clause-steps
returns-clause-steps c =
    let s = c.args.self.now in
    ap (λ (ps : List (Option ℕ)). lent_parts s.cache.now ps s.start s.count) (left_next s.next s.end s.places c.if-self.false s.ends.1)
    ∙ rw (c.lend.ensures, c.min-len.ensures) (parts_next s.cache.now (get_or s.places s.next None) (behind s) s.start s.count c.if-self-eq0.false)

pub returns-clause-goes : goal.returns-clause-goes
returns-clause-goes c = record { on = λ f. (tt, tt, omega (arith, ap length (returns-clause-steps c))); keeps = tt; rests = λ f. tt }

pub invariant_of-self : goal.invariant_of-self
invariant_of-self c =
    let s = c.args.self.now in
    record {
      within = omega arith;
      ends = (omega (arith, c.if-self.false), s.ends.1);
      there = tail_there s.cache.now (get_or s.places s.next None) (behind s) (subst (AreCached s.cache.now) (left_next s.next s.end s.places c.if-self.false s.ends.1) s.there);
    }
