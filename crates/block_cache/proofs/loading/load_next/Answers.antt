use Rattle.std.proofs.Common.{◌≡◌, ◌∙◌, ℕ, List, true, false, get_or, take, sym, ap, subst, arith}
use Rattle.std.specs.Map.{keys_of}
use Rattle.lru.specs.LruCache.{LruCache}
use Rattle.block_cache.specs.Cached.{has, all_used_last}
use Rattle.block_cache.proofs.Runs.{run_first, run_lies, used_first, stopped_within}
use Rattle.block_cache.proofs.loading.load_next.Goals as goal

pub returns-then-promote_block-clause-shown : goal.returns-then-promote_block-clause-shown
returns-then-promote_block-clause-shown g c content gives are = c.promote_block.ensures.shown c.args.at content are

pub returns-then-promote_block-clause-keys : goal.returns-then-promote_block-clause-keys
returns-then-promote_block-clause-keys g c = c.promote_block.ensures.keys c.if-promote_block.true ∙ sym (used_first c.args.wanted.now (keys_of c.args.blocks.now.entries) c.requires.some)

pub returns-then-promote_block-clause-stay : goal.returns-then-promote_block-clause-stay
returns-then-promote_block-clause-stay g c there bs = c.promote_block.ensures.stay c.if-promote_block.true bs

pub load_run-requires-clause-absent : goal.load_run-requires-clause-absent
load_run-requires-clause-absent g c =
    let first = get_or c.args.wanted.now 0 0 in
    c.count_neighbours-count.ensures.absent (subst (λ (l : LruCache ℕ (List ℕ)). has first (keys_of l.entries) ≡ false) (sym (c.promote_block.ensures.absent c.if-promote_block.false)) (sym c.promote_block.ensures.there ∙ c.if-promote_block.false))

pub load_run-requires-clause-lies : goal.load_run-requires-clause-lies
load_run-requires-clause-lies g c =
    let N = c.count_neighbours-count.ensures in
    let n = c.count_neighbours-count.result in
    let bs = c.args.wanted.now in
    let lies = run_lies c.args.at (g.D.Disk.length_of c.args.disk.now) _ bs n c.requires.lies N.some N.within N.run in
    omega (arith, run_first n bs N.some, lies)

pub returns-in-Ok-clause-lengths : goal.returns-in-Ok-clause-lengths
returns-in-Ok-clause-lengths g c are = c.in-Ok.ensures.lengths (c.promote_block.ensures.lengths are)

pub returns-in-Ok-clause-shown : goal.returns-in-Ok-clause-shown
returns-in-Ok-clause-shown g c content gives are = c.in-Ok.ensures.shown content gives (c.promote_block.ensures.shown c.args.at content are)

pub returns-in-Ok-clause-keys : goal.returns-in-Ok-clause-keys
returns-in-Ok-clause-keys g c =
    c.in-Ok.ensures.keys ∙ ap (λ (l : LruCache ℕ (List ℕ)). all_used_last (take c.count_neighbours-count.result c.args.wanted.now) (keys_of l.entries)) (c.promote_block.ensures.absent c.if-promote_block.false)

pub returns-in-Ok-clause-there : goal.returns-in-Ok-clause-there
returns-in-Ok-clause-there g c there = let bad : true ≡ false = sym there ∙ sym c.promote_block.ensures.there ∙ c.if-promote_block.false in absurd cc

pub returns-in-Ok-clause-stay : goal.returns-in-Ok-clause-stay
returns-in-Ok-clause-stay g c there = let bad : true ≡ false = sym there ∙ sym c.promote_block.ensures.there ∙ c.if-promote_block.false in absurd cc

pub returns-in-Err-clause-lengths : goal.returns-in-Err-clause-lengths
returns-in-Err-clause-lengths g c are = c.in-Err.ensures.lengths (c.promote_block.ensures.lengths are)

pub returns-in-Err-clause-shown : goal.returns-in-Err-clause-shown
returns-in-Err-clause-shown g c content gives are = c.in-Err.ensures.shown content gives (c.promote_block.ensures.shown c.args.at content are)

pub returns-in-Err-clause-stopped : goal.returns-in-Err-clause-stopped
returns-in-Err-clause-stopped g c =
    stopped_within c.count_neighbours-count.result c.args.wanted.now (keys_of c.load_run.new.blocks.entries) (keys_of c.args.blocks.now.entries) (keys_of c.promote_block.new.blocks.entries)
    c.count_neighbours-count.ensures.within (ap (λ (l : LruCache ℕ (List ℕ)). keys_of l.entries) (c.promote_block.ensures.absent c.if-promote_block.false)) c.in-Err.ensures.stopped

pub returns-in-Err-clause-there : goal.returns-in-Err-clause-there
returns-in-Err-clause-there g c there = let bad : true ≡ false = sym there ∙ sym c.promote_block.ensures.there ∙ c.if-promote_block.false in absurd cc

pub returns-in-Err-clause-stay : goal.returns-in-Err-clause-stay
returns-in-Err-clause-stay g c there = let bad : true ≡ false = sym there ∙ sym c.promote_block.ensures.there ∙ c.if-promote_block.false in absurd cc
