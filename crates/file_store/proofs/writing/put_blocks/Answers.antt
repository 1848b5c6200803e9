use Rattle.file_store.proofs.Names.{◌≡◌, ◌+◌, ◌*◌, ◌<◌, ◌≤◌, ◌++◌, ◌∷◌, [], ℕ, List, length, get_or, take, refl, ◌∙◌, ap, subst, arith, take_all}
use Rattle.file_store.proofs.Names.{take_more, IsFreed, IsWritten, Keeps, keeps_on, kept_by, given_on, rebody, Mapping, block_of, effect_of}
use Rattle.file_store.proofs.Names.{mappings_of, IsBesideBlocks, HasBlocks}
use Rattle.file_body.proofs.Pieces.{length-block_of}
use Rattle.file_store.proofs.EachOf.{each-at}
use Rattle.file_store.proofs.Beside.{before, mapping_at, mapped, length-mapped, beside_freed, has_more}
use Rattle.file_store.proofs.writing.put_blocks.Given.{Over}
use Rattle.file_store.proofs.writing.put_blocks.Goals.{After-from, After-write_at}
use Rattle.file_store.proofs.writing.put_blocks.Goals as goal
use Rattle.hsm_types.specs.Limits.{block_bytes}

abbrev mappings : (g : Over) → After-from g → List Mapping
mappings g c = mappings_of c.args.blocks.now c.args.places.now

abbrev body : (g : Over) → After-from g → List ℕ
body g c = rebody (effect_of c.args.change) c.args.body.now.bytes

-- the block that is written, and its place
abbrev this : (g : Over) → After-from g → Mapping
this g c = record { block = get_or c.args.blocks.now c.loop-i.i 0; place = get_or c.args.places.now c.loop-i.i 0 }

this_is : (g : Over) (c : After-from g) → get_or (mappings g c) c.loop-i.i (this g c) ≡ this g c
this_is g c = mapping_at c.args.blocks.now c.args.places.now c.loop-i.i _ c.requires.count (omega (arith, c.requires.count))

block_is : (g : Over) (c : After-from g) → c.fill_block.new.buffer ≡ block_of (body g c) (this g c).block
block_is g c = c.fill_block.ensures ∙ ap (block_of (body g c)) c.block.ensures.block

long : (g : Over) (c : After-from g) → length c.fill_block.new.buffer ≡ block_bytes
long g c = ap length (block_is g c) ∙ length-block_of (body g c) (this g c).block

pub write_at-requires : goal.write_at-requires
write_at-requires g c =
    let at = (goal.at.write_at-requires g c).After-from in
    let fits = each-at (λ p. c.args.base + block_bytes * p + block_bytes ≤ g.D.Disk.length_of c.args.disk.now) c.args.places.now c.loop-i.i 0 (omega arith) c.requires.fits in
    omega (arith, fits, c.from.ensures, long g at, c.loop-i.invariant.keeps.moments.length)

-- what is kept after one more block, whether its write succeeded or failed
moments : (g : Over) (c : After-write_at g) → Keeps g.D.Disk c.args.disk.now c.write_at.new.disk (IsBesideBlocks c.args.base c.args.places.now)
moments g c =
    let at = (goal.at.After-write_at g c).After-from in
    keeps_on g.D.Disk _ _ _ _ (λ a b d first then_on. record { size = then_on.size ∙ first.size; same = λ i n all. then_on.same i n all ∙ first.same i n all }) c.loop-i.invariant.keeps
    (kept_by g.D.Disk _ _ _ _
    (λ d i f. beside_freed c.args.base c.args.places.now c.loop-i.i (omega arith) d i
    (subst (λ (n : ℕ). IsFreed (c.args.base + block_bytes * n) block_bytes d i) c.from.ensures (subst (λ (n : ℕ). IsFreed (c.args.base + block_bytes * c.from.result) n d i) (long g at) f)))
    c.write_at.ensures.keeps)

pub returns-in_err-write_at-clause-any_moment : goal.returns-in_err-write_at-clause-any_moment
returns-in_err-write_at-clause-any_moment g c = moments g (goal.at.returns-in_err-write_at-clause-any_moment g c).After-write_at

pub loop-i-preserved : goal.loop-i-preserved
loop-i-preserved g c =
    let after = (goal.at.loop-i-preserved g c).After-write_at in
    let at = (goal.at.loop-i-preserved g c).After-from in
    let ms : List Mapping = mappings g at in
    let m : Mapping = this g at in
    let within : c.loop-i.i < length ms = omega (arith, length-mapped c.args.blocks.now c.args.places.now c.requires.count, c.requires.count) in
    let more : take (c.loop-i.i + 1) ms ≡ take c.loop-i.i ms ++ m ∷ [] = take_more ms c.loop-i.i m within ∙ ap (λ (n : Mapping). take c.loop-i.i ms ++ n ∷ []) (this_is g at) in
    let others = rw (this_is g at) at (before ms c.loop-i.i m (rw (mapped c.args.blocks.now c.args.places.now c.requires.count).1 c.requires.apart) within) in
    record {
      keeps = moments g after;
      quiet = c.in_ok-write_at.ensures.cause.quiet refl ∙ c.loop-i.invariant.quiet;
      written = rw more (given_on g.D.Disk _ _ _ _ _ _ c.loop-i.invariant.written c.in_ok-write_at.ensures.written
          (λ d n i has w. has_more c.args.base (body g at) (take c.loop-i.i ms) m others (length-block_of _ _) d n i has
          (subst (λ (p : ℕ). IsWritten (c.args.base + block_bytes * p) (block_of (body g at) m.block) n i) c.from.ensures (subst (λ (bytes : List ℕ). IsWritten (c.args.base + block_bytes * c.from.result) bytes n i) (block_is g at) w))));
    }

pub returns-clause-written : goal.returns-clause-written
returns-clause-written g c = λ image gives.
    let ms : List Mapping = mappings_of c.args.blocks.now c.args.places.now in
    let all : take c.loop-i.i ms ≡ ms = take_all c.loop-i.i ms (omega (arith, length-mapped c.args.blocks.now c.args.places.now c.requires.count, c.requires.count)) in
    let has = c.loop-i.invariant.written image gives in
    (has.0, has.1, subst (λ (ns : List Mapping). HasBlocks c.args.base (rebody (effect_of c.args.change) c.args.body.now.bytes) ns has.0 image) all has.2)
