use Rattle.file_store.proofs.Names.{◌≡◌, ◌≤◌, ◌-◌, ◌∙◌, ℕ, List, length, refl, ap, subst, arith, get_or_read, no_body, bytes_of, bytes_with, held_with}
use Rattle.file_store.proofs.Names.{IsCatalogFile, geometry_of, each-found}
use Rattle.file_store.proofs.FilesBy.{kept-found}
use Rattle.file_store.proofs.WithBodies.{live-held, body-held, is-body}
use Rattle.file_store.proofs.store.FileStore.body.Goals as goal

pub slot-requires : goal.slot-requires
slot-requires g c = (live-held c.self.invariant.0 c.args.key (rw (← c.self.view_is) at c.requires)).low

pub index-requires : goal.index-requires
index-requires g c = let live = live-held c.self.invariant.0 c.args.key (rw (← c.self.view_is) at c.requires) in omega (arith, live.low, live.high)

pub returns : goal.returns
returns g c =
    let bs = c.self.inside.bodies.items in
    let m = c.self.inside.meta in
    let live = live-held c.self.invariant.0 c.args.key (rw (← c.self.view_is) at c.requires) in
    let it = get_or_read bs (c.args.key.ino - 1) c.index.result.now (omega (arith, live.low, live.high)) (rw c.slot.ensures at c.index.ensures) no_body in
    let own = is-body c.self.invariant.0 live in
    let bytes : List ℕ = bytes_of c.args.key (held_with bs m.current).files in
    let size : length bytes ≡ live.file.size = ap length (body-held bs m.current c.args.key live.file live.found) ∙ own.size in
    let file = each-found (IsCatalogFile (geometry_of m.current.geometry)) c.args.key live.file m.current.files c.self.invariant.1.meta.current.each live.found in
    let few : length bytes ≤ (geometry_of m.current.geometry).limits.bytes = omega (arith, size, file.size) in
    rw (← c.self.view_is) record {
      bytes = rw (body-held bs m.current c.args.key live.file live.found, it) refl;
      limit = subst (λ (n : ℕ). length bytes ≤ (geometry_of n).limits.bytes) c.self.invariant.1.meta.stored.geometry few;
      here = λ j. rw (kept-found (bytes_with bs) m.current c.args.key live.file live.found, it) (own.here j);
    }
