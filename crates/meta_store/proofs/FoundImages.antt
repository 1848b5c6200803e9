-- Recovery finds one thing on an image.
use Rattle.std.proofs.Common.{◌≡◌, ℕ, List, map, sym, ◌∙◌, ap, subst}
use Rattle.meta_store.specs.Catalogs.{Catalog, IsCatalog}
use Rattle.snapshot_text.specs.Files.{geometry_of}
use Rattle.snapshot_text.specs.Snapshots.{Snapshot, IsSpelled}
use Rattle.meta_store.specs.Snapshots.{snapshot_of}
use Rattle.meta_store.specs.Images.{area_of}
use Rattle.meta_store.specs.Laws.{FindsOne}
use Rattle.snapshot_text.proofs.ReadSnapshots.{one}
use Rattle.snapshot_text.proofs.SpreadPlaces.{filled, filled-again}

same-catalog : (n n' : ℕ) (c c' : Catalog) → c.geometry ≡ c'.geometry → IsCatalog c → IsCatalog c' → snapshot_of n c ≡ snapshot_of n' c' → (n ≡ n') × (c ≡ c')
unfolding snapshot_of
same-catalog n n' c c' geometry h h' is =
    let next = ap (λ (s : Snapshot). s.next) is in
    let files = sym (filled-again (geometry_of c.geometry) c.files h.each) ∙ ap (λ (s : Snapshot). map filled s.files) is ∙ filled-again (geometry_of c'.geometry) c'.files h'.each in
    (ap (λ (s : Snapshot). s.number) is, λ i. record { geometry = geometry i; next = next i; files = files i })

pub found-one : (image : List ℕ) → FindsOne image
found-one image fsid n c fsid' n' c' found found' =
    let head = found.holds.found.superblock in
    let head' = found'.holds.found.superblock in
    let geometry : c'.geometry ≡ c.geometry = sym head'.says_geometry ∙ head.says_geometry in
    let spelled : IsSpelled (area_of c.geometry image) (snapshot_of n' c') = subst (λ (g : ℕ). IsSpelled (area_of g image) (snapshot_of n' c')) geometry found'.holds.snapshot.spelled in
    let snapshot : snapshot_of n' c' ≡ snapshot_of n c = one (area_of c.geometry image) (snapshot_of n' c') (snapshot_of n c) spelled found.holds.snapshot.spelled in
    let same = same-catalog n' n c' c geometry found'.holds.snapshot.catalog found.holds.snapshot.catalog snapshot in
    (sym head'.says_fsid ∙ head.says_fsid, same.0, same.1)
