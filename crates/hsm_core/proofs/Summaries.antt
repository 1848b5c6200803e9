-- What is told of a store as a whole, by what the catalog shows.
use Rattle.std.proofs.Common.{◌≡◌, ℕ, ◌+◌, ◌<◌, List, [], ◌∷◌, ◌++◌, length, take, map, Some, refl, sym, ◌∙◌, ap, subst}
use Rattle.std.specs.Prelude.{sum_by, sum, slice_get}
use Rattle.std.specs.List.{AllByRecursion}
use Rattle.std.proofs.lemmas.List.{map-append, take_more}
use Rattle.std.proofs.lemmas.List.Sums.{sum-map, sum_by_more}
use Rattle.std.proofs.lemmas.Option.{slice_get_within, get_or_from_slice_get}
use Rattle.std.proofs.lemmas.Simd.{map-map}
use Rattle.plain_model.specs.Plain.{Listed}
use Rattle.plain_model.specs.State.{Held}
use Rattle.commit_slots.specs.Places.{layout_of}
use Rattle.snapshot_text.specs.Files.{CatalogFile, IsCatalogFile, geometry_of, present}
use Rattle.meta_store.specs.Catalogs.{Catalog, IsCatalog}
use Rattle.meta_store.specs.Images.{IsImage, blocks_in_image}
use Rattle.meta_store.proofs.HeldImages.{image_lawful, image_size}
use Rattle.file_store.specs.Bodies.{bytes_at, held_at}
use Rattle.file_store.specs.Laws.{RecoversOne}
use Rattle.file_store.specs.Stores.{IsRecovered, Row, row_of, row_held, Shows}
use Rattle.file_store.proofs.Beside.{length-block}
use Rattle.file_store.proofs.ByBlocks.{Whole, length-body}
use Rattle.file_store.proofs.EachOf.{each-weaker}
use Rattle.file_store.proofs.FilesBy.{shows}
use Rattle.store_summary.specs.declared.summaries.Summary.{Summary}
use Rattle.hsm_core.specs.Summaries.{offline_by, offline_of, summary_of, IsSummary}

-- ---- lists

-- a sum over what a list is mapped to
sum-mapped : {A B : Type 0} (m : B → ℕ) (to : A → B) (xs : List A) → sum_by m (map to xs) ≡ sum_by (λ x. m (to x)) xs
sum-mapped m to xs = sym (sum-map m (map to xs)) ∙ ap sum (map-map m to xs) ∙ sum-map (λ x. m (to x)) xs

-- with the file of a place, as far as the one before it
pub sum-next : {X : Type 0} (m : X → ℕ) (xs : List X) (i : ℕ) (x : X) → slice_get xs i ≡ Some x → sum_by m (take (i + 1) xs) ≡ sum_by m (take i xs) + m x
sum-next m xs i x at = sum_by_more m xs i x (slice_get_within xs i x at) ∙ ap (λ (y : _). sum_by m (take i xs) + m y) (get_or_from_slice_get xs i x x at)

-- ---- what the catalog shows

-- how many segments are offline
pub offline_shown : (c : Catalog) (h : Held) → Shows c h → sum_by (λ f. offline_by f.kept.stubs) c.files ≡ offline_of h.files
offline_shown c h shown =
    sym (sum-mapped (λ (r : Row). offline_by r.kept.stubs) row_of c.files) ∙ ap (λ (rs : List Row). sum_by (λ r. offline_by r.kept.stubs) rs) shown.rows
    ∙ sum-mapped (λ (r : Row). offline_by r.kept.stubs) row_held h.files

-- the names
pub names_shown : (c : Catalog) (h : Held) → Shows c h → map (λ f. f.name) c.files ≡ map (λ f. f.name) h.files
names_shown c h shown = sym (map-map (λ (l : Listed). l.name) _ c.files) ∙ ap (map (λ (l : Listed). l.name)) shown.names ∙ map-map (λ (l : Listed). l.name) _ h.files

-- with the name of the file of a place after those before it
pub names_more : (cs : List CatalogFile) (i : ℕ) (c : CatalogFile) (names more : List (List ℕ)) (name : List ℕ) → slice_get cs i ≡ Some c → more ≡ names ++ name ∷ [] → name ≡ c.name → names ≡ map (λ f. f.name) (take i cs) → more ≡ map (λ f. f.name) (take (i + 1) cs)
names_more cs i c names more name at put same before =
    let next : take (i + 1) cs ≡ take i cs ++ c ∷ [] = take_more cs i c (slice_get_within cs i c at) ∙ ap (λ (f : CatalogFile). take i cs ++ f ∷ []) (get_or_from_slice_get cs i c c at) in
    put ∙ (λ j. before j ++ same j ∷ []) ∙ sym (map-append (λ (f : CatalogFile). f.name) (take i cs) (c ∷ [])) ∙ ap (map (λ (f : CatalogFile). f.name)) (sym next)

-- ---- what recovery finds

-- each body has its file's size
sizes_found : (c : Catalog) (image : List ℕ) → IsCatalog c → length image ≡ (layout_of c.geometry).whole → AllByRecursion (λ f. length (bytes_at (blocks_in_image c.geometry image) f) ≡ f.size) c.files
sizes_found c image is whole =
    let blocks = blocks_in_image c.geometry image in
    let Low : ℕ → Type 0 = λ p. p < (geometry_of c.geometry).blocks in
    each-weaker (IsCatalogFile (geometry_of c.geometry)) (λ f. length (bytes_at blocks f) ≡ f.size)
    (λ f lawful. length-body blocks f.size f.places (each-weaker Low (Whole blocks) (λ p low. length-block c.geometry image p low whole) (present f.places) lawful.within) lawful.places)
    c.files is.each

-- where this is told of all that the catalog shows
pub summary_found : (s : Summary) (fsid n : ℕ) (c : Catalog) (image : List ℕ) → RecoversOne image → IsImage fsid n c image → ((h : Held) → Shows c h → s ≡ summary_of c.geometry fsid n h) → IsSummary s image
summary_found s fsid n c image one is told =
    let blocks = blocks_in_image c.geometry image in
    let held : Held = held_at blocks c in
    let here : s ≡ summary_of c.geometry fsid n held = told held (shows (bytes_at blocks) c (sizes_found c image (image_lawful is) (image_size is))) in
    let found : IsRecovered c.geometry fsid n held image = record { catalog = c; same = refl; is = is; holds = refl } in
    record {
      geometry = c.geometry;
      fsid = fsid;
      held = held;
      found = subst (λ (m : ℕ). IsRecovered c.geometry fsid m held image) (sym (ap (λ (x : Summary). x.number) here)) found;
      told = λ geometry' fsid' n' h' other.
          let same = one c.geometry fsid n held geometry' fsid' n' h' found other in
          here ∙ (λ i. summary_of (sym same.0 i) (sym same.1 i) (sym same.2 i) (sym same.3 i));
    }
