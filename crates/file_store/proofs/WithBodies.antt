-- Files after a record, and after a change of the bytes of one, however bytes are found, and with their bodies in memory.
use Rattle.std.proofs.lemmas.Bool.Decides.{nat_tests}
use Rattle.file_store.proofs.Names.{◌≡◌, ℕ, List, [], length, map, Some, None, refl, ◌∙◌, sym, ap, subst, ◌+◌, ◌-◌, ◌≤◌, ◌∷◌, get_or, set, true}
use Rattle.file_store.proofs.Names.{false, cond, eqb, arith, length-set, get_or-set_same, get_or-set_other, IsSome, option_map, AllByRecursion}
use Rattle.file_store.proofs.Names.{FileKey, find_key, change_key, drop_key, rebody, touched, mapped_after, FileState, affected_held, bytes_of}
use Rattle.file_store.proofs.Names.{Mapping, Record, Make, Drop, Size, Map, CatalogFile, Catalog, IsCatalog, geometry_of, names_of, file_after}
use Rattle.file_store.proofs.Names.{with_changed, inode_of, key_on, after, CanStand, each-put, each-drop, each-change, names_of-drop, Rewrite, Write}
use Rattle.file_store.proofs.Names.{Resize, file_by, bytes_at, body_with, bytes_with, held_at, held_with, HeldBody, no_body, IsAlike, IsHere, IsBody}
use Rattle.file_store.proofs.Names.{AreBodies, IsWithin, rekept, Stub, Restore, IsBodiless, held_after, empties, effect_of, remapped, eqb-false}
use Rattle.file_store.proofs.Names.{Meta, each-found, key-found, Kept, empty_file, has_inode, Within, absent-low, ascend-drop, IsHeldFiles}
use Rattle.file_store.specs.Bodies.{held_by, body_at}
use Rattle.file_store.proofs.EachOf.{each-all, each-both, each-weaker}
use Rattle.file_store.proofs.FilesBy.{SameBytes, same_held, by-put, by-drop, by-change, change-none, find-held, live-by}
use Rattle.file_store.proofs.ByteChanges.{flags-mapped, length-changed}
use Rattle.file_store.proofs.Marks.{geometry-after}
use Rattle.file_store.proofs.SealedFiles.{seal_is, seal-same}
use Rattle.meta_store.proofs.FileEdits.{each-changed as each-known}
use Rattle.inode_table.specs.Listing.{Ascend}
use Rattle.inode_table.proofs.Choices.{neither}

-- where bytes don't go by what is kept beside them
abbrev pub SeesNoKept : (CatalogFile → List ℕ) → Type 0
SeesNoKept B = (f : CatalogFile) (kept : Kept) → B (record f { kept = kept }) ≡ B f

-- Bytes as they are found before the record and after it: a new file has none, and all files that stay have the same.
abbrev pub KeepsBytes : (CatalogFile → List ℕ) → (CatalogFile → List ℕ) → FileKey → Record → Catalog → Type 0
KeepsBytes B C k (Make key name) c = AllByRecursion (SameBytes B C) c.files × (C (empty_file key name) ≡ [])
KeepsBytes B C k (Drop ino) c = AllByRecursion (SameBytes B C) (drop_key (λ f. f.key) k c.files)
KeepsBytes B C k r c = (f : CatalogFile) → C f ≡ B f

module _ (B C : CatalogFile → List ℕ) (sees : SeesNoKept B) where
  of_kept : (kept : Kept) (f : CatalogFile) → file_by B (record f { kept = kept }) ≡ record (file_by B f) { kept = kept }
  of_kept kept f = rw (sees f kept) refl

  pub held-after : (k : FileKey) (r : Record) (c : Catalog) → IsBodiless k r c → CanStand r c → KeepsBytes B C k r c → held_by C (after r c) ≡ held_after k r (held_by B c)
  unfolding held_by
  held-after k (Make key name) c is stands keeps = grind (arith, same_held, by-put, empty_file)
  held-after k (Drop ino) c is stands keeps = rw is (same_held _ _ _ _ (by-drop B C k c.files keeps) refl)
  held-after k (Size ino size) c is stands keeps = absurd is
  held-after k (Map ino block places) c is stands keeps = absurd is
  held-after k (Stub ino j None) c is stands keeps = absurd is
  held-after k (Stub ino j (Some stub)) c is stands keeps = grind (arith, seal_is, of_kept, same_held, by-change, each-all)
  held-after k r c is stands keeps = grind (arith, of_kept, same_held, by-change, each-all)

-- ---- bytes that change, and touched blocks that get new places

-- all that the change leaves of it
abbrev rewritten : Rewrite → FileState → FileState
rewritten change f = record f { body = rebody (effect_of change) f.body; mapped = mapped_after (effect_of change) (length f.body) f.mapped; kept = rekept (effect_of change) (length f.body) f.kept }

affected-rewritten : (change : Rewrite) (key : FileKey) (files : List FileState) → affected_held (effect_of change) key files ≡ change_key (λ f. f.key) key (rewritten change) files
affected-rewritten (Write offset bytes) key files = refl
affected-rewritten (Resize size) key files = refl
affected-rewritten (Restore segment bytes) key files = refl

pub held-rewritten : (B C : CatalogFile → List ℕ) (k : FileKey) (change : Rewrite) (size : ℕ) (ms : List Mapping) (c : Catalog) (f : CatalogFile) → find_key (λ g. g.key) k c.files ≡ Some f
    → size ≡ length (B f) → map (λ m. m.block) ms ≡ touched (effect_of change) size → C (remapped change size ms f) ≡ rebody (effect_of change) (B f)
    → AllByRecursion (SameBytes B C) (drop_key (λ g. g.key) k c.files) → held_by C (with_changed k (remapped change size ms) c) ≡ record (held_by B c) { files = affected_held (effect_of change) k (held_by B c).files }
unfolding held_by
held-rewritten B C k change size ms c f found was blocks becomes others = grind (arith, flags-mapped, same_held, by-change, others, affected-rewritten)

-- ---- the inode of a file that is found

pub each-above : (n : ℕ) (fs : List CatalogFile) → Ascend n (names_of fs) → AllByRecursion (λ f. n ≤ f.key.ino) fs
each-above n [] a = tt
each-above n (f ∷ fs) a = grind (arith, each-weaker, each-above (f.key.ino + 1) fs a.1)

pub each-within : (limit next : ℕ) (fs : List CatalogFile) → Within limit next (names_of fs) → AllByRecursion (λ f. f.key.ino ≤ limit) fs
each-within limit next [] w = tt
each-within limit next (f ∷ fs) w = (w.0, each-within limit next fs w.2)

found-by : (P : ℕ → Type 0) (k : FileKey) (f : CatalogFile) (fs : List CatalogFile) → AllByRecursion (λ f. P f.key.ino) fs → find_key (λ x. x.key) k fs ≡ Some f → P k.ino
found-by P k f fs each found = grind (arith, key-found, each-found)

found-above : (n : ℕ) (k : FileKey) (f : CatalogFile) (fs : List CatalogFile) → Ascend n (names_of fs) → find_key (λ x. x.key) k fs ≡ Some f → n ≤ k.ino
found-above n k f fs a found = found-by (λ ino. n ≤ ino) k f fs (each-above n fs a) found

-- Once it is dropped no file has the inode.
dropped-inode : (n : ℕ) (k : FileKey) (f : CatalogFile) (fs : List CatalogFile) → Ascend n (names_of fs) → find_key (λ x. x.key) k fs ≡ Some f → has_inode k.ino (names_of (drop_key (λ x. x.key) k fs)) ≡ false
dropped-inode n k f [] a found = cc
dropped-inode n k f (e ∷ fs) a found =
    let low = absent-low e.key.ino (e.key.ino + 1) (names_of fs) a.1 (omega arith) in
    grind (arith, nat_tests, low, dropped-inode (e.key.ino + 1) k f fs a.1, found-above (e.key.ino + 1) k f fs a.1)

-- ---- the files that keep their bodies

-- the file has the same body
abbrev pub SameBody : List HeldBody → List HeldBody → CatalogFile → Type 0
SameBody bs cs f = body_with cs f ≡ body_with bs f

pub same-bytes : (bs cs : List HeldBody) (fs : List CatalogFile) → AllByRecursion (SameBody bs cs) fs → AllByRecursion (SameBytes (bytes_with bs) (bytes_with cs)) fs
same-bytes bs cs = grind (arith, each-weaker)

-- what is true of each file and its body
abbrev Bodied : List HeldBody → CatalogFile → Type 0
Bodied bs f = IsBody (body_with bs f) f

same-bodies : (bs cs : List HeldBody) (fs : List CatalogFile) → AllByRecursion (SameBody bs cs) fs → AreBodies bs fs → AreBodies cs fs
same-bodies bs cs = grind (arith, each-both)

-- where no file has the inode
stay-unused : (bs : List HeldBody) (n ino : ℕ) (x : HeldBody) (fs : List CatalogFile) → 1 ≤ ino → 1 ≤ n → Ascend n (names_of fs) → has_inode ino (names_of fs) ≡ false → AllByRecursion (SameBody bs (set bs (ino - 1) x)) fs
stay-unused bs n ino x [] low from a free = tt
stay-unused bs n ino x (f ∷ fs) low from a free =
    let parts = neither (eqb f.key.ino ino) (has_inode ino (names_of fs)) free in
    let other = eqb-false f.key.ino ino parts.0 in
    let above = a.0 in
    (get_or-set_other bs (ino - 1) (f.key.ino - 1) x no_body (λ same. other (omega arith)), stay-unused bs (f.key.ino + 1) ino x fs low (omega arith) a.1 parts.1)

-- where a file has it, those beside that one
stay-beside : (bs : List HeldBody) (k : FileKey) (x : HeldBody) (f : CatalogFile) (fs : List CatalogFile) → Ascend 1 (names_of fs) → find_key (λ y. y.key) k fs ≡ Some f
    → AllByRecursion (SameBody bs (set bs (k.ino - 1) x)) (drop_key (λ y. y.key) k fs)
stay-beside bs k x f fs a found = grind (arith, stay-unused, found-above, names_of-drop, ascend-drop, dropped-inode)

-- ---- a record that concerns no bytes, among data blocks

empty_at : (blocks : List ℕ) → body_at blocks 0 [] ≡ []
unfolding body_at
empty_at blocks = refl

keeps-at : (blocks : List ℕ) (k : FileKey) (r : Record) (c : Catalog) → KeepsBytes (bytes_at blocks) (bytes_at blocks) k r c
keeps-at blocks k (Make key name) c = grind (arith, each-all, empty_at)
keeps-at blocks k (Drop ino) c = grind (arith, each-all)
keeps-at blocks k r c = λ f. refl

pub held_at-after : (blocks : List ℕ) (k : FileKey) (r : Record) (c : Catalog) → IsBodiless k r c → CanStand r c → held_at blocks (after r c) ≡ held_after k r (held_at blocks c)
held_at-after blocks k r c is stands = held-after (bytes_at blocks) (bytes_at blocks) (λ f kept. refl) k r c is stands (keeps-at blocks k r c)

-- ---- in memory, where the body of the inode is empty once its file is new or gone

abbrev pub bodies_after : FileKey → Record → List HeldBody → List HeldBody
bodies_after k r bs = cond (empties r) (set bs (k.ino - 1) no_body) bs

pub bytes-held : (B : CatalogFile → List ℕ) (c : Catalog) (k : FileKey) (f : CatalogFile) → find_key (λ x. x.key) k c.files ≡ Some f → bytes_of k (held_by B c).files ≡ B f
bytes-held B c k f found = grind (arith, find-held, option_map)

pub body-held : (bs : List HeldBody) (c : Catalog) (k : FileKey) (f : CatalogFile) → find_key (λ x. x.key) k c.files ≡ Some f → bytes_of k (held_with bs c).files ≡ (get_or bs (k.ino - 1) no_body).bytes
body-held bs c k f found = grind (arith, bytes-held, key-found)

-- the same files, whatever is durable
pub same-files : (bs : List HeldBody) (m n : Meta) → n.current ≡ m.current → IsHeldFiles bs m → IsHeldFiles bs n
same-files bs m n same is = grind arith

-- The bodies of files after a record that concerns no bytes: a new file has none, and all files that stay have the same.
abbrev KeepsBodies : List HeldBody → List HeldBody → FileKey → Record → Catalog → Type 0
KeepsBodies bs cs k (Make key name) c = AllByRecursion (SameBody bs cs) c.files × (body_with cs (empty_file key name) ≡ no_body)
KeepsBodies bs cs k (Drop ino) c = AllByRecursion (SameBody bs cs) (drop_key (λ f. f.key) k c.files)
KeepsBodies bs cs k r c = (f : CatalogFile) → body_with cs f ≡ body_with bs f

keeps-bytes : (bs cs : List HeldBody) (k : FileKey) (r : Record) (c : Catalog) → KeepsBodies bs cs k r c → KeepsBytes (bytes_with bs) (bytes_with cs) k r c
keeps-bytes bs cs k (Make key name) c keeps = grind (arith, same-bytes)
keeps-bytes bs cs k (Drop ino) c keeps = same-bytes bs cs (drop_key (λ f. f.key) k c.files) keeps
keeps-bytes bs cs k r c keeps = λ f. ap (λ (b : HeldBody). b.bytes) (keeps f)

no-body : (key : FileKey) (name : List ℕ) → IsBody no_body (empty_file key name)
no-body key name = grind arith

bodies-after : (bs cs : List HeldBody) (k : FileKey) (r : Record) (c : Catalog) → IsBodiless k r c → KeepsBodies bs cs k r c → AreBodies bs c.files → AreBodies cs (after r c).files
bodies-after bs cs k (Make key name) c is keeps are = grind (arith, each-put, empty_file, no-body, same-bodies)
bodies-after bs cs k (Drop ino) c is keeps are = grind (arith, same-bodies, each-drop)
bodies-after bs cs k (Size ino size) c is keeps are = absurd is
bodies-after bs cs k (Map ino block places) c is keeps are = absurd is
bodies-after bs cs k (Stub ino j None) c is keeps are = absurd is
bodies-after bs cs k (Stub ino j (Some stub)) c is keeps are =
    each-known (Bodied cs) (key_on ino c) (file_after (Stub ino j (Some stub))) c.files
    (λ f found was.
    let seal = is.1 f found in record { size = was.size; here = λ i. grind (arith, seal-same) })
    (same-bodies bs cs c.files (each-all (SameBody bs cs) keeps c.files) are)
bodies-after bs cs k r c is keeps are =
    each-change (Bodied cs) (key_on (inode_of r) c) (file_after r) c.files (λ f was. record { size = was.size; here = was.here }) (same-bodies bs cs c.files (each-all (SameBody bs cs) keeps c.files) are)

-- the file has the key, and its inode is one of those that there are
pub record IsFound (limit : ℕ) (c : Catalog) (k : FileKey) : Type 0 where
  pub file : CatalogFile
  pub found : find_key (λ f. f.key) k c.files ≡ Some file
  pub low : 1 ≤ k.ino
  pub high : k.ino ≤ limit

module _ {bs : List HeldBody} {m : Meta} (is : IsHeldFiles bs m) where
  found-there : (k : FileKey) (f : CatalogFile) → find_key (λ x. x.key) k m.current.files ≡ Some f → IsFound (length bs) m.current k
  found-there k f found =
      let files = m.current.files in
      let table = is.catalog.table in
      let within = found-by (λ ino. ino ≤ (geometry_of m.current.geometry).files) k f files (each-within _ m.current.next files table.within) found in
      record { file = f; found = found; low = found-above 1 k f files table.ascend found; high = rw is.count within }

  pub live-held : (k : FileKey) → IsSome (find_key (λ f. f.key) k (held_with bs m.current).files) → IsFound (length bs) m.current k
  live-held k live = grind (arith, live-by, found-there)

  -- the inode is one of those that there are
  pub slot-there : (k : FileKey) (r : Record) → empties r ≡ true → IsBodiless k r m.current → CanStand r m.current → (1 ≤ k.ino) × (k.ino ≤ length bs)
  slot-there k (Make key name) new same stands = grind arith
  slot-there k (Drop ino) gone same stands = grind (arith, found-there)
  slot-there k r never same stands = cc

  keeps-with : (k : FileKey) (r : Record) → IsBodiless k r m.current → CanStand r m.current → KeepsBodies bs (bodies_after k r bs) k r m.current
  keeps-with k (Make key name) same stands = grind (arith, stay-unused, get_or-set_same)
  keeps-with k (Drop ino) same stands = stay-beside bs k no_body stands.0 m.current.files is.catalog.table.ascend (rw (← same) stands.1)
  keeps-with k (Size ino size) same stands = absurd same
  keeps-with k (Map ino block places) same stands = absurd same
  keeps-with k r same stands = λ f. refl

  count-after : (k : FileKey) (r : Record) → length (bodies_after k r bs) ≡ length bs
  count-after k (Make key name) = length-set bs (k.ino - 1) no_body
  count-after k (Drop ino) = length-set bs (k.ino - 1) no_body
  count-after k r = refl

  pub held_with-after : (k : FileKey) (r : Record) → IsBodiless k r m.current → CanStand r m.current → held_with (bodies_after k r bs) (after r m.current) ≡ held_after k r (held_with bs m.current)
  held_with-after k r same stands = held-after (bytes_with bs) (bytes_with (bodies_after k r bs)) (λ f kept. refl) k r m.current same stands (keeps-bytes bs (bodies_after k r bs) k r m.current (keeps-with k r same stands))

  pub IsHeldFiles-after : (k : FileKey) (r : Record) (n : Meta) → IsBodiless k r m.current → CanStand r m.current → n.current ≡ after r m.current → IsCatalog n.current → IsHeldFiles (bodies_after k r bs) n
  IsHeldFiles-after k r n same stands current lawful = grind (arith, bodies-after, keeps-with, count-after, geometry-after)

-- ---- and after a change of the bytes of one file

-- what is true of the others and of the changed file is true of each
pub each-changed : (P : CatalogFile → Type 0) (k : FileKey) (to : CatalogFile → CatalogFile) (f : CatalogFile) (fs : List CatalogFile) → find_key (λ g. g.key) k fs ≡ Some f → P (to f) → AllByRecursion P (drop_key (λ g. g.key) k fs) → AllByRecursion P (change_key (λ g. g.key) k to fs)
each-changed P k to f [] found here others = cc
each-changed P k to f (e ∷ fs) found here others = grind (arith, each-changed P k to f fs)

module _ {bs : List HeldBody} {m : Meta} (is : IsHeldFiles bs m) {k : FileKey} (at : IsFound (length bs) m.current k) where
  ino_is : at.file.key ≡ k
  ino_is = key-found k at.file m.current.files at.found

  abbrev old : HeldBody
  old = get_or bs (k.ino - 1) no_body

  pub body-of : body_with bs at.file ≡ old
  body-of = ap (λ (j : FileKey). get_or bs (j.ino - 1) no_body) ino_is

  pub bytes-of : bytes_with bs at.file ≡ old.bytes
  bytes-of = ap (λ (b : HeldBody). b.bytes) body-of

  pub is-body : IsBody old at.file
  is-body = grind (arith, body-of, each-found)

  module _ (b : HeldBody) where
    abbrev new : List HeldBody
    new = set bs (k.ino - 1) b

    pub put-there : (f : CatalogFile) → f.key ≡ at.file.key → body_with new f ≡ b
    put-there f same = grind (arith, ino_is, get_or-set_same)

    pub others : AllByRecursion (SameBody bs new) (drop_key (λ g. g.key) k m.current.files)
    others = stay-beside bs k b at.file m.current.files is.catalog.table.ascend at.found

    -- where that file becomes another one of the same key, whose body it is
    pub put-bodies : (to : CatalogFile → CatalogFile) → (to at.file).key ≡ at.file.key → IsBody b (to at.file) → AreBodies new (change_key (λ f. f.key) k to m.current.files)
    put-bodies to same body =
        each-changed (Bodied new) k to at.file m.current.files at.found (subst (λ (x : HeldBody). IsBody x (to at.file)) (sym (put-there (to at.file) same)) body)
        (same-bodies bs new (drop_key (λ g. g.key) k m.current.files) others (each-drop (Bodied bs) k m.current.files is.sizes))

    pub count-put : length new ≡ (geometry_of m.current.geometry).files
    count-put = length-set bs (k.ino - 1) b ∙ is.count

    module _ (change : Rewrite) (ms : List Mapping) (blocks : map (λ m. m.block) ms ≡ touched (effect_of change) (length old.bytes)) (becomes : b.bytes ≡ rebody (effect_of change) old.bytes) where
      pub held_with-rewritten : held_with new (with_changed k (remapped change (length old.bytes) ms) m.current) ≡ record (held_with bs m.current) { files = affected_held (effect_of change) k (held_with bs m.current).files }
      held_with-rewritten =
          held-rewritten (bytes_with bs) (bytes_with new) k change (length old.bytes) ms m.current at.file at.found (ap length (sym bytes-of)) blocks
          (ap (λ (x : HeldBody). x.bytes) (put-there (remapped change (length old.bytes) ms at.file) refl) ∙ becomes ∙ ap (rebody (effect_of change)) (sym bytes-of)) (same-bytes bs new (drop_key (λ g. g.key) k m.current.files) others)

      pub IsHeldFiles-rewritten : (t : Meta) → t.current ≡ with_changed k (remapped change (length old.bytes) ms) m.current → IsCatalog t.current → IsWithin change (length old.bytes) → IsHere b (remapped change (length old.bytes) ms at.file) → IsHeldFiles new t
      IsHeldFiles-rewritten t current lawful within here = grind (arith, put-bodies, length-changed, count-put)

    -- where it is alike
    module _ (alike : IsAlike old b) where
      pub held_with-back : held_with new m.current ≡ held_with bs m.current
      unfolding held_by
      held_with-back =
          let one : file_by (bytes_with new) at.file ≡ file_by (bytes_with bs) at.file = ap (λ (bytes : List ℕ). record (file_by (bytes_with bs) at.file) { body = bytes }) (ap (λ (x : HeldBody). x.bytes) (put-there at.file refl) ∙ alike.bytes ∙ sym bytes-of) in
          let all = by-change (bytes_with bs) (bytes_with new) k (λ f. f) (λ f. f) at.file m.current.files at.found one (same-bytes bs new (drop_key (λ g. g.key) k m.current.files) others) in
          same_held _ _ _ _ (ap (map (file_by (bytes_with new))) (sym (change-none (λ (f : CatalogFile). f.key) k m.current.files)) ∙ all ∙ change-none (λ (f : FileState). f.key) k (map (file_by (bytes_with bs)) m.current.files)) refl

      pub IsHeldFiles-back : IsHeldFiles new m
      IsHeldFiles-back = record {
        catalog = is.catalog;
        sizes = subst (AreBodies new) (change-none (λ (f : CatalogFile). f.key) k m.current.files) (put-bodies (λ f. f) refl (record { size = ap length alike.bytes ∙ is-body.size; here = λ j. alike.away j ∙ is-body.here j }));
        count = count-put;
      }
