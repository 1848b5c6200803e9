-- Files that are found by key.
use Rattle.std.proofs.Common.{◌≡◌, List, [], ◌∷◌, true, Some, refl, arith}
use Rattle.std.specs.List.{AllByRecursion}
use Rattle.hsm_types.specs.declared.keys.FileKey.{FileKey}
use Rattle.hsm_types.specs.Keyed.{same_key, find_key}
use Rattle.snapshot_text.specs.Files.{CatalogFile}

-- what is true of each file is true of the one that is found
pub each-found : (P : CatalogFile → Type 0) (k : FileKey) (f : CatalogFile) (fs : List CatalogFile) → AllByRecursion P fs → find_key (λ x. x.key) k fs ≡ Some f → P f
each-found P k f [] each found = cc
each-found P k f (x ∷ fs) each found = grind (arith, each.0, each-found P k f fs each.1)

pub same_keys : (j k : FileKey) → same_key j k ≡ true → j ≡ k
same_keys j k same =
    let ino : j.ino ≡ k.ino = grind arith in
    let igen : j.igen ≡ k.igen = grind arith in
    rw (ino, igen) refl

pub key-found : (k : FileKey) (f : CatalogFile) (fs : List CatalogFile) → find_key (λ x. x.key) k fs ≡ Some f → f.key ≡ k
key-found k f [] found = cc
key-found k f (x ∷ fs) found = grind (arith, same_keys x.key k, key-found k f fs)
