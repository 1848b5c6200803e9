-- The names of files by inode after one more, one less and one changed.
use Rattle.std.proofs.Common.{◌≡◌, ℕ, false, List, [], ◌∷◌, map, Option, Some, None, refl, sym, ◌∙◌, ap, subst, arith}
use Rattle.std.specs.Prelude.{is_some}
use Rattle.std.specs.Global.{Vec}
use Rattle.std.specs.Map.{lookup, remove_entry, values_of, KeepsOthers}
use Rattle.std.specs.Option.{option_map}
use Rattle.std.specs.Str.{bytes_eq}
use Rattle.hsm_types.specs.declared.keys.FileKey.{FileKey}
use Rattle.hsm_types.specs.Keyed.{find_key, change_key, put_key, drop_key}
use Rattle.plain_model.specs.Plain.{Listed, named}
use Rattle.inode_table.specs.declared.entries.FileEntry.{FileEntry}
use Rattle.inode_table.specs.Listing.{listing, has_inode, Ascend, Differ}
use Rattle.inode_table.specs.Index.{Indexes}
use Rattle.inode_table.proofs.Indexing.{indexes-put, indexes-drop}
use Rattle.inode_table.proofs.Names.{differ-put, differ-drop}
use Rattle.inode_table.proofs.Orders.{ascend-put, ascend-drop}
use Rattle.journal_records.specs.declared.records.Record.{Record}
use Rattle.journal_records.specs.declared.records.Record.TheVariants.{Make, Drop, Size, Map, Regions, SetAttr, DropAttr, Stub}
use Rattle.snapshot_text.specs.Snapshots.{SnapshotFile}
use Rattle.meta_store.specs.Batches.{file_changed, key_in}
use Rattle.std.specs.BTreeMap.{insert_entry, is_at}
use Rattle.std.specs.Ordering.{nat_cmp}
use Rattle.journal_fold.specs.declared.stores.FoldedStore.{FoldedStore}
use Rattle.journal_fold.specs.FoldedStores.{AreKeyed, files_in, IsHeld}
use Rattle.journal_fold.proofs.FoldedEdits.{put_files, put_keyed, drop_files, drop_keyed, change_files, found, key_found}
use Rattle.meta_store.specs.Validity.{listed_in, names_in}
use Rattle.meta_store.proofs.FileEdits.{map-put, map-drop, map-find, map-change}

abbrev Names : Type 0
Names = List (Vec ℕ × FileKey)

some_mapped : (o : Option Listed) → is_some (option_map (λ (l : Listed). l.key) o) ≡ is_some o
some_mapped None = refl
some_mapped (Some l) = refl

-- the map knows whether a file has a name
pub name_told : (q name : List ℕ) (names : Names) (fs : List SnapshotFile) → q ≡ name → Indexes names (names_in fs) → is_some (lookup (λ k. bytes_eq q k.items) names) ≡ is_some (named name (names_in fs))
name_told q name names fs is index = ap (λ (o : Option FileKey). is_some o) (index q) ∙ some_mapped (named q (names_in fs)) ∙ ap (λ (n : List ℕ). is_some (named n (names_in fs))) is

-- ---- as the entries of a table

abbrev as_entry : SnapshotFile → FileEntry
as_entry f = record { key = f.key; name = f.name; size = f.size }

listing_is : (fs : List SnapshotFile) → listing (map as_entry fs) ≡ names_in fs
listing_is [] = refl
listing_is (f ∷ fs) = ap (λ (ls : List Listed). listed_in f ∷ ls) (listing_is fs)

abbrev Key : FileEntry → FileKey
Key f = f.key

put_listed : (f : SnapshotFile) (fs : List SnapshotFile) → listing (put_key (λ g. g.key) (as_entry f) (map as_entry fs)) ≡ names_in (put_key (λ g. g.key) f fs)
put_listed f fs = ap (λ (es : List FileEntry). listing es) (sym (map-put Key as_entry f fs)) ∙ listing_is (put_key (λ g. g.key) f fs)

drop_listed : (k : FileKey) (fs : List SnapshotFile) → listing (drop_key (λ g. g.key) k (map as_entry fs)) ≡ names_in (drop_key (λ g. g.key) k fs)
drop_listed k fs = ap (λ (es : List FileEntry). listing es) (sym (map-drop Key as_entry k fs)) ∙ listing_is (drop_key (λ g. g.key) k fs)

abbrev Same : List ℕ → Names → Names → Type 0
Same name old new = KeepsOthers (λ x y. bytes_eq x.items y.items) (λ k. bytes_eq name k.items) old new

pub index_put : (f : SnapshotFile) (fs : List SnapshotFile) (old new : Names) → named f.name (names_in fs) ≡ None → Indexes old (names_in fs) → lookup (λ k. bytes_eq f.name k.items) new ≡ Some f.key → Same f.name old new → Indexes new (names_in (put_key (λ g. g.key) f fs))
index_put f fs old new none index here keeps =
    subst (Indexes new) (put_listed f fs)
    (indexes-put (as_entry f) (map as_entry fs) old new (subst (λ (ls : List Listed). named f.name ls ≡ None) (sym (listing_is fs)) none) (subst (Indexes old) (sym (listing_is fs)) index) here keeps)

pub index_drop : (f : SnapshotFile) (fs : List SnapshotFile) (old new : Names) → Differ (names_in fs) → find_key (λ g. g.key) f.key fs ≡ Some f → Indexes old (names_in fs) → lookup (λ k. bytes_eq f.name k.items) new ≡ None → Same f.name old new → Indexes new (names_in (drop_key (λ g. g.key) f.key fs))
index_drop f fs old new differ there index here keeps =
    let found : find_key (λ g. g.key) f.key (map as_entry fs) ≡ Some (as_entry f) = map-find Key as_entry f.key fs ∙ ap (λ (o : Option SnapshotFile). option_map as_entry o) there in
    subst (Indexes new) (drop_listed f.key fs)
    (indexes-drop f.key (as_entry f) (map as_entry fs) old new (subst Differ (sym (listing_is fs)) differ) found (subst (Indexes old) (sym (listing_is fs)) index) here keeps)

names_put : (f : SnapshotFile) (fs : List SnapshotFile) → names_in (put_key (λ g. g.key) f fs) ≡ put_key (λ l. l.key) (listed_in f) (names_in fs)
names_put f fs = map-put (λ (l : Listed). l.key) listed_in f fs

names_drop : (k : FileKey) (fs : List SnapshotFile) → names_in (drop_key (λ g. g.key) k fs) ≡ drop_key (λ l. l.key) k (names_in fs)
names_drop k fs = map-drop (λ (l : Listed). l.key) listed_in k fs

pub ascend_put : (f : SnapshotFile) (fs : List SnapshotFile) → Ascend 0 (names_in fs) → has_inode f.key.ino (names_in fs) ≡ false → Ascend 0 (names_in (put_key (λ g. g.key) f fs))
ascend_put f fs up free = subst (Ascend 0) (sym (names_put f fs)) (ascend-put 0 (listed_in f) (names_in fs) up (omega arith) free)

pub differ_put : (f : SnapshotFile) (fs : List SnapshotFile) → Differ (names_in fs) → named f.name (names_in fs) ≡ None → Differ (names_in (put_key (λ g. g.key) f fs))
differ_put f fs differ none = subst Differ (sym (names_put f fs)) (differ-put (listed_in f) (names_in fs) differ none)

pub ascend_drop : (k : FileKey) (fs : List SnapshotFile) → Ascend 0 (names_in fs) → Ascend 0 (names_in (drop_key (λ g. g.key) k fs))
ascend_drop k fs up = subst (Ascend 0) (sym (names_drop k fs)) (ascend-drop 0 k (names_in fs) up)

pub differ_drop : (k : FileKey) (fs : List SnapshotFile) → Differ (names_in fs) → Differ (names_in (drop_key (λ g. g.key) k fs))
differ_drop k fs differ = subst Differ (sym (names_drop k fs)) (differ-drop k (names_in fs) differ)

-- a record changes neither the key nor the name of a file
listed_same : (r : Record) (f : SnapshotFile) → listed_in (file_changed r f) ≡ listed_in f
listed_same (Make key name) f = refl
listed_same (Drop ino) f = refl
listed_same (Size ino size) f = refl
listed_same (Map ino block places) f = refl
listed_same (Regions ino regions) f = refl
listed_same (SetAttr ino name value) f = refl
listed_same (DropAttr ino name) f = refl
listed_same (Stub ino j None) f = refl
listed_same (Stub ino j (Some stub)) f = refl

names_change : (k : FileKey) (r : Record) (fs : List SnapshotFile) → names_in (change_key (λ g. g.key) k (file_changed r) fs) ≡ names_in fs
names_change k r fs = map-change (λ (l : Listed). l.key) listed_in k (file_changed r) fs (listed_same r)

-- ---- a store

module _ (s t : FoldedStore) (held : IsHeld s) where
  pub held_put : (f : SnapshotFile) → has_inode f.key.ino (names_in (files_in s)) ≡ false → named f.name (names_in (files_in s)) ≡ None → t.files.entries ≡ insert_entry nat_cmp s.files.entries f.key.ino f
      → lookup (λ k. bytes_eq f.name k.items) t.names.entries ≡ Some f.key → Same f.name s.names.entries t.names.entries → IsHeld t
  held_put f free new entries here keeps =
      let files : put_key (λ g. g.key) f (files_in s) ≡ files_in t = sym (ap (λ (es : List (ℕ × SnapshotFile)). values_of es) entries ∙ put_files f.key.ino f s.files.entries held.keyed refl free) in
      record {
        keyed = subst AreKeyed (sym entries) (put_keyed f.key.ino f s.files.entries held.keyed refl);
        ascend = subst (λ (fs : List SnapshotFile). Ascend 0 (names_in fs)) files (ascend_put f (files_in s) held.ascend free);
        differ = subst (λ (fs : List SnapshotFile). Differ (names_in fs)) files (differ_put f (files_in s) held.differ new);
        index = subst (λ (fs : List SnapshotFile). Indexes t.names.entries (names_in fs)) files (index_put f (files_in s) s.names.entries t.names.entries new held.index here keeps);
      }

  module _ (ino : ℕ) (f : SnapshotFile) (there : lookup (is_at (nat_cmp ino)) s.files.entries ≡ Some f) where
    pub held_drop : t.files.entries ≡ remove_entry (is_at (nat_cmp ino)) s.files.entries → lookup (λ k. bytes_eq f.name k.items) t.names.entries ≡ None → Same f.name s.names.entries t.names.entries → IsHeld t
    held_drop entries here keeps =
        let it = found ino f s.files.entries held.keyed there in
        let files : drop_key (λ g. g.key) f.key (files_in s) ≡ files_in t =
        sym (ap (λ (es : List (ℕ × SnapshotFile)). values_of es) entries ∙ drop_files ino s.files.entries held.keyed ∙ ap (λ (k : FileKey). drop_key (λ g. g.key) k (files_in s)) it.0) in
        record {
          keyed = subst AreKeyed (sym entries) (drop_keyed ino s.files.entries held.keyed);
          ascend = subst (λ (fs : List SnapshotFile). Ascend 0 (names_in fs)) files (ascend_drop f.key (files_in s) held.ascend);
          differ = subst (λ (fs : List SnapshotFile). Differ (names_in fs)) files (differ_drop f.key (files_in s) held.differ);
          index = subst (λ (fs : List SnapshotFile). Indexes t.names.entries (names_in fs)) files (index_drop f (files_in s) s.names.entries t.names.entries held.differ it.1 held.index here keeps);
        }

    pub held_change : (r : Record) → t.files.entries ≡ insert_entry nat_cmp (remove_entry (is_at (nat_cmp ino)) s.files.entries) ino (file_changed r f) → t.names.entries ≡ s.names.entries → IsHeld t
    held_change r entries names =
        let files : files_in t ≡ change_key (λ g. g.key) (key_in ino (files_in s)) (file_changed r) (files_in s) =
        ap (λ (es : List (ℕ × SnapshotFile)). values_of es) entries ∙ change_files 0 ino f (file_changed r) s.files.entries held.keyed held.ascend there in
        let same : names_in (files_in s) ≡ names_in (files_in t) = sym (ap (λ (fs : List SnapshotFile). names_in fs) files ∙ names_change (key_in ino (files_in s)) r (files_in s)) in
        let low : (file_changed r f).key.ino ≡ ino = ap (λ (l : Listed). l.key.ino) (listed_same r f) ∙ key_found ino f s.files.entries held.keyed there in
        record {
          keyed = subst AreKeyed (sym entries) (put_keyed ino (file_changed r f) (remove_entry (is_at (nat_cmp ino)) s.files.entries) (drop_keyed ino s.files.entries held.keyed) low);
          ascend = subst (Ascend 0) same held.ascend;
          differ = subst Differ same held.differ;
          index = subst (λ (es : Names). Indexes es (names_in (files_in t))) (sym names) (subst (Indexes s.names.entries) same held.index);
        }
