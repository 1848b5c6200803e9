-- What is true of each table stays true.
use Rattle.std.proofs.Common.{◌≡◌, ◌+◌, ◌≤◌, ℕ, List, Option, Some, None, max, length, false, refl, arith}
use Rattle.std.specs.Option.{option_map, IfNone}
use Rattle.hsm_types.specs.declared.keys.FileKey.{FileKey}
use Rattle.hsm_types.specs.Keyed.{put_key, drop_key, change_key}
use Rattle.hsm_types.specs.Listing.{named}
use Rattle.inode_table.specs.declared.entries.FileEntry.{FileEntry}
use Rattle.inode_table.specs.Listing.{listed, listing, has_inode}
use Rattle.inode_table.specs.Table.{IsTable}
use Rattle.inode_table.proofs.Orders.{ascend-put, ascend-drop, within-put, within-more, within-drop, few}
use Rattle.inode_table.proofs.Names.{differ-put, differ-drop}
use Rattle.inode_table.proofs.Listings.{length-listing, listing-put, listing-drop, listing-change}

pub table-put : (limit next : ℕ) (e : FileEntry) (es : List FileEntry) → IsTable limit next (listing es) → 1 ≤ e.key.ino → e.key.ino ≤ limit → has_inode e.key.ino (listing es) ≡ false → named e.name (listing es) ≡ None
    → IsTable limit (max next (e.key.igen + 1)) (listing (put_key (λ f. f.key) e es))
table-put limit next e es t low high free new = rw (listing-put e es) (record {
  ascend = ascend-put 1 (listed e) (listing es) t.ascend low free;
  within = within-put limit (max next (e.key.igen + 1)) (listed e) (listing es) (within-more limit next (max next (e.key.igen + 1)) (listing es) (omega arith) t.within) high (omega arith);
  differ = differ-put (listed e) (listing es) t.differ new;
})

pub table-drop : (limit next : ℕ) (k : FileKey) (es : List FileEntry) → IsTable limit next (listing es) → IsTable limit next (listing (drop_key (λ f. f.key) k es))
table-drop limit next k es t = rw (listing-drop k es) (record { ascend = ascend-drop 1 k (listing es) t.ascend; within = within-drop limit next k (listing es) t.within; differ = differ-drop k (listing es) t.differ })

pub table-few : (limit next : ℕ) (es : List FileEntry) → IsTable limit next (listing es) → length es ≤ limit
table-few limit next es t = let most = few limit next 1 (listing es) t.ascend t.within in let len = length-listing es in omega arith

pub table-change : (limit next : ℕ) (k : FileKey) (size : ℕ) (es : List FileEntry) → IsTable limit next (listing es) → IsTable limit next (listing (change_key (λ f. f.key) k (λ f. record f { size = size }) es))
table-change limit next k size es t = rw (listing-change k size es) t

-- where no name is given, no file had the key
pub none-had : {P : Type 0} (r : Option (List ℕ)) (o : Option FileEntry) → r ≡ option_map (λ f. f.name) o → (o ≡ None → P) → IfNone r P
none-had None None e h = h refl
none-had None (Some f) e h = cc
none-had (Some x) o e h = tt
