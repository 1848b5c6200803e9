-- Laws on the bytes of handles.
use Rattle.std.specs.Prelude.{◌≡◌, length, drop}
use Rattle.std.specs.Ordering.{nat_cmp, ordering_then}
use Rattle.std.specs.Cmp.Lexicographic.{slice_cmp}
use Rattle.byteorder.specs.Endian.{big_number}
use Rattle.hsm_types.specs.declared.keys.Handle.{Handle}
use Rattle.hsm_types.specs.Handles.{handle_bytes, IsHandle}

-- the three numbers are read from the bytes
pub record ReadsBack (h : Handle) : Type 0 where
  pub size : length (handle_bytes h) ≡ 24
  pub fsid : big_number 8 (handle_bytes h) ≡ h.fsid
  pub ino : big_number 8 (drop 8 (handle_bytes h)) ≡ h.key.ino
  pub igen : big_number 8 (drop 16 (handle_bytes h)) ≡ h.key.igen

-- where the bytes are the same, the handles are
abbrev pub OneHandle : Handle → Handle → Type 0
OneHandle a b = IsHandle a → IsHandle b → handle_bytes a ≡ handle_bytes b → a ≡ b

-- the bytes are in the order of the file system ids, then of the inodes, then of the generations
abbrev pub OrdersAsNumbers : Handle → Handle → Type 0
OrdersAsNumbers a b = IsHandle a → IsHandle b → slice_cmp nat_cmp (handle_bytes a) (handle_bytes b)
    ≡ ordering_then (nat_cmp a.fsid b.fsid) (ordering_then (nat_cmp a.key.ino b.key.ino) (nat_cmp a.key.igen b.key.igen))
