-- What a host in memory has by names: what a change of one entry does to it.
use Rattle.std.proofs.Common.{◌≡◌, ◌≢◌, ℕ, List, [], ◌∷◌, Bool, true, false, cond, Option, Some, None, Result, Ok, Err, OnOk, IfErr, IfSome}
use Rattle.std.proofs.Common.{option_map, String, map, string_bytes, bytes_eq, string_cmp, refl, sym, ap, ◌∙◌}
use Rattle.std.specs.declared.alloc.Global.{Global}
use Rattle.std.specs.Ordering.{is_eq, eq_by_cmp, nat_cmp}
use Rattle.std.specs.Cmp.{eq_by_cmp_equiv}
use Rattle.std.proofs.lemmas.Bool.{false_from_ne_true}
use Rattle.std.proofs.lemmas.Slice.Eq.{bytes_eq-Decides}
use Rattle.std.specs.Cmp.Lexicographic.{slice_cmp, nat_list_cmp_total}
use Rattle.std.specs.FinMap.{find, from_entries, get, insert, remove, empty, get-from_entries, get-insert, get-remove, get-empty, same_map}
use Rattle.std.specs.FinMap.{slice_cmp-IsAntisymmetric, nat_cmp-IsAntisymmetric}
use Rattle.std.specs.Map.{lookup}
use Rattle.std.specs.BTreeMap.{BTreeMap, IsUnchanged, Updates, UpdatesBy, get_by_text, is_at}
use Rattle.std.proofs.lemmas.Map.Text.{btree_map_updates_text, is_eq-slice_cmp}
use Rattle.disk_model.specs.Fuse.{Fused}
use Rattle.disk_model.specs.Medium.{Recorded, medium_of}
use Rattle.hosts.specs.MemHosts.{Named, by_name, image_at, EachIs}

abbrev Entries : Type 0 → Type 0
Entries X = BTreeMap (String Global) X

-- what is found by name is what the map has there
found : {X : Type 0} (name : List ℕ) (es : List (String Global × X))
    → find (slice_cmp nat_cmp) name (map (λ e. (string_bytes e.0, e.1)) es) ≡ lookup (is_at (λ k. slice_cmp nat_cmp name (string_bytes k))) es
found name [] = refl
found name (e ∷ es) = ap (cond (is_eq (slice_cmp nat_cmp name (string_bytes e.0))) (Some e.1)) (found name es)

pub get-by_name : {X : Type 0} (m : Entries X) (name : List ℕ) → get (by_name m) name ≡ get_by_text m name
get-by_name m name = get-from_entries nat_list_cmp_total _ name ∙ found name m.entries

-- what reads give of a disk that a look-up found
pub image_at-found : (m : Entries (Fused Recorded)) (name : List ℕ) (d : Option (Fused Recorded)) → d ≡ get_by_text m name → image_at (by_name m) name ≡ option_map (λ d. (medium_of d.inner).now) d
image_at-found m name d is = ap (option_map (λ d. (medium_of d.inner).now)) (get-by_name m name ∙ sym is)

-- two that answer alike at each name are the same
alike : {X : Type 0} (m n : Named X) → ((name : List ℕ) → get m name ≡ get n name) → m ≡ n
alike m n is = same_map nat_list_cmp_total (slice_cmp-IsAntisymmetric nat_cmp-IsAntisymmetric) m n is

-- a test of two names, either way round
tested : (name other : List ℕ) → bytes_eq name other ≡ eq_by_cmp (slice_cmp nat_cmp) other name
tested name other = sym (is_eq-slice_cmp name other) ∙ (eq_by_cmp_equiv nat_list_cmp_total).symm name other

-- at each name, after a change at one
changed : {X : Type 0} (name : List ℕ) (m n : Entries X) (w : Option X) → UpdatesBy string_cmp (λ k. slice_cmp nat_cmp name (string_bytes k)) m n w
    → (other : List ℕ) → get (by_name n) other ≡ cond (eq_by_cmp (slice_cmp nat_cmp) other name) w (get (by_name m) other)
changed name m n w updates other =
    get-by_name n other
    ∙ btree_map_updates_text name m n w updates other
    ∙ ap (λ b. cond b w (get_by_text m other)) (tested name other)
    ∙ ap (cond (eq_by_cmp (slice_cmp nat_cmp) other name) w) (sym (get-by_name m other))

pub by_name-insert : {X : Type 0} (name : List ℕ) (m n : Entries X) (d : X) → UpdatesBy string_cmp (λ k. slice_cmp nat_cmp name (string_bytes k)) m n (Some d)
    → by_name n ≡ insert (by_name m) name d
by_name-insert name m n d updates =
    alike _ _ (λ other. changed name m n (Some d) updates other ∙ sym (get-insert nat_list_cmp_total (by_name m) name d other))

pub by_name-remove : {X : Type 0} (name : List ℕ) (m n : Entries X) → UpdatesBy string_cmp (λ k. slice_cmp nat_cmp name (string_bytes k)) m n None
    → by_name n ≡ remove (by_name m) name
by_name-remove name m n updates =
    alike _ _ (λ other. changed name m n None updates other ∙ sym (get-remove nat_list_cmp_total (by_name m) name other))

pub by_name-same : {X : Type 0} (m n : Entries X) → IsUnchanged m n → by_name n ≡ by_name m
by_name-same m n same = ap (λ es. from_entries (map (λ e. (string_bytes e.0, e.1)) es)) same

-- what follows on `Ok`
pub on_ok : {T E A B : Type 0} (r : Result T E) → (A → B) → OnOk r A → OnOk r B
on_ok (Ok x) f a = f a
on_ok (Err e) f a = tt

-- what holds of a new one and of each before holds of each after
module _ {X : Type 0} (Is : X → Type 0) where
  chosen : (w : Option X) (b : Bool) (v : Option X) → IfSome w Is → IfSome v Is → IfSome (cond b w v) Is
  chosen w true v p q = p
  chosen w false v p q = q

  pub EachIs-empty : EachIs Is empty
  EachIs-empty name = rw (get-empty (slice_cmp nat_cmp) name) tt

  pub EachIs-insert : (things : Named X) (name : List ℕ) (x : X) → EachIs Is things → Is x → EachIs Is (insert things name x)
  EachIs-insert things name x each is other = rw (get-insert nat_list_cmp_total things name x other) (chosen (Some x) (eq_by_cmp (slice_cmp nat_cmp) other name) (get things other) is (each other))

  pub EachIs-remove : (things : Named X) (name : List ℕ) → EachIs Is things → EachIs Is (remove things name)
  EachIs-remove things name each other = rw (get-remove nat_list_cmp_total things name other) (chosen None (eq_by_cmp (slice_cmp nat_cmp) other name) (get things other) tt (each other))

  -- such a one was put under the name, or the map is as it was
  pub EachIs-put : {T E : Type 0} (m n : Entries X) (k : String Global) (x : X) (back : E → Type 0) (r : Result T E) → EachIs Is (by_name m)
      → OnOk r (Updates string_cmp m n k (Some x)) → OnOk r (Is x) → IfErr r (λ e. back e × IsUnchanged m n) → EachIs Is (by_name n)
  EachIs-put m n k x back (Ok y) each updates is kept = rw (by_name-insert (string_bytes k) m n x updates) (EachIs-insert (by_name m) (string_bytes k) x each is)
  EachIs-put m n k x back (Err e) each updates is kept = rw (by_name-same m n kept.1) each

-- at the name itself, and at each other one
pub get-removed : {X : Type 0} (things : Named X) (name : List ℕ) → get (remove things name) name ≡ None
get-removed things name = get-remove nat_list_cmp_total things name name ∙ ap (λ b. cond b None (get things name)) ((eq_by_cmp_equiv nat_list_cmp_total).refl name)

pub get-others : {X : Type 0} (things : Named X) (name other : List ℕ) → other ≢ name → get (remove things name) other ≡ get things other
get-others things name other differs =
    get-remove nat_list_cmp_total things name other
    ∙ ap (λ b. cond b None (get things other)) (false_from_ne_true _ (λ same. differs ((bytes_eq-Decides other name).0 (sym (is_eq-slice_cmp other name) ∙ same))))
