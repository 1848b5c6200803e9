-- How words are spelled: their bytes are visible, and each value is got back from its word.
use Rattle.std.proofs.Common.{◌≡◌, ◌≢◌, ℕ, ◌^◌, ◌<◌, ◌≤◌, List, [], ◌∷◌, ◌++◌, length, Bool, true, false, ◌&&◌, ◌==◌, map, Option, Some, None, refl, sym, ap}
use Rattle.std.proofs.Common.{◌∙◌, arith, append_assoc}
use Rattle.std.specs.Prelude.{codes, not, if◌then◌else◌}
use Rattle.std.specs.Char.{digit_value}
use Rattle.std.specs.List.{list_all, AllByRecursion, slice_split, join_with_byte}
use Rattle.std.specs.Fmt.{decimal}
use Rattle.std.specs.Result.{result_unwrap_or}
use Rattle.std.specs.Str.Parse.{AllDigits, digits_value}
use Rattle.std.proofs.lemmas.Bool.{and_parts, false≢true}
use Rattle.std.proofs.lemmas.Bool.Decides.{nat_tests}
use Rattle.std.proofs.lemmas.List.Folds.{list_all-append}
use Rattle.hex.specs.Hex.{decode_of, encode_lower}
use Rattle.hsm_types.specs.Handles.{IsHandle}
use Rattle.hsm_types.specs.declared.attributes.AttrName.{AttrName}
use Rattle.hsm_types.specs.declared.keys.FileKey.{FileKey}
use Rattle.hsm_types.specs.declared.keys.Handle.{Handle}
use Rattle.hsm_types.specs.declared.regions.Region.{Region}
use Rattle.hsm_types.specs.declared.stubs.Digest.{Digest}
use Rattle.event_text.specs.Render.{key_word, handle_word, region_word, regions_word, name_word}
use Rattle.script_text.specs.Lines.{pattern, coloned, data_word, is_word, is_word_byte, IsData, IsRegion, IsRegions, IsAttrName, IsDigest}
use Rattle.script_text.specs.Reading.{Lacks, is_lower_hex, digest_word}
use Rattle.script_text.proofs.Cutting.{slice_split-join, Lacks-join}
use Rattle.script_text.proofs.Numerals.{decimal_digits, Lacks-decimal, digits_value-decimal}
use Rattle.script_text.proofs.HexText.{encoded_lower, Lacks-encoded, decode-encoded}

-- ---- words are visible, so that none has a space or a newline

abbrev pub IsVisible : List ℕ → Type 0
IsVisible word = list_all is_word_byte word ≡ true

visible_other : (b c : ℕ) → is_word_byte c ≡ false → is_word_byte b ≡ true → b ≢ c
visible_other b c other h same = false≢true (sym other ∙ rw (← same) h)

pub Lacks-visible : (c : ℕ) (word : List ℕ) → is_word_byte c ≡ false → IsVisible word → Lacks c word
Lacks-visible c [] other h = tt
Lacks-visible c (b ∷ bs) other h =
    let parts = and_parts (is_word_byte b) (list_all is_word_byte bs) h in
    (visible_other b c other parts.0, Lacks-visible c bs other parts.1)

pub visible_word : (word : List ℕ) → is_word word ≡ true → IsVisible word
visible_word word h = (and_parts (not (length word == 0)) (list_all is_word_byte word) h).1

visible_digit : (d : ℕ) → digit_value d < 10 → is_word_byte d ≡ true
visible_digit d h = grind (arith, nat_tests)

visible_digits : (ds : List ℕ) → AllDigits 10 ds → IsVisible ds
visible_digits [] h = refl
visible_digits (d ∷ ds) h = rw (visible_digit d h.0) (visible_digits ds h.1)

pub visible_decimal : (n : ℕ) → n < 2 ^ 64 → IsVisible (decimal n)
visible_decimal n small = visible_digits (decimal n) (decimal_digits n small)

visible_hex : (b : ℕ) → is_lower_hex b ≡ true → is_word_byte b ≡ true
visible_hex b h = grind (arith, nat_tests)

visible_lower : (text : List ℕ) → list_all is_lower_hex text ≡ true → IsVisible text
visible_lower [] h = refl
visible_lower (b ∷ bs) h =
    let parts = and_parts (is_lower_hex b) (list_all is_lower_hex bs) h in
    rw (visible_hex b parts.0) (visible_lower bs parts.1)

visible_joined : (by : ℕ) (words : List (List ℕ)) → is_word_byte by ≡ true → AllByRecursion IsVisible words → IsVisible (join_with_byte by words)
visible_joined by [] other h = refl
visible_joined by (word ∷ []) other h = h.0
visible_joined by (word ∷ next ∷ words) other h =
    rw (list_all-append is_word_byte word (by ∷ join_with_byte by (next ∷ words)), h.0, other) (visible_joined by (next ∷ words) other h.1)

-- ---- no part of data has a colon, and no number a dot

-- whether the byte is not in a list, which computes
abbrev pub is_without : ℕ → List ℕ → Bool
is_without b [] = true
is_without b (x ∷ xs) = not (x == b) && is_without b xs

pub Lacks-computed : (b : ℕ) (xs : List ℕ) → is_without b xs ≡ true → Lacks b xs
Lacks-computed b [] h = tt
Lacks-computed b (x ∷ xs) h =
    let parts = and_parts (not (x == b)) (is_without b xs) h in
    ((λ same. let is = parts.0 in grind (arith, nat_tests)), Lacks-computed b xs parts.1)

-- no decimal has a colon or a dot
pub Lacks-colon : (n : ℕ) → n < 2 ^ 64 → Lacks 58 (decimal n)
Lacks-colon n small = Lacks-decimal 58 n (omega arith) small

pub Lacks-dot : (n : ℕ) → n < 2 ^ 64 → Lacks 46 (decimal n)
Lacks-dot n small = Lacks-decimal 46 n (omega arith) small

-- the parts of data
abbrev pub data_parts : Option ℕ → List ℕ → List (List ℕ)
data_parts None bytes = codes "x" ∷ encode_lower bytes ∷ []
data_parts (Some seed) bytes = codes "p" ∷ decimal (length bytes) ∷ decimal seed ∷ []

pub data_word-parts : (seed : Option ℕ) (bytes : List ℕ) → data_word seed bytes ≡ coloned (data_parts seed bytes)
data_word-parts None bytes = refl
data_word-parts (Some seed) bytes = refl

parts_colon : (seed : Option ℕ) (bytes : List ℕ) → IsData seed bytes → AllByRecursion (Lacks 58) (data_parts seed bytes)
parts_colon None bytes h = (Lacks-computed 58 (codes "x") refl, (Lacks-encoded 58 bytes refl h, tt))
parts_colon (Some seed) bytes h =
    (Lacks-computed 58 (codes "p") refl, (Lacks-colon (length bytes) (omega (arith, h.0)), (Lacks-colon seed (omega (arith, h.1)), tt)))

-- ---- the words of a line

visible_parts : (seed : Option ℕ) (bytes : List ℕ) → IsData seed bytes → AllByRecursion IsVisible (data_parts seed bytes)
visible_parts None bytes h = (refl, (visible_lower (encode_lower bytes) (encoded_lower bytes h), tt))
visible_parts (Some seed) bytes h =
    (refl, (visible_decimal (length bytes) (omega (arith, h.0)), (visible_decimal seed (omega (arith, h.1)), tt)))

pub visible_data : (seed : Option ℕ) (bytes : List ℕ) → IsData seed bytes → IsVisible (data_word seed bytes)
visible_data seed bytes h = rw (data_word-parts seed bytes) (visible_joined 58 (data_parts seed bytes) refl (visible_parts seed bytes h))

-- the parts of a handle
abbrev handle_parts : Handle → List (List ℕ)
handle_parts h = decimal h.fsid ∷ decimal h.key.ino ∷ decimal h.key.igen ∷ []

pub key_word-is : (k : FileKey) → key_word k ≡ decimal k.ino ++ 46 ∷ decimal k.igen
key_word-is k = append_assoc (decimal k.ino) (46 ∷ []) (decimal k.igen)

pub handle_word-is : (handle : Handle) → handle_word handle ≡ decimal handle.fsid ++ 46 ∷ key_word handle.key
handle_word-is handle = append_assoc (decimal handle.fsid) (46 ∷ []) (key_word handle.key)

handle_word-parts : (handle : Handle) → handle_word handle ≡ join_with_byte 46 (handle_parts handle)
handle_word-parts handle = handle_word-is handle ∙ ap (λ t. decimal handle.fsid ++ 46 ∷ t) (key_word-is handle.key)

pub visible_handle : (handle : Handle) → IsHandle handle → IsVisible (handle_word handle)
visible_handle handle h =
    rw (handle_word-parts handle)
    (visible_joined 46 (handle_parts handle) refl (visible_decimal handle.fsid h.fsid, (visible_decimal handle.key.ino h.ino, (visible_decimal handle.key.igen h.igen, tt))))

-- the parts of a region
abbrev region_parts : Region → List (List ℕ)
region_parts r = decimal r.offset ∷ decimal r.size ∷ decimal r.flags ∷ []

visible_region : (r : Region) → IsRegion r → IsVisible (region_word r)
visible_region r h =
    visible_joined 58 (region_parts r) refl (visible_decimal r.offset h.0, (visible_decimal r.size h.1, (visible_decimal r.flags (omega (arith, h.2)), tt)))

visible_each_region : (rs : List Region) → AllByRecursion IsRegion rs → AllByRecursion IsVisible (map region_word rs)
visible_each_region [] h = tt
visible_each_region (r ∷ rs) h = (visible_region r h.0, visible_each_region rs h.1)

pub visible_regions : (rs : List Region) → IsRegions rs → IsVisible (regions_word rs)
visible_regions [] h = refl
visible_regions (r ∷ rs) h = visible_joined 44 (map region_word (r ∷ rs)) refl (visible_each_region (r ∷ rs) h.1)

pub visible_name : (name : AttrName) → IsAttrName name → IsVisible (name_word name)
visible_name name h = visible_lower (encode_lower name.0) (encoded_lower name.0 h.0)

pub visible_digest : (digest : Digest) → IsDigest digest → IsVisible (digest_word digest)
visible_digest digest h = visible_lower (encode_lower digest.0) (encoded_lower digest.0 h.0)

-- ---- data are spelled as no other ones

-- data and their seed
pub record Given : Type 0 where
  pub bytes : List ℕ
  pub seed : Option ℕ

-- the data of these parts, if they are those of data
abbrev data_of : List (List ℕ) → Given
data_of [] = record { bytes = []; seed = None }
data_of (kind ∷ []) = record { bytes = []; seed = None }
data_of (kind ∷ digits ∷ []) = record { bytes = result_unwrap_or (decode_of digits) []; seed = None }
data_of (kind ∷ len ∷ seed ∷ rest) = record { bytes = pattern (digits_value 10 len) (digits_value 10 seed); seed = Some (digits_value 10 seed) }

abbrev pub data_at : List ℕ → Given
data_at word = data_of (slice_split (λ b. b == 58) word)

data_of-parts : (seed : Option ℕ) (bytes : List ℕ) → IsData seed bytes → data_of (data_parts seed bytes) ≡ record { bytes = bytes; seed = seed }
data_of-parts None bytes h = rw (decode-encoded bytes h) refl
data_of-parts (Some seed) bytes h =
    rw (digits_value-decimal (length bytes) (omega (arith, h.0)), digits_value-decimal seed (omega (arith, h.1)), ← h.2) refl

split_parts : (seed : Option ℕ) (bytes : List ℕ) → IsData seed bytes → slice_split (λ b. b == 58) (coloned (data_parts seed bytes)) ≡ data_parts seed bytes
split_parts None bytes h = slice_split-join 58 (codes "x") (encode_lower bytes ∷ []) (parts_colon None bytes h)
split_parts (Some seed) bytes h =
    slice_split-join 58 (codes "p") (decimal (length bytes) ∷ decimal seed ∷ []) (parts_colon (Some seed) bytes h)

pub data_at-word : (seed : Option ℕ) (bytes : List ℕ) → IsData seed bytes → data_at (data_word seed bytes) ≡ record { bytes = bytes; seed = seed }
data_at-word seed bytes h =
    ap data_at (data_word-parts seed bytes) ∙ ap data_of (split_parts seed bytes h) ∙ data_of-parts seed bytes h

-- the handle of these parts, if they are those of a handle
abbrev handle_of : List (List ℕ) → Handle
handle_of (fsid ∷ ino ∷ igen ∷ rest) = record { fsid = digits_value 10 fsid; key = record { ino = digits_value 10 ino; igen = digits_value 10 igen } }
handle_of parts = record { fsid = 0; key = record { ino = 0; igen = 0 } }

abbrev pub handle_at : List ℕ → Handle
handle_at word = handle_of (slice_split (λ b. b == 46) word)

-- the region of these parts, if they are those of a region
abbrev region_of : List (List ℕ) → Region
region_of (offset ∷ size ∷ flags ∷ rest) = record { offset = digits_value 10 offset; size = digits_value 10 size; flags = digits_value 10 flags }
region_of parts = record { offset = 0; size = 0; flags = 0 }

abbrev region_at : List ℕ → Region
region_at word = region_of (slice_split (λ b. b == 58) word)

-- whether a word stands for no regions, if it is one of regions
abbrev is_dashed : List ℕ → Bool
is_dashed [] = false
is_dashed (b ∷ bs) = b == 45

abbrev pub regions_at : List ℕ → List Region
regions_at word = if is_dashed word then [] else map region_at (slice_split (λ b. b == 44) word)

abbrev pub name_at : List ℕ → AttrName
name_at word = record { 0 = result_unwrap_or (decode_of word) [] }

abbrev pub digest_at : List ℕ → Digest
digest_at word = record { 0 = result_unwrap_or (decode_of word) [] }

dots_handle : (handle : Handle) → IsHandle handle → AllByRecursion (Lacks 46) (handle_parts handle)
dots_handle handle h = (Lacks-dot handle.fsid h.fsid, (Lacks-dot handle.key.ino h.ino, (Lacks-dot handle.key.igen h.igen, tt)))

pub handle_at-word : (handle : Handle) → IsHandle handle → handle_at (handle_word handle) ≡ handle
handle_at-word handle h =
    ap handle_at (handle_word-parts handle)
    ∙ ap handle_of (slice_split-join 46 (decimal handle.fsid) (decimal handle.key.ino ∷ decimal handle.key.igen ∷ []) (dots_handle handle h))
    ∙ rw (digits_value-decimal handle.fsid h.fsid, digits_value-decimal handle.key.ino h.ino, digits_value-decimal handle.key.igen h.igen) refl

-- a region has no other byte than digits and colons
Lacks-region : (b : ℕ) (r : Region) → 10 ≤ digit_value b → 58 ≢ b → IsRegion r → Lacks b (region_word r)
Lacks-region b r other another h =
    Lacks-join b 58 (region_parts r) another (Lacks-decimal b r.offset other h.0, (Lacks-decimal b r.size other h.1, (Lacks-decimal b r.flags other (omega (arith, h.2)), tt)))

pub Lacks-each_region : (b : ℕ) (rs : List Region) → 10 ≤ digit_value b → 58 ≢ b → AllByRecursion IsRegion rs → AllByRecursion (Lacks b) (map region_word rs)
Lacks-each_region b [] other another h = tt
Lacks-each_region b (r ∷ rs) other another h = (Lacks-region b r other another h.0, Lacks-each_region b rs other another h.1)

colon_parts : (r : Region) → IsRegion r → AllByRecursion (Lacks 58) (region_parts r)
colon_parts r h = (Lacks-colon r.offset h.0, (Lacks-colon r.size h.1, (Lacks-colon r.flags (omega (arith, h.2)), tt)))

region_at-word : (r : Region) → IsRegion r → region_at (region_word r) ≡ r
region_at-word r h =
    ap region_of (slice_split-join 58 (decimal r.offset) (decimal r.size ∷ decimal r.flags ∷ []) (colon_parts r h))
    ∙ rw (digits_value-decimal r.offset h.0, digits_value-decimal r.size h.1, digits_value-decimal r.flags (omega (arith, h.2))) refl

each_region_at : (rs : List Region) → AllByRecursion IsRegion rs → map region_at (map region_word rs) ≡ rs
each_region_at [] h = refl
each_region_at (r ∷ rs) h = let first = region_at-word r h.0 in let rest = each_region_at rs h.1 in cc (first, rest)

not_dashed : (word : List ℕ) → Lacks 45 word → is_dashed word ≡ false
not_dashed [] h = refl
not_dashed (b ∷ bs) h = let other : b ≢ 45 = h.0 in grind (arith, nat_tests)

-- what stands between the commas of regions
pub regions_parts : (r : Region) (rs : List Region) → AllByRecursion IsRegion (r ∷ rs) → slice_split (λ b. b == 44) (regions_word (r ∷ rs)) ≡ map region_word (r ∷ rs)
regions_parts r rs h =
    slice_split-join 44 (region_word r) (map region_word rs) (Lacks-each_region 44 (r ∷ rs) (omega arith) (λ same. absurd (omega arith)) h)

pub regions_at-word : (rs : List Region) → IsRegions rs → regions_at (regions_word rs) ≡ rs
regions_at-word [] h = refl
regions_at-word (r ∷ rs) h =
    let lacks = Lacks-each_region 45 (r ∷ rs) (omega arith) (λ same. absurd (omega arith)) h.1 in
    let dash = not_dashed (regions_word (r ∷ rs)) (Lacks-join 45 44 (map region_word (r ∷ rs)) (λ same. absurd (omega arith)) lacks) in
    rw dash (ap (map region_at) (regions_parts r rs h.1) ∙ each_region_at (r ∷ rs) h.1)

pub name_at-word : (name : AttrName) → IsAttrName name → name_at (name_word name) ≡ name
name_at-word name h = rw (decode-encoded name.0 h.0) refl

pub digest_at-word : (digest : Digest) → IsDigest digest → digest_at (digest_word digest) ≡ digest
digest_at-word digest h = rw (decode-encoded digest.0 h.0) refl
