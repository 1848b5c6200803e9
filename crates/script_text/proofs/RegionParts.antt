-- What regions spell, and why nothing else.
use Rattle.std.proofs.Common.{◌≡◌, ◌≢◌, ℕ, ◌<◌, ◌≤◌, List, [], ◌∷◌, ◌++◌, length, map, refl, sym, ap, ◌∙◌, arith, append_assoc, append-nil, length-append}
use Rattle.std.specs.Prelude.{◌==◌}
use Rattle.std.specs.List.{AllByRecursion, join_with_byte}
use Rattle.std.specs.Fmt.{decimal}
use Rattle.std.proofs.lemmas.List.{map-append, length-map}
use Rattle.std.proofs.lemmas.List.Splits.{join_with_byte-slice_split, length-slice_split}
use Rattle.hsm_types.specs.declared.regions.Region.{Region}
use Rattle.event_text.specs.Render.{region_word, regions_word}
use Rattle.script_text.specs.Limits.{line_regions}
use Rattle.script_text.specs.Lines.{IsRegion}
use Rattle.script_text.specs.Reading.{Lacks, parts, AreSomeRegions}
use Rattle.script_text.proofs.Cutting.{Lacks-not, cut_same}
use Rattle.script_text.proofs.Spelling.{Lacks-colon, regions_parts}

-- ---- a region

pub region_uncut : (word : List ℕ) (x : Region) → Lacks 58 word → word ≡ region_word x → ⊥
region_uncut word x h same = Lacks-not 58 (decimal x.offset) (decimal x.size ++ 58 ∷ decimal x.flags) (rw same at h)

pub region_offset : (word offset rest : List ℕ) (x : Region) → word ≡ offset ++ 58 ∷ rest → Lacks 58 offset → IsRegion x → word ≡ region_word x
    → (offset ≡ decimal x.offset) × (rest ≡ decimal x.size ++ 58 ∷ decimal x.flags)
region_offset word offset rest x cut lacks h same =
    cut_same 58 offset rest (decimal x.offset) (decimal x.size ++ 58 ∷ decimal x.flags) lacks (Lacks-colon x.offset h.0) (sym cut ∙ same)

pub region_size : (word offset rest size flags : List ℕ) (x : Region) → word ≡ offset ++ 58 ∷ rest → Lacks 58 offset → rest ≡ size ++ 58 ∷ flags → Lacks 58 size → IsRegion x → word ≡ region_word x
    → (size ≡ decimal x.size) × (flags ≡ decimal x.flags)
region_size word offset rest size flags x cut lacks cut' lacks' h same =
    cut_same 58 size flags (decimal x.size) (decimal x.flags) lacks' (Lacks-colon x.size h.1) (sym cut' ∙ (region_offset word offset rest x cut lacks h same).1)

-- ---- regions

AllByRecursion-push : (rs : List Region) (r : Region) → AllByRecursion IsRegion rs → IsRegion r → AllByRecursion IsRegion (rs ++ r ∷ [])
AllByRecursion-push [] r h k = (k, tt)
AllByRecursion-push (x ∷ xs) r h k = (h.0, AllByRecursion-push xs r h.1 k)

-- what the loop keeps: the word was read up to the rest
pub record IsReadTo (word : List ℕ) (regions : List Region) (rest : List ℕ) : Type 0 where
  pub split : parts word ≡ map region_word regions ++ parts rest
  pub lawful : AllByRecursion IsRegion regions

pub read_first : (word : List ℕ) → IsReadTo word [] word
read_first word = record { split = refl; lawful = tt }

-- the parts with one region more
with_region : (word rest : List ℕ) (behind : List (List ℕ)) (regions : List Region) (r : Region) → IsReadTo word regions rest → parts rest ≡ region_word r ∷ behind → parts word ≡ map region_word (regions ++ r ∷ []) ++ behind
with_region word rest behind regions r read first =
    read.split
    ∙ ap (λ ws. map region_word regions ++ ws) first
    ∙ sym (append_assoc (map region_word regions) (region_word r ∷ []) behind)
    ∙ ap (λ ws. ws ++ behind) (sym (map-append region_word regions (r ∷ [])))

pub read_more : (word rest more : List ℕ) (regions : List Region) (r : Region) → IsReadTo word regions rest → parts rest ≡ region_word r ∷ parts more → IsRegion r → IsReadTo word (regions ++ r ∷ []) more
read_more word rest more regions r read first h = record {
  split = with_region word rest (parts more) regions r read first;
  lawful = AllByRecursion-push regions r read.lawful h;
}

some_joined : (rs : List Region) → 0 < length rs → regions_word rs ≡ join_with_byte 44 (map region_word rs)
some_joined [] h = absurd (omega arith)
some_joined (r ∷ rs) h = refl

pub read_last : (word rest : List ℕ) (regions : List Region) (r : Region) → IsReadTo word regions rest → parts rest ≡ region_word r ∷ [] → IsRegion r → length regions < line_regions
    → AreSomeRegions (regions ++ r ∷ []) × (word ≡ regions_word (regions ++ r ∷ []))
read_last word rest regions r read first h few =
    let all : parts word ≡ map region_word (regions ++ r ∷ []) = with_region word rest [] regions r read first ∙ append-nil (map region_word (regions ++ r ∷ [])) in
    let count = length-append regions (r ∷ []) in
    let many : 0 < length (regions ++ r ∷ []) = omega (arith, count) in
    (((omega (arith, count, few), AllByRecursion-push regions r read.lawful h), many), sym (join_with_byte-slice_split 44 word) ∙ ap (join_with_byte 44) all ∙ sym (some_joined (regions ++ r ∷ []) many))

some_parts : (rs : List Region) → AreSomeRegions rs → parts (regions_word rs) ≡ map region_word rs
some_parts [] h = let many = h.1 in absurd (omega (arith, many))
some_parts (r ∷ rs) h = regions_parts r rs h.0.1

-- a word of regions is that of a lawful one
region_at : (front behind : List (List ℕ)) (word : List ℕ) (xs : List Region) → AllByRecursion IsRegion xs → map region_word xs ≡ front ++ word ∷ behind → (x : Region) × IsRegion x × (word ≡ region_word x)
region_at [] behind word [] h e = cc e
region_at [] behind word (x ∷ xs) h e = (x, h.0, sym (cc e))
region_at (f ∷ fs) behind word [] h e = cc e
region_at (f ∷ fs) behind word (x ∷ xs) h e = region_at fs behind word xs h.1 (cc e)

-- no regions are spelled with a part that is none
pub read_other : (word rest first : List ℕ) (behind : List (List ℕ)) (regions xs : List Region) → IsReadTo word regions rest → parts rest ≡ first ∷ behind
    → ((x : Region) → IsRegion x → first ≢ region_word x) → AreSomeRegions xs → word ≡ regions_word xs → ⊥
read_other word rest first behind regions xs read cut none h same =
    let parts_are : map region_word xs ≡ map region_word regions ++ first ∷ behind = sym (some_parts xs h) ∙ ap parts (sym same) ∙ read.split ∙ ap (λ ws. map region_word regions ++ ws) cut in
    let x = region_at (map region_word regions) behind first xs h.0.1 parts_are in
    none x.0 x.1 x.2

-- no list has more regions than a line may
pub read_many : (word rest : List ℕ) (regions xs : List Region) → IsReadTo word regions rest → line_regions ≤ length regions → AreSomeRegions xs → word ≡ regions_word xs → ⊥
read_many word rest regions xs read many h same =
    let parts_are : map region_word xs ≡ map region_word regions ++ parts rest = sym (some_parts xs h) ∙ ap parts (sym same) ∙ read.split in
    let lengths = ap length parts_are in
    let few = h.0.0 in
    absurd (omega (arith, lengths, few, length-map xs region_word, length-append (map region_word regions) (parts rest), length-map regions region_word, length-slice_split (λ b. b == 44) rest))
