-- Parts of calls: each is got back from its text, and is visible.
use Rattle.std.proofs.Common.{◌≡◌, ◌≢◌, ℕ, ◌<◌, List, [], ◌∷◌, ◌++◌, length, drop, get_or, take, ◌-◌, ◌==◌, map, Bool, true, false, Option, None, refl, sym}
use Rattle.std.proofs.Common.{ap, ◌∙◌, subst, arith}
use Rattle.std.specs.List.{AllByRecursion}
use Rattle.std.specs.Str.Parse.{digits_value}
use Rattle.std.proofs.lemmas.Bool.{and_parts, false≢true}
use Rattle.std.proofs.lemmas.Bool.Decides.{nat_tests}
use Rattle.std.proofs.lemmas.List.{take_all}
use Rattle.call_forms.specs.declared.parts.Part.{Part}
use Rattle.call_forms.specs.declared.parts.Part.TheVariants as part
use Rattle.call_forms.specs.declared.parts.PartKind.{PartKind}
use Rattle.call_forms.specs.declared.parts.PartKind.TheVariants as kinds
use Rattle.call_forms.specs.Parts.{kind_of}
use Rattle.call_forms.proofs.Forming.{made, made-same}
use Rattle.event_text.specs.Render.{spaced, part_word}
use Rattle.script_text.specs.declared.parts.ReadPart.{ReadPart}
use Rattle.script_text.specs.declared.parts.ReadParts.{ReadParts}
use Rattle.script_text.specs.Lines.{data_word, IsPart, AreParts}
use Rattle.script_text.specs.Reading.{Lacks, read_text, IsOfKind, parts_text, AreOfKinds, is_plain, is_signature}
use Rattle.script_text.proofs.Cutting.{cut_same}
use Rattle.script_text.proofs.KindParts.{kinds_at, spelled_kinds}
use Rattle.script_text.proofs.Numerals.{digits_value-decimal}
use Rattle.script_text.proofs.ResponseParts.{response_at, response_at-word, Lacks-response}
use Rattle.script_text.proofs.RightParts.{right_at, right_at-word, visible_right}
use Rattle.script_text.proofs.Spelling.{IsVisible, Lacks-visible, visible_word, visible_decimal, visible_handle, visible_regions, visible_name}
use Rattle.script_text.proofs.Spelling.{visible_digest, visible_data, data_at, data_at-word, handle_at, handle_at-word, regions_at, regions_at-word, name_at}
use Rattle.script_text.proofs.Spelling.{name_at-word, digest_at, digest_at-word}

-- ---- parts of a kind

as_made : (k : PartKind) (p : Part) → kind_of p ≡ k → p ≡ made k (p ∷ [])
as_made k p e = sym (made-same p []) ∙ ap (λ j. made j (p ∷ [])) e

-- a text that is no part made of the kind is no part of the kind
pub none_made : (k : PartKind) (text : List ℕ) → ((ps : List Part) (seed : Option ℕ) → IsPart seed (made k ps) → text ≢ part_word (data_word seed) (made k ps))
    → (r : ReadPart) → IsOfKind k r → text ≢ read_text r
none_made k text none r h same =
    let is = as_made k r.part h.0 in
    let P : Part → Type 0 = λ p. IsPart r.seed p in
    none (r.part ∷ []) r.seed (subst P is h.1) (same ∙ ap (part_word (data_word r.seed)) is)

-- ---- a part is got back from its text

abbrev plain : Part → ReadPart
plain p = record { part = p; seed = None }

abbrev part_at : PartKind → List ℕ → ReadPart
part_at kinds.Number text = plain (part.Number (digits_value 10 text))
part_at kinds.Count text = plain (part.Count (digits_value 10 text))
part_at kinds.Fetch text = plain (part.Fetch (digits_value 10 text))
part_at kinds.Word text = plain (part.Word text)
part_at kinds.Handle text = plain (part.Handle (handle_at text))
part_at kinds.Regions text = plain (part.Regions (regions_at text))
part_at kinds.Name text = plain (part.Name (name_at text))
part_at kinds.Kinds text = plain (part.Kinds (kinds_at text))
part_at kinds.Response text = plain (part.Response (response_at text))
part_at kinds.Right text = plain (part.Right (right_at text))
part_at kinds.Digest text = plain (part.Digest (digest_at text))
part_at kinds.Data text = record { part = part.Data (data_at text).bytes; seed = (data_at text).seed }
part_at kinds.Verified text = record { part = part.Verified (data_at text).bytes; seed = (data_at text).seed }

part_at-text : (seed : Option ℕ) (p : Part) → IsPart seed p → part_at (kind_of p) (part_word (data_word seed) p) ≡ record { part = p; seed = seed }
part_at-text seed (part.Number n) h = rw (digits_value-decimal n h.0, h.1) refl
part_at-text seed (part.Count n) h = rw (digits_value-decimal n (omega (arith, h.0)), h.1) refl
part_at-text seed (part.Fetch len) h = rw (digits_value-decimal len h.0, h.1) refl
part_at-text seed (part.Word word) h = rw h.1 refl
part_at-text seed (part.Handle handle) h = rw (handle_at-word handle h.0, h.1) refl
part_at-text seed (part.Regions regions) h = rw (regions_at-word regions h.0, h.1) refl
part_at-text seed (part.Name name) h = rw (name_at-word name h.0, h.1) refl
part_at-text seed (part.Kinds taken) h = rw ((spelled_kinds taken).back, h) refl
part_at-text seed (part.Response response) h = rw (response_at-word response h.0, h.1) refl
part_at-text seed (part.Right right) h = rw (right_at-word right h.0, h.1) refl
part_at-text seed (part.Digest digest) h = rw (digest_at-word digest h.0, h.1) refl
part_at-text seed (part.Data bytes) h = rw (data_at-word seed bytes h) refl
part_at-text seed (part.Verified bytes) h = rw (data_at-word seed bytes h.0) refl

-- ---- its bytes are visible

-- of a response a byte may be a space
visible_part : (seed : Option ℕ) (p : Part) → kind_of p ≢ kinds.Response → IsPart seed p → IsVisible (part_word (data_word seed) p)
visible_part seed (part.Number n) other h = visible_decimal n h.0
visible_part seed (part.Count n) other h = visible_decimal n (omega (arith, h.0))
visible_part seed (part.Fetch len) other h = visible_decimal len h.0
visible_part seed (part.Word word) other h = visible_word word h.0
visible_part seed (part.Handle handle) other h = visible_handle handle h.0
visible_part seed (part.Regions regions) other h = visible_regions regions h.0
visible_part seed (part.Name name) other h = visible_name name h.0
visible_part seed (part.Kinds taken) other h = (spelled_kinds taken).visible
visible_part seed (part.Response response) other h = absurd (other refl)
visible_part seed (part.Right right) other h = visible_right right
visible_part seed (part.Digest digest) other h = visible_digest digest h.0
visible_part seed (part.Data bytes) other h = visible_data seed bytes h
visible_part seed (part.Verified bytes) other h = visible_data seed bytes h.0

-- none is a newline
Lacks-part : (seed : Option ℕ) (p : Part) → IsPart seed p → Lacks 10 (part_word (data_word seed) p)
Lacks-part seed (part.Response response) h = Lacks-response response h.0
Lacks-part seed other h = Lacks-visible 10 (part_word (data_word seed) other) refl (visible_part seed other (λ same. cc same) h)

-- ---- what may stand before other parts

-- it has no seed, is written alike whatever the seed of the others, and has no space
pub record IsPlain (seed other : Option ℕ) (p : Part) : Type 0 where
  pub lawful : IsPart None p
  pub alike : part_word (data_word seed) p ≡ part_word (data_word other) p
  pub lacks : Lacks 32 (part_word (data_word other) p)

lawful_alone : (seed : Option ℕ) (p : Part) → is_plain (kind_of p) ≡ true → IsPart seed p → IsPart None p
lawful_alone seed (part.Data bytes) e h = absurd (false≢true e)
lawful_alone seed (part.Verified bytes) e h = absurd (false≢true e)
lawful_alone seed (part.Kinds taken) e h = refl
lawful_alone seed other e h = (h.0, refl)

alike_plain : (seed other : Option ℕ) (p : Part) → is_plain (kind_of p) ≡ true → part_word (data_word seed) p ≡ part_word (data_word other) p
alike_plain seed other (part.Data bytes) e = absurd (false≢true e)
alike_plain seed other (part.Verified bytes) e = absurd (false≢true e)
alike_plain seed other another e = refl

plain_no_response : (k : PartKind) → is_plain k ≡ true → k ≢ kinds.Response
plain_no_response k e same = false≢true (ap is_plain (sym same) ∙ e)

pub plain_part : (seed other : Option ℕ) (p : Part) → is_plain (kind_of p) ≡ true → IsPart seed p → IsPlain seed other p
plain_part seed other p e h =
    let lawful = lawful_alone seed p e h in
    let visible = subst IsVisible (alike_plain None other p e) (visible_part None p (plain_no_response (kind_of p) e) lawful) in
    record { lawful = lawful; alike = alike_plain seed other p e; lacks = Lacks-visible 32 (part_word (data_word other) p) refl visible }

pub Lacks-parts : (seed : Option ℕ) (ps : List Part) → is_signature (map kind_of ps) ≡ true → AreParts seed ps → AllByRecursion (Lacks 10) (map (part_word (data_word seed)) ps)
Lacks-parts seed [] e h = tt
Lacks-parts seed (p ∷ []) e h = (Lacks-part seed p h, tt)
Lacks-parts seed (p ∷ q ∷ ps) e h =
    let both = and_parts (is_plain (kind_of p)) (is_signature (map kind_of (q ∷ ps))) e in
    (subst (Lacks 10) (alike_plain None seed p both.0) (Lacks-part None p h.0), Lacks-parts seed (q ∷ ps) both.1 h.1)

-- ---- one part

-- the only part, of the wanted kind
pub record IsOnly (wanted : PartKind) (text : List ℕ) : Type 0 where
  pub part : ReadPart
  pub of_kind : IsOfKind wanted part
  pub spelled : text ≡ read_text part

only_part : (wanted : PartKind) (text : List ℕ) (seed : Option ℕ) (ps : List Part) → map kind_of ps ≡ wanted ∷ [] → AreParts seed ps → text ≡ spaced (map (part_word (data_word seed)) ps) → IsOnly wanted text
only_part wanted text seed [] e h same = cc e
only_part wanted text seed (p ∷ []) e h same = record { part = record { part = p; seed = seed }; of_kind = (cc e, h); spelled = same }
only_part wanted text seed (p ∷ q ∷ ps) e h same = let wrong : map kind_of (q ∷ ps) ≡ [] = cc e in cc wrong

pub only : (wanted : PartKind) (text : List ℕ) (r : ReadParts) → AreOfKinds (wanted ∷ []) r → text ≡ parts_text r → IsOnly wanted text
only wanted text r h same = only_part wanted text r.seed r.parts h.0 h.1 same

-- ---- signatures

-- kinds are the first and the others
pub split_kinds : (ks : List PartKind) → 0 < length ks → ks ≡ get_or ks 0 kinds.Number ∷ take (length ks - 1) (drop 1 ks)
split_kinds [] some = absurd (omega arith)
split_kinds (k ∷ ks) some = ap (λ js. k ∷ js) (sym (take_all (length (k ∷ ks) - 1) ks (omega arith)))

pub some_more : (n : ℕ) (test : Bool) → test ≡ (n == 0) → test ≡ false → 0 < n
some_more n test is failed = grind (arith, nat_tests)

pub signature_parts : (wanted : PartKind) (more : List PartKind) → 0 < length more → is_signature (wanted ∷ more) ≡ true → (is_plain wanted ≡ true) × (is_signature more ≡ true)
signature_parts wanted [] some h = absurd (omega arith)
signature_parts wanted (l ∷ ks) some h = let both = and_parts (is_plain wanted) (is_signature (l ∷ ks)) h in (both.0, both.1)

-- ---- one part and more

-- the first part, and the others
pub record Begins (wanted : PartKind) (more : List PartKind) (text : List ℕ) : Type 0 where
  pub first : ReadPart
  pub others : ReadParts
  pub of_kind : IsOfKind wanted first
  pub of_kinds : AreOfKinds more others
  pub lacks : Lacks 32 (read_text first)
  pub spelled : text ≡ read_text first ++ 32 ∷ parts_text others

begins_with : (wanted : PartKind) (more : List PartKind) (text : List ℕ) (seed : Option ℕ) (ps : List Part) → 0 < length more → is_plain wanted ≡ true → map kind_of ps ≡ wanted ∷ more → AreParts seed ps
    → text ≡ spaced (map (part_word (data_word seed)) ps) → Begins wanted more text
begins_with wanted more text seed [] some plain e h same = cc e
begins_with wanted more text seed (p ∷ []) some plain e h same = let none : [] ≡ more = cc e in let wrong = ap length none in absurd (omega arith)
begins_with wanted more text seed (p ∷ q ∷ ps) some plain e h same =
    let k : kind_of p ≡ wanted = cc e in
    let is = plain_part None seed p (ap is_plain k ∙ plain) h.0 in
    let again = plain_part None None p (ap is_plain k ∙ plain) h.0 in
    record {
      first = record { part = p; seed = None };
      others = record { parts = q ∷ ps; seed = seed };
      of_kind = (k, h.0);
      of_kinds = (cc e, h.1);
      lacks = again.lacks;
      spelled = rw is.alike same;
    }

pub begins : (wanted : PartKind) (more : List PartKind) (text : List ℕ) (r : ReadParts) → 0 < length more → is_plain wanted ≡ true → AreOfKinds (wanted ∷ more) r → text ≡ parts_text r → Begins wanted more text
begins wanted more text r some plain h same = begins_with wanted more text r.seed r.parts some plain h.0 h.1 same

pub begins_at : (ks : List PartKind) (first : PartKind) (more : List PartKind) (text : List ℕ) (r : ReadParts) → ks ≡ first ∷ more → 0 < length more → is_signature ks ≡ true → AreOfKinds ks r → text ≡ parts_text r → Begins first more text
begins_at ks first more text r is some signature h same =
    let both = signature_parts first more some (ap is_signature (sym is) ∙ signature) in
    begins first more text r some both.0 (h.0 ∙ is, h.1) same

-- ---- parts are spelled as no others

-- two lists of parts of the same kinds with the same text are one
pub record AreSame (s t : Option ℕ) (ps qs : List Part) : Type 0 where
  pub parts : ps ≡ qs
  pub seeds : s ≡ t

same_part : (s t : Option ℕ) (p q : Part) → kind_of p ≡ kind_of q → IsPart s p → IsPart t q → part_word (data_word s) p ≡ part_word (data_word t) q → (p ≡ q) × (s ≡ t)
same_part s t p q k h h' e =
    let read : ◌≡◌ {A = ReadPart} (record { part = p; seed = s }) (record { part = q; seed = t }) =
    sym (part_at-text s p h) ∙ ap (λ j. part_at j (part_word (data_word s) p)) k ∙ ap (part_at (kind_of q)) e ∙ part_at-text t q h' in
    (ap (λ (r : ReadPart). r.part) read, ap (λ (r : ReadPart). r.seed) read)

pub same_parts : (s t : Option ℕ) (ps qs : List Part) → map kind_of ps ≡ map kind_of qs → is_signature (map kind_of ps) ≡ true → AreParts s ps → AreParts t qs
    → spaced (map (part_word (data_word s)) ps) ≡ spaced (map (part_word (data_word t)) qs) → AreSame s t ps qs
same_parts s t [] [] k sig h h' e = record { parts = refl; seeds = h ∙ sym h' }
same_parts s t [] (q ∷ qs) k sig h h' e = cc k
same_parts s t (p ∷ ps) [] k sig h h' e = cc k
same_parts s t (p ∷ []) (q ∷ []) k sig h h' e =
    let one = same_part s t p q (cc k) h h' e in
    let first : p ≡ q = one.0 in
    record { parts = cc first; seeds = one.1 }
same_parts s t (p ∷ []) (q ∷ r ∷ qs) k sig h h' e = let wrong : [] ≡ map kind_of (r ∷ qs) = cc k in cc wrong
same_parts s t (p ∷ r ∷ ps) (q ∷ []) k sig h h' e = let wrong : map kind_of (r ∷ ps) ≡ [] = cc k in cc wrong
same_parts s t (p ∷ p' ∷ ps) (q ∷ q' ∷ qs) k sig h h' e =
    let both = and_parts (is_plain (kind_of p)) (is_signature (map kind_of (p' ∷ ps))) sig in
    let wanted : kind_of p ≡ kind_of q = cc k in
    let a = plain_part None s p both.0 h.0 in
    let b = plain_part None t q (ap is_plain (sym wanted) ∙ both.0) h'.0 in
    let cut = cut_same 32 (part_word (data_word s) p) (spaced (map (part_word (data_word s)) (p' ∷ ps))) (part_word (data_word t) q) (spaced (map (part_word (data_word t)) (q' ∷ qs))) a.lacks b.lacks e in
    let one = same_part None None p q wanted h.0 h'.0 (a.alike ∙ cut.0 ∙ sym b.alike) in
    let others = same_parts s t (p' ∷ ps) (q' ∷ qs) (cc k) both.1 h.1 h'.1 cut.1 in
    let first : p ≡ q = one.0 in
    let rest : p' ∷ ps ≡ q' ∷ qs = others.parts in
    record { parts = cc (first, rest); seeds = others.seeds }
