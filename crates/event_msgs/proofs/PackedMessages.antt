-- Messages that are packed one after the other.
use Rattle.std.proofs.Common.{◌≡◌, ℕ, ◌+◌, ◌<◌, ◌≤◌, List, [], ◌∷◌, ◌++◌, length, get_or, take, drop, refl, sym, ap, subst, ◌∙◌, append_assoc, arith}
use Rattle.std.proofs.lemmas.List.{drop_more, take_more, take_all, drop_all, length-append, get_or_append_left}
use Rattle.std.proofs.Math.Seq.{get_or-append_seam}
use Rattle.std.proofs.lemmas.List.Elements.{All-same, All-push}
use Rattle.std.specs.List.{All}
use Rattle.hsm_types.specs.Messages.{IsMessage, message_bytes, header, payload, padding, message_text, packed, fitting}
use Rattle.hsm_types.specs.declared.messages.Message.{Message}
use Rattle.event_msgs.specs.Buffers.{IsInGrammar}

-- ---- which fit

-- those before the place fit, and of the others those that fit into what is left
abbrev pub FitBefore : ℕ → List Message → ℕ → ℕ → Type 0
FitBefore room messages i left = take i messages ++ fitting left (drop i messages) ≡ fitting room messages

-- ---- how they are written

pub put : (out o1 o2 o3 front zeros : List ℕ) (next : ℕ) (m : Message) → front ≡ header next m → zeros ≡ padding m
    → o1 ≡ out ++ front → o2 ≡ o1 ++ payload m → o3 ≡ o2 ++ zeros → o3 ≡ out ++ message_text next m
unfolding message_text
put out o1 o2 o3 front zeros next m is_header is_padding first second third =
    third
    ∙ ap (λ (l : List ℕ). l ++ zeros) (second ∙ ap (λ (l : List ℕ). l ++ payload m) first ∙ append_assoc out front (payload m))
    ∙ append_assoc out (front ++ payload m) zeros
    ∙ (λ i. out ++ ((is_header i ++ payload m) ++ is_padding i))

pub packed_first : (m : Message) (more : List Message) (last : Message) → packed (m ∷ (more ++ last ∷ [])) ≡ message_text (message_bytes m) m ++ packed (more ++ last ∷ [])
packed_first m [] last = refl
packed_first m (n ∷ more) last = refl

-- the messages before the place are written, those from there on and the last one are left
abbrev pub WrittenBefore : List ℕ → List Message → List Message → Message → ℕ → Type 0
WrittenBefore out messages before last i = out ++ packed (drop i before ++ last ∷ []) ≡ packed messages

pub written_none : (messages before : List Message) (last : Message) → messages ≡ before ++ last ∷ [] → WrittenBefore [] messages before last 0
written_none messages before last parts = ap packed (sym parts)

pub written_more : (out new : List ℕ) (messages before : List Message) (last : Message) (i : ℕ) (m : Message) → i < length before → m ≡ get_or before i m
    → new ≡ out ++ message_text (message_bytes m) m → WrittenBefore out messages before last i → WrittenBefore new messages before last (i + 1)
written_more out new messages before last i m within is written so_far =
    let others = drop (i + 1) before in
    let opened : drop i before ≡ m ∷ others = drop_more before i m within ∙ ap (λ (n : Message). n ∷ others) (sym is) in
    ap (λ (l : List ℕ). l ++ packed (others ++ last ∷ [])) written
    ∙ append_assoc out (message_text (message_bytes m) m) (packed (others ++ last ∷ []))
    ∙ ap (λ (l : List ℕ). out ++ l) (sym (ap (λ (l : List Message). packed (l ++ last ∷ [])) opened ∙ packed_first m others last))
    ∙ so_far

pub written_all : (out new : List ℕ) (messages before : List Message) (last : Message) (i : ℕ) → length before ≤ i → new ≡ out ++ message_text 0 last → WrittenBefore out messages before last i
    → new ≡ packed messages
written_all out new messages before last i past written so_far =
    written ∙ sym (ap (λ (l : List Message). out ++ packed (l ++ last ∷ [])) (drop_all i before past)) ∙ so_far

-- those that are written are in the grammar
abbrev pub SpelledBefore : List ℕ → List Message → List Message → Message → ℕ → Type 0
SpelledBefore out messages before last i = WrittenBefore out messages before last i × All IsInGrammar (take i before)

pub good_more : (before : List Message) (i : ℕ) (m : Message) → i < length before → m ≡ get_or before i m → IsInGrammar m → All IsInGrammar (take i before) → All IsInGrammar (take (i + 1) before)
good_more before i m within is good so_far =
    All-same IsInGrammar (take (i + 1) before) (take i before ++ m ∷ []) (take_more before i m within ∙ ap (λ (n : Message). take i before ++ n ∷ []) (sym is)) (All-push IsInGrammar (take i before) m so_far good)

pub good_all : (messages before : List Message) (last : Message) (i : ℕ) → messages ≡ before ++ last ∷ [] → length before ≤ i → IsInGrammar last → All IsInGrammar (take i before) → All IsInGrammar messages
good_all messages before last i parts past good so_far =
    All-same IsInGrammar messages (before ++ last ∷ []) parts (All-push IsInGrammar before last (All-same IsInGrammar before (take i before) (sym (take_all i before past)) so_far) good)

-- ---- each is a message

pub one_is : (messages before : List Message) (last : Message) (i : ℕ) (m : Message) → All IsMessage messages → messages ≡ before ++ last ∷ [] → i < length before → m ≡ get_or before i m → IsMessage m
one_is messages before last i m each parts within is =
    let same : get_or messages i m ≡ m = ap (λ (l : List Message). get_or l i m) parts ∙ get_or_append_left before (last ∷ []) m i within ∙ sym is in
    subst IsMessage same (each i m (omega (arith, ap (λ (l : List Message). length l) parts, length-append before (last ∷ []))))

pub last_is : (messages before : List Message) (last : Message) → All IsMessage messages → messages ≡ before ++ last ∷ [] → IsMessage last
last_is messages before last each parts =
    let same : get_or messages (length before) last ≡ last = ap (λ (l : List Message). get_or l (length before) last) parts ∙ get_or-append_seam before last [] last in
    subst IsMessage same (each (length before) last (omega (arith, ap (λ (l : List Message). length l) parts, length-append before (last ∷ []))))
