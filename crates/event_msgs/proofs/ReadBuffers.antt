-- Buffers that are read message by message.
use Rattle.std.proofs.Common.{◌≡◌, ◌≢◌, ℕ, zero, suc, ◌+◌, ◌≤◌, List, [], ◌∷◌, ◌++◌, length, Some, None, refl, sym, ap, ◌∙◌, append_assoc, append-nil, arith}
use Rattle.std.specs.List.{All, sum_by}
use Rattle.std.proofs.lemmas.List.{length-append}
use Rattle.std.proofs.lemmas.List.Sums.{sum_by-cons}
use Rattle.hsm_types.specs.Messages.{message_bytes, header, message_text, packed}
use Rattle.hsm_types.specs.declared.messages.Message.{Message}
use Rattle.event_msgs.specs.Buffers.{IsInGrammar, next_of, BeginsWith, linked}
use Rattle.event_msgs.specs.Reading.{message_at, frame_at, header_at, messages_within, messages_in}
use Rattle.event_msgs.proofs.ReadMessages.{message_again, text_length}

-- ---- lists of messages in the grammar

pub head_in : (m : Message) (more : List Message) → All IsInGrammar (m ∷ more) → IsInGrammar m
head_in m more each = each 0 m (omega arith)

pub tail_in : (m : Message) (more : List Message) → All IsInGrammar (m ∷ more) → All IsInGrammar more
tail_in m more each = λ k d lt. each (suc k) d (omega arith)

text_some : (next : ℕ) (m : Message) (rest : List ℕ) → message_text next m ++ rest ≢ []
unfolding message_text header
text_some next m rest e = absurd cc

pub behind_some : (front rest : List ℕ) → rest ≢ [] → front ++ rest ≢ []
behind_some [] rest some e = some e
behind_some (byte ∷ front) rest some e = absurd cc

pub next_behind : (m : Message) (rest : List ℕ) → rest ≢ [] → next_of m rest ≡ message_bytes m
next_behind m [] some = absurd (some refl)
next_behind m (byte ∷ rest) some = refl

packed_some : (m : Message) (more : List Message) → packed (m ∷ more) ≢ []
packed_some m [] e = text_some 0 m [] (append-nil (message_text 0 m) ∙ e)
packed_some m (n ∷ more) e = text_some (message_bytes m) m (packed (n ∷ more)) e

pub packed_more : (m : Message) (more : List Message) → packed (m ∷ more) ≡ message_text (next_of m (packed more)) m ++ packed more
packed_more m [] = sym (append-nil (message_text 0 m))
packed_more m (n ∷ more) = ap (λ (next : ℕ). message_text next m ++ packed (n ∷ more)) (sym (next_behind m (packed (n ∷ more)) (packed_some n more)))

pub packed_begins : (m : Message) (more : List Message) → IsInGrammar m → BeginsWith m (packed more) (packed (m ∷ more))
packed_begins m more is = record { message = is; text = packed_more m more }

pub linked_begins : (m : Message) (more : List Message) (rest : List ℕ) → IsInGrammar m → rest ≢ [] → BeginsWith m (linked more ++ rest) (linked (m ∷ more) ++ rest)
linked_begins m more rest is some = record {
  message = is;
  text = append_assoc (message_text (message_bytes m) m) (linked more) rest
      ∙ ap (λ (next : ℕ). message_text next m ++ (linked more ++ rest)) (sym (next_behind m (linked more ++ rest) (behind_some (linked more) rest some)));
}

pub linked_length : (messages : List Message) → All IsInGrammar messages → length (linked messages) ≡ sum_by message_bytes messages
linked_length [] each = refl
linked_length (m ∷ more) each =
    let parts : length (linked (m ∷ more)) ≡ length (message_text (message_bytes m) m) + length (linked more) = length-append (message_text (message_bytes m) m) (linked more) in
    omega (arith, parts, sum_by-cons message_bytes m more, text_length (message_bytes m) m (head_in m more each).message, linked_length more (tail_in m more each))

-- ---- what is packed is read

pub no_message : message_at [] ≡ None
unfolding message_at frame_at header_at
no_message = refl

pub first_read : (m : Message) (more : List Message) → IsInGrammar m → message_at (packed (m ∷ more)) ≡ Some (m, packed more)
first_read m more is = message_again (packed (m ∷ more)) m (packed more) (packed_begins m more is)

read_within : (most : ℕ) (messages : List Message) → length messages ≤ most → All IsInGrammar messages → messages_within most (packed messages) ≡ messages
read_within zero [] few each = refl
read_within zero (m ∷ more) few each = absurd (omega arith)
read_within (suc most) [] few each = rw no_message refl
read_within (suc most) (m ∷ more) few each = rw (first_read m more (head_in m more each)) (ap (λ (l : List Message). m ∷ l) (read_within most more (omega arith) (tail_in m more each)))

packed_long : (messages : List Message) → All IsInGrammar messages → length messages ≤ length (packed messages)
packed_long [] each = omega arith
packed_long (m ∷ more) each =
    let parts = ap (λ (l : List ℕ). length l) (packed_more m more) ∙ length-append (message_text (next_of m (packed more)) m) (packed more) in
    omega (arith, parts, text_length (next_of m (packed more)) m (head_in m more each).message, packed_long more (tail_in m more each))

pub all_read : (bytes : List ℕ) (messages : List Message) → All IsInGrammar messages → bytes ≡ packed messages → messages_in bytes ≡ messages
unfolding messages_in
all_read bytes messages each same =
    ap messages_in same ∙ read_within (length (packed messages)) messages (packed_long messages each) each
