-- Where handles and bodies stand in a buffer.
use Rattle.std.proofs.Common.{◌≡◌, ℕ, ◌+◌, List, [], ◌∷◌, ◌++◌, length, take, drop, refl, sym, ap, ◌∙◌, append_assoc}
use Rattle.std.specs.List.{All, sum_by}
use Rattle.std.proofs.lemmas.List.{take_at, drop_at, drop-drop}
use Rattle.std.proofs.lemmas.List.Elements.{All-cons, All-nil}
use Rattle.byteorder.specs.Endian.{big_bytes}
use Rattle.hsm_types.specs.Messages.{IsOf, handle_or_none, payload, payload_of, padding, message_bytes, header, message_text, packed}
use Rattle.hsm_types.specs.declared.dm.Kind.{Kind}
use Rattle.hsm_types.specs.declared.dm.Kind.TheVariants.{Read, Write, Truncate, NoSpace, User}
use Rattle.hsm_types.specs.declared.messages.Message.{Message}
use Rattle.event_msgs.specs.Buffers.{IsInGrammar, next_of, linked}
use Rattle.event_msgs.specs.Laws.{StandsInBuffer}
use Rattle.event_msgs.proofs.ByteFields.{assoc3}
use Rattle.event_msgs.proofs.ReadBuffers.{head_in, tail_in, packed_more, linked_length}

packed_link : (n : Message) (before : List Message) (m : Message) (after : List Message) → packed (n ∷ (before ++ m ∷ after)) ≡ message_text (message_bytes n) n ++ packed (before ++ m ∷ after)
packed_link n [] m after = refl
packed_link n (o ∷ before) m after = refl

packed_parts : (before : List Message) (m : Message) (after : List Message) → packed (before ++ m ∷ after) ≡ linked before ++ packed (m ∷ after)
packed_parts [] m after = refl
packed_parts (n ∷ before) m after =
    packed_link n before m after ∙ ap (λ (l : List ℕ). message_text (message_bytes n) n ++ l) (packed_parts before m after)
    ∙ sym (append_assoc (message_text (message_bytes n) n) (linked before) (packed (m ∷ after)))

take_none : (bytes : List ℕ) → ◌≡◌ {A = List ℕ} (take 0 bytes) []
take_none bytes = refl

handle_of_access : (m : Message) (rest : List ℕ) → take (length (handle_or_none m.handle)) ((handle_or_none m.handle ++ big_bytes 8 m.offset ++ big_bytes 8 m.length) ++ rest) ≡ handle_or_none m.handle
handle_of_access m rest =
    let handle : List ℕ = handle_or_none m.handle in
    ap (take (length handle)) (assoc3 handle (big_bytes 8 m.offset) (big_bytes 8 m.length) rest) ∙ take_at handle (big_bytes 8 m.offset ++ (big_bytes 8 m.length ++ rest)) (length handle) refl

handle_first : (kind : Kind) (m : Message) (rest : List ℕ) → IsOf kind m → take (length (handle_or_none m.handle)) (payload_of kind m ++ rest) ≡ handle_or_none m.handle
handle_first User m rest is = rw is.0 (take_none (m.body ++ rest))
handle_first Read m rest is = handle_of_access m rest
handle_first Write m rest is = handle_of_access m rest
handle_first Truncate m rest is = handle_of_access m rest
handle_first NoSpace m rest is = handle_of_access m rest

body_first : (kind : Kind) (m : Message) (rest : List ℕ) → IsOf kind m → take (length m.body) (payload_of kind m ++ rest) ≡ m.body
body_first User m rest is = take_at m.body rest (length m.body) refl
body_first Read m rest is = rw is.2 refl
body_first Write m rest is = rw is.2 refl
body_first Truncate m rest is = rw is.3 refl
body_first NoSpace m rest is = rw is.2 refl

before_in : (before after : List Message) → All IsInGrammar (before ++ after) → All IsInGrammar before
before_in [] after each = All-nil IsInGrammar
before_in (m ∷ before) after each = All-cons IsInGrammar m before (head_in m (before ++ after) each) (before_in before after (tail_in m (before ++ after) each))

after_in : (before after : List Message) → All IsInGrammar (before ++ after) → All IsInGrammar after
after_in [] after each = each
after_in (m ∷ before) after each = after_in before after (tail_in m (before ++ after) each)

header_length : (next : ℕ) (m : Message) → length (header next m) ≡ 24
unfolding header
header_length next m = refl

behind_header : (before : List Message) (m : Message) (after : List Message) → All IsInGrammar before
    → drop (sum_by message_bytes before + 24) (packed (before ++ m ∷ after)) ≡ payload m ++ (padding m ++ packed after)
unfolding message_text
behind_header before m after each =
    let start = sum_by message_bytes before in
    let next = next_of m (packed after) in
    let others : List ℕ = payload m ++ (padding m ++ packed after) in
    let text : packed (m ∷ after) ≡ header next m ++ others = packed_more m after ∙ assoc3 (header next m) (payload m) (padding m) (packed after) in
    sym (drop-drop 24 start (packed (before ++ m ∷ after)))
    ∙ ap (λ (l : List ℕ). drop 24 (drop start l)) (packed_parts before m after)
    ∙ ap (drop 24) (drop_at (linked before) (packed (m ∷ after)) start (linked_length before each) ∙ text)
    ∙ drop_at (header next m) others 24 (header_length next m)

pub parts_stand : (before : List Message) (m : Message) (after : List Message) → All IsInGrammar (before ++ m ∷ after) → StandsInBuffer before m after
parts_stand before m after each =
    let is = head_in m after (after_in before (m ∷ after) each) in
    let behind = behind_header before m after (before_in before (m ∷ after) each) in
    record {
      handle = ap (take (length (handle_or_none m.handle))) behind ∙ handle_first m.kind m (padding m ++ packed after) is.message;
      body = ap (take (length m.body)) behind ∙ body_first m.kind m (padding m ++ packed after) is.message;
    }
