-- The messages of a buffer that is in the grammar, and none of any other.
use Rattle.std.proofs.Common.{◌≡◌, ℕ, zero, suc, List, [], ◌∷◌, Bool, true, false, if◌then◌else◌, Option, Some, None, refl, sym, ap, subst, ◌∙◌}
use Rattle.std.specs.List.{All}
use Rattle.std.specs.Str.{bytes_eq}
use Rattle.std.proofs.lemmas.List.Elements.{All-cons, All-nil}
use Rattle.std.proofs.lemmas.Slice.Eq.{bytes_eq-Decides}
use Rattle.hsm_types.specs.Messages.{message_text, packed}
use Rattle.hsm_types.specs.declared.messages.Message.{Message}
use Rattle.event_msgs.specs.Buffers.{IsInGrammar, IsPacked, next_of, IsBadAt}
use Rattle.event_msgs.specs.Reading.{message_at, first_and_more, messages_within, messages_in, told}
use Rattle.event_msgs.proofs.ByteFields.{IsBytes}
use Rattle.event_msgs.proofs.ReadMessages.{message_found}
use Rattle.event_msgs.proofs.ReadBuffers.{all_read}
use Rattle.event_msgs.proofs.OneReading.{packed_or_bad}
use Rattle.event_msgs.proofs.Walks.{rest_bytes}

-- ---- what is read is in the grammar

found_each : (others : List ℕ → List Message) → ((rest : List ℕ) → IsBytes rest → All IsInGrammar (others rest)) → (bytes : List ℕ) → IsBytes bytes
    → (found : Option (Message × List ℕ)) → message_at bytes ≡ found → All IsInGrammar (first_and_more others found)
found_each others each bytes are None is = All-nil IsInGrammar
found_each others each bytes are (Some x) is =
    let begins = message_found bytes x are is in
    All-cons IsInGrammar x.0 (others x.1) begins.message (each x.1 (rest_bytes (message_text (next_of x.0 x.1) x.0) x.1 (subst IsBytes begins.text are)))

within_each : (most : ℕ) (bytes : List ℕ) → IsBytes bytes → All IsInGrammar (messages_within most bytes)
within_each zero bytes are = All-nil IsInGrammar
within_each (suc most) bytes are = found_each (messages_within most) (within_each most) bytes are (message_at bytes) refl

pub read_each : (bytes : List ℕ) → IsBytes bytes → All IsInGrammar (messages_in bytes)
unfolding messages_in
read_each bytes are = within_each _ bytes are

-- ---- those that are told

pub packed_told : (buf : List ℕ) (messages : List Message) → IsPacked buf messages → messages ≡ told buf
unfolding told
packed_told buf messages is =
    let read = all_read buf messages is.each is.bytes in
    let same : bytes_eq (packed (messages_in buf)) buf ≡ true = (bytes_eq-Decides _ _).1 (ap packed read ∙ sym is.bytes) in
    rw same (sym read)

none_or_packed : (buf : List ℕ) (place : ℕ) (messages : List Message) → All IsInGrammar messages → IsBadAt place buf → packed messages ≡ buf → messages ≡ []
none_or_packed buf place [] each bad same = refl
none_or_packed buf place (m ∷ more) each bad same = absurd (packed_or_bad buf (m ∷ more) place (record { some = λ e. cc; each = each; bytes = sym same }) bad)

told_or_none : (buf : List ℕ) (messages : List Message) (test : Bool) → (test ≡ true → messages ≡ []) → [] ≡ (if test then messages else [])
told_or_none buf messages true none = sym (none refl)
told_or_none buf messages false none = refl

pub bad_told : (buf : List ℕ) (place : ℕ) → IsBytes buf → IsBadAt place buf → [] ≡ told buf
unfolding told
bad_told buf place are bad =
    told_or_none buf (messages_in buf) (bytes_eq (packed (messages_in buf)) buf)
    (λ same. none_or_packed buf place (messages_in buf) (read_each buf are) bad ((bytes_eq-Decides _ _).0 same))

pub nothing_read : messages_in [] ≡ []
unfolding messages_in
nothing_read = refl

pub none_each : All IsInGrammar (messages_in [])
none_each = subst (All IsInGrammar) (sym nothing_read) (All-nil IsInGrammar)
