-- Walks over a buffer: that of its views, and the search for a bad message.
use Rattle.std.proofs.Common.{◌≡◌, ◌≢◌, ℕ, ◌-◌, ◌<◌, List, [], ◌∷◌, ◌++◌, length, map, Option, Some, None, true, false, eqb, eq-eqb, refl, sym, ap}
use Rattle.std.proofs.Common.{subst, ◌∙◌, append_assoc, append-nil, arith, inr, ◌⊎◌}
use Rattle.std.specs.Borrow.{Bor}
use Rattle.std.specs.Option.{option_map}
use Rattle.std.specs.List.{All}
use Rattle.std.proofs.lemmas.Bool.{eqb-true}
use Rattle.std.proofs.lemmas.Grind.{flat_map-append}
use Rattle.std.proofs.lemmas.List.{length-append, drop_at}
use Rattle.std.proofs.lemmas.List.Elements.{All-append, All-cons, All-nil}
use Rattle.hsm_types.specs.Messages.{message_bytes, message_text, packed}
use Rattle.hsm_types.specs.declared.messages.Message.{Message}
use Rattle.event_msgs.specs.Buffers.{IsInGrammar, IsPacked, next_of, BeginsWith, linked, IsBadAt}
use Rattle.event_msgs.specs.Reading.{message_at, messages_in}
use Rattle.event_msgs.specs.Views.{Shown, shown, seen, shown_before, seen_before}
use Rattle.event_msgs.specs.declared.message_view.View.{View}
use Rattle.event_msgs.proofs.ByteFields.{IsBytes, IsBytes-drop}
use Rattle.event_msgs.proofs.PackedMessages.{packed_first}
use Rattle.event_msgs.proofs.ReadMessages.{some_is, message_found, message_again, text_length}
use Rattle.event_msgs.proofs.ReadBuffers.{head_in, tail_in, next_behind, linked_length, no_message, first_read, all_read}

-- ---- what is left of a walk

pub none_left : (bytes : List ℕ) (messages : List Message) → All IsInGrammar messages → bytes ≡ packed messages → message_at bytes ≡ None → messages ≡ []
none_left bytes [] each same none = refl
none_left bytes (m ∷ more) each same none = let found = ap message_at same ∙ first_read m more (head_in m more each) in absurd cc

-- the messages behind the first one
pub record IsBehind (m : Message) (rest : List ℕ) (messages more : List Message) : Type 0 where
  pub parts : messages ≡ m ∷ more
  pub each : All IsInGrammar more
  pub bytes : rest ≡ packed more

pub some_left : (bytes : List ℕ) (messages : List Message) (m : Message) (rest : List ℕ) → All IsInGrammar messages → bytes ≡ packed messages → message_at bytes ≡ Some (m, rest)
    → (more : List Message) × IsBehind m rest messages more
some_left bytes [] m rest each same found = let none = ap message_at same ∙ no_message in absurd cc
some_left bytes (n ∷ more) m rest each same found =
    let both : ◌≡◌ {A = Option (Message × List ℕ)} (Some (n, packed more)) (Some (m, rest)) = sym (first_read n more (head_in n more each)) ∙ sym (ap message_at same) ∙ found in
    let pair = some_is (n, packed more) (m, rest) both in
    (more, record { parts = ap (λ (x : Message × List ℕ). x.0 ∷ more) pair; each = tail_in n more each; bytes = sym (ap (λ (x : Message × List ℕ). x.1) pair) })

-- ---- a buffer that is gone over

-- the messages before the rest
pub record Passed (buf rest : List ℕ) : Type 0 where
  pub before : List Message
  pub each : All IsInGrammar before
  pub bytes : buf ≡ linked before ++ rest
  pub follows : (before ≡ []) ⊎ (rest ≢ [])

linked_last : (before : List Message) (m : Message) → linked (before ++ m ∷ []) ≡ linked before ++ message_text (message_bytes m) m
linked_last before m = flat_map-append (λ n. message_text (message_bytes n) n) before (m ∷ []) ∙ ap (λ (l : List ℕ). linked before ++ l) (append-nil (message_text (message_bytes m) m))

pub passed_more : (buf rest after : List ℕ) (m : Message) → BeginsWith m after rest → after ≢ [] → Passed buf rest → Passed buf after
passed_more buf rest after m begins some passed = record {
  before = passed.before ++ m ∷ [];
  each = All-append IsInGrammar passed.before (m ∷ []) passed.each (All-cons IsInGrammar m [] begins.message (All-nil IsInGrammar));
  bytes = passed.bytes
      ∙ ap (λ (l : List ℕ). linked passed.before ++ l) (begins.text ∙ ap (λ (next : ℕ). message_text next m ++ after) (next_behind m after some))
      ∙ sym (append_assoc (linked passed.before) (message_text (message_bytes m) m) after)
      ∙ ap (λ (l : List ℕ). l ++ after) (sym (linked_last passed.before m));
  follows = inr some;
}

packed_last : (before : List Message) (m : Message) → packed (before ++ m ∷ []) ≡ linked before ++ message_text 0 m
packed_last [] m = refl
packed_last (n ∷ before) m =
    packed_first n before m ∙ ap (λ (l : List ℕ). message_text (message_bytes n) n ++ l) (packed_last before m) ∙ sym (append_assoc (message_text (message_bytes n) n) (linked before) (message_text 0 m))

last_some : (before : List Message) (m : Message) → before ++ m ∷ [] ≢ []
last_some [] m e = absurd cc
last_some (n ∷ before) m e = absurd cc

pub passed_all : (buf rest after : List ℕ) (m : Message) → BeginsWith m after rest → after ≡ [] → Passed buf rest → (messages : List Message) × IsPacked buf messages
passed_all buf rest after m begins none passed = (
  passed.before ++ m ∷ [],
  record {
    some = last_some passed.before m;
    each = All-append IsInGrammar passed.before (m ∷ []) passed.each (All-cons IsInGrammar m [] begins.message (All-nil IsInGrammar));
    bytes = passed.bytes
        ∙ ap (λ (l : List ℕ). linked passed.before ++ l) (begins.text ∙ ap (λ (l : List ℕ). message_text (next_of m l) m ++ l) none ∙ append-nil (message_text 0 m))
        ∙ sym (packed_last passed.before m);
  },
)

pub passed_bad : (buf rest : List ℕ) → message_at rest ≡ None → Passed buf rest → IsBadAt (length buf - length rest) buf
passed_bad buf rest none passed = record {
  before = passed.before;
  rest = rest;
  each = passed.each;
  bytes = passed.bytes;
  start = omega (arith, ap (λ (l : List ℕ). length l) passed.bytes, length-append (linked passed.before) rest, linked_length passed.before passed.each);
  follows = passed.follows;
  bad = λ begins. let found = message_again rest begins.0 begins.1 begins.2 in absurd cc;
}

-- the messages of a packed buffer are those that are read in it
pub as_read : (buf : List ℕ) (messages : List Message) → IsPacked buf messages → IsPacked buf (messages_in buf)
as_read buf messages is = subst (IsPacked buf) (sym (all_read buf messages is.each is.bytes)) is

-- ---- what a step of a walk shows

none_seen : (r : Option (View × Bor (List ℕ))) (found : Option (Message × List ℕ)) → r ≡ None → option_map seen_before r ≡ option_map shown_before found → found ≡ None
none_seen r None none same = refl
none_seen r (Some x) none same = let seen_none = ap (option_map seen_before) none in absurd cc

some_seen : (v : View) (rest : Bor (List ℕ)) (found : Option (Message × List ℕ)) → ◌≡◌ {A = Option (Shown × List ℕ)} (Some (seen v, rest.now)) (option_map shown_before found)
    → (m : Message) × (found ≡ Some (m, rest.now)) × (shown m ≡ seen v)
some_seen v rest None same = absurd cc
some_seen v rest (Some x) same =
    let pair = some_is (seen v, rest.now) (shown_before x) same in
    (x.0, (λ i. Some (x.0, sym (ap (λ (y : Shown × List ℕ). y.1) pair) i)), sym (ap (λ (y : Shown × List ℕ). y.0) pair))

-- the messages that are left in some bytes
pub record IsLeft (bytes : List ℕ) (messages : List Message) : Type 0 where
  pub read : messages_in bytes ≡ messages
  pub each : All IsInGrammar messages
  pub text : bytes ≡ packed messages

pub is_left : (bytes : List ℕ) (messages : List Message) → messages_in bytes ≡ messages → All IsInGrammar (messages_in bytes) → bytes ≡ packed (messages_in bytes) → IsLeft bytes messages
is_left bytes messages read each same = record { read = read; each = subst (All IsInGrammar) read each; text = same ∙ ap packed read }

pub walk_ends : (bytes : List ℕ) (messages : List Message) (r : Option (View × Bor (List ℕ))) → IsLeft bytes messages → r ≡ None → option_map seen_before r ≡ option_map shown_before (message_at bytes) → messages ≡ []
walk_ends bytes messages r left none same = none_left bytes messages left.each left.text (none_seen r (message_at bytes) none same)

-- the view is the first message's, and the others are left
pub record IsStep (v : View) (rest : List ℕ) (messages : List Message) : Type 0 where
  pub each : All IsInGrammar (messages_in rest)
  pub bytes : rest ≡ packed (messages_in rest)
  pub steps : map shown messages ≡ seen v ∷ map shown (messages_in rest)
  pub fewer : length (map shown (messages_in rest)) < length (map shown messages)

pub walk_steps : (bytes : List ℕ) (messages : List Message) (v : View) (rest : Bor (List ℕ)) → IsLeft bytes messages
    → ◌≡◌ {A = Option (Shown × List ℕ)} (Some (seen v, rest.now)) (option_map shown_before (message_at bytes)) → IsStep v rest.now messages
walk_steps bytes messages v rest left same =
    let found = some_seen v rest (message_at bytes) same in
    let behind = some_left bytes messages found.0 rest.now left.each left.text found.1 in
    let read : messages_in rest.now ≡ behind.0 = all_read rest.now behind.0 behind.1.each behind.1.bytes in
    let steps : map shown messages ≡ seen v ∷ map shown (messages_in rest.now) = ap (map shown) behind.1.parts ∙ (λ i. found.2 i ∷ map shown (sym read i)) in
    record {
      each = subst (All IsInGrammar) (sym read) behind.1.each;
      bytes = behind.1.bytes ∙ ap packed (sym read);
      steps = steps;
      fewer = omega (arith, ap (λ (l : List Shown). length l) steps);
    }

-- ---- what a step of the search for a bad message shows

pub rest_bytes : (front rest : List ℕ) → IsBytes (front ++ rest) → IsBytes rest
rest_bytes front rest are = subst IsBytes (drop_at front rest (length front) refl) (IsBytes-drop (length front) (front ++ rest) are)

passed_bytes : (buf rest : List ℕ) → IsBytes buf → Passed buf rest → IsBytes rest
passed_bytes buf rest are passed = rest_bytes (linked passed.before) rest (subst IsBytes passed.bytes are)

-- a message in the grammar, with what is behind it
begins : (buf rest : List ℕ) (v : View) (after : Bor (List ℕ)) → IsBytes buf → Passed buf rest
    → ◌≡◌ {A = Option (Shown × List ℕ)} (Some (seen v, after.now)) (option_map shown_before (message_at rest)) → (m : Message) × BeginsWith m after.now rest
begins buf rest v after are passed same =
    let found = some_seen v after (message_at rest) same in
    (found.0, message_found rest (found.0, after.now) (passed_bytes buf rest are passed) found.1)

pub goes_on : (buf rest : List ℕ) (v : View) (after : Bor (List ℕ)) → IsBytes buf → Passed buf rest → after.now ≢ []
    → ◌≡◌ {A = Option (Shown × List ℕ)} (Some (seen v, after.now)) (option_map shown_before (message_at rest)) → Passed buf after.now
goes_on buf rest v after are passed some same =
    let b = begins buf rest v after are passed same in
    passed_more buf rest after.now b.0 b.1 some passed

pub gets_smaller : (buf rest : List ℕ) (v : View) (after : Bor (List ℕ)) → IsBytes buf → Passed buf rest
    → ◌≡◌ {A = Option (Shown × List ℕ)} (Some (seen v, after.now)) (option_map shown_before (message_at rest)) → length after.now < length rest
gets_smaller buf rest v after are passed same =
    let b = begins buf rest v after are passed same in
    omega (arith, ap (λ (l : List ℕ). length l) b.1.text, length-append (message_text (next_of b.0 after.now) b.0) after.now, text_length (next_of b.0 after.now) b.0 b.1.message.message)

pub is_packed : (buf rest : List ℕ) (v : View) (after : Bor (List ℕ)) → IsBytes buf → Passed buf rest → after.now ≡ []
    → ◌≡◌ {A = Option (Shown × List ℕ)} (Some (seen v, after.now)) (option_map shown_before (message_at rest)) → IsPacked buf (messages_in buf)
is_packed buf rest v after are passed none same =
    let b = begins buf rest v after are passed same in
    let all = passed_all buf rest after.now b.0 b.1 none passed in
    as_read buf all.0 all.1

pub is_bad : (buf rest : List ℕ) → Passed buf rest → ◌≡◌ {A = Option (Shown × List ℕ)} None (option_map shown_before (message_at rest)) → IsBadAt (length buf - length rest) buf
is_bad buf rest passed none = passed_bad buf rest (none_seen None (message_at rest) refl none) passed

pub is_nothing : (bytes : List ℕ) → true ≡ eqb (length bytes) 0 → bytes ≡ []
is_nothing [] e = refl
is_nothing (byte ∷ bytes) e = let none : length (byte ∷ bytes) ≡ 0 = eqb-true _ _ (sym e) in absurd (omega arith)

pub is_something : (bytes : List ℕ) → false ≡ eqb (length bytes) 0 → bytes ≢ []
is_something bytes e none = let same : eqb (length bytes) 0 ≡ true = eq-eqb _ _ (ap (λ (l : List ℕ). length l) none) in absurd cc
