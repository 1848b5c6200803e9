-- A buffer is that of one list of messages, or leaves the grammar at one place.
use Rattle.std.proofs.Common.{◌≡◌, ◌≢◌, ℕ, ◌+◌, List, [], ◌∷◌, ◌++◌, refl, sym, ap, subst, ◌∙◌, inl, inr, ◌⊎◌}
use Rattle.std.specs.List.{All, sum_by}
use Rattle.std.proofs.lemmas.List.Sums.{sum_by-cons}
use Rattle.hsm_types.specs.Messages.{message_bytes, packed}
use Rattle.hsm_types.specs.declared.messages.Message.{Message}
use Rattle.event_msgs.specs.Buffers.{IsInGrammar, IsPacked, BeginsWith, BeginsWell, linked, IsBadAt}
use Rattle.event_msgs.specs.Laws.{ReadsBack}
use Rattle.event_msgs.proofs.ReadMessages.{some_is, message_again}
use Rattle.event_msgs.proofs.ReadBuffers.{head_in, tail_in, behind_some, packed_begins, linked_begins, all_read}

pub one_reading : (buf : List ℕ) (a b : List Message) → IsPacked buf a → IsPacked buf b → a ≡ b
one_reading buf a b is_a is_b = sym (all_read buf a is_a.each is_a.bytes) ∙ all_read buf b is_b.each is_b.bytes

-- the message in front is one, and what is behind it
same_first : (bytes : List ℕ) (m n : Message) (rest more : List ℕ) → BeginsWith m rest bytes → BeginsWith n more bytes → (m ≡ n) × (rest ≡ more)
same_first bytes m n rest more first second =
    let pair = some_is (m, rest) (n, more) (sym (message_again bytes m rest first) ∙ message_again bytes n more second) in
    (ap (λ (x : Message × List ℕ). x.0) pair, ap (λ (x : Message × List ℕ). x.1) pair)

-- a rest that is bad, or has a message before it, is there
rest_some : (m : Message) (before : List Message) (rest : List ℕ) → ((m ∷ before) ≡ []) ⊎ (rest ≢ []) → rest ≢ []
rest_some m before rest (inl none) = absurd cc
rest_some m before rest (inr some) = some

good : (messages before : List Message) (rest : List ℕ) → All IsInGrammar messages → All IsInGrammar before → packed messages ≡ linked before ++ rest
    → messages ≢ [] → (before ≡ []) ⊎ (rest ≢ []) → (BeginsWell rest → ⊥) → ⊥
good [] before rest each_m each_b same some follows bad = some refl
good (m ∷ more) [] rest each_m each_b same some follows bad =
    bad (m, packed more, subst (BeginsWith m (packed more)) same (packed_begins m more (head_in m more each_m)))
good (m ∷ more) (n ∷ before) rest each_m each_b same some follows bad =
    let there = rest_some n before rest follows in
    let first = packed_begins m more (head_in m more each_m) in
    let second = linked_begins n before rest (head_in n before each_b) there in
    let both = same_first (packed (m ∷ more)) m n (packed more) (linked before ++ rest) first (subst (BeginsWith n (linked before ++ rest)) (sym same) second) in
    let left : more ≢ [] = λ none. behind_some (linked before) rest there (sym both.1 ∙ ap packed none) in
    good more before rest (tail_in m more each_m) (tail_in n before each_b) both.1 left (inr there) bad

pub packed_or_bad : (buf : List ℕ) (messages : List Message) (place : ℕ) → IsPacked buf messages → IsBadAt place buf → ⊥
packed_or_bad buf messages place is bad = good messages bad.before bad.rest is.each bad.each (sym is.bytes ∙ bad.bytes) is.some bad.follows bad.bad

same_start : (a b : List Message) (x y : List ℕ) → All IsInGrammar a → All IsInGrammar b → linked a ++ x ≡ linked b ++ y
    → (a ≡ []) ⊎ (x ≢ []) → (b ≡ []) ⊎ (y ≢ []) → (BeginsWell x → ⊥) → (BeginsWell y → ⊥) → sum_by message_bytes a ≡ sum_by message_bytes b
same_start [] [] x y each_a each_b same follows_a follows_b bad_a bad_b = refl
same_start [] (n ∷ b) x y each_a each_b same follows_a follows_b bad_a bad_b =
    absurd (bad_a (n, linked b ++ y, subst (BeginsWith n (linked b ++ y)) (sym same) (linked_begins n b y (head_in n b each_b) (rest_some n b y follows_b))))
same_start (m ∷ a) [] x y each_a each_b same follows_a follows_b bad_a bad_b =
    absurd (bad_b (m, linked a ++ x, subst (BeginsWith m (linked a ++ x)) same (linked_begins m a x (head_in m a each_a) (rest_some m a x follows_a))))
same_start (m ∷ a) (n ∷ b) x y each_a each_b same follows_a follows_b bad_a bad_b =
    let there_a = rest_some m a x follows_a in
    let there_b = rest_some n b y follows_b in
    let first = linked_begins m a x (head_in m a each_a) there_a in
    let second = subst (BeginsWith n (linked b ++ y)) (sym same) (linked_begins n b y (head_in n b each_b) there_b) in
    let both = same_first (linked (m ∷ a) ++ x) m n (linked a ++ x) (linked b ++ y) first second in
    let others = same_start a b x y (tail_in m a each_a) (tail_in n b each_b) both.1 (inr there_a) (inr there_b) bad_a bad_b in
    sum_by-cons message_bytes m a ∙ (λ i. message_bytes (both.0 i) + others i) ∙ sym (sum_by-cons message_bytes n b)

pub one_place : (buf : List ℕ) (a b : ℕ) → IsBadAt a buf → IsBadAt b buf → a ≡ b
one_place buf a b bad_a bad_b =
    sym bad_a.start
    ∙ same_start bad_a.before bad_b.before bad_a.rest bad_b.rest bad_a.each bad_b.each (sym bad_a.bytes ∙ bad_b.bytes) bad_a.follows bad_b.follows bad_a.bad bad_b.bad
    ∙ bad_b.start

pub reads_back : (messages : List Message) → messages ≢ [] → All IsInGrammar messages → ReadsBack messages
reads_back messages some each =
    let is : IsPacked (packed messages) messages = record { some = some; each = each; bytes = refl } in
    record {
      good = λ place bad. packed_or_bad (packed messages) messages place is bad;
      only = λ read is_read. one_reading (packed messages) read messages is_read is;
    }
