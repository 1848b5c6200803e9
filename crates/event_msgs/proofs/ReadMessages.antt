-- What is read as a message is spelled so, and what is spelled so is read.
use Rattle.std.proofs.Common.{◌≡◌, ◌≢◌, ℕ, zero, suc, ◌+◌, ◌-◌, ◌<◌, ◌≤◌, ◌^◌, Bool, true, false, not, cond, eqb, leb, ltb, eq-eqb, ◌&&◌, List, []}
use Rattle.std.proofs.Common.{◌∷◌, ◌++◌, length, take, drop, replicate, Option, Some, None, refl, sym, ap, subst, ◌∙◌, append_assoc, arith}
use Rattle.std.specs.Option.{option_map, option_and_then, IfSome, IsSome}
use Rattle.std.proofs.lemmas.Bool.{eqb-true, ltb-false, le-ltb, le-leb, leb-true}
use Rattle.std.proofs.lemmas.Bool.Decides.{nat_tests}
use Rattle.std.proofs.lemmas.List.{take_at, drop_at, length-append, length-take, length-drop, length-replicate, drop-take, drop_all, drop-drop}
use Rattle.std.proofs.lemmas.Slice.Eq.{bytes_eq-Decides}
use Rattle.byteorder.specs.Endian.{big_bytes, big_number}
use Rattle.byteorder.specs.Numbers.{big_number-reads_back, big_from-take}
use Rattle.hsm_types.specs.Handles.{handle_bytes, IsHandle}
use Rattle.hsm_types.specs.Limits.{data_bytes}
use Rattle.hsm_types.specs.Messages.{IsOf, IsMessage, handle_or_none, kind_number, payload, payload_of, payload_size, size_of, rounded_up}
use Rattle.hsm_types.specs.Messages.{message_bytes, header, padding, message_text}
use Rattle.hsm_types.specs.declared.dm.Kind.{Kind}
use Rattle.hsm_types.specs.declared.dm.Kind.TheVariants.{Read, Write, Truncate, NoSpace, User}
use Rattle.hsm_types.specs.declared.keys.Handle.{Handle}
use Rattle.hsm_types.specs.declared.keys.Token.{Token}
use Rattle.hsm_types.specs.declared.messages.Message.{Message}
use Rattle.event_msgs.specs.Buffers.{IsInGrammar, next_of, BeginsWith}
use Rattle.event_msgs.specs.Reading.{kind_of, header_at, next_before, is_zeros, holds_message, frame_at, handle_in, is_payload, own_message}
use Rattle.event_msgs.specs.Reading.{access_message, message_of, message_at}
use Rattle.event_msgs.specs.Views.{Shown, shown}
use Rattle.event_msgs.specs.declared.reading.Header.{Header}
use Rattle.event_msgs.proofs.ByteFields.{IsBytes, IsBytes-drop, IsBytes-take, number_at4, number_at8, below8, field, assoc3, header_fields, access_fields}

-- ---- steps that don't fail

pub some_is : {A : Type 0} (x y : A) → ◌≡◌ {A = Option A} (Some x) (Some y) → x ≡ y
some_is x y e = cc

map_some : {A B : Type 0} (f : A → B) (o : Option A) (y : B) → option_map f o ≡ Some y → (x : A) × (o ≡ Some x) × (f x ≡ y)
map_some f (Some x) y e = (x, refl, some_is (f x) y e)
map_some f None y e = absurd cc

then_some : {A B : Type 0} (f : A → Option B) (o : Option A) (y : B) → option_and_then f o ≡ Some y → (x : A) × (o ≡ Some x) × (f x ≡ Some y)
then_some f (Some x) y e = (x, refl, e)
then_some f None y e = absurd cc

guard_some : {A : Type 0} (b : Bool) (x : Option A) (y : A) → cond b None x ≡ Some y → (b ≡ false) × (x ≡ Some y)
guard_some true x y e = absurd cc
guard_some false x y e = (refl, e)

passed_some : {A : Type 0} (b : Bool) (x : Option A) (y : A) → cond b x None ≡ Some y → (b ≡ true) × (x ≡ Some y)
passed_some true x y e = (refl, e)
passed_some false x y e = absurd cc

both_true : (a b : Bool) → (a && b) ≡ true → (a ≡ true) × (b ≡ true)
both_true true true e = (refl, refl)
both_true true false e = absurd cc
both_true false b e = absurd cc

-- ---- headers

kind_spelled : (n : ℕ) (kind : Kind) → kind_of n ≡ Some kind → n ≡ kind_number kind
kind_spelled n kind e = grind (arith, nat_tests)

kind_read : (kind : Kind) → kind_of (kind_number kind) ≡ Some kind
kind_read Read = refl
kind_read Write = refl
kind_read Truncate = refl
kind_read NoSpace = refl
kind_read User = refl

kind_small : (kind : Kind) → kind_number kind < 256 ^ 4
kind_small Read = omega arith
kind_small Write = omega arith
kind_small Truncate = omega arith
kind_small NoSpace = omega arith
kind_small User = omega arith

header_text : Header → List ℕ
header_text h = big_bytes 4 h.next ++ big_bytes 4 (kind_number h.kind) ++ big_bytes 8 h.token.0 ++ big_bytes 4 h.size ++ replicate 4 0

record HasHeader (h : Header) (bytes : List ℕ) : Type 0 where
  long : 24 ≤ length bytes
  text : bytes ≡ header_text h ++ drop 24 bytes
  token : h.token.0 < 2 ^ 64

header_found : (bytes : List ℕ) (h : Header) → IsBytes bytes → header_at bytes ≡ Some h → HasHeader h bytes
unfolding header_at header_text
header_found bytes h are e =
    let whole : Kind → Header = λ kind. record { next = big_number 4 bytes; kind = kind; token = record { 0 = big_number 8 (drop 8 bytes) }; size = big_number 4 (drop 16 bytes) } in
    let numbered = option_map whole (kind_of (big_number 4 (drop 4 bytes))) in
    let a = guard_some (ltb (length bytes) 24) (cond (eqb (big_number 4 (drop 20 bytes)) 0) numbered None) h e in
    let long : 24 ≤ length bytes = ltb-false _ _ a.0 in
    let b = passed_some (eqb (big_number 4 (drop 20 bytes)) 0) numbered h a.1 in
    let c = map_some whole (kind_of (big_number 4 (drop 4 bytes))) h b.1 in
    let kind = kind_spelled (big_number 4 (drop 4 bytes)) c.0 c.1 in
    let zeros : big_number 4 (drop 20 bytes) ≡ 0 = eqb-true _ _ b.0 in
    let f1 : big_bytes 4 (big_number 4 bytes) ≡ take 4 bytes = number_at4 0 bytes are (omega arith) in
    let f2 : big_bytes 4 (kind_number c.0) ≡ take 4 (drop 4 bytes) = ap (big_bytes 4) (sym kind) ∙ number_at4 4 bytes are (omega arith) in
    let f3 : big_bytes 8 (big_number 8 (drop 8 bytes)) ≡ take 8 (drop 8 bytes) = number_at8 8 bytes are (omega arith) in
    let f4 : big_bytes 4 (big_number 4 (drop 16 bytes)) ≡ take 4 (drop 16 bytes) = number_at4 16 bytes are (omega arith) in
    let f5 : replicate 4 0 ≡ take 4 (drop 20 bytes) = ap (big_bytes 4) (sym zeros) ∙ number_at4 20 bytes are (omega arith) in
    subst (λ (g : Header). HasHeader g bytes) c.2 (record {
      long = long;
      text = sym (header_fields bytes) ∙ (λ i. (((((sym f1 i) ++ sym f2 i) ++ sym f3 i) ++ sym f4 i) ++ sym f5 i) ++ drop 24 bytes);
      token = below8 8 bytes are;
    })

header_again : (h : Header) (rest : List ℕ) → h.next < 2 ^ 32 → h.token.0 < 2 ^ 64 → h.size < 2 ^ 32 → header_at (header_text h ++ rest) ≡ Some h
unfolding header_at header_text
header_again h rest next token size =
    let r4 : List ℕ = replicate 4 0 ++ rest in
    let r3 : List ℕ = big_bytes 4 h.size ++ r4 in
    let r2 : List ℕ = big_bytes 8 h.token.0 ++ r3 in
    let r1 : List ℕ = big_bytes 4 (kind_number h.kind) ++ r2 in
    let f1 : big_number 4 (header_text h ++ rest) ≡ h.next = big_number-reads_back 4 h.next r1 (omega arith) in
    let f2 : big_number 4 (drop 4 (header_text h ++ rest)) ≡ kind_number h.kind = big_number-reads_back 4 (kind_number h.kind) r2 (kind_small h.kind) in
    let f3 : big_number 8 (drop 8 (header_text h ++ rest)) ≡ h.token.0 = big_number-reads_back 8 h.token.0 r3 (omega arith) in
    let f4 : big_number 4 (drop 16 (header_text h ++ rest)) ≡ h.size = big_number-reads_back 4 h.size r4 (omega arith) in
    let long : ltb (length (header_text h ++ rest)) 24 ≡ false = le-ltb _ _ (omega arith) in
    rw (long, f1, f2, f3, f4, kind_read h.kind) refl

header_size : (h : Header) → length (header_text h) ≡ 24
unfolding header_text
header_size h = refl

-- ---- frames

record IsFrame (h : Header) (body rest bytes : List ℕ) : Type 0 where
  text : bytes ≡ ((header_text h ++ body) ++ replicate (rounded_up h.size - h.size) 0) ++ rest
  size : length body ≡ h.size
  next : h.next ≡ next_before (24 + rounded_up h.size) rest
  token : h.token.0 < 2 ^ 64
  inside : IsBytes body

zeros_are : (bytes : List ℕ) → is_zeros bytes ≡ true → bytes ≡ replicate (length bytes) 0
zeros_are bytes e = (bytes_eq-Decides bytes (replicate (length bytes) 0)).0 e

zeros_again : (n : ℕ) → is_zeros (replicate n 0) ≡ true
zeros_again n =
    let zeros : List ℕ = replicate n 0 in
    let size : length zeros ≡ n = length-replicate {A = ℕ} n 0 in
    (bytes_eq-Decides zeros (replicate (length zeros) 0)).1 (ap (λ (k : ℕ). replicate k 0) (sym size))

-- the bytes from one place up to another
between : (n m : ℕ) (bytes : List ℕ) → n ≤ m → drop n (take m bytes) ≡ take (m - n) (drop n bytes)
between n m bytes le = ap (λ (k : ℕ). drop n (take k bytes)) (omega arith) ∙ drop-take n (m - n) bytes

frame_text : (bytes : List ℕ) (h : Header) → bytes ≡ header_text h ++ drop 24 bytes → 24 + rounded_up h.size ≤ length bytes
    → drop (24 + h.size) (take (24 + rounded_up h.size) bytes) ≡ replicate (length (drop (24 + h.size) (take (24 + rounded_up h.size) bytes))) 0
    → bytes ≡ ((header_text h ++ take h.size (drop 24 bytes)) ++ replicate (rounded_up h.size - h.size) 0) ++ drop (24 + rounded_up h.size) bytes
frame_text bytes h head long zeros =
    let len = 24 + rounded_up h.size in
    let body = take h.size (drop 24 bytes) in
    let padding = drop (24 + h.size) (take len bytes) in
    let rest = drop len bytes in
    let size : length padding ≡ rounded_up h.size - h.size = omega (arith, length-drop (24 + h.size) (take len bytes), length-take len bytes) in
    let is_padding : padding ≡ replicate (rounded_up h.size - h.size) 0 = zeros ∙ ap (λ (k : ℕ). replicate k 0) size in
    let behind : padding ++ rest ≡ drop (24 + h.size) bytes =
    ap (λ (l : List ℕ). l ++ rest) (between (24 + h.size) len bytes (omega arith) ∙ ap (λ (k : ℕ). take k (drop (24 + h.size) bytes)) (omega arith))
    ∙ ap (λ (l : List ℕ). take (rounded_up h.size - h.size) (drop (24 + h.size) bytes) ++ l) (ap (λ (k : ℕ). drop k bytes) (omega arith))
    ∙ field (24 + h.size) (rounded_up h.size - h.size) bytes in
    sym (
    ap (λ (l : List ℕ). ((header_text h ++ body) ++ l) ++ rest) (sym is_padding)
    ∙ assoc3 (header_text h) body padding rest
    ∙ ap (λ (l : List ℕ). header_text h ++ (body ++ l)) behind
    ∙ ap (λ (l : List ℕ). header_text h ++ l) (field 24 h.size bytes)
    ∙ sym head)

frame_found : (bytes : List ℕ) (f : Header × List ℕ × List ℕ) → IsBytes bytes → frame_at bytes ≡ Some f → IsFrame f.0 f.1 f.2 bytes
unfolding frame_at holds_message
frame_found bytes f are e =
    let frame : Header → Header × List ℕ × List ℕ = λ h. (h, take h.size (drop 24 bytes), drop (24 + rounded_up h.size) bytes) in
    let a = then_some (λ h. cond (holds_message h bytes) (Some (frame h)) None) (header_at bytes) f e in
    let h = a.0 in
    let b = passed_some (holds_message h bytes) (Some (frame h)) f a.2 in
    let head = header_found bytes h are a.1 in
    let len = 24 + rounded_up h.size in
    let c = both_true (leb len (length bytes)) (eqb h.next (next_before len (drop len bytes)) && is_zeros (drop (24 + h.size) (take len bytes))) b.0 in
    let d = both_true (eqb h.next (next_before len (drop len bytes))) (is_zeros (drop (24 + h.size) (take len bytes))) c.1 in
    let long : len ≤ length bytes = leb-true _ _ c.0 in
    subst (λ (g : Header × List ℕ × List ℕ). IsFrame g.0 g.1 g.2 bytes) (some_is (frame h) f b.1) (record {
      text = frame_text bytes h head.text long (zeros_are _ d.1);
      size = omega (arith, length-take h.size (drop 24 bytes), length-drop 24 bytes);
      next = eqb-true _ _ d.0;
      token = head.token;
      inside = IsBytes-take h.size (drop 24 bytes) (IsBytes-drop 24 bytes are);
    })

frame_again : (h : Header) (body rest : List ℕ) → h.next ≡ next_before (24 + rounded_up h.size) rest → h.next < 2 ^ 32 → h.token.0 < 2 ^ 64 → h.size < 2 ^ 32 → length body ≡ h.size
    → frame_at (((header_text h ++ body) ++ replicate (rounded_up h.size - h.size) 0) ++ rest) ≡ Some (h, body, rest)
unfolding frame_at holds_message
frame_again h body rest next small token size sized =
    let zeros : List ℕ = replicate (rounded_up h.size - h.size) 0 in
    let front : List ℕ = header_text h ++ body in
    let whole : List ℕ = front ++ zeros in
    let len : ℕ = 24 + rounded_up h.size in
    let parts : (whole ++ rest) ≡ header_text h ++ (body ++ (zeros ++ rest)) = assoc3 (header_text h) body zeros rest in
    let front_size : length front ≡ 24 + h.size = omega (arith, length-append (header_text h) body, header_size h) in
    let whole_size : length whole ≡ len = omega (arith, length-append front zeros, length-replicate {A = ℕ} (rounded_up h.size - h.size) 0) in
    let found : header_at (whole ++ rest) ≡ Some h = ap header_at parts ∙ header_again h (body ++ (zeros ++ rest)) small token size in
    let long : leb len (length (whole ++ rest)) ≡ true = le-leb _ _ (omega (arith, length-append whole rest)) in
    let behind : drop len (whole ++ rest) ≡ rest = drop_at whole rest len whole_size in
    let said : eqb h.next (next_before len rest) ≡ true = eq-eqb _ _ next in
    let padded : drop (24 + h.size) (take len (whole ++ rest)) ≡ zeros = ap (drop (24 + h.size)) (take_at whole rest len whole_size) ∙ drop_at front zeros (24 + h.size) front_size in
    let inside : take h.size (drop 24 (whole ++ rest)) ≡ body =
    ap (λ (l : List ℕ). take h.size (drop 24 l)) parts ∙ ap (take h.size) (drop_at (header_text h) (body ++ (zeros ++ rest)) 24 (header_size h)) ∙ take_at body (zeros ++ rest) h.size sized in
    rw (found, long, behind, said, padded, zeros_again (rounded_up h.size - h.size), inside) refl

-- ---- payloads

-- the message of that kind and that token with that payload
record IsOfPayload (kind : Kind) (token : Token) (bytes : List ℕ) (m : Message) : Type 0 where
  message : IsInGrammar m
  kind_is : m.kind ≡ kind
  token_is : m.token ≡ token
  size : payload_size m ≡ length bytes
  payload_is : payload m ≡ bytes

access_bytes : (bytes : List ℕ) → IsBytes bytes → length bytes ≡ 40 → handle_bytes (handle_in bytes) ++ big_bytes 8 (big_number 8 (drop 24 bytes)) ++ big_bytes 8 (big_number 8 (drop 32 bytes)) ≡ bytes
unfolding handle_bytes
access_bytes bytes are long =
    let f1 : big_bytes 8 (big_number 8 bytes) ≡ take 8 bytes = number_at8 0 bytes are (omega arith) in
    let f2 = number_at8 8 bytes are (omega arith) in
    let f3 = number_at8 16 bytes are (omega arith) in
    let f4 = number_at8 24 bytes are (omega arith) in
    let f5 = number_at8 32 bytes are (omega arith) in
    (λ i. (((f1 i ++ f2 i) ++ f3 i) ++ f4 i) ++ f5 i) ∙ access_fields bytes long

handle_small : (bytes : List ℕ) → IsBytes bytes → IsHandle (handle_in bytes)
handle_small bytes are = record { fsid = below8 0 bytes are; ino = below8 8 bytes are; igen = below8 16 bytes are }

access_in_grammar : (kind : Kind) (token : Token) (bytes : List ℕ) → IsBytes bytes → token.0 < 2 ^ 64 → IsOf kind (access_message kind token bytes) → IsInGrammar (access_message kind token bytes)
access_in_grammar kind token bytes are small is =
    record { message = is; token = small; handle = handle_small bytes are; offset = below8 24 bytes are; length = below8 32 bytes are }

not_zero : (n : ℕ) → not (eqb n 0) ≡ true → n ≢ 0
not_zero n e none = let same : eqb n 0 ≡ true = eq-eqb n 0 none in absurd cc

access_tests : (bytes : List ℕ) (token : Token) → (eqb (length bytes) 40 && not (eqb token.0 0)) ≡ true → (length bytes ≡ 40) × (token.0 ≢ 0)
access_tests bytes token e = let a = both_true (eqb (length bytes) 40) (not (eqb token.0 0)) e in (eqb-true _ _ a.0, not_zero token.0 a.1)

access_found : (kind : Kind) (token : Token) (bytes : List ℕ) (m : Message) → IsBytes bytes → token.0 < 2 ^ 64 → length bytes ≡ 40 → IsOf kind (access_message kind token bytes)
    → size_of kind (access_message kind token bytes) ≡ 40 → payload_of kind (access_message kind token bytes) ≡ bytes → access_message kind token bytes ≡ m → IsOfPayload kind token bytes m
access_found kind token bytes m are small long is size spelled same =
    subst (IsOfPayload kind token bytes) same (record { message = access_in_grammar kind token bytes are small is; kind_is = refl; token_is = refl; size = size ∙ sym long; payload_is = spelled })

payload_found : (kind : Kind) (token : Token) (bytes : List ℕ) (m : Message) → IsBytes bytes → token.0 < 2 ^ 64 → message_of kind token bytes ≡ Some m → IsOfPayload kind token bytes m
unfolding message_of
payload_found User token bytes m are small e =
    let a = passed_some (leb (length bytes) data_bytes) (Some (own_message token bytes)) m e in
    subst (IsOfPayload User token bytes) (some_is (own_message token bytes) m a.1) (record {
      message = record { message = (refl, refl, refl, leb-true _ _ a.0); token = small; handle = tt; offset = omega arith; length = omega arith };
      kind_is = refl;
      token_is = refl;
      size = refl;
      payload_is = refl;
    })
payload_found Truncate token bytes m are small e =
    let n = big_number 8 (drop 32 bytes) in
    let a = passed_some (eqb (length bytes) 40 && (not (eqb token.0 0) && eqb n 0)) (Some (access_message Truncate token bytes)) m e in
    let b = both_true (eqb (length bytes) 40) (not (eqb token.0 0) && eqb n 0) a.0 in
    let c = both_true (not (eqb token.0 0)) (eqb n 0) b.1 in
    let long : length bytes ≡ 40 = eqb-true _ _ b.0 in
    access_found Truncate token bytes m are small long (not_zero token.0 c.0, refl, eqb-true _ _ c.1, refl) refl (access_bytes bytes are long) (some_is (access_message Truncate token bytes) m a.1)
payload_found Read token bytes m are small e =
    let a = passed_some (eqb (length bytes) 40 && not (eqb token.0 0)) (Some (access_message Read token bytes)) m e in
    let t = access_tests bytes token a.0 in
    access_found Read token bytes m are small t.0 (t.1, refl, refl) refl (access_bytes bytes are t.0) (some_is (access_message Read token bytes) m a.1)
payload_found Write token bytes m are small e =
    let a = passed_some (eqb (length bytes) 40 && not (eqb token.0 0)) (Some (access_message Write token bytes)) m e in
    let t = access_tests bytes token a.0 in
    access_found Write token bytes m are small t.0 (t.1, refl, refl) refl (access_bytes bytes are t.0) (some_is (access_message Write token bytes) m a.1)
payload_found NoSpace token bytes m are small e =
    let a = passed_some (eqb (length bytes) 40 && not (eqb token.0 0)) (Some (access_message NoSpace token bytes)) m e in
    let t = access_tests bytes token a.0 in
    access_found NoSpace token bytes m are small t.0 (t.1, refl, refl) refl (access_bytes bytes are t.0) (some_is (access_message NoSpace token bytes) m a.1)

-- the bytes of an access
access_text : Handle → ℕ → ℕ → List ℕ
access_text h offset len = handle_bytes h ++ big_bytes 8 offset ++ big_bytes 8 len

record IsRead (h : Handle) (offset len : ℕ) (bytes : List ℕ) : Type 0 where
  size : length bytes ≡ 40
  handle : handle_in bytes ≡ h
  offset_is : big_number 8 (drop 24 bytes) ≡ offset
  len_is : big_number 8 (drop 32 bytes) ≡ len

access_read : (h : Handle) (offset len : ℕ) → IsHandle h → offset < 2 ^ 64 → len < 2 ^ 64 → IsRead h offset len (access_text h offset len)
unfolding access_text handle_bytes
access_read h offset len is small_offset small_len =
    let t : List ℕ = big_bytes 8 offset ++ big_bytes 8 len in
    let fsid : big_number 8 (access_text h offset len) ≡ h.fsid = big_number-reads_back 8 h.fsid (big_bytes 8 h.key.ino ++ (big_bytes 8 h.key.igen ++ t)) (omega (arith, is.fsid)) in
    let ino : big_number 8 (drop 8 (access_text h offset len)) ≡ h.key.ino = big_number-reads_back 8 h.key.ino (big_bytes 8 h.key.igen ++ t) (omega (arith, is.ino)) in
    let igen : big_number 8 (drop 16 (access_text h offset len)) ≡ h.key.igen = big_number-reads_back 8 h.key.igen t (omega (arith, is.igen)) in
    record {
      size = refl;
      handle = λ i. record { fsid = fsid i; key = record { ino = ino i; igen = igen i } };
      offset_is = big_number-reads_back 8 offset (big_bytes 8 len) (omega arith);
      len_is = big_number-reads_back 8 len [] (omega arith);
    }

nonzero : (n : ℕ) → n ≢ 0 → not (eqb n 0) ≡ true
nonzero n other = grind (arith, nat_tests)

access_again : (kind : Kind) (token : Token) (h : Handle) (offset len : ℕ) (body bytes : List ℕ) (test : Bool) → test ≡ true → body ≡ [] → IsRead h offset len bytes
    → cond test (Some (access_message kind token bytes)) None ≡ Some (record { kind = kind; token = token; handle = Some h; offset = offset; length = len; body = body })
access_again kind token h offset len body bytes test passed none r =
    let same : access_message kind token bytes ≡ record { kind = kind; token = token; handle = Some h; offset = offset; length = len; body = body } =
    λ i. record { kind = kind; token = token; handle = Some (r.handle i); offset = r.offset_is i; length = r.len_is i; body = sym none i } in
    rw passed (ap (λ (m : Message). Some m) same)

access_passes : (bytes : List ℕ) (token : Token) → length bytes ≡ 40 → token.0 ≢ 0 → (eqb (length bytes) 40 && not (eqb token.0 0)) ≡ true
access_passes bytes token size other = rw (eq-eqb _ _ size, nonzero token.0 other) refl

payload_again : (kind : Kind) (token : Token) (handle : Option Handle) (offset len : ℕ) (body : List ℕ) → IfSome handle IsHandle → offset < 2 ^ 64 → len < 2 ^ 64
    → IsOf kind (record { kind = kind; token = token; handle = handle; offset = offset; length = len; body = body })
    → message_of kind token (payload_of kind (record { kind = kind; token = token; handle = handle; offset = offset; length = len; body = body }))
    ≡ Some (record { kind = kind; token = token; handle = handle; offset = offset; length = len; body = body })
unfolding message_of access_text
payload_again User token handle offset len body small small_offset small_len is = rw (is.0, is.1, is.2, le-leb (length body) data_bytes is.3) refl
payload_again Truncate token None offset len body small small_offset small_len is = absurd cc
payload_again Truncate token (Some h) offset len body small small_offset small_len is =
    let r = access_read h offset len small small_offset small_len in
    let none : big_number 8 (drop 32 (access_text h offset len)) ≡ 0 = r.len_is ∙ is.2 in
    access_again Truncate token h offset len body (access_text h offset len)
    (eqb (length (access_text h offset len)) 40 && (not (eqb token.0 0) && eqb (big_number 8 (drop 32 (access_text h offset len))) 0))
    (rw (eq-eqb _ _ r.size, nonzero token.0 is.0, eq-eqb _ _ none) refl) is.3 r
payload_again Read token None offset len body small small_offset small_len is = absurd cc
payload_again Read token (Some h) offset len body small small_offset small_len is =
    let r = access_read h offset len small small_offset small_len in
    access_again Read token h offset len body (access_text h offset len) (eqb (length (access_text h offset len)) 40 && not (eqb token.0 0)) (access_passes (access_text h offset len) token r.size is.0) is.2 r
payload_again Write token None offset len body small small_offset small_len is = absurd cc
payload_again Write token (Some h) offset len body small small_offset small_len is =
    let r = access_read h offset len small small_offset small_len in
    access_again Write token h offset len body (access_text h offset len) (eqb (length (access_text h offset len)) 40 && not (eqb token.0 0)) (access_passes (access_text h offset len) token r.size is.0) is.2 r
payload_again NoSpace token None offset len body small small_offset small_len is = absurd cc
payload_again NoSpace token (Some h) offset len body small small_offset small_len is =
    let r = access_read h offset len small small_offset small_len in
    access_again NoSpace token h offset len body (access_text h offset len) (eqb (length (access_text h offset len)) 40 && not (eqb token.0 0)) (access_passes (access_text h offset len) token r.size is.0) is.2 r

-- ---- messages

access_length : (handle : Option Handle) (offset len : ℕ) → IsSome handle → length (handle_or_none handle ++ big_bytes 8 offset ++ big_bytes 8 len) ≡ 40
unfolding handle_bytes
access_length None offset len some = absurd cc
access_length (Some h) offset len some = refl

payload_length : (kind : Kind) (m : Message) → IsOf kind m → length (payload_of kind m) ≡ size_of kind m
payload_length User m is = refl
payload_length Truncate m is = access_length m.handle m.offset m.length is.1
payload_length Read m is = access_length m.handle m.offset m.length is.1
payload_length Write m is = access_length m.handle m.offset m.length is.1
payload_length NoSpace m is = access_length m.handle m.offset m.length is.1

size_small : (kind : Kind) (m : Message) → IsOf kind m → size_of kind m ≤ data_bytes
size_small User m is = is.3
size_small Truncate m is = omega arith
size_small Read m is = omega arith
size_small Write m is = omega arith
size_small NoSpace m is = omega arith

next_small : (m : Message) (rest : List ℕ) → IsMessage m → next_of m rest < 2 ^ 32
next_small m [] is = omega arith
next_small m (byte ∷ rest) is = omega (arith, size_small m.kind m is)

header_of : Message → List ℕ → Header
header_of m rest = record { next = next_of m rest; kind = m.kind; token = m.token; size = payload_size m }

header_is : (m : Message) (rest : List ℕ) → header (next_of m rest) m ≡ header_text (header_of m rest)
unfolding header header_text header_of
header_is m rest = refl

next_is : (m : Message) (rest : List ℕ) → next_before (message_bytes m) rest ≡ next_of m rest
next_is m [] = refl
next_is m (byte ∷ rest) = refl

found_text : (bytes : List ℕ) (h : Header) (body rest : List ℕ) (m : Message) → IsFrame h body rest bytes → IsOfPayload h.kind h.token body m → bytes ≡ message_text (next_of m rest) m ++ rest
unfolding message_text header_of
found_text bytes h body rest m frame read =
    let size : h.size ≡ payload_size m = sym frame.size ∙ sym read.size in
    let next : h.next ≡ next_of m rest = frame.next ∙ ap (λ (k : ℕ). next_before (24 + rounded_up k) rest) size ∙ next_is m rest in
    let front : header_text h ≡ header (next_of m rest) m =
    (λ i. header_text (record { next = next i; kind = sym read.kind_is i; token = sym read.token_is i; size = size i })) ∙ sym (header_is m rest) in
    frame.text ∙ (λ i. ((front i ++ sym read.payload_is i) ++ replicate (rounded_up (size i) - size i) 0) ++ rest)

-- what is read in front is in the grammar, and the rest is behind it
pub message_found : (bytes : List ℕ) (x : Message × List ℕ) → IsBytes bytes → message_at bytes ≡ Some x → BeginsWith x.0 x.1 bytes
unfolding message_at
message_found bytes x are e =
    let a = then_some (λ f. option_map (λ m. (m, f.2)) (message_of f.0.kind f.0.token f.1)) (frame_at bytes) x e in
    let b = map_some (λ m. (m, a.0.2)) (message_of a.0.0.kind a.0.0.token a.0.1) x a.2 in
    let frame = frame_found bytes a.0 are a.1 in
    let read = payload_found a.0.0.kind a.0.0.token a.0.1 b.0 frame.inside frame.token b.1 in
    subst (λ (y : Message × List ℕ). BeginsWith y.0 y.1 bytes) b.2 (record { message = read.message; text = found_text bytes a.0.0 a.0.1 a.0.2 b.0 frame read })

-- a message in the grammar is read again
pub message_again : (bytes : List ℕ) (m : Message) (rest : List ℕ) → BeginsWith m rest bytes → message_at bytes ≡ Some (m, rest)
unfolding message_at message_text header_of
message_again bytes m rest begins =
    let is = begins.message in
    let front : bytes ≡ ((header_text (header_of m rest) ++ payload m) ++ padding m) ++ rest = begins.text ∙ ap (λ (l : List ℕ). ((l ++ payload m) ++ padding m) ++ rest) (header_is m rest) in
    let framed : frame_at (((header_text (header_of m rest) ++ payload m) ++ padding m) ++ rest) ≡ Some (header_of m rest, payload m, rest) =
    frame_again (header_of m rest) (payload m) rest (sym (next_is m rest)) (next_small m rest is.message) is.token (omega (arith, size_small m.kind m is.message)) (payload_length m.kind m is.message) in
    let read = payload_again m.kind m.token m.handle m.offset m.length m.body is.handle is.offset is.length is.message in
    ap (option_and_then (λ (f : Header × List ℕ × List ℕ). option_map (λ (n : Message). (n, f.2)) (message_of f.0.kind f.0.token f.1))) (ap frame_at front ∙ framed)
    ∙ ap (option_map (λ (n : Message). (n, rest))) read

-- a message takes as many bytes as it says
pub text_length : (next : ℕ) (m : Message) → IsMessage m → length (message_text next m) ≡ message_bytes m
unfolding message_text header
text_length next m is =
    let zeros = length-replicate {A = ℕ} (rounded_up (payload_size m) - payload_size m) 0 in
    omega (arith, length-append (header next m ++ payload m) (padding m), length-append (header next m) (payload m), payload_length m.kind m is, zeros)

-- ---- what is shown of what is read

pub holds_within : (h : Header) (bytes : List ℕ) → holds_message h bytes ≡ true → 24 + rounded_up h.size ≤ length bytes
unfolding holds_message
holds_within h bytes e =
    let len = 24 + rounded_up h.size in
    leb-true _ _ (both_true (leb len (length bytes)) (eqb h.next (next_before len (drop len bytes)) && is_zeros (drop (24 + h.size) (take len bytes))) e).0

pub payload_refused : (kind : Kind) (token : Token) (bytes : List ℕ) → is_payload kind token bytes ≡ false → None ≡ option_map shown (message_of kind token bytes)
unfolding message_of
payload_refused kind token bytes failed = rw failed refl

pub own_shown : (kind : Kind) (token : Token) (bytes : List ℕ) (v : Shown) → kind ≡ User → is_payload kind token bytes ≡ true → v ≡ shown (own_message token bytes)
    → Some v ≡ option_map shown (message_of kind token bytes)
unfolding message_of
own_shown User token bytes v same passed is = rw passed (ap (λ (s : Shown). Some s) is)
own_shown Read token bytes v same passed is = absurd cc
own_shown Write token bytes v same passed is = absurd cc
own_shown Truncate token bytes v same passed is = absurd cc
own_shown NoSpace token bytes v same passed is = absurd cc

pub access_taken : (kind : Kind) (token : Token) (bytes : List ℕ) (v : Shown) → kind ≢ User → is_payload kind token bytes ≡ true → v ≡ shown (access_message kind token bytes)
    → Some v ≡ option_map shown (message_of kind token bytes)
unfolding message_of
access_taken User token bytes v other passed is = absurd (other refl)
access_taken Read token bytes v other passed is = rw passed (ap (λ (s : Shown). Some s) is)
access_taken Write token bytes v other passed is = rw passed (ap (λ (s : Shown). Some s) is)
access_taken Truncate token bytes v other passed is = rw passed (ap (λ (s : Shown). Some s) is)
access_taken NoSpace token bytes v other passed is = rw passed (ap (λ (s : Shown). Some s) is)

handle_part : (bytes : List ℕ) → IsBytes bytes → length bytes ≡ 40 → take 24 bytes ≡ handle_bytes (handle_in bytes)
unfolding handle_bytes
handle_part bytes are long =
    let numbers : List ℕ = big_bytes 8 (big_number 8 (drop 24 bytes)) ++ big_bytes 8 (big_number 8 (drop 32 bytes)) in
    let parts = append_assoc (handle_bytes (handle_in bytes)) (big_bytes 8 (big_number 8 (drop 24 bytes))) (big_bytes 8 (big_number 8 (drop 32 bytes))) in
    ap (take 24) (sym (access_bytes bytes are long) ∙ parts) ∙ take_at (handle_bytes (handle_in bytes)) numbers 24 refl

pub access_shown : (kind : Kind) (token : Token) (bytes handle body : List ℕ) (offset len : ℕ) → IsBytes bytes → length bytes ≡ 40
    → handle ≡ take 24 bytes → offset ≡ big_number 8 (drop 24 bytes) → len ≡ big_number 8 (drop 32 bytes) → body ≡ []
    → ◌≡◌ {A = Shown} (record { kind = kind; token = token; handle = handle; offset = offset; length = len; body = body }) (shown (access_message kind token bytes))
access_shown kind token bytes handle body offset len are long handle_is offset_is len_is body_is =
    let front = handle_is ∙ handle_part bytes are long in
    λ i. record { kind = kind; token = token; handle = front i; offset = offset_is i; length = len_is i; body = body_is i }

take_nil : (m : ℕ) → ◌≡◌ {A = List ℕ} (take m []) []
take_nil zero = refl
take_nil (suc m) = refl

-- the numbers of an access stand behind its handle
pub last_number : (bytes numbers : List ℕ) (m x : ℕ) → numbers ≡ drop 24 bytes → 8 ≤ m → x ≡ big_number 8 (take m (drop 8 numbers)) → x ≡ big_number 8 (drop 32 bytes)
last_number bytes numbers m x behind wide is =
    is ∙ big_from-take 0 8 m (drop 8 numbers) wide ∙ ap (λ (l : List ℕ). big_number 8 (drop 8 l)) behind ∙ ap (big_number 8) (drop-drop 8 24 bytes)

pub nothing_behind : (bytes numbers : List ℕ) (m : ℕ) → numbers ≡ drop 24 bytes → length bytes ≡ 40 → take m (drop 16 numbers) ≡ []
nothing_behind bytes numbers m behind long =
    let size : length numbers ≡ 16 = omega (arith, ap (λ (l : List ℕ). length l) behind, length-drop 24 bytes) in
    ap (take m) (drop_all 16 numbers (omega arith)) ∙ take_nil m
