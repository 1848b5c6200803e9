-- Each token that is outstanding to a daemon's session is accounted for: its event is kept, its message is still to be found again, or it was taken.
use Rattle.std.proofs.Common.{◌≡◌, ℕ, Bool, true, false, cond, not, List, [], ◌∷◌, ◌++◌, drop, map, filter, Option, None, Some, inl, inr, refl, sym}
use Rattle.std.proofs.Common.{ap, subst, ◌∙◌}
use Rattle.std.proofs.lemmas.Bool.{false≢true, eqb-true, eqb-false, ne_eqb}
use Rattle.std.proofs.lemmas.List.Elements.{All-nil, All-cons, All-head, All-tail, All-weaker, All-contains, Contains-append_left, Contains-append_right}
use Rattle.std.proofs.lemmas.Map.Made.{Contains-tail}
use Rattle.std.specs.Prelude.{◌⊎◌, ◌==◌, Contains, IsSome}
use Rattle.std.specs.List.{All, filter_map, cons_option}
use Rattle.std.specs.Option.{option_map}
use Rattle.hsm_types.specs.Daemons.{kinds_of}
use Rattle.hsm_types.specs.Messages.{IsOf, takes}
use Rattle.hsm_types.specs.Sessions.{SessionTable, outstanding_of, tokens_of}
use Rattle.hsm_types.specs.declared.daemons.Daemon.{Daemon}
use Rattle.hsm_types.specs.declared.dm.DmCall.TheVariants.{FindEventMsg}
use Rattle.hsm_types.specs.declared.dm.DmCall.{DmCall}
use Rattle.hsm_types.specs.declared.dm.DmReply.{DmReply}
use Rattle.hsm_types.specs.declared.dm.DmReply.TheVariants.{Packed}
use Rattle.hsm_types.specs.declared.dm.Kind.{Kind}
use Rattle.hsm_types.specs.declared.dm.Kind.TheVariants.{Truncate, User}
use Rattle.hsm_types.specs.declared.keys.Handle.{Handle}
use Rattle.hsm_types.specs.declared.keys.Sid.{Sid}
use Rattle.hsm_types.specs.declared.keys.Token.{Token}
use Rattle.hsm_types.specs.declared.messages.Message.{Message}
use Rattle.event_msgs.specs.Buffers.{IsInGrammar, IsPacked}
use Rattle.event_msgs.proofs.ToldMessages.{packed_told}
use Rattle.daemon_session.specs.declared.events.Kept.{Kept}
use Rattle.daemon_session.specs.Seats.{Seat, IsSeated, has_kept_token, forgot, found_one}
use Rattle.daemon_session.specs.Tellings.{event_on, own_event, events_in}
use Rattle.marked_history.specs.Tokens.{KeepsEvent}
use Rattle.marked_history.proofs.Lists.{none_in, first_in, later_in}
use Rattle.marked_history.proofs.Outstanding.{zip_each}

-- ---- elements of lists

pub mapped_in : {X Y : Type 0} (f : X → Y) (l : List X) → All (λ x. Contains (map f l) (f x)) l
mapped_in f [] = All-nil (λ x. Contains (map f []) (f x))
mapped_in f (x ∷ l) = All-cons (λ y. Contains (map f (x ∷ l)) (f y)) x l (first_in (f x) (map f l))
    (All-weaker (λ y. Contains (map f l) (f y)) (λ y. Contains (map f (x ∷ l)) (f y)) (λ y is. later_in (f x) (map f l) (f y) is) l (mapped_in f l))

module _ {X : Type 0} (p : X → Bool) where
  more_in : (b : Bool) (x : X) (l : List X) (y : X) → Contains l y → Contains (cond b (x ∷ l) l) y
  more_in true x l y is = later_in x l y is
  more_in false x l y is = is

  filtered_in : (l : List X) → All (λ x. p x ≡ true → Contains (filter p l) x) l
  filtered_in [] = All-nil (λ x. p x ≡ true → Contains (filter p []) x)
  filtered_in (x ∷ l) = All-cons (λ y. p y ≡ true → Contains (filter p (x ∷ l)) y) x l (λ is. rw is (first_in x (filter p l)))
      (All-weaker (λ y. p y ≡ true → Contains (filter p l) y) (λ y. p y ≡ true → Contains (filter p (x ∷ l)) y) (λ y later is. more_in (p x) x (filter p l) y (later is)) l (filtered_in l))

-- ---- events that are kept

keeps_first : (kept more : List Kept) (t : Token) → KeepsEvent kept t → KeepsEvent (kept ++ more) t
keeps_first kept more t is = (is.0, Contains-append_left kept more is.0 is.1, is.2)

pub keeps_last : (kept more : List Kept) (t : Token) → KeepsEvent more t → KeepsEvent (kept ++ more) t
keeps_last kept more t is = (is.0, Contains-append_right kept more is.0 is.1, is.2)

keeps_changed : (f : Kept → Kept) → ((k : Kept) → (f k).event ≡ k.event) → (kept : List Kept) (t : Token) → KeepsEvent kept t → KeepsEvent (map f kept) t
keeps_changed f same kept t is = (f is.0, All-contains (λ k. Contains (map f kept) (f k)) kept is.0 (mapped_in f kept) is.1, ap (λ e. e.token) (same is.0) ∙ is.2)

keeps_others : (u : Token) (kept : List Kept) (t : Token) → (t.0 ≡ u.0 → ⊥) → KeepsEvent kept t → KeepsEvent (forgot u kept) t
keeps_others u kept t apart is =
    let other : has_kept_token u is.0 ≡ false = ne_eqb is.0.event.token.0 u.0 (λ same. apart (ap (λ (x : Token). x.0) (sym is.2) ∙ same)) in
    let stays : not (has_kept_token u is.0) ≡ true = ap not other in
    (is.0, All-contains (λ k. not (has_kept_token u k) ≡ true → Contains (forgot u kept) k) kept is.0 (filtered_in (λ k. not (has_kept_token u k)) kept) is.1 stays, is.2)

there : (found : Option Handle) → IsSome found → (h : Handle) × (found ≡ Some h)
there None none = absurd (false≢true none)
there (Some h) some = (h, refl)

-- a message of a daemon's kinds has a handle
has_handle : (d : Daemon) (k : Kind) (m : Message) → IsOf k m → takes (kinds_of d) k ≡ true → (h : Handle) × (m.handle ≡ Some h)
has_handle d User m is own = absurd (false≢true own)
has_handle d Truncate m is own = there m.handle is.1
has_handle d k m is own = there m.handle is.1

event_with : (d : Daemon) (m : Message) (h : Handle) → m.handle ≡ Some h → takes (kinds_of d) m.kind ≡ true → own_event d m ≡ Some (record { event = event_on m h; marked = false })
event_with d m h has own = rw (own, has) refl

-- so it tells an event
tells_one : (d : Daemon) (m : Message) → IsInGrammar m → takes (kinds_of d) m.kind ≡ true → (k : Kept) × (own_event d m ≡ Some k) × (k.event.token ≡ m.token)
tells_one d m is own =
    let h = has_handle d m.kind m is.message own in
    (record { event = event_on m h.0; marked = false }, event_with d m h.0 h.1 own, refl)

kept_later : (o : Option Kept) (l : List Kept) (t : Token) → KeepsEvent l t → KeepsEvent (cons_option o l) t
kept_later None l t is = is
kept_later (Some k) l t is = (is.0, later_in k l is.0 is.1, is.2)

kept_now : (o : Option Kept) (l : List Kept) (t : Token) (k : Kept) → o ≡ Some k → k.event.token ≡ t → KeepsEvent (cons_option o l) t
kept_now o l t k is same = subst (λ (x : Option Kept). KeepsEvent (cons_option x l) t) (sym is) (k, first_in k l, same)

-- the event of each is among them
tell_all : (d : Daemon) (messages : List Message) → All IsInGrammar messages → All (λ m. takes (kinds_of d) m.kind ≡ true → KeepsEvent (filter_map (own_event d) messages) m.token) messages
tell_all d [] each = All-nil (λ m. takes (kinds_of d) m.kind ≡ true → KeepsEvent (filter_map (own_event d) []) m.token)
tell_all d (m ∷ more) each =
    All-cons (λ x. takes (kinds_of d) x.kind ≡ true → KeepsEvent (filter_map (own_event d) (m ∷ more)) x.token) m more
    (λ own. let one = tells_one d m (All-head IsInGrammar m more each) own in kept_now (own_event d m) (filter_map (own_event d) more) m.token one.0 one.1 one.2)
    (All-weaker (λ x. takes (kinds_of d) x.kind ≡ true → KeepsEvent (filter_map (own_event d) more) x.token) (λ x. takes (kinds_of d) x.kind ≡ true → KeepsEvent (filter_map (own_event d) (m ∷ more)) x.token)
    (λ x later own. kept_later (own_event d m) (filter_map (own_event d) more) x.token (later own)) more (tell_all d more (All-tail IsInGrammar m more each)))

-- a buffer of messages tells the events of all of them
pub packed_tell : (d : Daemon) (bytes : List ℕ) (messages : List Message) → IsPacked bytes messages → All (λ m. takes (kinds_of d) m.kind ≡ true → KeepsEvent (events_in d bytes) m.token) messages
packed_tell d bytes messages packed =
    subst (λ (l : List Message). All (λ m. takes (kinds_of d) m.kind ≡ true → KeepsEvent (filter_map (own_event d) l) m.token) messages) (packed_told bytes messages packed) (tell_all d messages packed.each)

-- ---- accounts

-- the answer gives the message that was asked for by this token
abbrev pub Finds : DmCall → DmReply → Token → Type 0
Finds (FindEventMsg t room) (Packed bytes tokens) u = u.0 ≡ t.0
Finds c a u = ⊥

-- The token's event is kept, or its message is still to be found; or it was taken, in a sense that is left open here.
abbrev pub IsAccounted : (Token → Type 0) → List Kept → List Token → Token → Type 0
IsAccounted Taken kept unfound t = KeepsEvent kept t ⊎ (Contains unfound t ⊎ Taken t)

abbrev pub Accounted : Daemon → (Token → Type 0) → List Kept → List Token → Message → Type 0
Accounted d Taken kept unfound m = takes (kinds_of d) m.kind ≡ true → IsAccounted Taken kept unfound m.token

-- Each of its kinds that is outstanding to its session, where the daemon knows which messages it has still to find.
abbrev pub AllAccounted : Daemon → (Token → Type 0) → SessionTable → Seat → Type 0
AllAccounted d Taken t seat = (sid : Sid) (unfound : List Token) → seat.sid ≡ Some sid → seat.unfound ≡ Some unfound → All (Accounted d Taken seat.kept unfound) (outstanding_of sid t)

-- none of the messages of its kinds has the token
abbrev pub IsApart : Daemon → Token → Message → Type 0
IsApart d u m = takes (kinds_of d) m.kind ≡ true → m.token.0 ≡ u.0 → ⊥

module _ (d : Daemon) (t : SessionTable) where
  pub none_accounted : (Taken : Token → Type 0) (seat : Seat) → seat.sid ≡ None → AllAccounted d Taken t seat
  none_accounted Taken seat none sid unfound own left = absurd cc

  later_accounted : (Taken Later : Token → Type 0) (kept : List Kept) (unfound : List Token) (u : Token) → (Taken u → Later u) → IsAccounted Taken kept unfound u → IsAccounted Later kept unfound u
  later_accounted Taken Later kept unfound u later (inl is) = inl is
  later_accounted Taken Later kept unfound u later (inr (inl is)) = inr (inl is)
  later_accounted Taken Later kept unfound u later (inr (inr is)) = inr (inr (later is))

  -- what was taken before still is
  pub all_later : (Taken Later : Token → Type 0) (seat : Seat) → ((u : Token) → Taken u → Later u) → AllAccounted d Taken t seat → AllAccounted d Later t seat
  all_later Taken Later seat later is sid unfound own left =
      All-weaker (Accounted d Taken seat.kept unfound) (Accounted d Later seat.kept unfound) (λ x has takes. later_accounted Taken Later seat.kept unfound x.token (later x.token) (has takes)) (outstanding_of sid t) (is sid unfound own left)

  module _ (Taken : Token → Type 0) (seat : Seat) (is : AllAccounted d Taken t seat) where
    kept_else : (kept : List Kept) (unfound : List Token) (u : Token) → (KeepsEvent seat.kept u → KeepsEvent kept u) → IsAccounted Taken seat.kept unfound u → IsAccounted Taken kept unfound u
    kept_else kept unfound u keeps (inl has) = inl (keeps has)
    kept_else kept unfound u keeps (inr other) = inr other

    -- it keeps other events
    kept_on : (kept : List Kept) → ((sid : Sid) → seat.sid ≡ Some sid → All (λ m. takes (kinds_of d) m.kind ≡ true → KeepsEvent seat.kept m.token → KeepsEvent kept m.token) (outstanding_of sid t)) → AllAccounted d Taken t (record seat { kept = kept })
    kept_on kept keeps sid unfound own left =
        zip_each (Accounted d Taken seat.kept unfound) (λ m. takes (kinds_of d) m.kind ≡ true → KeepsEvent seat.kept m.token → KeepsEvent kept m.token) (Accounted d Taken kept unfound)
        (λ m has keep taken. kept_else kept unfound m.token (keep taken) (has taken)) (outstanding_of sid t) (is sid unfound own left) (keeps sid own)

    pub grown_on : (more : List Kept) → AllAccounted d Taken t (record seat { kept = seat.kept ++ more })
    grown_on more = kept_on (seat.kept ++ more) (λ sid own. λ k m lt taken has. keeps_first seat.kept more _ has)

    pub changed_on : (f : Kept → Kept) → ((k : Kept) → (f k).event ≡ k.event) → AllAccounted d Taken t (record seat { kept = map f seat.kept })
    changed_on f same = kept_on (map f seat.kept) (λ sid own. λ k m lt taken has. keeps_changed f same seat.kept _ has)

    -- an event is forgotten whose token isn't outstanding to it
    pub forgot_on : (x : Sid) (u : Token) → seat.sid ≡ Some x → All (IsApart d u) (outstanding_of x t) → AllAccounted d Taken t (record seat { kept = forgot u seat.kept })
    forgot_on x u at apart = kept_on (forgot u seat.kept) (λ sid own.
        let one : x ≡ sid = cc in
        let there : All (IsApart d u) (outstanding_of sid t) = subst (λ (y : Sid). All (IsApart d u) (outstanding_of y t)) one apart in
        All-weaker (IsApart d u) (λ m. takes (kinds_of d) m.kind ≡ true → KeepsEvent seat.kept m.token → KeepsEvent (forgot u seat.kept) m.token) (λ m other taken has. keeps_others u seat.kept m.token (other taken) has) (outstanding_of sid t) there)

    passed : (u : Token) (rest : List Token) (v : Token) → (v.0 ≡ u.0 → ⊥) → IsAccounted Taken seat.kept (u ∷ rest) v → IsAccounted Taken seat.kept rest v
    passed u rest v apart (inl has) = inl has
    passed u rest v apart (inr (inl there)) = inr (inl (Contains-tail u rest v (λ same. apart (ap (λ (x : Token). x.0) (sym same))) there))
    passed u rest v apart (inr (inr taken)) = inr (inr taken)

    -- the first of those that it has to find isn't outstanding to it
    pub passed_on : (x : Sid) (u : Token) (rest : List Token) → seat.sid ≡ Some x → seat.unfound ≡ Some (u ∷ rest) → All (IsApart d u) (outstanding_of x t) → AllAccounted d Taken t (found_one seat)
    passed_on x u rest at left apart sid unfound own remains =
        let one : x ≡ sid = cc in
        let fewer : Some rest ≡ Some unfound = ap (λ (o : Option (List Token)). option_map (λ (l : List Token). drop 1 l) o) (sym left) ∙ remains in
        let same : rest ≡ unfound = cc in
        subst (λ (l : List Token). All (Accounted d Taken seat.kept l) (outstanding_of sid t)) same
        (zip_each (Accounted d Taken seat.kept (u ∷ rest)) (IsApart d u) (Accounted d Taken seat.kept rest) (λ m has other taken. passed u rest m.token (other taken) (has taken)) (outstanding_of sid t)
        (is sid (u ∷ rest) own left) (subst (λ (y : Sid). All (IsApart d u) (outstanding_of y t)) one apart))

    found_or : (Later : Token → Type 0) (u : Token) (rest : List Token) (more : List Kept) (v : Token) → ((w : Token) → (w.0 ≡ u.0 → ⊥) → Taken w → Later w) → (v.0 ≡ u.0 → KeepsEvent more v) → IsAccounted Taken seat.kept (u ∷ rest) v → IsAccounted Later (seat.kept ++ more) rest v
    found_or Later u rest more v later told has = by (v.0 == u.0) refl
      where
        after : (v.0 ≡ u.0 → ⊥) → IsAccounted Taken seat.kept rest v → IsAccounted Later (seat.kept ++ more) rest v
        after apart (inl keeps) = inl (keeps_first seat.kept more v keeps)
        after apart (inr (inl there)) = inr (inl there)
        after apart (inr (inr taken)) = inr (inr (later v apart taken))

        by : (b : Bool) → (v.0 == u.0) ≡ b → IsAccounted Later (seat.kept ++ more) rest v
        by true same = inl (keeps_last seat.kept more v (told (eqb-true v.0 u.0 same)))
        by false other = after (eqb-false v.0 u.0 other) (passed u rest v (eqb-false v.0 u.0 other) has)

    -- the message of the first of them was found again
    pub found_on : (Later : Token → Type 0) (x : Sid) (u : Token) (rest : List Token) (more : List Kept) → seat.sid ≡ Some x → seat.unfound ≡ Some (u ∷ rest) → ((w : Token) → (w.0 ≡ u.0 → ⊥) → Taken w → Later w)
        → All (λ y. takes (kinds_of d) y.kind ≡ true → y.token.0 ≡ u.0 → KeepsEvent more y.token) (outstanding_of x t) → AllAccounted d Later t (record (found_one seat) { kept = seat.kept ++ more })
    found_on Later x u rest more at left later told sid unfound own remains =
        let one : x ≡ sid = cc in
        let fewer : Some rest ≡ Some unfound = ap (λ (o : Option (List Token)). option_map (λ (l : List Token). drop 1 l) o) (sym left) ∙ remains in
        let same : rest ≡ unfound = cc in
        subst (λ (l : List Token). All (Accounted d Later (seat.kept ++ more) l) (outstanding_of sid t)) same
        (zip_each (Accounted d Taken seat.kept (u ∷ rest)) (λ y. takes (kinds_of d) y.kind ≡ true → y.token.0 ≡ u.0 → KeepsEvent more y.token) (Accounted d Later (seat.kept ++ more) rest)
        (λ y has tells taken. found_or Later u rest more y.token later (tells taken) (has taken)) (outstanding_of sid t)
        (is sid (u ∷ rest) own left) (subst (λ (z : Sid). All (λ y. takes (kinds_of d) y.kind ≡ true → y.token.0 ≡ u.0 → KeepsEvent more y.token) (outstanding_of z t)) one told))

    -- where it has all its messages each is kept or was taken
    kept_or_taken : (u : Token) → IsAccounted Taken seat.kept [] u → KeepsEvent seat.kept u ⊎ Taken u
    kept_or_taken u (inl has) = inl has
    kept_or_taken u (inr (inl there)) = absurd (none_in u there)
    kept_or_taken u (inr (inr taken)) = inr taken

    pub seated_keeps : (sid : Sid) (m : Message) → IsSeated seat sid → Contains (outstanding_of sid t) m → takes (kinds_of d) m.kind ≡ true → KeepsEvent seat.kept m.token ⊎ Taken m.token
    seated_keeps sid m seated there taken = kept_or_taken m.token (All-contains (Accounted d Taken seat.kept []) (outstanding_of sid t) m (is sid [] seated.session seated.found) there taken)

  -- it was told which messages it has to find
  pub listed_on : (Taken : Token → Type 0) (seat : Seat) (x : Sid) (unfound : List Token) → seat.sid ≡ Some x → unfound ≡ tokens_of (outstanding_of x t) → AllAccounted d Taken t (record seat { unfound = Some unfound })
  listed_on Taken seat x unfound at are sid left own same =
      let one : x ≡ sid = cc in
      let all : left ≡ tokens_of (outstanding_of x t) = let these : unfound ≡ left = cc in sym these ∙ are in
      subst (λ (y : Sid). All (Accounted d Taken seat.kept left) (outstanding_of y t)) one
      (subst (λ (l : List Token). All (Accounted d Taken seat.kept l) (outstanding_of x t)) (sym all)
      (All-weaker (λ m. Contains (tokens_of (outstanding_of x t)) m.token) (Accounted d Taken seat.kept (tokens_of (outstanding_of x t))) (λ m there taken. inr (inl there)) (outstanding_of x t) (mapped_in (λ (m : Message). m.token) (outstanding_of x t))))
