-- What calls of daemons make of the tables, where no other session calls: each session is one daemon's, with messages of its kinds alone, and no daemon has two.
use Rattle.std.proofs.Common.{◌≡◌, ◌∙◌, ℕ, Bool, true, false, cond, not, ◌&&◌, List, [], ◌∷◌, map, filter, take, length, Option, None, Some}
use Rattle.std.proofs.Common.{inl, inr, refl, sym, ap, subst, arith}
use Rattle.std.proofs.lemmas.Bool.{false≢true, eqb-true, eq-eqb, ne_eqb}
use Rattle.std.proofs.lemmas.List.Elements.{All-nil, All-cons, All-head, All-tail, All-weaker, All-append, All-push, All-filter, All-take, All-drop, All-map, filter_passes}
use Rattle.std.proofs.lemmas.Option.{none-some, same_Some}
use Rattle.std.specs.Prelude.{◌⊎◌}
use Rattle.std.specs.List.{All, find}
use Rattle.std.specs.Map.{lookup, remove_entry}
use Rattle.std.specs.Option.{option_map}
use Rattle.hsm_types.specs.Daemons.{information, kinds_of}
use Rattle.hsm_types.specs.Messages.{no_kinds, takes, without_kinds, has_token, no_token}
use Rattle.hsm_types.specs.Sessions.{LiveSession, SessionTable, Ascend, same_sid, session_of, info_of, taker, heir, next_sid, with_session, change_live, change_session}
use Rattle.hsm_types.specs.Sessions.{loses, queued, with_kinds, posted_to, posted, with_tokens, hands_out, without_token}
use Rattle.hsm_types.specs.declared.daemons.Daemon.{Daemon}
use Rattle.hsm_types.specs.declared.daemons.Daemon.TheVariants.{Recall, Migrate}
use Rattle.hsm_types.specs.declared.dm.Kind.{Kind}
use Rattle.hsm_types.specs.declared.dm.Kind.TheVariants as kind
use Rattle.hsm_types.specs.declared.dm.Kinds.{Kinds}
use Rattle.hsm_types.specs.declared.keys.Sid.{Sid}
use Rattle.hsm_types.specs.declared.keys.Token.{Token}
use Rattle.hsm_types.specs.declared.messages.Message.{Message}
use Rattle.hsm_types.proofs.AscendingIds.{ascend-removed}
use Rattle.hsm_types.proofs.Queues.{found-lives, lookup-above, lookup-mapped}
use Rattle.marked_history.proofs.Carrying.{puts_each}
use Rattle.marked_history.proofs.Handing.{IsDaemonsKind}
use Rattle.marked_history.proofs.Informing.{informed_lives, lives_within}
use Rattle.marked_history.proofs.Outstanding.{above, below, changed_other, changed_own, pushed_other, pushed_own}

abbrev Live : Type 0
Live = List (Sid × LiveSession)

-- ---- two truths

both_so : (a b : Bool) → a ≡ true → b ≡ true → (a && b) ≡ true
both_so true b first second = second
both_so false b first second = first

first_so : (a b : Bool) → (a && b) ≡ true → a ≡ true
first_so true b is = refl
first_so false b is = is

is_false : (b : Bool) → (b ≡ true → ⊥) → b ≡ false
is_false true not_so = absurd (not_so refl)
is_false false not_so = refl

not_true : (b : Bool) → not b ≡ true → b ≡ false
not_true true is = absurd (false≢true is)
not_true false is = refl

-- ---- daemons, by their information and their kinds

pub same_daemon : (d e : Daemon) → information d ≡ information e → d ≡ e
same_daemon Recall Recall is = refl
same_daemon Migrate Migrate is = refl
same_daemon Recall Migrate is = absurd (let wrong : 9 ≡ 10 = ap (λ (l : List ℕ). length l) is in omega (arith, wrong))
same_daemon Migrate Recall is = absurd (let wrong : 10 ≡ 9 = ap (λ (l : List ℕ). length l) is in omega (arith, wrong))

one_kind : (d e : Daemon) (k : Kind) → takes (kinds_of d) k ≡ true → takes (kinds_of e) k ≡ true → d ≡ e
one_kind Recall Recall k first second = refl
one_kind Migrate Migrate k first second = refl
one_kind Recall Migrate kind.Read first second = absurd (false≢true second)
one_kind Recall Migrate kind.Write first second = absurd (false≢true second)
one_kind Recall Migrate kind.Truncate first second = absurd (false≢true second)
one_kind Recall Migrate kind.NoSpace first second = absurd (false≢true first)
one_kind Recall Migrate kind.User first second = absurd (false≢true first)
one_kind Migrate Recall kind.Read first second = absurd (false≢true first)
one_kind Migrate Recall kind.Write first second = absurd (false≢true first)
one_kind Migrate Recall kind.Truncate first second = absurd (false≢true first)
one_kind Migrate Recall kind.NoSpace first second = absurd (false≢true second)
one_kind Migrate Recall kind.User first second = absurd (false≢true first)

without_takes : (others kinds : Kinds) (k : Kind) → takes (without_kinds others kinds) k ≡ (takes kinds k && not (takes others k))
without_takes others kinds kind.Read = refl
without_takes others kinds kind.Write = refl
without_takes others kinds kind.Truncate = refl
without_takes others kinds kind.NoSpace = refl
without_takes others kinds kind.User = refl

fewer_kinds : (others kinds : Kinds) (k : Kind) → takes (without_kinds others kinds) k ≡ true → takes kinds k ≡ true
fewer_kinds others kinds k has = first_so (takes kinds k) (not (takes others k)) (sym (without_takes others kinds k) ∙ has)

other_kinds : (others kinds : Kinds) (k : Kind) → takes others k ≡ false → takes kinds k ≡ true → takes (without_kinds others kinds) k ≡ true
other_kinds others kinds k none has = without_takes others kinds k ∙ both_so (takes kinds k) (not (takes others k)) has (ap (λ (b : Bool). not b) none)

no_kind : (k : Kind) → takes no_kinds k ≡ false
no_kind kind.Read = refl
no_kind kind.Write = refl
no_kind kind.Truncate = refl
no_kind kind.NoSpace = refl
no_kind kind.User = refl

pub differ : (d e : Daemon) → (d ≡ e) ⊎ (d ≡ e → ⊥)
differ Recall Recall = inl refl
differ Migrate Migrate = inl refl
differ Recall Migrate = inr (λ same. cc)
differ Migrate Recall = inr (λ same. cc)

-- ---- sessions

decided : (a b : Sid) → (a.0 ≡ b.0) ⊎ (a.0 ≡ b.0 → ⊥)
decided a b = by (same_sid a b) refl
  where
    by : (c : Bool) → same_sid a b ≡ c → (a.0 ≡ b.0) ⊎ (a.0 ≡ b.0 → ⊥)
    by true is = inl (eqb-true a.0 b.0 is)
    by false is = inr (λ same. false≢true (sym is ∙ eq-eqb a.0 b.0 same))

abbrev pub IsFor : Daemon → Message → Type 0
IsFor d m = takes (kinds_of d) m.kind ≡ true

-- The session is the daemon's: it takes none but its kinds, and has messages of these alone.
pub record IsOwn (d : Daemon) (x : LiveSession) : Type 0 where
  pub info : x.info ≡ information d
  pub kinds : (k : Kind) → takes x.kinds k ≡ true → takes (kinds_of d) k ≡ true
  pub queue : All (IsFor d) x.queue
  pub out : All (IsFor d) x.outstanding

abbrev pub IsDaemons : LiveSession → Type 0
IsDaemons x = (d : Daemon) × IsOwn d x

abbrev pub AreDaemons : Live → Type 0
AreDaemons live = All (λ (e : Sid × LiveSession). IsDaemons e.1) live

abbrev IsOnes : Sid × LiveSession → Type 0
IsOnes e = IsDaemons e.1

own_of : (d : Daemon) (x : LiveSession) → x.info ≡ information d → IsDaemons x → IsOwn d x
own_of d x info is = subst (λ (e : Daemon). IsOwn e x) (same_daemon is.0 d (sym is.1.info ∙ info)) is.1

looked_up : (x : Sid) (live : Live) (s : LiveSession) → lookup (same_sid x) live ≡ Some s → AreDaemons live → IsDaemons s
looked_up x [] s there all = absurd (none-some _ there)
looked_up x (e ∷ rest) s there all = by (same_sid x e.0) there (λ later. looked_up x rest s later (All-tail IsOnes e rest all))
  where
    by : (b : Bool) → cond b (Some e.1) (lookup (same_sid x) rest) ≡ Some s → (lookup (same_sid x) rest ≡ Some s → IsDaemons s) → IsDaemons s
    by true is later = subst IsDaemons (same_Some e.1 s is) (All-head IsOnes e rest all)
    by false is later = later is

abbrev KeepsOwn : (LiveSession → LiveSession) → Option LiveSession → Type 0
KeepsOwn change found = (s : LiveSession) → found ≡ Some s → IsDaemons s → IsDaemons (change s)

changed_all : (change : LiveSession → LiveSession) (x : Sid) (live : Live) → KeepsOwn change (lookup (same_sid x) live) → AreDaemons live → AreDaemons (change_live x change live)
changed_all change x [] keeps all = all
changed_all change x (e ∷ rest) keeps all = by (same_sid x e.0) keeps (changed_all change x rest)
  where
    by : (b : Bool) → KeepsOwn change (cond b (Some e.1) (lookup (same_sid x) rest)) → (KeepsOwn change (lookup (same_sid x) rest) → AreDaemons rest → AreDaemons (change_live x change rest)) → AreDaemons (cond b ((e.0, change e.1) ∷ rest) (e ∷ change_live x change rest))
    by true keep later = All-cons IsOnes (e.0, change e.1) rest (keep e.1 refl (All-head IsOnes e rest all)) (All-tail IsOnes e rest all)
    by false keep later = All-cons IsOnes e (change_live x change rest) (All-head IsOnes e rest all) (later keep (All-tail IsOnes e rest all))

removed_all : (x : Sid) (live : Live) → AreDaemons live → AreDaemons (remove_entry (same_sid x) live)
removed_all x [] all = all
removed_all x (e ∷ rest) all = elim (same_sid x e.0) as (λ (b : Bool). AreDaemons (cond b rest (e ∷ remove_entry (same_sid x) rest))) [
  | true ↦ All-tail IsOnes e rest all
  | false ↦ All-cons IsOnes e (remove_entry (same_sid x) rest) (All-head IsOnes e rest all) (removed_all x rest (All-tail IsOnes e rest all))
]

-- what a change leaves of a session is so of each that is looked up
kept_of : {B : Type 0} (f : LiveSession → B) (change : LiveSession → LiveSession) → ((s : LiveSession) → f (change s) ≡ f s) → (y x : Sid) (live : Live)
    → option_map f (lookup (same_sid y) (change_live x change live)) ≡ option_map f (lookup (same_sid y) live)
kept_of f change same y x [] = refl
kept_of f change same y x (e ∷ rest) = elim (same_sid x e.0) as (λ (b : Bool). option_map f (lookup (same_sid y) (cond b ((e.0, change e.1) ∷ rest) (e ∷ change_live x change rest))) ≡ option_map f (lookup (same_sid y) (e ∷ rest))) [
  | true ↦ elim (same_sid y e.0) as (λ (c : Bool). option_map f (cond c (Some (change e.1)) (lookup (same_sid y) rest)) ≡ option_map f (cond c (Some e.1) (lookup (same_sid y) rest))) [ true ↦ ap (λ (z : _). Some z) (same e.1) | false ↦ refl ]
  | false ↦ elim (same_sid y e.0) as (λ (c : Bool). option_map f (cond c (Some e.1) (lookup (same_sid y) (change_live x change rest))) ≡ option_map f (cond c (Some e.1) (lookup (same_sid y) rest))) [ true ↦ refl | false ↦ kept_of f change same y x rest ]
]

removed_other : (y old : Sid) → (y.0 ≡ old.0 → ⊥) → (live : Live) → lookup (same_sid y) (remove_entry (same_sid old) live) ≡ lookup (same_sid y) live
removed_other y old apart [] = refl
removed_other y old apart (e ∷ rest) = by (same_sid old e.0) (same_sid y e.0) refl refl (removed_other y old apart rest)
  where
    by : (b c : Bool) → same_sid old e.0 ≡ b → same_sid y e.0 ≡ c → lookup (same_sid y) (remove_entry (same_sid old) rest) ≡ lookup (same_sid y) rest
        → lookup (same_sid y) (cond b rest (e ∷ remove_entry (same_sid old) rest)) ≡ cond c (Some e.1) (lookup (same_sid y) rest)
    by true true own mine later = absurd (apart (eqb-true y.0 e.0.0 mine ∙ sym (eqb-true old.0 e.0.0 own)))
    by true false own mine later = refl
    by false true own mine later = rw mine refl
    by false false own mine later = rw mine later

removed_own : (old : Sid) (low high : ℕ) (live : Live) → Ascend low high live → lookup (same_sid old) (remove_entry (same_sid old) live) ≡ None
removed_own old low high [] h = refl
removed_own old low high (e ∷ rest) h = by (same_sid old e.0) refl (removed_own old e.0.0 high rest h.2)
  where
    by : (b : Bool) → same_sid old e.0 ≡ b → lookup (same_sid old) (remove_entry (same_sid old) rest) ≡ None → lookup (same_sid old) (cond b rest (e ∷ remove_entry (same_sid old) rest)) ≡ None
    by true own later = let same = eqb-true old.0 e.0.0 own in below old e.0.0 high rest h.2 (omega arith)
    by false own later = rw own later

abbrev takers : Kind → Sid × LiveSession → Bool
takers k e = takes e.1.kinds k

abbrev named : Option (Sid × LiveSession) → Option Sid
named found = option_map (λ (e : Sid × LiveSession). e.0) found

-- the session that takes a kind does so
taker_takes : (k : Kind) (x : Sid) (low high : ℕ) (live : Live) → Ascend low high live → named (find (takers k) live) ≡ Some x
    → (s : LiveSession) → lookup (same_sid x) live ≡ Some s → takes s.kinds k ≡ true
taker_takes k x low high [] h is s there = absurd (none-some _ is)
taker_takes k x low high (e ∷ rest) h is s there = by (takes e.1.kinds k) refl is (λ more later. taker_takes k x e.0.0 high rest h.2 more s later)
  where
    by : (b : Bool) → takes e.1.kinds k ≡ b → named (cond b (Some e) (find (takers k) rest)) ≡ Some x → (named (find (takers k) rest) ≡ Some x → lookup (same_sid x) rest ≡ Some s → takes s.kinds k ≡ true) → takes s.kinds k ≡ true
    by true has found later =
        let same : e.0 ≡ x = same_Some e.0 x found in
        let own : same_sid x e.0 ≡ true = eq-eqb x.0 e.0.0 (ap (λ (z : Sid). z.0) (sym same)) in
        let one : Some e.1 ≡ Some s = rw own at there in
        subst (λ (z : LiveSession). takes z.kinds k ≡ true) (same_Some e.1 s one) has
    by false has found later =
        let past = lookup-above x e.0.0 high rest h.2 (found-lives (takers k) x rest found) in
        let other : same_sid x e.0 ≡ false = ne_eqb x.0 e.0.0 (λ same. omega arith) in
        later found (rw other at there)

-- a kind that a session takes isn't without one
takes_found : (k : Kind) (x : Sid) (kinds : Kinds) (live : Live) → option_map (λ (s : LiveSession). s.kinds) (lookup (same_sid x) live) ≡ Some kinds → takes kinds k ≡ true
    → named (find (takers k) live) ≡ None → ⊥
takes_found k x kinds [] own has none = none-some _ own
takes_found k x kinds (e ∷ rest) own has none = by (takes e.1.kinds k) (same_sid x e.0) refl own none (λ later. takes_found k x kinds rest later has)
  where
    by : (b c : Bool) → takes e.1.kinds k ≡ b → option_map (λ (s : LiveSession). s.kinds) (cond c (Some e.1) (lookup (same_sid x) rest)) ≡ Some kinds → named (cond b (Some e) (find (takers k) rest)) ≡ None
        → (option_map (λ (s : LiveSession). s.kinds) (lookup (same_sid x) rest) ≡ Some kinds → named (find (takers k) rest) ≡ None → ⊥) → ⊥
    by true c mine there nobody later = none-some _ (sym nobody)
    by false true mine there nobody later = false≢true (sym mine ∙ subst (λ (z : Kinds). takes z k ≡ true) (sym (same_Some e.1.kinds kinds there)) has)
    by false false mine there nobody later = later there nobody

-- ---- tables

-- the session has the daemon's information
abbrev pub Has : Daemon → Sid → SessionTable → Type 0
Has d x t = info_of x t ≡ Some (information d)

abbrev kinds_in : Sid → SessionTable → Option Kinds
kinds_in x t = option_map (λ (s : LiveSession). s.kinds) (session_of x t)

-- it takes all of the daemon's kinds, and no message of these is left unrouted
pub record GetsItsKinds (d : Daemon) (x : Sid) (t : SessionTable) : Type 0 where
  pub kinds : Kinds
  pub own : kinds_in x t ≡ Some kinds
  pub all : (k : Kind) → takes (kinds_of d) k ≡ true → takes kinds k ≡ true
  pub routed : All (λ (m : Message). takes (kinds_of d) m.kind ≡ false) t.unrouted

-- each session is one daemon's, no daemon has two, and each message without a session is of a daemon's kind
pub record Tables (t : SessionTable) : Type 0 where
  pub owned : AreDaemons t.live
  pub single : (d : Daemon) (a b : Sid) → Has d a t → Has d b t → a.0 ≡ b.0
  pub wanted : All (λ (m : Message). IsDaemonsKind m.kind) t.unrouted

-- a daemon's sessions stay, with what they take
pub record Leaves (d : Daemon) (t u : SessionTable) : Type 0 where
  pub fewer : (x : Sid) → Has d x u → Has d x t
  pub more : (x : Sid) → Has d x t → Has d x u
  pub served : (x : Sid) → Has d x t → GetsItsKinds d x t → GetsItsKinds d x u

pub leaves_all : (d : Daemon) (t : SessionTable) → Leaves d t t
leaves_all d t = record { fewer = λ x has. has; more = λ x has. has; served = λ x has is. is }

-- what stays so is single still
single_on : (t u : SessionTable) → ((d : Daemon) → Leaves d t u) → Tables t → (d : Daemon) (a b : Sid) → Has d a u → Has d b u → a.0 ≡ b.0
single_on t u leaves tables d a b mine theirs = tables.single d a b ((leaves d).fewer a mine) ((leaves d).fewer b theirs)

-- ---- a session that is changed, but not in its information and its kinds

module _ (change : LiveSession → LiveSession) (same_info : (s : LiveSession) → (change s).info ≡ s.info) (same_kinds : (s : LiveSession) → (change s).kinds ≡ s.kinds) (x : Sid) (t : SessionTable) where
  info_kept : (y : Sid) → info_of y (change_session x change t) ≡ info_of y t
  info_kept y = kept_of (λ s. s.info) change same_info y x t.live

  kinds_kept : (y : Sid) → kinds_in y (change_session x change t) ≡ kinds_in y t
  kinds_kept y = kept_of (λ s. s.kinds) change same_kinds y x t.live

  pub changed_leaves : (d : Daemon) → Leaves d t (change_session x change t)
  changed_leaves d = record {
    fewer = λ y has. sym (info_kept y) ∙ has;
    more = λ y has. info_kept y ∙ has;
    served = λ y has is. record { kinds = is.kinds; own = kinds_kept y ∙ is.own; all = is.all; routed = is.routed };
  }

  pub changed_tables : ((s : LiveSession) → session_of x t ≡ Some s → IsDaemons s → IsDaemons (change s)) → Tables t → Tables (change_session x change t)
  changed_tables keeps tables = record {
    owned = changed_all change x t.live keeps tables.owned;
    single = single_on t (change_session x change t) changed_leaves tables;
    wanted = tables.wanted;
  }

-- ---- a message is posted

module _ (m : Message) (wanted : IsDaemonsKind m.kind) (t : SessionTable) (ascend : Ascend 0 t.given t.live) where
  not_taken : (d : Daemon) (x : Sid) → GetsItsKinds d x t → taker m.kind t ≡ None → takes (kinds_of d) m.kind ≡ false
  not_taken d x is none = is_false (takes (kinds_of d) m.kind) (λ own. takes_found m.kind x is.kinds t.live is.own (is.all m.kind own) none)

  abbrev Posts : Option Sid → Type 0
  Posts found = (Tables t → Tables (posted_to found m t)) × ((d : Daemon) → Leaves d t (posted_to found m t))

  joined : (x : Sid) → taker m.kind t ≡ Some x → (s : LiveSession) → session_of x t ≡ Some s → IsDaemons s → IsDaemons (queued (m ∷ []) s)
  joined x is s there (d, own) = (d, record { info = own.info; kinds = own.kinds; queue = All-push (IsFor d) s.queue m own.queue (own.kinds m.kind (taker_takes m.kind x 0 t.given t.live ascend is s there)); out = own.out })

  posts : (found : Option Sid) → taker m.kind t ≡ found → Posts found
  posts None none = (
    λ tables. record { owned = tables.owned; single = tables.single; wanted = All-push (λ (n : Message). IsDaemonsKind n.kind) t.unrouted m tables.wanted wanted },
    λ d. record {
      fewer = λ y has. has;
      more = λ y has. has;
      served = λ y has is. record { kinds = is.kinds; own = is.own; all = is.all; routed = All-push (λ (n : Message). takes (kinds_of d) n.kind ≡ false) t.unrouted m is.routed (not_taken d y is none) };
    },
  )
  posts (Some x) is = (changed_tables (queued (m ∷ [])) (λ s. refl) (λ s. refl) x t (joined x is), changed_leaves (queued (m ∷ [])) (λ s. refl) (λ s. refl) x t)

  pub posted_tables : Tables t → Tables (posted m t)
  posted_tables = (posts (taker m.kind t) refl).0

  pub posted_leaves : (d : Daemon) → Leaves d t (posted m t)
  posted_leaves = (posts (taker m.kind t) refl).1

-- ---- messages are handed out, and answered

handed_own : (count : ℕ) (s : LiveSession) → IsDaemons s → IsDaemons (hands_out count s)
handed_own count s (d, own) = (
  d,
  record {
    info = own.info;
    kinds = own.kinds;
    queue = All-drop (IsFor d) count s.queue own.queue;
    out = puts_each (IsFor d) s.outstanding (with_tokens (take count s.queue)) own.out (All-filter (λ m. not (has_token no_token m)) (IsFor d) (take count s.queue) (All-take (IsFor d) count s.queue own.queue));
  },
)

pub delivered_tables : (x : Sid) (count : ℕ) (t : SessionTable) → Tables t → Tables (change_session x (hands_out count) t)
delivered_tables x count t = changed_tables (hands_out count) (λ s. refl) (λ s. refl) x t (λ s there. handed_own count s)

pub delivered_leaves : (x : Sid) (count : ℕ) (t : SessionTable) (d : Daemon) → Leaves d t (change_session x (hands_out count) t)
delivered_leaves x count t = changed_leaves (hands_out count) (λ s. refl) (λ s. refl) x t

abbrev answers : Token → LiveSession → LiveSession
answers token s = record s { outstanding = without_token token s.outstanding }

answered_own : (token : Token) (s : LiveSession) → IsDaemons s → IsDaemons (answers token s)
answered_own token s (d, own) = (d, record { info = own.info; kinds = own.kinds; queue = own.queue; out = All-filter (λ m. not (has_token token m)) (IsFor d) s.outstanding own.out })

pub answered_tables : (x : Sid) (token : Token) (t : SessionTable) → Tables t → Tables (change_session x (λ s. record s { outstanding = without_token token s.outstanding }) t)
answered_tables x token t = changed_tables (answers token) (λ s. refl) (λ s. refl) x t (λ s there. answered_own token s)

pub answered_leaves : (x : Sid) (token : Token) (t : SessionTable) (d : Daemon) → Leaves d t (change_session x (λ s. record s { outstanding = without_token token s.outstanding }) t)
answered_leaves x token t = changed_leaves (answers token) (λ s. refl) (λ s. refl) x t

-- ---- a daemon sets the kinds of its session

module _ (d : Daemon) (x : Sid) (t : SessionTable) (has : Has d x t) where
  abbrev own_kinds : Kinds
  own_kinds = kinds_of d

  abbrev joins : List Message
  joins = filter (λ (m : Message). takes own_kinds m.kind) t.unrouted

  abbrev sets : LiveSession → LiveSession
  sets s = queued joins (record s { kinds = own_kinds })

  abbrev others : Live
  others = map (λ (e : Sid × LiveSession). (e.0, loses own_kinds e.1)) t.live

  abbrev after : SessionTable
  after = with_kinds x own_kinds t

  less_info : (found : Option LiveSession) → option_map (λ (s : LiveSession). s.info) (option_map (loses own_kinds) found) ≡ option_map (λ (s : LiveSession). s.info) found
  less_info None = refl
  less_info (Some s) = refl

  info_stays : (y : Sid) → info_of y after ≡ info_of y t
  info_stays y = kept_of (λ s. s.info) sets (λ s. refl) y x others ∙ ap (λ (o : Option LiveSession). option_map (λ (s : LiveSession). s.info) o) (lookup-mapped y (loses own_kinds) t.live) ∙ less_info (session_of y t)

  looked : lookup (same_sid x) (change_live x sets others) ≡ option_map sets (option_map (loses own_kinds) (session_of x t))
  looked = changed_own sets x others ∙ ap (λ (o : Option LiveSession). option_map sets o) (lookup-mapped x (loses own_kinds) t.live)

  set_kinds : (found : Option LiveSession) → option_map (λ (s : LiveSession). s.info) found ≡ Some (information d) → option_map (λ (s : LiveSession). s.kinds) (option_map sets (option_map (loses own_kinds) found)) ≡ Some own_kinds
  set_kinds None none = absurd (none-some _ none)
  set_kinds (Some s) is = refl

  pub set_served : GetsItsKinds d x after
  set_served = record {
    kinds = own_kinds;
    own = ap (λ (o : Option LiveSession). option_map (λ (s : LiveSession). s.kinds) o) looked ∙ set_kinds (session_of x t) has;
    all = λ k own. own;
    routed = All-weaker (λ (m : Message). not (takes own_kinds m.kind) ≡ true) (λ (m : Message). takes own_kinds m.kind ≡ false) (λ m. not_true (takes own_kinds m.kind)) (filter (λ (m : Message). not (takes own_kinds m.kind)) t.unrouted)
        (filter_passes (λ (m : Message). not (takes own_kinds m.kind)) t.unrouted);
  }

  -- a session of the other daemon
  module _ (e : Daemon) (apart : d ≡ e → ⊥) (y : Sid) (theirs : Has e y t) where
    elsewhere : y.0 ≡ x.0 → ⊥
    elsewhere same =
        let one : y ≡ x = λ i. record { 0 = same i } in
        apart (same_daemon d e (same_Some (information d) (information e) (sym has ∙ subst (λ (z : Sid). info_of z t ≡ Some (information e)) one theirs)))

    lost_kinds : (found : Option LiveSession) (kinds : Kinds) → option_map (λ (s : LiveSession). s.kinds) found ≡ Some kinds → option_map (λ (s : LiveSession). s.kinds) (option_map (loses own_kinds) found) ≡ Some (without_kinds own_kinds kinds)
    lost_kinds None kinds none = absurd (none-some _ none)
    lost_kinds (Some s) kinds is = ap (λ (z : Kinds). Some (without_kinds own_kinds z)) (same_Some s.kinds kinds is)

    stays_served : GetsItsKinds e y t → GetsItsKinds e y after
    stays_served is = record {
      kinds = without_kinds own_kinds is.kinds;
      own = ap (λ (o : Option LiveSession). option_map (λ (s : LiveSession). s.kinds) o) (changed_other sets y x elsewhere others ∙ lookup-mapped y (loses own_kinds) t.live) ∙ lost_kinds (session_of y t) is.kinds is.own;
      all = λ k own. other_kinds own_kinds is.kinds k (is_false (takes own_kinds k) (λ mine. apart (one_kind d e k mine own))) (is.all k own);
      routed = All-filter (λ (m : Message). not (takes own_kinds m.kind)) (λ (m : Message). takes (kinds_of e) m.kind ≡ false) t.unrouted is.routed;
    }

  module _ (tables : Tables t) where
    served_on : (e : Daemon) (y : Sid) → Has e y t → GetsItsKinds e y t → GetsItsKinds e y after
    served_on e y theirs is = elim (differ d e) [
      | inl same ↦ subst (λ (z : Daemon). GetsItsKinds z y after) same (subst (λ (z : Sid). GetsItsKinds d z after) (own_one same) set_served)
      | inr apart ↦ stays_served e apart y theirs is
    ]
      where
        own_one : d ≡ e → x ≡ y
        own_one same = let one : x.0 ≡ y.0 = tables.single d x y has (subst (λ (z : Daemon). Has z y t) (sym same) theirs) in λ i. record { 0 = one i }

    pub set_leaves : (e : Daemon) → Leaves e t after
    set_leaves e = record { fewer = λ y own. sym (info_stays y) ∙ own; more = λ y own. info_stays y ∙ own; served = served_on e }

    lost_own : (s : LiveSession) → IsDaemons s → IsDaemons (loses own_kinds s)
    lost_own s (e, own) = (e, record { info = own.info; kinds = λ k takes_it. own.kinds k (fewer_kinds own_kinds s.kinds k takes_it); queue = own.queue; out = own.out })

    lost_all : AreDaemons others
    lost_all = All-map IsOnes (λ (e : Sid × LiveSession). (e.0, loses own_kinds e.1)) t.live (All-weaker IsOnes (λ (e : Sid × LiveSession). IsDaemons (loses own_kinds e.1)) (λ e. lost_own e.1) t.live tables.owned)

    set_own : (s : LiveSession) → lookup (same_sid x) others ≡ Some s → IsDaemons s → IsDaemons (sets s)
    set_own s there is =
        let info : Some s.info ≡ Some (information d) = sym (ap (λ (o : Option LiveSession). option_map (λ (z : LiveSession). z.info) o) (sym (lookup-mapped x (loses own_kinds) t.live) ∙ there)) ∙ less_info (session_of x t) ∙ has in
        let own = own_of d s (same_Some s.info (information d) info) is in
        (d, record { info = own.info; kinds = λ k takes_it. takes_it; queue = All-append (IsFor d) s.queue joins own.queue (filter_passes (λ (m : Message). takes own_kinds m.kind) t.unrouted); out = own.out })

    pub set_tables : Tables after
    set_tables = record {
      owned = changed_all sets x others set_own lost_all;
      single = single_on t after set_leaves tables;
      wanted = All-filter (λ (m : Message). not (takes own_kinds m.kind)) (λ (m : Message). IsDaemonsKind m.kind) t.unrouted tables.wanted;
    }

-- ---- a daemon makes a session, in the place of its own if it has one

module _ (d : Daemon) (old : Sid) (t : SessionTable) (ascend : Ascend 0 t.given t.live) (tables : Tables t) (own_old : (s : LiveSession) → session_of old t ≡ Some s → s.info ≡ information d) (none_else : (y : Sid) → Has d y t → y.0 ≡ old.0) where
  abbrev made : SessionTable
  made = with_session old (information d) t

  abbrev removed : Live
  removed = remove_entry (same_sid old) t.live

  abbrev new : LiveSession
  new = heir (information d) (session_of old t)

  new_there : session_of (next_sid t) made ≡ Some new
  new_there = pushed_own (next_sid t) new removed (above (next_sid t) 0 t.given removed (ascend-removed (same_sid old) 0 t.given t.live ascend) (omega arith))

  new_info : (found : Option LiveSession) → (heir (information d) found).info ≡ information d
  new_info None = refl
  new_info (Some s) = refl

  pub new_has : Has d (next_sid t) made
  new_has = ap (λ (o : Option LiveSession). option_map (λ (s : LiveSession). s.info) o) new_there ∙ ap (λ (l : List ℕ). Some l) (new_info (session_of old t))

  there_removed : (y : Sid) → (y.0 ≡ (next_sid t).0 → ⊥) → session_of y made ≡ lookup (same_sid y) removed
  there_removed y apart = pushed_other y (next_sid t) new removed apart

  there_still : (y : Sid) → (y.0 ≡ (next_sid t).0 → ⊥) → (y.0 ≡ old.0 → ⊥) → session_of y made ≡ session_of y t
  there_still y apart other = there_removed y apart ∙ removed_other y old other t.live

  old_gone : (y : Sid) → (y.0 ≡ (next_sid t).0 → ⊥) → y.0 ≡ old.0 → session_of y made ≡ None
  old_gone y apart same =
      let one : y ≡ old = λ i. record { 0 = same i } in
      there_removed y apart ∙ subst (λ (z : Sid). lookup (same_sid z) removed ≡ None) (sym one) (removed_own old 0 t.given t.live ascend)

  abbrev info_in : Option LiveSession → Option (List ℕ)
  info_in found = option_map (λ (s : LiveSession). s.info) found

  not_new : (e : Daemon) (y : Sid) → (d ≡ e → ⊥) → Has e y made → y.0 ≡ (next_sid t).0 → ⊥
  not_new e y apart theirs same =
      let one : y ≡ next_sid t = λ i. record { 0 = same i } in
      apart (same_daemon d e (same_Some (information d) (information e) (sym new_has ∙ subst (λ (z : Sid). info_of z made ≡ Some (information e)) one theirs)))

  not_next : (e : Daemon) (y : Sid) → Has e y t → y.0 ≡ (next_sid t).0 → ⊥
  not_next e y theirs same = let within = lives_within y t ascend (informed_lives y t (information e) theirs) in omega arith

  not_old : (e : Daemon) (y : Sid) → (d ≡ e → ⊥) → Has e y t → y.0 ≡ old.0 → ⊥
  not_old e y apart theirs same = by (session_of old t) refl
    where
      one : y ≡ old
      one = λ i. record { 0 = same i }

      here : info_of old t ≡ Some (information e)
      here = subst (λ (z : Sid). info_of z t ≡ Some (information e)) one theirs

      by : (found : Option LiveSession) → session_of old t ≡ found → ⊥
      by None none = none-some _ (sym (ap info_in none) ∙ here)
      by (Some s) there = apart (same_daemon d e (sym (own_old s there) ∙ same_Some s.info (information e) (sym (ap info_in there) ∙ here)))

  -- it was there, or is the new one
  was_there : (e : Daemon) (y : Sid) → (y.0 ≡ (next_sid t).0 → ⊥) → Has e y made → Has e y t × (y.0 ≡ old.0 → ⊥)
  was_there e y apart theirs = (sym (ap info_in (there_still y apart other)) ∙ theirs, other)
    where
      other : y.0 ≡ old.0 → ⊥
      other same = none-some _ (sym (ap info_in (old_gone y apart same)) ∙ theirs)

  pub made_leaves : (e : Daemon) → (d ≡ e → ⊥) → Leaves e t made
  made_leaves e apart = record {
    fewer = λ y theirs. (was_there e y (not_new e y apart theirs) theirs).0;
    more = λ y theirs. ap info_in (there_still y (not_next e y theirs) (not_old e y apart theirs)) ∙ theirs;
    served = λ y theirs is. record {
      kinds = is.kinds;
      own = ap (λ (o : Option LiveSession). option_map (λ (s : LiveSession). s.kinds) o) (there_still y (not_next e y theirs) (not_old e y apart theirs)) ∙ is.own;
      all = is.all;
      routed = is.routed;
    };
  }

  -- one of its own is the new one
  only_new : (y : Sid) → Has d y made → y.0 ≡ (next_sid t).0
  only_new y has = elim (decided y (next_sid t)) [
    | inl same ↦ same
    | inr apart ↦ absurd (let was = was_there d y apart has in was.1 (none_else y was.0))
  ]

  single_made : (e : Daemon) (a b : Sid) → Has e a made → Has e b made → a.0 ≡ b.0
  single_made e a b first second = elim (differ d e) [
    | inl same ↦ only_new a (subst (λ (z : Daemon). Has z a made) (sym same) first) ∙ sym (only_new b (subst (λ (z : Daemon). Has z b made) (sym same) second))
    | inr apart ↦ tables.single e a b ((made_leaves e apart).fewer a first) ((made_leaves e apart).fewer b second)
  ]

  heir_own : (found : Option LiveSession) → session_of old t ≡ found → IsDaemons (heir (information d) found)
  heir_own None none = (d, record { info = refl; kinds = λ k has. absurd (false≢true (sym (no_kind k) ∙ has)); queue = All-nil (IsFor d); out = All-nil (IsFor d) })
  heir_own (Some s) there = let own = own_of d s (own_old s there) (looked_up old t.live s there tables.owned) in (d, record { info = refl; kinds = own.kinds; queue = own.queue; out = own.out })

  pub made_tables : Tables made
  made_tables = record {
    owned = All-push IsOnes removed (next_sid t, new) (removed_all old t.live tables.owned) (heir_own (session_of old t) refl);
    single = single_made;
    wanted = tables.wanted;
  }
