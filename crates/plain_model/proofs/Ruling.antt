-- What a ruling of a store says of an access.
use Rattle.std.proofs.Common.{◌≡◌, ◌<◌, ◌-◌, ℕ, [], ◌∷◌, length, Bool, true, false, Option, Some, None, refl, sym, ◌∙◌, ap, arith}
use Rattle.std.proofs.lemmas.Bool.Decides.{nat_tests}
use Rattle.std.specs.Prelude.{◌&&◌, not, nat_lt, if◌then◌else◌, is_some}
use Rattle.std.specs.Option.{option_map}
use Rattle.hsm_types.specs.Refusals.{first_refusal}
use Rattle.hsm_types.specs.Handles.{same_key}
use Rattle.hsm_types.specs.Rights.{Rights, same_token, conflict}
use Rattle.hsm_types.specs.declared.keys.FileKey.{FileKey}
use Rattle.hsm_types.specs.declared.stores.Superblock.{Superblock}
use Rattle.hsm_types.specs.declared.calls.Call.{Call}
use Rattle.hsm_types.specs.declared.calls.Call.TheVariants.{Create, Read, Write, Truncate, Remove, Stat, Sync}
use Rattle.hsm_types.specs.declared.dm.Kind.{Kind}
use Rattle.hsm_types.specs.declared.dm.Kind.TheVariants as kind
use Rattle.hsm_types.specs.declared.dm.Right.{Right}
use Rattle.hsm_types.specs.declared.dm.Right.TheVariants.{Null, Shared, Excl}
use Rattle.hsm_types.specs.declared.keys.Token.{Token}
use Rattle.hsm_types.specs.Messages.{no_token}
use Rattle.plain_model.specs.declared.facts.Facts.{Facts}
use Rattle.plain_model.specs.declared.facts.NoRoom.{NoRoom}
use Rattle.plain_model.specs.Effects.{effect_of}
use Rattle.plain_model.specs.Accesses.{is_access, can_block, need_of, wants_space, kind_of, room_or_none}
use Rattle.plain_model.specs.Blocks.{touched}
use Rattle.plain_model.specs.State.{Flags, State, bytes_of, used}
use Rattle.plain_model.specs.Verdict.{Ruling, Blocks, Posts, Lacks, Verdict, shortage, facts_of, is_taken, conflicting, posts, touching, needing}
use Rattle.plain_model.specs.Verdict.{without_room, lacking, verdict}

-- only a call that touches blocks is short of space
pub wants : (call : Call) (size free : ℕ) → free < length (touched (effect_of call) size) → wants_space call ≡ true
wants (Write name offset bytes) size free short = refl
wants (Truncate name to) size free short = refl
wants (Create name) size free short = absurd (omega arith)
wants (Read name offset len) size free short = absurd (omega arith)
wants (Remove name) size free short = absurd (omega arith)
wants (Stat name) size free short = absurd (omega arith)
wants Sync size free short = absurd (omega arith)

-- a call that wants space is an access
wanting : (call : Call) → wants_space call ≡ true → is_access call ≡ true
wanting (Write name offset bytes) is = refl
wanting (Truncate name to) is = refl
wanting (Create name) is = cc
wanting (Read name offset len) is = cc
wanting (Remove name) is = cc
wanting (Stat name) is = cc
wanting Sync is = cc

-- what a ruling says of a call, of which these facts are known
abbrev pub Follows : Option Token → Call → Option NoRoom → Ruling → Type 0
Follows other call short (Blocks t) = (can_block call ≡ true) × (other ≡ Some t)
Follows other call short (Posts kind) = is_access call ≡ true
Follows other call short (Lacks need free) = short ≡ Some (record { need = need; free = free })

-- only accesses have an event
asks_access : (other : Option Token) (asks : Bool) (call : Call) (ruling : Ruling) → posts asks (kind_of call) ≡ Some ruling → (short : Option NoRoom) → Follows other call short ruling
asks_access other false call ruling is short = cc
asks_access other true (Read name offset len) (Posts kind) is short = refl
asks_access other true (Write name offset bytes) (Posts kind) is short = refl
asks_access other true (Truncate name to) (Posts kind) is short = refl
asks_access other true call (Blocks t) is short = never_blocks (kind_of call) is
  where
    never_blocks : (kind : Option Kind) → posts true kind ≡ Some (Blocks t) → (can_block call ≡ true) × (other ≡ Some t)
    never_blocks None is = absurd cc
    never_blocks (Some kind) is = absurd cc
asks_access other true call (Lacks need free) is short = posts_only (kind_of call) need free short is
  where
    posts_only : (kind : Option Kind) (need free : ℕ) (short : Option NoRoom) → posts true kind ≡ Some (Lacks need free) → short ≡ Some (record { need = need; free = free })
    posts_only None need free short is = cc
    posts_only (Some kind) need free short is = cc
asks_access other true (Create name) (Posts kind) is short = cc
asks_access other true (Remove name) (Posts kind) is short = cc
asks_access other true (Stat name) (Posts kind) is short = cc
asks_access other true Sync (Posts kind) is short = cc

abbrev some_room : ℕ → ℕ → Option NoRoom
some_room need free = Some (record { need = need; free = free })

same_numbers : (need free need' free' : ℕ) → Some (Lacks need free) ≡ Some (Lacks need' free') → (need ≡ need') × (free ≡ free')
same_numbers need free need' free' is = (cc, cc)

lacks_room : (other : Option Token) (asks : Bool) (call : Call) (short : Option NoRoom) (ruling : Ruling) → without_room asks short ≡ Some ruling → (is_some short ≡ true → is_access call ≡ true) → Follows other call short ruling
lacks_room other asks call None ruling is only = cc
lacks_room other true call (Some room) (Blocks t) is only = absurd cc
lacks_room other false call (Some room) (Blocks t) is only = absurd cc
lacks_room other true call (Some room) (Posts kind) is only = only refl
lacks_room other true call (Some room) (Lacks need free) is only = cc
lacks_room other false call (Some room) (Posts kind) is only = cc
lacks_room other false call (Some room) (Lacks need free) is only = let same = same_numbers room.need room.free need free is in λ i. some_room (same.0 i) (same.1 i)

first_follows : (v w x y : Verdict) (other : Option Token) (call : Call) (short : Option NoRoom) (ruling : Ruling) → first_refusal (v ∷ w ∷ x ∷ y ∷ []) ≡ Some ruling
    → ((r : Ruling) → v ≡ Some r → Follows other call short r) → ((r : Ruling) → w ≡ Some r → Follows other call short r) → ((r : Ruling) → x ≡ Some r → Follows other call short r)
    → ((r : Ruling) → y ≡ Some r → Follows other call short r) → Follows other call short ruling
first_follows (Some r) w x y other call short ruling is third fourth fifth sixth = third ruling is
first_follows None (Some r) x y other call short ruling is third fourth fifth sixth = fourth ruling is
first_follows None None (Some r) y other call short ruling is third fourth fifth sixth = fifth ruling is
first_follows None None None (Some r) other call short ruling is third fourth fifth sixth = sixth ruling is
first_follows None None None None other call short ruling is third fourth fifth sixth = cc

-- what needs no right isn't blocked
and_never : (a b : Bool) → (a && b && false) ≡ false
and_never true true = refl
and_never true false = refl
and_never false b = refl

pub unhindered : (k : FileKey) (own : Token) (rights : Rights) → conflict k Null own rights ≡ None
unhindered k own [] = refl
unhindered k own (x ∷ xs) = rw (and_never (same_key x.0.key k) (not (same_token x.0.token own))) (unhindered k own xs)

-- a right blocks only what waits for rights
blocks_some : (need : Right) (call : Call) (k : FileKey) (rights : Rights) (t : Token) → need_of call ≡ need → conflict k need no_token rights ≡ Some t → can_block call ≡ true
blocks_some need (Read name offset len) k rights t is held = refl
blocks_some need (Write name offset bytes) k rights t is held = refl
blocks_some need (Truncate name to) k rights t is held = refl
blocks_some need (Remove name) k rights t is held = refl
blocks_some Null call k rights t is held = absurd (let never : None ≡ Some t = sym (unhindered k no_token rights) ∙ held in cc)
blocks_some Shared (Create name) k rights t is held = absurd cc
blocks_some Shared (Stat name) k rights t is held = absurd cc
blocks_some Shared Sync k rights t is held = absurd cc
blocks_some Excl (Create name) k rights t is held = absurd cc
blocks_some Excl (Stat name) k rights t is held = absurd cc
blocks_some Excl Sync k rights t is held = absurd cc

blocked_by : (other : Option Token) (call : Call) (short : Option NoRoom) (ruling : Ruling) → option_map Blocks other ≡ Some ruling → ((t : Token) → other ≡ Some t → can_block call ≡ true) → Follows other call short ruling
blocked_by None call short ruling is may = absurd cc
blocked_by (Some t) call short (Blocks u) is may = (may t refl, cc)
blocked_by (Some t) call short (Posts kind) is may = absurd cc
blocked_by (Some t) call short (Lacks need free) is may = absurd cc

pub short_by : (b : Bool) (need free need' free' : ℕ) → nat_lt free need ≡ b → (if b then some_room need free else None) ≡ some_room need' free' → (need ≡ need') × (free ≡ free') × (free < need)
short_by true need free need' free' is e = (ap (λ room. (room_or_none room).need) e, ap (λ room. (room_or_none room).free) e, grind (arith, nat_tests))
short_by false need free need' free' is e = cc

some_short : (b : Bool) (need free : ℕ) → nat_lt free need ≡ b → is_some (if b then some_room need free else None) ≡ true → free < need
some_short true need free is e = grind (arith, nat_tests)
some_short false need free is e = cc

module _ (s : Superblock) (st : State) where
  -- what rules 3 to 6 say
  pub rules_follow : (fl : Flags) (k : FileKey) (call : Call) (ruling : Ruling) → verdict s st fl k call ≡ Some ruling → Follows (conflict k (need_of call) no_token st.rights) call (shortage s st.held k call) ruling
  rules_follow fl k call ruling is =
      let facts : Facts = facts_of s st.held k call in
      let size : ℕ = length (bytes_of k st.held.files) in
      let need : ℕ = length (touched (effect_of call) size) in
      let free : ℕ = s.geometry.blocks - used st.held.files in
      let other : Option Token = conflict k (need_of call) no_token st.rights in
      first_follows (conflicting st.rights k call) (touching fl facts call) (needing fl facts call) (lacking fl facts st.sessions) other call facts.short ruling is
      (λ r at. blocked_by other call facts.short r at (λ t held. blocks_some (need_of call) call k st.rights t refl held))
      (λ r at. asks_access other (not fl.cleared && facts.touches) call r at facts.short)
      (λ r at. asks_access other (fl.cleared && facts.needs) call r at facts.short)
      (λ r at. lacks_room other (not fl.spaced && is_taken kind.NoSpace st.sessions) call facts.short r at
      (λ some. wanting call (wants call size free (some_short (nat_lt free need) need free refl some))))
