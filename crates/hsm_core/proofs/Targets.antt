-- What the judging of an access says of its call and its file.
use Rattle.std.proofs.Common.{◌≡◌, ◌≤◌, ◌+◌, ◌-◌, ◌^◌, ℕ, min, length, List, [], ◌∷◌, Bool, true, false, Option, Some, None, refl, sym, ◌∙◌, ap, subst, arith}
use Rattle.std.proofs.lemmas.Bool.Decides.{nat_tests}
use Rattle.std.specs.Prelude.{◌&&◌, not, nat_lt, nat_le, if◌then◌else◌, IsSomeAnd}
use Rattle.std.specs.Option.{option_map}
use Rattle.hsm_types.specs.Limits.{access_bytes, last_error, widest_limits, IsCountable}
use Rattle.hsm_types.specs.Messages.{no_token, is_lawful}
use Rattle.hsm_types.specs.Refusals.{first_refusal}
use Rattle.hsm_types.specs.Rights.{Rights, conflict}
use Rattle.hsm_types.specs.Sessions.{SessionTable}
use Rattle.hsm_types.specs.declared.keys.FileKey.{FileKey}
use Rattle.hsm_types.specs.declared.keys.Token.{Token}
use Rattle.hsm_types.specs.declared.stores.Limits.{Limits}
use Rattle.hsm_types.specs.declared.stores.Superblock.{Superblock}
use Rattle.hsm_types.specs.declared.calls.Call.{Call}
use Rattle.hsm_types.specs.declared.calls.Call.TheVariants.{Create, Read, Write, Truncate, Remove, Stat, Sync}
use Rattle.hsm_types.specs.declared.calls.CallRefusal.TheVariants.{BadLength, TooBig}
use Rattle.hsm_types.specs.declared.dm.Kind.{Kind}
use Rattle.hsm_types.specs.declared.dm.Kind.TheVariants as kind
use Rattle.hsm_types.specs.declared.dm.Response.{Response}
use Rattle.hsm_types.specs.declared.dm.Response.TheVariants.{Continue, Abort, Media}
use Rattle.plain_model.specs.declared.facts.Facts.{Facts}
use Rattle.plain_model.specs.declared.facts.NoRoom.{NoRoom}
use Rattle.plain_model.specs.Accesses.{need_of, kind_of}
use Rattle.plain_model.specs.Ledger.{aborted, gone}
use Rattle.plain_model.specs.Plain.{Listed, bad_name, bad_length, missing, too_big, refusal_of, key_meant}
use Rattle.plain_model.specs.State.{FileState, Flags, names_of}
use Rattle.plain_model.specs.Verdict.{Verdict as Ruled, Blocks, Posts, Lacks, Ends, Rules, posts, conflicting, touching, needing, without_room}
use Rattle.plain_model.specs.Verdict.{lacking, rulings, is_taken, judgement}
use Rattle.plain_model.proofs.Judged.{none_first, passes}
use Rattle.access_park.specs.Pending.{is_lawful_answer}
use Rattle.dm_service.specs.declared.verdict.Verdict.{Verdict}
use Rattle.dm_service.specs.declared.verdict.Verdict.TheVariants.{Answered, Post, Complete}
use Rattle.dm_service.specs.Judging.{verdict_of}
use Rattle.hsm_core.specs.declared.judging.Target.{Target}
use Rattle.hsm_core.specs.Outcomes.{is_abort, IsAbort, MayAsk}
use Rattle.hsm_core.specs.Targets.{IsTarget, IsOn, IsMeant, IsBounded, IsOnFile, key_in}

-- ---- the file of a call

of_target : (files : List FileState) (k : FileKey) (target : Option Target) → IsSomeAnd target (λ t. IsTarget files k t) → (key_in target ≡ k) × IsSomeAnd target (λ t. IsTarget files (key_in target) t)
of_target files k None is = absurd is
of_target files k (Some t) is = (is.key, record { key = refl; live = is.live; size = is.size; limit = is.limit })

pub key_of_meant : (files : List FileState) (call : Call) (target : Option Target) → IsMeant files call target → key_in target ≡ key_meant (names_of files) call
key_of_meant files (Create name) target is = ap key_in is
key_of_meant files Sync target is = ap key_in is
key_of_meant files call target is = (of_target files (key_meant (names_of files) call) target is).0

pub on_own : (files : List FileState) (k : FileKey) (call : Call) (target : Option Target) → IsOn files k call target → IsOn files (key_in target) call target
on_own files k (Create name) target is = is
on_own files k Sync target is = is
on_own files k call target is = (of_target files k target is).1

-- a call that means a file is on it
pub on_file : (files : List FileState) (k : FileKey) (call : Call) (t : Target) → IsOn files k call (Some t) → IsOnFile call × IsTarget files t.key t
on_file files k (Create name) t is = absurd cc
on_file files k Sync t is = absurd cc
on_file files k call t is = (tt, record { key = refl; live = is.live; size = is.size; limit = is.limit })

-- a sync means none
pub not_alone : (files : List FileState) (t : Target) (call : Call) → call ≡ Sync → IsMeant files call (Some t) → ⊥
not_alone files t call is meant = let none : Some t ≡ None = subst (λ (x : Call). IsMeant files x (Some t)) is meant in absurd cc

-- and one that waited is still on its file
pub still_on : (files : List FileState) (call : Call) (t : Target) → IsOnFile call → IsTarget files t.key t → IsOn files t.key call (Some t)
still_on files (Create name) t on is = absurd on
still_on files Sync t on is = absurd on
still_on files call t on is = is

-- ---- what bounds a call

both_of : (a b : Bool) → (a && b) ≡ true → (a ≡ true) × (b ≡ true)
both_of true b is = (refl, is)
both_of false b is = cc

some_bytes : (len : ℕ) → bad_length len ≡ None → 1 ≤ len
some_bytes len none = let in_range = both_of (nat_le 1 len) (nat_le len access_bytes) (passes (nat_le 1 len && nat_le len access_bytes) (BadLength len) none) in let least = in_range.0 in grind (arith, nat_tests, least)

few_bytes : (len : ℕ) → bad_length len ≡ None → len ≤ access_bytes
few_bytes len none = let in_range = both_of (nat_le 1 len) (nat_le len access_bytes) (passes (nat_le 1 len && nat_le len access_bytes) (BadLength len) none) in let most = in_range.1 in grind (arith, nat_tests, most)

within : (limits : Limits) (end : ℕ) → too_big limits end ≡ None → end ≤ limits.bytes
within limits end none = elim (nat_lt limits.bytes end) as (λ b. nat_lt limits.bytes end ≡ b → (if b then Some (TooBig (min end (2 ^ 64 - 1))) else None) ≡ None → end ≤ limits.bytes) [
  | true ↦ λ past is. cc
  | false ↦ λ not_past is. grind (arith, nat_tests, not_past)
] refl none

pub bounded : (s : Superblock) (files : List Listed) (call : Call) → refusal_of s files call ≡ None → IsBounded s.geometry.limits call
bounded s files (Write name offset bytes) none =
    let big = too_big s.geometry.limits (offset + length bytes) in
    let past_name = none_first (bad_name name) (bad_length (length bytes) ∷ missing name files ∷ big ∷ []) none in
    let past_length = none_first (bad_length (length bytes)) (missing name files ∷ big ∷ []) past_name.1 in
    let past_file = none_first (missing name files) (big ∷ []) past_length.1 in
    (some_bytes (length bytes) past_length.0, within s.geometry.limits (offset + length bytes) (none_first big [] past_file.1).0, few_bytes (length bytes) past_length.0)
bounded s files (Truncate name size) none =
    let big = too_big s.geometry.limits size in
    let past_name = none_first (bad_name name) (missing name files ∷ big ∷ []) none in
    let past_file = none_first (missing name files) (big ∷ []) past_name.1 in
    within s.geometry.limits size (none_first big [] past_file.1).0
bounded s files (Create name) none = tt
bounded s files (Read name offset len) none = tt
bounded s files (Remove name) none = tt
bounded s files (Stat name) none = tt
bounded s files Sync none = tt

-- what a format bounds the code can count
pub widest_bounded : (limits : Limits) (call : Call) → IsCountable limits → IsBounded limits call → IsBounded widest_limits call
widest_bounded limits (Write name offset bytes) countable is = (is.0, omega (arith, is.1, countable.0), is.2)
widest_bounded limits (Truncate name size) countable is = omega (arith, is, countable.0)
widest_bounded limits call countable is = tt

-- ---- what a verdict says

-- of several rules the first that applies is as good as all
rules_first : (w x y z : Ruled) → first_refusal (option_map Rules w ∷ option_map Rules x ∷ option_map Rules y ∷ option_map Rules z ∷ []) ≡ first_refusal (option_map Rules (first_refusal (w ∷ x ∷ y ∷ z ∷ [])) ∷ [])
rules_first (Some ruling) x y z = refl
rules_first None (Some ruling) y z = refl
rules_first None None (Some ruling) z = refl
rules_first None None None (Some ruling) = refl
rules_first None None None None = refl

abbrev heard : Option Response → Bool → Ruled → Verdict
heard answer live v = verdict_of (first_refusal (option_map Ends (aborted answer) ∷ option_map Ends (gone live) ∷ option_map Rules v ∷ []))

either_first : {R : Type 0} (a b : Option R) (rest rest' : List (Option R)) → first_refusal rest ≡ first_refusal rest' → first_refusal (a ∷ b ∷ rest) ≡ first_refusal (a ∷ b ∷ rest')
either_first (Some x) b rest rest' same = refl
either_first None (Some x) rest rest' same = refl
either_first None None rest rest' same = same

abbrev ruled : Flags → Facts → Rights → SessionTable → FileKey → Call → Ruled
ruled fl facts rights t k call = first_refusal (rulings fl facts rights t k call)

heard_is : (fl : Flags) (answer : Option Response) (facts : Facts) (rights : Rights) (t : SessionTable) (k : FileKey) (call : Call) → verdict_of (judgement fl answer facts rights t k call) ≡ heard answer facts.live (ruled fl facts rights t k call)
heard_is fl answer facts rights t k call =
    ap verdict_of (either_first (option_map Ends (aborted answer)) (option_map Ends (gone facts.live)) _ (option_map Rules (ruled fl facts rights t k call) ∷ [])
    (rules_first (conflicting rights k call) (touching fl facts call) (needing fl facts call) (lacking fl facts t)))

-- ---- an access that is done

no_ending : (answer : Option Response) (live : Bool) (v : Ruled) → heard answer live v ≡ Complete → (live ≡ true) × (v ≡ None)
no_ending (Some (Abort error)) live v is = absurd cc
no_ending (Some (Media fault)) live v is = absurd cc
no_ending None false v is = absurd cc
no_ending (Some Continue) false v is = absurd cc
no_ending None true None is = (refl, refl)
no_ending (Some Continue) true None is = (refl, refl)
no_ending None true (Some (Blocks t)) is = absurd cc
no_ending None true (Some (Posts kind)) is = absurd cc
no_ending None true (Some (Lacks need free)) is = absurd cc
no_ending (Some Continue) true (Some (Blocks t)) is = absurd cc
no_ending (Some Continue) true (Some (Posts kind)) is = absurd cc
no_ending (Some Continue) true (Some (Lacks need free)) is = absurd cc

no_lack : (asks : Bool) (short : Option NoRoom) → without_room asks short ≡ None → short ≡ None
no_lack asks None is = refl
no_lack true (Some room) is = cc
no_lack false (Some room) is = cc

-- ---- an access that was aborted

lawful_abort : (error : ℕ) → is_lawful (Abort error) ≡ true → error ≤ last_error
lawful_abort error is = let most = (both_of (nat_le 1 error) (nat_le error last_error) is).1 in grind (arith, nat_tests, most)

never_answered : (v : Ruled) (response : Response) → verdict_of (first_refusal (option_map Rules v ∷ [])) ≡ Answered response → ⊥
never_answered None response is = cc
never_answered (Some (Blocks t)) response is = cc
never_answered (Some (Posts kind)) response is = cc
never_answered (Some (Lacks need free)) response is = cc

ends_by : (answer : Option Response) (live : Bool) (v : Ruled) (response : Response) → heard answer live v ≡ Answered response → is_lawful_answer answer ≡ true → IsAbort response
ends_by (Some (Abort error)) live v Continue is lawful = absurd cc
ends_by (Some (Abort error)) live v (Media fault) is lawful = tt
ends_by (Some (Media fault)) live v Continue is lawful = absurd cc
ends_by (Some (Media fault)) live v (Abort e) is lawful = absurd cc
ends_by (Some (Media fault)) live v (Media other) is lawful = tt
ends_by (Some (Abort error)) live v (Abort e) is lawful = let same : error ≡ e = cc in let few = lawful_abort error lawful in omega (arith, same, few)
ends_by None false v response is lawful = absurd cc
ends_by (Some Continue) false v response is lawful = absurd cc
ends_by None true v response is lawful = absurd (never_answered v response is)
ends_by (Some Continue) true v response is lawful = absurd (never_answered v response is)

-- ---- one that is to wait for an event

abbrev Asks : Call → Ruled → Type 0
Asks call (Some (Posts kind)) = MayAsk call kind
Asks call v = Unit {0}

conflicting_asks : (other : Option Token) (call : Call) → Asks call (option_map Blocks other)
conflicting_asks None call = tt
conflicting_asks (Some t) call = tt

posts_asks : (asks : Bool) (call : Call) → Asks call (posts asks (kind_of call))
posts_asks false call = tt
posts_asks true (Read name offset len) = (λ is. cc, λ short is. absurd cc)
posts_asks true (Write name offset bytes) = (λ is. cc, λ short is. absurd cc)
posts_asks true (Truncate name size) = (λ is. cc, λ short is. refl)
posts_asks true (Create name) = tt
posts_asks true (Remove name) = tt
posts_asks true (Stat name) = tt
posts_asks true Sync = tt

lacking_asks : (asks : Bool) (short : Option NoRoom) (call : Call) → Asks call (without_room asks short)
lacking_asks asks None call = tt
lacking_asks true (Some room) call = (λ is. cc, λ short is. absurd cc)
lacking_asks false (Some room) call = tt

first_asks : (w x y z : Ruled) (call : Call) → Asks call w → Asks call x → Asks call y → Asks call z → Asks call (first_refusal (w ∷ x ∷ y ∷ z ∷ []))
first_asks (Some ruling) x y z call first second third fourth = first
first_asks None (Some ruling) y z call first second third fourth = second
first_asks None None (Some ruling) z call first second third fourth = third
first_asks None None None (Some ruling) call first second third fourth = fourth
first_asks None None None None call first second third fourth = tt

one_asks : (answer : Option Response) (live : Bool) (v : Ruled) (call : Call) (kind : Kind) → heard answer live v ≡ Post kind → Asks call v → (live ≡ true) × MayAsk call kind
one_asks (Some (Abort error)) live v call kind is asks = absurd cc
one_asks (Some (Media fault)) live v call kind is asks = absurd cc
one_asks None false v call kind is asks = absurd cc
one_asks (Some Continue) false v call kind is asks = absurd cc
one_asks None true (Some (Posts asked)) call kind is asks = (refl, subst (MayAsk call) (let same : asked ≡ kind = cc in same) asks)
one_asks (Some Continue) true (Some (Posts asked)) call kind is asks = (refl, subst (MayAsk call) (let same : asked ≡ kind = cc in same) asks)
one_asks None true (Some (Blocks t)) call kind is asks = absurd cc
one_asks (Some Continue) true (Some (Blocks t)) call kind is asks = absurd cc
one_asks None true (Some (Lacks need free)) call kind is asks = absurd cc
one_asks (Some Continue) true (Some (Lacks need free)) call kind is asks = absurd cc
one_asks None true None call kind is asks = absurd cc
one_asks (Some Continue) true None call kind is asks = absurd cc

-- ---- what was said, by the rules

module _ (fl : Flags) (answer : Option Response) (facts : Facts) (rights : Rights) (t : SessionTable) (k : FileKey) (call : Call) where
  abbrev said : Verdict
  said = verdict_of (judgement fl answer facts rights t k call)

  heard_so : (v : Verdict) → said ≡ v → heard answer facts.live (ruled fl facts rights t k call) ≡ v
  heard_so v is = sym (heard_is fl answer facts rights t k call) ∙ is

  -- the file lives, and no rule applies
  pub record Unstopped : Type 0 where
    pub live : facts.live ≡ true
    pub touching : touching fl facts call ≡ None
    pub needing : needing fl facts call ≡ None
    pub short : facts.short ≡ None

  pub complete : said ≡ Complete → Unstopped
  complete is =
      let none = no_ending answer facts.live (ruled fl facts rights t k call) (heard_so Complete is) in
      let free = none_first (conflicting rights k call) (touching fl facts call ∷ needing fl facts call ∷ lacking fl facts t ∷ []) none.1 in
      let clear = none_first (touching fl facts call) (needing fl facts call ∷ lacking fl facts t ∷ []) free.1 in
      let here = none_first (needing fl facts call) (lacking fl facts t ∷ []) clear.1 in
      let room = none_first (lacking fl facts t) [] here.1 in
      record { live = none.0; touching = clear.0; needing = here.0; short = no_lack (not fl.spaced && is_taken kind.NoSpace t) facts.short room.0 }

  -- only an abort ends an access by a response
  pub unaborted : (v : Verdict) → said ≡ v → ((response : Response) → v ≡ Answered response → ⊥) → is_abort answer ≡ false
  unaborted v is other = by answer (heard_so v is)
    where
      by : (answer : Option Response) → heard answer facts.live (ruled fl facts rights t k call) ≡ v → is_abort answer ≡ false
      by None is = refl
      by (Some Continue) is = refl
      by (Some (Abort error)) is = absurd (other (Abort error) (sym is))
      by (Some (Media fault)) is = absurd (other (Media fault) (sym is))

  pub answered : (response : Response) → said ≡ Answered response → is_lawful_answer answer ≡ true → IsAbort response
  answered response is lawful = ends_by answer facts.live (ruled fl facts rights t k call) response (heard_so (Answered response) is) lawful

  pub posted : (asked : Kind) → said ≡ Post asked → (facts.live ≡ true) × MayAsk call asked
  posted asked is =
      one_asks answer facts.live (ruled fl facts rights t k call) call asked (heard_so (Post asked) is)
      (first_asks (conflicting rights k call) (touching fl facts call) (needing fl facts call) (lacking fl facts t) call (conflicting_asks (conflict k (need_of call) no_token rights) call)
      (posts_asks (not fl.cleared && facts.touches) call) (posts_asks (fl.cleared && facts.needs) call) (lacking_asks (not fl.spaced && is_taken kind.NoSpace t) facts.short call))
