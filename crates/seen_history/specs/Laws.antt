-- What holds of a history on any disk, also on one that doesn't give back what was written.
use Rattle.std.specs.Prelude.{ℕ, ◌≡◌, ◌↔◌, Bool, IsTrue, List, [], ◌∷◌, take}
use Rattle.hsm_types.specs.declared.keys.FileKey.{FileKey}
use Rattle.hsm_types.specs.declared.stores.Superblock.{Superblock}
use Rattle.plain_model.specs.declared.entries.Action.{Action}
use Rattle.plain_model.specs.declared.entries.Actor.{Actor}
use Rattle.plain_model.specs.declared.entries.Answer.{Answer}
use Rattle.plain_model.specs.declared.entries.Entry.{Entry}
use Rattle.plain_model.specs.Exact.{IsOwn, IsOwnSeen}
use Rattle.plain_model.specs.Faults.{FaultIsLast}
use Rattle.plain_model.specs.Laws.{IsRunSeen, IsGoodFrom, IsPlain, state_at}
use Rattle.plain_model.specs.Legal.{Legal, After}
use Rattle.plain_model.specs.Plain.{File}
use Rattle.plain_model.specs.Seen.{IsSeen}
use Rattle.plain_model.specs.Side.{sides_of, side_after}
use Rattle.plain_model.specs.Stamps.{stamp}
use Rattle.plain_model.specs.Stands.{Stands}
use Rattle.plain_model.specs.State.{Held, State}
use Rattle.plain_model.specs.Step.{World, start, Allows, after}
use Rattle.seen_history.specs.Alike.{IsAlike, AreAlike}
use Rattle.seen_history.specs.Outlines.{StandsSeen}

-- an entry alike to this one may come
abbrev pub AllowsSeen : Type 0 → Superblock → World → Entry → Type 0
AllowsSeen Tells s W e = (f : Entry) × IsAlike Tells e f × Allows s W f

-- Legal but for bytes: each entry is so in the world that the entries before it leave, and a fault is the last one.
abbrev pub LegalSeen : Type 0 → Superblock → World → List Entry → Type 0
LegalSeen Tells s W [] = Unit {0}
LegalSeen Tells s W (e ∷ es) = AllowsSeen Tells s W e × FaultIsLast e es × LegalSeen Tells s (after W e) es

-- as a whole too: a legal history is alike to this one
abbrev pub IsLikeLegal : Type 0 → Superblock → World → List Entry → Type 0
IsLikeLegal Tells s W es = (fs : List Entry) × AreAlike Tells es fs × Legal s W fs

-- Seen from a plain map for which the opening stands the history is good but for bytes: it is legal so, and alike to a legal one; after each beginning of
-- it the store stands so for the world; and just as on a disk that tells, its mapped blocks and what sessions keep are those of the rules, its stamps are
-- those of the accesses, and its files are plain.
pub record IsGoodSeenFrom (Tells : Type 0) (s : Superblock) (base : ℕ) (h : Held) (es : List Entry) (P : List File) : Type 0 where
  pub legal : LegalSeen Tells s (start P) es
  pub like : IsLikeLegal Tells s (start P) es
  pub stands : (i : ℕ) → StandsSeen Tells (state_at s base h es i) (After (start P) (take i es))
  pub sides : (i : ℕ) → sides_of (state_at s base h es i).held.files ≡ side_after (start P) (sides_of h.files) (take i es)
  pub stamps : (i : ℕ) (k : FileKey) → (state_at s base h es i).stamps k ≡ stamp (start P) base k (take i es)
  pub plain : IsPlain P es

-- it is so from each such map
abbrev pub IsGoodSeen : Type 0 → Superblock → ℕ → Held → List Entry → Type 0
IsGoodSeen Tells s base h es = (P : List File) → Stands h.files P → IsGoodSeenFrom Tells s base h es P

-- each run is such, whether the disk tells or not
abbrev pub SeenIsGood : Bool → Superblock → ℕ → Held → List Entry → Type 0
SeenIsGood tells s base h es = IsRunSeen (IsTrue tells) s base h es → IsGoodSeen (IsTrue tells) s base h es

-- Where the disk tells this is what is said of a good run, word for word: each of the two gives the other.
pub record GoodWhereTold (s : Superblock) (base : ℕ) (h : Held) (es : List Entry) (P : List File) : Type 0 where
  pub good : IsGoodSeenFrom (Unit {0}) s base h es P → IsGoodFrom s base h es P
  pub seen : IsGoodFrom s base h es P → IsGoodSeenFrom (Unit {0}) s base h es P

-- Where it tells, nothing is seen but what is held; so what is so over files that are seen is so over those that are held.
abbrev pub SeenWhereTold : (held seen : Held) → Type 0
SeenWhereTold held seen = IsSeen (Unit {0}) held seen ↔ (seen ≡ held)

-- Then the answer over what is seen of files is the one over what is held, of each event.
abbrev pub OwnWhereTold : Superblock → State → Actor → Action → Answer → Type 0
OwnWhereTold s st actor action answer = IsOwnSeen (Unit {0}) s st actor action answer ↔ IsOwn s st actor action answer
