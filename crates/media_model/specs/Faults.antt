-- A drive in memory some of whose calls fail, and some of whose objects are damaged.
use Rattle.std.specs.Prelude.{◌≡◌, ◌⊎◌, ℕ, Bool, true, ◌&&◌, List, [], ◌∷◌, ◌++◌, length, take, reverse, find, nat_eq, if◌then◌else◌, Option, None}
use Rattle.std.specs.Prelude.{Some, is_some, Result, Err, slice_set}
use Rattle.std.specs.Option.{option_map_or}
use Rattle.disk_model.specs.Calls.{raised}
use Rattle.media_model.specs.Memory.{Held, volume_in, has_volume, with_object, change_volume, Appends}
use Rattle.media_model.specs.declared.drive.DriveRefusal.{DriveRefusal}
use Rattle.media_model.specs.declared.drive.DriveRefusal.TheVariants.{Failed, Memory}
use Rattle.media_model.specs.declared.memory.FailingCall.{FailingCall}
use Rattle.media_model.specs.declared.memory.Damage.{Damage}

pub record Faulty : Type 0 where
  pub held : Held
  -- how many calls were made
  pub calls : ℕ
  pub failing : List FailingCall
  -- the last one of an object counts
  pub damage : List Damage
  pub faults : ℕ

-- the call that is made next, if it is to fail
abbrev pub failing_now : Faulty → Option FailingCall
failing_now d = find (λ call. nat_eq call.number d.calls) d.failing

abbrev pub fails_now : Faulty → Bool
fails_now d = is_some (failing_now d)

-- ---- what is answered

abbrev pub answered : {T : Type 0} → Faulty → Result T DriveRefusal → Result T DriveRefusal
answered d answer = if fails_now d then Err Failed else answer

-- ---- what is left

abbrev pub one_call : Faulty → Faulty
one_call d = record d { calls = raised d.calls }

abbrev pub failed_call : Faulty → Faulty
failed_call d = record d { calls = raised d.calls; faults = raised d.faults }

-- after a call that leaves this where it doesn't fail
abbrev pub after_call : Faulty → Held → Faulty
after_call d held = if fails_now d then failed_call d else record (one_call d) { held = held }

abbrev pub is_of : ℕ → ℕ → Damage → Bool
is_of v object x = nat_eq x.volume v && nat_eq x.object object

abbrev pub damaged : ℕ → ℕ → List ℕ → Faulty → Faulty
damaged v object bytes d = record d { held = change_volume v (λ x. record x { objects = slice_set x.objects object bytes }) d.held; damage = d.damage ++ (record { volume = v; object = object; bytes = bytes }) ∷ [] }

-- the number that the next object of the volume has
abbrev pub next_in : ℕ → Held → ℕ
next_in v held = option_map_or (λ x. length x.objects) (volume_in v held) 0

-- what the drive stores where these bytes are appended
abbrev pub stored : ℕ → List ℕ → Faulty → List ℕ
stored v bytes d = option_map_or (λ x. x.bytes) (find (is_of v (next_in v d.held)) (reverse d.damage)) bytes

-- what a failing append leaves: what was held, or a prefix of the bytes as one object more
abbrev pub kept_in : ℕ → List ℕ → Option ℕ → Held → Held
kept_in v bytes None held = held
kept_in v bytes (Some n) held = change_volume v (with_object (take n bytes)) held

-- An append that is to fail. Memory may lack for the object that it is to put, and then all is as before.
abbrev pub FailsAppend : Result ℕ DriveRefusal → ℕ → List ℕ → Option ℕ → Faulty → Faulty → Type 0
FailsAppend result v bytes kept old new = ((result ≡ Err Memory) × (is_some kept ≡ true) × (has_volume v old.held ≡ true) × (new ≡ old)) ⊎ ((result ≡ Err Failed) × (new ≡ record (failed_call old) { held = kept_in v bytes kept old.held }))

-- An append that isn't to fail. Where memory lacks, it doesn't count as a call.
pub record AppendsNow (result : Result ℕ DriveRefusal) (v : ℕ) (bytes : List ℕ) (old new : Faulty) : Type 0 where
  pub held : Appends result v (length bytes) (stored v bytes old) old.held new.held
  pub counted : ((result ≡ Err Memory) × (new ≡ old)) ⊎ ((result ≡ Err Memory → ⊥) × (new ≡ record (one_call old) { held = new.held }))

abbrev pub AppendsAs : Option FailingCall → Result ℕ DriveRefusal → ℕ → List ℕ → Faulty → Faulty → Type 0
AppendsAs None result v bytes old new = AppendsNow result v bytes old new
AppendsAs (Some call) result v bytes old new = FailsAppend result v bytes call.kept old new
