-- Drives in memory: what they hold, and what their calls make of it.
use Rattle.std.specs.Prelude.{Bool, true, is_some, refl, ◌≡◌, ◌⊎◌, ℕ, ◌+◌, ◌≤◌, ◌<◌, ◌^◌, List, [], ◌∷◌, ◌++◌, length, nat_eq, nat_lt, if◌then◌else◌}
use Rattle.std.specs.Prelude.{Option, None, Some, Result, Ok, Err, IsOk, OnOk, OnErr, slice_get}
use Rattle.std.proofs.Common.{sym, ap}
use Rattle.std.proofs.lemmas.Bool.{false≢true}
use Rattle.std.proofs.lemmas.Option.{none-some}
use Rattle.std.specs.List.{All}
use Rattle.std.specs.Map.{lookup, set_value}
use Rattle.std.specs.Option.{option_map, option_map_or, unwrap_or}
use Rattle.media_model.specs.Objects.{Objects, size_of}
use Rattle.media_model.specs.declared.drive.DriveRefusal.{DriveRefusal}
use Rattle.media_model.specs.declared.drive.DriveRefusal.TheVariants.{Full, NoVolume, NoObject, Memory}

pub record Volume : Type 0 where
  pub objects : Objects
  -- how many of them last, from the first on
  pub lasting : ℕ

pub record Held : Type 0 where
  -- by their numbers
  pub volumes : List (ℕ × Volume)
  -- the bytes that the objects of each may have together
  pub capacity : ℕ

abbrev pub no_objects : Volume
no_objects = record { objects = []; lasting = 0 }

-- what each volume keeps: objects that are short and few, and how many bytes they have
pub record IsVolume (objects : Objects) (used lasting : ℕ) : Type 0 where
  pub counted : used ≡ size_of objects
  pub short : All (λ bytes. length bytes < 2 ^ 32) objects
  pub few : length objects < 2 ^ 32
  pub last : lasting ≤ length objects

-- ---- what is there

abbrev pub volume_in : ℕ → Held → Option Volume
volume_in v held = lookup (nat_eq v) held.volumes

abbrev pub objects_in : ℕ → Held → Option Objects
objects_in v held = option_map (λ x. x.objects) (volume_in v held)

abbrev pub has_volume : ℕ → Held → Bool
has_volume v held = is_some (volume_in v held)

-- the objects of the volume are these
abbrev pub AreObjects : Held → ℕ → Objects → Type 0
AreObjects held v objects = objects_in v held ≡ Some objects

abbrev pub lasting_in : ℕ → Held → ℕ
lasting_in v held = option_map_or (λ x. x.lasting) (volume_in v held) 0

-- the objects of the volume, or none where it isn't there
abbrev pub content_in : ℕ → Held → Objects
content_in v held = unwrap_or (objects_in v held) []

-- ---- what is answered

-- of a volume, where it is there
abbrev pub of_volume : {T : Type 0} → (Volume → Result T DriveRefusal) → Option Volume → Result T DriveRefusal
of_volume told None = Err NoVolume
of_volume told (Some x) = told x

-- what is told of the bytes of an object
abbrev pub of_bytes : {T : Type 0} → (List ℕ → T) → Option (List ℕ) → Result T DriveRefusal
of_bytes told None = Err NoObject
of_bytes told (Some bytes) = Ok (told bytes)

abbrev pub of_object : {T : Type 0} → (List ℕ → T) → ℕ → Option Volume → Result T DriveRefusal
of_object told object volume = of_volume (λ x. of_bytes told (slice_get x.objects object)) volume

-- the number of an object of so many bytes more
abbrev pub number_in : ℕ → ℕ → Volume → Result ℕ DriveRefusal
number_in len capacity x = if nat_lt capacity (size_of x.objects + len) then Err (Full (size_of x.objects) len capacity) else Ok (length x.objects)

-- ---- what is left

abbrev pub with_object : List ℕ → Volume → Volume
with_object bytes x = record x { objects = x.objects ++ bytes ∷ [] }

abbrev pub synced : Volume → Volume
synced x = record x { lasting = length x.objects }

-- after a change of the volume, where it is there
abbrev pub change_entry : ℕ → (Volume → Volume) → List (ℕ × Volume) → List (ℕ × Volume)
change_entry v change volumes = option_map_or (λ x. set_value (nat_eq v) volumes (change x)) (lookup (nat_eq v) volumes) volumes

abbrev pub change_volume : ℕ → (Volume → Volume) → Held → Held
change_volume v change held = record held { volumes = change_entry v change held.volumes }

-- The append of an object of so many bytes, which is stored as these. Memory may lack where the object fits, and then all is as before.
pub record Appends (result : Result ℕ DriveRefusal) (v len : ℕ) (stored : List ℕ) (old new : Held) : Type 0 where
  pub answer : ((result ≡ Err Memory) × IsOk (of_volume (number_in len old.capacity) (volume_in v old))) ⊎ (result ≡ of_volume (number_in len old.capacity) (volume_in v old))
  pub ok : OnOk result (new ≡ change_volume v (with_object stored) old)
  pub err : OnErr result (new ≡ old)

-- a volume whose objects are told is there, and the other way round
pub gives_has : (held : Held) (v : ℕ) (objects : Objects) → AreObjects held v objects → has_volume v held ≡ true
gives_has held v objects given = by (volume_in v held) given
  where
    by : (o : Option Volume) → option_map (λ x. x.objects) o ≡ Some objects → is_some o ≡ true
    by None given = absurd (none-some objects given)
    by (Some x) given = refl

pub has_gives : (held : Held) (v : ℕ) → has_volume v held ≡ true → (objects : Objects) × AreObjects held v objects
has_gives held v there = by (volume_in v held) there
  where
    by : (o : Option Volume) → is_some o ≡ true → (objects : Objects) × (option_map (λ x. x.objects) o ≡ Some objects)
    by None there = absurd (false≢true there)
    by (Some x) there = (x.objects, refl)

-- objects that are told are the volume's
pub gives_content : (held : Held) (v : ℕ) (objects : Objects) → AreObjects held v objects → objects ≡ content_in v held
gives_content held v objects given = sym (ap (λ (o : Option Objects). unwrap_or o []) given)
