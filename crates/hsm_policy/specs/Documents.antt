-- Which text is one of settings, and of which: a TOML document whose keys are among six names, each with a whole number. A key that isn't there stands
-- for its standard number.
use Rattle.std.specs.Prelude.{◌≡◌, ℕ, pos, ℤ, List, [], ◌∷◌, Option, Some, None, IsSome, Contains, IsUtf8, codes}
use Rattle.toml.specs.Data.{Data, Members, get_member, as_integer}
use Rattle.toml.specs.Parse.{parse_document}
use Rattle.hsm_policy.specs.Settings.{Numbers, standard, AreSettings}

abbrev pub names : List (List ℕ)
names = codes "drives" ∷ codes "volumes" ∷ codes "capacity" ∷ codes "high" ∷ codes "low" ∷ codes "workers" ∷ []

-- the whole number of a value. Where there is no value, the standard one
abbrev pub number_or : ℕ → Option Data → Option ℤ
number_or normal None = Some (pos normal)
number_or normal (Some value) = as_integer value

-- the document says that number under that name
abbrev pub Says : Members → List ℕ → ℕ → ℕ → Type 0
Says document name normal n = number_or normal (get_member name document) ≡ Some (pos n)

-- each key of the document is one of the names
abbrev pub HasNamesAlone : Members → Type 0
HasNamesAlone document = (key : List ℕ) → IsSome (get_member key document) → Contains names key

-- the document says these settings
pub record SaysSettings (document : Members) (s : Numbers) : Type 0 where
  pub named : HasNamesAlone document
  pub drives : Says document (codes "drives") standard.drives s.drives
  pub volumes : Says document (codes "volumes") standard.volumes s.volumes
  pub capacity : Says document (codes "capacity") standard.capacity s.capacity
  pub high : Says document (codes "high") standard.high s.high
  pub low : Says document (codes "low") standard.low s.low
  pub workers : Says document (codes "workers") standard.workers s.workers
  pub within : AreSettings s

-- the text is a TOML document that says these settings
abbrev pub IsTextOf : List ℕ → Numbers → Type 0
IsTextOf text s = IsUtf8 text × ((document : Members) × (parse_document text ≡ Some document) × SaysSettings document s)
