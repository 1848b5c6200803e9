-- The forms of the words.
use Rattle.std.specs.Prelude.{ℕ, ◌^◌, ◌==◌, ◌&&◌, List, [], ◌∷◌, Option, Some, None, Bool, false, not, codes, nat_lt, if◌then◌else◌}
use Rattle.std.specs.Fmt.{decimal}
use Rattle.std.specs.List.{list_all}
use Rattle.std.specs.Option.{option_map}
use Rattle.std.specs.Str.{bytes_eq}
use Rattle.std.specs.Str.Parse.{digits_value}
use Rattle.byteorder.specs.Endian.{big_number}
use Rattle.sha2.specs.Sha256.{sha256}
use Rattle.command_words.specs.declared.commands.StoreSize.{StoreSize}
use Rattle.command_words.specs.declared.commands.StoreSize.TheVariants.{Small, Large}
use Rattle.command_words.specs.declared.commands.Command.{Command}
use Rattle.command_words.specs.declared.commands.Command.TheVariants as commands

-- what the words of the command line ask for
pub data Form : Type 0 where
  -- an empty store of that size on the disk of that name
  Format : List ℕ → StoreSize → Form
  -- the script from the source, on a new small store in memory
  Replay : Form
  -- the same on the store of the disk of that name, with the volumes of that folder
  ReplayStore : List ℕ → List ℕ → Form
  -- the store of the disk of that name, shown
  Show : List ℕ → Form
  -- the same with the classes of its objects, over the volumes of that folder
  ShowVolumes : List ℕ → List ℕ → Form
  -- the script that is made of that number
  Drill : ℕ → Form

abbrev pub form_in : Command → Form
form_in (commands.Format path size) = Format path.now size
form_in commands.Replay = Replay
form_in (commands.ReplayStore path dir) = ReplayStore path.now dir.now
form_in (commands.Show path) = Show path.now
form_in (commands.ShowVolumes path dir) = ShowVolumes path.now dir.now
form_in (commands.Drill number) = Drill number

-- the number of a size's geometry on a disk
abbrev pub geometry_number : StoreSize → ℕ
geometry_number Small = 0
geometry_number Large = 1

abbrev pub size_named : List ℕ → Option StoreSize
size_named word = if bytes_eq word (codes "small") then Some Small else (if bytes_eq word (codes "large") then Some Large else None)

-- the file system id of a store that is formatted under a path: the first 8 bytes of the digest of the path, big-endian
abbrev pub fsid_of : List ℕ → ℕ
fsid_of path = big_number 8 (sha256 path)

-- the number of 64 bits that the word spells in decimal, without a sign or leading zeros
abbrev pub number_named : List ℕ → Option ℕ
number_named word =
    let n = digits_value 10 word in
    if nat_lt n (2 ^ 64) && bytes_eq word (decimal n) then Some n else None

-- a word that can name a file is neither empty nor begins with `-`
abbrev pub is_name : List ℕ → Bool
is_name [] = false
is_name (first ∷ rest) = not (first == 45)

-- `format PATH small` and `format PATH large`
abbrev pub format_form : List (List ℕ) → Option Form
format_form (path ∷ size ∷ []) = option_map (Format path) (size_named size)
format_form _ = None

-- `replay` and `replay PATH DIR`
abbrev pub replay_form : List (List ℕ) → Option Form
replay_form [] = Some Replay
replay_form (path ∷ dir ∷ []) = Some (ReplayStore path dir)
replay_form _ = None

-- `show PATH` and `show PATH DIR`
abbrev pub show_form : List (List ℕ) → Option Form
show_form (path ∷ []) = Some (Show path)
show_form (path ∷ dir ∷ []) = Some (ShowVolumes path dir)
show_form _ = None

-- `drill N`
abbrev pub drill_form : List (List ℕ) → Option Form
drill_form (number ∷ []) = option_map Drill (number_named number)
drill_form _ = None

-- the first word names the program, and the others are what it works on
abbrev pub program_form : List (List ℕ) → Option Form
program_form [] = None
program_form (program ∷ words) =
    if bytes_eq program (codes "format") then format_form words
    else (if bytes_eq program (codes "replay") then replay_form words
    else (if bytes_eq program (codes "show") then show_form words
    else (if bytes_eq program (codes "drill") then drill_form words else None)))

-- the form that the words have, if they have one. No word is empty or begins with `-`
abbrev pub form_of : List (List ℕ) → Option Form
form_of words = if list_all is_name words then program_form words else None
