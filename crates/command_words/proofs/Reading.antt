-- The form that the matches of a parse make.
use Rattle.std.proofs.Common.{◌≡◌, ◌≢◌, ◌∙◌, true, refl, sym, ap, ap₂, inl, inr, List, [], ◌∷◌}
use Rattle.std.proofs.Common.{Option, Some, None, Result, Ok, Err, IfOk, IfErr, unwrap_or, option_map}
use Rattle.std.specs.List.{list_all}
use Rattle.std.specs.Prelude.{Box}
use Rattle.std.specs.Box.{box_value}
use Rattle.clap.specs.Faults.{fault_of, is_simple_and_free}
use Rattle.clap.specs.Kinds.{FailsBy, IsAmong, Kinds}
use Rattle.clap.specs.Matches.{first_value, subcommand_name_of}
use Rattle.clap.specs.Simple.{App, HasMatchesOf, is_simple, subcommand_of, subcommand_rows, subcommand_rows_of}
use Rattle.clap.specs.Values.{kind_of}
use Rattle.clap.specs.Walk.{Row, Text, first_of, rows_of}
use Rattle.clap.specs.declared.error.Error.{Error}
use Rattle.clap.specs.declared.error.kind.ErrorKind.{ErrorKind}
use Rattle.clap.specs.declared.error.kind.ErrorKind.TheVariants.{OutOfMemory}
use Rattle.clap.specs.declared.parser.matches.ArgMatches.{ArgMatches}
use Rattle.clap.specs.declared.parser.matches.ArgMatches.TheViews.{out-ArgMatches, out-SubCommand}
use Rattle.clap.specs.declared.parser.matches.Found.{Found}
use Rattle.clap.specs.declared.parser.matches.SubCommand.{SubCommand}
use Rattle.clap.proofs.WalkLemmas.{first_value-rows}
use Rattle.command_words.specs.Commands.{Form, form_of, is_name}
use Rattle.command_words.specs.Programs.{all_programs, program_read, read_form}
use Rattle.command_words.proofs.Answering.{answer, answers, programs_free, programs_simple, unless}

-- ---- the subcommand's name and its words

module _ {Z : Type 0} (name : Text) (rows : List Row) where
  by_rows : (o : Option (Box SubCommand Z)) → Some name ≡ option_map (λ b. (out-SubCommand (box_value b)).name.now) o
      → Some rows ≡ option_map (λ p. p.1) (subcommand_rows o) → program_read name (λ id. first_of id rows) ≡ read_form (subcommand_rows o)
  by_rows None n r = cc
  by_rows (Some b) n r = ap₂ (λ (called : Text) (given : List Row). program_read called (λ id. first_of id given)) (ap (λ o. unwrap_or o name) n) (ap (λ o. unwrap_or o rows) r)

pub program_read-rows : (m : ArgMatches) (name : Text) (words : Found) → Some name ≡ subcommand_name_of m
    → Some (rows_of words) ≡ option_map (λ p. p.1) (subcommand_rows_of m) → program_read name (first_value words) ≡ read_form (subcommand_rows_of m)
program_read-rows m name words called given =
    let by_value : first_value words ≡ (λ id. first_of id (rows_of words)) = λ i id. first_value-rows words id i in
    ap (program_read name) by_value ∙ by_rows name (rows_of words) (out-ArgMatches m).subcommand called given

-- ---- what `clap` answers

fault_leaves : (ks : Kinds) (form : Option Form) (k : ErrorKind) → IsAmong k ks → unless ks form ≡ None
fault_leaves [] form k among = absurd among
fault_leaves (x ∷ ks) form k among = refl

module _ (app : App) (words : List Text) (same : app ≡ all_programs) (named : list_all is_name words ≡ true) where
  form_is : answer words ≡ form_of words
  form_is = answers words named ∙ rw named refl

  free : is_simple_and_free app ≡ true
  free = ap is_simple_and_free same ∙ programs_free

  fault_is : fault_of app words ≡ fault_of all_programs words
  fault_is = ap (λ a. fault_of a words) same

  taken : (m : ArgMatches) → HasMatchesOf app words m → fault_of app words ≡ [] → read_form (subcommand_rows_of m) ≡ form_of words
  taken m matches no_fault =
      let subcommand = (matches (ap is_simple same ∙ programs_simple)).1 ∙ ap (λ a. subcommand_of a words) same in
      ap read_form subcommand ∙ sym (ap (λ ks. unless ks (read_form (subcommand_of all_programs words))) (sym fault_is ∙ no_fault)) ∙ form_is

  refused : (k : ErrorKind) → IsAmong k (fault_of app words) → form_of words ≡ None
  refused k among =
      let read = read_form (subcommand_of all_programs words) in
      sym form_is ∙ sym (ap (λ ks. unless ks read) fault_is) ∙ fault_leaves (fault_of app words) read k among

  pub taken_form : (r : Result ArgMatches Error) → IfOk r (HasMatchesOf app words) → (is_simple_and_free app ≡ true → FailsBy (fault_of app words) r)
      → IfOk r (λ m. read_form (subcommand_rows_of m) ≡ form_of words)
  taken_form (Ok m) matches fails = taken m matches (fails free)
  taken_form (Err e) matches fails = tt

  pub refused_form : (r : Result ArgMatches Error) → (is_simple_and_free app ≡ true → FailsBy (fault_of app words) r) → IfErr r (λ e. kind_of e ≢ OutOfMemory → form_of words ≡ None)
  refused_form (Ok m) fails = tt
  refused_form (Err e) fails = λ other. elim (fails free) [
    | inl memory ↦ absurd (other memory)
    | inr among ↦ refused (kind_of e) among
  ]
