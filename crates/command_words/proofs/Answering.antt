-- What `clap` answers to names is the form that they have.
use Rattle.std.proofs.Common.{◌≡◌, ◌∙◌, true, false, refl, sym, ap, ap₂, subst, inl, inr, true≢false}
use Rattle.std.proofs.Common.{List, [], ◌∷◌, ◌++◌, Option, Some, None, is_some, codes, ◌==◌}
use Rattle.std.specs.List.{list_all}
use Rattle.std.specs.Str.{bytes_eq}
use Rattle.std.specs.Bool.{one_answer}
use Rattle.std.proofs.lemmas.Bool.{cases_Bool, and_parts, not-true}
use Rattle.std.proofs.lemmas.Slice.Eq.{bytes_eq-Decides}
use Rattle.clap.specs.Faults.{check_fault, defaults_fault, entered_fault, fault_of, is_simple_and_free, level_fault, settle_fault, walk_fault}
use Rattle.clap.specs.Kinds.{Kinds, or_else}
use Rattle.clap.specs.Lexer.{strip_byte}
use Rattle.clap.specs.Simple.{Shape, built, built_leaf, entered, inherited, is_simple, names_of, subcommand_of}
use Rattle.clap.specs.Walk.{Names, Text, Walk, finished, first_of, nothing_held, rows_after, settled, walk, walk_from}
use Rattle.clap.proofs.OnLiterals.{clap_on_literals}
use Rattle.clap.proofs.WalkLemmas.{walk_stopped}
use Rattle.command_words.specs.Commands.{Form, is_name, format_form, replay_form, show_form, drill_form, program_form}
use Rattle.command_words.specs.Programs.{all_programs, format_program, replay_program, show_program, drill_program, program_read, read_form}

-- a fault leaves no form
abbrev pub unless : Kinds → Option Form → Option Form
unless [] form = form
unless (k ∷ ks) form = None

-- the form that `clap` answers to the words
abbrev pub answer : List Text → Option Form
answer words = unless (fault_of all_programs words) (read_form (subcommand_of all_programs words))

pub programs_simple : is_simple all_programs ≡ true
unfolding clap_on_literals
programs_simple = refl

pub programs_free : is_simple_and_free all_programs ≡ true
unfolding clap_on_literals
programs_free = refl

-- ---- names are no flags

record IsPlain (word : Text) : Type 0 where
  no_dash : strip_byte 45 word ≡ None
  no_dashes : bytes_eq word (45 ∷ 45 ∷ []) ≡ false

plain : (word : Text) → is_name word ≡ true → IsPlain word
plain [] named = absurd (true≢false (sym named))
plain (x ∷ xs) named =
    let other : (x == 45) ≡ false = not-true (x == 45) named in
    record { no_dash = rw other refl; no_dashes = rw other refl }

-- ---- the words of one program

abbrev leaf : Shape → Shape
leaf program = built_leaf (inherited all_programs.top program)

abbrev leaf_fault : Shape → List Text → Kinds
leaf_fault program words = level_fault (leaf program) [] nothing_held words false []

abbrev leaf_read : Shape → List Text → Option Form
leaf_read program words = program_read program.name (λ id. first_of id (rows_after (leaf program).rules [] words))

abbrev leaf_answer : Shape → List Text → Option Form
leaf_answer program words = unless (leaf_fault program words) (leaf_read program words)

format_answer : (words : List Text) → list_all is_name words ≡ true → leaf_answer format_program words ≡ format_form words
unfolding clap_on_literals
format_answer [] named = refl
format_answer (a ∷ []) named =
    let p = plain a (and_parts _ _ named).0 in
    simp (p.no_dashes, p.no_dash) (refl {a = format_form (a ∷ [])})
format_answer (a ∷ b ∷ []) named =
    let n = and_parts _ _ named in
    let p = plain a n.0 in
    let q = plain b (and_parts _ _ n.1).0 in
    simp (p.no_dashes, p.no_dash, q.no_dashes, q.no_dash) (refl {a = format_form (a ∷ b ∷ [])})
format_answer (a ∷ b ∷ c ∷ more) named =
    let n = and_parts _ _ named in
    let m = and_parts _ _ n.1 in
    let p = plain a n.0 in
    let q = plain b m.0 in
    let r = plain c (and_parts _ _ m.1).0 in
    simp (p.no_dashes, p.no_dash, q.no_dashes, q.no_dash, r.no_dashes, r.no_dash) (refl {a = format_form (a ∷ b ∷ c ∷ more)})

replay_answer : (words : List Text) → list_all is_name words ≡ true → leaf_answer replay_program words ≡ replay_form words
unfolding clap_on_literals
replay_answer [] named = refl
replay_answer (a ∷ []) named =
    let p = plain a (and_parts _ _ named).0 in
    simp (p.no_dashes, p.no_dash) (refl {a = replay_form (a ∷ [])})
replay_answer (a ∷ b ∷ []) named =
    let n = and_parts _ _ named in
    let p = plain a n.0 in
    let q = plain b (and_parts _ _ n.1).0 in
    simp (p.no_dashes, p.no_dash, q.no_dashes, q.no_dash) (refl {a = replay_form (a ∷ b ∷ [])})
replay_answer (a ∷ b ∷ c ∷ more) named =
    let n = and_parts _ _ named in
    let m = and_parts _ _ n.1 in
    let p = plain a n.0 in
    let q = plain b m.0 in
    let r = plain c (and_parts _ _ m.1).0 in
    simp (p.no_dashes, p.no_dash, q.no_dashes, q.no_dash, r.no_dashes, r.no_dash) (refl {a = replay_form (a ∷ b ∷ c ∷ more)})

show_answer : (words : List Text) → list_all is_name words ≡ true → leaf_answer show_program words ≡ show_form words
unfolding clap_on_literals
show_answer [] named = refl
show_answer (a ∷ []) named =
    let p = plain a (and_parts _ _ named).0 in
    simp (p.no_dashes, p.no_dash) (refl {a = show_form (a ∷ [])})
show_answer (a ∷ b ∷ []) named =
    let n = and_parts _ _ named in
    let p = plain a n.0 in
    let q = plain b (and_parts _ _ n.1).0 in
    simp (p.no_dashes, p.no_dash, q.no_dashes, q.no_dash) (refl {a = show_form (a ∷ b ∷ [])})
show_answer (a ∷ b ∷ c ∷ more) named =
    let n = and_parts _ _ named in
    let m = and_parts _ _ n.1 in
    let p = plain a n.0 in
    let q = plain b m.0 in
    let r = plain c (and_parts _ _ m.1).0 in
    simp (p.no_dashes, p.no_dash, q.no_dashes, q.no_dash, r.no_dashes, r.no_dash) (refl {a = show_form (a ∷ b ∷ c ∷ more)})

drill_answer : (words : List Text) → list_all is_name words ≡ true → leaf_answer drill_program words ≡ drill_form words
unfolding clap_on_literals
drill_answer [] named = refl
drill_answer (a ∷ []) named =
    let p = plain a (and_parts _ _ named).0 in
    simp (p.no_dashes, p.no_dash) (refl {a = drill_form (a ∷ [])})
drill_answer (a ∷ b ∷ more) named =
    let n = and_parts _ _ named in
    let p = plain a n.0 in
    let q = plain b (and_parts _ _ n.1).0 in
    simp (p.no_dashes, p.no_dash, q.no_dashes, q.no_dash) (refl {a = drill_form (a ∷ b ∷ more)})

-- ---- the word before them

abbrev top : Shape
top = (built all_programs).top

abbrev names : Names
names = names_of (built all_programs)

-- behind a program's name no word is judged by the top
stopped_fault : (w : Walk) (name : Text) (seen words : List Text) → walk_fault top names (record w { stopped = Some (name, seen) }) words ≡ []
unfolding clap_on_literals
stopped_fault w name seen [] = refl
stopped_fault w name seen (x ∷ xs) = stopped_fault w name (seen ++ x ∷ []) xs

-- where the walk stands behind a program's name and its words
abbrev behind : Text → List Text → Walk
behind name words = record (walk_from nothing_held) { stopped = Some (name, words) }

-- the faults of a walk that ends so, after those of its turns
abbrev ended_fault : Walk → Kinds → Kinds
ended_fault end turns = or_else turns
    (or_else (entered_fault (built all_programs) end.stopped) (or_else (settle_fault top.rules top.args_override_self end.held)
    (or_else (defaults_fault (settled top.rules end.held).rows top.rules)
    (check_fault top (finished top.rules end.held) (is_some (entered (built all_programs) end.stopped))))))

abbrev ended_answer : Walk → Kinds → Option Form
ended_answer end turns = unless (ended_fault end turns) (read_form (entered (built all_programs) end.stopped))

answer_by : (words : List Text) (end : Walk) (turns : Kinds) → walk top.rules names nothing_held words ≡ end → walk_fault top names (walk_from nothing_held) words ≡ turns → answer words ≡ ended_answer end turns
unfolding clap_on_literals
answer_by words end turns walked faults = ap₂ ended_answer walked faults

walked_behind : (name : Text) (words : List Text) → walk top.rules names nothing_held (name ∷ words) ≡ behind name words → walk_fault top names (walk_from nothing_held) (name ∷ words) ≡ [] → answer (name ∷ words) ≡ ended_answer (behind name words) []
walked_behind name words walked faults = answer_by (name ∷ words) (behind name words) [] walked faults

or_else-nil : (ks : Kinds) → or_else ks [] ≡ ks
or_else-nil [] = refl
or_else-nil (k ∷ ks) = refl

named_answer : (program : Shape) (words : List Text) → unless (or_else (leaf_fault program words) []) (leaf_read program words) ≡ leaf_answer program words
named_answer program words = ap (λ ks. unless ks (leaf_read program words)) (or_else-nil (leaf_fault program words))

format_named : (words : List Text) → list_all is_name words ≡ true → answer (codes "format" ∷ words) ≡ format_form words
unfolding clap_on_literals
format_named words named =
    walked_behind (codes "format") words
    (sym (walk_stopped [] names (walk_from nothing_held) (codes "format") [] words))
    (stopped_fault (walk_from nothing_held) (codes "format") [] words)
    ∙ named_answer format_program words ∙ format_answer words named

replay_named : (words : List Text) → list_all is_name words ≡ true → answer (codes "replay" ∷ words) ≡ replay_form words
unfolding clap_on_literals
replay_named words named =
    walked_behind (codes "replay") words
    (sym (walk_stopped [] names (walk_from nothing_held) (codes "replay") [] words))
    (stopped_fault (walk_from nothing_held) (codes "replay") [] words)
    ∙ named_answer replay_program words ∙ replay_answer words named

show_named : (words : List Text) → list_all is_name words ≡ true → answer (codes "show" ∷ words) ≡ show_form words
unfolding clap_on_literals
show_named words named =
    walked_behind (codes "show") words
    (sym (walk_stopped [] names (walk_from nothing_held) (codes "show") [] words))
    (stopped_fault (walk_from nothing_held) (codes "show") [] words)
    ∙ named_answer show_program words ∙ show_answer words named

drill_named : (words : List Text) → list_all is_name words ≡ true → answer (codes "drill" ∷ words) ≡ drill_form words
unfolding clap_on_literals
drill_named words named =
    walked_behind (codes "drill") words
    (sym (walk_stopped [] names (walk_from nothing_held) (codes "drill") [] words))
    (stopped_fault (walk_from nothing_held) (codes "drill") [] words)
    ∙ named_answer drill_program words ∙ drill_answer words named

-- ---- a word that names no program

bytes_eq-sym : (a b : Text) → bytes_eq a b ≡ bytes_eq b a
bytes_eq-sym a b = one_answer (bytes_eq a b) (bytes_eq b a) (bytes_eq-Decides a b)
    ((λ t. sym ((bytes_eq-Decides b a).0 t)), (λ e. (bytes_eq-Decides b a).1 (sym e)))

stray_answer : (word : Text) (words : List Text) → is_name word ≡ true → bytes_eq word (codes "format") ≡ false → bytes_eq word (codes "replay") ≡ false
    → bytes_eq word (codes "show") ≡ false → bytes_eq word (codes "drill") ≡ false → answer (word ∷ words) ≡ program_form (word ∷ words)
unfolding clap_on_literals
stray_answer word words named f r s d =
    let p = plain word named in
    let f' = bytes_eq-sym (codes "format") word ∙ f in
    let r' = bytes_eq-sym (codes "replay") word ∙ r in
    let s' = bytes_eq-sym (codes "show") word ∙ s in
    let d' = bytes_eq-sym (codes "drill") word ∙ d in
    simp (f, r, s, d, f', r', s', d', p.no_dashes, p.no_dash) (refl {a = None})

-- ---- all words

abbrev Answers : List Text → Type 0
Answers words = answer words ≡ program_form words

answers_as : (word : Text) (name : Text) (words : List Text) → bytes_eq word name ≡ true → Answers (name ∷ words) → Answers (word ∷ words)
answers_as word name words same h = subst (λ w. Answers (w ∷ words)) (sym ((bytes_eq-Decides word name).0 same)) h

pub answers : (words : List Text) → list_all is_name words ≡ true → Answers words
unfolding clap_on_literals
answers [] named = refl
answers (word ∷ words) named =
    let n = and_parts _ _ named in
    elim (cases_Bool (bytes_eq word (codes "format"))) [
      | inl t ↦ answers_as word (codes "format") words t (format_named words n.1)
      | inr f ↦ elim (cases_Bool (bytes_eq word (codes "replay"))) [
        | inl t ↦ answers_as word (codes "replay") words t (replay_named words n.1)
        | inr r ↦ elim (cases_Bool (bytes_eq word (codes "show"))) [
          | inl t ↦ answers_as word (codes "show") words t (show_named words n.1)
          | inr s ↦ elim (cases_Bool (bytes_eq word (codes "drill"))) [
            | inl t ↦ answers_as word (codes "drill") words t (drill_named words n.1)
            | inr d ↦ stray_answer word words n.0 f r s d
          ]
        ]
      ]
    ]
