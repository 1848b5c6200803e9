-- What lines that are no events spell, and why nothing else.
use Rattle.std.proofs.Common.{◌≡◌, ◌≢◌, ℕ, inl, inr, ◌⊎◌, List, ◌∷◌, ◌++◌, refl, sym, ap, ◌∙◌, subst}
use Rattle.std.specs.Prelude.{codes, if◌then◌else◌}
use Rattle.std.specs.List.{AllByRecursion}
use Rattle.std.specs.Str.{bytes_eq}
use Rattle.hsm_types.specs.declared.daemons.Daemon.{Daemon}
use Rattle.hsm_types.specs.declared.daemons.Daemon.TheVariants.{Recall, Migrate}
use Rattle.script_text.specs.declared.lines.Line.{Line}
use Rattle.script_text.specs.declared.lines.Line.TheVariants.{Event, Start, Kill, Step, Settle}
use Rattle.script_text.specs.Lines.{daemon_word, line_words, line_text, IsLine}
use Rattle.script_text.specs.Reading.{Lacks, IsNoEvent}
use Rattle.script_text.proofs.Cutting.{Lacks-not, cut_same}
use Rattle.script_text.proofs.Spelling.{Lacks-computed}

-- ---- a line that is no event is got back from its text

abbrev line_at : List ℕ → Line
line_at text =
    if bytes_eq text (codes "start recall") then Start Recall
    else if bytes_eq text (codes "start migrate") then Start Migrate
    else if bytes_eq text (codes "kill recall") then Kill Recall
    else if bytes_eq text (codes "kill migrate") then Kill Migrate
    else if bytes_eq text (codes "step recall") then Step Recall
    else if bytes_eq text (codes "step migrate") then Step Migrate
    else Settle

line_at-text : (line : Line) → IsNoEvent line → line_at (line_text line) ≡ line
line_at-text (Event actor action seed) h = absurd h
line_at-text (Start Recall) h = refl
line_at-text (Start Migrate) h = refl
line_at-text (Kill Recall) h = refl
line_at-text (Kill Migrate) h = refl
line_at-text (Step Recall) h = refl
line_at-text (Step Migrate) h = refl
line_at-text Settle h = refl

pub one_no_event : (x y : Line) → IsNoEvent x → IsNoEvent y → line_text x ≡ line_text y → x ≡ y
one_no_event x y h k e = sym (line_at-text x h) ∙ ap line_at e ∙ line_at-text y k

pub no_event_lawful : (line : Line) → IsNoEvent line → IsLine line
no_event_lawful (Event actor action seed) h = absurd h
no_event_lawful line h = tt

-- it has no newline
Lacks-daemon : (daemon : Daemon) → Lacks 10 (daemon_word daemon)
Lacks-daemon Recall = Lacks-computed 10 (codes "recall") refl
Lacks-daemon Migrate = Lacks-computed 10 (codes "migrate") refl

pub Lacks-no_event : (line : Line) → IsNoEvent line → AllByRecursion (Lacks 10) (line_words line)
Lacks-no_event (Event actor action seed) h = absurd h
Lacks-no_event (Start daemon) h = (Lacks-computed 10 (codes "start") refl, (Lacks-daemon daemon, tt))
Lacks-no_event (Kill daemon) h = (Lacks-computed 10 (codes "kill") refl, (Lacks-daemon daemon, tt))
Lacks-no_event (Step daemon) h = (Lacks-computed 10 (codes "step") refl, (Lacks-daemon daemon, tt))
Lacks-no_event Settle h = (Lacks-computed 10 (codes "settle") refl, tt)

-- ---- what its first space cuts

-- no space
pub no_event_uncut : (text : List ℕ) (line : Line) → IsNoEvent line → Lacks 32 text → text ≢ codes "settle" → text ≡ line_text line → ⊥
no_event_uncut text (Event actor action seed) k h other same = k
no_event_uncut text (Start daemon) k h other same = Lacks-not 32 (codes "start") (daemon_word daemon) (rw same at h)
no_event_uncut text (Kill daemon) k h other same = Lacks-not 32 (codes "kill") (daemon_word daemon) (rw same at h)
no_event_uncut text (Step daemon) k h other same = Lacks-not 32 (codes "step") (daemon_word daemon) (rw same at h)
no_event_uncut text Settle k h other same = other same

abbrev pub IsVerb : List ℕ → Type 0
IsVerb word = (word ≡ codes "start") ⊎ ((word ≡ codes "kill") ⊎ (word ≡ codes "step"))

pub no_other_verb : (word : List ℕ) → word ≢ codes "start" → word ≢ codes "kill" → word ≢ codes "step" → ¬ (IsVerb word)
no_other_verb word no_start no_kill no_step (inl start) = no_start start
no_other_verb word no_start no_kill no_step (inr (inl kill)) = no_kill kill
no_other_verb word no_start no_kill no_step (inr (inr step)) = no_step step

-- a verb and a daemon
pub record IsOfDaemon (verb rest : List ℕ) : Type 0 where
  pub is_verb : IsVerb verb
  pub daemon : Daemon
  pub named : rest ≡ daemon_word daemon

of_daemon : (verb rest word : List ℕ) (daemon : Daemon) → IsVerb word → Lacks 32 word → Lacks 32 verb → verb ++ 32 ∷ rest ≡ word ++ 32 ∷ daemon_word daemon → IsOfDaemon verb rest
of_daemon verb rest word daemon is lacks h same =
    let both = cut_same 32 verb rest word (daemon_word daemon) h lacks same in
    record { is_verb = rw both.0 is; daemon = daemon; named = both.1 }

pub no_event_cut : (verb rest : List ℕ) (line : Line) → IsNoEvent line → Lacks 32 verb → verb ++ 32 ∷ rest ≡ line_text line → IsOfDaemon verb rest
no_event_cut verb rest (Event actor action seed) k h same = absurd k
no_event_cut verb rest (Start daemon) k h same = of_daemon verb rest (codes "start") daemon (inl refl) (Lacks-computed 32 (codes "start") refl) h same
no_event_cut verb rest (Kill daemon) k h same = of_daemon verb rest (codes "kill") daemon (inr (inl refl)) (Lacks-computed 32 (codes "kill") refl) h same
no_event_cut verb rest (Step daemon) k h same = of_daemon verb rest (codes "step") daemon (inr (inr refl)) (Lacks-computed 32 (codes "step") refl) h same
no_event_cut verb rest Settle k h same = absurd (Lacks-not 32 verb rest (subst (Lacks 32) (sym same) (Lacks-computed 32 (codes "settle") refl)))
