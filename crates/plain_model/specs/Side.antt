-- What stands beside the plain map after a history: which blocks are mapped and what sessions keep with files, by the rules over the effects that were
-- done.
use Rattle.std.specs.Prelude.{ℕ, List, [], ◌∷◌, length, map, Bool, if◌then◌else◌}
use Rattle.hsm_types.specs.Kept.{Kept, nothing_kept}
use Rattle.hsm_types.specs.declared.keys.FileKey.{FileKey}
use Rattle.hsm_types.specs.declared.keys.Sid.{Sid}
use Rattle.hsm_types.specs.declared.calls.Reply.{Reply}
use Rattle.hsm_types.specs.declared.dm.DmCall.{DmCall}
use Rattle.hsm_types.specs.declared.dm.DmReply.{DmReply}
use Rattle.hsm_types.specs.declared.dm.DmReply.TheVariants as told
use Rattle.plain_model.specs.declared.entries.Entry.{Entry}
use Rattle.plain_model.specs.declared.entries.Actor.{Actor}
use Rattle.plain_model.specs.declared.entries.Actor.TheVariants.{Caller, Session}
use Rattle.plain_model.specs.declared.entries.Action.{Action}
use Rattle.plain_model.specs.declared.entries.Action.TheVariants.{Issue, Resume, Dm}
use Rattle.plain_model.specs.declared.entries.Answer.{Answer}
use Rattle.plain_model.specs.declared.entries.Answer.TheVariants.{Call as Replied, Dm as Told}
use Rattle.hsm_types.specs.Keyed.{change_key, put_key, drop_key}
use Rattle.plain_model.specs.Effects.{Effect, Leaves, Makes, Drops, effect_of, Change, Nothing, OfFile, OfSessions, OfRights, Closes, change_of}
use Rattle.plain_model.specs.Plain.{File, key_by, body_of}
use Rattle.plain_model.specs.Ledger.{Meant, Fixed, Means, is_completion}
use Rattle.plain_model.specs.Blocks.{remapped}
use Rattle.plain_model.specs.State.{FileState, rekept}
use Rattle.plain_model.specs.Faults.{is_fault}
use Rattle.plain_model.specs.Step.{World, meant_for, after}

-- beside a file of the plain map: for each of its blocks whether it is mapped, and what sessions keep with it
pub record Side : Type 0 where
  pub key : FileKey
  pub mapped : List Bool
  pub kept : Kept

abbrev pub side_of : FileState → Side
side_of f = record { key = f.key; mapped = f.mapped; kept = f.kept }

abbrev pub sides_of : List FileState → List Side
sides_of files = map side_of files

-- after an effect on a file of that size
abbrev pub remade_side : Effect → ℕ → Side → Side
remade_side effect size x = record x { mapped = remapped effect size x.mapped; kept = rekept effect size x.kept }

-- the sides after an effect on the file of P with that key
abbrev pub affected_side : Effect → FileKey → List File → List Side → List Side
affected_side Leaves k P X = X
affected_side (Makes name) k P X = put_key (λ x. x.key) (record { key = k; mapped = []; kept = nothing_kept }) X
affected_side Drops k P X = drop_key (λ x. x.key) k X
affected_side effect k P X = change_key (λ x. x.key) k (remade_side effect (length (body_of k P))) X

abbrev pub side_replied : List File → Meant → Reply → List Side → List Side
side_replied P (Fixed fixed) reply X = X
side_replied P (Means k call) reply X = if is_completion reply then affected_side (effect_of call) (key_by k reply) P X else X

abbrev pub side_changed : Change → List File → List Side → List Side
side_changed Nothing P X = X
side_changed (OfFile k effect) P X = affected_side effect k P X
side_changed (OfSessions to) P X = X
side_changed (OfRights to) P X = X
side_changed (Closes sid token) P X = X

abbrev pub side_told : List File → Sid → DmCall → DmReply → List Side → List Side
side_told P sid call (told.Refused why) X = X
side_told P sid call reply X = side_changed (change_of sid call) P X

abbrev pub side_given : World → Actor → Action → Answer → List Side → List Side
side_given W (Caller c) (Issue call) (Replied reply) X = side_replied W.files (meant_for W c (Issue call)) reply X
side_given W (Caller c) Resume (Replied reply) X = side_replied W.files (meant_for W c Resume) reply X
side_given W (Session sid) (Dm call) (Told reply) X = side_told W.files sid call reply X
side_given W actor action answer X = X

-- the sides after these entries. A fault changes nothing
abbrev pub side_after : World → List Side → List Entry → List Side
side_after W X [] = X
side_after W X (e ∷ es) = side_after (after W e) (if is_fault e.answer then X else side_given W e.actor e.action e.answer X) es
