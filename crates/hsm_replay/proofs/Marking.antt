-- The marks of deeds one behind the other, and which entries they tell.
use Rattle.std.proofs.Common.{◌≡◌, ◌∙◌, ◌++◌, ◌∷◌, [], List, Option, None, Some, refl, ap}
use Rattle.std.specs.List.{cons_option}
use Rattle.std.specs.Option.{option_map}
use Rattle.std.proofs.lemmas.List.Elements.{filter_map-append}
use Rattle.hsm_types.specs.declared.daemons.Act.{Act}
use Rattle.hsm_types.specs.declared.daemons.Act.TheVariants as act
use Rattle.hsm_types.specs.declared.daemons.Daemon.{Daemon}
use Rattle.hsm_types.specs.declared.daemons.Heard.{Heard}
use Rattle.hsm_types.specs.declared.daemons.Heard.TheVariants as heard
use Rattle.plain_model.specs.declared.entries.Entry.{Entry}
use Rattle.deeds.specs.Deeds.{Deed, Enters, Hears, Breaks, call_told, entry_in, entries_of}
use Rattle.marked_history.specs.Marks as marked
use Rattle.marked_history.specs.Marks.{Mark}
use Rattle.hsm_replay.specs.Marking.{call_mark, mark_in, marks_of}

pub marks_then : (xs ys : List Deed) → marks_of (xs ++ ys) ≡ marks_of xs ++ marks_of ys
marks_then xs ys = filter_map-append mark_in xs ys

abbrev entry_at : Mark → Entry
entry_at m = m.entry

call_entry : (daemon : Daemon) (asked : Act) (told : Heard) → option_map entry_at (call_mark daemon asked told) ≡ call_told asked told
call_entry daemon (act.Dm sid call) (heard.Dm reply) = refl
call_entry daemon asked told = refl

mark_entry : (deed : Deed) → option_map entry_at (mark_in deed) ≡ entry_in deed
mark_entry (Enters e) = refl
mark_entry (Hears daemon asked told) = call_entry daemon asked told
mark_entry (Breaks daemon sid call) = refl
mark_entry deed = refl

entry_more : (o : Option Mark) (ms : List Mark) → marked.entries_of (cons_option o ms) ≡ cons_option (option_map entry_at o) (marked.entries_of ms)
entry_more None ms = refl
entry_more (Some m) ms = refl

pub marks_tell : (deeds : List Deed) → marked.entries_of (marks_of deeds) ≡ entries_of deeds
marks_tell [] = refl
marks_tell (deed ∷ deeds) = entry_more (mark_in deed) (marks_of deeds) ∙ ap (λ (o : Option Entry). cons_option o (marked.entries_of (marks_of deeds))) (mark_entry deed) ∙ ap (cons_option (entry_in deed)) (marks_tell deeds)
