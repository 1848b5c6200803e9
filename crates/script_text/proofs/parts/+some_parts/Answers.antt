use Rattle.std.proofs.Common.{List, length, take, drop, get_or, ◌-◌, sym, ◌∙◌}
use Rattle.call_forms.specs.declared.parts.PartKind.{PartKind}
use Rattle.call_forms.specs.declared.parts.PartKind.TheVariants as kinds
use Rattle.script_text.specs.Reading.{read_text, parts_text}
use Rattle.script_text.proofs.Cutting.{Lacks-not, cut_same}
use Rattle.script_text.proofs.Parting.{split_kinds, some_more, begins_at}
use Rattle.script_text.proofs.parts.+some_parts.Goals as goal

pub returns-in_default : goal.returns-in_default
returns-in_default t c x h same =
    let ks : List PartKind = c.args.kinds.now in
    let more : List PartKind = take (length ks - 1) (drop 1 ks) in
    let b = begins_at ks (get_or ks 0 kinds.Number) more c.args.text.now x (split_kinds ks c.requires.some) (some_more (length more) c.is_empty.result c.is_empty.ensures c.if-is_empty.false) c.requires.signature h same in
    Lacks-not 32 (read_text b.first) (parts_text b.others) (rw b.spelled at c.in_default.ensures)

pub returns-in_default-2 : goal.returns-in_default-2
returns-in_default-2 t c x h same =
    let ks : List PartKind = c.args.kinds.now in
    let more : List PartKind = take (length ks - 1) (drop 1 ks) in
    let b = begins_at ks (get_or ks 0 kinds.Number) more c.args.text.now x (split_kinds ks c.requires.some) (some_more (length more) c.is_empty.result c.is_empty.ensures c.if-is_empty.false) c.requires.signature h same in
    let cut = cut_same 32 c.in-Some.word.now c.in-Some.rest.now (read_text b.first) (parts_text b.others) c.in-Some.ensures.1 b.lacks (sym c.in-Some.ensures.0 ∙ b.spelled) in
    (rw c.in_default-2.is at c.in_ok-first.ensures) b.first b.of_kind cut.0

pub returns-in_default-3 : goal.returns-in_default-3
returns-in_default-3 t c x h same =
    let ks : List PartKind = c.args.kinds.now in
    let more : List PartKind = take (length ks - 1) (drop 1 ks) in
    let b = begins_at ks (get_or ks 0 kinds.Number) more c.args.text.now x (split_kinds ks c.requires.some) (some_more (length more) c.is_empty.result c.is_empty.ensures c.if-is_empty.false) c.requires.signature h same in
    let cut = cut_same 32 c.in-Some.word.now c.in-Some.rest.now (read_text b.first) (parts_text b.others) c.in-Some.ensures.1 b.lacks (sym c.in-Some.ensures.0 ∙ b.spelled) in
    (rw c.in_default-3.is at c.in_ok-others.ensures) b.others b.of_kinds cut.1
