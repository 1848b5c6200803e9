use Rattle.std.proofs.Common.{◌∙◌, inr, sym, ap, subst, List, ℕ, length, reverse, find}
use Rattle.std.proofs.lemmas.Bool.{true≢false}
use Rattle.std.specs.Option.{option_map_or}
use Rattle.media_model.specs.Memory.{Appends}
use Rattle.media_model.specs.Faults.{Faulty, is_of}
use Rattle.media_model.specs.declared.memory.Damage.{Damage}
use Rattle.media_model.proofs.memory.MemDrive.append_now.Goals as goal

pub returns-then-not-lacks_memory : goal.returns-then-not-lacks_memory
returns-then-not-lacks_memory c =
    let is = c.stored-stored.ensures.stored
    ∙ ap (λ (l : List Damage). option_map_or (λ x. x.bytes) (find (is_of c.args.volume c.next-number.result) (reverse l)) c.args.bytes.now) c.deref.ensures.value
    ∙ ap (λ (n : ℕ). option_map_or (λ x. x.bytes) (find (is_of c.args.volume n) (reverse c.self.inside.damages.items)) c.args.bytes.now) c.next-number.ensures in
    let counted : ℕ → Faulty = λ n. record { held = c.append_as-outcome.new.self; calls = n; failing = c.self.inside.failing.items; damage = c.self.inside.damages.items; faults = c.self.inside.faults } in
    rw (← c.self.view_is) (record {
      held = subst (λ (b : List ℕ). Appends c.append_as-outcome.result c.args.volume (length c.args.bytes.now) b c.self.inside.drive c.append_as-outcome.new.self) is c.append_as-outcome.ensures;
      counted = inr (
        λ lacks. true≢false (sym (c.lacks_memory.ensures.1 lacks) ∙ c.if-not-lacks_memory.true),
        ap counted c.saturating_add-self-inside.ensures,
      );
    })
