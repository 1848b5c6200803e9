use Rattle.std.proofs.Common.{◌≡◌, ℕ, true, false, List, Contains, string_bytes, subst, sym, ◌∙◌, refl}
use Rattle.std.proofs.lemmas.Bool.{true≢false}
use Rattle.std.specs.List.{list_any}
use Rattle.std.specs.Str.{bytes_eq}
use Rattle.toml.specs.View.{view, members_view}
use Rattle.hsm_policy.specs.Documents.{names}
use Rattle.hsm_policy.proofs.Named.{named_more, named_none, unnamed, among, is_among}
use Rattle.hsm_policy.proofs.reading.has_names_alone.Goals as goal

pub returns-then-not-is_name : goal.returns-then-not-is_name
returns-then-not-is_name c =
    let answer : list_any (bytes_eq (string_bytes c.in-Some.key.now)) names ≡ false =
    subst (λ (x : List ℕ). list_any (bytes_eq x) names ≡ false) c.as_str.ensures.value (sym c.is_name.ensures ∙ c.if-not-is_name.true) in
    let other : ¬ Contains names (string_bytes c.in-Some.key.now) = λ named. true≢false (sym (is_among (string_bytes c.in-Some.key.now) names named) ∙ answer) in
    let all = rw c.in-Some.ensures.steps at c.loop-key.invariant in (
      λ e. absurd (true≢false (sym e)),
      λ whole. absurd (unnamed (string_bytes c.in-Some.key.now) (view c.in-Some.field-0-1.now) (members_view c.next.new.self) other (all.1 whole)),
    )

pub loop-key-preserved : goal.loop-key-preserved
loop-key-preserved c =
    let answer : list_any (bytes_eq (string_bytes c.in-Some.key.now)) names ≡ true =
    subst (λ (x : List ℕ). list_any (bytes_eq x) names ≡ true) c.as_str.ensures.value (sym c.is_name.ensures ∙ c.if-not-is_name.false) in
    let named = among (string_bytes c.in-Some.key.now) names answer in
    let more = named_more (string_bytes c.in-Some.key.now) (view c.in-Some.field-0-1.now) (members_view c.next.new.self) named in
    let all = rw c.in-Some.ensures.steps at c.loop-key.invariant in
    (λ rest. all.0 (more.1 rest), λ whole. more.0 (all.1 whole))

pub returns : goal.returns
returns c =
    let all = rw c.in-None.ensures.steps.0 at c.loop-key.invariant in
    (λ e. all.0 named_none, λ whole. refl)
