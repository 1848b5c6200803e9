-- The rule, said of views alone.
use Rattle.std.proofs.Common.{ℕ, ◌≤◌, List, length, ap, sym, ◌∙◌, subst}
use mathlib.Core.List.{IsPrefix}
use Rattle.call_seats.specs.declared.views.Mark.{Mark}
use Rattle.call_seats.specs.declared.views.View.{View}
use Rattle.call_seats.specs.Views.{made_by}
use Rattle.call_seats.specs.Rule.{Kept, IsOrderly}
use Rattle.call_seats.proofs.Beginnings.{both_begin, prefix_length, made_by-append}

-- the entries of a number in a prefix are a prefix of those in the whole
made_by-prefix : (number : ℕ) (xs ys : List Mark) → IsPrefix xs ys → IsPrefix (made_by number xs) (made_by number ys)
made_by-prefix number xs ys p = (made_by number p.0, sym (made_by-append number xs p.0) ∙ ap (made_by number) p.1)

pub orderly : (words : List ℕ) (views : List View) → Kept words views → IsOrderly words views
orderly words views kept =
    let writer = kept.right.0 in
    let right = (kept.fits kept.holder writer kept.right.1).right kept.right.2 in
    record {
      writes = record {
        holder = kept.holder;
        writer = writer;
        there = kept.right.1;
        right = kept.right.2;
        whole = ap (λ (l : List Mark). length l) right.1 ∙ sym kept.word;
        only = λ seat v at r. ((kept.fits seat v at).right r).0;
      };
      sees = (
        λ i j v w a b. both_begin v.seen w.seen kept.all (kept.fits i v a).seen (kept.fits j w b).seen,
        λ i v a. subst (λ (n : ℕ). length v.seen ≤ n) (sym kept.word) (prefix_length v.seen kept.all (kept.fits i v a).seen),
      );
      numbers = (kept.apart, λ i j v w a b named gives. subst (λ (n : ℕ). v.number ≤ n) (sym ((kept.fits j w b).gives gives).1) ((kept.fits i v a).number named));
      own = (
        λ i v a named. ((kept.fits i v a).made named).1,
        λ i j v w a b named. subst (λ (l : List Mark). IsPrefix (made_by v.number w.seen) l) ((kept.fits i v a).made named).0 (made_by-prefix v.number w.seen kept.all (kept.fits j w b).seen),
      );
    }
