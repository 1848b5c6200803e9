-- Each kind of step keeps the rule.
use Rattle.std.proofs.Common.{◌≡◌, ◌≢◌, ◌⊎◌, inl, inr, ⊎_elim, ℕ, zero, suc, ◌+◌, ◌-◌, ◌%◌, ◌^◌, ◌<◌, ◌||◌, Bool, true, false, true≢false, List, [], ◌∷◌, ◌++◌, length, set, refl, ap, sym, ◌∙◌, subst, arith, append-nil, length-append, length-set}
use Rattle.std.specs.Prelude.{slice_index}
use mathlib.Core.Option.{some, some-ne-none, some-injective}
use mathlib.Core.List.{IsPrefix}
use lib.ListN.{get_elem?}
use Rattle.atomic_table.proofs.Lists.{set_again, set_here, set_else, at_longer, at_last}
use Rattle.plain_model.specs.declared.entries.Entry.{Entry}
use Rattle.call_seats.specs.declared.views.Mark.{Mark}
use Rattle.call_seats.specs.declared.views.View.{View}
use Rattle.call_seats.specs.Views.{made_by, Owns, Tells, longer, spent, first_view, dealing, dealt, without_right, note_of, joined, mark, appended}
use Rattle.call_seats.specs.Rule.{Fits, Apart, HasRight, Kept}
use Rattle.call_seats.proofs.Beginnings.{prefix_self, prefix_more, longer_prefix, longer_by, longer_whole_left, longer_whole_right, both_begin, made_by-append, made_by-mine, made_by-other, made_by-between}
use Rattle.call_seats.proofs.Places.{all_set, all_snoc, apart_set, apart_snoc, there}

off : false ≡ true → ⊥
off e = true≢false (sym e)

which : (b : Bool) → (b ≡ true) ⊎ (b ≡ false)
which true = inl refl
which false = inr refl

nat_cases : (n k : ℕ) → (n ≡ k) ⊎ (n ≢ k)
nat_cases zero zero = inl refl
nat_cases zero (suc k) = inr (λ e. omega arith)
nat_cases (suc n) zero = inr (λ e. omega arith)
nat_cases (suc n) (suc k) = ⊎_elim (λ (e : n ≡ k). inl (ap suc e)) (λ (ne : n ≢ k). inr (λ e. ne (omega arith))) (nat_cases n k)

nothing_seen : (all : List Mark) → IsPrefix [] all
nothing_seen all = (all, refl)

-- a view that isn't a pass, holds no right and has seen a prefix
fits_note : (holder giver count : ℕ) (all seen : List Mark) (seat : ℕ) (right : Bool) → IsPrefix seen all → (right ≡ true → (seat ≡ holder) × (seen ≡ all))
    → Fits holder giver count all seat (record spent { right = right; seen = seen })
fits_note holder giver count all seen seat right pre whole = record {
  seen = pre;
  one = nothing_seen all;
  two = nothing_seen all;
  one_whole = λ e. absurd (off e);
  two_whole = λ e. absurd (off e);
  right = whole;
  gives = λ e. absurd (off e);
  made = λ e. absurd (off e);
  number = λ e. absurd (off e);
}

-- a view that stays as it is fits under another holder of the right as far as its own right does
fits_under : (old holder giver count : ℕ) (all : List Mark) (seat : ℕ) (v : View) → Fits old giver count all seat v → (v.right ≡ true → (seat ≡ holder) × (v.seen ≡ all)) → Fits holder giver count all seat v
fits_under old holder giver count all seat v f right =
    record { seen = f.seen; one = f.one; two = f.two; one_whole = f.one_whole; two_whole = f.two_whole; right = right; gives = f.gives; made = f.made; number = f.number }

-- the right stays where it is, where another view is set
right_else : (views : List View) (holder id : ℕ) (w : View) → HasRight views holder → holder ≢ id → HasRight (set views id w) holder
right_else views holder id w h ne = (h.0, set_else views id holder w ne ∙ h.1, h.2)

right_longer : (views : List View) (holder : ℕ) (w : View) → HasRight views holder → HasRight (views ++ w ∷ []) holder
right_longer views holder w h = (h.0, at_longer views (w ∷ []) holder h.0 h.1, h.2)

-- it stays with a view that has it before and after
right_set : (views : List View) (holder id : ℕ) (v w : View) → HasRight views holder → get_elem? views id ≡ some v → (v.right ≡ true → w.right ≡ true) → HasRight (set views id w) holder
right_set views holder id v w h at keeps =
    ⊎_elim
    (λ (same : holder ≡ id).
    let mine : h.0 ≡ v = some-injective h.0 v (sym h.1 ∙ (ap (get_elem? views) same ∙ at)) in
    (w, ap (get_elem? (set views id w)) same ∙ set_here views id w (there views id v at), keeps (ap (λ (u : View). u.right) (sym mine) ∙ h.2)))
    (λ (ne : holder ≢ id). right_else views holder id w h ne)
    (nat_cases holder id)

-- ---- 1: the table is made

pub begins : Kept (0 ∷ []) (first_view ∷ [])
begins = record { all = []; holder = 0; giver = 0; count = 0; nonempty = omega arith; word = refl; right = (first_view, refl, refl); fits = one; apart = alone; fresh = λ n le. refl }
  where
    one : (id : ℕ) (v : View) → get_elem? (first_view ∷ []) id ≡ some v → Fits 0 0 0 [] id v
    one zero v e =
        subst (Fits 0 0 0 [] 0) (some-injective _ _ e)
        (record { seen = nothing_seen []; one = nothing_seen []; two = nothing_seen []; one_whole = λ e. absurd (off e); two_whole = λ e. absurd (off e); right = λ _. (refl, refl); gives = λ _. (refl, refl); made = λ _. (refl, refl); number = λ _. omega arith })
    one (suc id) v e = absurd (some-ne-none v (sym e))

    alone : Apart (first_view ∷ [])
    alone zero zero v w a b n m e = refl
    alone zero (suc j) v w a b n m e = absurd (some-ne-none w (sym b))
    alone (suc i) j v w a b n m e = absurd (some-ne-none v (sym a))

-- ---- 2: a pass is given out

pub deals : (words : List ℕ) (views : List View) (id : ℕ) (v : View) → Kept words views → get_elem? views id ≡ some v → v.gives ≡ true → Kept words (set views id (dealing v) ++ dealt v ∷ [])
deals words views id v kept at gives =
    let mine = kept.fits id v at in
    let g = mine.gives gives in
    record {
      all = kept.all;
      holder = kept.holder;
      giver = kept.giver;
      count = kept.count + 1;
      nonempty = kept.nonempty;
      word = kept.word;
      right = right_longer (set views id (dealing v)) kept.holder (dealt v) (right_set views kept.holder id v (dealing v) kept.right at (λ r. r));
      fits = all_snoc (Fits kept.holder kept.giver (kept.count + 1) kept.all) (set views id (dealing v)) (dealt v)
          (all_set (Fits kept.holder kept.giver (kept.count + 1) kept.all) views id (dealing v)
          (λ j u ne e.
          let f = kept.fits j u e in
          record { seen = f.seen; one = f.one; two = f.two; one_whole = f.one_whole; two_whole = f.two_whole; right = f.right; gives = λ t. absurd (ne ((f.gives t).0 ∙ sym g.0)); made = f.made; number = λ n. let l = f.number n in omega arith })
          (record { seen = mine.seen; one = mine.one; two = mine.two; one_whole = mine.one_whole; two_whole = mine.two_whole; right = mine.right; gives = λ t. (g.0, ap (λ (n : ℕ). n + 1) g.1); made = mine.made; number = λ n. let l = mine.number n in omega arith }))
          (record {
            seen = nothing_seen kept.all;
            one = nothing_seen kept.all;
            two = nothing_seen kept.all;
            one_whole = λ e. absurd (off e);
            two_whole = λ e. absurd (off e);
            right = λ e. absurd (off e);
            gives = λ e. absurd (off e);
            made = λ _. (kept.fresh (v.count + 1) (omega (arith, g.1)), refl);
            number = λ _. omega (arith, g.1);
          });
      apart = apart_snoc (set views id (dealing v)) (dealt v) (apart_set views id v (dealing v) at (λ n. (n, refl)) kept.apart)
          (λ _. all_set (λ j u. u.named ≡ true → u.number ≢ v.count + 1) views id (dealing v)
          (λ j u ne e n same. let l = (kept.fits j u e).number n in omega (arith, g.1))
          (λ n same. let l = mine.number n in omega (arith, g.1)));
      fresh = λ n le. kept.fresh n (omega arith);
    }

-- ---- 3: a note

noted : (words : List ℕ) (views : List View) (id : ℕ) (v : View) (kept : Kept words views) → get_elem? views id ≡ some v → (holder : ℕ) → HasRight (set views id (without_right v) ++ note_of v ∷ []) holder
    → ((j : ℕ) (u : View) → j ≢ id → get_elem? views j ≡ some u → u.right ≡ true → (j ≡ holder) × (u.seen ≡ kept.all)) → (v.right ≡ true → length views ≡ holder)
    → Kept words (set views id (without_right v) ++ note_of v ∷ [])
noted words views id v kept at holder has others new =
    let mine = kept.fits id v at in
    record {
      all = kept.all;
      holder = holder;
      giver = kept.giver;
      count = kept.count;
      nonempty = kept.nonempty;
      word = kept.word;
      right = has;
      fits = all_snoc (Fits holder kept.giver kept.count kept.all) (set views id (without_right v)) (note_of v)
          (all_set (Fits holder kept.giver kept.count kept.all) views id (without_right v)
          (λ j u ne e. fits_under kept.holder holder kept.giver kept.count kept.all j u (kept.fits j u e) (others j u ne e))
          (record { seen = mine.seen; one = mine.one; two = mine.two; one_whole = mine.one_whole; two_whole = mine.two_whole; right = λ e. absurd (off e); gives = mine.gives; made = mine.made; number = mine.number }))
          (fits_note holder kept.giver kept.count kept.all v.seen (length (set views id (without_right v))) v.right mine.seen (λ r. (length-set views id (without_right v) ∙ new r, (mine.right r).1)));
      apart = apart_snoc (set views id (without_right v)) (note_of v) (apart_set views id v (without_right v) at (λ n. (n, refl)) kept.apart) (λ e. absurd (off e));
      fresh = kept.fresh;
    }

pub notes : (words : List ℕ) (views : List View) (id : ℕ) (v : View) → Kept words views → get_elem? views id ≡ some v → Kept words (set views id (without_right v) ++ note_of v ∷ [])
notes words views id v kept at =
    ⊎_elim
    (λ (yes : v.right ≡ true). noted words views id v kept at (length views)
    (note_of v, at_last (set views id (without_right v)) (note_of v) (length views) (length-set views id (without_right v)), yes)
    (λ j u ne e r. absurd (ne (((kept.fits j u e).right r).0 ∙ sym ((kept.fits id v at).right yes).0)))
    (λ _. refl))
    (λ (no : v.right ≡ false). noted words views id v kept at kept.holder
    (right_longer (set views id (without_right v)) kept.holder (note_of v) (right_set views kept.holder id v (without_right v) kept.right at (λ r. absurd (true≢false (sym r ∙ no)))))
    (λ j u ne e r. (kept.fits j u e).right r)
    (λ r. absurd (true≢false (sym r ∙ no))))
    (which v.right)

-- ---- 4 and 7: a note, or a pass that has ended, is joined

join_made : (holder giver count : ℕ) (all : List Mark) (id : ℕ) (v : View) (ys : List Mark) → Fits holder giver count all id v → IsPrefix ys all → v.named ≡ true → made_by v.number (longer v.seen ys) ≡ v.made
join_made holder giver count all id v ys f p n =
    let m = f.made n in
    longer_by (λ (l : List Mark). made_by v.number l ≡ v.made) v.seen ys (λ le. made_by-between v.number v.seen ys all v.made (both_begin v.seen ys all f.seen p le) p m.1 m.0) (λ _. m.1)

module _ (words : List ℕ) (views : List View) (id : ℕ) (v : View) (other : ℕ) (w : View) (kept : Kept words views) (at : get_elem? views id ≡ some v) (ne : other ≢ id) (at_other : get_elem? views other ≡ some w) where
  placed : get_elem? (set views id (joined v w)) other ≡ some w
  placed = set_else views id other (joined v w) ne ∙ at_other

  joined_at : (holder : ℕ) → HasRight (set (set views id (joined v w)) other spent) holder
      → ((j : ℕ) (u : View) → j ≢ id → j ≢ other → get_elem? views j ≡ some u → u.right ≡ true → (j ≡ holder) × (u.seen ≡ kept.all))
      → ((v.right || w.right) ≡ true → (id ≡ holder) × (longer v.seen w.seen ≡ kept.all))
      → Kept words (set (set views id (joined v w)) other spent)
  joined_at holder has others new =
      let mine = kept.fits id v at in
      let theirs = kept.fits other w at_other in
      record {
        all = kept.all;
        holder = holder;
        giver = kept.giver;
        count = kept.count;
        nonempty = kept.nonempty;
        word = kept.word;
        right = has;
        fits = all_set (Fits holder kept.giver kept.count kept.all) (set views id (joined v w)) other spent
            (λ j u no here. all_set (λ j u. j ≢ other → Fits holder kept.giver kept.count kept.all j u) views id (joined v w)
            (λ j u ne e not. fits_under kept.holder holder kept.giver kept.count kept.all j u (kept.fits j u e) (others j u ne not e))
            (λ _. record {
              seen = longer_prefix v.seen w.seen kept.all mine.seen theirs.seen;
              one = mine.seen;
              two = theirs.seen;
              one_whole = λ r. subst (λ (l : List Mark). IsPrefix w.seen l) (sym (mine.right r).1) theirs.seen;
              two_whole = λ r. subst (λ (l : List Mark). IsPrefix v.seen l) (sym (theirs.right r).1) mine.seen;
              right = new;
              gives = mine.gives;
              made = λ n. ((mine.made n).0, join_made kept.holder kept.giver kept.count kept.all id v w.seen mine theirs.seen n);
              number = mine.number;
            })
            j u here no)
            (fits_note holder kept.giver kept.count kept.all [] other false (nothing_seen kept.all) (λ e. absurd (off e)));
        apart = apart_set (set views id (joined v w)) other w spent placed (λ e. absurd (off e)) (apart_set views id v (joined v w) at (λ n. (n, refl)) kept.apart);
        fresh = kept.fresh;
      }

  -- the joined view has it, where one of the two had
  right_joined : (v.right || w.right) ≡ true → HasRight (set (set views id (joined v w)) other spent) id
  right_joined both = right_else (set views id (joined v w)) id other spent (joined v w, set_here views id (joined v w) (there views id v at), both) (λ same. ne (sym same))

  -- and else a third one
  right_third : w.right ≡ false → v.right ≡ false → HasRight (set (set views id (joined v w)) other spent) kept.holder
  right_third lacks none =
      right_set (set views id (joined v w)) kept.holder other w spent (right_set views kept.holder id v (joined v w) kept.right at (λ r. absurd (true≢false (sym r ∙ none)))) placed (λ r. absurd (true≢false (sym r ∙ lacks)))

  both_or : w.right ≡ false → v.right ≡ true → (v.right || w.right) ≡ true
  both_or lacks has = ap (λ (b : Bool). b || w.right) has

  neither : w.right ≡ false → v.right ≡ false → (v.right || w.right) ≡ false
  neither lacks none = ap (λ (b : Bool). b || w.right) none ∙ lacks

  joins_here : Kept words (set (set views id (joined v w)) other spent)
  joins_here =
      let mine = kept.fits id v at in
      let theirs = kept.fits other w at_other in
      ⊎_elim
      (λ (yes : w.right ≡ true). joined_at id (right_joined (or_right v.right w.right yes))
      (λ j u no not e r. absurd (not (((kept.fits j u e).right r).0 ∙ sym (theirs.right yes).0)))
      (λ _. (refl, longer_whole_right v.seen w.seen kept.all mine.seen (theirs.right yes).1)))
      (λ (no : w.right ≡ false).
      ⊎_elim
      (λ (yes : v.right ≡ true). joined_at id (right_joined (both_or no yes))
      (λ j u not _ e r. absurd (not (((kept.fits j u e).right r).0 ∙ sym (mine.right yes).0)))
      (λ _. (refl, longer_whole_left v.seen w.seen kept.all (mine.right yes).1 theirs.seen)))
      (λ (none : v.right ≡ false). joined_at kept.holder (right_third no none)
      (λ j u _ _ e r. (kept.fits j u e).right r)
      (λ both. absurd (true≢false (sym both ∙ neither no none))))
      (which v.right))
      (which w.right)
    where
      or_right : (a b : Bool) → b ≡ true → (a || b) ≡ true
      or_right true b e = refl
      or_right false b e = e

pub joins : (words : List ℕ) (views : List View) (id : ℕ) (v : View) (other : ℕ) (w : View) → Kept words views → get_elem? views id ≡ some v → other ≢ id
    → get_elem? (set views id (joined v w)) other ≡ some w → Kept words (set (set views id (joined v w)) other spent)
joins words views id v other w kept at ne at_set_other = joins_here words views id v other w kept at ne (sym (set_else views id other (joined v w) ne) ∙ at_set_other)

-- ---- 5: a look

pub looks : (words : List ℕ) (views : List View) (id : ℕ) (v : View) → Kept words views → get_elem? views id ≡ some v → Kept (set words 0 (slice_index words 0)) (set views id v) × Tells v × Owns v
looks words views id v kept at =
    let mine = kept.fits id v at in (
      subst (λ (x : List ℕ × List View). Kept x.0 x.1) (λ i. (sym (same_word words kept.nonempty) i, sym (set_again views id v at) i)) kept,
      record { one = both_begin v.one v.two kept.all mine.one mine.two; two = both_begin v.two v.one kept.all mine.two mine.one; one_whole = mine.one_whole; two_whole = mine.two_whole },
      λ n. (mine.made n).1,
    )
  where
    same_word : (ws : List ℕ) → 0 < length ws → set ws 0 (slice_index ws 0) ≡ ws
    same_word [] le = absurd (omega arith)
    same_word (x ∷ ws) le = refl

-- ---- 6: an entry is appended

word_set : (ws : List ℕ) (n : ℕ) → 0 < length ws → slice_index (set ws 0 n) 0 ≡ n
word_set [] n le = absurd (omega arith)
word_set (x ∷ ws) n le = refl

-- the entries of a number, behind an entry of that number, and of another
mine_more : (n : ℕ) (ms : List Mark) (m : Mark) (made : List Mark) → m.by ≡ n → made_by n ms ≡ made → made_by n (ms ++ m ∷ []) ≡ made ++ m ∷ []
mine_more n ms m made mine is = made_by-append n ms (m ∷ []) ∙ (ap (λ (l : List Mark). made_by n ms ++ l) (made_by-mine n m mine) ∙ ap (λ (l : List Mark). l ++ m ∷ []) is)

other_more : (n : ℕ) (ms : List Mark) (m : Mark) (made : List Mark) → m.by ≢ n → made_by n ms ≡ made → made_by n (ms ++ m ∷ []) ≡ made
other_more n ms m made other is = made_by-append n ms (m ∷ []) ∙ (ap (λ (l : List Mark). made_by n ms ++ l) (made_by-other n m other) ∙ (append-nil (made_by n ms) ∙ is))

pub appends : (words : List ℕ) (views : List View) (id : ℕ) (v : View) (e : Entry) → Kept words views → get_elem? views id ≡ some v → v.right ≡ true → v.named ≡ true → length v.seen < 2 ^ 64 - 1
    → Kept (set words 0 ((slice_index words 0 + 1) % 2 ^ 64)) (set views id (appended v e))
appends words views id v e kept at right named room =
    let mine = kept.fits id v at in
    let r = mine.right right in
    let m : Mark = mark v.number e in
    let seen : v.seen ++ m ∷ [] ≡ kept.all ++ m ∷ [] = ap (λ (l : List Mark). l ++ m ∷ []) r.1 in
    record {
      all = kept.all ++ m ∷ [];
      holder = kept.holder;
      giver = kept.giver;
      count = kept.count;
      nonempty = omega (arith, kept.nonempty, length-set words 0 ((slice_index words 0 + 1) % 2 ^ 64));
      word = word_set words ((slice_index words 0 + 1) % 2 ^ 64) kept.nonempty ∙ counts (slice_index words 0) (length v.seen) (kept.word ∙ ap (λ (l : List Mark). length l) (sym r.1)) room ∙ ap (λ (n : ℕ). n + 1) (ap (λ (l : List Mark). length l) r.1) ∙ sym (length-append kept.all (m ∷ []));
      right = right_set views kept.holder id v (appended v e) kept.right at (λ t. t);
      fits = all_set (Fits kept.holder kept.giver kept.count (kept.all ++ m ∷ [])) views id (appended v e)
          (λ j u ne at_j.
          let f = kept.fits j u at_j in
          record {
            seen = prefix_more u.seen kept.all (m ∷ []) f.seen;
            one = prefix_more u.one kept.all (m ∷ []) f.one;
            two = prefix_more u.two kept.all (m ∷ []) f.two;
            one_whole = f.one_whole;
            two_whole = f.two_whole;
            right = λ t. absurd (ne ((f.right t).0 ∙ sym r.0));
            gives = f.gives;
            made = λ n. (other_more u.number kept.all m u.made (λ same. ne (kept.apart j id u v at_j at n named (sym same))) (f.made n).0, (f.made n).1);
            number = f.number;
          })
          (record {
            seen = subst (λ (l : List Mark). IsPrefix (v.seen ++ m ∷ []) l) seen (prefix_self (v.seen ++ m ∷ []));
            one = prefix_more v.one kept.all (m ∷ []) mine.one;
            two = prefix_more v.two kept.all (m ∷ []) mine.two;
            one_whole = mine.one_whole;
            two_whole = mine.two_whole;
            right = λ _. (r.0, seen);
            gives = mine.gives;
            made = λ n. (mine_more v.number kept.all m v.made refl (mine.made n).0, mine_more v.number v.seen m v.made refl (mine.made n).1);
            number = mine.number;
          });
      apart = apart_set views id v (appended v e) at (λ n. (n, refl)) kept.apart;
      fresh = λ n le. let l = mine.number named in other_more n kept.all m [] (λ same. omega arith) (kept.fresh n le);
    }
  where
    counts : (n k : ℕ) → n ≡ k → k < 2 ^ 64 - 1 → (n + 1) % 2 ^ 64 ≡ k + 1
    counts n k e lt = omega arith
