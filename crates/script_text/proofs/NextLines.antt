-- Lines that go on, one after another.
use Rattle.std.proofs.Common.{◌≡◌, ℕ, ◌+◌, ◌*◌, ◌≤◌, List, [], ◌∷◌, ◌++◌, length, refl, sym, ap, ◌∙◌, subst, arith, append_assoc, append-nil, length-append}
use Rattle.script_text.specs.Limits.{script_lines}
use Rattle.std.specs.List.{AllByRecursion}
use Rattle.script_text.specs.declared.lines.Allowed.{Allowed}
use Rattle.script_text.specs.declared.lines.Allowed.TheVariants.{All}
use Rattle.script_text.specs.declared.lines.Line.{Line}
use Rattle.script_text.specs.Lines.{IsAllowed}
use Rattle.script_text.specs.Scripts.{texts_of, IsNextLine, AreLines, IsScriptOf}
use Rattle.script_text.specs.Laws.{IsOneScriptOf, FirstBadIsOneOf, IsOfAllowed}
use Rattle.script_text.proofs.Speaking.{line_text-injective}

module _ (allowed : Allowed) where
  abbrev GoesOnNone : List Line → List ℕ → Type 0
  GoesOnNone before text = (line : Line) → ¬ (IsNextLine allowed before text line)

  goes_on_along : (a b : List Line) (text : List ℕ) (line : Line) → a ≡ b → IsNextLine allowed a text line → IsNextLine allowed b text line
  goes_on_along a b text line e g = let P : List Line → Type 0 = λ before. IsNextLine allowed before text line in subst P e g

  -- one text is that of one line
  one_line : (before others : List Line) (text : List ℕ) (x y : Line) → IsNextLine allowed before text x → IsNextLine allowed others text y → x ≡ y
  one_line before others text x y g h = line_text-injective x y g.lawful h.lawful (sym g.spelled ∙ h.spelled)

  are_lines_along : (a b : List Line) (texts : List (List ℕ)) (lines : List Line) → a ≡ b → AreLines allowed a texts lines → AreLines allowed b texts lines
  are_lines_along a b texts lines e h = let P : List Line → Type 0 = λ before. AreLines allowed before texts lines in subst P e h

  -- ---- the loop over lines

  AreLines-more : (before : List Line) (texts : List (List ℕ)) (lines : List Line) (text : List ℕ) (line : Line) → AreLines allowed before texts lines → IsNextLine allowed (before ++ lines) text line → AreLines allowed before (texts ++ text ∷ []) (lines ++ line ∷ [])
  AreLines-more before [] [] text line h g = (goes_on_along (before ++ []) before text line (append-nil before) g, tt)
  AreLines-more before [] (l ∷ ls) text line h g = absurd h
  AreLines-more before (t ∷ ts) [] text line h g = absurd h
  AreLines-more before (t ∷ ts) (l ∷ ls) text line h g =
      (h.0, AreLines-more (before ++ l ∷ []) ts ls text line h.1 (goes_on_along (before ++ l ∷ ls) ((before ++ l ∷ []) ++ ls) text line (sym (append_assoc before (l ∷ []) ls)) g))

  -- what the loop keeps: the bytes were read up to the rest
  pub record IsReached (bytes : List ℕ) (lines : List Line) (rest : List ℕ) : Type 0 where
    pub texts : List (List ℕ)
    pub split : texts_of bytes ≡ texts ++ texts_of rest
    pub are : AreLines allowed [] texts lines
    pub count : length texts ≡ length lines
    pub few : length lines ≤ script_lines
    pub long : length bytes ≤ length rest + 4097 * length lines

  pub reached_more : (bytes rest text more : List ℕ) (lines : List Line) (line : Line) → IsReached bytes lines rest → texts_of rest ≡ text ∷ texts_of more → length rest ≤ length text + 1 + length more → IsNextLine allowed lines text line → IsReached bytes (lines ++ line ∷ []) more
  reached_more bytes rest text more lines line r cut long g =
      let one = length-append lines (line ∷ []) in
      record {
        texts = r.texts ++ text ∷ [];
        split = r.split ∙ ap (λ ts. r.texts ++ ts) cut ∙ sym (append_assoc r.texts (text ∷ []) (texts_of more));
        are = AreLines-more [] r.texts lines text line r.are g;
        count = omega (arith, length-append r.texts (text ∷ []), one, r.count);
        few = omega (arith, one, g.few);
        long = omega (arith, one, r.long, g.short, long);
      }

  -- ---- the laws

  one_by_one : (before : List Line) (texts : List (List ℕ)) (xs ys : List Line) → AreLines allowed before texts xs → AreLines allowed before texts ys → xs ≡ ys
  one_by_one before [] [] [] h k = refl
  one_by_one before [] [] (y ∷ ys) h k = absurd k
  one_by_one before [] (x ∷ xs) ys h k = absurd h
  one_by_one before (t ∷ ts) [] ys h k = absurd h
  one_by_one before (t ∷ ts) (x ∷ xs) [] h k = absurd k
  one_by_one before (t ∷ ts) (x ∷ xs) (y ∷ ys) h k =
      let first = one_line before before t x y h.0 k.0 in
      let rest = one_by_one (before ++ x ∷ []) ts xs ys h.1 (are_lines_along (before ++ y ∷ []) (before ++ x ∷ []) ts ys (ap (λ l. before ++ l ∷ []) (sym first)) k.1) in
      cc (first, rest)

  -- where all texts are those of lines, none is bad
  none_bad : (before : List Line) (texts : List (List ℕ)) (text : List ℕ) (rest : List (List ℕ)) (lines others : List Line) → AreLines allowed before (texts ++ text ∷ rest) lines → AreLines allowed before texts others → GoesOnNone (before ++ others) text → ⊥
  none_bad before [] text rest [] others h k bad = absurd h
  none_bad before [] text rest (l ∷ ls) [] h k bad = bad l (goes_on_along before (before ++ []) text l (sym (append-nil before)) h.0)
  none_bad before [] text rest (l ∷ ls) (o ∷ os) h k bad = absurd k
  none_bad before (t ∷ ts) text rest [] others h k bad = absurd h
  none_bad before (t ∷ ts) text rest (l ∷ ls) [] h k bad = absurd k
  none_bad before (t ∷ ts) text rest (l ∷ ls) (o ∷ os) h k bad =
      let first = one_line before before t l o h.0 k.0 in
      let all = are_lines_along (before ++ l ∷ []) (before ++ o ∷ []) (ts ++ text ∷ rest) ls (ap (λ x. before ++ x ∷ []) first) h.1 in
      none_bad (before ++ o ∷ []) ts text rest ls os all k.1 (λ line g. bad line (goes_on_along ((before ++ o ∷ []) ++ os) (before ++ o ∷ os) text line (append_assoc before (o ∷ []) os) g))

  -- two bad texts are one
  bad_at : (before : List Line) (xs vs : List (List ℕ)) (x v : List ℕ) (ys ws : List (List ℕ)) (ls ms : List Line) → AreLines allowed before xs ls → AreLines allowed before vs ms
      → GoesOnNone (before ++ ls) x → GoesOnNone (before ++ ms) v → xs ++ x ∷ ys ≡ vs ++ v ∷ ws → length xs ≡ length vs
  bad_at before [] [] x v ys ws ls ms h k bad worse e = refl
  bad_at before [] (t ∷ ts) x v ys ws ls [] h k bad worse e = absurd k
  bad_at before [] (t ∷ ts) x v ys ws [] (m ∷ ms) h k bad worse e =
      let same : x ≡ t = cc e in
      absurd (bad m (goes_on_along before (before ++ []) x m (sym (append-nil before)) (rw same k.0)))
  bad_at before [] (t ∷ ts) x v ys ws (l ∷ ls) (m ∷ ms) h k bad worse e = absurd h
  bad_at before (t ∷ ts) [] x v ys ws [] ms h k bad worse e = absurd h
  bad_at before (t ∷ ts) [] x v ys ws (l ∷ ls) [] h k bad worse e =
      let same : v ≡ t = cc e in
      absurd (worse l (goes_on_along before (before ++ []) v l (sym (append-nil before)) (rw same h.0)))
  bad_at before (t ∷ ts) [] x v ys ws (l ∷ ls) (m ∷ ms) h k bad worse e = absurd k
  bad_at before (t ∷ ts) (u ∷ us) x v ys ws [] ms h k bad worse e = absurd h
  bad_at before (t ∷ ts) (u ∷ us) x v ys ws (l ∷ ls) [] h k bad worse e = absurd k
  bad_at before (t ∷ ts) (u ∷ us) x v ys ws (l ∷ ls) (m ∷ ms) h k bad worse e =
      let same : u ≡ t = cc e in
      let rest : ts ++ x ∷ ys ≡ us ++ v ∷ ws = cc e in
      let first = one_line before before t l m h.0 (rw same at k.0) in
      let next = are_lines_along (before ++ m ∷ []) (before ++ l ∷ []) us ms (ap (λ z. before ++ z ∷ []) (sym first)) k.1 in
      let worse' : GoesOnNone (before ++ l ∷ ms) v = rw first worse in
      let more = bad_at (before ++ l ∷ []) ts us x v ys ws ls ms h.1 next
      (λ line g. bad line (goes_on_along ((before ++ l ∷ []) ++ ls) (before ++ l ∷ ls) x line (append_assoc before (l ∷ []) ls) g))
      (λ line g. worse' line (goes_on_along ((before ++ l ∷ []) ++ ms) (before ++ l ∷ ms) v line (append_assoc before (l ∷ []) ms) g)) rest in
      omega (arith, more)

  pub one_script : (bytes : List ℕ) (lines : List Line) → IsScriptOf allowed bytes lines → IsOneScriptOf allowed bytes lines
  one_script bytes lines h = record {
    one = λ others k. one_by_one [] (texts_of bytes) others lines k h;
    good = λ n b.
        let P : List (List ℕ) → Type 0 = λ ts. AreLines allowed [] ts lines in
        none_bad [] b.texts b.text b.rest lines b.lines (subst P b.split h) b.before b.bad;
  }

  pub first_bad_is_one : (bytes : List ℕ) → FirstBadIsOneOf allowed bytes
  first_bad_is_one bytes m n a b =
      let same = bad_at [] a.texts b.texts a.text b.text a.rest b.rest a.lines b.lines a.before b.before a.bad b.bad (sym a.split ∙ b.split) in
      omega (arith, a.count, b.count, same)

-- ---- scripts of allowed lines are scripts

-- any line is allowed where all are
all_are : (allowed : Allowed) (before : List Line) (texts : List (List ℕ)) (lines : List Line) → AreLines allowed before texts lines → AreLines All before texts lines
all_are allowed before [] [] h = tt
all_are allowed before (t ∷ ts) (l ∷ ls) h =
    (record { spelled = h.0.spelled; lawful = h.0.lawful; taken = tt; short = h.0.short; few = h.0.few; light = h.0.light }, all_are allowed (before ++ l ∷ []) ts ls h.1)
all_are allowed before [] (l ∷ ls) h = absurd h
all_are allowed before (t ∷ ts) [] h = absurd h

are_allowed : (allowed : Allowed) (before : List Line) (texts : List (List ℕ)) (lines : List Line) → AreLines allowed before texts lines → AllByRecursion (IsAllowed allowed) lines
are_allowed allowed before [] [] h = tt
are_allowed allowed before (t ∷ ts) (l ∷ ls) h = (h.0.taken, are_allowed allowed (before ++ l ∷ []) ts ls h.1)
are_allowed allowed before [] (l ∷ ls) h = absurd h
are_allowed allowed before (t ∷ ts) [] h = absurd h

as_allowed : (allowed : Allowed) (before : List Line) (texts : List (List ℕ)) (lines : List Line) → AreLines All before texts lines → AllByRecursion (IsAllowed allowed) lines → AreLines allowed before texts lines
as_allowed allowed before [] [] h k = tt
as_allowed allowed before (t ∷ ts) (l ∷ ls) h k =
    (record { spelled = h.0.spelled; lawful = h.0.lawful; taken = k.0; short = h.0.short; few = h.0.few; light = h.0.light }, as_allowed allowed (before ++ l ∷ []) ts ls h.1 k.1)
as_allowed allowed before [] (l ∷ ls) h k = absurd h
as_allowed allowed before (t ∷ ts) [] h k = absurd h

pub of_allowed : (allowed : Allowed) (bytes : List ℕ) (lines : List Line) → IsOfAllowed allowed bytes lines
of_allowed allowed bytes lines = (
  λ h. (all_are allowed [] (texts_of bytes) lines h, are_allowed allowed [] (texts_of bytes) lines h),
  λ h. as_allowed allowed [] (texts_of bytes) lines h.0 h.1,
)
