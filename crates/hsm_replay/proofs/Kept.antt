-- What holds of each event that a daemon keeps, as its list of them changes.
use Rattle.std.proofs.Common.{◌≡◌, ◌∙◌, ◌⊎◌, ⊎_elim, ◌==◌, ℕ, ◌<◌, ◌++◌, Bool, true, false, not, cond, List, [], ◌∷◌, map, inl}
use Rattle.std.proofs.Common.{inr, refl, sym, ap, subst, arith, if◌then◌else◌, Contains}
use Rattle.std.specs.List.{AllByRecursion}
use Rattle.std.proofs.lemmas.Bool.{eqb-true}
use Rattle.std.proofs.lemmas.List.{get_or-map, length-map}
use Rattle.std.proofs.lemmas.List.Elements.{Contains-append_left}
use Rattle.hsm_types.specs.declared.keys.Handle.{Handle}
use Rattle.hsm_types.specs.declared.keys.Token.{Token}
use Rattle.daemon_session.specs.declared.events.Event.{Event}
use Rattle.daemon_session.specs.declared.events.Kept.{Kept}
use Rattle.daemon_session.specs.Seats.{has_kept_token, forgot, marked_at, all_marked}
use Rattle.recall_daemon.specs.Known.{IsKept}
use Rattle.marked_history.specs.Served.{IsTold}
use Rattle.marked_history.proofs.Lists.{first_in, later_in, first_or_rest}

-- ---- an event is forgotten

module _ (t : Token) where
  without : (P : Kept → Type 0) (b : Bool) (k : Kept) (rest : List Kept) → (b ≡ false → P k) → AllByRecursion P rest → AllByRecursion P (cond (not b) (k ∷ rest) rest)
  without P true k rest one all = all
  without P false k rest one all = (one refl, all)

  pub all_forgot : (P Q : Kept → Type 0) (kept : List Kept) → ((k : Kept) → has_kept_token t k ≡ false → P k → Q k) → AllByRecursion P kept → AllByRecursion Q (forgot t kept)
  all_forgot P Q [] each all = tt
  all_forgot P Q (k ∷ more) each all = without Q (has_kept_token t k) k (forgot t more) (λ other. each k other all.0) (all_forgot P Q more each all.1)

  stays_behind : (b : Bool) (k y : Kept) (rest : List Kept) → Contains rest y → Contains (cond (not b) (k ∷ rest) rest) y
  stays_behind true k y rest at = at
  stays_behind false k y rest at = later_in k rest y at

  stays_in : (k : Kept) (more : List Kept) (y : Kept) → has_kept_token t y ≡ false → (k ≡ y) ⊎ Contains (forgot t more) y → Contains (forgot t (k ∷ more)) y
  stays_in k more y other (inl same) = subst (λ (b : Bool). Contains (cond (not b) (k ∷ forgot t more) (forgot t more)) y) (sym (ap (λ (x : Kept). has_kept_token t x) same ∙ other)) (subst (λ (x : Kept). Contains (x ∷ forgot t more) y) (sym same) (first_in y (forgot t more)))
  stays_in k more y other (inr behind) = stays_behind (has_kept_token t k) k y (forgot t more) behind

  stays : (kept : List Kept) (y : Kept) → has_kept_token t y ≡ false → Contains kept y → Contains (forgot t kept) y
  stays [] y other at = let within = at.1 in absurd (omega (arith, within))
  stays (k ∷ more) y other at = stays_in k more y other (⊎_elim (λ (same : k ≡ y). inl same) (λ (behind : Contains more y). inr (stays more y other behind)) (first_or_rest k more y at))

  kept_still : (kept : List Kept) (e : Event) → (m : Bool) → has_kept_token t (record { event = e; marked = m }) ≡ false → Contains kept (record { event = e; marked = m }) → IsKept e (forgot t kept)
  kept_still kept e m other at = (m, stays kept (record { event = e; marked = m }) other at)

  -- what was told under another token
  pub told_forgot : (kept : List Kept) (k : Kept) (h : Handle) → has_kept_token t k ≡ false → IsTold kept k.event.token h → IsTold (forgot t kept) k.event.token h
  told_forgot kept k h other told =
      let e : Event = told.0 in
      let m : Bool = told.1.0 in
      let apart : has_kept_token t (record { event = e; marked = m }) ≡ false = ap (λ (u : Token). u.0 == t.0) told.2 ∙ other in
      (e, kept_still kept e m apart told.1.1, told.2, told.3)

-- ---- an event is marked, or all are unmarked

module _ (f : Kept → Kept) (same : (k : Kept) → (f k).event ≡ k.event) where
  pub told_map : (kept : List Kept) (t : Token) (h : Handle) → IsTold kept t h → IsTold (map f kept) t h
  told_map kept t h told =
      let k : Kept = record { event = told.0; marked = told.1.0 } in
      let at : Contains kept k = told.1.1 in
      let is : f k ≡ record { event = told.0; marked = (f k).marked } = ap (λ (e : Event). record { event = e; marked = (f k).marked }) (same k) in
      let found : Contains (map f kept) (f k) = (at.0, subst (λ n. at.0 < n) (sym (length-map kept f)) at.1, get_or-map f kept at.0 k (f k) at.1 ∙ ap f at.2) in
      (told.0, ((f k).marked, subst (λ (x : Kept). Contains (map f kept) x) is found), told.2, told.3)

module _ (t : Token) where
  abbrev marking : Kept → Kept
  marking k = if has_kept_token t k then record k { marked = true } else k

  marks_alone : (b : Bool) (k : Kept) → (if b then record k { marked = true } else k).event ≡ k.event
  marks_alone true k = refl
  marks_alone false k = refl

  pub told_marked : (kept : List Kept) (u : Token) (h : Handle) → IsTold kept u h → IsTold (marked_at t kept) u h
  told_marked kept u h told = told_map marking (λ k. marks_alone (has_kept_token t k) k) kept u h told

  marks : (Q : Kept → Type 0) (b : Bool) (k : Kept) → (b ≡ true → Q (record k { marked = true })) → Q k → Q (if b then record k { marked = true } else k)
  marks Q true k new old = new refl
  marks Q false k new old = old

  pub all_marked_at : (P Q : Kept → Type 0) (kept : List Kept) → ((k : Kept) → has_kept_token t k ≡ true → Q (record k { marked = true })) → ((k : Kept) → P k → Q k) → AllByRecursion P kept → AllByRecursion Q (marked_at t kept)
  all_marked_at P Q [] new old all = tt
  all_marked_at P Q (k ∷ more) new old all = (marks Q (has_kept_token t k) k (new k) (old k all.0), all_marked_at P Q more new old all.1)

  -- it has the token
  pub has_token : (k : Kept) → has_kept_token t k ≡ true → k.event.token ≡ t
  has_token k is = let number : k.event.token.0 ≡ t.0 = eqb-true k.event.token.0 t.0 is in let token : ℕ → Token = λ n. record { 0 = n } in ap token number

pub told_unmarked : (kept : List Kept) (t : Token) (h : Handle) → IsTold kept t h → IsTold (all_marked false kept) t h
told_unmarked kept t h told = told_map (λ (k : Kept). record k { marked = false }) (λ k. refl) kept t h told

pub told_more : (kept more : List Kept) (t : Token) (h : Handle) → IsTold kept t h → IsTold (kept ++ more) t h
told_more kept more t h told = (told.0, (told.1.0, Contains-append_left kept more (record { event = told.0; marked = told.1.0 }) told.1.1), told.2, told.3)
