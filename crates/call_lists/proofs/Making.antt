-- What one event more makes of the callers' calls.
use Rattle.std.proofs.Common.{◌≡◌, ◌≢◌, ◌∙◌, ℕ, ◌==◌, Bool, true, false, List, [], ◌∷◌, ◌++◌, Option, Some, None, refl, sym, ap, append-nil, append_assoc, arith}
use Rattle.std.specs.Prelude.{if◌then◌else◌}
use Rattle.std.specs.List.{filter_map, cons_option}
use Rattle.std.proofs.lemmas.Bool.Decides.{nat_tests}
use Rattle.std.proofs.lemmas.List.Elements.{filter_map-append}
use Rattle.hsm_types.specs.declared.calls.Call.{Call}
use Rattle.plain_model.specs.declared.entries.Entry.{Entry}
use Rattle.plain_model.specs.Own.{is_caller, own}
use Rattle.plain_model.proofs.Owning.{own_grows}
use Rattle.call_lists.specs.Lines.{left_of}
use Rattle.call_lists.specs.Made.{call_in, calls_of, CallsGrow, Lost, lost_by, AreMade}
use Rattle.call_lists.specs.declared.lists.CallList.{CallList}

-- ---- one entry more

one_in : (e : Entry) → filter_map call_in (e ∷ []) ≡ cons_option (call_in e) []
one_in e = refl

grows_by : (c : ℕ) (es : List Entry) (e : Entry) (b : Bool) → filter_map call_in (if b then own c es ++ e ∷ [] else own c es) ≡ calls_of c es ++ (if b then cons_option (call_in e) [] else [])
grows_by c es e true = filter_map-append call_in (own c es) (e ∷ []) ∙ ap (λ (l : List Call). calls_of c es ++ l) (one_in e)
grows_by c es e false = sym (append-nil (calls_of c es))

pub calls_grow : (c : ℕ) (es : List Entry) (e : Entry) → CallsGrow c es e
calls_grow c es e = ap (λ (l : List Entry). filter_map call_in l) (own_grows c es e) ∙ grows_by c es e (is_caller c e.actor)

-- ---- the lists

module _ (lines : ℕ → List Call) (left : List CallList) (history : List Entry) where
  -- nothing was made yet
  pub none_made : ((c : ℕ) → left_of left c ≡ lines c) → history ≡ [] → AreMade false lines left history
  none_made same empty = record { lost = None; parted = λ c. sym (same c) ∙ ap (λ (es : List Entry). calls_of c es ++ ([] ++ left_of left c)) (sym empty); none = λ goes. refl }

  module _ (new : List Entry) where
    -- no call was made
    pub still_made : (stopped now : Bool) → AreMade stopped lines left history → ((c : ℕ) → calls_of c new ≡ calls_of c history) → (now ≡ false → stopped ≡ false) → AreMade now lines left new
    still_made stopped now made same goes = record { lost = made.lost; parted = λ c. made.parted c ∙ ap (λ (l : List Call). l ++ (lost_by c made.lost ++ left_of left c)) (sym (same c)); none = λ is. made.none (goes is) }

    -- that caller's next call was taken off
    module _ (d : ℕ) (call : Call) (after : List CallList) (made : AreMade false lines left history) (taken : left_of left d ≡ call ∷ left_of after d) (others : (c : ℕ) → c ≢ d → left_of after c ≡ left_of left c) where
      parted_before : (c : ℕ) → lines c ≡ calls_of c history ++ left_of left c
      parted_before c = made.parted c ∙ ap (λ (l : Option Lost). calls_of c history ++ (lost_by c l ++ left_of left c)) (made.none refl)

      parted_by : (c : ℕ) (b : Bool) → (d == c) ≡ b → left_of left c ≡ (if b then call ∷ [] else []) ++ left_of after c
      parted_by c true is = let e : d ≡ c = grind (arith, nat_tests) in ap (λ (k : ℕ). left_of left k) (sym e) ∙ taken ∙ ap (λ (k : ℕ). call ∷ left_of after k) e
      parted_by c false is = let ne : c ≢ d = grind (arith, nat_tests) in sym (others c ne)

      parted_now : (c : ℕ) → lines c ≡ calls_of c history ++ ((if d == c then call ∷ [] else []) ++ left_of after c)
      parted_now c = parted_before c ∙ ap (λ (l : List Call). calls_of c history ++ l) (parted_by c (d == c) refl)

      -- and is in the history
      pub next_made : (stopped : Bool) → ((c : ℕ) → calls_of c new ≡ calls_of c history ++ (if d == c then call ∷ [] else [])) → AreMade stopped lines after new
      next_made stopped more = record {
        lost = None;
        parted = λ c. parted_now c ∙ sym (append_assoc (calls_of c history) (if d == c then call ∷ [] else []) (left_of after c)) ∙ ap (λ (l : List Call). l ++ left_of after c) (sym (more c));
        none = λ goes. refl;
      }

      -- and isn't
      pub next_lost : ((c : ℕ) → calls_of c new ≡ calls_of c history) → AreMade true lines after new
      next_lost same = record {
        lost = Some (record { caller = d; call = call });
        parted = λ c. parted_now c ∙ ap (λ (l : List Call). l ++ ((if d == c then call ∷ [] else []) ++ left_of after c)) (sym (same c));
        none = λ goes. let wrong : true ≡ false = goes in cc wrong;
      }

  -- a caller had none left
  pub none_next : (d : ℕ) (stopped : Bool) (after : List CallList) → AreMade stopped lines left history → left_of left d ≡ [] → left_of after d ≡ [] → ((c : ℕ) → c ≢ d → left_of after c ≡ left_of left c) → AreMade stopped lines after history
  none_next d stopped after made before behind others = record { lost = made.lost; parted = λ c. made.parted c ∙ ap (λ (l : List Call). calls_of c history ++ (lost_by c made.lost ++ l)) (sym (all c (d == c) refl)); none = made.none }
    where
      all : (c : ℕ) (b : Bool) → (d == c) ≡ b → left_of after c ≡ left_of left c
      all c true is = let e : d ≡ c = grind (arith, nat_tests) in ap (λ (k : ℕ). left_of after k) (sym e) ∙ behind ∙ sym before ∙ ap (λ (k : ℕ). left_of left k) e
      all c false is = let ne : c ≢ d = grind (arith, nat_tests) in others c ne
