-- Lists of batches in the bytes of a journal: longer ones, and that there is one reading.
use Rattle.std.proofs.Common.{◌≡◌, ℕ, ◌+◌, ◌<◌, ◌≤◌, ◌^◌, List, [], ◌∷◌, ◌++◌, length, refl, sym, ◌∙◌, ap, subst, arith}
use Rattle.std.specs.Prelude.{Option, Some, None}
use Rattle.disk_model.specs.Images.{part}
use Rattle.meta_journal.specs.declared.lists.Batch.{Batch}
use Rattle.meta_journal.specs.Texts.{batch_len, IsBatchAt, Lead, number_after, Ends, IsReading}
use Rattle.meta_journal.proofs.Fields.{gate_says, same_batch}

-- ---- one more

pub lead_more : (journal : List ℕ) (at from last : ℕ) (bs : List Batch) (to : ℕ) (b : Batch) → Lead journal at from last bs to → b.place ≡ at + to → IsBatchAt journal to (number_after last bs) b → Lead journal at from last (bs ++ b ∷ []) (to + batch_len b)
lead_more journal at from last [] to b is place s = (place ∙ ap (λ (k : ℕ). at + k) is, subst (λ (k : ℕ). IsBatchAt journal k last b) is s, ap (λ (k : ℕ). k + batch_len b) is)
lead_more journal at from last (a ∷ bs) to b h place s = (h.0, h.1, lead_more journal at (from + batch_len a) a.number bs to b h.2 place s)

pub last_more : (last : ℕ) (bs : List Batch) (b : Batch) → number_after last (bs ++ b ∷ []) ≡ b.number
last_more last [] b = refl
last_more last (a ∷ bs) b = last_more a.number bs b

-- so far, and one more
pub one_more_read : (journal : List ℕ) (at number used last : ℕ) (bs cs : List Batch) (b : Batch) (end size : ℕ) → Lead journal at 0 number bs used → last ≡ number_after number bs → b.place ≡ at + used → IsBatchAt journal used last b × (length b.records ≡ size)
    → cs ≡ bs ++ b ∷ [] → end ≡ used + 17 + size → Lead journal at 0 number cs end × (b.number ≡ number_after number cs)
one_more_read journal at number used last bs cs b end size h last_is place s cs_is end_is =
    let to : end ≡ used + batch_len b = omega (arith, end_is, s.1) in (
      subst (λ (l : List Batch). Lead journal at 0 number l end) (sym cs_is) (subst (λ (k : ℕ). Lead journal at 0 number (bs ++ b ∷ []) k) (sym to) (lead_more journal at 0 number bs used b h place (subst (λ (k : ℕ). IsBatchAt journal used k b) last_is s.0))),
      sym (ap (λ (l : List Batch). number_after number l) cs_is ∙ last_more number bs b),
    )

-- ---- in other bytes

lead_rises : (journal : List ℕ) (at from last : ℕ) (bs : List Batch) (to : ℕ) → Lead journal at from last bs to → from ≤ to
lead_rises journal at from last [] to is = omega (arith, is)
lead_rises journal at from last (b ∷ bs) to h = omega (arith, lead_rises journal at (from + batch_len b) b.number bs to h.2)

-- what is the same up to where the batches end has the same batches
pub lead_same : (old new : List ℕ) → length old ≤ length new → (at from last : ℕ) (bs : List Batch) (to : ℕ) → ((a k : ℕ) → a + k ≤ to → part new a k ≡ part old a k) → Lead old at from last bs to → Lead new at from last bs to
lead_same old new long at from last [] to same is = is
lead_same old new long at from last (b ∷ bs) to same h =
    let rest : from + batch_len b ≤ to = lead_rises old at (from + batch_len b) b.number bs to h.2 in
    (h.0, record { spelled = same from (batch_len b) rest ∙ h.1.spelled; room = omega (arith, h.1.room, long); rises = h.1.rises; bound = h.1.bound; few = h.1.few }, lead_same old new long at (from + batch_len b) b.number bs to same h.2)

-- ---- one reading

-- where a list ends no batch stands that could follow
ends_none : (journal : List ℕ) → length journal < 2 ^ 32 → (at place last : ℕ) (bad : Option ℕ) (b : Batch) → Ends journal at place last bad → IsBatchAt journal place last b → ⊥
ends_none journal short at place last None b closed s = closed (gate_says journal short place last b s)
ends_none journal short at place last (Some bad) b e s = e.1.none b s

ends_once : (journal : List ℕ) (at place last : ℕ) (bad worse : Option ℕ) → Ends journal at place last bad → Ends journal at place last worse → bad ≡ worse
ends_once journal at place last None None e f = refl
ends_once journal at place last None (Some worse) e f = absurd (e f.1.gate)
ends_once journal at place last (Some bad) None e f = absurd (f e.1.gate)
ends_once journal at place last (Some bad) (Some worse) e f = ap (λ (k : ℕ). Some k) (e.0 ∙ sym f.0)

module _ (journal : List ℕ) (short : length journal < 2 ^ 32) (at : ℕ) where
  Read : (from last : ℕ) → List Batch → ℕ → Option ℕ → Type 0
  Read from last bs to bad = Lead journal at from last bs to × Ends journal at to (number_after last bs) bad

  abbrev Same : (bs cs : List Batch) (to so : ℕ) (bad worse : Option ℕ) → Type 0
  Same bs cs to so bad worse = (bs ≡ cs) × (to ≡ so) × (bad ≡ worse)

  one_more : (b c : Batch) (bs cs : List Batch) (to so : ℕ) (bad worse : Option ℕ) → b ≡ c → Same bs cs to so bad worse → Same (b ∷ bs) (c ∷ cs) to so bad worse
  one_more b c bs cs to so bad worse is h = (rw (is, h.0) refl, h.1, h.2)

  once : (from last : ℕ) (bs cs : List Batch) (to so : ℕ) (bad worse : Option ℕ) → Lead journal at from last bs to → Ends journal at to (number_after last bs) bad → Lead journal at from last cs so → Ends journal at so (number_after last cs) worse → Same bs cs to so bad worse
  once from last [] [] to so bad worse h e k f = (refl, h ∙ sym k, ends_once journal at from last bad worse (subst (λ (p : ℕ). Ends journal at p last bad) h e) (subst (λ (p : ℕ). Ends journal at p last worse) k f))
  once from last [] (c ∷ cs) to so bad worse h e k f = absurd (ends_none journal short at from last bad c (subst (λ (p : ℕ). Ends journal at p last bad) h e) k.1)
  once from last (b ∷ bs) [] to so bad worse h e k f = absurd (ends_none journal short at from last worse b (subst (λ (p : ℕ). Ends journal at p last worse) k f) h.1)
  once from last (b ∷ bs) (c ∷ cs) to so bad worse h e k f =
      let is : b ≡ c = same_batch journal short from last b c (h.0 ∙ sym k.0) h.1 k.1 in
      one_more b c bs cs to so bad worse is
      (once (from + batch_len b) b.number bs cs to so bad worse h.2 e
      (subst (λ (x : Batch). Lead journal at (from + batch_len x) x.number cs so) (sym is) k.2)
      (subst (λ (x : Batch). Ends journal at so (number_after x.number cs) worse) (sym is) f))

  pub one_reading : (number : ℕ) (bs cs : List Batch) (to so : ℕ) (bad worse : Option ℕ) → IsReading journal at number bs to bad → IsReading journal at number cs so worse → (bs ≡ cs) × (to ≡ so) × (bad ≡ worse)
  one_reading number bs cs to so bad worse h k = once 0 number bs cs to so bad worse h.lead h.ends k.lead k.ends
