-- How calls end, by their results.
use Rattle.file_store.proofs.Names.{arith, ◌≡◌, ℕ, false, Option, Some, None, refl, ◌∙◌, ap, subst, FileKey, Effect, Store, Proceeds, IsSound}
use Rattle.file_store.proofs.Names.{StoresOrKeeps, Ghosts, ◌≤◌, ⊎_elim}
use Rattle.std.specs.Prelude.{Result, Ok, Err}
use Rattle.std.specs.Result.{IsErrOf, IsErrAnd}
use Rattle.std.proofs.lemmas.Result.{err_from_is_err_and}
use Rattle.disk_model.specs.Calls.{Counts, RoseByOne}
use Rattle.hsm_types.specs.declared.dm.DmRefusal.{DmRefusal}
use Rattle.snapshot_text.specs.declared.refusal.MetaRefusal.{MetaRefusal}
use Rattle.snapshot_text.specs.declared.refusal.MetaRefusal.TheVariants.{Part, Disk, Memory}
use Rattle.file_store.specs.Changes.{Ends, Changes}
use Rattle.file_store.specs.Stores.{TellsFaults}
use Rattle.snapshot_text.specs.Refusals.{no_memory}
use Rattle.file_store.specs.Refusals.{is_disk}
use Rattle.file_store.proofs.Durable.{Parts, store_of, kept_proceeds, proceeds_on}

module _ {D T : Type 0} (g : Ghosts D) (old new : Store D) (n : ℕ) (refusal : Option DmRefusal) (proceeds : Proceeds g old n new) where
  pub ends_done : (x : T) → refusal ≡ None → new.failed ≡ false → g.fault_count new.disk ≡ g.fault_count old.disk → Ends g old n refusal (Ok x) new
  ends_done x none working quiet = record {
    judged = none;
    refused = λ part is. absurd cc;
    unchanged = λ part is. absurd cc;
    working = working;
    memory = λ is. absurd cc;
    faults = grind arith;
    proceeds = proceeds;
  }

  -- the layer below has refused it
  pub ends_refused : {S : Type 0} (r : Result S MetaRefusal) (why : MetaRefusal) → r ≡ Err why → new.failed ≡ is_disk why → ((part : DmRefusal) → IsErrOf r (Part part) → (refusal ≡ Some part) × (new ≡ old)) → (IsErrOf r Memory → new.held ≡ old.held)
      → Counts (IsErrOf r Disk) (g.fault_count old.disk) (g.fault_count new.disk) → Ends {T = T} g old n refusal (Err why) new
  ends_refused r why at failed part memory counts = record {
    judged = tt;
    refused = λ p is. (part p (at ∙ ap (λ w. Err w) cc)).0;
    unchanged = λ p is. (part p (at ∙ ap (λ w. Err w) cc)).1;
    working = tt;
    memory = λ is. grind arith;
    faults = grind arith;
    proceeds = proceeds;
  }

-- it has, and no more than the disk has changed
pub kept_ends : {D S T : Type 0} (g : Ghosts D) (p : Parts D) (new : D) (n : ℕ) (refusal : Option DmRefusal) (r : Result S MetaRefusal) (why : MetaRefusal) → IsSound g (store_of p) → p.failed ≡ false → r ≡ Err why → StoresOrKeeps g p.disk new p.meta n
    → ((part : DmRefusal) → IsErrOf r (Part part) → (refusal ≡ Some part) × (new ≡ p.disk)) → Counts (IsErrOf r Disk) (g.fault_count p.disk) (g.fault_count new) → Ends {T = T} g (store_of p) n refusal (Err why) (store_of (record p { disk = new; failed = is_disk why }))
kept_ends g p new n refusal r why sound working at turns part counts =
    ends_refused g _ _ n refusal (kept_proceeds g (store_of p) sound.meta (sound.live working) n _ turns refl refl) r why at refl
    (λ some is. let kept = part some is in let still : is_disk why ≡ p.failed = grind arith in (kept.0, λ i. record (store_of p) { disk = kept.1 i; failed = still i })) (λ is. refl) counts

-- it was refused before it began, and no call of the disk failed
pub unbegun : {D T : Type 0} (g : Ghosts D) (s : Store D) (n : ℕ) (refusal : Option DmRefusal) (why : MetaRefusal) → s.failed ≡ false → Proceeds g s n s → (why ≡ Disk → ⊥) → ((part : DmRefusal) → why ≡ Part part → refusal ≡ Some part)
    → Ends {T = T} g s n refusal (Err why) s
unbegun g s n refusal why works proceeds whole part = record {
  judged = tt;
  refused = λ p is. part p cc;
  unchanged = λ p is. refl;
  working = tt;
  memory = λ is. (refl, works);
  faults = grind arith;
  proceeds = proceeds;
}

pub refused_first : {D T : Type 0} {g : Ghosts D} {s : Store D} {n : ℕ} {refusal : Option DmRefusal} → (s.failed ≡ false → (n : ℕ) → Proceeds g s n s) → s.failed ≡ false → (r : Result T MetaRefusal) (why : MetaRefusal) → r ≡ Err why → (why ≡ Disk → ⊥)
    → ((part : DmRefusal) → why ≡ Part part → refusal ≡ Some part) → Ends g s n refusal r s
refused_first {D} {T} {g} {s} {n} {refusal} idle works r why at whole part = rw at (unbegun g s n refusal why works (idle works n) whole part)

-- there was no memory
pub lacking : {D T : Type 0} {g : Ghosts D} {s : Store D} {n : ℕ} {refusal : Option DmRefusal} → (s.failed ≡ false → (n : ℕ) → Proceeds g s n s) → s.failed ≡ false → (r : Result T MetaRefusal) → IsErrAnd r (λ why. why ≡ no_memory) → Ends g s n refusal r s
lacking idle works r is = let p = err_from_is_err_and r is in refused_first idle works r no_memory (p.1 ∙ ap (λ e. Err e) p.2) (λ is. cc) (λ part is. absurd cc)

-- what refuses it, in other words
pub ends_as : {D T : Type 0} {g : Ghosts D} {old new : Store D} {n : ℕ} {own refusal : Option DmRefusal} {r : Result T MetaRefusal} → own ≡ refusal → Ends g old n own r new → Ends g old n refusal r new
ends_as {D} {T} {g} {old} {new} {n} {own} {refusal} {r} same is = subst (λ x. Ends g old n x r new) same is

-- where no part has refused it, it ends so for any result of that error
pub ends_err : {D S T : Type 0} (g : Ghosts D) (old new : Store D) (n : ℕ) (refusal : Option DmRefusal) (r : Result S MetaRefusal) (why : MetaRefusal) → r ≡ Err why → ((part : DmRefusal) → IsErrOf r (Part part) → ⊥) → Ends g old n refusal r new
    → Ends {T = T} g old n None (Err why) new
ends_err g old new n refusal r why at whole is = record {
  judged = tt;
  refused = λ part e. absurd (whole part cc);
  unchanged = λ part e. absurd (whole part cc);
  working = tt;
  memory = λ e. is.memory cc;
  faults = grind arith;
  proceeds = is.proceeds;
}

-- faults of a call, where none came before it
pub faults_on : {D T : Type 0} (g : Ghosts D) (old mid new : Store D) (r : Result T MetaRefusal) → g.fault_count mid.disk ≡ g.fault_count old.disk → TellsFaults g r mid new → TellsFaults g r old new
faults_on g old mid new r quiet tells = record {
  closes = tells.closes;
  counts = record { once = λ failed. subst (λ (count : ℕ). RoseByOne count (g.fault_count new.disk)) quiet (tells.counts.once failed); quiet = λ none. tells.counts.quiet none ∙ quiet };
}

-- a change after a call that was done, and by which all is held as before
pub changes_on : {D S T : Type 0} {g : Ghosts D} {old mid new : Store D} {n : ℕ} {key : FileKey} {effect : Effect} {first : Result S MetaRefusal} {r : Result T MetaRefusal} (x : S) → first ≡ Ok x → Ends g old n None first mid → mid.held ≡ old.held
    → Changes g mid n key effect None r new → Changes g old n key effect None r new
changes_on {D} {S} {T} {g} {old} {mid} {new} {n} {key} {effect} {first} {r} x done before same is = record {
  held = grind arith;
  ends = record {
    judged = is.ends.judged;
    refused = is.ends.refused;
    unchanged = λ part e. absurd (let some = is.ends.refused part e in cc);
    working = is.ends.working;
    memory = λ e. ((is.ends.memory e).0 ∙ same, (is.ends.memory e).1);
    faults = faults_on g old mid new r (before.faults.counts.quiet (λ failed. cc)) is.ends.faults;
    proceeds = proceeds_on g old mid new n before.proceeds same is.ends.proceeds;
  };
}

-- numbers don't fall in a call
pub rises_on : {D : Type 0} {g : Ghosts D} {old new : Store D} {n : ℕ} → Proceeds g old n new → old.meta.number ≤ n → new.meta.number ≤ n
rises_on proceeds rises = ⊎_elim (λ kept. omega (arith, kept.0, rises)) (λ taken. omega (arith, taken.0)) proceeds.durable
