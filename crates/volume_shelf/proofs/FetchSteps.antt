-- How the steps of a fetch make one.
use Rattle.std.proofs.Common.{◌≡◌, inl, inr, ℕ, ◌<◌, Bool, true, false, List, length, Result, Ok, Err, IfOk, refl, ◌∙◌}
use Rattle.std.specs.Result.{IfErr, MatchResult}
use Rattle.hsm_types.specs.Stubs.{print_of, entry_place, entry_print}
use Rattle.hsm_types.specs.declared.media.Fault.{Fault}
use Rattle.hsm_types.specs.declared.media.Fault.TheVariants as fault
use Rattle.hsm_types.specs.declared.media.FetchRefusal.{FetchRefusal}
use Rattle.hsm_types.specs.declared.media.FetchRefusal.TheVariants.{Media, NoObject, Memory}
use Rattle.hsm_types.specs.declared.stubs.StubEntry.{StubEntry}
use Rattle.media_model.specs.Objects.{Objects, HasCause}
use Rattle.media_model.specs.declared.drive.Drive as drive
use Rattle.volume_shelf.specs.Shelf.{payload_in, Reads, IsCause, Fetched, FetchRefused}
use Rattle.volume_shelf.specs.Steps.{IsPayload, IsFaultOf, StepRefused}
use Rattle.volume_shelf.proofs.Rising.{rises_by_one}

-- a volume of which something is told is there
pub there_if_told : {T : Type 0} (x : T) (has : Bool) (before after : ℕ) → HasCause {T = T} (Ok x) has before after → has ≡ true
there_if_told x true before after cause = refl
there_if_told x false before after cause = absurd (elim (cause.missing refl) [ inl e ↦ cc | inr e ↦ cc ])

module _ {D : Type 0} (g : drive.Ghosts D) (entry : StubEntry) (len begun : ℕ) (old mid new : D) (is : begun ≡ g.fault_count old) (there : g.has old (entry_place entry).volume ≡ true) (reads : Reads g old mid)
    (told : (o : Objects) → g.gives old (entry_place entry).volume o → ((entry_place entry).object < length o) × (len ≡ length (payload_in (entry_place entry).object o))) where
  fault_of : (why : Fault) → IsFaultOf g entry len begun mid new why → IsCause g entry old new why
  fault_of (fault.Failed volume object before after) f = (f.0, f.1, f.2 ∙ is, f.3, rises_by_one before after f.4, f.4)
  fault_of (fault.Damaged volume object want got) f = (f.0, f.1, f.2, f.3, there, λ o given. let t = told o given in (t.0, f.4 o ((reads.same (entry_place entry).volume).1 o given) t.0 t.1))

  -- a step that was refused
  pub step_refused : (why : FetchRefusal) → StepRefused g entry len begun mid new why → FetchRefused g entry old new why
  step_refused (Media cause) r = fault_of cause r
  step_refused (NoObject volume object) r = absurd r
  step_refused Memory r = tt

  -- the whole payload
  pub fetched : (bytes : List ℕ) → print_of bytes ≡ entry_print entry → IsPayload g (entry_place entry).volume (entry_place entry).object len mid bytes → Fetched g entry old bytes
  fetched bytes print is_payload = record {
    there = there;
    print = print;
    given = λ o given. let t = told o given in (t.0, is_payload o ((reads.same (entry_place entry).volume).1 o given) t.0 t.1);
  }

  -- the last step
  pub ended : (r : Result (List ℕ) FetchRefusal) → IfOk r (λ bytes. print_of bytes ≡ entry_print entry) → IfOk r (IsPayload g (entry_place entry).volume (entry_place entry).object len mid) → IfErr r (StepRefused g entry len begun mid new) → MatchResult r (Fetched g entry old) (FetchRefused g entry old new)
  ended (Ok bytes) print is_payload refused = fetched bytes print is_payload
  ended (Err why) print is_payload refused = step_refused why refused
