-- An access that no rule stops is sound for its file, since stub entries are lawful.
use Rattle.std.proofs.Common.{◌≡◌, length, List, [], ◌∷◌, Bool, true, false, Option, Some, None, ap}
use Rattle.std.proofs.lemmas.Bool.{false≢true}
use Rattle.std.specs.Prelude.{if◌then◌else◌}
use Rattle.std.specs.List.{AllByRecursion}
use Rattle.hsm_types.specs.declared.calls.Call.{Call}
use Rattle.hsm_types.specs.declared.keys.FileKey.{FileKey}
use Rattle.hsm_types.specs.declared.stores.Superblock.{Superblock}
use Rattle.hsm_types.proofs.Stubbing.{away_covered}
use Rattle.plain_model.specs.declared.facts.Facts.{Facts}
use Rattle.plain_model.specs.Effects.{effect_of}
use Rattle.hsm_types.specs.Keyed.{same_key, find_key}
use Rattle.plain_model.specs.Sound.{IsSound}
use Rattle.plain_model.specs.State.{FileState, Held, Flags, file_or_new, file_at}
use Rattle.plain_model.specs.Verdict.{touching, needing}
use Rattle.plain_model.proofs.Unstopped.{IsCovered, call_sound}
use Rattle.file_store.specs.Stores.{IsStubbed}
use Rattle.hsm_core.specs.Targets.{AreKnown}

-- each segment that is away is covered, of every file, and of one that isn't there too
none_covered : (k : FileKey) → IsCovered (file_or_new k None)
none_covered k j away = absurd (false≢true away)

stubbed_covered : (f : FileState) → IsStubbed f → IsCovered f
stubbed_covered f is = away_covered (length f.body) f.kept.regions f.kept.stubs is

found_covered : (k : FileKey) (f : FileState) (here : Bool) (rest : Option FileState) → IsStubbed f → IsCovered (file_or_new k rest) → IsCovered (file_or_new k (if here then Some f else rest))
found_covered k f true rest is later = stubbed_covered f is
found_covered k f false rest is later = later

covered_at : (k : FileKey) (files : List FileState) → AllByRecursion IsStubbed files → IsCovered (file_at k files)
covered_at k [] all = none_covered k
covered_at k (f ∷ files) all = found_covered k f (same_key f.key k) (find_key (λ f. f.key) k files) all.0 (covered_at k files all.1)

pub unstopped_sound : (s : Superblock) (h : Held) (k : FileKey) (fl : Flags) (call : Call) (facts : Facts) → AreKnown s h k call facts → touching fl facts call ≡ None → needing fl facts call ≡ None → IsSound (effect_of call) (file_at k h.files)
unstopped_sound s h k fl call facts known four five = call_sound (file_at k h.files) (covered_at k h.files known.stubbed) fl facts call (ap (λ x. x.touches) known.known, ap (λ x. x.needs) known.known) four five
