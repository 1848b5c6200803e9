-- The faults that are heard are apart, in the order of deeds.
use Rattle.std.proofs.Common.{◌≡◌, ◌≤◌, ◌%◌, ◌∙◌, ℕ, arith, ◌++◌, [], List, Option, None, Some, refl, sym, ap, subst, append_assoc, append-nil}
use Rattle.std.specs.List.{cons_option}
use Rattle.std.proofs.lemmas.List.Elements.{filter_map-append, All-nil, All-push, All-weaker}
use Rattle.std.proofs.lemmas.List.Quantifiers.{all_pairs_push}
use Rattle.hsm_types.specs.declared.daemons.Act.{Act}
use Rattle.hsm_types.specs.declared.daemons.Daemon.{Daemon}
use Rattle.hsm_types.specs.declared.daemons.Heard.{Heard}
use Rattle.hsm_types.specs.declared.media.Fault.{Fault}
use Rattle.hsm_types.specs.declared.media.Fault.TheVariants.{Failed, Damaged}
use Rattle.deeds.specs.Deeds.{Deed}
use Rattle.deeds.specs.Faults.{fault_told, fault_in, faults_heard, Counts, IsOver, IsApart, AreApart, Rises, HeardApart, AddsHeard, AddsNone, AddsBoth}

chain : (a b c : ℕ) → a ≤ b → b ≤ c → a ≤ c
chain a b c less more = omega arith

module _ (drives : ℕ) where
  still_over : (old new : Counts) → ((drive : ℕ) → old drive ≤ new drive) → (fault : Fault) → IsOver drives old fault → IsOver drives new fault
  still_over old new grows (Failed volume object before after) over = chain after (old (volume % drives)) (new (volume % drives)) over (grows (volume % drives))
  still_over old new grows (Damaged volume object want got) over = tt

  all_over : (old new : Counts) → ((drive : ℕ) → old drive ≤ new drive) → (faults : List Fault) → AreApart drives old faults → AreApart drives new faults
  all_over old new grows faults so = record { over = All-weaker (IsOver drives old) (IsOver drives new) (still_over old new grows) faults so.over; apart = so.apart }

  -- ---- something is heard of an act on drives

  module _ (asked : Act) (told : Heard) (old new : Counts) (is : Rises drives asked told old new) where
    over_now : (fault : Fault) → fault_told asked told ≡ Some fault → IsOver drives new fault
    over_now (Failed volume object before after) some = (is.rose volume object before after some).1
    over_now (Damaged volume object want got) some = tt

    behind : (fault earlier : Fault) → fault_told asked told ≡ Some fault → IsOver drives old earlier → IsApart drives earlier fault
    behind (Failed volume object before after) (Failed earlier_volume earlier_object earlier_before earlier_after) some over = λ same.
        chain earlier_after (old (volume % drives)) before (subst (λ (drive : ℕ). earlier_after ≤ old drive) same over) (is.rose volume object before after some).0
    behind (Damaged volume object want got) (Failed earlier_volume earlier_object earlier_before earlier_after) some over = tt
    behind fault (Damaged volume object want got) some over = tt

    adds_told : (o : Option Fault) → fault_told asked told ≡ o → (faults : List Fault) → AreApart drives old faults → AreApart drives new (faults ++ cons_option o [])
    adds_told None none faults so = subst (λ (l : List Fault). AreApart drives new l) (sym (append-nil faults)) (all_over old new is.grows faults so)
    adds_told (Some fault) some faults so = record {
      over = All-push (IsOver drives new) faults fault (All-weaker (IsOver drives old) (IsOver drives new) (still_over old new is.grows) faults so.over) (over_now fault some);
      apart = all_pairs_push (IsApart drives) faults fault so.apart (All-weaker (IsOver drives old) (λ (earlier : Fault). IsApart drives earlier fault) (λ earlier over. behind fault earlier some over) faults so.over);
    }

  pub fault_added : (daemon : Daemon) (asked : Act) (told : Heard) → AddsHeard drives daemon asked told
  fault_added daemon asked told old new is faults so = adds_told asked told old new is (fault_told asked told) refl faults so

  -- ---- others

  -- no fault is heard
  pub none_added : (deeds : List Deed) → AddsNone drives deeds
  none_added deeds old new none grows faults so = subst (λ (l : List Fault). AreApart drives new l) (sym (ap (λ (l : List Fault). faults ++ l) none ∙ append-nil faults)) (all_over old new grows faults so)

  pub faults_added : (deeds more : List Deed) → AddsBoth drives deeds more
  faults_added deeds more a b c first then faults so =
      subst (λ (l : List Fault). AreApart drives c l) (append_assoc faults (faults_heard deeds) (faults_heard more) ∙ ap (λ (l : List Fault). faults ++ l) (sym (filter_map-append fault_in deeds more)))
      (then (faults ++ faults_heard deeds) (first faults so))

  pub faults_apart : (deeds : List Deed) → HeardApart drives deeds
  faults_apart deeds old new adds = adds [] (record { over = All-nil (IsOver drives old); apart = λ i j d less within. absurd (omega arith) })
