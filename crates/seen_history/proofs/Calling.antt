-- What a caller is told may come but for bytes in each world that the store stands for so, and what it leaves stands so for the world after it.
use Rattle.std.proofs.Common.{◌≡◌, ◌<◌, ◌+◌, ◌-◌, ℕ, min, [], length, replicate, true, Option, Some, None, refl, sym, ◌∙◌, ap, subst, arith}
use Rattle.std.specs.Prelude.{nat_lt, if◌then◌else◌}
use Rattle.std.specs.List.{AllByRecursion}
use Rattle.hsm_types.specs.Refusals.{first_refusal}
use Rattle.hsm_types.proofs.Righted.{conflict-held}
use Rattle.hsm_types.specs.Messages.{no_token}
use Rattle.hsm_types.specs.declared.keys.FileKey.{FileKey}
use Rattle.hsm_types.specs.declared.keys.Token.{Token}
use Rattle.hsm_types.specs.declared.stores.Superblock.{Superblock}
use Rattle.hsm_types.specs.declared.calls.Call.{Call}
use Rattle.hsm_types.specs.declared.calls.Call.TheVariants.{Create, Read, Write, Truncate, Remove, Stat, Sync}
use Rattle.hsm_types.specs.declared.calls.CallRefusal.{CallRefusal}
use Rattle.hsm_types.specs.declared.calls.CallRefusal.TheVariants.{NoSpace, Waiting, Idle}
use Rattle.hsm_types.specs.declared.calls.Reply.{Reply}
use Rattle.hsm_types.specs.declared.calls.Reply.TheVariants.{Done, Made, Data, Size, Parked, Blocked, Still, Refused}
use Rattle.plain_model.specs.declared.entries.Action.{Action}
use Rattle.plain_model.specs.declared.facts.Facts.{Facts}
use Rattle.plain_model.specs.Accesses.{need_of}
use Rattle.plain_model.specs.Blocks.{touched}
use Rattle.plain_model.specs.Effects.{Makes, Drops, Writes, Resizes, effect_of}
use Rattle.plain_model.specs.Ledger.{Ledger, Meant, Fixed, Means, next_token, meant, objection, ledger_replied}
use Rattle.plain_model.specs.Plain.{listing, free_inode, read_at, body_of}
use Rattle.plain_model.specs.Seen.{blanked}
use Rattle.plain_model.specs.Side.{sides_of, side_replied}
use Rattle.plain_model.specs.Stamps.{reaches_key}
use Rattle.plain_model.specs.Stands.{InOrder}
use Rattle.plain_model.specs.State.{Held, Flags, State, names_of, next_key, bytes_of, used}
use Rattle.plain_model.specs.Step.{World, MayReply, meant_for, objection_for, replied}
use Rattle.plain_model.specs.Verdict.{Blocks, Posts, Lacks, Verdict, rulings, verdict, reply_by, objection_in, meant_in, reply_where, left_by_verdict}
use Rattle.plain_model.specs.Verdict.{state_where}
use Rattle.plain_model.proofs.Alike.{names_alike, size_alike, facts_alike}
use Rattle.plain_model.proofs.Bodies.{length-read}
use Rattle.plain_model.proofs.Judged.{Says, meant_says}
use Rattle.plain_model.proofs.Ruling.{wants, short_by, rules_follow}
use Rattle.seen_history.specs.Alike.{zeros, blank_reply}
use Rattle.seen_history.specs.Outlines.{outlines, held_outlines, FitStubs, StandsButBytes}
use Rattle.seen_history.proofs.Fitting.{affected_fits}
use Rattle.seen_history.proofs.Leaving.{Leaves, affected_beside}
use Rattle.seen_history.proofs.Likening.{liken_reply}
use Rattle.seen_history.proofs.Outlining.{names_same, size_same, affected_same}

module _ (s : Superblock) (st : State) (seen : Held) (alike : blanked seen ≡ blanked st.held) (W : World) (stands : StandsButBytes st W) where
  abbrev over : State
  over = record st { held = seen }

  names : names_of st.held.files ≡ listing W.files
  names = names_same st.held.files W.files stands.files

  seen_names : names_of seen.files ≡ listing W.files
  seen_names = names_alike st.held seen alike ∙ names

  size : (k : FileKey) → length (bytes_of k st.held.files) ≡ length (body_of k W.files)
  size k = size_same st.held.files W.files stands.files k

  seen_size : (k : FileKey) → length (bytes_of k seen.files) ≡ length (body_of k W.files)
  seen_size k = size_alike st.held seen alike k ∙ size k

  new_key : next_key st.held ≡ next_key seen
  new_key = sym (λ i. record { ino = free_inode 1 (names_alike st.held seen alike i); igen = (alike i).next })

  same_left : (c : ℕ) (m : Meant) (reply : Reply) → ledger_replied st.ledger c m reply ≡ ledger_replied W.ledger c m reply
  same_left c m reply = ap (λ (L : Ledger). ledger_replied L c m reply) stands.ledger

  -- of an event that comes to this, by the reply and what is left
  pub record CallStep (why : Option CallRefusal) (m : Meant) (c : ℕ) (left : State) (reply : Reply) : Type 0 where
    pub may : InOrder st → MayReply W why m (liken_reply W m reply)
    pub like : blank_reply (liken_reply W m reply) ≡ blank_reply reply
    pub leaves : Leaves left (replied W c m reply) (side_replied W.files m reply (sides_of st.held.files)) (λ k. if reaches_key m reply k then st.number + 1 else st.stamps k)

  stays : (L : Ledger) (left : State) → left.held ≡ st.held → left.ledger ≡ L → StandsButBytes left (record W { ledger = L })
  stays L left held ledger = record {
    files = subst (λ (h : Held). held_outlines h.files ≡ outlines W.files) (sym held) stands.files;
    stubs = subst (λ (h : Held). AllByRecursion FitStubs h.files) (sym held) stands.stubs;
    newer = subst (λ (h : Held). W.last < h.next) (sym held) stands.newer;
    ledger = ledger;
  }

  same_many : (o n : ℕ) (k : FileKey) → zeros (read_at o n (body_of k W.files)) ≡ zeros (read_at o n (bytes_of k seen.files))
  same_many o n k =
      ap (λ (m : ℕ). replicate {A = ℕ} m 0) (length-read o n (body_of k W.files) ∙ ap (λ m. min n (m - o)) (sym (seen_size k)) ∙ sym (length-read o n (bytes_of k seen.files)))

  done_step : (c : ℕ) (fl : Flags) (k : FileKey) (call : Call) → CallStep None (Means k call) c (left_by_verdict s st c fl k call None) (reply_by over k call None)
  done_step c fl k (Create name) =
      subst (λ (j : FileKey). CallStep None (Means k (Create name)) c (left_by_verdict s st c fl k (Create name) None) (Made j)) new_key
      (record {
        may = λ ordered. ((ap (free_inode 1) names, stands.newer), refl);
        like = refl;
        leaves = record {
          stands = record {
            files = affected_same (Makes name) (next_key st.held) st.held.files W.files stands.files tt;
            stubs = affected_fits (Makes name) (next_key st.held) st.held.files tt stands.stubs;
            newer = omega arith;
            ledger = same_left c (Means k (Create name)) (Made (next_key st.held));
          };
          beside = affected_beside (Makes name) (next_key st.held) st.held.files W.files (size (next_key st.held));
          stamped = λ j. refl;
        };
      })
  done_step c fl k (Read name o n) = record {
    may = λ ordered. (tt, refl);
    like = ap Data (same_many o n k);
    leaves = record { stands = stays (ledger_replied W.ledger c (Means k (Read name o n)) (Data [])) _ refl (same_left c (Means k (Read name o n)) (Data [])); beside = refl; stamped = λ j. refl };
  }
  done_step c fl k (Write name o bytes) = record {
    may = λ ordered. (tt, refl);
    like = refl;
    leaves = record {
      stands = record {
        files = affected_same (Writes o bytes) k st.held.files W.files stands.files tt;
        stubs = affected_fits (Writes o bytes) k st.held.files tt stands.stubs;
        newer = stands.newer;
        ledger = same_left c (Means k (Write name o bytes)) Done;
      };
      beside = affected_beside (Writes o bytes) k st.held.files W.files (size k);
      stamped = λ j. refl;
    };
  }
  done_step c fl k (Truncate name n) = record {
    may = λ ordered. (tt, refl);
    like = refl;
    leaves = record {
      stands = record {
        files = affected_same (Resizes n) k st.held.files W.files stands.files tt;
        stubs = affected_fits (Resizes n) k st.held.files tt stands.stubs;
        newer = stands.newer;
        ledger = same_left c (Means k (Truncate name n)) Done;
      };
      beside = affected_beside (Resizes n) k st.held.files W.files (size k);
      stamped = λ j. refl;
    };
  }
  done_step c fl k (Remove name) = record {
    may = λ ordered. (tt, refl);
    like = refl;
    leaves = record {
      stands = record {
        files = affected_same Drops k st.held.files W.files stands.files tt;
        stubs = affected_fits Drops k st.held.files tt stands.stubs;
        newer = stands.newer;
        ledger = same_left c (Means k (Remove name)) Done;
      };
      beside = affected_beside Drops k st.held.files W.files (size k);
      stamped = λ j. refl;
    };
  }
  done_step c fl k (Stat name) = record {
    may = λ ordered. (tt, ap (λ n. Size n) (seen_size k));
    like = refl;
    leaves = record { stands = stays (ledger_replied W.ledger c (Means k (Stat name)) (Size 0)) _ refl (same_left c (Means k (Stat name)) (Size 0)); beside = refl; stamped = λ j. refl };
  }
  done_step c fl k Sync = record {
    may = λ ordered. (tt, refl);
    like = refl;
    leaves = record { stands = stays (ledger_replied W.ledger c (Means k Sync) Done) _ refl (same_left c (Means k Sync) Done); beside = refl; stamped = λ j. refl };
  }

  -- a reply that isn't of bytes stays
  likened_parked : (k : FileKey) (call : Call) (t : Token) → liken_reply W (Means k call) (Parked t) ≡ Parked t
  likened_parked k (Read name o n) t = refl
  likened_parked k call t = refl

  likened_blocked : (k : FileKey) (call : Call) (t : Token) → liken_reply W (Means k call) (Blocked t) ≡ Blocked t
  likened_blocked k (Read name o n) t = refl
  likened_blocked k call t = refl

  likened_refused : (k : FileKey) (call : Call) (why : CallRefusal) → liken_reply W (Means k call) (Refused why) ≡ Refused why
  likened_refused k (Read name o n) why = refl
  likened_refused k call why = refl

  verdict_step : (c : ℕ) (fl : Flags) (k : FileKey) (call : Call) (v : Verdict) → verdict s over fl k call ≡ v → CallStep None (Means k call) c (left_by_verdict s st c fl k call v) (reply_by over k call v)
  verdict_step c fl k call None is = done_step c fl k call
  verdict_step c fl k call (Some (Blocks t)) is =
      let held = rules_follow s over fl k call (Blocks t) is in
      record {
        may = λ ordered. rw (likened_blocked k call t) (held.0, ap (λ (L : Ledger). L.open t.0) (sym stands.ledger) ∙ conflict-held (λ h. st.ledger.open h.token.0 ≡ true) k (need_of call) no_token t st.rights ordered.held held.1);
        like = ap blank_reply (likened_blocked k call t);
        leaves = record { stands = stays (ledger_replied W.ledger c (Means k call) (Blocked t)) _ refl (same_left c (Means k call) (Blocked t)); beside = refl; stamped = λ j. refl };
      }
  verdict_step c fl k call (Some (Posts kind)) is =
      let t : Token = next_token st.ledger in
      record {
        may = λ ordered. rw (likened_parked k call t) (rules_follow s over fl k call (Posts kind) is, ap next_token stands.ledger);
        like = ap blank_reply (likened_parked k call t);
        leaves = record { stands = stays (ledger_replied W.ledger c (Means k call) (Parked t)) _ refl (same_left c (Means k call) (Parked t)); beside = refl; stamped = λ j. refl };
      }
  verdict_step c fl k call (Some (Lacks need free)) is =
      let many : ℕ = length (bytes_of k seen.files) in
      let blocks : ℕ = length (touched (effect_of call) many) in
      let room : ℕ = s.geometry.blocks - used seen.files in
      let short = short_by (nat_lt room blocks) blocks room need free refl (rules_follow s over fl k call (Lacks need free) is) in
      let why : CallRefusal = NoSpace need free in
      record {
        may = λ ordered. rw (likened_refused k call why) (wants call many room short.2, rw (← short.0, ← short.1) short.2);
        like = ap blank_reply (likened_refused k call why);
        leaves = record { stands = stays (ledger_replied W.ledger c (Means k call) (Refused why)) _ refl (same_left c (Means k call) (Refused why)); beside = refl; stamped = λ j. refl };
      }

  fixed_step : (c : ℕ) (fl : Flags) (why : Option CallRefusal) (reply : Reply) → Says (Fixed reply) → CallStep why (Fixed reply) c (state_where s st c fl why (Fixed reply)) reply
  fixed_step c fl why (Refused Waiting) says = record {
    may = λ ordered. refl;
    like = refl;
    leaves = record { stands = stays (ledger_replied W.ledger c (Fixed (Refused Waiting)) (Refused Waiting)) _ refl (same_left c (Fixed (Refused Waiting)) (Refused Waiting)); beside = refl; stamped = λ j. refl };
  }
  fixed_step c fl why (Refused Idle) says = record {
    may = λ ordered. refl;
    like = refl;
    leaves = record { stands = stays (ledger_replied W.ledger c (Fixed (Refused Idle)) (Refused Idle)) _ refl (same_left c (Fixed (Refused Idle)) (Refused Idle)); beside = refl; stamped = λ j. refl };
  }
  fixed_step c fl why (Still t) says = record {
    may = λ ordered. refl;
    like = refl;
    leaves = record { stands = stays (ledger_replied W.ledger c (Fixed (Still t)) (Still t)) _ refl (same_left c (Fixed (Still t)) (Still t)); beside = refl; stamped = λ j. refl };
  }
  fixed_step c fl why reply says = absurd says

  same_verdict : (fl : Flags) (k : FileKey) (call : Call) → verdict s over fl k call ≡ verdict s st fl k call
  same_verdict fl k call = ap (λ (facts : Facts). first_refusal (rulings fl facts st.rights st.sessions k call)) (facts_alike st.held seen alike s k call)

  where_step : (c : ℕ) (fl : Flags) (why : Option CallRefusal) (m : Meant) → Says m → CallStep why m c (state_where s st c fl why m) (reply_where s over fl why m)
  where_step c fl why (Fixed reply) says = fixed_step c fl why reply says
  where_step c fl None (Means k call) says =
      subst (λ (v : Verdict). CallStep None (Means k call) c (left_by_verdict s st c fl k call v) (reply_by over k call (verdict s over fl k call))) (same_verdict fl k call) (verdict_step c fl k call (verdict s over fl k call) refl)
  where_step c fl (Some why) (Means k call) says = record {
    may = λ ordered. likened_refused k call why;
    like = ap blank_reply (likened_refused k call why);
    leaves = record { stands = stays (ledger_replied W.ledger c (Means k call) (Refused why)) _ refl (same_left c (Means k call) (Refused why)); beside = refl; stamped = λ j. refl };
  }

  same_meant : (c : ℕ) (what : Action) → meant_for W c what ≡ meant_in st c what
  same_meant c what = sym (λ i. meant (names i) ((stands.ledger i).pending c) what)

  same_objection : (c : ℕ) (what : Action) → objection_for s W c what ≡ objection_in s st c what
  same_objection c what = sym (λ i. objection s (names i) ((stands.ledger i).pending c) what)

  seen_meant : (c : ℕ) (what : Action) → meant_for W c what ≡ meant_in over c what
  seen_meant c what = sym (λ i. meant (seen_names i) ((stands.ledger i).pending c) what)

  seen_objection : (c : ℕ) (what : Action) → objection_for s W c what ≡ objection_in s over c what
  seen_objection c what = sym (λ i. objection s (seen_names i) ((stands.ledger i).pending c) what)

  pub call_step : (c : ℕ) (fl : Flags) (what : Action)
      → CallStep (objection_for s W c what) (meant_for W c what) c (state_where s st c fl (objection_in s st c what) (meant_in st c what)) (reply_where s over fl (objection_in s over c what) (meant_in over c what))
  call_step c fl what =
      let why : Option CallRefusal = objection_for s W c what in
      let m : Meant = meant_for W c what in
      subst (λ (left : State). CallStep why m c left (reply_where s over fl (objection_in s over c what) (meant_in over c what))) (λ i. state_where s st c fl (same_objection c what i) (same_meant c what i))
      (subst (λ (reply : Reply). CallStep why m c (state_where s st c fl why m) reply) (λ i. reply_where s over fl (seen_objection c what i) (seen_meant c what i))
      (where_step c fl why m (meant_says (listing W.files) (W.ledger.pending c) what)))
