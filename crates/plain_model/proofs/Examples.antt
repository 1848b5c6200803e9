-- A session seals the first segment of a file, punches it and brings bytes back. The history is legal whichever bytes of that fingerprint these are, but
-- only with the segment's own the files are those that were never moved.
use Rattle.std.proofs.Common.{◌≡◌, ◌<◌, ◌-◌, ◌*◌, ℕ, min, List, [], ◌∷◌, length, take, true, false, inr, refl, sym, ◌∙◌, ap, arith}
use Rattle.std.proofs.lemmas.Bool.{false≢true}
use Rattle.std.specs.Prelude.{◌≢◌}
use Rattle.hsm_types.specs.Limits.{segment_bytes, all_flags}
use Rattle.hsm_types.specs.Messages.{no_token}
use Rattle.hsm_types.specs.Stubs.{print_of, entry_at}
use Rattle.hsm_types.specs.declared.dm.DmCall.{DmCall}
use Rattle.hsm_types.specs.declared.dm.DmCall.TheVariants.{CreateSession, SetRegion, PunchHole, Seal, Restore}
use Rattle.hsm_types.specs.declared.dm.DmReply.{DmReply}
use Rattle.hsm_types.specs.declared.dm.DmReply.TheVariants as told
use Rattle.hsm_types.specs.declared.keys.FileKey.{FileKey}
use Rattle.hsm_types.specs.declared.keys.Handle.{Handle}
use Rattle.hsm_types.specs.declared.keys.Sid.{Sid}
use Rattle.hsm_types.specs.declared.regions.Region.{Region}
use Rattle.hsm_types.specs.declared.stores.Superblock.{Superblock}
use Rattle.hsm_types.specs.declared.stubs.Fingerprint.{Fingerprint}
use Rattle.hsm_types.specs.declared.stubs.StubEntry.{StubEntry}
use Rattle.plain_model.specs.declared.entries.Entry.{Entry}
use Rattle.plain_model.specs.declared.entries.Actor.TheVariants.{Session}
use Rattle.plain_model.specs.declared.entries.Action.TheVariants.{Dm}
use Rattle.plain_model.specs.declared.entries.Answer.TheVariants.{Dm as Told}
use Rattle.plain_model.specs.Plain.{File, segment, body_of}
use Rattle.plain_model.specs.Step.{start}
use Rattle.plain_model.specs.Legal.{Legal, After, NoClash}
use Rattle.plain_model.specs.PlainFold.{plain_after}
use Rattle.plain_model.proofs.Bodies.{length-read}
use Rattle.plain_model.proofs.Meeting.{restored_segment}
use Rattle.plain_model.proofs.Same.{transparent}

abbrev pub sid : ℕ → Sid
sid n = record { 0 = n }

abbrev pub by : ℕ → DmCall → DmReply → Entry
by n call reply = record { actor = Session (sid n); action = Dm call; answer = Told reply }

abbrev pub one : FileKey
one = record { ino = 1; igen = 1 }

-- one that covers the whole file
abbrev pub all : List Region
all = record { offset = 0; size = 0; flags = all_flags } ∷ []

-- an answer for no fault need not be the last
pub no_fault : {A : Type 0} → false ≡ true → A
no_fault is = absurd (false≢true is)

module _ (s : Superblock) (name body back : List ℕ) where
  abbrev files : List File
  files = record { key = one; name = name; body = body } ∷ []

  abbrev handle : Handle
  handle = record { fsid = s.fsid; key = one }

  abbrev stub : StubEntry
  stub = entry_at (record { volume = 0; object = 0 }) (print_of (segment 0 body))

  abbrev pub moved : List Entry
  moved =
      by 0 (CreateSession (sid 0) name) (told.Session (sid 1))
      ∷ by 1 (SetRegion no_token handle all) told.Done
      ∷ by 1 (Seal no_token handle 0 stub) told.Done
      ∷ by 1 (PunchHole no_token handle 0 0) told.Done
      ∷ by 1 (Restore no_token handle 0 back) told.Done
      ∷ []

  module _ (some : 0 < length body) where
    within : segment_bytes * 0 < length body
    within = omega (arith, some)

    pub moved_is_legal : print_of back ≡ print_of (segment 0 body) → Legal s (start files) moved
    moved_is_legal same = (inr refl, no_fault, (inr refl, no_fault, (inr ((refl, within), refl), no_fault, (inr refl, no_fault, (inr ((refl, within), same), no_fault, tt)))))

    -- other bytes: a clash, and the files show it
    pub clash_is_seen : back ≢ segment 0 body → NoClash (start files) moved → ⊥
    clash_is_seen other none = other none.1.1.1.1.0

    pub clash_is_not_plain : print_of back ≡ print_of (segment 0 body) → back ≢ segment 0 body → (After (start files) moved).files ≢ plain_after files moved
    clash_is_not_plain same other is =
        let len : length back ≡ min segment_bytes (length body - segment_bytes * 0) = ap (λ (p : Fingerprint). p.len) same ∙ length-read (segment_bytes * 0) segment_bytes body in
        other (sym (restored_segment 0 back body len) ∙ ap (λ (P : List File). segment 0 (body_of one P)) is)

    -- its own
    pub own_is_no_clash : back ≡ segment 0 body → NoClash (start files) moved
    own_is_no_clash own = (tt, (tt, (tt, (tt, (own, tt)))))

    pub own_is_plain : back ≡ segment 0 body → (i : ℕ) → (After (start files) (take i moved)).files ≡ plain_after files (take i moved)
    own_is_plain own i = transparent s files moved (moved_is_legal (ap print_of own)) (own_is_no_clash own) i
