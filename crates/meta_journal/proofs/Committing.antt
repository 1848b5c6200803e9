-- From the buffer of a journal to what contracts see of it.
use Rattle.std.proofs.Common.{◌≡◌, ℕ, ◌+◌, ◌<◌, ◌≤◌, ◌^◌, List, [], ◌∷◌, ◌++◌, length, take, sym, ◌∙◌, ap, subst, arith, length-take-le}
use Rattle.byteorder.specs.Endian.{big_bytes}
use Rattle.disk_model.specs.declared.device.Disk as disk
use Rattle.disk_model.specs.Images.{part, IsWritten}
use Rattle.disk_model.specs.Moments.{Turns}
use Rattle.meta_journal.specs.Texts.{closed_gate, batch_text}
use Rattle.meta_journal.specs.Steps.{Journal, next_gate, next_batch, after_commit, FitsBatch, StaysShut, KeepsBatches, AddsBatch, HasRoom}
use Rattle.meta_journal.proofs.Pieces.{part_none}
use Rattle.meta_journal.proofs.Framing.{journal, staged_long}
use Rattle.meta_journal.proofs.Opening.{commit_turns, written_adds}

-- what fits, in the buffer's own numbers
pub room : (bytes : List ℕ) (at used count size more : ℕ) (j : Journal) → HasRoom (length bytes) used count size → journal at (length bytes) used count (part bytes 16 size) ≡ j → FitsBatch j more → used + (18 + (size + more)) ≤ length bytes
room bytes at used count size more j kept seen fits =
    let here : FitsBatch (journal at (length bytes) used count (part bytes 16 size)) more = subst (λ (i : Journal). FitsBatch i more) (sym seen) fits in
    omega (arith, here, staged_long bytes used count size kept)

-- the same journal, over another buffer
pub seen_same : (at used count size : ℕ) (items from old new : List ℕ) (j : Journal) → items ≡ new → length new ≡ length old → part new 16 size ≡ part from 16 size → from ≡ old → journal at (length old) used count (part old 16 size) ≡ j
    → journal at (length items) used count (part items 16 size) ≡ j
seen_same at used count size items from old new j items_is long kept from_is seen =
    ap (λ (l : List ℕ). journal at (length l) used count (part l 16 size)) items_is
    ∙ ap (λ (k : ℕ). journal at k used count (part new 16 size)) long
    ∙ ap (λ (staged : List ℕ). journal at (length old) used count staged) (kept ∙ ap (λ (l : List ℕ). part l 16 size) from_is)
    ∙ seen

pub seen_more : (at used count size : ℕ) (items old new more : List ℕ) (j : Journal) → items ≡ new → (length new ≡ length old) × (part new 16 (size + length more) ≡ part old 16 size ++ more) → journal at (length old) used count (part old 16 size) ≡ j
    → journal at (length items) used (count + 1) (part items 16 (size + length more)) ≡ record j { count = j.count + 1; staged = j.staged ++ more }
seen_more at used count size items old new more j items_is is seen =
    ap (λ (l : List ℕ). journal at (length l) used (count + 1) (part l 16 (size + length more))) items_is
    ∙ ap (λ (k : ℕ). journal at k used (count + 1) (part new 16 (size + length more))) is.0
    ∙ ap (λ (staged : List ℕ). journal at (length old) used (count + 1) staged) is.1
    ∙ ap (λ (i : Journal). record i { count = i.count + 1; staged = i.staged ++ more }) seen

module _ (at used count size n : ℕ) (old from new buf : List ℕ) (j : Journal) (kept : HasRoom (length old) used count size) (seen : journal at (length old) used count (part old 16 size) ≡ j) where
  pub seen_after : (items : List ℕ) → items ≡ new → length new ≡ length old → journal at (length items) (used + (17 + size)) 0 (part items 16 0) ≡ after_commit j
  seen_after items items_is long =
      ap (λ (l : List ℕ). journal at (length l) (used + (17 + size)) 0 (part l 16 0)) items_is
      ∙ ap (λ (k : ℕ). journal at k (used + (17 + size)) 0 (part new 16 0)) long
      ∙ ap (λ (staged : List ℕ). journal at (length old) (used + (17 + size)) 0 staged) (part_none new 16)
      ∙ ap (λ (k : ℕ). journal at (length old) (used + (17 + k)) 0 []) (sym (staged_long old used count size kept))
      ∙ ap after_commit seen

  module _ (from_is : from ≡ old) (buf_is : buf ≡ new) (long : length new ≡ length old) (framed : take (17 + size) new ≡ big_bytes 4 size ++ big_bytes 8 n ++ big_bytes 4 count ++ part from 16 size ++ closed_gate) (fits : FitsBatch j 0) (few : count < 2 ^ 32) where
    abbrev now : Journal
    now = journal at (length old) used count (part old 16 size)

    abbrev body : List ℕ
    body = take (17 + size) buf

    size_is : length (part old 16 size) ≡ size
    size_is = staged_long old used count size kept

    fits_now : FitsBatch now 0
    fits_now = subst (λ (i : Journal). FitsBatch i 0) (sym seen) fits

    pub body_long : length body ≡ 17 + length now.staged
    body_long = length-take-le (17 + size) buf (omega (arith, ap length buf_is, long, fits_now, size_is)) ∙ ap (λ (k : ℕ). 17 + k) (sym size_is)

    text_is : 1 ∷ body ≡ batch_text (next_batch now n) ++ closed_gate
    text_is =
        ap (λ (l : List ℕ). 1 ∷ take (17 + size) l) buf_is ∙ ap (λ (l : List ℕ). 1 ∷ l) framed
        ∙ ap (λ (l : List ℕ). 1 ∷ (big_bytes 4 size ++ big_bytes 8 n ++ big_bytes 4 count ++ part l 16 size ++ closed_gate)) from_is
        ∙ ap (λ (k : ℕ). 1 ∷ (big_bytes 4 k ++ big_bytes 8 n ++ big_bytes 4 count ++ part old 16 size ++ closed_gate)) (sym size_is)

    pub turns_for : {D : Type 0} (g : disk.Ghosts D) (d e : D) → Turns g d e (StaysShut (at + used) (length body)) (IsWritten (at + used) (1 ∷ body)) → Turns g d e (KeepsBatches j) (AddsBatch j n)
    turns_for g d e t = subst (λ (i : Journal). Turns g d e (KeepsBatches i) (AddsBatch i n)) seen
        (commit_turns g d e now n fits_now few
        (subst (λ (l : List ℕ). Turns g d e (StaysShut (next_gate now) (17 + length now.staged)) (IsWritten (next_gate now) l)) text_is
        (subst (λ (k : ℕ). Turns g d e (StaysShut (next_gate now) k) (IsWritten (next_gate now) (1 ∷ body))) body_long t)))

    pub adds_for : (d c : List ℕ) → IsWritten (at + used) (1 ∷ body) d c → AddsBatch j n d c
    adds_for d c w = subst (λ (i : Journal). AddsBatch i n d c) seen (written_adds now (omega (arith, fits_now)) d c n fits_now few (subst (λ (l : List ℕ). IsWritten (next_gate now) l d c) text_is w))
