-- What an event leaves: the store stands for a world but for bytes, with sides and stamps.
use Rattle.std.proofs.Common.{◌≡◌, ◌<◌, ℕ, List, length, Option, Some, None, refl, sym, ◌∙◌, ap, subst}
use Rattle.std.specs.Prelude.{IfSome}
use Rattle.hsm_types.specs.Keyed.{find_key}
use Rattle.hsm_types.specs.declared.keys.FileKey.{FileKey}
use Rattle.plain_model.specs.Effects.{Effect, Leaves as Keeps, Makes, Drops}
use Rattle.plain_model.specs.Plain.{File, body_of}
use Rattle.plain_model.specs.Side.{Side, side_of, sides_of, remade_side, affected_side}
use Rattle.plain_model.specs.State.{FileState, State, new_file, file_or_new, bytes_of, remade, affected_held}
use Rattle.plain_model.specs.Step.{World}
use Rattle.seen_history.specs.Outlines.{outlines, StandsButBytes}
use Rattle.seen_history.proofs.Mapped.{put_mapped, drop_mapped, change_mapped}

pub record Leaves (left : State) (V : World) (sides : List Side) (stamps : FileKey → ℕ) : Type 0 where
  pub stands : StandsButBytes left V
  pub beside : sides_of left.held.files ≡ sides
  pub stamped : (k : FileKey) → left.stamps k ≡ stamps k

-- two worlds are the same but for bytes
pub record SameButBytes (V U : World) : Type 0 where
  pub files : outlines V.files ≡ outlines U.files
  pub last : V.last ≡ U.last
  pub ledger : V.ledger ≡ U.ledger

pub same_world : (V : World) → SameButBytes V V
same_world V = record { files = refl; last = refl; ledger = refl }

-- what stands for one stands for the other
pub stands_same : (st : State) (V U : World) → SameButBytes V U → StandsButBytes st U → StandsButBytes st V
stands_same st V U same stands = record {
  files = stands.files ∙ sym same.files;
  stubs = stands.stubs;
  newer = subst (λ n. n < st.held.next) (sym same.last) stands.newer;
  ledger = stands.ledger ∙ sym same.ledger;
}

remade_beside : (e : Effect) (k : FileKey) (size : ℕ) (o : Option FileState) → length (file_or_new k o).body ≡ size → IfSome o (λ f. side_of (remade e f) ≡ remade_side e size (side_of f))
remade_beside e k size None is = tt
remade_beside e k size (Some f) is = ap (λ n. remade_side e n (side_of f)) is

-- sides follow an effect on a file of which the store holds as many bytes as the map
pub affected_beside : (e : Effect) (k : FileKey) (fs : List FileState) (gs : List File) → length (bytes_of k fs) ≡ length (body_of k gs) → sides_of (affected_held e k fs) ≡ affected_side e k gs (sides_of fs)
affected_beside Keeps k fs gs size = refl
affected_beside (Makes name) k fs gs size = put_mapped (λ (x : Side). x.key) side_of (new_file k name) fs
affected_beside Drops k fs gs size = drop_mapped (λ (x : Side). x.key) side_of k fs
affected_beside e k fs gs size =
    change_mapped (λ (x : Side). x.key) side_of k (remade e) (remade_side e (length (body_of k gs))) fs (remade_beside e k (length (body_of k gs)) (find_key (λ f. f.key) k fs) size)
