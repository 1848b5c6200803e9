-- A payload that is read piece by piece.
use Rattle.std.proofs.Common.{◌≡◌, ℕ, ◌+◌, ◌-◌, ◌<◌, ◌≤◌, min, List, ◌++◌, length, take, drop, sym, ap, ◌∙◌, arith, length-take, length-drop}
use Rattle.std.proofs.lemmas.List.{drop-drop, take-take, take_all}
use Rattle.std.proofs.Math.Seq.{take-add}
use Rattle.hsm_types.specs.Stubs.{print_of}
use Rattle.hsm_types.specs.declared.stubs.Fingerprint.{Fingerprint}
use Rattle.media_model.specs.Objects.{Objects}
use Rattle.media_model.specs.declared.drive.Drive as drive
use Rattle.volume_shelf.specs.Prints.{AreSoFar}
use Rattle.volume_shelf.specs.Shelf.{payload_in, Reads}
use Rattle.volume_shelf.specs.declared.prints.Pieces.{Pieces}

pub drop-behind : (frame at : ℕ) (l : List ℕ) → drop (frame + at) l ≡ drop at (drop frame l)
drop-behind frame at l = sym (drop-drop at frame l)

-- the front of what was read is that of what is there
pub piece-told : (buf payload : List ℕ) (n at room k : ℕ) → take n buf ≡ take room (drop at payload) → n ≤ room → k ≤ n → take k buf ≡ take k (drop at payload)
piece-told buf payload n at room k told fits within =
    sym (take-take k n buf within) ∙ ap (take k) told ∙ take-take k room (drop at payload) (omega arith)

-- where nothing was read, nothing is left
pub piece-ends : (buf payload : List ℕ) (n at room len : ℕ) → take n buf ≡ take room (drop at payload) → 0 < room → at ≤ len → len ≡ length payload → min n (len - at) ≡ 0 → at ≡ len
piece-ends buf payload n at room len told some within is none =
    omega (arith, ap length told, length-take n buf, length-take room (drop at payload), length-drop at payload)

module _ {D : Type 0} (g : drive.Ghosts D) where
  -- the pieces so far, of an object's payload that has so many bytes
  pub record SoFar (volume object len : ℕ) (old now : D) (pieces : Pieces) : Type 0 where
    pub reads : Reads g old now
    pub quiet : g.fault_count now ≡ g.fault_count old
    pub within : pieces.len ≤ len
    pub bytes : List ℕ
    pub so_far : AreSoFar pieces bytes
    pub told : (o : Objects) → g.gives old volume o → object < length o → len ≡ length (payload_in object o) → bytes ≡ take pieces.len (payload_in object o)

  -- one piece more
  pub next_piece : (volume object len : ℕ) (old mid new : D) (before after : Pieces) (n : ℕ) → SoFar volume object len old mid before → Reads g mid new → Reads g old new → g.fault_count new ≡ g.fault_count mid → after.len ≡ before.len + n → after.len ≤ len
      → ((bytes : List ℕ) → AreSoFar before bytes → (piece : List ℕ) × AreSoFar after (bytes ++ piece) × ((o : Objects) → g.gives mid volume o → object < length o → piece ≡ take n (drop before.len (payload_in object o))))
      → SoFar volume object len old new after
  next_piece volume object len old mid new before after n s r both well counted within adds =
      let more = adds s.bytes s.so_far in record {
        reads = both;
        quiet = well ∙ s.quiet;
        within = within;
        bytes = s.bytes ++ more.0;
        so_far = more.1;
        told = λ o given there is.
            let first : s.bytes ≡ take before.len (payload_in object o) = s.told o given there is in
            let second : more.0 ≡ take n (drop before.len (payload_in object o)) = more.2 o ((s.reads.same volume).1 o given) there in
            ap (λ (l : List ℕ). l ++ more.0) first ∙ ap (λ (l : List ℕ). take before.len (payload_in object o) ++ l) second ∙ sym (take-add before.len n (payload_in object o)) ∙ ap (λ (k : ℕ). take k (payload_in object o)) (sym counted);
      }

  -- all pieces
  pub all_pieces : (volume object len : ℕ) (old now : D) (pieces : Pieces) (print : Fingerprint) → SoFar volume object len old now pieces → ((bytes : List ℕ) → AreSoFar pieces bytes → print ≡ print_of bytes)
      → ((o : Objects) → g.gives old volume o → object < length o → len ≡ length (payload_in object o) → pieces.len ≡ len)
      → (o : Objects) → g.gives old volume o → object < length o → len ≡ length (payload_in object o) → print ≡ print_of (payload_in object o)
  all_pieces volume object len old now pieces print s prints ends o given there is =
      let whole : pieces.len ≡ len = ends o given there is in
      prints s.bytes s.so_far ∙ ap print_of (s.told o given there is ∙ take_all pieces.len (payload_in object o) (omega arith))
