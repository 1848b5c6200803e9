-- What handles spell.
use Rattle.std.proofs.Common.{◌≡◌, ℕ, List, ◌∷◌, ◌++◌, sym, ◌∙◌}
use Rattle.std.specs.Fmt.{decimal}
use Rattle.hsm_types.specs.Handles.{IsHandle}
use Rattle.hsm_types.specs.declared.keys.FileKey.{FileKey}
use Rattle.hsm_types.specs.declared.keys.Handle.{Handle}
use Rattle.event_text.specs.Render.{key_word, handle_word}
use Rattle.script_text.specs.Reading.{Lacks, IsKey}
use Rattle.script_text.proofs.Cutting.{cut_same}
use Rattle.script_text.proofs.Spelling.{Lacks-dot, key_word-is, handle_word-is}

pub key_cut : (word ino igen : List ℕ) (k : FileKey) → word ≡ ino ++ 46 ∷ igen → Lacks 46 ino → IsKey k → word ≡ key_word k → (ino ≡ decimal k.ino) × (igen ≡ decimal k.igen)
key_cut word ino igen k cut lacks h same = cut_same 46 ino igen (decimal k.ino) (decimal k.igen) lacks (Lacks-dot k.ino h.0) (sym cut ∙ same ∙ key_word-is k)

pub handle_cut : (word fsid key : List ℕ) (x : Handle) → word ≡ fsid ++ 46 ∷ key → Lacks 46 fsid → IsHandle x → word ≡ handle_word x → (fsid ≡ decimal x.fsid) × (key ≡ key_word x.key)
handle_cut word fsid key x cut lacks h same = cut_same 46 fsid key (decimal x.fsid) (key_word x.key) lacks (Lacks-dot x.fsid h.fsid) (sym cut ∙ same ∙ handle_word-is x)
