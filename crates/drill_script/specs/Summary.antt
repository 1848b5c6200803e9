-- What is told of a drill's run.
use Rattle.std.specs.Prelude.{ℕ, List, ◌++◌, length, codes}
use Rattle.std.specs.Fmt.{decimal}
use Rattle.hex.specs.Hex.{encode_lower}
use Rattle.sha2.specs.Sha256.{sha256}
use Rattle.plain_model.specs.declared.entries.Entry.{Entry}
use Rattle.event_text.specs.Render.{text_of}

-- the digest of a history's text
abbrev pub digest_of : List Entry → List ℕ
digest_of history = encode_lower (sha256 (text_of history))

-- one line: the drill's number, how many entries its history has, the digest of its text, the used blocks and the offline segments
unfoldable pub summary_line : ℕ → List Entry → ℕ → ℕ → List ℕ
summary_line n history used offline =
    codes "drill " ++ decimal n
    ++ codes " entries=" ++ decimal (length history)
    ++ codes " sha=" ++ digest_of history
    ++ codes " used=" ++ decimal used
    ++ codes " offline=" ++ decimal offline
    ++ codes "\n"
