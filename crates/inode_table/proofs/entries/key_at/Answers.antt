use Rattle.std.proofs.Common.{[], sym, ap, ◌∙◌, arith}
use Rattle.std.proofs.lemmas.List.{get_or_default}
use Rattle.inode_table.specs.declared.entries.FileEntry.{FileEntry}
use Rattle.inode_table.proofs.KeysAt.{cuts-key, cuts-no_key}
use Rattle.inode_table.proofs.entries.key_at.Goals as goal
use Rattle.inode_table.proofs.entries.key_at.Goals.{else-place-entries-via-then-place-entries+else-entries-place, else-place-entries-via-else-place-entries}

pub returns-then-entries-place : goal.returns-then-entries-place
returns-then-entries-place c =
    let entries = c.args.entries.now in
    let place = c.place_for-place.result in
    let entry = c.index-entries-place-then-entries-place.result in
    let one = get_or_default entries place entry c.index-entries-place.result c.if-place-entries.true in
    sym (cuts-key c.args.ino place entry entries c.place_for-place.ensures.place c.if-place-entries.true (ap (λ (f : FileEntry). f.key.ino) one ∙ c.if-entries-place.true))

pub returns-else-place-entries : goal.returns-else-place-entries
returns-else-place-entries c =
    let cuts = c.place_for-place.ensures.place in
    elim c.else-place-entries.branch [
      | else-place-entries-via-then-place-entries+else-entries-place w ↦ sym (cuts-no_key 1 c.args.ino c.place_for-place.result w.index-entries-place.result c.args.entries.now c.requires cuts (λ lt. w.if-entries-place.false))
      | else-place-entries-via-else-place-entries w ↦
          sym (cuts-no_key 1 c.args.ino c.place_for-place.result (record { key = record { ino = 0; igen = 0 }; name = []; size = 0 }) c.args.entries.now c.requires cuts (λ lt. absurd (omega arith)))
    ]
