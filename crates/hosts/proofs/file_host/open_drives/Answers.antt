use Rattle.std.proofs.Common.{◌≡◌, ◌∙◌, ◌+◌, ◌∷◌, [], ℕ, subst, sym, ap, length-append}
use Rattle.folder_drive.specs.Folders.{Folder}
use Rattle.media_model.proofs.Places.{each_more}
use Rattle.hosts.proofs.file_host.open_drives.Goals as goal

abbrev Is : ℕ → ℕ → ℕ → ℕ → Folder → Type 0
Is drives volumes capacity number d = d ≡ record { number = number; drives = drives; volumes = volumes; capacity = capacity; faults = 0 }

pub loop-number-preserved : goal.loop-number-preserved
loop-number-preserved g c =
    let d : Folder = c.in_ok-drive.drive in
    rw c.in_ok-push.ensures.items (
      length-append c.loop-number.all.items (d ∷ []) ∙ ap (λ (n : ℕ). n + 1) c.loop-number.invariant.0,
      each_more (Is c.args.drives c.args.volumes c.args.capacity) c.loop-number.all.items d c.loop-number.invariant.1 (subst (λ (n : ℕ). Is c.args.drives c.args.volumes c.args.capacity n d) (sym c.loop-number.invariant.0) c.in_ok-drive.ensures),
    )
