-- The code of what contracts see of a host in memory, by which proofs tell two such values apart.
use Rattle.std.specs.Prelude.{ℕ, List, Option, refl}
use Rattle.std.specs.FinMap.{code}
use Rattle.std.specs.Coded.{Coded, code_by, coded×, coded_list, coded_option, coded_ℕ}
use Rattle.disk_model.specs.Fuse.{Fused}
use Rattle.disk_model.specs.Medium.{Recorded}
use Rattle.media_model.specs.Faults.{Faulty}
use Rattle.hosts.specs.MemHosts.{Named, Hosted}

abbrev fused_code : Coded Recorded → Coded (Fused Recorded)
fused_code disk =
    code_by (Recorded × (Option ℕ × ℕ)) (coded× disk (coded× (coded_option coded_ℕ) coded_ℕ))
    (λ d. (d.inner, (d.fuse, d.blown)))
    (λ p. record { inner = p.0; fuse = p.1.0; blown = p.1.1 })
    (λ _. refl)

-- from the codes of a disk and of a drive in memory
abbrev pub hosted_code : Coded Recorded → Coded Faulty → Coded Hosted
hosted_code disk drive =
    code_by (Named (Fused Recorded) × (Named (List Faulty) × (List ℕ × (ℕ × (ℕ × (ℕ × (ℕ × Option ℕ)))))))
    (coded× (code (coded_list coded_ℕ) (fused_code disk)) (coded× (code (coded_list coded_ℕ) (coded_list drive)) (coded× (coded_list coded_ℕ) (coded× coded_ℕ (coded× coded_ℕ (coded× coded_ℕ (coded× coded_ℕ (coded_option coded_ℕ))))))))
    (λ h. (h.disks, (h.folders, (h.failing, (h.makes, (h.openings, (h.askings, (h.faults, h.fuse))))))))
    (λ p. record { disks = p.0; folders = p.1.0; failing = p.1.1.0; makes = p.1.1.1.0; openings = p.1.1.1.1.0; askings = p.1.1.1.1.1.0; faults = p.1.1.1.1.1.1.0; fuse = p.1.1.1.1.1.1.1 })
    (λ _. refl)
