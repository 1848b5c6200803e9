-- Segments of a file that go away, and the records that they are.
use Rattle.std.specs.Prelude.{ℕ, ◌-◌, ◌*◌, List, map, take, drop, true, Option}
use Rattle.std.specs.Option.{option_map}
use Rattle.hsm_types.specs.Limits.{segment_blocks}
use Rattle.hsm_types.specs.Stubs.{Stubs, stub_at}
use Rattle.hsm_types.specs.declared.stubs.Stub.{Stub as StubOf}
use Rattle.journal_records.specs.declared.records.Record.{Record}
use Rattle.journal_records.specs.declared.records.Record.TheVariants.{Stub}

-- the entry stands for bytes that are away
abbrev pub away_by : Option StubOf → Option StubOf
away_by stub = option_map (λ (s : StubOf). record s { offline = true }) stub

-- each of these segments of the file on that inode goes away, by the entry that it has
abbrev pub punch_records : ℕ → Stubs → List ℕ → List Record
punch_records ino stubs segments = map (λ j. Stub ino j (away_by (stub_at j stubs))) segments

-- where the blocks of the segments from the first up to the second lie, of a file whose blocks lie there
abbrev pub places_between : ℕ → ℕ → List (Option ℕ) → List (Option ℕ)
places_between from to places = take (segment_blocks * (to - from)) (drop (segment_blocks * from) places)
