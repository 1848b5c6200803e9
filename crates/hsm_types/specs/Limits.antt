-- The limits of files, stores, accesses and sessions.
use Rattle.std.specs.Prelude.{ℕ, ◌≤◌, ◌^◌}
use Rattle.hsm_types.specs.declared.stores.Geometry.{Geometry}
use Rattle.hsm_types.specs.declared.stores.Limits.{Limits}

-- ---- files

-- what the first format lets a file have
abbrev pub first_limits : Limits
first_limits = record { bytes = 16777216; regions = 4 }

-- The most that the code can count of a file, whatever its format allows: its bytes,
abbrev pub file_bytes : ℕ
file_bytes = 16777216

-- the segments of so many bytes,
abbrev pub file_segments : ℕ
file_segments = 256

-- their blocks,
abbrev pub file_blocks : ℕ
file_blocks = 4096

-- and its regions
abbrev pub file_regions : ℕ
file_regions = 4

-- the same as limits
abbrev pub widest_limits : Limits
widest_limits = record { bytes = file_bytes; regions = file_regions }

-- a format allows no more than the code can count
abbrev pub IsCountable : Limits → Type 0
IsCountable limits = (limits.bytes ≤ file_bytes) × (limits.regions ≤ file_regions)

-- the flags of a region that manages all accesses. No region has greater ones
abbrev pub all_flags : ℕ
all_flags = 7

-- ---- segments and blocks

-- the bytes of a segment, in which bodies are kept and moved
abbrev pub segment_bytes : ℕ
segment_bytes = 65536

-- the blocks of a segment
abbrev pub segment_blocks : ℕ
segment_blocks = 16

-- the bytes of a block, in which space is counted
abbrev pub block_bytes : ℕ
block_bytes = 4096

-- ---- stores

-- how much a store can hold that the words call `small`
abbrev pub small_geometry : Geometry
small_geometry = record { files = 64; blocks = 1024; attributes = 32768; stubs = 1024; limits = first_limits }

-- and one that they call `large`
abbrev pub large_geometry : Geometry
large_geometry = record { files = 4096; blocks = 65536; attributes = 1048576; stubs = 65536; limits = first_limits }

-- the greatest number under which a store's files are made durable: that of its history's entries
abbrev pub last_number : ℕ
last_number = 2 ^ 62

-- the greatest generation that a store can have as its next one. Those that were given are less
abbrev pub last_generation : ℕ
last_generation = 2 ^ 62

-- ---- names and accesses

-- the bytes of the longest name
abbrev pub name_bytes : ℕ
name_bytes = 64

-- the bytes of the longest read or write
abbrev pub access_bytes : ℕ
access_bytes = 65536

-- how many callers there may be. They are numbered from 1
abbrev pub callers : ℕ
callers = 64

-- ---- attributes

-- the bytes of an attribute's longest value
abbrev pub value_bytes : ℕ
value_bytes = 4096

-- what an attribute counts beside the bytes of its value
abbrev pub attribute_cost : ℕ
attribute_cost = 16

-- ---- volumes

-- how many volumes there may be. They are numbered from 0
abbrev pub most_volumes : ℕ
most_volumes = 256

-- the greatest number of a volume
abbrev pub last_volume : ℕ
last_volume = 255

-- ---- sessions

-- how many sessions may live
abbrev pub live_sessions : ℕ
live_sessions = 64

-- the bytes of a session's longest information
abbrev pub info_bytes : ℕ
info_bytes = 256

-- how many tokens may be given, and so the greatest one. They are numbered from 1
abbrev pub most_tokens : ℕ
most_tokens = 2 ^ 62

-- how many user events may be outstanding, to all sessions together
abbrev pub user_events : ℕ
user_events = 960

-- the bytes of a message's longest data
abbrev pub data_bytes : ℕ
data_bytes = 4096

-- how many messages without a token may wait for one session
abbrev pub waiting_messages : ℕ
waiting_messages = 1024

-- the greatest error by which an access may be aborted
abbrev pub last_error : ℕ
last_error = 255

-- the bytes of the buffers in which daemons take events
abbrev pub buffer_bytes : ℕ
buffer_bytes = 65536
