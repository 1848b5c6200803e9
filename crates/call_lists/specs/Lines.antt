-- What is left of the callers' lists.
use Rattle.std.specs.Prelude.{ℕ, List, [], Option, Some, None, slice_get}
use Rattle.hsm_types.specs.declared.calls.Call.{Call}
use Rattle.call_lists.specs.declared.lists.CallList.{CallList}

abbrev pub lines_in : Option CallList → List Call
lines_in None = []
lines_in (Some l) = l.calls.items

-- the calls that the caller is still to make: its list stands at its number
abbrev pub left_of : List CallList → ℕ → List Call
left_of lists c = lines_in (slice_get lists c)
