-- The calls of a file, as they are noted. (own)
use Rattle.std.specs.Prelude.{ℕ, List, slice_index, ◌==◌}
use Rattle.sqlite_disk.specs.Events.{Event}

abbrev pub event_of : List ℕ → List ℕ → Event
event_of numbers bytes = (slice_index numbers 0, slice_index numbers 1, slice_index numbers 2, slice_index numbers 3 == 1, bytes)
