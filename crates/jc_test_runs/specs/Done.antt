-- What is done to files, of which paths and bytes are kept for proofs alone. (own)
use Rattle.std.specs.Prelude.{List, Some, Option, map, reverse}
use Rattle.jc_command_shared.specs.Deeds.{Deed, changes, opens, puts}
use Rattle.jc_test_runs.specs.declared.done.Done.{Done}
use Rattle.jc_test_runs.specs.declared.done.Done.TheVariants.{Changed, Opened, Put}

abbrev pub deed_of : Done → Deed
deed_of (Opened path) = opens path.items
deed_of (Changed path) = changes path.items
deed_of (Put from path held) = puts from.items path.items (Some held.items)

-- The newest is kept first.
abbrev pub deeds_of : List Done → Option (List Deed)
deeds_of kept = Some (reverse (map deed_of kept))
