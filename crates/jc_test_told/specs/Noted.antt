-- What is noted of files in memory. (own)
use Rattle.std.specs.Prelude.{Some}
use Rattle.jc_command_shared.specs.Deeds.{Deed, changes, puts}
use Rattle.jc_test_told.specs.declared.noted.Note.{Note}
use Rattle.jc_test_told.specs.declared.noted.Note.TheVariants.{Changed, Put}

abbrev pub deed_of : Note → Deed
deed_of (Changed path) = changes path.items
deed_of (Put from path held) = puts from.items path.items (Some held.items)
