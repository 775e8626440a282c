-- What `inspect` says of an upload. (own)
use Rattle.std.specs.Prelude.{ℕ, List, Option}
use Rattle.jc_base.specs.Fault.{number_of}
use Rattle.jc_base.specs.LimitBounds.{AreDefaults}
use Rattle.jc_base.specs.declared.limits.Limits.{Limits}
use Rattle.jc_collect.specs.Inspected.{HasFormatCode, IsInspected}
use Rattle.jc_collect.specs.declared.bounds.Bounds.{Bounds}
use Rattle.jc_collect.specs.declared.inspect.Inspected.{Inspected}
use Rattle.jc_collect.specs.declared.inspect.Inspected.TheVariants.{Bad, Over, Upload}
use Rattle.jc_command_shared.specs.Found.{PrintsFound}
use Rattle.jc_command_shared.specs.declared.found.Found.{Found}
use Rattle.jc_command_shared.specs.declared.found.Found.TheVariants as found
use Rattle.jc_command_shared.specs.declared.status.Status.{Status}

-- the code of an upload that passes a bound
abbrev pub over_bounds : ℕ
over_bounds = 6

-- what is found of an upload
abbrev pub inspected_found : Inspected → Found
inspected_found (Upload source start count left last windows) =
    found.Upload (record { source = source; start = start; entries = count; left = left; last = last; windows = windows })
inspected_found (Bad fault) = found.Bad (number_of fault.code) fault.place
inspected_found (Over place) = found.Bad over_bounds place

-- The output gained the line, and the status is its own.
abbrev pub PrintsInspected : Inspected → Status → (old new : Option (List ℕ)) → Type 0
PrintsInspected inspected status old new = PrintsFound (inspected_found inspected) status old new

-- The output gained a line for some upload, whose fault, if it has one, is one of an upload.
pub record PrintsSomeInspected (status : Status) (old new : Option (List ℕ)) : Type 0 where
  pub inspected : Inspected
  pub format : HasFormatCode inspected
  pub printed : PrintsInspected inspected status old new

-- The output gained the line of what the upload says under the default limits and within the bounds.
pub record PrintsInspectedOf (bounds : Bounds) (upload : List ℕ) (status : Status) (old new : Option (List ℕ)) : Type 0 where
  pub limits : Limits
  pub defaults : AreDefaults limits.name limits.value limits.fields limits.entry limits.file
  pub inspected : Inspected
  pub says : IsInspected limits bounds upload inspected
  pub printed : PrintsInspected inspected status old new
