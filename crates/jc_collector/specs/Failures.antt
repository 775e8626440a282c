-- The failures that a store's own ones become. (own)
use Rattle.std.specs.Prelude.{ℕ}
use Rattle.jc_base.specs.declared.fault.Code.{Code}
use Rattle.jc_base.specs.declared.fault.Code.TheVariants as code
use Rattle.jc_keeper.specs.declared.keeper.KeepStop.{KeepStop}
use Rattle.jc_keeper.specs.declared.keeper.KeepStop.TheVariants as keep
use Rattle.jc_command_shared.specs.declared.failure.Failure.{Failure}
use Rattle.jc_command_shared.specs.declared.failure.Failure.TheVariants.{Bad, OutOfMemory, ReadFailed, StoreFailed, WriteFailed}

-- why a keeper didn't take a database: the place is the row
abbrev pub adopt_failure : Code → (row : ℕ) → Failure
adopt_failure code.StoreFailed row = StoreFailed
adopt_failure code.OutOfMemory row = OutOfMemory
adopt_failure other row = Bad (record { code = other; place = row })

-- why a keeper gave no answer
abbrev pub keep_failure : KeepStop → Failure
keep_failure keep.ReadFailed = ReadFailed
keep_failure keep.StoreFailed = StoreFailed
keep_failure keep.OutOfMemory = OutOfMemory

-- why a listing stopped
abbrev pub out_failure : Code → Failure
out_failure code.StoreFailed = StoreFailed
out_failure code.OutOfMemory = OutOfMemory
out_failure _ = WriteFailed
