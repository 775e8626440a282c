-- What a run over a union of databases that is stopped leaves of its files and its notes. (own)
use Rattle.sqlite.specs.Store.{Ghosts}
use Rattle.sqlite.specs.Recovery.{Image}
use Rattle.jc_base.specs.Journal.{Journal}
use Rattle.jc_command_args.specs.declared.request.Tables.{Tables}
use Rattle.jc_theorems.specs.Stopped.{WhenBegun}

-- What is said of a run over a union that is stopped: if its disks returned what was written, the files of its present
-- database had this journal when it began, in tables of this kind, or none, and this is so of the notes beside it, then that
-- holds of this journal.
abbrev pub WhenNoted : {S : Type 0} → Ghosts S → (made : Tables) → (first : Image) → (stopped : S)
    → (Noted : Journal → Type 0) → ((kind : Tables) → Journal → Type 0) → Type 0
WhenNoted g made first stopped Noted Says = WhenBegun g made first stopped (λ kind before. Noted before → Says kind before)
