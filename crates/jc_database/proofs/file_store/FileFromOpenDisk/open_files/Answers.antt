-- The connection is the one that was opened.
use Rattle.std.proofs.Common.{subst, sym}
use Rattle.std.proofs.lemmas.Result.{IfOk-weaker}
use Rattle.sqlite.specs.Files.{file_state, over_files}
use Rattle.sqlite.specs.Held.{Held}
use Rattle.sqlite.specs.State.{HasCleanDisk}
use Rattle.sqlite.specs.WalFiles.{image_at}
use Rattle.jc_database.specs.Files.{IsFound}
use Rattle.jc_database.proofs.file_store.FileFromOpenDisk.open_files.Goals as goal

pub returns-clause-found : goal.returns-clause-found
returns-clause-found g c =
    IfOk-weaker c.open_files.result _ _
    (λ conn found h same. subst (λ (h : Held _). HasCleanDisk (file_state h) → IsFound over_files (image_at g.S.Start) h) (sym same) found)
    c.open_files.ensures.found
