-- No failure was counted of it.
use Rattle.sqlite_trees.proofs.Doubt.{no_doubt}
use Rattle.jc_database.proofs.file_store.FileStoreStoreInFiles.left_store.Goals as goal

pub returns-clause-clean : goal.returns-clause-clean
returns-clause-clean g c = λ clean. no_doubt _ clean
