-- What the open found is what the files had, and what it leaves if it fails is as before.
use Rattle.std.proofs.Common.{ℕ, Bool, cond, List, ap, ap₂, ◌∙◌, rules}
use Rattle.std.proofs.lemmas.Option.{IfSome_then}
use Rattle.sqlite_disk.specs.Events.{Event, replay}
use Rattle.sqlite.specs.Recovery.{Image}
use Rattle.sqlite.specs.WalFiles.{image_at}
use Rattle.jc_database.proofs.Found.{is_found}
use Rattle.jc_database.proofs.Unopened.{leaves_as_before, settled_leaves}
use Rattle.jc_database.proofs.opening.open_files.Goals as goal

pub returns-in-Ok-clause-found : goal.returns-in-Ok-clause-found
returns-in-Ok-clause-found g c clean =
    is_found (image_at g.S.Start) c.in-Ok.conn (c.in-Ok.ensures.opened clean) (c.in-Ok.ensures.found clean) clean

abbrev image : List ℕ → List ℕ → Image
image log db = record { log = log; db = db }

abbrev seen : List ℕ → List ℕ → Bool → List Event → List ℕ
seen log db is_log history = (replay (cond is_log log db) history).seen

pub returns-in-Err-clause-stays : goal.returns-in-Err-clause-stays
returns-in-Err-clause-stays g c = IfSome_then c.in-Err.left c.in-Err.ensures.cause (λ left failed.
    let start = g.S.Start in
    let (files, log, db, leaves) = failed in
    let held = λ (is_log : Bool). cond is_log start.log start.db in
    leaves_as_before _ (image_at start) files
    (ap₂ image (ap₂ (seen start.log start.db) log.0 log.1) (ap₂ (seen start.log start.db) db.0 db.1))
    (λ it may. ap₂ image
    (settled_leaves start.is_mixing (held files.log.is_log) files.log.calls.log.events files.log.key log.1 it.log may.0 ∙ ap held log.0)
    (settled_leaves start.is_mixing (held files.db.is_log) files.db.calls.log.events files.db.key db.1 it.db may.1 ∙ ap held db.0))
    left (λ clean. (leaves clean).1))

pub returns-in-Err-clause-early : goal.returns-in-Err-clause-early
returns-in-Err-clause-early g c = search rules
