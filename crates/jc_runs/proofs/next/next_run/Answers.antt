use Rattle.std.proofs.Common.{◌∙◌, subst, sym, ⊎_elim}
use Rattle.sqlite.specs.Recovery.{Image}
use Rattle.jc_collector.specs.Kinds.{meaning_of}
use Rattle.jc_database.specs.Files.{HoldsJournal}
use Rattle.jc_runs.proofs.Following.{begins_alike, end_step, leaves_earlier}
use Rattle.jc_runs.proofs.next.next_run.Goals as goal

pub returns : goal.returns
returns g c = record {
  ended =
      λ told seen done shape made kind list most_windows given old new status b windows image came deeds does clean l_clean began begins found.
      let sound = does.noted l_clean in
      let ends = does.stores clean kind b.now began.holds (
        begins_alike (sym began.past) began.noted began.came begins,
        l_clean,
        λ e f here there. found.come.apart e f (found.come.have_come e here) (found.come.have_come f there),
      ) in
      let left = c.show_files.ensures.known windows found.files_left in
      let leaves = leaves_earlier made kind _ b ends.found windows came _ began
      (does.owners.after l_clean)
      (c.show_files.ensures.owners windows found.files_left) found.come.had_come in
      record {
        now = ends.found;
        holds = ⊎_elim
            (λ same. subst (λ (i : Image). HoldsJournal (meaning_of kind) i ends.found) (sym same) ends.keeps.now)
            (λ left. ends.keeps.left image left)
            found.image_left;
        is = record {
          text = ends.is.text;
          listed = ends.is.listed;
          step = record {
            shown = ends.is.stored.stored.shown;
            holds = end_step _ _ b _ ends.found windows came _ _ began.past leaves
                (λ k key. left.1.1 k key ∙ g.met.N.Notes.Ledger.durable c.args.notes.now left.0 sound left.1.0 k)
                found.come.have_come ends.is.stored.kept ends.is.stored.stored.holds;
          };
        };
      };
}
