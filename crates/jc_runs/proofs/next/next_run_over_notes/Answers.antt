use Rattle.std.proofs.Common.{◌∙◌, refl, sym}
use Rattle.std.proofs.Math.Logic.{∥∥₁_map}
use Rattle.jc_runs.proofs.Following.{begins_alike, begins_unopened, come_as_list, leaves_earlier, stop_step}
use Rattle.jc_runs.proofs.next.next_run_over_notes.Goals as goal

pub returns-clause-stopped : goal.returns-clause-stopped
returns-clause-stopped g c =
    λ told seen done shape made kind text most_windows answers b windows image came stops clean began found.
    let left = c.show_files.ensures.known windows found.files_left in
    let leaves = leaves_earlier made kind _ b stops.found windows came _ began (c.show_steady.ensures.stay_after clean)
    (c.show_files.ensures.owners windows found.files_left) found.come.had_come in
    record {
      now = stops.found;
      holds = stops.holds;
      is = stop_step _ answers b _ stops.found windows came left.0 _ began.past leaves left.1.1 found.come.have_come (stops.lags left.0 left.1.0) stops.keeps;
    }

pub returns-clause-failed : goal.returns-clause-failed
returns-clause-failed g c =
    λ told seen done shape made kind left b finished aside windows image came told' seen' deeds shape' notes begun began files
    found more same.
    let known = c.show_files.ensures.known windows files in
    let durable = g.met.N.Notes.Ledger.durable c.args.notes.now known.0 notes.sound known.1.0 in
    let owners = c.show_files.ensures.owners windows files in
    let stay = g.met.N.Notes.Ledger.owners_stay c.args.notes.now in
    let again = begins_unopened g.F.StoreInFiles.in_files made _ image left begun found in
    ∥∥₁_map (again kind b.now began.holds) (λ holds. record {
      holds = holds;
      noted = λ k key. known.1.1 k key ∙ (durable k ∙ (notes.known k ∙ began.noted k key));
      owner = λ s. stay s _ notes.sound (owners s) ∙ (notes.owner s ∙ began.owner s);
      past = same;
      came = more;
    })

pub returns-clause-come : goal.returns-clause-come
returns-clause-come g c = λ b list. come_as_list _ _ b c.show_steady.ensures.came list

pub returns-clause-begins : goal.returns-clause-begins
returns-clause-begins g c = λ made kind b now finished aside windows image came told seen deeds shape holds same.
    record { holds = holds; noted = λ k key. refl; owner = λ s. refl; past = same; came = λ e has. has }

pub returns-clause-may_begin : goal.returns-clause-may_begin
returns-clause-may_begin g c = λ made kind b finished aside windows image came told seen deeds shape began begins.
    begins_alike (sym began.past) began.noted began.came begins
