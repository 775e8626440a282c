-- One line more is read, and its upload taken up.
use Rattle.std.proofs.Common.{rules, ◌≡◌, ◌∙◌, ◌∷◌, ℕ, List, [], ap, arith, false, length, subst}
use Rattle.std.specs.List.{list_any}
use Rattle.std.proofs.KnownBytes.{Keeps-refl, Keeps-trans}
use Rattle.std.proofs.lemmas.List.{length-append}
use Rattle.jc_collect.specs.Together.{TakesUp}
use Rattle.jc_upload.specs.declared.answer.Answer.{Answer}
use Rattle.jc_collector_answers.specs.Answered.{is_refusal}
use Rattle.jc_collector_answers.specs.Collected.{LosesName, told_within, upload_in}
use Rattle.jc_collector_answers.proofs.Grouping.{come_first, come_more, so_refused}
use Rattle.jc_collector_answers.proofs.Machines.{parts_at}
use Rattle.jc_collector_answers.proofs.Naming.{upload_is}
use Rattle.jc_collector_answers.proofs.Refusing.{none_refused}
use Rattle.jc_collector_answers.proofs.grouped.gather_lines.Goals as goal

pub loop-taken-init : goal.loop-taken-init
loop-taken-init g c = record {
  so = come_first g.K.Keeper c.args.limits.now (told_within c.args.most_windows g.R.System.told) c.args.lines (g.L.Read.remaining c.args.names.now) c.args.keeper.now
      c.args.gathered.now.answers.items c.requires.none;
  few = rw c.requires.none (omega arith);
  quiet = λ none. Keeps-refl (g.E.Write.contents c.args.errors.now);
}

pub loop-taken-preserved : goal.loop-taken-preserved
loop-taken-preserved g c =
    let k = g.K.Keeper in
    let rest = g.L.Read.remaining c.loop-taken.names in
    let next = g.L.Read.remaining c.read_name.new.names in
    let told = told_within c.args.most_windows g.R.System.told in
    let lines = c.args.lines in
    let name = c.read_name.new.name.items in
    let so = c.loop-taken.invariant in
    let say = c.brought_by.ensures in
    let answers = c.loop-taken.gathered.answers.items in
    let more = c.take_name.new.gathered.answers.items in
    let late = c.take_name.new.keeper in
    let named_so : LosesName name rest next = search rules in
    let same : c.parts.result.1.now ≡ upload_in lines name =
    upload_is lines c.as_slice.result.now _ _ c.parts.ensures ∙ ap (λ (l : List ℕ). upload_in lines l) c.as_slice.ensures.value in
    let took : TakesUp k c.args.limits.now (told (upload_in lines name)) c.brought_by.new.self late answers more =
    subst (λ (u : List ℕ). TakesUp k c.args.limits.now (told u) c.brought_by.new.self late answers more) same c.in_ok-take_name.ensures.took in
    let longer = ap (λ (l : List Answer). length l) took.behind ∙ length-append answers (took.answer ∷ []) in
    record {
      so = come_more k c.args.limits.now told lines (g.L.Read.remaining c.args.names.now) rest c.args.keeper.now c.loop-taken.keeper answers so.so c.brought_by.new.self late _
          say.journal say.clean say.sound say.made say.settled say.crash say.recovers say.failures say.brings say.owners more c.requires.defaults next name named_so
          (parts_at lines c.as_slice.result.now name _ _ c.as_slice.ensures.value c.parts.ensures) took
          (λ found is made settled may. g.met.K.Keeper.durable late found is made settled may) (λ once. g.met.K.Keeper.settled_at_once once late);
      few = omega (arith, so.few, longer);
      quiet = λ none. Keeps-trans (g.E.Write.contents c.args.errors.now) (g.E.Write.contents c.loop-taken.errors) (g.E.Write.contents c.take_name.new.errors)
          (so.quiet (none_refused answers (took.answer ∷ []) (subst (λ (l : List Answer). list_any is_refusal l ≡ false) took.behind none)))
          (c.in_ok-take_name.ensures.quiet none);
    }

-- Memory for the next one was refused, of which the keeper was told who brings it.
pub returns-in_err-take_name-clause-took : goal.returns-in_err-take_name-clause-took
returns-in_err-take_name-clause-took g c =
    let k = g.K.Keeper in
    let told = told_within c.args.most_windows g.R.System.told in
    let so = c.loop-taken.invariant in
    let say = c.brought_by.ensures in
    so_refused k c.args.limits.now told c.args.lines (g.L.Read.remaining c.args.names.now) (g.L.Read.remaining c.loop-taken.names) c.args.keeper.now c.loop-taken.keeper
    c.loop-taken.gathered.answers.items so.so c.brought_by.new.self c.take_name.new.keeper _
    say.journal say.clean say.sound say.made say.settled say.crash say.recovers say.failures say.brings say.owners c.take_name.new.gathered.answers.items
    (g.L.Read.remaining c.read_name.new.names) c.from_residual-in_err-take_name.result c.from_residual-in_err-take_name.ensures.0
    c.in_err-take_name.ensures.untouched c.in_err-take_name.ensures.others
