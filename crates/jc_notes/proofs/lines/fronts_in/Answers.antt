-- Lines in turn, until none is left.
use Rattle.std.proofs.Common.{◌≡◌, ◌+◌, ◌∷◌, Bool, Option, Some, None, false, true, not, length, refl, rules, sym, ◌∙◌, ap}
use Rattle.std.specs.Prelude.{IfSome}
use Rattle.std.specs.BTreeSet.{contains}
use Rattle.std.specs.List.{Any}
use Rattle.jc_base.specs.declared.id.Key.{Key}
use Rattle.jc_base.specs.Journal.{key_cmp}
use Rattle.jc_command_shared.specs.Lines.{lines_of}
use Rattle.jc_notes.specs.Lines.{IsFirstBadFront, front_at}
use Rattle.jc_notes.specs.declared.lines.Front.{Front}
use Rattle.jc_notes.proofs.Fronts.{key_of, named_again, one_bad_front, one_named}
use Rattle.jc_notes.proofs.LinesRead.{all_read, one_read}
use Rattle.jc_notes.proofs.lines.fronts_in.Goals as goal
use Rattle.jc_notes.proofs.lines.fronts_in.Goals.{in_default-via-in-Some+in_ok-insert+else-branch, in_default-via-in_default}

same_key : (key : Key) (front : Front) → key.seqnum_id ≡ front.window.sequence → key.seqnum ≡ front.window.window → key ≡ key_of front
same_key key front sequence window = λ i. record { seqnum_id = sequence i; seqnum = window i }

pub loop-rest-preserved : goal.loop-rest-preserved
loop-rest-preserved c =
    let line = c.split_at.result.0.now in
    let first : lines_of c.loop-rest.rest.now ≡ line ∷ lines_of c.split_at.result.1.now = search rules in
    let new : true ≡ not (contains key_cmp c.loop-rest.named c.key_of.result) = sym c.if-branch.true ∙ c.in_ok-insert.ensures.added in
    rw c.in_ok-push-in-Some.ensures.items (record {
      read = one_read front_at c.args.text.now c.loop-rest.rest.now line c.split_at.result.1.now c.loop-rest.fronts.items
          c.loop-rest.invariant.read first c.in-Some.front (sym c.in-Some.ensures);
      named = one_named c.loop-rest.fronts.items c.in-Some.front c.key_of.result c.loop-rest.named
          (same_key c.key_of.result c.in-Some.front c.key_of.ensures.sequence c.key_of.ensures.window) c.loop-rest.invariant.named
          c.insert.new.self new c.in_ok-insert.ensures.updates;
    })

pub returns-in_default-clause-bad : goal.returns-in_default-clause-bad
returns-in_default-clause-bad c number is =
    let fronts = c.loop-rest.fronts.items in
    let line = c.split_at.result.0.now in
    let at : number ≡ length fronts + 1 = search rules in
    let first : lines_of c.loop-rest.rest.now ≡ line ∷ lines_of c.split_at.result.1.now = search rules in
    let bad : (here : Option Front) → here ≡ front_at line → IfSome here (λ front. Any (λ (other : Front). other.window ≡ front.window) fronts) → IsFirstBadFront c.args.text.now number =
    λ here reads again. one_bad_front c.args.text.now c.loop-rest.rest.now line c.split_at.result.1.now fronts here number
    c.loop-rest.invariant.read first reads c.loop-rest.invariant.named.once again at in
    elim c.in_default.branch [
      | in_default-via-in-Some+in_ok-insert+else-branch w ↦
          bad (Some w.in-Some.front) w.in-Some.ensures
          (named_again fronts w.in-Some.front w.key_of.result c.loop-rest.named
          (same_key w.key_of.result w.in-Some.front w.key_of.ensures.sequence w.key_of.ensures.window) c.loop-rest.invariant.named
          (sym w.if-branch.false ∙ w.in_ok-insert.ensures.added))
      | in_default-via-in_default w ↦ bad None w.in_default.ensures tt
    ]

pub returns-clause-all : goal.returns-clause-all
returns-clause-all c =
    let none : length c.loop-rest.rest.now ≡ 0 = search rules in
    all_read front_at c.args.text.now c.loop-rest.rest.now c.loop-rest.fronts.items none c.loop-rest.invariant.read
