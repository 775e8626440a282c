use Rattle.std.proofs.Common.{◌≡◌, ◌++◌, map, length}
use Rattle.std.specs.List.{All}
use Rattle.jc_upload.specs.Answer.{IsAnswer, answer_text}
use Rattle.jc_command_shared.specs.Lines.{lines_of}
use Rattle.jc_sender.proofs.answers.read_answers.Given as goal

abbrev pub invariant-loop-rest : goal.invariant-loop-rest
invariant-loop-rest l = record {
  lines : lines_of l.text ≡ map answer_text l.answers.items ++ lines_of l.rest;
  each : All IsAnswer l.answers.items;
}

abbrev pub decreases-loop-rest : goal.decreases-loop-rest
decreases-loop-rest l = length l.rest
