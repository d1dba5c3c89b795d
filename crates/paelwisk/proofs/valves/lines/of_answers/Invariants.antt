use Rattle.std.proofs.Common.{◌≡◌, take, string_bytes}
use Rattle.std.specs.List.{flat_map}
use Rattle.paelwisk.specs.Lines.{answer_text}
use Rattle.paelwisk.proofs.valves.lines.of_answers.Given as goal

abbrev pub invariant-loop-answer : goal.invariant-loop-answer
invariant-loop-answer l = string_bytes l.lines ≡ flat_map answer_text (take l.answer-index l.answers)
