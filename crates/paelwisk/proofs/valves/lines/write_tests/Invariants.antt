use Rattle.std.proofs.Common.{◌≡◌, ◌++◌, drop, string_bytes}
use Rattle.paelwisk.specs.Lines.{tests_text}
use Rattle.paelwisk.proofs.valves.lines.write_tests.Given as goal

abbrev pub invariant-loop-test : goal.invariant-loop-test
invariant-loop-test l = string_bytes l.lines ++ tests_text l.test (drop l.test l.splits) ≡ string_bytes l.initial.lines ++ tests_text 0 l.splits
