use Rattle.std.proofs.Common.{length}
use Rattle.paelwisk.proofs.valves.set_up.read_tests.Given as goal

abbrev pub decreases-loop-tests : goal.decreases-loop-tests
decreases-loop-tests l = length l.words.rest.now
