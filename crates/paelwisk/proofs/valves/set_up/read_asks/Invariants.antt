use Rattle.std.proofs.Common.{length}
use Rattle.paelwisk.proofs.valves.set_up.read_asks.Given as goal

abbrev pub decreases-loop-asks : goal.decreases-loop-asks
decreases-loop-asks l = length l.words.rest.now
