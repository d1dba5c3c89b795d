use Rattle.std.proofs.Common.{length}
use Rattle.paelwisk.proofs.valves.set_up.read_states.Given as goal

abbrev pub decreases-loop-words : goal.decreases-loop-words
decreases-loop-words l = length l.words.rest.now
