use Rattle.std.proofs.Common.{string_bytes}
use Rattle.cost.specs.Prices.{figures}
use Rattle.valve.specs.Valves.{meaning_of}
use Rattle.paelwisk.proofs.Replying.{SoFar}
use Rattle.paelwisk.proofs.valves.asks.write_all.Given as goal

abbrev pub invariant-loop-ask : goal.invariant-loop-ask
invariant-loop-ask l = SoFar (meaning_of l.model) l.states l.asks l.ask-index (figures l.prices) (string_bytes l.initial.lines) (string_bytes l.lines)
