use Rattle.std.proofs.Common.{◌≡◌, ◌++◌, take, string_bytes}
use Rattle.std.specs.List.{flat_map}
use Rattle.plan.specs.Bounds.{bounds_of}
use Rattle.paelwisk.specs.Asks.{best_text}
use Rattle.paelwisk.proofs.valves.asks.write_bests.Given as goal

abbrev pub invariant-loop-state : goal.invariant-loop-state
invariant-loop-state l = string_bytes l.lines ≡ string_bytes l.initial.lines ++ flat_map (λ s. best_text l.rule s (bounds_of l.costs s)) (take l.state-index l.states)
