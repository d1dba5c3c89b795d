use Rattle.std.proofs.Common.{◌≡◌, ◌++◌, drop, string_bytes}
use Rattle.texts.specs.Texts.{values_of, best_text}
use Rattle.texts.proofs.costs.best.Given as goal

abbrev pub invariant-loop-state : goal.invariant-loop-state
invariant-loop-state l =
    string_bytes l.lines ++ best_text l.state (drop l.state (values_of l.costs)) ≡ best_text 0 (values_of l.costs)
