use Rattle.std.proofs.Common.{arith}
use Rattle.valve.proofs.ValveStates.{length_meaning, is_end_by_ones}
use Rattle.valve.proofs.valves.sets.ValveModelWorkModel.is_end.Goals as goal

pub returns-then-state-states : goal.returns-then-state-states
returns-then-state-states c =
    let v = c.args.self.now in
    is_end_by_ones v c.args.state (omega (arith, length_meaning v))
