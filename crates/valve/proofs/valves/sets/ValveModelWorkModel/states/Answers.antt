use Rattle.std.proofs.Common.{sym, ◌∙◌, arith}
use Rattle.std.proofs.lemmas.Nat.{one_shl}
use Rattle.valve.proofs.ValveStates.{candidates_few, length_meaning}
use Rattle.valve.proofs.valves.sets.ValveModelWorkModel.states.Goals as goal

pub returns : goal.returns
returns c =
    let v = c.args.self.now in
    one_shl v.candidates 64 (omega (arith, candidates_few v)) ∙ sym (length_meaning v)
