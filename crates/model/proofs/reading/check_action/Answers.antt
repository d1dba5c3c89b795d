use Rattle.std.proofs.Common.{rules, length, sym, arith}
use Rattle.model.specs.Meaning.{outcomes, action_at}
use Rattle.model.specs.Reading.{outcome_fault}
use Rattle.model.proofs.Firsts.{found}
use Rattle.model.proofs.reading.check_action.Goals as goal

pub returns-in_err-check_outcome : goal.returns-in_err-check_outcome
returns-in_err-check_outcome g c =
    let m = g.M.Model.meaning c.args.model.now in
    let s = c.args.state in
    let a = c.args.action in
    let met = found (outcome_fault m s a) c.loop-place.place (length (outcomes (action_at m s a))) _ (omega arith) c.loop-place.invariant (sym c.in_err-check_outcome.ensures) in
    search rules
