use Rattle.std.proofs.Common.{◌≡◌, length, None, sym, ◌∙◌, subst, rules, arith}
use Rattle.cost.specs.Prices.{figures}
use Rattle.model.specs.Firsts.{first_below}
use Rattle.model.proofs.Firsts.{found}
use Rattle.book.proofs.EstimateSteps.{each_fault, as_many}
use Rattle.book.proofs.estimates.check_estimates.Goals as goal

pub returns-in_err-check_estimate : goal.returns-in_err-check_estimate
returns-in_err-check_estimate g c =
    let m = g.M.Model.meaning c.args.problem.now.model.now in
    let ps = figures c.args.problem.now.prices.now in
    let es = c.args.estimates.now in
    let many : length es ≡ length m = omega (arith, c.states-states.ensures) in
    let met = found (each_fault m g.R.Rule.value ps es) c.loop-state.state (length m) _ (omega (arith, c.states-states.ensures)) c.loop-state.invariant (sym c.in_err-check_estimate.ensures) in
    let all = as_many m g.R.Rule.value ps es (sym c.if-is_empty.ensures) many in
    search rules

pub returns : goal.returns
returns g c =
    let m = g.M.Model.meaning c.args.problem.now.model.now in
    let ps = figures c.args.problem.now.prices.now in
    let es = c.args.estimates.now in
    let many : length es ≡ length m = omega (arith, c.states-states.ensures) in
    let all : c.loop-state.state ≡ length m = omega (arith, c.states-states.ensures) in
    sym (as_many m g.R.Rule.value ps es (sym c.if-is_empty.ensures) many ∙ subst (λ n. first_below (each_fault m g.R.Rule.value ps es) n ≡ None) all c.loop-state.invariant)
