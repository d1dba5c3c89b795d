use Rattle.std.proofs.Common.{◌≡◌, ◌+◌, ◌<◌, ◌≤◌, length, get_or, set, sym, subst, arith}
use Rattle.cost.specs.Prices.{figures}
use Rattle.cost.proofs.Figures.{figures_in_range}
use Rattle.plan.specs.Bounds.{bounds_of}
use Rattle.plan.proofs.BoundLists.{bounds_read}
use Rattle.plan.proofs.Orders.{cost_less, cost_not_less}
use Rattle.plan.proofs.RoundSteps.{Come, come_lowered, come_kept}
use Rattle.plan.proofs.problems.Problem.lower_all.Goals as goal
use Rattle.plan.proofs.problems.Problem.lower_all.Goals.{then-lt, else-lt}

pub loop-state-preserved : goal.loop-state-preserved
loop-state-preserved g c =
    let m = g.M.Model.meaning c.args.self.now.model.now in
    let value = g.R.Rule.value in
    let prices = figures c.args.self.now.prices.now in
    let old = c.args.costs.now in
    let new = c.loop-state.costs in
    let s = c.loop-state.state in
    let least = c.least_action.result.cost in
    let there : s < length m = omega arith in
    let room : length m ≤ length new = omega arith in
    let entry = get_or new s c.index-costs-state.result in
    let read : entry.value ≡ bounds_of new s = bounds_read new s c.index-costs-state.result (omega arith) in
    let lawful = g.met.R.Rule.lawful in
    let range = figures_in_range c.args.self.now.prices.now in
    elim c.if-lt.branch [
      | then-lt w ↦ (
          let turn = come_lowered m value prices c.requires.opens lawful range old new s there c.loop-state.lowered c.loop-state.invariant least room c.least_action.ensures.cost (omega (arith, cost_less least entry _ c.lt.ensures w.if-lt.true, read)) in
          subst (λ x. Come m value prices old x c.if-lt.lowered (s + 1)) (sym w.costs-is) (subst (λ b. Come m value prices old (set new s least) b (s + 1)) (sym w.lowered-is) turn)
          )
      | else-lt w ↦ (
          let turn = come_kept m value prices c.requires.opens lawful range old new s there c.loop-state.lowered c.loop-state.invariant (omega (arith, cost_not_less least entry _ c.lt.ensures w.if-lt.false, read, c.least_action.ensures.cost)) in
          subst (λ x. Come m value prices old x c.if-lt.lowered (s + 1)) (sym w.costs-is) (subst (λ b. Come m value prices old new b (s + 1)) (sym w.lowered-is) turn)
          )
    ]
