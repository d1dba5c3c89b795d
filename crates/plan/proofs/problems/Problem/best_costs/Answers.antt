use Rattle.std.proofs.Common.{◌≡◌, length, drop, sym, subst, arith}
use Rattle.std.proofs.lemmas.List.{length-take-le}
use Rattle.cost.specs.Prices.{figures}
use Rattle.cost.proofs.Figures.{figures_in_range}
use Rattle.plan.specs.Bests.{Best}
use Rattle.plan.specs.Bounds.{bounds_of}
use Rattle.plan.proofs.BoundLists.{bounds_append}
use Rattle.plan.proofs.Lowering.{settled_best}
use Rattle.plan.proofs.RoundSteps.{highest_above}
use Rattle.plan.proofs.problems.Problem.best_costs.Goals as goal

pub loop-known-init : goal.loop-known-init
loop-known-init g c =
    highest_above (g.M.Model.meaning c.args.self.now.model.now) g.R.Rule.value (figures c.args.self.now.prices.now) (sym c.in_ok-check.ensures.value) g.met.R.Rule.lawful (figures_in_range c.args.self.now.prices.now) c.set_highest.new.costs c.set_highest.ensures

pub returns-clause-best : goal.returns-clause-best
returns-clause-best g c = λ s there.
    let m = g.M.Model.meaning c.args.self.now.model.now in
    let value = g.R.Rule.value in
    let prices = figures c.args.self.now.prices.now in
    let known = c.lower_all.new.costs in
    let all : length known ≡ length m = omega (arith, length-take-le c.states-states.result c.args.costs.now) in
    let best = settled_best m value prices (sym c.in_ok-check.ensures.value) g.met.R.Rule.lawful (figures_in_range c.args.self.now.prices.now) (bounds_of known) c.lower_all.ensures.above c.loop-known-test.ensures.moved s there in
    subst (Best m value prices s) (sym (bounds_append known (drop c.states-states.result c.args.costs.now) s (omega (arith, all)))) best
