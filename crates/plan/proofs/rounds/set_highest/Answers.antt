use Rattle.std.proofs.Common.{◌∙◌, below_more, arith}
use Rattle.plan.proofs.BoundLists.{bounds_set_here, bounds_set_other}
use Rattle.plan.proofs.RoundSteps.{highest_small}
use Rattle.plan.proofs.rounds.set_highest.Goals as goal

pub loop-state-preserved : goal.loop-state-preserved
loop-state-preserved g c =
    let m = g.M.Model.meaning c.args.model.now in
    let cs = c.loop-state.costs in
    let s = c.loop-state.state in
    let top = c.highest_cost.result in
    below_more _ _
    (λ u l. bounds_set_other cs s top u (λ e. omega arith) ∙ c.loop-state.invariant u l)
    (bounds_set_here cs s top (omega arith) ∙ c.highest_cost.ensures ∙ highest_small m c.requires.opens s (omega arith))
