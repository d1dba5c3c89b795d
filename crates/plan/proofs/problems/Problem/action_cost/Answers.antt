use Rattle.std.proofs.Common.{◌≡◌, [], ◌∷◌, ◌++◌, map, sym, ap, ◌∙◌, subst, ap₂}
use Rattle.std.proofs.lemmas.List.{map-append, map-id}
use Rattle.std.proofs.lemmas.Iterator.Consumers.{YieldsList-end, YieldsList-from_first}
use Rattle.cost.specs.Costs.{capped}
use Rattle.cost.specs.Prices.{figures}
use Rattle.model.specs.Meaning.{outcomes, action_at}
use Rattle.model.specs.Outcomes.{outcomes_from}
use Rattle.model.specs.declared.outcomes.Outcomes.{Outcomes}
use Rattle.plan.specs.Bounds.{bounds_of, cost_by}
use Rattle.plan.specs.Plans.{price_of}
use Rattle.plan.proofs.Opened.{free_shape}
use Rattle.plan.proofs.problems.Problem.action_cost.Goals as goal

pub loop-outcome-preserved : goal.loop-outcome-preserved
loop-outcome-preserved g c =
    let v = bounds_of c.args.bounds.now in
    let os = c.loop-outcome.yielded in
    let taken = c.take.ensures (map v os) c.loop-outcome.invariant in
    subst (g.R.Rule.took c.take.new.tally) (ap (λ x. map v os ++ x ∷ []) c.bound.ensures ∙ sym (map-append v os (c.in-Some.outcome ∷ []))) taken

pub returns : goal.returns
returns g c =
    let v = bounds_of c.args.bounds.now in
    let x = action_at (g.M.Model.meaning c.args.self.now.model.now) c.args.state c.args.action in
    let rest = λ (o : Outcomes g.row.M.Denot g.M.Model). outcomes_from (g.M.Model.meaning o.model.now) o.state o.action o.places.start in
    let start = ap rest c.into_iter-outcome-iterator.ensures.into_iter_gives ∙ c.outcomes_of-outcome-items.ensures in
    let all : c.loop-outcome.yielded ≡ outcomes x = sym (map-id c.loop-outcome.yielded) ∙ (YieldsList-end (YieldsList-from_first (λ o. o) rest (outcomes x) start) c.loop-outcome.yielded _ c.loop-outcome.yielded_by c.next.result c.next.new.self c.in-None.is c.next.ensures.steps).0 in
    let read = c.read.ensures (map v (outcomes x)) (subst (λ l. g.R.Rule.took c.loop-outcome.tally (map v l)) all c.loop-outcome.invariant) in
    let price = c.price.ensures ∙ ap (price_of (figures c.args.self.now.prices.now)) c.task.ensures in
    c.plus.ensures.sum
    ∙ ap₂ capped price read
    ∙ sym (ap (cost_by g.R.Rule.value (figures c.args.self.now.prices.now) v) (free_shape x (sym c.is_free.ensures ∙ c.if-not-is_free.false)))
