use Rattle.std.proofs.Common.{◌≡◌, ℕ, ◌+◌, false, not, is_some, Some, None, Option, sym, refl, ap, ◌∙◌, subst, arith}
use Rattle.std.proofs.lemmas.Bool.{both_ways}
use Rattle.cost.specs.Prices.{figures}
use Rattle.plan.specs.Bounds.{bounds_of, action_cost, least_below, FirstLeast}
use Rattle.plan.specs.declared.actions.Least.{Least}
use Rattle.plan.proofs.FirstLeasts.{barred_more, dearer_more, first_more, cheaper_more}
use Rattle.plan.proofs.Orders.{cost_less, cost_not_less}
use Rattle.plan.proofs.problems.Problem.least_action.Goals as goal
use Rattle.plan.proofs.problems.Problem.least_action.Goals.{then-is_free+then-is_none, then-is_none-via-then-is_none, then-is_none-via-else-is_none+then-lt, then-is_free+else-is_none+else-lt, else-is_free}

none_of : (o : Option ℕ) → is_some o ≡ false → o ≡ None
none_of None e = refl
none_of (Some x) e = let z : ◌≡◌ {A = ℕ} 0 1 = cc in absurd (omega arith)

pub loop-action-preserved : goal.loop-action-preserved
loop-action-preserved g c =
    let m = g.M.Model.meaning c.args.self.now.model.now in
    let value = g.R.Rule.value in
    let prices = figures c.args.self.now.prices.now in
    let v = bounds_of c.args.bounds.now in
    let s = c.args.state in
    let k = c.loop-action.action in
    let f = action_cost m value prices v s in
    let P : Least → Type 0 = λ l. (l.cost.value ≡ least_below f (k + 1)) × FirstLeast m value prices v s (k + 1) l.action in
    let inv = c.loop-action.invariant in
    elim c.if-is_free.branch [
      | then-is_free+then-is_none w ↦ (
          let free = sym c.is_free.ensures ∙ w.if-is_free.true in
          let more : (f k ≡ least_below f (k + 1)) × FirstLeast m value prices v s (k + 1) (Some k) =
          elim w.then-is_none.branch [
            | then-is_none-via-then-is_none w' ↦ first_more m value prices v s k (subst (FirstLeast m value prices v s k) (none_of c.loop-action.least.action (w.is_none.ensures ∙ ap not w'.if-is_none.true)) inv.1) free
            | then-is_none-via-else-is_none+then-lt w' ↦ cheaper_more m value prices v s k free (omega (arith, cost_less w.action_cost-cost.result c.loop-action.least.cost _ w'.lt.ensures w'.if-lt.true, w.action_cost-cost.ensures, inv.0))
          ] in
          subst P (sym w.least-is) (w.action_cost-cost.ensures ∙ more.0, more.1)
          )
      | then-is_free+else-is_none+else-lt w ↦ (
          let some = w.is_none.ensures ∙ ap not w.if-is_none.false in
          let more = dearer_more m value prices v s k c.loop-action.least.action inv.1 (λ e. both_ways (is_some c.loop-action.least.action) (ap is_some e) some) (omega (arith, cost_not_less w.action_cost-cost.result c.loop-action.least.cost _ w.lt.ensures w.if-lt.false, w.action_cost-cost.ensures, inv.0)) in
          subst P (sym w.least-is) (inv.0 ∙ more.0, more.1)
          )
      | else-is_free w ↦ (
          let more = barred_more m value prices v s k c.loop-action.least.action inv.1 (sym c.is_free.ensures ∙ w.if-is_free.false) in
          subst P (sym w.least-is) (inv.0 ∙ more.0, more.1)
          )
    ]
