use Rattle.std.proofs.Common.{◌≡◌, ◌<◌, false, length, Some, sym, subst, arith}
use Rattle.cost.specs.Prices.{figures}
use Rattle.model.specs.Meaning.{actions, state_at}
use Rattle.plan.specs.Bounds.{FirstLeast, least_cost}
use Rattle.plan.proofs.Orders.{cost_not_less}
use Rattle.book.specs.Looks.{Seen}
use Rattle.book.specs.Pages.{page, bound_at, planned_at}
use Rattle.book.proofs.Seeing.{none_free, followed_seen}
use Rattle.book.proofs.pages.Book.look.Goals as goal

pub returns-in_err-action : goal.returns-in_err-action
returns-in_err-action g c =
    let m = g.M.Model.meaning c.args.problem.now.model.now in
    let value = g.R.Rule.value in
    let prices = figures c.args.problem.now.prices.now in
    let p = page c.args.self.now in
    let s = c.args.state in
    let top = none_free m value prices p s (subst (FirstLeast m value prices (bound_at p) s (length (actions (state_at m s)))) c.in_err-action.was c.least_action-least.ensures.first) in
    let low = cost_not_less c.bound-bound.result c.least_action-least.result.cost _ c.lt.ensures c.if-lt.false in
    subst (Seen m value prices p s) (sym c.from_residual.ensures)
    (λ opens there unplanned below lawful. omega (arith, top, below, c.bound-bound.ensures, c.least_action-least.ensures.cost, low))

pub returns : goal.returns
returns g c =
    let m = g.M.Model.meaning c.args.problem.now.model.now in
    let value = g.R.Rule.value in
    let prices = figures c.args.problem.now.prices.now in
    let p = page c.args.self.now in
    let s = c.args.state in
    let least = c.least_action-least.result.cost in
    let bound = c.bound-bound.result in
    let low = cost_not_less bound least _ c.lt.ensures c.if-lt.false in
    let high = cost_not_less least bound _ c.lt-2.ensures c.if-lt-2.false in
    let level : bound_at p s ≡ least_cost m value prices (bound_at p) s = omega (arith, c.bound-bound.ensures, c.least_action-least.ensures.cost, low, high) in
    let inside : s < 4096 = omega arith in
    let unplanned : planned_at p s ≡ false = sym c.if-is_planned.ensures in
    let first : FirstLeast m value prices (bound_at p) s (length (actions (state_at m s))) (Some c.in_ok-action.action) = subst (FirstLeast m value prices (bound_at p) s (length (actions (state_at m s)))) c.in_ok-action.was c.least_action-least.ensures.first in
    followed_seen m value prices p s c.in_ok-action.action inside unplanned first level c.follow.result c.follow.ensures
