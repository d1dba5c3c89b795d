use Rattle.std.proofs.Common.{◌≡◌, ◌≤◌, ◌++◌, length, take, drop, ap, ◌∙◌, ap₂, arith}
use Rattle.std.proofs.lemmas.List.{length-map, length-take-le}
use Rattle.cost.specs.declared.amount.Cost.{Cost}
use Rattle.book.specs.Openings.{first_by, opening_bound}
use Rattle.book.specs.Pages.{page}
use Rattle.book.proofs.Firsts.{numbers, as_long, cost_written, costs_part}
use Rattle.book.proofs.PageParts.{pages_same}
use Rattle.book.proofs.pages.Book.set_up.Goals as goal

pub loop-state-preserved : goal.loop-state-preserved
loop-state-preserved g c =
    let old = take c.entries.result c.drop_marks.new.self.bounds in
    cost_written (opening_bound (g.M.Model.meaning c.args.model.now) c.args.estimates.now) c.loop-state.state (numbers old) c.loop-state.known c.opening_bound.result c.loop-state.invariant
    (omega (arith, length-map old (λ (x : Cost). x.value))) c.opening_bound.ensures

pub returns : goal.returns
returns g c =
    let m = g.M.Model.meaning c.args.model.now in
    let f = opening_bound m c.args.estimates.now in
    let n = c.entries.result in
    let old = c.drop_marks.new.self.bounds in
    let dropped = c.drop_marks.ensures.after in
    let same : numbers old ≡ numbers c.args.self.now.bounds = ap (λ p. p.bounds) dropped in
    let inside : n ≤ length old = omega (arith, c.entries.ensures, as_long old c.args.self.now.bounds same) in
    let all : c.loop-state.state ≡ n = omega (arith, length-take-le n old inside) in
    pages_same (page record { bounds = c.loop-state.known ++ drop n old; planned = c.drop_marks.new.self.planned; kept = c.drop_marks.new.self.kept }) _ _ _
    (costs_part f n c.loop-state.state old c.loop-state.known inside all c.loop-state.invariant ∙ ap₂ (first_by f) c.entries.ensures same)
    (ap (λ p. p.planned) dropped)
    (ap (λ p. p.kept) dropped)
