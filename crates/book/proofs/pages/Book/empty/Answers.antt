use Rattle.std.proofs.Common.{◌≡◌, ◌≤◌, ℕ, ◌<◌, ◌++◌, cond, length, get_or, take, drop, sym, ap, ◌∙◌, ap₂, subst, arith}
use Rattle.std.specs.List.{take-map}
use Rattle.std.proofs.lemmas.List.{length-map, length-take-le, get_or-take}
use Rattle.cost.specs.declared.amount.Cost.{Cost}
use Rattle.model.specs.Meaning.{is_end, state_at}
use Rattle.book.specs.Openings.{first_by}
use Rattle.book.specs.Pages.{Sound, bound_at, page}
use Rattle.book.proofs.Firsts.{numbers, as_long, cost_written, cost_unwritten, costs_part}
use Rattle.book.proofs.OpenedBooks.{emptied_sound}
use Rattle.book.proofs.PageParts.{pages_same}
use Rattle.book.proofs.pages.Book.empty.Goals as goal

pub loop-state-preserved : goal.loop-state-preserved
loop-state-preserved g c =
    let m = g.M.Model.meaning c.args.model.now in
    let f : ℕ → ℕ = λ s. cond (is_end (state_at m s)) (bound_at (page c.args.self.now) s) 0 in
    let k = c.loop-state.state in
    let n = c.entries.result in
    let all = c.drop_marks.new.self.bounds in
    let old = take n all in
    let known = c.loop-state.known in
    let inside : k < n = omega (arith, length-take-le n all) in
    let unwritten = cost_unwritten f k (numbers old) known c.index-known-state.result c.loop-state.invariant (omega arith) in
    let read : get_or (numbers old) k 0 ≡ bound_at (page c.args.self.now) k =
    ap (λ l. get_or l k 0) (sym (take-map (λ (x : Cost). x.value) n all)) ∙ get_or-take n (numbers all) k 0 inside ∙ ap (λ p. bound_at p k) c.drop_marks.ensures.after in
    cost_written f k (numbers old) known c.emptied_bound.result c.loop-state.invariant (omega (arith, length-map old (λ (x : Cost). x.value)))
    (c.emptied_bound.ensures ∙ ap (λ x. cond (is_end (state_at m k)) x 0) (unwritten ∙ read))

pub returns : goal.returns
returns g c =
    let m = g.M.Model.meaning c.args.model.now in
    let f : ℕ → ℕ = λ s. cond (is_end (state_at m s)) (bound_at (page c.args.self.now) s) 0 in
    let n = c.entries.result in
    let old = c.drop_marks.new.self.bounds in
    let dropped = c.drop_marks.ensures.after in
    let same : numbers old ≡ numbers c.args.self.now.bounds = ap (λ p. p.bounds) dropped in
    let inside : n ≤ length old = omega (arith, c.entries.ensures, as_long old c.args.self.now.bounds same) in
    let all : c.loop-state.state ≡ n = omega (arith, length-take-le n old inside) in
    let after = pages_same (page record { bounds = c.loop-state.known ++ drop n old; planned = c.drop_marks.new.self.planned; kept = c.drop_marks.new.self.kept }) _ _ _
    (costs_part f n c.loop-state.state old c.loop-state.known inside all c.loop-state.invariant ∙ ap₂ (first_by f) c.entries.ensures same)
    (ap (λ p. p.planned) dropped)
    (ap (λ p. p.kept) dropped) in
    record { after = after; sound = λ value old new opens lawful. subst (Sound m value new) (sym after) (emptied_sound m opens value old new (page c.args.self.now) lawful) }
