use Rattle.std.proofs.Common.{◌≡◌, cond}
use Rattle.model.specs.Meaning.{is_end, state_at}
use Rattle.book.specs.Openings.{first_by}
use Rattle.book.specs.Pages.{bound_at, page}
use Rattle.book.proofs.Firsts.{numbers}
use Rattle.book.proofs.pages.Book.empty.Given as goal

abbrev pub invariant-loop-state : goal.invariant-loop-state
invariant-loop-state g l =
    numbers l.known ≡ first_by (λ s. cond (is_end (state_at (g.M.Model.meaning l.model) s)) (bound_at (page l.fn.self) s) 0) l.state (numbers l.initial.known)
