use Rattle.std.proofs.Common.{◌≡◌}
use Rattle.book.specs.Openings.{first_by, opening_bound}
use Rattle.book.proofs.Firsts.{numbers}
use Rattle.book.proofs.pages.Book.set_up.Given as goal

abbrev pub invariant-loop-state : goal.invariant-loop-state
invariant-loop-state g l = numbers l.known ≡ first_by (opening_bound (g.M.Model.meaning l.model) l.estimates) l.state (numbers l.initial.known)
