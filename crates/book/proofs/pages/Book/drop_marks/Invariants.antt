use Rattle.std.proofs.Common.{◌≡◌}
use Rattle.model.specs.Meaning.{is_end, state_at}
use Rattle.book.specs.Openings.{first_by}
use Rattle.book.proofs.pages.Book.drop_marks.Given as goal

abbrev pub invariant-loop-state : goal.invariant-loop-state
invariant-loop-state g l = l.known ≡ first_by (λ s. is_end (state_at (g.M.Model.meaning l.model) s)) l.state l.initial.known
