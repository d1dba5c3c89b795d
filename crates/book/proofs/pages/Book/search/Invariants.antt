use Rattle.std.proofs.Common.{◌+◌, ◌-◌, ◌*◌, length}
use Rattle.cost.specs.Prices.{figures}
use Rattle.book.specs.Pages.{page}
use Rattle.book.specs.Trails.{way_of}
use Rattle.book.proofs.Going.{Going}
use Rattle.book.proofs.Unmarked.{unmarked}
use Rattle.book.proofs.pages.Book.search.Given as goal

abbrev pub invariant-loop-allowance : goal.invariant-loop-allowance
invariant-loop-allowance g l =
    Going (g.M.Model.meaning l.problem.model.now) g.R.Rule.value (figures l.problem.prices.now) l.start l.cap.value l.allowance.value (page l.initial.self) (page l.self) l.raises l.trail

abbrev pub decreases-loop-allowance : goal.decreases-loop-allowance
decreases-loop-allowance g l = ((l.allowance.value - l.raises) + unmarked l.self.planned) * 4097 + (4096 - length (way_of l.trail))
