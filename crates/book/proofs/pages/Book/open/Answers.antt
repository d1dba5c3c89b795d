use Rattle.std.proofs.Common.{sym, subst}
use Rattle.cost.specs.Prices.{figures}
use Rattle.book.specs.Pages.{Sound, page}
use Rattle.book.proofs.OpenedBooks.{opened_sound}
use Rattle.book.proofs.pages.Book.open.Goals as goal

pub returns-clause-sound : goal.returns-clause-sound
returns-clause-sound g c = λ opens.
    let m = g.M.Model.meaning c.args.problem.now.model.now in
    let ps = figures c.args.problem.now.prices.now in
    subst (Sound m g.R.Rule.value ps) (sym c.set_up.ensures) (opened_sound m opens g.R.Rule.value ps c.args.estimates.now (page c.args.self.now) (sym c.in_ok-check_estimates.ensures))
