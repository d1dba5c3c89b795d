use Rattle.std.proofs.lemmas.List.{map-set}
use Rattle.cost.specs.declared.amount.Cost.{Cost}
use Rattle.book.proofs.PageParts.{bounds_same}
use Rattle.book.proofs.pages.Book.raise.Goals as goal

pub returns-then-state-lt-STATES : goal.returns-then-state-lt-STATES
returns-then-state-lt-STATES c =
    bounds_same _ _ c.args.self.now.planned c.args.self.now.kept (map-set (λ (x : Cost). x.value) c.args.self.now.bounds c.args.state c.args.cost)
