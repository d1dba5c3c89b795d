use Rattle.std.proofs.Common.{ℕ, false, List, replicate, ap, ◌∙◌}
use lib.LanesLaws.{map-replicate}
use Rattle.cost.specs.declared.amount.Cost.{Cost}
use Rattle.book.specs.Pages.{Page}
use Rattle.book.proofs.pages.Book.new.Goals as goal

with_bounds : List ℕ → Page
with_bounds l = record { bounds = l; planned = replicate 4096 false; kept = replicate 4096 0 }

pub returns : goal.returns
unfolding with_bounds
returns c = ap with_bounds (map-replicate (λ (x : Cost). x.value) 4096 c.new.result ∙ ap (replicate 4096) c.new.ensures)
