use Rattle.std.proofs.Common.{rules, ◌<◌, arith, true, false, ◌≡◌, List, ℕ, Option, Some, None, length}
use borrow.Author.Tests.{tests}
use Rattle.std.specs.List.{AllByRecursion, AllWithin, HoldsAt, ContainsAt as Has}
use Rattle.std.specs.Option.{MatchOption}
use Rattle.std.proofs.ByRecursion.{All-from_get_or}
use Rattle.std.proofs.lemmas.Iterator.{first_from_find}
use Rattle.std.proofs.lemmas.Iterator.Consumers.{YieldsList-from_first}
use Rattle.book.specs.Pages.{page, planned_at}
use Rattle.book.proofs.pages.Book.first_unplanned.Goals as goal

met_or_all : (Yes No : ℕ → Type 0) (os : List ℕ) (r : Option ℕ) → MatchOption r (AllWithin No os 0 (length os)) (λ x. Yes x × (i : ℕ) × (i < length os) × HoldsAt (λ y. y ≡ x) os i × AllWithin No os 0 i)
    → MatchOption r (AllByRecursion No os) (λ o. Has os o × Yes o)
met_or_all Yes No os None h = All-from_get_or No os 0 (λ i l. h i 0 (omega arith) l)
met_or_all Yes No os (Some o) h = ((h.1, h.2, h.3), h.0)

pub returns : goal.returns
returns g c =
    let marks = planned_at (page c.args.self.now) in
    met_or_all (λ o. marks o ≡ false) (λ o. marks o ≡ true) _ c.find.result
    (first_from_find c.find.new.self _ _ (λ o. marks o ≡ false) (λ o. marks o ≡ true) c.find.ensures.ran (YieldsList-from_first (λ o. o) _ _ c.outcomes_of.ensures)
    (λ o q k. search (rules, tests)) (λ o q k. search (rules, tests)))
