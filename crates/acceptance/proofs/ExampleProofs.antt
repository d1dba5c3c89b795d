-- Each row of the table passes the test that its costs are fixed, so they are the best costs.
use Rattle.std.proofs.Common.{◌≡◌, true, List, [], ◌∷◌, length, get_or, refl, arith}
use Rattle.std.specs.List.{AllByRecursion}
use Rattle.cost.specs.Counting.{Lawful}
use Rattle.cost.specs.Costs.{roof}
use Rattle.cost.specs.Rules.{largest}
use Rattle.cost.specs.LargestLaws.{largest_lawful}
use Rattle.cost.specs.SumLaws.{sum_lawful}
use Rattle.model.specs.Reading.{Opens}
use Rattle.plan.proofs.Checked as checked
use Rattle.acceptance.specs.Examples.{RuleName, Largest, Sum, value_of, priced, pipes, Example, IsBest, examples, AllAreBest, Estimates}

lawful_of : (r : RuleName) → Lawful (value_of r)
lawful_of Largest = largest_lawful
lawful_of Sum = sum_lawful

-- What is computed of a row.
Passes : Example → Type 0
Passes e =
    Opens e.model
    × (length e.prices ≡ 64)
    × (checked.all_priced e.prices ≡ true)
    × (checked.fixed e.model (value_of e.rule) e.prices (λ s. get_or e.costs s 0) ≡ true)

row : (e : Example) → Passes e → IsBest e
unfolding Passes
row e (opens, long, range, fixed) =
    checked.fixed_is_best e.model (value_of e.rule) e.prices (λ s. get_or e.costs s 0) fixed opens (lawful_of e.rule) (long, checked.priced e.prices range)

rows : (es : List Example) → AllByRecursion Passes es → AllByRecursion IsBest es
rows [] p = tt
rows (e ∷ es) p = (row e p.0, rows es p.1)

all_pass : AllByRecursion Passes examples
unfolding Passes
all_pass = ((refl, refl, refl, refl), ((refl, refl, refl, refl), ((refl, refl, refl, refl), ((refl, refl, refl, refl), ((refl, refl, refl, refl), tt)))))

pub all_are_best : AllAreBest
all_are_best = rows examples all_pass

pub estimates : Estimates
estimates = record {
  lawful = checked.fixed_lawful pipes largest (priced 1 2 5) (λ s. get_or (11 ∷ 9 ∷ 4 ∷ roof ∷ []) s 0) refl;
  unlawful = λ h. omega (arith, h);
}
