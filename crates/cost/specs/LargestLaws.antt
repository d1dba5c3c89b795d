-- The laws of the largest cost of a list.
use Rattle.std.specs.Prelude.{◌≡◌, ℕ, ◌≤◌, max, List, [], ◌∷◌, ◌++◌}
use Rattle.std.proofs.Common.{arith}
use Rattle.std.specs.List.{AllZip, AllByRecursion}
use Rattle.std.specs.List.Sorted.{IsPermutation}
use Rattle.std.proofs.ByRecursion.{all-has, all_shuffled}
use Rattle.std.proofs.lemmas.List.Sorted.{IsPermutation-sym}
use Rattle.cost.specs.Counting.{Lawful}
use Rattle.cost.specs.Costs.{roof}
use Rattle.cost.specs.Rules.{largest}

pub largest_push : (l : List ℕ) (c : ℕ) → largest (l ++ c ∷ []) ≡ max (largest l) c
largest_push [] c = omega arith
largest_push (x ∷ l) c = omega (arith, largest_push l c)

-- A bound on every cost is a bound on the largest, and the other way round.
largest_at_most : (b : ℕ) (l : List ℕ) → AllByRecursion (λ c. c ≤ b) l → largest l ≤ b
largest_at_most b [] all = omega arith
largest_at_most b (x ∷ l) all = omega (arith, all.0, largest_at_most b l all.1)

each_at_most : (b : ℕ) (l : List ℕ) → largest l ≤ b → AllByRecursion (λ c. c ≤ b) l
each_at_most b [] h = tt
each_at_most b (x ∷ l) h = (omega arith, each_at_most b l (omega arith))

covered : (l : List ℕ) → AllByRecursion (λ c. c ≤ largest l) l
covered l = each_at_most (largest l) l (omega arith)

shuffled_at_most : (l m : List ℕ) → IsPermutation l m → largest m ≤ largest l
shuffled_at_most l m s = largest_at_most (largest l) m (all_shuffled (λ c. c ≤ largest l) l m s (covered l))

grows : (l m : List ℕ) → AllZip (λ a b. a ≤ b) l m → largest l ≤ largest m
grows [] [] e = omega arith
grows [] (y ∷ m) e = absurd e
grows (x ∷ l) [] e = absurd e
grows (x ∷ l) (y ∷ m) e = omega (arith, e.0, grows l m e.1)

pub largest_lawful : Lawful largest
largest_lawful = record {
  cost = λ l c. largest_at_most roof l c.within;
  order = λ l m c s. omega (arith, shuffled_at_most l m s, shuffled_at_most m l (IsPermutation-sym l m s));
  growth = λ l m cl cm e. grows l m e;
  cover = λ l c cl h. all-has (λ x. x ≤ largest l) l c (covered l) h;
}
