-- The laws of the capped sum of a list.
use Rattle.std.specs.Prelude.{◌≡◌, ℕ, ◌≤◌, min, List, [], ◌∷◌, ◌++◌, sum}
use Rattle.std.proofs.Common.{arith, ap, sym, subst}
use Rattle.std.specs.List.{AllZip, ContainsAt as Has}
use Rattle.std.proofs.ByRecursion.{all-has}
use Rattle.std.proofs.lemmas.List.Sorted.{sum_by-IsPermutation}
use Rattle.std.proofs.lemmas.List.Sums.{sum_by-cons, sum_by_push, get_or-le-sum_by}
use Rattle.cost.specs.Counting.{Lawful}
use Rattle.cost.specs.Costs.{roof, capped}
use Rattle.cost.specs.Rules.{capped_sum}

pub capped_sum_push : (l : List ℕ) (c : ℕ) → capped_sum (l ++ c ∷ []) ≡ capped (capped_sum l) c
capped_sum_push l c = omega (arith, sum_by_push (λ x. x) l c)

grows : (l m : List ℕ) → AllZip (λ a b. a ≤ b) l m → sum l ≤ sum m
grows [] [] e = omega arith
grows [] (y ∷ m) e = absurd e
grows (x ∷ l) [] e = absurd e
grows (x ∷ l) (y ∷ m) e = omega (arith, e.0, grows l m e.1, sum_by-cons (λ c. c) x l, sum_by-cons (λ c. c) y m)

at_most_sum : (l : List ℕ) (c : ℕ) → Has l c → c ≤ sum l
at_most_sum l c h = subst (λ x. x ≤ sum l) (h.2 0) (get_or-le-sum_by (λ x. x) l h.0 0 h.1)

pub sum_lawful : Lawful capped_sum
sum_lawful = record {
  cost = λ l c. omega arith;
  order = λ l m c s. ap (min roof) (sym (sum_by-IsPermutation (λ x. x) l m s));
  growth = λ l m cl cm e. omega (arith, grows l m e);
  cover = λ l c cl h. omega (arith, at_most_sum l c h, all-has (λ x. x ≤ roof) l c cl.within h);
}
