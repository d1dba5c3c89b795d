-- Lists of costs, entry by entry.
use Rattle.std.proofs.Common.{◌≡◌, ℕ, zero, suc, ◌<◌, ◌≤◌, List, [], ◌∷◌, map, length, get_or, sym, subst, arith}
use Rattle.std.specs.List.{AllZip, ContainsAt as Has}
use Rattle.std.proofs.ByRecursion.{All-from_get_or}
use Rattle.std.proofs.lemmas.List.{get_or-map, length-map}
use Rattle.cost.specs.Costs.{roof}
use Rattle.cost.specs.Counting.{CostList}

-- What holds at each place holds of the lists, entry by entry.
pub each_from_places : (R : ℕ → ℕ → Type 0) (xs ys : List ℕ) → length xs ≡ length ys → ((k : ℕ) → k < length xs → R (get_or xs k 0) (get_or ys k 0)) → AllZip R xs ys
each_from_places R [] [] e h = tt
each_from_places R [] (y ∷ ys) e h = absurd (omega arith)
each_from_places R (x ∷ xs) [] e h = absurd (omega arith)
each_from_places R (x ∷ xs) (y ∷ ys) e h = (h zero (omega arith), each_from_places R xs ys (omega arith) (λ k l. h (suc k) (omega arith)))

-- As many costs as an action has outcomes, each at most the roof.
pub cost_list : (os cs : List ℕ) → length cs ≡ length os → 1 ≤ length os → length os ≤ 16 → ((k : ℕ) → k < length os → get_or cs k 0 ≤ roof) → CostList cs
cost_list os cs e some few h = record {
  some = omega (arith, e);
  few = omega (arith, e);
  within = All-from_get_or (λ c. c ≤ roof) cs 0 (λ i l. h i (omega (arith, e)));
}

-- A number read through a function of the entries.
pub get_or_mapped : (v : ℕ → ℕ) (os : List ℕ) (k : ℕ) → k < length os → get_or (map v os) k 0 ≡ v (get_or os k 0)
get_or_mapped v os k h = get_or-map v os k 0 0 h

pub has_mapped : (v : ℕ → ℕ) (os : List ℕ) (k : ℕ) → k < length os → Has (map v os) (v (get_or os k 0))
has_mapped v os k h =
    (k, subst (λ n. k < n) (sym (length-map os v)) h, λ d. get_or-map v os k 0 d h)
