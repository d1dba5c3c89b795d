-- What is wrong with estimates.
use Rattle.std.specs.Prelude.{ℕ, min, Bool, cond, not, List, [], ◌∷◌, length, None, Option, ◌==◌, nat_le, nat_lt, slice_index}
use Rattle.cost.specs.Costs.{roof}
use Rattle.model.specs.Firsts.{when, first_of, first_below}
use Rattle.model.specs.Meaning.{State, End, Open, state_at}
use Rattle.plan.specs.Bounds.{Bounds, least_cost}
use Rattle.book.specs.declared.faults.EstimateFault.{EstimateFault}
use Rattle.book.specs.declared.faults.EstimateFault.TheVariants.{Length, Estimate}

-- The bounds that estimates give: an estimate above the roof counts as the roof. A book has entries
-- for 4,096 states.
abbrev pub estimate_bounds : List ℕ → Bounds
estimate_bounds es = λ s. cond (nat_lt s 4096) (min roof (slice_index es s)) 0

-- An estimate keeps its rule: at an end it equals the end cost, at an open state it is at most the
-- least action cost worked out from the estimates.
abbrev pub estimate_right : List State → (List ℕ → ℕ) → List ℕ → List ℕ → ℕ → State → Bool
estimate_right m value prices es s (End c) = slice_index es s == c
estimate_right m value prices es s (Open as') = nat_le (slice_index es s) (least_cost m value prices (estimate_bounds es) s)

-- The first thing that is wrong with estimates, if anything is: their number, unless there are none,
-- then each in ascending order.
abbrev pub estimate_fault : List State → (List ℕ → ℕ) → List ℕ → List ℕ → Option EstimateFault
estimate_fault m value prices [] = None
estimate_fault m value prices (e ∷ es) =
    first_of (when (not (length (e ∷ es) == length m)) (Length (length (e ∷ es))))
    (first_below (λ s. when (not (estimate_right m value prices (e ∷ es) s (state_at m s))) (Estimate s)) (length m))
