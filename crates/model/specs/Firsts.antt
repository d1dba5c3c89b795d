-- The first fault of several, in the order in which they are looked for.
use Rattle.std.specs.Prelude.{◌≡◌, ℕ, zero, suc, ◌<◌, Bool, cond, ◌||◌, ◌⊎◌, List, [], ◌∷◌, Some, None, Option, nat_lt}

-- A fault where a test is true.
abbrev pub when : {F : Type 0} → Bool → F → Option F
when b f = cond b (Some f) None

-- The first of two: the left one where there is one.
abbrev pub first_of : {F : Type 0} → Option F → Option F → Option F
first_of None o = o
first_of (Some f) o = Some f

-- The first of those at the places 0 to n - 1.
abbrev pub first_below : {F : Type 0} → (ℕ → Option F) → ℕ → Option F
first_below at zero = None
first_below at (suc n) = first_of (first_below at n) (at n)

-- A number is below `low` or above `high`.
abbrev pub outside : ℕ → ℕ → ℕ → Bool
outside low high n = nat_lt n low || nat_lt high n

-- One place is not after another: they are compared number by number, and a place that goes on
-- where the other ends is later.
abbrev pub NotAfter : List ℕ → List ℕ → Type 0
NotAfter [] q = Unit {0}
NotAfter (x ∷ p) [] = ⊥
NotAfter (x ∷ p) (y ∷ q) = (x < y) ⊎ ((x ≡ y) × NotAfter p q)

-- An answer is a fault that holds and is at or before the place of every fault that holds; or there
-- is no answer, and no fault holds.
abbrev pub IsFirst : {F : Type 0} → (F → Type 0) → (F → List ℕ) → Option F → Type 0
IsFirst {F} Holds place None = (f : F) → Holds f → ⊥
IsFirst {F} Holds place (Some f) = Holds f × ((g : F) → Holds g → NotAfter (place f) (place g))
