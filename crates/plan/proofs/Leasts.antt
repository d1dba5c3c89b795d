-- The least of several costs.
use Rattle.std.proofs.Common.{◌≡◌, ℕ, zero, suc, ◌+◌, ◌<◌, ◌≤◌, min, ◌⊎◌, refl, ap, inl, inr, ⊎_elim, add-one, arith}
use Rattle.std.proofs.lemmas.Bool.{cases_lt}
use Rattle.cost.specs.Costs.{roof}
use Rattle.plan.specs.Bounds.{least_below}

-- One cost more.
pub least_more : (f : ℕ → ℕ) (n : ℕ) → least_below f (n + 1) ≡ min (least_below f n) (f n)
least_more f n = ap (least_below f) (add-one n)

pub least_most : (f : ℕ → ℕ) (n : ℕ) → least_below f n ≤ roof
least_most f zero = omega arith
least_most f (suc n) = omega (arith, least_most f n)

pub least_at : (f : ℕ → ℕ) (n i : ℕ) → i < n → least_below f n ≤ f i
least_at f zero i h = absurd (omega arith)
least_at f (suc n) i h =
    ⊎_elim
    (λ less. omega (arith, least_at f n i less))
    (λ more. let same : f i ≡ f n = ap f (omega arith) in omega arith)
    (cases_lt i n)

pub least_grows : (f g : ℕ → ℕ) (n : ℕ) → ((i : ℕ) → i < n → f i ≤ g i) → least_below f n ≤ least_below g n
least_grows f g zero h = omega arith
least_grows f g (suc n) h = omega (arith, least_grows f g n (λ i l. h i (omega arith)), h n (omega arith))

-- The least is the roof, or one of the costs.
pub least_reached : (f : ℕ → ℕ) (n : ℕ) → (least_below f n ≡ roof) ⊎ ((i : ℕ) × (i < n) × (least_below f n ≡ f i))
least_reached f zero = inl refl
least_reached f (suc n) =
    ⊎_elim
    (λ here. inr (n, omega arith, omega arith))
    (λ there.
    ⊎_elim
    (λ top. inl (omega arith))
    (λ one. inr (one.0, omega (arith, one.1), omega (arith, one.2)))
    (least_reached f n))
    (cases_lt (f n) (least_below f n))
