-- Reading estimates one after the other.
use Rattle.std.proofs.Common.{◌≡◌, ℕ, false, cond, not, eqb, List, [], ◌∷◌, length, Option, ap, arith}
use Rattle.std.proofs.lemmas.Bool.{eq-eqb}
use Rattle.model.specs.Firsts.{when, first_below}
use Rattle.model.specs.Meaning.{State, state_at}
use Rattle.model.proofs.Firsts.{when_false, first_of_right}
use Rattle.book.specs.Estimates.{estimate_right, estimate_fault}
use Rattle.book.specs.declared.faults.EstimateFault.{EstimateFault}
use Rattle.book.specs.declared.faults.EstimateFault.TheVariants.{Length, Estimate}

module _ (m : List State) (value : List ℕ → ℕ) (prices es : List ℕ) where
  -- What is wrong with the estimate of a state.
  abbrev pub each_fault : ℕ → Option EstimateFault
  each_fault s = when (not (estimate_right m value prices es s (state_at m s))) (Estimate s)

-- Where there are as many estimates as states, the first fault is that of an estimate.
pub as_many : (m : List State) (value : List ℕ → ℕ) (prices es : List ℕ) → eqb (length es) 0 ≡ false → length es ≡ length m → estimate_fault m value prices es ≡ first_below (each_fault m value prices es) (length m)
as_many m value prices [] some many = let z : ◌≡◌ {A = ℕ} 0 1 = ap (λ b. cond b 0 1) some in absurd (omega arith)
as_many m value prices (e ∷ es) some many =
    first_of_right (when (not (eqb (length (e ∷ es)) (length m))) (Length (length (e ∷ es)))) _
    (when_false (not (eqb (length (e ∷ es)) (length m))) (Length (length (e ∷ es))) (ap not (eq-eqb (length (e ∷ es)) (length m) many)))
