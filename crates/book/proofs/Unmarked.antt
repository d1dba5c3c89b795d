-- How many marks are not set.
use Rattle.std.proofs.Common.{◌≡◌, ℕ, zero, suc, ◌+◌, ◌<◌, Bool, true, false, cond, List, [], ◌∷◌, length, get_or, set, ap, arith}

abbrev pub unmarked : List Bool → ℕ
unmarked [] = 0
unmarked (b ∷ bs) = cond b 0 1 + unmarked bs

-- One mark more that was not set.
pub unmarked_less : (bs : List Bool) (i : ℕ) → i < length bs → get_or bs i false ≡ false → unmarked (set bs i true) + 1 ≡ unmarked bs
unmarked_less [] i h e = absurd (omega arith)
unmarked_less (b ∷ bs) zero h e = let one : ◌≡◌ {A = ℕ} (cond b 0 1) 1 = ap (λ x. cond x 0 1) e in omega (arith, one)
unmarked_less (b ∷ bs) (suc i) h e = omega (arith, unmarked_less bs i (omega arith) e)
