-- The candidates of a set, by the number of one bits and by the lowest of them.
use Rattle.std.proofs.Common.{◌≡◌, ℕ, zero, suc, ◌+◌, ◌*◌, ◌/◌, ◌%◌, ◌^◌, ◌<◌, ◌≤◌, eqb, [], ◌∷◌, length, sym, refl, ap, ◌∙◌, ⊎_elim, pow-suc, arith}
use lib.Count.{ones, ones_in, ones_step, count_trailing_zeros, under}
use Rattle.std.proofs.lemmas.List.{nil_from_length}
use Rattle.std.proofs.lemmas.Bool.{cases_eq, cond-true, cond-false, eq-eqb, ne_eqb}
use Rattle.valve.specs.Valves.{candidates}

ones_zero : ones 0 ≡ 0
unfolding ones ones_in
ones_zero = refl

-- The lowest bit is one, or it is zero.
module _ (bits first m : ℕ) where
  candidates_odd : m % 2 ≡ 1 → candidates (suc bits) first m ≡ first ∷ candidates bits (suc first) (m / 2)
  candidates_odd e = cond-true (eqb (m % 2) 1) _ _ (eq-eqb (m % 2) 1 e)

  candidates_even : (m % 2 ≡ 1 → ⊥) → candidates (suc bits) first m ≡ candidates bits (suc first) (m / 2)
  candidates_even e = cond-false (eqb (m % 2) 1) _ _ (ne_eqb (m % 2) 1 e)

half_below : (bits m : ℕ) → m < 2 ^ suc bits → m / 2 < 2 ^ bits
half_below bits m h = let p : 2 ^ suc bits ≡ 2 ^ bits * 2 = pow-suc 2 bits in omega arith

pub length_candidates : (bits first m : ℕ) → m < 2 ^ bits → length (candidates bits first m) ≡ ones m
length_candidates zero first m h =
    let none : m ≡ 0 = omega arith in
    sym (ap ones none ∙ ones_zero)
length_candidates (suc bits) first m h =
    let rest = length_candidates bits (suc first) (m / 2) (half_below bits m h) in
    let step = ones_step m in
    ⊎_elim
    (λ e. ap length (candidates_odd bits first m e) ∙ omega arith)
    (λ e. ap length (candidates_even bits first m e) ∙ (let even : m % 2 ≡ 0 = omega arith in omega arith))
    (cases_eq (m % 2) 1)

trailing_odd : (k m : ℕ) → m % 2 ≡ 1 → count_trailing_zeros (suc k) m ≡ 0
unfolding count_trailing_zeros
trailing_odd k m e = ap (λ d. under d (count_trailing_zeros k (m / 2))) e

trailing_even : (k m : ℕ) → m % 2 ≡ 0 → count_trailing_zeros (suc k) m ≡ suc (count_trailing_zeros k (m / 2))
unfolding count_trailing_zeros
trailing_even k m e = ap (λ d. under d (count_trailing_zeros k (m / 2))) e

-- The one candidate of a set is the place of its lowest one bit.
pub single_candidate : (bits first k m : ℕ) → m < 2 ^ bits → bits ≤ k → ones m ≡ 1 → (candidates bits first m ≡ (first + count_trailing_zeros k m) ∷ []) × (count_trailing_zeros k m < bits)
single_candidate zero first k m h w one =
    let none : m ≡ 0 = omega arith in
    let no : ones m ≡ 0 = ap ones none ∙ ones_zero in
    absurd (omega arith)
single_candidate (suc bits) first zero m h w one = absurd (omega arith)
single_candidate (suc bits) first (suc k) m h w one =
    let step = ones_step m in
    let below = half_below bits m h in
    ⊎_elim
    (λ e.
    let tz = trailing_odd k m e in
    let rest : length (candidates bits (suc first) (m / 2)) ≡ 0 = length_candidates bits (suc first) (m / 2) below ∙ omega arith in
    let here : first ≡ first + count_trailing_zeros (suc k) m = omega arith in
    (candidates_odd bits first m e ∙ ap (λ l. first ∷ l) (nil_from_length (candidates bits (suc first) (m / 2)) rest) ∙ ap (λ x. x ∷ []) here, omega arith))
    (λ e.
    let even : m % 2 ≡ 0 = omega arith in
    let tz = trailing_even k m even in
    let ih = single_candidate bits (suc first) k (m / 2) below (omega arith) (omega arith) in
    let there : suc first + count_trailing_zeros k (m / 2) ≡ first + count_trailing_zeros (suc k) m = omega arith in
    (candidates_even bits first m e ∙ ih.0 ∙ ap (λ x. x ∷ []) there, omega (arith, ih.1)))
    (cases_eq (m % 2) 1)
