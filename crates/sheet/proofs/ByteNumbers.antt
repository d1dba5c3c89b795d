-- Numbers written as bytes, and read again.
use Rattle.std.proofs.Common.{◌≡◌, ℕ, ◌+◌, ◌*◌, ◌/◌, ◌%◌, ◌<◌, List, [], ◌∷◌, ◌++◌, length, refl, ◌∙◌, ap₂, arith}
use Rattle.std.specs.List.{flat_map, AllByRecursion}
use Rattle.sheet.specs.Blocks.{two, four}
use Rattle.sheet.specs.Stages.{pair_at, pairs, end_cost_in}

pub two_of : (x y : ℕ) → x < 256 → y < 256 → two (x * 256 + y) ≡ x ∷ y ∷ []
two_of x y h k =
    let high : (x * 256 + y) / 256 ≡ x = omega arith in
    let low : (x * 256 + y) % 256 ≡ y = omega arith in
    cc

pub two_back : (n : ℕ) → n / 256 * 256 + n % 256 ≡ n
two_back n = omega arith

pub pair_at_two : (n : ℕ) (r : List ℕ) → pair_at (two n ++ r) 0 ≡ n
pair_at_two n r = two_back n

pub pairs_joined : (os : List ℕ) → pairs (flat_map two os) ≡ os
pairs_joined [] = refl
pairs_joined (o ∷ os) = ap₂ {C = List ℕ} (λ x xs. x ∷ xs) (two_back o) (pairs_joined os)

-- Bytes of even length are those of the numbers that they stand for.
pub joined_pairs : (b : List ℕ) → length b % 2 ≡ 0 → AllByRecursion (λ x. x < 256) b → flat_map two (pairs b) ≡ b
joined_pairs [] e h = refl
joined_pairs (x ∷ []) e h = absurd (omega arith)
joined_pairs (x ∷ (y ∷ r)) e h =
    let rest : flat_map two (pairs r) ≡ r = joined_pairs r (omega arith) h.1.1 in
    let here = two_of x y h.0 h.1.0 in
    ap₂ {C = List ℕ} (λ p q. p ++ q) here rest

pub length_pairs : (b : List ℕ) → length (pairs b) ≡ length b / 2
length_pairs [] = refl
length_pairs (x ∷ []) = refl
length_pairs (x ∷ (y ∷ r)) = let ih = length_pairs r in omega arith

pub length_joined_two : (os : List ℕ) → length (flat_map two os) ≡ 2 * length os
length_joined_two [] = refl
length_joined_two (o ∷ os) = let ih = length_joined_two os in omega arith

pub end_cost_in_four : (c : ℕ) → end_cost_in (four c) ≡ c
end_cost_in_four c = omega arith

pub four_of : (b : List ℕ) → length b ≡ 4 → AllByRecursion (λ x. x < 256) b → four (end_cost_in b) ≡ b
four_of [] e h = absurd (omega arith)
four_of (x ∷ []) e h = absurd (omega arith)
four_of (x ∷ (y ∷ [])) e h = absurd (omega arith)
four_of (x ∷ (y ∷ (z ∷ []))) e h = absurd (omega arith)
four_of (x ∷ (y ∷ (z ∷ (w ∷ (v ∷ r))))) e h = absurd (omega arith)
four_of (x ∷ (y ∷ (z ∷ (w ∷ [])))) e h =
    let hx : x < 256 = h.0 in
    let hy : y < 256 = h.1.0 in
    let hz : z < 256 = h.1.1.0 in
    let hw : w < 256 = h.1.1.1.0 in
    let n : ℕ = (x * 256 + y) * 65536 + (z * 256 + w) in
    let a : n / 65536 ≡ x * 256 + y = omega arith in
    let b : n % 65536 ≡ z * 256 + w = omega arith in
    ap₂ (λ p q. two p ++ two q) a b ∙ ap₂ (λ p q. p ++ q) (two_of x y hx hy) (two_of z w hz hw)
