-- The part of a set inside another and the part outside it.
use Rattle.std.proofs.Common.{◌≡◌, ℕ, zero, suc, ◌+◌, ◌-◌, ◌*◌, ◌/◌, ◌%◌, ◌^◌, ◌<◌, ◌≤◌, min, sym, refl, ap, ◌∙◌, subst, ap₂, pow-suc, arith}
use lib.Bits.{bit_and, and_step, and_le_l, and_self}
use Rattle.valve.specs.Parts.{TestsPartSets}
use Rattle.valve.specs.Valves.{inside_part, outside_part}

-- The lowest bit and the rest of a number that is given by them.
rest_of : (x r d : ℕ) → x ≡ r * 2 + d → d < 2 → x / 2 ≡ r
rest_of x r d e h = omega arith

bit_of : (x r d : ℕ) → x ≡ r * 2 + d → d < 2 → x % 2 ≡ d
bit_of x r d e h = omega arith

apart_in : (k m s : ℕ) → m < 2 ^ k → bit_and (inside_part m s) (outside_part m s) ≡ 0
apart_in zero m s h =
    let none : m ≡ 0 = omega arith in
    let no : inside_part m s ≡ 0 = let le = and_le_l m s in omega arith in
    ap (λ x. bit_and x (m - bit_and m s)) no ∙ refl
apart_in (suc k) m s h =
    let p : 2 ^ suc k ≡ 2 ^ k * 2 = pow-suc 2 k in
    let ih = apart_in k (m / 2) (s / 2) (omega arith) in
    let r = bit_and (m / 2) (s / 2) in
    let d = min (m % 2) (s % 2) in
    let le : r ≤ m / 2 = and_le_l (m / 2) (s / 2) in
    let inner : inside_part m s ≡ r * 2 + d = and_step m s in
    let outer : outside_part m s ≡ (m / 2 - r) * 2 + (m % 2 - d) = omega arith in
    let none : min d (m % 2 - d) ≡ 0 = omega arith in
    and_step (inside_part m s) (outside_part m s)
    ∙ ap₂ (λ a b. bit_and a b * 2 + min (inside_part m s % 2) (outside_part m s % 2)) (rest_of (inside_part m s) r d inner (omega arith)) (rest_of (outside_part m s) (m / 2 - r) (m % 2 - d) outer (omega arith))
    ∙ ap₂ (λ a b. bit_and r (m / 2 - r) * 2 + min a b) (bit_of (inside_part m s) r d inner (omega arith)) (bit_of (outside_part m s) (m / 2 - r) (m % 2 - d) outer (omega arith))
    ∙ omega (arith, ih)

-- The part inside is within the set, and the part outside has nothing of it.
inside_in : (k m s : ℕ) → m < 2 ^ k → bit_and (inside_part m s) s ≡ inside_part m s
inside_in zero m s h =
    let none : m ≡ 0 = omega arith in
    let no : inside_part m s ≡ 0 = let le = and_le_l m s in omega arith in
    ap (λ x. bit_and x s) no ∙ sym no
inside_in (suc k) m s h =
    let p : 2 ^ suc k ≡ 2 ^ k * 2 = pow-suc 2 k in
    let ih = inside_in k (m / 2) (s / 2) (omega arith) in
    let r = bit_and (m / 2) (s / 2) in
    let d = min (m % 2) (s % 2) in
    let inner : inside_part m s ≡ r * 2 + d = and_step m s in
    and_step (inside_part m s) s
    ∙ ap₂ (λ a b. bit_and a (s / 2) * 2 + min b (s % 2)) (rest_of (inside_part m s) r d inner (omega arith)) (bit_of (inside_part m s) r d inner (omega arith))
    ∙ omega (arith, ih, inner)

outside_in : (k m s : ℕ) → m < 2 ^ k → bit_and (outside_part m s) s ≡ 0
outside_in zero m s h =
    let none : m ≡ 0 = omega arith in
    let no : outside_part m s ≡ 0 = omega arith in
    ap (λ x. bit_and x s) no ∙ refl
outside_in (suc k) m s h =
    let p : 2 ^ suc k ≡ 2 ^ k * 2 = pow-suc 2 k in
    let ih = outside_in k (m / 2) (s / 2) (omega arith) in
    let r = bit_and (m / 2) (s / 2) in
    let d = min (m % 2) (s % 2) in
    let le : r ≤ m / 2 = and_le_l (m / 2) (s / 2) in
    let inner : inside_part m s ≡ r * 2 + d = and_step m s in
    let outer : outside_part m s ≡ (m / 2 - r) * 2 + (m % 2 - d) = omega arith in
    and_step (outside_part m s) s
    ∙ ap₂ (λ a b. bit_and a (s / 2) * 2 + min b (s % 2)) (rest_of (outside_part m s) (m / 2 - r) (m % 2 - d) outer (omega arith)) (bit_of (outside_part m s) (m / 2 - r) (m % 2 - d) outer (omega arith))
    ∙ omega (arith, ih)

below_power : (m : ℕ) → m < 2 ^ m
below_power zero = omega arith
below_power (suc m) = let p : 2 ^ suc m ≡ 2 ^ m * 2 = pow-suc 2 m in omega (arith, below_power m)

pub parts_apart : (m s : ℕ) → bit_and (inside_part m s) (outside_part m s) ≡ 0
parts_apart m s = apart_in m m s (below_power m)

-- The two parts differ where one of them has a candidate.
pub parts_differ : (m s : ℕ) → (inside_part m s ≡ 0 → ⊥) → inside_part m s ≡ outside_part m s → ⊥
parts_differ m s some same =
    some (sym (and_self (inside_part m s)) ∙ subst (λ x. bit_and (inside_part m s) x ≡ 0) (sym same) (parts_apart m s))

-- Together they have as much as the set.
pub parts_whole : (m s : ℕ) → inside_part m s + outside_part m s ≡ m
parts_whole m s = let le = and_le_l m s in omega arith

pub tests_part_sets_lem : TestsPartSets
tests_part_sets_lem = λ m s. record {
  inside = inside_in m m s (below_power m);
  outside = outside_in m m s (below_power m);
  apart = parts_apart m s;
  whole = parts_whole m s;
}
