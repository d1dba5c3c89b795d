-- Different numbers below n are at most n.
use Rattle.std.proofs.Common.{◌≡◌, ℕ, zero, suc, ◌<◌, ◌≤◌, List, [], ◌∷◌, length, ⊎_elim, arith}
use Rattle.std.specs.List.{AllByRecursion}
use Rattle.std.proofs.ByRecursion.{All-weaker}
use Rattle.std.proofs.lemmas.Bool.{cases_lt}

-- A number that is not in a list, and lists without a number twice.
abbrev pub Fresh : ℕ → List ℕ → Type 0
Fresh x xs = AllByRecursion (λ y. x ≡ y → ⊥) xs

abbrev pub Distinct : List ℕ → Type 0
Distinct [] = Unit {0}
Distinct (x ∷ xs) = Fresh x xs × Distinct xs

-- A list without its largest possible number.
record Without (n : ℕ) (xs : List ℕ) : Type 1 where
  rest : List ℕ
  below : AllByRecursion (λ x. x < n) rest
  distinct : Distinct rest
  long : length xs ≤ suc (length rest)
  part : (P : ℕ → Type 0) → AllByRecursion P xs → AllByRecursion P rest

both : (P Q : ℕ → Type 0) (xs : List ℕ) → AllByRecursion P xs → AllByRecursion Q xs → AllByRecursion (λ x. P x × Q x) xs
both P Q [] p q = tt
both P Q (x ∷ xs) p q = ((p.0, q.0), both P Q xs p.1 q.1)

without : (n : ℕ) (xs : List ℕ) → AllByRecursion (λ x. x < suc n) xs → Distinct xs → Without n xs
without n [] all d = record { rest = []; below = tt; distinct = tt; long = omega arith; part = λ P h. tt }
without n (x ∷ xs) all d =
    let w = without n xs all.1 d.1 in
    ⊎_elim
    (λ less. record {
      rest = x ∷ w.rest;
      below = (less, w.below);
      distinct = (w.part (λ y. x ≡ y → ⊥) d.0, w.distinct);
      long = omega (arith, w.long);
      part = λ P h. (h.0, w.part P h.1);
    })
    (λ top. record {
      rest = xs;
      below = All-weaker (λ y. (y < suc n) × (x ≡ y → ⊥)) (λ y. y < n) (λ y h. let ne = h.1 in omega (arith, h.0, ne, all.0)) xs (both (λ y. y < suc n) (λ y. x ≡ y → ⊥) xs all.1 d.0);
      distinct = d.1;
      long = omega arith;
      part = λ P h. h.1;
    })
    (cases_lt x n)

pub distinct_few : (n : ℕ) (xs : List ℕ) → AllByRecursion (λ x. x < n) xs → Distinct xs → length xs ≤ n
distinct_few zero [] all d = omega arith
distinct_few zero (x ∷ xs) all d = absurd (omega (arith, all.0))
distinct_few (suc n) xs all d = let w = without n xs all d in omega (arith, w.long, distinct_few n w.rest w.below w.distinct)
