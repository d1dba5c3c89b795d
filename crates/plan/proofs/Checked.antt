-- Best costs of a model that is written out, by a test that the checker computes.
use Rattle.std.proofs.Common.{◌≡◌, ℕ, zero, suc, ◌<◌, ◌≤◌, Bool, true, ◌&&◌, eqb, leb, List, [], ◌∷◌, length, subst, ⊎_elim, arith}
use Rattle.std.specs.List.{AllByRecursion}
use Rattle.std.proofs.lemmas.Bool.{and_parts, eqb-true, leb-true, cases_lt}
use Rattle.cost.specs.Counting.{Lawful}
use Rattle.cost.specs.Prices.{InRange}
use Rattle.model.specs.Meaning.{Action, State, End, Open, state_at}
use Rattle.model.specs.Reading.{Opens}
use Rattle.plan.specs.Bests.{Best}
use Rattle.plan.specs.Bounds.{Bounds, least_cost, LawfulAt, LawfulBounds}
use Rattle.plan.proofs.Fixed.{fixed_best}

-- A test is true at each place below n.
abbrev pub each_below : (ℕ → Bool) → ℕ → Bool
each_below test zero = true
each_below test (suc n) = each_below test n && test n

pub each_below_at : (test : ℕ → Bool) (n s : ℕ) → each_below test n ≡ true → s < n → test s ≡ true
each_below_at test zero s e h = absurd (omega arith)
each_below_at test (suc n) s e h =
    let p = and_parts (each_below test n) (test n) e in
    ⊎_elim (λ less. each_below_at test n s p.0 less) (λ more. subst (λ i. test i ≡ true) (omega arith) p.1) (cases_lt s n)

-- Bounds equal the end cost at an end and the least action cost at an open state.
abbrev pub fixed_at : List State → (List ℕ → ℕ) → List ℕ → Bounds → ℕ → State → Bool
fixed_at m value prices v s (End c) = eqb (v s) c
fixed_at m value prices v s (Open as') = eqb (v s) (least_cost m value prices v s)

abbrev pub fixed : List State → (List ℕ → ℕ) → List ℕ → Bounds → Bool
fixed m value prices v = each_below (λ s. fixed_at m value prices v s (state_at m s)) (length m)

module _ (m : List State) (value : List ℕ → ℕ) (prices : List ℕ) (v : Bounds) (e : fixed m value prices v ≡ true) where
  at : (s : ℕ) → s < length m → fixed_at m value prices v s (state_at m s) ≡ true
  at s there = each_below_at (λ s. fixed_at m value prices v s (state_at m s)) (length m) s e there

  lawful_at : (s : ℕ) (x : State) → fixed_at m value prices v s x ≡ true → LawfulAt m value prices v s x
  lawful_at s (End c) h = eqb-true (v s) c h
  lawful_at s (Open as') h = let same = eqb-true (v s) (least_cost m value prices v s) h in omega arith

  pub fixed_lawful : LawfulBounds m value prices v
  fixed_lawful s there = lawful_at s (state_at m s) (at s there)

  met : (s : ℕ) (as' : List Action) → s < length m → state_at m s ≡ Open as' → least_cost m value prices v s ≤ v s
  met s as' there o =
      let h = subst (λ x. fixed_at m value prices v s x ≡ true) o (at s there) in
      let same = eqb-true (v s) (least_cost m value prices v s) h in
      omega arith

  pub fixed_is_best : Opens m → Lawful value → InRange prices → (s : ℕ) → s < length m → Best m value prices s (v s)
  fixed_is_best opens rule range = fixed_best m value prices opens rule range v fixed_lawful met

-- Prices that are written out are in range.
abbrev pub all_priced : List ℕ → Bool
all_priced [] = true
all_priced (p ∷ ps) = (leb 1 p && leb p 10000) && all_priced ps

pub priced : (ps : List ℕ) → all_priced ps ≡ true → AllByRecursion (λ p. (1 ≤ p) × (p ≤ 10000)) ps
priced [] e = tt
priced (p ∷ ps) e =
    let both = and_parts (leb 1 p && leb p 10000) (all_priced ps) e in
    let here = and_parts (leb 1 p) (leb p 10000) both.0 in
    ((leb-true 1 p here.0, leb-true p 10000 here.1), priced ps both.1)
