-- Bounds that equal the least action costs are the best costs.
use Rattle.std.proofs.Common.{◌≡◌, ℕ, ◌<◌, ◌≤◌, Bool, true, false, ◌||◌, ltb, ◌⊎◌, List, map, length, get_or, Some, None, Option, refl, ap, ◌∙◌, subst, inl, inr, ⊎_elim, arith}
use Rattle.std.proofs.ByRecursion.{All-from_get_or}
use Rattle.std.proofs.lemmas.Bool.{ltb-true, lt-ltb, or_cases, or_left, or_right, cases_Bool, cases_lt, both_ways}
use Rattle.cost.specs.Costs.{roof, capped}
use Rattle.cost.specs.Counting.{Lawful}
use Rattle.cost.specs.Prices.{InRange}
use Rattle.model.specs.Meaning.{Action, Barred, Free, State, End, Open, is_end, actions, state_at, action_at}
use Rattle.model.specs.Reading.{Opens}
use Rattle.plan.specs.Bests.{Best}
use Rattle.plan.specs.Bounds.{Bounds, cost_by, action_cost, least_below, least_cost, LawfulAt, LawfulBounds, KeptAt, Marks}
use Rattle.plan.specs.Plans.{Plan, price_of}
use Rattle.plan.proofs.LawfulBelow.{lawful_small, lawful_below}
use Rattle.plan.proofs.Leasts.{least_reached}
use Rattle.plan.proofs.Marked.{falls, marked_best}

-- The place at which the least is reached.
chosen : {f : ℕ → ℕ} {n : ℕ} → (least_below f n ≡ roof) ⊎ ((i : ℕ) × (i < n) × (least_below f n ≡ f i)) → Option ℕ
chosen (inl top) = None
chosen (inr r) = Some r.0

module _ (m : List State) (value : List ℕ → ℕ) (prices : List ℕ) (opens : Opens m) (rule : Lawful value) (range : InRange prices) where
  module _ (v : Bounds) (lawful : LawfulBounds m value prices v)
      (met : (s : ℕ) (as' : List Action) → s < length m → state_at m s ≡ Open as' → least_cost m value prices v s ≤ v s) where
    counts : ℕ → Bool
    counts s = is_end (state_at m s) || ltb (v s) roof

    least_of : (s : ℕ) → (least_cost m value prices v s ≡ roof) ⊎ ((i : ℕ) × (i < length (actions (state_at m s))) × (least_cost m value prices v s ≡ action_cost m value prices v s i))
    least_of s = least_reached (action_cost m value prices v s) (length (actions (state_at m s)))

    cheapest : Plan
    unfolding chosen
    cheapest s = chosen (least_of s)

    cheapest_is : (s : ℕ) → v s < roof → v s ≡ least_cost m value prices v s → (i : ℕ) × (cheapest s ≡ Some i) × (v s ≡ action_cost m value prices v s i)
    unfolding cheapest chosen
    cheapest_is s low same =
        elim (least_of s) as (λ r. (i : ℕ) × (chosen r ≡ Some i) × (v s ≡ action_cost m value prices v s i)) [
          | inl top ↦ absurd (omega (arith, top))
          | inr r ↦ (r.0, refl, same ∙ r.2)
        ]

    keeps_open : (s : ℕ) (as' : List Action) → s < length m → state_at m s ≡ Open as' → v s < roof → (i : ℕ) → cheapest s ≡ Some i → v s ≡ action_cost m value prices v s i
        → (x : Action) → action_at m s i ≡ x → KeptAt m value prices v counts cheapest s (Open as')
    unfolding counts
    keeps_open s as' there e low i is cost Barred f =
        let dear : action_cost m value prices v s i ≡ roof = ap (cost_by value prices v) f in
        absurd (omega (arith, cost, dear))
    keeps_open s as' there e low i is cost (Free t os) f =
        let same : v s ≡ capped (price_of prices t) (value (map v os)) = cost ∙ ap (cost_by value prices v) f in (
          low,
          (
            t,
            os,
            (i, is, f),
            same,
            All-from_get_or (λ o. counts o ≡ true) os 0
                (λ k h.
                let lower = falls m value prices opens rule range v lawful s i t os f low same k h in
                or_right (is_end (state_at m (get_or os k 0))) (ltb (v (get_or os k 0)) roof) (lt-ltb (v (get_or os k 0)) roof (omega arith))),
          ),
        )

    keeps_at : (s : ℕ) (x : State) → s < length m → state_at m s ≡ x → counts s ≡ true → KeptAt m value prices v counts cheapest s x
    unfolding counts
    keeps_at s (End c) there e mark = tt
    keeps_at s (Open as') there e mark =
        let not_end : is_end (state_at m s) ≡ false = ap is_end e in
        let low : v s < roof =
        ⊎_elim (λ t. absurd (both_ways (is_end (state_at m s)) not_end t)) (λ t. ltb-true (v s) roof t) (or_cases (is_end (state_at m s)) (ltb (v s) roof) mark) in
        let bound : v s ≤ least_cost m value prices v s = subst (LawfulAt m value prices v s) e (lawful s there) in
        let same : v s ≡ least_cost m value prices v s = omega (arith, met s as' there e) in
        let c = cheapest_is s low same in
        keeps_open s as' there e low c.0 c.1 c.2 (action_at m s c.0) refl

    marks : Marks m value prices v counts cheapest
    unfolding counts
    marks = record {
      ends = λ s there e. or_left (is_end (state_at m s)) (ltb (v s) roof) e;
      keeps = λ s there mark. keeps_at s (state_at m s) there refl mark;
    }

    pub fixed_best : (s : ℕ) → s < length m → Best m value prices s (v s)
    unfolding counts
    fixed_best s there =
        ⊎_elim
        (λ mark. marked_best m value prices opens rule range v lawful counts cheapest marks s there mark)
        (λ none. record {
          least = λ p c closed proper costs. lawful_below m value prices opens rule v lawful p s c there costs;
          reached = λ low. absurd (both_ways (counts s) none (or_right (is_end (state_at m s)) (ltb (v s) roof) (lt-ltb (v s) roof low)));
          most = lawful_small m value prices opens rule v lawful s there;
        })
        (cases_Bool (counts s))

  -- A state has one best cost.
  best_at_most : (s b c : ℕ) → Best m value prices s b → Best m value prices s c → b ≤ c
  best_at_most s b c first second =
      ⊎_elim
      (λ low. let r = second.reached low in first.least r.0 c r.1 r.2 r.3)
      (λ top. omega (arith, first.most))
      (cases_lt c roof)

  pub best_once : (s b c : ℕ) → Best m value prices s b → Best m value prices s c → b ≡ c
  best_once s b c first second = omega (arith, best_at_most s b c first second, best_at_most s c b second first)
