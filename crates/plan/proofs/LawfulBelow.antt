-- Lawful bounds are at most what any plan costs.
use Rattle.std.proofs.Common.{◌≡◌, ℕ, ◌<◌, ◌≤◌, List, map, length, get_or, sym, refl, ap, ◌∙◌, subst, ⊎_elim, arith}
use Rattle.std.proofs.lemmas.List.{length-map}
use Rattle.std.proofs.lemmas.Bool.{cases_lt}
use Rattle.cost.specs.Costs.{roof, capped}
use Rattle.cost.specs.Counting.{CostList, Lawful}
use Rattle.model.specs.Meaning.{Action, Free, State, End, Open, actions, state_at, action_at}
use Rattle.model.specs.Reading.{Opens}
use Rattle.plan.specs.Bests.{Best}
use Rattle.plan.specs.Bounds.{Bounds, action_cost, least_cost, cost_by, LawfulAt, LawfulBounds}
use Rattle.plan.specs.Plans.{Plan, price_of, Costs, at_end, at_open}
use Rattle.plan.proofs.Entries.{each_from_places, cost_list, get_or_mapped}
use Rattle.plan.proofs.Leasts.{least_at, least_most}
use Rattle.plan.proofs.Opened.{free_there, free_open, end_small, outcomes_some, outcomes_few, outcome_there}

module _ (m : List State) (value : List ℕ → ℕ) (prices : List ℕ) (opens : Opens m) (rule : Lawful value) where
  -- What a plan costs is a cost.
  pub costs_most : (p : Plan) (s c : ℕ) → s < length m → Costs m value prices p s c → c ≤ roof
  costs_most p s c there (at_end e) = omega (arith, end_small m opens s c there e)
  costs_most p s c there (at_open cs takes long kids e) = omega (arith, e)

  module _ (v : Bounds) (small : (s : ℕ) → s < length m → v s ≤ roof) where
    -- The bounds of an action's outcomes are a list of costs.
    pub bound_list : (s a t : ℕ) (os : List ℕ) → action_at m s a ≡ Free t os → CostList (map v os)
    bound_list s a t os free =
        cost_list os (map v os) (length-map os v) (outcomes_some m opens s a t os free) (outcomes_few m opens s a t os free)
        (λ k h. subst (λ x. x ≤ roof) (sym (get_or_mapped v os k h)) (small (get_or os k 0) (outcome_there m opens s a t os free k h)))

  -- The least action cost is at most the cost of a free action.
  pub least_free : (v : Bounds) (s a t : ℕ) (os : List ℕ) → action_at m s a ≡ Free t os → least_cost m value prices v s ≤ capped (price_of prices t) (value (map v os))
  least_free v s a t os free =
      let at = least_at (action_cost m value prices v s) (length (actions (state_at m s))) a (free_there m s a t os free).1 in
      let same : action_cost m value prices v s a ≡ capped (price_of prices t) (value (map v os)) = ap (cost_by value prices v) free in
      omega (arith, at, same)

  module _ (v : Bounds) (lawful : LawfulBounds m value prices v) where
    lawful_end : (s c : ℕ) → s < length m → state_at m s ≡ End c → v s ≡ c
    lawful_end s c there e = subst (LawfulAt m value prices v s) e (lawful s there)

    lawful_open : (s : ℕ) (as' : List Action) → s < length m → state_at m s ≡ Open as' → v s ≤ least_cost m value prices v s
    lawful_open s as' there e = subst (LawfulAt m value prices v s) e (lawful s there)

    bound_small : (s : ℕ) (x : State) → s < length m → state_at m s ≡ x → v s ≤ roof
    bound_small s (End c) there e = omega (arith, lawful_end s c there e, end_small m opens s c there e)
    bound_small s (Open as') there e = omega (arith, lawful_open s as' there e, least_most (action_cost m value prices v s) (length (actions (state_at m s))))

    pub lawful_small : (s : ℕ) → s < length m → v s ≤ roof
    lawful_small s there = bound_small s (state_at m s) there refl

    pub lawful_below : (p : Plan) (s c : ℕ) → s < length m → Costs m value prices p s c → v s ≤ c
    lawful_below p s c there (at_end e) = omega (arith, lawful_end s c there e)
    lawful_below p s c there (at_open {t = t} {os = os} cs (a, pa, free) long kids e) =
        let o = free_open m s a t os free in
        let inside = outcome_there m opens s a t os free in
        let bounds = bound_list v lawful_small s a t os free in
        let costs = cost_list os cs long (outcomes_some m opens s a t os free) (outcomes_few m opens s a t os free) (λ k h. costs_most p (get_or os k 0) (get_or cs k 0) (inside k h) (kids k h)) in
        let below = rule.growth (map v os) cs bounds costs
        (each_from_places (λ x y. x ≤ y) (map v os) cs (length-map os v ∙ sym long)
        (λ k h. let l : k < length os = omega (arith, length-map os v) in subst (λ x. x ≤ get_or cs k 0) (sym (get_or_mapped v os k l)) (lawful_below p (get_or os k 0) (get_or cs k 0) (inside k l) (kids k l)))) in
        omega (arith, lawful_open s o.0 there o.1, least_free v s a t os free, below, e)

    -- So they are at most the best cost.
    pub lawful_best : (s b : ℕ) → s < length m → Best m value prices s b → v s ≤ b
    lawful_best s b there best =
        ⊎_elim
        (λ low. let r = best.reached low in lawful_below r.0 s b there r.3)
        (λ top. omega (arith, lawful_small s there))
        (cases_lt b roof)
