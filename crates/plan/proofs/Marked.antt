-- Marks make a plan that costs the bounds.
use Rattle.std.proofs.Common.{◌≡◌, ℕ, zero, suc, ◌<◌, ◌≤◌, Bool, true, List, map, length, get_or, sym, refl, ap, ◌∙◌, subst, arith}
use Rattle.std.proofs.ByRecursion.{All-get_or}
use Rattle.std.proofs.lemmas.List.{length-map}
use Rattle.cost.specs.Costs.{roof, capped}
use Rattle.cost.specs.Counting.{Lawful}
use Rattle.cost.specs.Prices.{InRange}
use Rattle.model.specs.Meaning.{Free, State, End, Open, state_at, action_at}
use Rattle.model.specs.Reading.{Opens}
use Rattle.plan.specs.Bests.{Best}
use Rattle.plan.specs.Bounds.{Bounds, LawfulAt, LawfulBounds, KeptAt, Marks}
use Rattle.plan.specs.Plans.{Plan, Closed, Proper, price_of, Costs, at_end, at_open}
use Rattle.plan.proofs.Entries.{get_or_mapped, has_mapped}
use Rattle.plan.proofs.LawfulBelow.{bound_list, lawful_small, lawful_below}
use Rattle.plan.proofs.Opened.{task_small, outcome_there}
use Rattle.plan.proofs.PlanShape.{costs_closed, costs_proper}

pub price_some : (prices : List ℕ) → InRange prices → (t : ℕ) → t ≤ 63 → 1 ≤ price_of prices t
price_some prices range t h = (All-get_or (λ p. (1 ≤ p) × (p ≤ 10000)) prices t 0 (omega (arith, range.0)) range.1).0

module _ (m : List State) (value : List ℕ → ℕ) (prices : List ℕ) (opens : Opens m) (rule : Lawful value) (range : InRange prices) where
  module _ (v : Bounds) (lawful : LawfulBounds m value prices v) where
    -- The bounds fall along kept actions, since prices are at least 1 and the rule covers.
    pub falls : (s a t : ℕ) (os : List ℕ) → action_at m s a ≡ Free t os → v s < roof → v s ≡ capped (price_of prices t) (value (map v os)) → (k : ℕ) → k < length os → v (get_or os k 0) < v s
    falls s a t os free low is k h =
        let some = price_some prices range t (task_small m opens s a t os free) in
        let list = bound_list m value prices opens rule v (lawful_small m value prices opens rule v lawful) s a t os free in
        let covered = rule.cover (map v os) (v (get_or os k 0)) list (has_mapped v os k h) in
        omega (arith, some, covered, is)

  module _ (v : Bounds) (lawful : LawfulBounds m value prices v) (planned : ℕ → Bool) (kept : Plan) (marks : Marks m value prices v planned kept) where
    kept_costs : (fuel s : ℕ) (x : State) → state_at m s ≡ x → v s < fuel → s < length m → planned s ≡ true → Costs m value prices kept s (v s)
    kept_costs zero s x e less there mark = absurd (omega arith)
    kept_costs (suc fuel) s (End c) e less there mark =
        let same : v s ≡ c = subst (LawfulAt m value prices v s) e (lawful s there) in
        at_end (e ∙ ap End (sym same))
    kept_costs (suc fuel) s (Open as') e less there mark =
        let k = subst (KeptAt m value prices v planned kept s) e (marks.keeps s there mark) in
        let t = k.1.0 in
        let os = k.1.1 in
        let takes = k.1.2 in
        let is = k.1.3 in
        at_open (map v os) takes (length-map os v)
        (λ i h.
        let o = get_or os i 0 in
        let inside = outcome_there m opens s takes.0 t os takes.2 i h in
        let lower = falls v lawful s takes.0 t os takes.2 k.0 is i h in
        let marked : planned o ≡ true = All-get_or (λ u. planned u ≡ true) os i 0 h k.1.4 in
        subst (Costs m value prices kept o) (sym (get_or_mapped v os i h)) (kept_costs fuel o (state_at m o) refl (omega arith) inside marked))
        is

    module _ (s : ℕ) (there : s < length m) (mark : planned s ≡ true) where
      pub marked_costs : Costs m value prices kept s (v s)
      marked_costs = kept_costs (suc (v s)) s (state_at m s) refl (omega arith) there mark

      pub marked_closed : Closed m kept s
      marked_closed = costs_closed m kept value prices s (v s) marked_costs

      pub marked_proper : Proper m kept s
      marked_proper = costs_proper m kept value prices s (v s) marked_costs

      pub marked_best : Best m value prices s (v s)
      marked_best = record {
        least = λ p c closed proper costs. lawful_below m value prices opens rule v lawful p s c there costs;
        reached = λ low. (kept, marked_closed, marked_proper, marked_costs);
        most = lawful_small m value prices opens rule v lawful s there;
      }
