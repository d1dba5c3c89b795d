-- A closed and proper plan has a cost: no path along it is longer than there are states.
use Rattle.std.proofs.Common.{◌≡◌, ℕ, zero, suc, ◌+◌, ◌<◌, ◌≤◌, true, List, [], ◌∷◌, length, get_or, sym, refl, ap, subst, ⊎_elim, arith}
use Rattle.std.specs.List.{AllByRecursion}
use Rattle.std.proofs.ByRecursion.{All-weaker, has_get_or}
use Rattle.cost.specs.Costs.{capped}
use Rattle.model.specs.Meaning.{State, End, Open, is_end, state_at}
use Rattle.model.specs.Reading.{Opens}
use Rattle.plan.specs.Plans.{Plan, Leads, Path, here, step, Closed, Proper, price_of, Costs, at_end, at_open}
use Rattle.plan.proofs.Distinct.{Fresh, Distinct, distinct_few}
use Rattle.plan.proofs.Opened.{has_there}
use Rattle.plan.proofs.PlanShape.{path_more}

end_of : (x : State) → is_end x ≡ true → (c : ℕ) × (x ≡ End c)
end_of (End c) e = (c, refl)
end_of (Open as') e = let z : ◌≡◌ {A = ℕ} 0 1 = cc in absurd (omega arith)

module _ (m : List State) (value : List ℕ → ℕ) (prices : List ℕ) (p : Plan) (opens : Opens m) where
  -- A cost for each outcome of a list.
  record Priced (os : List ℕ) : Type 0 where
    costs : List ℕ
    long : length costs ≡ length os
    each : (k : ℕ) → k < length os → Costs m value prices p (get_or os k 0) (get_or costs k 0)

  priced : (os : List ℕ) → ((k : ℕ) → k < length os → (c : ℕ) × Costs m value prices p (get_or os k 0) c) → Priced os
  priced [] h = record { costs = []; long = refl; each = λ k l. absurd (omega arith) }
  priced (o ∷ os) h =
      let first = h zero (omega arith) in
      let rest = priced os (λ k l. h (suc k) (omega arith)) in
      record { costs = first.0 ∷ rest.costs; long = ap suc rest.long; each = at_each first rest }
    where
      at_each : (first : (c : ℕ) × Costs m value prices p o c) (rest : Priced os) (k : ℕ) → k < length (o ∷ os) → Costs m value prices p (get_or (o ∷ os) k 0) (get_or (first.0 ∷ rest.costs) k 0)
      at_each first rest zero l = first.1
      at_each first rest (suc k) l = rest.each k (omega arith)

  module _ (start : ℕ) (closed : Closed m p start) (proper : Proper m p start) where
    -- The states from which s was reached are different ones, so they become no more than there are.
    has_cost : (fuel s : ℕ) (before : List ℕ) → length m ≤ fuel + length before → s < length m → AllByRecursion (λ u. u < length m) before
        → AllByRecursion (λ u. Path m p u s) before → Distinct (s ∷ before) → Path m p start s → (c : ℕ) × Costs m value prices p s c
    has_cost zero s before room there inside back apart came =
        let few = distinct_few (length m) (s ∷ before) (there, inside) apart in
        absurd (omega arith)
    has_cost (suc fuel) s before room there inside back apart came =
        ⊎_elim
        (λ e. let x = end_of (state_at m s) e in (x.0, at_end x.1))
        (λ t.
        let os = t.1 in
        let takes = t.2 in
        let all = priced os
        (λ k h.
        let u = get_or os k 0 in
        let leads : Leads m p s u = (t.0, os, takes, has_get_or os k 0 h) in
        let next = All-weaker (λ w. Path m p w s) (λ w. Path m p w u) (λ w r. path_more m p w s u r leads) before back in
        let new : Fresh u (s ∷ before) = (
          (λ e. proper s u came leads (subst (λ w. Path m p u w) e here)),
          All-weaker (λ w. Path m p w s) (λ w. u ≡ w → ⊥) (λ w r e. proper s u came leads (subst (λ i. Path m p i s) (sym e) r)) before back,
        ) in
        has_cost fuel u (s ∷ before) (omega arith) (has_there m opens s takes.0 t.0 os takes.2 u (has_get_or os k 0 h)) (there, inside) (step leads here, next) (new, apart) (path_more m p start s u came leads)) in
        (capped (price_of prices t.0) (value all.costs), at_open all.costs takes all.long all.each refl))
        (closed s came)

    pub cost_exists : start < length m → (c : ℕ) × Costs m value prices p start c
    cost_exists there = has_cost (length m) start [] (omega arith) there tt tt (tt, tt) here
