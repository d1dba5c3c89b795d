-- The first free action with the least cost, one action more at a time.
use Rattle.std.proofs.Common.{◌≡◌, ℕ, zero, suc, ◌+◌, ◌<◌, ◌≤◌, true, false, List, Some, None, Option, sym, refl, ◌∙◌, subst, ⊎_elim, arith}
use Rattle.std.proofs.lemmas.Bool.{cases_lt, both_ways}
use Rattle.cost.specs.Costs.{roof}
use Rattle.model.specs.Meaning.{Action, Barred, Free, State, is_free, action_at}
use Rattle.plan.specs.Bounds.{Bounds, cost_by, action_cost, least_below, FirstLeast}
use Rattle.plan.proofs.Leasts.{least_more, least_most, least_at}

module _ (m : List State) (value : List ℕ → ℕ) (prices : List ℕ) (v : Bounds) (s : ℕ) where
  cost_most : (x : Action) → cost_by value prices v x ≤ roof
  cost_most Barred = omega arith
  cost_most (Free t os) = omega arith

  barred_cost : (x : Action) → is_free x ≡ false → cost_by value prices v x ≡ roof
  barred_cost Barred e = refl
  barred_cost (Free t os) e = let z : ◌≡◌ {A = ℕ} 0 1 = cc in absurd (omega arith)

  -- Without a free action the least is the roof.
  all_barred : (n : ℕ) → ((a : ℕ) → a < n → is_free (action_at m s a) ≡ false) → least_below (action_cost m value prices v s) n ≡ roof
  all_barred zero none = refl
  all_barred (suc n) none = omega (arith, all_barred n (λ a h. none a (omega arith)), barred_cost (action_at m s n) (none n (omega arith)))

  module _ (n : ℕ) where
    -- The least stays, and so does its first action.
    stays : (o : Option ℕ) → FirstLeast m value prices v s n o → least_below (action_cost m value prices v s) (n + 1) ≡ least_below (action_cost m value prices v s) n
        → (o ≡ None → is_free (action_at m s n) ≡ false) → FirstLeast m value prices v s (n + 1) o
    stays None h same barred = λ a l. ⊎_elim (λ less. h a less) (λ more. let e : n ≡ a = omega arith in subst (λ i. is_free (action_at m s i) ≡ false) e (barred refl)) (cases_lt a n)
    stays (Some a) h same barred = (
      omega (arith, h.0),
      h.1,
      h.2 ∙ sym same,
      λ b l free. omega (arith, h.3 b l free, same),
    )

    pub barred_more : (o : Option ℕ) → FirstLeast m value prices v s n o → is_free (action_at m s n) ≡ false
        → (least_below (action_cost m value prices v s) n ≡ least_below (action_cost m value prices v s) (n + 1)) × FirstLeast m value prices v s (n + 1) o
    barred_more o h barred =
        let same : least_below (action_cost m value prices v s) (n + 1) ≡ least_below (action_cost m value prices v s) n = omega (arith, least_more (action_cost m value prices v s) n, barred_cost (action_at m s n) barred, least_most (action_cost m value prices v s) n) in
        (sym same, stays o h same (λ e. barred))

    pub dearer_more : (o : Option ℕ) → FirstLeast m value prices v s n o → (o ≡ None → ⊥) → least_below (action_cost m value prices v s) n ≤ action_cost m value prices v s n
        → (least_below (action_cost m value prices v s) n ≡ least_below (action_cost m value prices v s) (n + 1)) × FirstLeast m value prices v s (n + 1) o
    dearer_more o h some more =
        let same : least_below (action_cost m value prices v s) (n + 1) ≡ least_below (action_cost m value prices v s) n = omega (arith, least_more (action_cost m value prices v s) n) in
        (sym same, stays o h same (λ e. absurd (some e)))

    pub first_more : FirstLeast m value prices v s n None → is_free (action_at m s n) ≡ true
        → (action_cost m value prices v s n ≡ least_below (action_cost m value prices v s) (n + 1)) × FirstLeast m value prices v s (n + 1) (Some n)
    first_more none free =
        let same : action_cost m value prices v s n ≡ least_below (action_cost m value prices v s) (n + 1) = omega (arith, least_more (action_cost m value prices v s) n, all_barred n none, cost_most (action_at m s n)) in
        (same, (omega arith, free, same, λ b l other. absurd (both_ways (is_free (action_at m s b)) (none b l) other)))

    pub cheaper_more : is_free (action_at m s n) ≡ true → action_cost m value prices v s n < least_below (action_cost m value prices v s) n
        → (action_cost m value prices v s n ≡ least_below (action_cost m value prices v s) (n + 1)) × FirstLeast m value prices v s (n + 1) (Some n)
    cheaper_more free less =
        let same : action_cost m value prices v s n ≡ least_below (action_cost m value prices v s) (n + 1) = omega (arith, least_more (action_cost m value prices v s) n) in
        (same, (omega arith, free, same, λ b l other. omega (arith, same, less, least_at (action_cost m value prices v s) n b l)))
