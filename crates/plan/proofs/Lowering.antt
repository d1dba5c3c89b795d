-- Rounds that lower bounds to the least action costs come to an end, with the best costs.
use Rattle.std.proofs.Common.{◌≡◌, ℕ, zero, suc, ◌<◌, ◌≤◌, ◌⊎◌, List, length, sym, refl, ap, ◌∙◌, subst, inl, inr, ⊎_elim, arith}
use Rattle.std.proofs.lemmas.Bool.{cases_lt, cases_eq}
use Rattle.cost.specs.Costs.{roof}
use Rattle.cost.specs.Counting.{Lawful}
use Rattle.cost.specs.Prices.{InRange}
use Rattle.model.specs.Meaning.{Action, State, End, Open, actions, state_at}
use Rattle.model.specs.Reading.{Opens}
use Rattle.plan.specs.Bests.{Best}
use Rattle.plan.specs.Bounds.{Bounds, action_cost, least_below, least_cost, LawfulAt}
use Rattle.plan.specs.Sweeps.{total, AboveAt, Above, Settled, highest}
use Rattle.plan.proofs.Fixed.{fixed_best}
use Rattle.plan.proofs.Kept.{least_cost_grows}
use Rattle.plan.proofs.Leasts.{least_most}
use Rattle.plan.proofs.Opened.{end_small}

-- Lower bounds have a smaller sum, or are the same.
pub total_falls : (v w : Bounds) (n : ℕ) → ((s : ℕ) → s < n → w s ≤ v s) → (total w n < total v n) ⊎ ((s : ℕ) → s < n → w s ≡ v s)
total_falls v w zero h = inr (λ s l. absurd (omega arith))
total_falls v w (suc n) h =
    let below = h n (omega arith) in
    ⊎_elim
    (λ less. inl (omega (arith, less, below)))
    (λ same.
    let sums = same_total v w n same in
    ⊎_elim
    (λ lower. inl (omega arith))
    (λ equal. inr (λ s l. ⊎_elim (λ less. same s less) (λ more. let e : s ≡ n = omega arith in subst (λ i. w i ≡ v i) (sym e) (omega arith)) (cases_lt s n)))
    (cases_lt (w n) (v n)))
    (total_falls v w n (λ s l. h s (omega arith)))
  where
    same_total : (v w : Bounds) (n : ℕ) → ((s : ℕ) → s < n → w s ≡ v s) → total w n ≡ total v n
    same_total v w zero h = refl
    same_total v w (suc n) h = omega (arith, same_total v w n (λ s l. h s (omega arith)), h n (omega arith))

-- One round: every open state gets its least action cost.
abbrev lowered : List State → (List ℕ → ℕ) → List ℕ → Bounds → ℕ → State → ℕ
lowered m value prices v s (End c) = c
lowered m value prices v s (Open as') = least_cost m value prices v s

abbrev next : List State → (List ℕ → ℕ) → List ℕ → Bounds → Bounds
next m value prices v = λ s. lowered m value prices v s (state_at m s)

-- The roof at open states and the end cost at ends.
abbrev pub top : List State → Bounds
top m = λ s. highest (state_at m s)

module _ (m : List State) (value : List ℕ → ℕ) (prices : List ℕ) (opens : Opens m) (rule : Lawful value) (range : InRange prices) where
  pub above_small : (v : Bounds) → Above m value prices v → (s : ℕ) → s < length m → v s ≤ roof
  above_small v above s there = at (state_at m s) refl (above s there)
    where
      at : (x : State) → state_at m s ≡ x → AboveAt m value prices v s x → v s ≤ roof
      at (End c) e h = omega (arith, h, end_small m opens s c there e)
      at (Open as') e h = h.1

  lowered_below : (v : Bounds) (s : ℕ) (x : State) → AboveAt m value prices v s x → lowered m value prices v s x ≤ v s
  lowered_below v s (End c) h = omega (arith, h)
  lowered_below v s (Open as') h = h.0

  next_below : (v : Bounds) → Above m value prices v → (s : ℕ) → s < length m → next m value prices v s ≤ v s
  next_below v above s there = lowered_below v s (state_at m s) (above s there)

  next_least : (v : Bounds) → Above m value prices v → (s : ℕ) → least_cost m value prices (next m value prices v) s ≤ least_cost m value prices v s
  next_least v above s = least_cost_grows m value opens rule prices prices (λ t. omega arith) (next m value prices v) v (next_below v above) (above_small v above) s

  next_above : (v : Bounds) → Above m value prices v → Above m value prices (next m value prices v)
  next_above v above s there = at (state_at m s) refl
    where
      at : (x : State) → state_at m s ≡ x → AboveAt m value prices (next m value prices v) s x
      at (End c) e = ap (lowered m value prices v s) e
      at (Open as') e =
          let is : next m value prices v s ≡ least_cost m value prices v s = ap (lowered m value prices v s) e in
          (omega (arith, next_least v above s, is), omega (arith, is, least_most (action_cost m value prices v s) (length (actions (state_at m s)))))

  -- A round that changes nothing has reached the best costs.
  pub still_best : (v : Bounds) → Above m value prices v → ((s : ℕ) → s < length m → next m value prices v s ≡ v s) → (s : ℕ) → s < length m → Best m value prices s (v s)
  still_best v above still =
      fixed_best m value prices opens rule range v (λ s there. lawful_at s there (state_at m s) refl) (λ s as' there e. open_at s as' there e)
    where
      lawful_at : (s : ℕ) → s < length m → (x : State) → state_at m s ≡ x → LawfulAt m value prices v s x
      lawful_at s there (End c) e = subst (AboveAt m value prices v s) e (above s there)
      lawful_at s there (Open as') e = let is : next m value prices v s ≡ least_cost m value prices v s = ap (lowered m value prices v s) e in omega (arith, is, still s there)

      open_at : (s : ℕ) (as' : List Action) → s < length m → state_at m s ≡ Open as' → least_cost m value prices v s ≤ v s
      open_at s as' there e = (subst (AboveAt m value prices v s) e (above s there)).0

  -- So have bounds that are not above the least action costs either.
  pub settled_best : (v : Bounds) → Above m value prices v → Settled m value prices v (length m) → (s : ℕ) → s < length m → Best m value prices s (v s)
  settled_best v above settled = still_best v above (λ s there. at s there (state_at m s) refl)
    where
      at : (s : ℕ) → s < length m → (x : State) → state_at m s ≡ x → lowered m value prices v s (state_at m s) ≡ v s
      at s there (End c) e = ap (lowered m value prices v s) e ∙ sym (subst (AboveAt m value prices v s) e (above s there))
      at s there (Open as') e = let a = subst (AboveAt m value prices v s) e (above s there) in ap (lowered m value prices v s) e ∙ omega (arith, a.0, settled s there)

  -- One open state is lowered to its least action cost.
  module _ (v w : Bounds) (above : Above m value prices v) (s : ℕ) (there : s < length m)
      (low : least_cost m value prices v s < v s) (here : w s ≡ least_cost m value prices v s) (other : (u : ℕ) → (u ≡ s → ⊥) → w u ≡ v u) where
    lower : (u : ℕ) → u < length m → w u ≤ v u
    lower u inside =
        ⊎_elim
        (λ same. let e : w u ≡ w s = ap w same in let d : v u ≡ v s = ap v same in omega (arith, here, low))
        (λ ne. omega (arith, other u ne))
        (cases_eq u s)

    less : (u : ℕ) → least_cost m value prices w u ≤ least_cost m value prices v u
    less u = least_cost_grows m value opens rule prices prices (λ t. omega arith) w v lower (above_small v above) u

    -- An end is not lowered: without actions its least action cost is the roof.
    not_end : {A : Type 0} (c : ℕ) → state_at m s ≡ End c → A
    not_end c e =
        let none : least_cost m value prices v s ≡ roof = ap (λ x. least_below (action_cost m value prices v s) (length (actions x))) e in
        absurd (omega (arith, above_small v above s there))

    pub lowered_above : Above m value prices w
    lowered_above u inside = at (state_at m u) refl (above u inside)
      where
        at : (x : State) → state_at m u ≡ x → AboveAt m value prices v u x → AboveAt m value prices w u x
        at (End c) e h = other u (λ same. not_end c (ap (state_at m) (sym same) ∙ e)) ∙ h
        at (Open as') e h =
            ⊎_elim
            (λ same.
            let d : w u ≡ w s = ap w same in
            let f : least_cost m value prices v u ≡ least_cost m value prices v s = ap (least_cost m value prices v) same in
            (omega (arith, less u, here), omega (arith, here, least_most (action_cost m value prices v s) (length (actions (state_at m s))))))
            (λ ne. (omega (arith, less u, other u ne, h.0), omega (arith, other u ne, h.1)))
            (cases_eq u s)

    pub lowered_total : total w (length m) < total v (length m)
    lowered_total = ⊎_elim (λ l. l) (λ same. absurd (omega (arith, same s there, here, low))) (total_falls v w (length m) lower)

  reach : (fuel : ℕ) (v : Bounds) → total v (length m) < fuel → Above m value prices v → (s : ℕ) → s < length m → (b : ℕ) × Best m value prices s b
  reach zero v less above s there = absurd (omega arith)
  reach (suc fuel) v less above s there =
      ⊎_elim
      (λ lower. reach fuel (next m value prices v) (omega arith) (next_above v above) s there)
      (λ same. (v s, still_best v above same s there))
      (total_falls v (next m value prices v) (length m) (next_below v above))

  pub top_above : Above m value prices (top m)
  top_above s there = at (state_at m s) refl
    where
      at : (x : State) → state_at m s ≡ x → AboveAt m value prices (top m) s x
      at (End c) e = ap highest e
      at (Open as') e = let is : (top m) s ≡ roof = ap highest e in (omega (arith, is, least_most (action_cost m value prices (top m) s) (length (actions (state_at m s)))), omega (arith, is))

  -- Every state has a best cost.
  pub best_exists : (s : ℕ) → s < length m → (b : ℕ) × Best m value prices s b
  best_exists = reach (suc (total (top m) (length m))) (top m) (omega arith) top_above
