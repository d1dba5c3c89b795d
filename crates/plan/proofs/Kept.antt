-- What keeps bounds lawful: a raise, a price that rises, and starting from no bounds.
use Rattle.std.proofs.Common.{◌≡◌, ℕ, ◌<◌, ◌≤◌, cond, List, map, length, get_or, sym, refl, ap, ◌∙◌, subst, ⊎_elim, arith}
use Rattle.std.proofs.lemmas.List.{length-map}
use Rattle.std.proofs.lemmas.Bool.{cases_eq, eq-eqb, ne_eqb}
use Rattle.cost.specs.Costs.{roof}
use Rattle.cost.specs.Counting.{Lawful}
use Rattle.model.specs.Meaning.{Action, Barred, Free, State, End, Open, actions, state_at, action_at}
use Rattle.model.specs.Reading.{Opens}
use Rattle.plan.specs.Bounds.{Bounds, cost_by, action_cost, least_cost, LawfulAt, LawfulBounds, set_bound, zero_or_end, no_bounds}
use Rattle.plan.specs.Plans.{price_of}
use Rattle.plan.proofs.Entries.{each_from_places, get_or_mapped}
use Rattle.plan.proofs.LawfulBelow.{bound_list, lawful_small}
use Rattle.plan.proofs.Leasts.{least_grows, least_most}
use Rattle.plan.proofs.Opened.{outcome_there, end_open}

module _ (m : List State) (value : List ℕ → ℕ) (opens : Opens m) (rule : Lawful value) where
  -- With higher prices and higher bounds no action costs less.
  module _ (ps qs : List ℕ) (dearer : (t : ℕ) → price_of ps t ≤ price_of qs t) (v w : Bounds)
      (higher : (s : ℕ) → s < length m → v s ≤ w s) (small : (s : ℕ) → s < length m → w s ≤ roof) where
    below_roof : (s : ℕ) → s < length m → v s ≤ roof
    below_roof s there = omega (arith, higher s there, small s there)

    action_grows : (s a : ℕ) (x : Action) → action_at m s a ≡ x → cost_by value ps v x ≤ cost_by value qs w x
    action_grows s a Barred e = omega arith
    action_grows s a (Free t os) e =
        let lower = bound_list m value ps opens rule v below_roof s a t os e in
        let upper = bound_list m value qs opens rule w small s a t os e in
        let more = rule.growth (map v os) (map w os) lower upper
        (each_from_places (λ x y. x ≤ y) (map v os) (map w os) (length-map os v ∙ sym (length-map os w))
        (λ k h. let l : k < length os = omega (arith, length-map os v) in omega (arith, get_or_mapped v os k l, get_or_mapped w os k l, higher (get_or os k 0) (outcome_there m opens s a t os e k l)))) in
        omega (arith, more, dearer t)

    pub least_cost_grows : (s : ℕ) → least_cost m value ps v s ≤ least_cost m value qs w s
    least_cost_grows s =
        least_grows (action_cost m value ps v s) (action_cost m value qs w s) (length (actions (state_at m s))) (λ a h. action_grows s a (action_at m s a) refl)

  -- A price that rises keeps bounds lawful.
  pub rise_lawful : (ps qs : List ℕ) → ((t : ℕ) → price_of ps t ≤ price_of qs t) → (v : Bounds) → LawfulBounds m value ps v → LawfulBounds m value qs v
  rise_lawful ps qs dearer v lawful s there = at (state_at m s) (lawful s there)
    where
      at : (x : State) → LawfulAt m value ps v s x → LawfulAt m value qs v s x
      at (End c) h = h
      at (Open as') h = omega (arith, h, least_cost_grows ps qs dearer v v (λ u l. omega arith) (lawful_small m value ps opens rule v lawful) s)

  module _ (ps : List ℕ) (v : Bounds) (lawful : LawfulBounds m value ps v) (s : ℕ) (as' : List Action) (there : s < length m) (opened : state_at m s ≡ Open as') where
    raised : Bounds
    raised = set_bound v s (least_cost m value ps v s)

    raised_here : (u : ℕ) → u ≡ s → raised u ≡ least_cost m value ps v s
    unfolding raised
    raised_here u e = ap (λ t. cond t (least_cost m value ps v s) (v u)) (eq-eqb u s e)

    raised_there : (u : ℕ) → (u ≡ s → ⊥) → raised u ≡ v u
    unfolding raised
    raised_there u e = ap (λ t. cond t (least_cost m value ps v s) (v u)) (ne_eqb u s e)

    bound_open : v s ≤ least_cost m value ps v s
    bound_open = subst (LawfulAt m value ps v s) opened (lawful s there)

    raised_higher : (u : ℕ) → u < length m → v u ≤ raised u
    raised_higher u inside =
        ⊎_elim
        (λ same. let e : v u ≡ v s = ap v same in omega (arith, raised_here u same, bound_open))
        (λ other. omega (arith, raised_there u other))
        (cases_eq u s)

    raised_small : (u : ℕ) → u < length m → raised u ≤ roof
    raised_small u inside =
        ⊎_elim
        (λ same. omega (arith, raised_here u same, least_most (action_cost m value ps v s) (length (actions (state_at m s)))))
        (λ other. omega (arith, raised_there u other, lawful_small m value ps opens rule v lawful u inside))
        (cases_eq u s)

    grown : (u : ℕ) → least_cost m value ps v u ≤ least_cost m value ps raised u
    grown u = least_cost_grows ps ps (λ t. omega arith) v raised raised_higher raised_small u

    raised_at : (u : ℕ) (x : State) → u < length m → state_at m u ≡ x → LawfulAt m value ps v u x → LawfulAt m value ps raised u x
    raised_at u (End c) inside e h = raised_there u (λ same. end_open c as' (sym e ∙ ap (state_at m) same ∙ opened)) ∙ h
    raised_at u (Open bs) inside e h =
        ⊎_elim
        (λ same. let at : least_cost m value ps v u ≡ least_cost m value ps v s = ap (least_cost m value ps v) same in omega (arith, raised_here u same, grown u))
        (λ other. omega (arith, raised_there u other, h, grown u))
        (cases_eq u s)

    -- A raise keeps bounds lawful.
    pub raise_lawful : LawfulBounds m value ps (set_bound v s (least_cost m value ps v s))
    unfolding raised
    raise_lawful u inside = raised_at u (state_at m u) inside refl (lawful u inside)

  -- Bounds of 0 at open states and the end cost at ends are lawful, at any prices.
  pub none_lawful : (ps : List ℕ) → LawfulBounds m value ps (no_bounds m)
  none_lawful ps s there = none_at (state_at m s) refl
    where
      none_at : (x : State) → state_at m s ≡ x → LawfulAt m value ps (no_bounds m) s x
      none_at (End c) e = ap zero_or_end e
      none_at (Open as') e = let none : no_bounds m s ≡ 0 = ap zero_or_end e in omega arith
