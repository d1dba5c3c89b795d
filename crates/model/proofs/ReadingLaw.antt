-- The first fault in the order of reading is a fault, and none is before it.
use Rattle.std.proofs.Common.{◌≡◌, ℕ, ◌-◌, ◌<◌, ◌&&◌, ◌||◌, ltb, leb, ◌⊎◌, List, [], ◌∷◌, length, refl, ap, subst, inl, inr, ⊎_elim, arith}
use Rattle.std.proofs.lemmas.Bool.{ltb-true, lt-ltb, leb-true, le-leb, or_cases, or_left, or_right, and_parts, and_from}
use Rattle.model.specs.Firsts.{when, first_below, outside, NotAfter, IsFirst}
use Rattle.model.specs.Meaning.{State, end_cost, actions, is_free, task, outcomes, state_at, action_at, outcome_at}
use Rattle.model.specs.Reading.{outcome_fault, action_head, action_fault, state_head, state_fault, first_fault, FirstFault, HasState, HasAction, Holds, place}
use Rattle.model.specs.declared.faults.ModelFault.{ModelFault}
use Rattle.model.specs.declared.faults.ModelFault.TheVariants.{States, Actions, EndCost, Task, Outcomes, Outcome}
use Rattle.model.proofs.Firsts.{first_when, first_of_both, first_at_places, outside_true, outside_from, not_after_at}

never : {A : Type 0} → ◌≡◌ {A = ℕ} 0 1 → A
never e = absurd (omega arith)

-- The faults of one state, of one action, and one fault alone.
AtState : List State → ℕ → ModelFault → Type 0
AtState m s f = Holds m f × ((q : List ℕ) × (place f ≡ s ∷ q))

AtAction : List State → ℕ → ℕ → ModelFault → Type 0
AtAction m s a f = Holds m f × ((q : List ℕ) × (place f ≡ s ∷ a ∷ q))

Only : List State → ModelFault → ModelFault → Type 0
Only m x f = Holds m f × (f ≡ x)

-- Two faults of different places have the order of the places.
only_order : (m : List State) (x y f g : ModelFault) → Only m x f → Only m y g → NotAfter (place x) (place y) → NotAfter (place f) (place g)
unfolding Only
only_order m x y f g hf hg n = not_after_at (ap place hf.1) (ap place hg.1) n

module _ (m : List State) where
  module _ (s a : ℕ) (there : HasAction m s a) where
    outcome_first : (k : ℕ) → k < length (outcomes (action_at m s a)) → IsFirst (Only m (Outcome s a k)) place (outcome_fault m s a k)
    unfolding Only
    outcome_first k h =
        let o = outcome_at m s a k in
        let b = outcome_at m s a (k - 1) in
        first_when place (Only m (Outcome s a k)) (leb (length m) o || (ltb 0 k && leb o b)) (Outcome s a k)
        (λ t. (((there, h), ⊎_elim (λ l. inl (leb-true (length m) o l)) (λ r. let p = and_parts (ltb 0 k) (leb o b) r in inr (ltb-true 0 k p.0, leb-true o b p.1)) (or_cases (leb (length m) o) (ltb 0 k && leb o b) t)), refl))
        (λ f h'. (h'.1, ⊎_elim (λ l. or_left (leb (length m) o) (ltb 0 k && leb o b) (le-leb (length m) o l)) (λ r. or_right (leb (length m) o) (ltb 0 k && leb o b) (and_from (ltb 0 k) (leb o b) (lt-ltb 0 k r.0) (le-leb o b r.1))) (subst (Holds m) h'.1 h'.0).1))

    outcomes_first : IsFirst (λ f. (k : ℕ) × (k < length (outcomes (action_at m s a))) × Only m (Outcome s a k) f) place (first_below (outcome_fault m s a) (length (outcomes (action_at m s a))))
    outcomes_first =
        first_at_places place (λ k. Only m (Outcome s a k)) (outcome_fault m s a)
        (λ i j less f g hf hg. only_order m (Outcome s a i) (Outcome s a j) f g hf hg (inr (refl, inr (refl, inr (refl, inl less)))))
        (length (outcomes (action_at m s a))) outcome_first

    Head : ModelFault → Type 0
    Head f = Only m (Task s a) f ⊎ Only m (Outcomes s a) f

    head_first : IsFirst Head place (action_head m s a)
    unfolding Only Head
    head_first =
        let A = action_at m s a in
        first_of_both place Head (Only m (Task s a)) (Only m (Outcomes s a)) (when (ltb 63 (task A)) (Task s a)) (when (is_free A && outside 1 16 (length (outcomes A))) (Outcomes s a))
        (first_when place (Only m (Task s a)) (ltb 63 (task A)) (Task s a)
        (λ t. ((there, ltb-true 63 (task A) t), refl))
        (λ f h. (h.1, lt-ltb 63 (task A) (subst (Holds m) h.1 h.0).1)))
        (first_when place (Only m (Outcomes s a)) (is_free A && outside 1 16 (length (outcomes A))) (Outcomes s a)
        (λ t. let p = and_parts (is_free A) (outside 1 16 (length (outcomes A))) t in ((there, p.0, outside_true 1 16 (length (outcomes A)) p.1), refl))
        (λ f h. let o = subst (Holds m) h.1 h.0 in (h.1, and_from (is_free A) (outside 1 16 (length (outcomes A))) o.1 (outside_from 1 16 (length (outcomes A)) o.2))))
        (λ f h. h) (λ f h. inl h) (λ f h. inr h)
        (λ f g hf hg. only_order m (Task s a) (Outcomes s a) f g hf hg (inr (refl, inr (refl, inl (omega arith)))))

    split_action : (f : ModelFault) → AtAction m s a f → Head f ⊎ ((k : ℕ) × (k < length (outcomes (action_at m s a))) × Only m (Outcome s a k) f)
    unfolding AtAction Only Head
    split_action (States n) (h, (q, e)) = never (cc)
    split_action (Actions t) (h, (q, e)) = never (cc)
    split_action (EndCost t) (h, (q, e)) = never (cc)
    split_action (Task t b) (h, (q, e)) = inl (inl (h, cc))
    split_action (Outcomes t b) (h, (q, e)) = inl (inr (h, cc))
    split_action (Outcome t b k) (h, (q, e)) =
        let same : Outcome t b k ≡ Outcome s a k = cc in
        inr (k, (subst (Holds m) same h).0.1, (h, same))

    action_first : IsFirst (AtAction m s a) place (action_fault m s a)
    unfolding AtAction Only Head
    action_first =
        first_of_both place (AtAction m s a) Head (λ f. (k : ℕ) × (k < length (outcomes (action_at m s a))) × Only m (Outcome s a k) f)
        (action_head m s a) (first_below (outcome_fault m s a) (length (outcomes (action_at m s a))))
        head_first outcomes_first split_action
        (λ f. ⊎_elim (λ h. (h.0, (7 ∷ [], ap place h.1))) (λ h. (h.0, (8 ∷ [], ap place h.1))))
        (λ f h. (h.2.0, (9 ∷ h.0 ∷ [], ap place h.2.1)))
        (λ f g hf hg.
        ⊎_elim
        (λ l. only_order m (Task s a) (Outcome s a hg.0) f g l hg.2 (inr (refl, inr (refl, inl (omega arith)))))
        (λ l. only_order m (Outcomes s a) (Outcome s a hg.0) f g l hg.2 (inr (refl, inr (refl, inl (omega arith)))))
        hf)

  module _ (s : ℕ) (there : HasState m s) where
    actions_first : IsFirst (λ f. (a : ℕ) × (a < length (actions (state_at m s))) × AtAction m s a f) place (first_below (action_fault m s) (length (actions (state_at m s))))
    unfolding AtAction
    actions_first =
        first_at_places place (AtAction m s) (action_fault m s)
        (λ i j less f g hf hg. not_after_at hf.1.1 hg.1.1 (inr (refl, inl less)))
        (length (actions (state_at m s))) (λ a h. action_first s a (there, h))

    StateHead : ModelFault → Type 0
    StateHead f = Only m (Actions s) f ⊎ Only m (EndCost s) f

    state_head_first : IsFirst StateHead place (state_head m s)
    unfolding Only StateHead
    state_head_first =
        let n = length (actions (state_at m s)) in
        let c = end_cost (state_at m s) in
        first_of_both place StateHead (Only m (Actions s)) (Only m (EndCost s)) (when (ltb 16 n) (Actions s)) (when (ltb 1000000 c) (EndCost s))
        (first_when place (Only m (Actions s)) (ltb 16 n) (Actions s) (λ t. ((there, ltb-true 16 n t), refl)) (λ f h. (h.1, lt-ltb 16 n (subst (Holds m) h.1 h.0).1)))
        (first_when place (Only m (EndCost s)) (ltb 1000000 c) (EndCost s) (λ t. ((there, ltb-true 1000000 c t), refl)) (λ f h. (h.1, lt-ltb 1000000 c (subst (Holds m) h.1 h.0).1)))
        (λ f h. h) (λ f h. inl h) (λ f h. inr h)
        (λ f g hf hg. only_order m (Actions s) (EndCost s) f g hf hg (inr (refl, tt)))

    split_state : (f : ModelFault) → AtState m s f → StateHead f ⊎ ((a : ℕ) × (a < length (actions (state_at m s))) × AtAction m s a f)
    unfolding AtState AtAction Only StateHead
    split_state (States n) (h, (q, e)) = never (cc)
    split_state (Actions t) (h, (q, e)) = inl (inl (h, cc))
    split_state (EndCost t) (h, (q, e)) = inl (inr (h, cc))
    split_state (Task t a) (h, (q, e)) =
        let same : Task t a ≡ Task s a = cc in
        inr (a, (subst (Holds m) same h).0.1, (h, (7 ∷ [], ap place same)))
    split_state (Outcomes t a) (h, (q, e)) =
        let same : Outcomes t a ≡ Outcomes s a = cc in
        inr (a, (subst (Holds m) same h).0.1, (h, (8 ∷ [], ap place same)))
    split_state (Outcome t a k) (h, (q, e)) =
        let same : Outcome t a k ≡ Outcome s a k = cc in
        inr (a, (subst (Holds m) same h).0.0.1, (h, (9 ∷ k ∷ [], ap place same)))

    state_first : IsFirst (AtState m s) place (state_fault m s)
    unfolding AtState AtAction Only StateHead
    state_first =
        first_of_both place (AtState m s) StateHead (λ f. (a : ℕ) × (a < length (actions (state_at m s))) × AtAction m s a f)
        (state_head m s) (first_below (action_fault m s) (length (actions (state_at m s))))
        state_head_first actions_first split_state
        (λ f. ⊎_elim (λ h. (h.0, ([], ap place h.1))) (λ h. (h.0, ([], ap place h.1))))
        (λ f h. (h.2.0, (h.0 ∷ h.2.1.0, h.2.1.1)))
        (λ f g hf hg.
        ⊎_elim
        (λ l. not_after_at (ap place l.1) hg.2.1.1 (inr (refl, tt)))
        (λ l. not_after_at (ap place l.1) hg.2.1.1 (inr (refl, tt)))
        hf)

  states_first : IsFirst (λ f. (s : ℕ) × (s < length m) × AtState m s f) place (first_below (state_fault m) (length m))
  unfolding AtState
  states_first =
      first_at_places place (AtState m) (state_fault m)
      (λ i j less f g hf hg. not_after_at hf.1.1 hg.1.1 (inl less))
      (length m) state_first

  split_model : (f : ModelFault) → Holds m f → Only m (States (length m)) f ⊎ ((s : ℕ) × (s < length m) × AtState m s f)
  unfolding AtState Only
  split_model (States n) h = inl (h, ap States h.0)
  split_model (Actions s) h = inr (s, h.0, (h, ([], refl)))
  split_model (EndCost s) h = inr (s, h.0, (h, ([], refl)))
  split_model (Task s a) h = inr (s, h.0.0, (h, (a ∷ 7 ∷ [], refl)))
  split_model (Outcomes s a) h = inr (s, h.0.0, (h, (a ∷ 8 ∷ [], refl)))
  split_model (Outcome s a k) h = inr (s, h.0.0.0, (h, (a ∷ 9 ∷ k ∷ [], refl)))

  pub first_fault_first : FirstFault m (first_fault m)
  unfolding AtState Only
  first_fault_first =
      first_of_both place (Holds m) (Only m (States (length m))) (λ f. (s : ℕ) × (s < length m) × AtState m s f)
      (when (outside 1 4096 (length m)) (States (length m))) (first_below (state_fault m) (length m))
      (first_when place (Only m (States (length m))) (outside 1 4096 (length m)) (States (length m))
      (λ t. ((refl, outside_true 1 4096 (length m) t), refl))
      (λ f h. (h.1, outside_from 1 4096 (length m) (subst (Holds m) h.1 h.0).1)))
      states_first split_model (λ f h. h.0) (λ f h. h.2.0)
      (λ f g hf hg. not_after_at (ap place hf.1) refl tt)
