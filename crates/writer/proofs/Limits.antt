-- What a model that opens has: few states, actions and outcomes, and outcomes that two bytes hold.
use Rattle.std.proofs.Common.{◌≡◌, ℕ, ◌<◌, ◌≤◌, true, List, [], ◌∷◌, ◌++◌, length, get_or, refl, ap, subst, inl, inr, ⊎_elim, ◌∙◌, arith, length-append}
use Rattle.std.proofs.Math.Seq.{get_or-append_seam}
use Rattle.std.proofs.lemmas.List.{get_or_past}
use Rattle.std.proofs.lemmas.Bool.{cases_lt}
use Rattle.model.specs.Meaning.{Action, Barred, Free, State, Open, is_free, outcomes, actions, state_at, action_at, outcome_at}
use Rattle.model.specs.Reading.{Opens, Holds, HasState, HasAction, FirstFault}
use Rattle.model.specs.declared.faults.ModelFault.{ModelFault}
use Rattle.model.specs.declared.faults.ModelFault.TheVariants.{States, Outcomes, Outcome}
use Rattle.model.proofs.ReadingLaw.{first_fault_first}

-- An action with outcomes is free.
some_free : (x : Action) → 0 < length (outcomes x) → is_free x ≡ true
some_free Barred h = absurd (omega arith)
some_free (Free t os) h = refl

module _ (m : List State) (opens : Opens m) where
  no_fault : (f : ModelFault) → Holds m f → ⊥
  no_fault = subst (FirstFault m) opens (first_fault_first m)

  states_few : length m ≤ 4096
  states_few = ⊎_elim (λ many. absurd (no_fault (States (length m)) (refl, inr many))) (λ few. few) (cases_lt 4096 (length m))

  -- A state with actions is there.
  has_state : (s : ℕ) → 0 < length (actions (state_at m s)) → HasState m s
  has_state s some =
      ⊎_elim
      (λ there. there)
      (λ past. absurd (omega (arith, ap (λ x. length (actions x)) (get_or_past m s (Open []) past))))
      (cases_lt s (length m))

  -- An action with outcomes is there.
  has_action : (s a : ℕ) → 0 < length (outcomes (action_at m s a)) → HasAction m s a
  has_action s a some =
      ⊎_elim
      (λ there. (has_state s (omega arith), there))
      (λ past. absurd (omega (arith, ap (λ x. length (outcomes x)) (get_or_past (actions (state_at m s)) a Barred past))))
      (cases_lt a (length (actions (state_at m s))))

  pub outcomes_few : (s a : ℕ) → length (outcomes (action_at m s a)) ≤ 16
  outcomes_few s a =
      ⊎_elim
      (λ many. absurd (no_fault (Outcomes s a) (has_action s a (omega arith), some_free (action_at m s a) (omega arith), inr many)))
      (λ few. few)
      (cases_lt 16 (length (outcomes (action_at m s a))))

  pub outcome_small : (s a k : ℕ) → k < length (outcomes (action_at m s a)) → outcome_at m s a k < 65536
  outcome_small s a k there =
      ⊎_elim
      (λ less. omega (arith, states_few))
      (λ past. absurd (no_fault (Outcome s a k) ((has_action s a (omega arith), there), inl past)))
      (cases_lt (outcome_at m s a k) (length m))

  -- Each outcome of an action is small.
  pub outcome_within : (s a : ℕ) (front : List ℕ) (o : ℕ) (rest : List ℕ) → outcomes (action_at m s a) ≡ front ++ o ∷ rest → o < 65536
  outcome_within s a front o rest is =
      let many : length front < length (outcomes (action_at m s a)) = omega (arith, ap length is, length-append front (o ∷ rest)) in
      let here : outcome_at m s a (length front) ≡ o = ap (λ l. get_or l (length front) 0) is ∙ get_or-append_seam front o rest 0 in
      omega (arith, outcome_small s a (length front) many)
