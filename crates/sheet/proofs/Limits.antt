-- A model opens and bars nothing exactly when its states keep the limits.
use Rattle.std.proofs.Common.{◌≡◌, ℕ, zero, suc, ◌-◌, ◌<◌, ◌≤◌, true, ◌&&◌, ltb, leb, List, [], ◌∷◌, length, get_or, Some, None, Option, sym, refl, subst, inl, inr, ⊎_elim, arith}
use Rattle.std.specs.List.{AllByRecursion}
use Rattle.std.proofs.ByRecursion.{All-get_or, All-from_get_or}
use Rattle.std.proofs.lemmas.Bool.{cases_lt, and_parts, and_from, leb-true, le-leb, ltb-true, lt-ltb}
use Rattle.cost.specs.Prices.{InRange}
use Rattle.model.specs.Meaning.{Action, Barred, Free, State, End, Open, is_free, task, outcomes, end_cost, actions, state_at, action_at, outcome_at}
use Rattle.model.specs.Reading.{Opens, Holds, HasAction, FirstFault, first_fault}
use Rattle.model.specs.declared.faults.ModelFault.{ModelFault}
use Rattle.model.specs.declared.faults.ModelFault.TheVariants.{States, Actions, EndCost, Task, Outcomes, Outcome}
use Rattle.model.proofs.ReadingLaw.{first_fault_first}
use Rattle.sheet.specs.Sheets.{Writable}
use Rattle.sheet.specs.Stages.{rising}
use Rattle.sheet.proofs.Contents.{ActionRight, StateRight}
use Rattle.sheet.proofs.FieldKinds.{never}

-- What `rising` says of the number at each place, and that it says no more.
module _ (n : ℕ) where
  rising_parts : (low o : ℕ) (os : List ℕ) → rising n low (o ∷ os) ≡ true → (low ≤ o) × (o < n) × (rising n (suc o) os ≡ true)
  rising_parts low o os e =
      let p = and_parts (leb low o) (ltb o n && rising n (suc o) os) e in
      let q = and_parts (ltb o n) (rising n (suc o) os) p.1 in
      (leb-true low o p.0, ltb-true o n q.0, q.1)

  rising_below : (low : ℕ) (os : List ℕ) (k : ℕ) → rising n low os ≡ true → k < length os → get_or os k 0 < n
  rising_below low [] k e h = absurd (omega arith)
  rising_below low (o ∷ os) zero e h = (rising_parts low o os e).1
  rising_below low (o ∷ os) (suc k) e h = rising_below (suc o) os k (rising_parts low o os e).2 (omega arith)

  rising_steps : (low : ℕ) (os : List ℕ) (k : ℕ) → rising n low os ≡ true → suc k < length os → get_or os k 0 < get_or os (suc k) 0
  rising_steps low [] k e h = absurd (omega arith)
  rising_steps low (o ∷ []) k e h = absurd (omega arith)
  rising_steps low (o ∷ (u ∷ os)) zero e h = (rising_parts (suc o) u os (rising_parts low o (u ∷ os) e).2).0
  rising_steps low (o ∷ (u ∷ os)) (suc k) e h = rising_steps (suc o) (u ∷ os) k (rising_parts low o (u ∷ os) e).2 (omega arith)

  rising_from :
      (low : ℕ) (os : List ℕ) → (1 ≤ length os → low ≤ get_or os 0 0) → ((k : ℕ) → k < length os → get_or os k 0 < n) → ((k : ℕ) → suc k < length os → get_or os k 0 < get_or os (suc k) 0) →
      rising n low os ≡ true
  rising_from low [] first below steps = refl
  rising_from low (o ∷ os) first below steps =
      let least : low ≤ o = first (omega arith) in
      let less : o < n = below 0 (omega arith) in
      and_from (leb low o) (ltb o n && rising n (suc o) os) (le-leb low o least)
      (and_from (ltb o n) (rising n (suc o) os) (lt-ltb o n less)
      (rising_from (suc o) os (λ h. steps 0 (omega arith)) (λ k h. below (suc k) (omega arith)) (λ k h. steps (suc k) (omega arith))))

-- The limits of an action and of a state, each by what is asked of them.
module _ (n : ℕ) where
  action_free : (x : Action) → ActionRight n x → is_free x ≡ true
  action_free Barred h = absurd h
  action_free (Free t os) h = refl

  action_task : (x : Action) → ActionRight n x → task x ≤ 63
  action_task Barred h = absurd h
  action_task (Free t os) h = h.0

  action_outcomes : (x : Action) → ActionRight n x → (1 ≤ length (outcomes x)) × (length (outcomes x) ≤ 16) × (rising n 0 (outcomes x) ≡ true)
  action_outcomes Barred h = absurd h
  action_outcomes (Free t os) h = (h.1, h.2, h.3)

  action_from : (x : Action) → is_free x ≡ true → task x ≤ 63 → 1 ≤ length (outcomes x) → length (outcomes x) ≤ 16 → rising n 0 (outcomes x) ≡ true → ActionRight n x
  action_from Barred e h some few r = never (cc)
  action_from (Free t os) e h some few r = (h, some, few, r)

  state_actions : (x : State) → StateRight n x → (length (actions x) ≤ 16) × AllByRecursion (ActionRight n) (actions x)
  state_actions (End c) h = (omega arith, tt)
  state_actions (Open as') h = (h.0, h.1)

  state_cost : (x : State) → StateRight n x → end_cost x ≤ 1000000
  state_cost (End c) h = h
  state_cost (Open as') h = omega arith

  state_from : (x : State) → length (actions x) ≤ 16 → end_cost x ≤ 1000000 → AllByRecursion (ActionRight n) (actions x) → StateRight n x
  state_from (End c) few small right = small
  state_from (Open as') few small right = (few, right)

module _ (m : List State) (some : 1 ≤ length m) (few : length m ≤ 4096) (right : AllByRecursion (StateRight (length m)) m) where
  state_right : (s : ℕ) → s < length m → StateRight (length m) (state_at m s)
  state_right s h = All-get_or (StateRight (length m)) m s (Open []) h right

  action_right : (s a : ℕ) → HasAction m s a → ActionRight (length m) (action_at m s a)
  action_right s a h = All-get_or (ActionRight (length m)) (actions (state_at m s)) a Barred h.1 (state_actions (length m) (state_at m s) (state_right s h.0)).1

  -- No fault holds of such a model.
  no_fault_of_right : (f : ModelFault) → Holds m f → ⊥
  no_fault_of_right (States n) h = ⊎_elim (λ l. omega (arith, h.0)) (λ r. omega (arith, h.0)) h.1
  no_fault_of_right (Actions s) h = omega (arith, h.1, (state_actions (length m) (state_at m s) (state_right s h.0)).0)
  no_fault_of_right (EndCost s) h = omega (arith, h.1, state_cost (length m) (state_at m s) (state_right s h.0))
  no_fault_of_right (Task s a) h = omega (arith, h.1, action_task (length m) (action_at m s a) (action_right s a h.0))
  no_fault_of_right (Outcomes s a) h =
      let o = action_outcomes (length m) (action_at m s a) (action_right s a h.0) in
      ⊎_elim (λ l. omega (arith, o.0)) (λ r. omega (arith, o.1)) h.2
  no_fault_of_right (Outcome s a zero) h =
      let o = action_outcomes (length m) (action_at m s a) (action_right s a h.0.0) in
      ⊎_elim (λ l. omega (arith, rising_below (length m) 0 (outcomes (action_at m s a)) 0 o.2 h.0.1)) (λ r. omega (arith, r.0)) h.1
  no_fault_of_right (Outcome s a (suc k)) h =
      let o = action_outcomes (length m) (action_at m s a) (action_right s a h.0.0) in
      let before : suc k - 1 ≡ k = omega arith in
      ⊎_elim
      (λ l. omega (arith, rising_below (length m) 0 (outcomes (action_at m s a)) (suc k) o.2 h.0.1))
      (λ r.
      let back : outcome_at m s a (suc k) ≤ outcome_at m s a k = subst (λ j. outcome_at m s a (suc k) ≤ outcome_at m s a j) before r.1 in
      omega (arith, rising_steps (length m) 0 (outcomes (action_at m s a)) k o.2 h.0.1))
      h.1

  none_first : (o : Option ModelFault) → FirstFault m o → o ≡ None
  none_first None h = refl
  none_first (Some f) h = absurd (no_fault_of_right f h.0)

  pub opens_from_right : Opens m
  opens_from_right = none_first (first_fault m) (first_fault_first m)

  pub free_from_right : (s a : ℕ) → HasAction m s a → is_free (action_at m s a) ≡ true
  free_from_right s a h = action_free (length m) (action_at m s a) (action_right s a h)

module _ (m : List State) (ps : List ℕ) (w : Writable m ps) where
  no_fault : (f : ModelFault) → Holds m f → ⊥
  no_fault = subst (FirstFault m) w.opens (first_fault_first m)

  few_states : (1 ≤ length m) × (length m ≤ 4096)
  few_states = (
    ⊎_elim (λ l. absurd (no_fault (States (length m)) (refl, inl l))) (λ r. r) (cases_lt (length m) 1),
    ⊎_elim (λ l. absurd (no_fault (States (length m)) (refl, inr l))) (λ r. r) (cases_lt 4096 (length m)),
  )

  action_limits : (s a : ℕ) → HasAction m s a → ActionRight (length m) (action_at m s a)
  action_limits s a there =
      let x = action_at m s a in
      let n = length m in
      let free = w.free s a there in
      action_from n x free
      (⊎_elim (λ l. absurd (no_fault (Task s a) (there, l))) (λ r. r) (cases_lt 63 (task x)))
      (⊎_elim (λ l. absurd (no_fault (Outcomes s a) (there, free, inl l))) (λ r. r) (cases_lt (length (outcomes x)) 1))
      (⊎_elim (λ l. absurd (no_fault (Outcomes s a) (there, free, inr l))) (λ r. r) (cases_lt 16 (length (outcomes x))))
      (rising_from n 0 (outcomes x) (λ h. omega arith)
      (λ k h. ⊎_elim (λ l. l) (λ r. absurd (no_fault (Outcome s a k) ((there, h), inl r))) (cases_lt (get_or (outcomes x) k 0) n))
      (λ k h.
      let before : suc k - 1 ≡ k = omega arith in
      ⊎_elim (λ l. l)
      (λ r. absurd (no_fault (Outcome s a (suc k)) ((there, h), inr (omega arith, subst (λ j. outcome_at m s a (suc k) ≤ outcome_at m s a j) (sym before) r))))
      (cases_lt (get_or (outcomes x) k 0) (get_or (outcomes x) (suc k) 0))))

  state_limits : (s : ℕ) → s < length m → StateRight (length m) (state_at m s)
  state_limits s there =
      let x = state_at m s in
      state_from (length m) x
      (⊎_elim (λ l. absurd (no_fault (Actions s) (there, l))) (λ r. r) (cases_lt 16 (length (actions x))))
      (⊎_elim (λ l. absurd (no_fault (EndCost s) (there, l))) (λ r. r) (cases_lt 1000000 (end_cost x)))
      (All-from_get_or (ActionRight (length m)) (actions x) Barred (λ a h. action_limits s a (there, h)))

  pub right_from_opens : (1 ≤ length m) × (length m ≤ 4096) × AllByRecursion (StateRight (length m)) m
  right_from_opens = (few_states.0, few_states.1, All-from_get_or (StateRight (length m)) m (Open []) state_limits)

-- A model that keeps the limits has a sheet with any prices in range.
pub writable_from : (m : List State) (ps : List ℕ) → 1 ≤ length m → length m ≤ 4096 → AllByRecursion (StateRight (length m)) m → InRange ps → Writable m ps
writable_from m ps some few right range = record { opens = opens_from_right m some few right; free = free_from_right m some few right; prices = range }
