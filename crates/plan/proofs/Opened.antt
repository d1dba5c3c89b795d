-- What a model that opens has: small end costs and tasks, and outcomes that are its states.
use Rattle.std.proofs.Common.{◌≡◌, ℕ, ◌<◌, ◌≤◌, true, List, [], length, get_or, sym, refl, ap, ◌∙◌, subst, inl, inr, ⊎_elim, arith}
use Rattle.std.specs.List.{ContainsAt as Has}
use Rattle.std.proofs.lemmas.List.{get_or_past}
use Rattle.std.proofs.lemmas.Bool.{cases_lt}
use Rattle.model.specs.Meaning.{Action, Barred, Free, State, End, Open, is_free, task, outcomes, end_cost, actions, state_at, action_at}
use Rattle.model.specs.Reading.{Opens, Holds, HasAction, FirstFault}
use Rattle.model.specs.declared.faults.ModelFault.{ModelFault}
use Rattle.model.specs.declared.faults.ModelFault.TheVariants.{EndCost, Task, Outcomes, Outcome}
use Rattle.model.proofs.ReadingLaw.{first_fault_first}

-- A barred action is not free.
pub barred_free : {A : Type 0} (t : ℕ) (os : List ℕ) → Barred ≡ Free t os → A
barred_free t os e = let z : ◌≡◌ {A = ℕ} 0 1 = cc in absurd (omega arith)

-- A free action is its task and its outcomes.
pub free_shape : (x : Action) → is_free x ≡ true → x ≡ Free (task x) (outcomes x)
free_shape Barred e = let z : ◌≡◌ {A = ℕ} 0 1 = cc in absurd (omega arith)
free_shape (Free t os) e = refl

-- An end is not open.
pub end_open : {A : Type 0} (c : ℕ) (as' : List Action) → End c ≡ Open as' → A
end_open c as' e = let z : ◌≡◌ {A = ℕ} 0 1 = cc in absurd (omega arith)

-- A free action stands at a state that is there, at a place that is there.
pub free_there : (m : List State) (s a t : ℕ) (os : List ℕ) → action_at m s a ≡ Free t os → HasAction m s a
free_there m s a t os e =
    ⊎_elim
    (λ there. (
      there,
      ⊎_elim (λ h. h) (λ past. barred_free t os (sym (get_or_past (actions (state_at m s)) a Barred past) ∙ e)) (cases_lt a (length (actions (state_at m s)))),
    ))
    (λ past.
    let none : action_at m s a ≡ Barred = ap (λ x. get_or (actions x) a Barred) (get_or_past m s (Open []) past) in
    barred_free t os (sym none ∙ e))
    (cases_lt s (length m))

-- A state with a free action is open.
open_of : (x : State) (a t : ℕ) (os : List ℕ) → get_or (actions x) a Barred ≡ Free t os → (as' : List Action) × (x ≡ Open as')
open_of (End c) a t os e = barred_free t os e
open_of (Open as') a t os e = (as', refl)

pub free_open : (m : List State) (s a t : ℕ) (os : List ℕ) → action_at m s a ≡ Free t os → (as' : List Action) × (state_at m s ≡ Open as')
free_open m s a t os e = open_of (state_at m s) a t os e

module _ (m : List State) (opens : Opens m) where
  pub no_fault : (f : ModelFault) → Holds m f → ⊥
  no_fault = subst (FirstFault m) opens (first_fault_first m)

  pub end_small : (s c : ℕ) → s < length m → state_at m s ≡ End c → c ≤ 1000000
  end_small s c there e =
      ⊎_elim
      (λ big. absurd (no_fault (EndCost s) (there, subst (λ x. 1000000 < x) (sym (ap end_cost e)) big)))
      (λ small. small)
      (cases_lt 1000000 c)

  module _ (s a t : ℕ) (os : List ℕ) (free : action_at m s a ≡ Free t os) where
    pub task_small : t ≤ 63
    task_small =
        ⊎_elim
        (λ big. absurd (no_fault (Task s a) (free_there m s a t os free, subst (λ x. 63 < x) (sym (ap task free)) big)))
        (λ small. small)
        (cases_lt 63 t)

    counted : length (outcomes (action_at m s a)) ≡ length os
    counted = ap (λ x. length (outcomes x)) free

    pub outcomes_some : 1 ≤ length os
    outcomes_some =
        ⊎_elim
        (λ none. absurd (no_fault (Outcomes s a) (free_there m s a t os free, ap is_free free, inl (omega (arith, counted)))))
        (λ some. some)
        (cases_lt (length os) 1)

    pub outcomes_few : length os ≤ 16
    outcomes_few =
        ⊎_elim
        (λ many. absurd (no_fault (Outcomes s a) (free_there m s a t os free, ap is_free free, inr (omega (arith, counted)))))
        (λ few. few)
        (cases_lt 16 (length os))

    pub outcome_there : (k : ℕ) → k < length os → get_or os k 0 < length m
    outcome_there k h =
        let same : get_or (outcomes (action_at m s a)) k 0 ≡ get_or os k 0 = ap (λ x. get_or (outcomes x) k 0) free in
        ⊎_elim
        (λ less. less)
        (λ past. absurd (no_fault (Outcome s a k) ((free_there m s a t os free, omega (arith, counted)), inl (omega (arith, same)))))
        (cases_lt (get_or os k 0) (length m))

    pub has_there : (u : ℕ) → Has os u → u < length m
    has_there u h = subst (λ x. x < length m) (h.2 0) (outcome_there h.0 h.1)
