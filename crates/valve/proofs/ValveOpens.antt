-- Every valve model opens: nothing is wrong with what it means.
use Rattle.std.proofs.Common.{◌≡◌, ℕ, zero, suc, ◌-◌, ◌^◌, ◌<◌, ◌≤◌, min, max, ◌⊎◌, [], ◌∷◌, length, get_or, Some, None, Option, refl, ap, ◌∙◌, subst, inl, inr, ⊎_elim, arith, pow_pos, pow_mono}
use lib.Bits.{and_le_l}
use lib.Count.{ones, count_trailing_zeros}
use Rattle.std.proofs.lemmas.List.{get_or-take}
use Rattle.std.proofs.lemmas.Bool.{cases_eq}
use Rattle.model.specs.Firsts.{IsFirst}
use Rattle.model.specs.Meaning.{Action, Barred, Free, is_free, task, outcomes, end_cost, action_at}
use Rattle.model.specs.Reading.{first_fault, Opens, Holds, HasAction, place}
use Rattle.valve.specs.SetUp.{test_at}
use Rattle.valve.specs.Valves.{inside_part, outside_part, test_action, meaning_of}
use Rattle.model.specs.declared.faults.ModelFault.{ModelFault}
use Rattle.model.specs.declared.faults.ModelFault.TheVariants.{States, Actions, EndCost, Task, Outcomes, Outcome}
use Rattle.valve.specs.declared.valves.Test.{Test}
use Rattle.valve.specs.declared.valves.ValveModel.{ValveModel}
use Rattle.model.proofs.ReadingLaw.{first_fault_first}
use Rattle.valve.proofs.SetParts.{parts_differ}
use Rattle.valve.proofs.ValveStates.{within, candidates_few, count_few, length_meaning, single_place, single_state, no_end_cost, has_test, action_is, test_barred, test_free}

-- A free test: its task and two different parts, the smaller first.
pub record Splits (m : ℕ) (t : Test) (x : Action) : Type 0 where
  pub some_inside : inside_part m t.set ≡ 0 → ⊥
  pub is : x ≡ Free t.task (min (inside_part m t.set) (outside_part m t.set) ∷ max (inside_part m t.set) (outside_part m t.set) ∷ [])

test_cases : (m : ℕ) (t : Test) → (test_action m t ≡ Barred) ⊎ Splits m t (test_action m t)
test_cases m t =
    ⊎_elim
    (λ i. inl (test_barred m t (inl i)))
    (λ i. ⊎_elim (λ o. inl (test_barred m t (inr o))) (λ o. inr (record { some_inside = i; is = test_free m t i o })) (cases_eq (outside_part m t.set) 0))
    (cases_eq (inside_part m t.set) 0)

module _ (m : ℕ) (t : Test) (x : Action) (s : Splits m t x) where
  two_outcomes : length (outcomes x) ≡ 2
  two_outcomes = ap (λ a. length (outcomes a)) s.is

  first_outcome : get_or (outcomes x) 0 0 ≡ min (inside_part m t.set) (outside_part m t.set)
  first_outcome = ap (λ a. get_or (outcomes a) 0 0) s.is

  second_outcome : get_or (outcomes x) 1 0 ≡ max (inside_part m t.set) (outside_part m t.set)
  second_outcome = ap (λ a. get_or (outcomes a) 1 0) s.is

  -- Both parts are states no larger than the state itself, and they ascend.
  parts_fine : (k : ℕ) → k < length (outcomes x) → (get_or (outcomes x) k 0 ≤ m) × (0 < k → get_or (outcomes x) (k - 1) 0 < get_or (outcomes x) k 0)
  parts_fine zero h = (let le = and_le_l m t.set in omega (arith, first_outcome), λ p. absurd (omega arith))
  parts_fine (suc zero) h =
      let le = and_le_l m t.set in
      (omega (arith, second_outcome), λ p. let ne = parts_differ m t.set s.some_inside in omega (arith, first_outcome, second_outcome, ne))
  parts_fine (suc (suc k)) h = absurd (omega (arith, two_outcomes))

module _ (v : ValveModel) where
  task_fine : (m a : ℕ) → HasAction (meaning_of v) m a → task (action_at (meaning_of v) m a) ≤ 63
  task_fine m a h =
      let t = has_test v m a h.1 in
      let x = action_is v m a h.1 in
      let same = get_or-take v.count v.tests a (record { task = 0; set = 0 }) t.2 in
      let few : (test_at v.tests a).task ≤ 63 = subst (λ (u : Test). u.task ≤ 63) same ((within v).each_task a (omega (arith, v.tested, t.2))) in
      ⊎_elim
      (λ b. let e = ap task (x ∙ b) in omega (arith, e))
      (λ f. let e = ap task (x ∙ f.is) in omega (arith, e))
      (test_cases m (test_at v.tests a))

  splits : (m a : ℕ) → HasAction (meaning_of v) m a → (action_at (meaning_of v) m a ≡ Barred) ⊎ Splits m (test_at v.tests a) (action_at (meaning_of v) m a)
  splits m a h =
      let x = action_is v m a h.1 in
      ⊎_elim (λ b. inl (x ∙ b)) (λ f. inr (record { some_inside = f.some_inside; is = x ∙ f.is })) (test_cases m (test_at v.tests a))

  no_fault : (f : ModelFault) → Holds (meaning_of v) f → ⊥
  no_fault (States n) h =
      let few : 2 ^ v.candidates ≤ 2 ^ 12 = pow_mono (candidates_few v) in
      let some : 0 < 2 ^ v.candidates = pow_pos v.candidates in
      ⊎_elim (λ l. omega (arith, h.0, length_meaning v)) (λ l. omega (arith, h.0, length_meaning v)) h.1
  no_fault (Actions s) h = omega (arith, count_few v, has_test v s 16 h.1)
  no_fault (EndCost s) h =
      let there : s < 2 ^ v.candidates = omega (arith, h.0, length_meaning v) in
      ⊎_elim
      (λ one.
      let cost = ap end_cost (single_state v s there one) in
      omega (arith, h.1, cost, (within v).each_repair (count_trailing_zeros 64 s) (omega (arith, v.costed, single_place v s there one))))
      (λ other. omega (arith, h.1, no_end_cost v s there other))
      (cases_eq (ones s) 1)
  no_fault (Task s a) h = omega (arith, h.1, task_fine s a h.0)
  no_fault (Outcomes s a) h =
      ⊎_elim
      (λ b. let e = ap is_free b in let z : ◌≡◌ {A = ℕ} 0 1 = cc (e, h.1) in omega arith)
      (λ f. let two = two_outcomes s (test_at v.tests a) (action_at (meaning_of v) s a) f in ⊎_elim (λ l. omega arith) (λ l. omega arith) h.2)
      (splits s a h.0)
  no_fault (Outcome s a k) h =
      ⊎_elim
      (λ b. let none = ap (λ x. length (outcomes x)) b in omega (arith, h.0.1, none))
      (λ f.
      let fine = parts_fine s (test_at v.tests a) (action_at (meaning_of v) s a) f k h.0.1 in
      ⊎_elim (λ past. omega (arith, fine.0, h.0.0.0)) (λ down. omega (arith, fine.1 down.0, down.1)) h.1)
      (splits s a h.0.0)

  from_first : (r : Option ModelFault) → IsFirst (Holds (meaning_of v)) place r → r ≡ None
  from_first None i = refl
  from_first (Some f) i = absurd (no_fault f i.0)

  pub valve_opens : Opens (meaning_of v)
  valve_opens = from_first (first_fault (meaning_of v)) (first_fault_first (meaning_of v))
