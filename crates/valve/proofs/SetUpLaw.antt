-- The fault that a set-up is refused for is the first one; a set-up without one is within its limits.
use Rattle.std.proofs.Common.{◌≡◌, ℕ, ◌^◌, ◌<◌, ◌≤◌, false, ◌||◌, ltb, leb, ◌⊎◌, List, length, get_or, is_some, Some, None, Option, refl, ap, subst, inl, inr, ⊎_elim, arith}
use Rattle.std.proofs.lemmas.Bool.{ltb-true, lt-ltb, leb-true, le-leb, or_cases, or_left, or_right, cases_lt}
use Rattle.model.specs.Firsts.{when, first_of, first_below, outside, NotAfter, IsFirst}
use Rattle.valve.specs.SetUp.{test_at, test_fault, repair_fault, set_up_fault, SetUpHolds, set_up_place}
use Rattle.valve.specs.declared.faults.ValveFault.{ValveFault}
use Rattle.valve.specs.declared.faults.ValveFault.TheVariants as fault
use Rattle.valve.specs.declared.valves.Test.{Test}
use Rattle.model.proofs.Firsts.{first_when, first_of_both, first_at_places, outside_true, outside_from, not_after_at}

module _ (repairs : List ℕ) (tests : List Test) where
  -- One fault alone, and the faults of the tests and of the repair costs.
  Only : ValveFault → ValveFault → Type 0
  Only x f = SetUpHolds repairs tests f × (f ≡ x)

  Tested : ValveFault → Type 0
  Tested f = (j : ℕ) × (j < length tests) × Only (fault.Test j) f

  Repaired : ValveFault → Type 0
  Repaired f = (c : ℕ) × (c < length repairs) × Only (fault.Repair c) f

  only_order : (x y f g : ValveFault) → Only x f → Only y g → NotAfter (set_up_place x) (set_up_place y) → NotAfter (set_up_place f) (set_up_place g)
  unfolding Only
  only_order x y f g hf hg n = not_after_at (ap set_up_place hf.1) (ap set_up_place hg.1) n

  tested_first : IsFirst Tested set_up_place (first_below (test_fault (length repairs) tests) (length tests))
  unfolding Tested Only
  tested_first =
      first_at_places set_up_place (λ j. Only (fault.Test j)) (test_fault (length repairs) tests)
      (λ i j less f g hf hg. only_order (fault.Test i) (fault.Test j) f g hf hg (inr (refl, inl less)))
      (length tests)
      (λ j h.
      let t = test_at tests j in
      first_when set_up_place (Only (fault.Test j)) (ltb 63 t.task || leb (2 ^ length repairs) t.set) (fault.Test j)
      (λ b. ((h, ⊎_elim (λ l. inl (ltb-true 63 t.task l)) (λ r. inr (leb-true (2 ^ length repairs) t.set r)) (or_cases (ltb 63 t.task) (leb (2 ^ length repairs) t.set) b)), refl))
      (λ f o. (o.1, ⊎_elim (λ l. or_left (ltb 63 t.task) (leb (2 ^ length repairs) t.set) (lt-ltb 63 t.task l)) (λ r. or_right (ltb 63 t.task) (leb (2 ^ length repairs) t.set) (le-leb (2 ^ length repairs) t.set r)) (subst (SetUpHolds repairs tests) o.1 o.0).1)))

  repaired_first : IsFirst Repaired set_up_place (first_below (repair_fault repairs) (length repairs))
  unfolding Repaired Only
  repaired_first =
      first_at_places set_up_place (λ c. Only (fault.Repair c)) (repair_fault repairs)
      (λ i j less f g hf hg. only_order (fault.Repair i) (fault.Repair j) f g hf hg (inr (refl, inl less)))
      (length repairs)
      (λ c h.
      first_when set_up_place (Only (fault.Repair c)) (ltb 1000000 (get_or repairs c 0)) (fault.Repair c)
      (λ b. ((h, ltb-true 1000000 (get_or repairs c 0) b), refl))
      (λ f o. (o.1, lt-ltb 1000000 (get_or repairs c 0) (subst (SetUpHolds repairs tests) o.1 o.0).1)))

  -- What comes after the number of tests, and after the number of candidates.
  AfterTests : ValveFault → Type 0
  AfterTests f = Tested f ⊎ Repaired f

  after_tests : IsFirst AfterTests set_up_place (first_of (first_below (test_fault (length repairs) tests) (length tests)) (first_below (repair_fault repairs) (length repairs)))
  unfolding AfterTests Tested Repaired
  after_tests =
      first_of_both set_up_place AfterTests Tested Repaired _ _ tested_first repaired_first (λ f h. h) (λ f h. inl h) (λ f h. inr h)
      (λ f g hf hg. only_order (fault.Test hf.0) (fault.Repair hg.0) f g hf.2 hg.2 (inl (omega arith)))

  AfterCandidates : ValveFault → Type 0
  AfterCandidates f = Only (fault.Tests (length tests)) f ⊎ AfterTests f

  after_candidates : IsFirst AfterCandidates set_up_place (first_of (when (outside 1 16 (length tests)) (fault.Tests (length tests))) (first_of (first_below (test_fault (length repairs) tests) (length tests)) (first_below (repair_fault repairs) (length repairs))))
  unfolding AfterCandidates AfterTests Tested Repaired Only
  after_candidates =
      first_of_both set_up_place AfterCandidates (Only (fault.Tests (length tests))) AfterTests _ _
      (first_when set_up_place (Only (fault.Tests (length tests))) (outside 1 16 (length tests)) (fault.Tests (length tests))
      (λ b. ((refl, outside_true 1 16 (length tests) b), refl))
      (λ f o. (o.1, outside_from 1 16 (length tests) (subst (SetUpHolds repairs tests) o.1 o.0).1)))
      after_tests (λ f h. h) (λ f h. inl h) (λ f h. inr h)
      (λ f g hf.
      ⊎_elim
      (λ hg. only_order (fault.Tests (length tests)) (fault.Test hg.0) f g hf hg.2 (inl (omega arith)))
      (λ hg. only_order (fault.Tests (length tests)) (fault.Repair hg.0) f g hf hg.2 (inl (omega arith))))

  split : (f : ValveFault) → SetUpHolds repairs tests f → Only (fault.Candidates (length repairs)) f ⊎ AfterCandidates f
  unfolding AfterCandidates AfterTests Tested Repaired Only
  split (fault.Candidates n) h = inl (h, ap fault.Candidates h.0)
  split (fault.Tests n) h = inr (inl (h, ap fault.Tests h.0))
  split (fault.Test j) h = inr (inr (inl (j, h.0, (h, refl))))
  split (fault.Repair c) h = inr (inr (inr (c, h.0, (h, refl))))

  pub set_up_fault_first : IsFirst (SetUpHolds repairs tests) set_up_place (set_up_fault repairs tests)
  unfolding AfterCandidates AfterTests Tested Repaired Only
  set_up_fault_first =
      first_of_both set_up_place (SetUpHolds repairs tests) (Only (fault.Candidates (length repairs))) AfterCandidates _ _
      (first_when set_up_place (Only (fault.Candidates (length repairs))) (outside 2 12 (length repairs)) (fault.Candidates (length repairs))
      (λ b. ((refl, outside_true 2 12 (length repairs) b), refl))
      (λ f o. (o.1, outside_from 2 12 (length repairs) (subst (SetUpHolds repairs tests) o.1 o.0).1)))
      after_candidates split
      (λ f h. h.0)
      (λ f. ⊎_elim (λ h. h.0) (⊎_elim (λ h. h.2.0) (λ h. h.2.0)))
      (λ f g hf.
      ⊎_elim
      (λ hg. only_order (fault.Candidates (length repairs)) (fault.Tests (length tests)) f g hf hg (inl (omega arith)))
      (⊎_elim
      (λ hg. only_order (fault.Candidates (length repairs)) (fault.Test hg.0) f g hf hg.2 (inl (omega arith)))
      (λ hg. only_order (fault.Candidates (length repairs)) (fault.Repair hg.0) f g hf hg.2 (inl (omega arith)))))

-- A set-up within its limits.
pub record Limits (repairs : List ℕ) (tests : List Test) : Type 0 where
  pub low : 2 ≤ length repairs
  pub high : length repairs ≤ 12
  pub many : length tests ≤ 16
  pub each_task : (j : ℕ) → j < length tests → (test_at tests j).task ≤ 63
  pub each_repair : (c : ℕ) → c < length repairs → get_or repairs c 0 ≤ 1000000

from_none : (repairs : List ℕ) (tests : List Test) (r : Option ValveFault) → IsFirst (SetUpHolds repairs tests) set_up_place r → is_some r ≡ false → Limits repairs tests
from_none repairs tests None none e = record {
  low = ⊎_elim (λ l. absurd (none (fault.Candidates (length repairs)) (refl, inl l))) (λ h. h) (cases_lt (length repairs) 2);
  high = ⊎_elim (λ l. absurd (none (fault.Candidates (length repairs)) (refl, inr l))) (λ h. h) (cases_lt 12 (length repairs));
  many = ⊎_elim (λ l. absurd (none (fault.Tests (length tests)) (refl, inr l))) (λ h. h) (cases_lt 16 (length tests));
  each_task = λ j i. ⊎_elim (λ l. absurd (none (fault.Test j) (i, inl l))) (λ h. h) (cases_lt 63 (test_at tests j).task);
  each_repair = λ c i. ⊎_elim (λ l. absurd (none (fault.Repair c) (i, l))) (λ h. h) (cases_lt 1000000 (get_or repairs c 0));
}
from_none repairs tests (Some f) some e = let z : ◌≡◌ {A = ℕ} 0 1 = cc in absurd (omega arith)

pub limits : (repairs : List ℕ) (tests : List Test) → is_some (set_up_fault repairs tests) ≡ false → Limits repairs tests
limits repairs tests e = from_none repairs tests (set_up_fault repairs tests) (set_up_fault_first repairs tests) e
