-- Trim bars what lists its own state, and nothing goes wrong with a model by it.
use Rattle.std.proofs.Common.{◌≡◌, ℕ, zero, suc, ◌-◌, ◌<◌, true, eqb, ◌⊎◌, List, [], ◌∷◌, length, get_or, Some, None, Option, refl, ap, ◌∙◌, subst, inl, inr, ⊎_elim, arith}
use Rattle.std.specs.List.{ContainsAt as Has}
use Rattle.std.proofs.lemmas.Bool.{cases_Bool, or_cases, eqb-true}
use Rattle.model.specs.Firsts.{IsFirst}
use Rattle.model.specs.Meaning.{Barred, State, is_end, end_cost, is_free, task, outcomes, state_at, action_at}
use Rattle.model.specs.Reading.{Opens, first_fault, FirstFault, Holds, HasAction, place}
use Rattle.model.specs.TrimFacts.{TrimBarsReturns}
use Rattle.model.specs.Trims.{lists, trimmed}
use Rattle.model.specs.declared.faults.ModelFault.{ModelFault}
use Rattle.model.specs.declared.faults.ModelFault.TheVariants.{States, Actions, EndCost, Task, Outcomes, Outcome}
use Rattle.model.proofs.ReadingLaw.{first_fault_first}
use Rattle.model.proofs.Trimmed.{length_trimmed, state_trimmed, trim_is_end, trim_end_cost, action_count_trimmed, action_listed, action_unlisted, lists_found}

-- A list of outcomes that has a state has it at some place.
listed_at : (s : ℕ) (os : List ℕ) → lists s os ≡ true → Has os s
listed_at s [] e = let z : ◌≡◌ {A = ℕ} 0 1 = cc in absurd (omega arith)
listed_at s (o ∷ os) e =
    ⊎_elim
    (λ here. (zero, omega arith, λ d. eqb-true o s here))
    (λ there. let r = listed_at s os there in (suc r.0, omega (arith, r.1), r.2))
    (or_cases (eqb o s) (lists s os) e)

module _ (m : List State) where
  has_listed : (s a : ℕ) → Has (outcomes (action_at m s a)) s → action_at (trimmed m) s a ≡ Barred
  has_listed s a h = action_listed m s a (lists_found s (outcomes (action_at m s a)) h.0 h.1 (h.2 0))

  has_other : (s a : ℕ) → (Has (outcomes (action_at m s a)) s → ⊥) → action_at (trimmed m) s a ≡ action_at m s a
  has_other s a none =
      ⊎_elim
      (λ t. absurd (none (listed_at s (outcomes (action_at m s a)) t)))
      (λ f. action_unlisted m s a f)
      (cases_Bool (lists s (outcomes (action_at m s a))))

  -- A trimmed action is barred or the action itself.
  trims_to : (s a : ℕ) → (action_at (trimmed m) s a ≡ Barred) ⊎ (action_at (trimmed m) s a ≡ action_at m s a)
  trims_to s a =
      ⊎_elim
      (λ t. inl (action_listed m s a t))
      (λ f. inr (action_unlisted m s a f))
      (cases_Bool (lists s (outcomes (action_at m s a))))

  there : (s a : ℕ) → HasAction (trimmed m) s a → HasAction m s a
  there s a h = (omega (arith, h.0, length_trimmed m), omega (arith, h.1, action_count_trimmed m s))

  -- A fault of the trimmed model is one of the model.
  same_fault : (f : ModelFault) → Holds (trimmed m) f → Holds m f
  same_fault (States n) h = (h.0 ∙ length_trimmed m, h.1)
  same_fault (Actions s) h = (omega (arith, h.0, length_trimmed m), omega (arith, h.1, action_count_trimmed m s))
  same_fault (EndCost s) h = (omega (arith, h.0, length_trimmed m), omega (arith, h.1, ap end_cost (state_trimmed m s) ∙ trim_end_cost s (state_at m s)))
  same_fault (Task s a) h =
      ⊎_elim
      (λ b. let none = ap task b in absurd (omega (arith, h.1, none)))
      (λ e. (there s a h.0, subst (λ x. 63 < task x) e h.1))
      (trims_to s a)
  same_fault (Outcomes s a) h =
      ⊎_elim
      (λ b. let barred = ap is_free b in let z : ◌≡◌ {A = ℕ} 0 1 = cc (barred, h.1) in absurd (omega arith))
      (λ e. (there s a h.0, subst (λ x. is_free x ≡ true) e h.1, subst (λ x. (length (outcomes x) < 1) ⊎ (16 < length (outcomes x))) e h.2))
      (trims_to s a)
  same_fault (Outcome s a k) h =
      ⊎_elim
      (λ b. let none = ap (λ x. length (outcomes x)) b in absurd (omega (arith, h.0.1, none)))
      (λ e.
      let at = λ (i : ℕ). ap (λ x. get_or (outcomes x) i 0) e in (
        (there s a h.0.0, subst (λ x. k < length (outcomes x)) e h.0.1),
        ⊎_elim
            (λ past. inl (omega (arith, past, length_trimmed m, at k)))
            (λ down. inr (down.0, omega (arith, down.1, at k, at (k - 1))))
            h.1,
      ))
      (trims_to s a)

  opens_from : Opens m → (r : Option ModelFault) → IsFirst (Holds (trimmed m)) place r → r ≡ None
  opens_from opens None i = refl
  opens_from opens (Some f) i = absurd (subst (FirstFault m) opens (first_fault_first m) f (same_fault f i.0))

pub trim_bars_returns_lem : TrimBarsReturns
trim_bars_returns_lem = λ m. record {
  listed = has_listed m;
  other = has_other m;
  states = length_trimmed m;
  ends = λ s. ap is_end (state_trimmed m s) ∙ trim_is_end s (state_at m s);
  end_costs = λ s. ap end_cost (state_trimmed m s) ∙ trim_end_cost s (state_at m s);
  counts = action_count_trimmed m;
  opens = λ opens. opens_from m opens (first_fault (trimmed m)) (first_fault_first (trimmed m));
}
