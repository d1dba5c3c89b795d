-- What one turn of a round does to a list of costs.
use Rattle.std.proofs.Common.{◌≡◌, ℕ, ◌+◌, ◌<◌, ◌≤◌, min, Bool, true, false, ltb, List, length, set, None, MatchBool, refl, ap, ◌∙◌, subst, below_more, arith}
use Rattle.std.specs.Option.{option_map}
use Rattle.std.proofs.lemmas.Bool.{le-ltb}
use Rattle.cost.specs.Costs.{roof}
use Rattle.cost.specs.Counting.{Lawful}
use Rattle.cost.specs.Prices.{InRange}
use Rattle.cost.specs.declared.amount.Cost.{Cost}
use Rattle.model.specs.Firsts.{when, first_of}
use Rattle.model.specs.Meaning.{State, End, Open, actions, state_at}
use Rattle.model.specs.Reading.{Opens}
use Rattle.plan.specs.Bounds.{bounds_of, action_cost, least_cost}
use Rattle.plan.specs.Rounds.{best_fault}
use Rattle.plan.specs.Sweeps.{Above, AboveAt, Settled, highest, total}
use Rattle.plan.specs.declared.faults.BestFault.TheVariants.{Model, Short}
use Rattle.plan.proofs.BoundLists.{bounds_set_here, bounds_set_other}
use Rattle.plan.proofs.Leasts.{least_most}
use Rattle.plan.proofs.Lowering.{lowered_above, lowered_total}
use Rattle.plan.proofs.Opened.{end_small}

-- What a round has come to: the list so far, whether a state was lowered, and the next state.
pub record Come (m : List State) (value : List ℕ → ℕ) (prices : List ℕ) (old new : List Cost) (lowered : Bool) (s : ℕ) : Type 0 where
  pub above : Above m value prices (bounds_of new)
  pub moved : MatchBool lowered (total (bounds_of new) (length m) < total (bounds_of old) (length m)) ((new ≡ old) × Settled m value prices (bounds_of new) s)

module _ (m : List State) (value : List ℕ → ℕ) (prices : List ℕ) (opens : Opens m) (rule : Lawful value) (range : InRange prices) where
  module _ (old new : List Cost) (s : ℕ) (there : s < length m) where
    below_old : (lowered : Bool) → Come m value prices old new lowered s → total (bounds_of new) (length m) ≤ total (bounds_of old) (length m)
    below_old true come = omega (arith, come.moved)
    below_old false come = let same = ap (λ l. total (bounds_of l) (length m)) come.moved.0 in omega arith

    -- A state was lowered.
    pub come_lowered : (lowered : Bool) → Come m value prices old new lowered s → (c : Cost) → length m ≤ length new → c.value ≡ least_cost m value prices (bounds_of new) s → c.value < bounds_of new s → Come m value prices old (set new s c) true (s + 1)
    come_lowered lowered come c room is less =
        let here = bounds_set_here new s c (omega arith) in
        let other = bounds_set_other new s c in
        let low : least_cost m value prices (bounds_of new) s < bounds_of new s = omega (arith, is, less) in record {
          above = lowered_above m value prices opens rule range (bounds_of new) (bounds_of (set new s c)) come.above s there low (here ∙ is) other;
          moved = omega (arith, lowered_total m value prices opens rule range (bounds_of new) (bounds_of (set new s c)) come.above s there low (here ∙ is) other, below_old lowered come);
        }

    -- A state was not above its least action cost.
    pub come_kept : (lowered : Bool) → Come m value prices old new lowered s → bounds_of new s ≤ least_cost m value prices (bounds_of new) s → Come m value prices old new lowered (s + 1)
    come_kept true come h = record { above = come.above; moved = come.moved }
    come_kept false come h = record {
      above = come.above;
      moved = (come.moved.0, below_more _ _ come.moved.1 h);
    }

  -- A whole round.
  pub come_through : (old new : List Cost) (lowered : Bool) (s : ℕ) → s ≡ length m → Come m value prices old new lowered s
      → MatchBool lowered (total (bounds_of new) (length m) < total (bounds_of old) (length m)) (Settled m value prices (bounds_of new) (length m))
  come_through old new true s e come = come.moved
  come_through old new false s e come = subst (Settled m value prices (bounds_of new)) e come.moved.1

  -- The highest costs are above the least action costs.
  pub highest_above : (costs : List Cost) → ((s : ℕ) → s < length m → bounds_of costs s ≡ highest (state_at m s)) → Above m value prices (bounds_of costs)
  highest_above costs h s there = at (state_at m s) refl
    where
      at : (x : State) → state_at m s ≡ x → AboveAt m value prices (bounds_of costs) s x
      at (End c) e = h s there ∙ ap highest e
      at (Open as') e =
          let is : bounds_of costs s ≡ roof = h s there ∙ ap highest e in
          (omega (arith, is, least_most (action_cost m value prices (bounds_of costs) s) (length (actions (state_at m s)))), omega (arith, is))

-- The highest cost of a state of a model that opens is a cost.
pub highest_small : (m : List State) → Opens m → (s : ℕ) → s < length m → min roof (highest (state_at m s)) ≡ highest (state_at m s)
highest_small m opens s there = at (state_at m s) refl
  where
    at : (x : State) → state_at m s ≡ x → min roof (highest x) ≡ highest x
    at (End c) e = omega (arith, end_small m opens s c there e)
    at (Open as') e = omega arith

-- A model that opens and a list that has room for its states are no fault.
pub no_best_fault : (m : List State) (room : ℕ) → Opens m → length m ≤ room → best_fault m room ≡ None
no_best_fault m room opens h =
    ap (λ f. first_of (option_map Model f) (when (ltb room (length m)) Short)) opens ∙ ap (λ b. when b Short) (le-ltb room (length m) h)
