-- What Trim does to a model, in the words of the model.
use Rattle.std.specs.Prelude.{◌≡◌, ℕ, List, length}
use Rattle.std.specs.List.{ContainsAt as Has}
use Rattle.model.specs.Meaning.{Barred, State, is_end, end_cost, actions, outcomes, state_at, action_at}
use Rattle.model.specs.Reading.{Opens}
use Rattle.model.specs.Trims.{trimmed}

-- Trim bars each action that lists its own state, and changes nothing else; a model that opens also
-- opens under it.
pub record Trims (m : List State) : Type 0 where
  pub listed : (s a : ℕ) → Has (outcomes (action_at m s a)) s → action_at (trimmed m) s a ≡ Barred
  pub other : (s a : ℕ) → (Has (outcomes (action_at m s a)) s → ⊥) → action_at (trimmed m) s a ≡ action_at m s a
  pub states : length (trimmed m) ≡ length m
  pub ends : (s : ℕ) → is_end (state_at (trimmed m) s) ≡ is_end (state_at m s)
  pub end_costs : (s : ℕ) → end_cost (state_at (trimmed m) s) ≡ end_cost (state_at m s)
  pub counts : (s : ℕ) → length (actions (state_at (trimmed m) s)) ≡ length (actions (state_at m s))
  pub opens : Opens m → Opens (trimmed m)

abbrev pub TrimBarsReturns : Type 0
TrimBarsReturns = (m : List State) → Trims m
