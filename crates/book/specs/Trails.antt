-- The way of a search from its start to the state that it is at.
use Rattle.std.specs.Prelude.{◌≡◌, ℕ, ◌-◌, ◌<◌, List, [], ◌∷◌, ◌++◌, length, take, slice_index}
use Rattle.book.specs.declared.trails.Trail.{Trail}

-- The states of a trail, from its start on.
abbrev pub way_of : Trail → List ℕ
way_of t = t.start ∷ t.states.items

-- The state that a trail is at.
abbrev pub last_of : Trail → ℕ
last_of t = slice_index (way_of t) (length t.states.items)

-- A trail that has room goes on to a state.
pub record Entered (t : Trail) (s : ℕ) (next : Trail) : Type 0 where
  pub room : length t.states.items < 4095
  pub start : next.start ≡ t.start
  pub states : next.states.items ≡ t.states.items ++ s ∷ []

-- A trail goes back by one state, and stays at its start.
pub record Left (t next : Trail) : Type 0 where
  pub start : next.start ≡ t.start
  pub states : next.states.items ≡ take (length t.states.items - 1) t.states.items
