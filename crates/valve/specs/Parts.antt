-- What a test does to a set of candidates, in the words of sets.
use Rattle.std.specs.Prelude.{◌≡◌, ℕ, ◌+◌, bit_and}
use Rattle.valve.specs.Valves.{inside_part, outside_part}

-- The part inside a set has only candidates of that set, the part outside has none of them, and the
-- two make up the whole without a candidate in common.
pub record Parts (m set : ℕ) : Type 0 where
  pub inside : bit_and (inside_part m set) set ≡ inside_part m set
  pub outside : bit_and (outside_part m set) set ≡ 0
  pub apart : bit_and (inside_part m set) (outside_part m set) ≡ 0
  pub whole : inside_part m set + outside_part m set ≡ m

abbrev pub TestsPartSets : Type 0
TestsPartSets = (m set : ℕ) → Parts m set
