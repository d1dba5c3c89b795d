-- What is read of the words of an input.
use Rattle.std.specs.Prelude.{ℕ, Bool, cond, List, [], ◌∷◌, drop}
use Rattle.std.specs.Borrow.{Bor}

-- There is a first word, and its text has a property.
abbrev pub First : (List ℕ → Type 0) → List (Bor (List ℕ)) → Type 0
First P [] = ⊥
First P (w ∷ ws) = P w.now

-- The words that are left, where one was read or none was.
abbrev pub left : Bool → List (Bor (List ℕ)) → List (Bor (List ℕ))
left one ws = cond one (drop 1 ws) ws
