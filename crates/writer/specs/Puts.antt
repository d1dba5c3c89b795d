-- What it is to write bytes one after the other.
use Rattle.std.specs.Prelude.{◌≡◌, ℕ, ◌+◌, List, [], ◌∷◌, length, min, slice_set}
use Rattle.writer.specs.declared.places.Page.{Page}

-- Bytes with others written over them from a place on; what would stand past the end is left out.
abbrev pub over : List ℕ → ℕ → List ℕ → List ℕ
over old at [] = old
over old at (x ∷ xs) = over (slice_set old at x) (at + 1) xs

-- The largest count, at which counting stops.
abbrev pub most : ℕ
most = 18446744073709551615

-- A count is that of so many bytes, up to the largest.
abbrev pub Counts : ℕ → ℕ → Type 0
Counts count bytes = min count most ≡ min bytes most

-- Bytes were written next on a page, which is still on the same bytes.
pub record Puts (old new : Page) (xs : List ℕ) : Type 0 where
  pub same_bytes : new.bytes.ghost_name ≡ old.bytes.ghost_name
  pub written : new.bytes.now ≡ over old.bytes.now old.count xs
  pub counted : Counts new.count (old.count + length xs)
