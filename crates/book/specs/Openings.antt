-- How a book is set at opening, and how what it knows is dropped.
use Rattle.std.specs.Prelude.{ℕ, min, Bool, cond, List, [], ◌∷◌, ◌++◌, map, length, drop, slice_index}
use Rattle.std.specs.List.{range_with_len}
use Rattle.cost.specs.Costs.{roof}
use Rattle.model.specs.Meaning.{State, is_end, end_cost, state_at}
use Rattle.book.specs.Pages.{Page, bound_at}

-- A list whose first entries are those of a function, and whose others are as they were.
abbrev pub first_by : {X : Type 0} → (ℕ → X) → ℕ → List X → List X
first_by f n xs = map f (range_with_len 0 n) ++ drop n xs

-- How many of a model's states a book has entries for.
abbrev pub entries_of : List State → ℕ
entries_of m = min 4096 (length m)

-- Marks with the ends planned and no open state.
abbrev pub ends_planned : List State → List Bool → List Bool
ends_planned m marks = first_by (λ s. is_end (state_at m s)) (entries_of m) marks

-- The bound of a state at opening: its estimate, or the end cost where there are no estimates, which
-- is 0 at an open state. What is above the roof counts as the roof.
abbrev pub opening_bound : List State → List ℕ → ℕ → ℕ
opening_bound m [] s = min roof (end_cost (state_at m s))
opening_bound m (e ∷ es) s = min roof (slice_index (e ∷ es) s)

-- The page after opening: the bounds are the estimates, or say nothing where there are none; ends
-- are planned, and no open state.
abbrev pub opened_page : List State → List ℕ → Page → Page
opened_page m estimates p =
    record { bounds = first_by (opening_bound m estimates) (entries_of m) p.bounds; planned = ends_planned m p.planned; kept = p.kept }

-- The page after the marks of all open states were dropped.
abbrev pub unmarked_page : List State → Page → Page
unmarked_page m p = record { bounds = p.bounds; planned = ends_planned m p.planned; kept = p.kept }

-- The page after the marks of all open states were dropped and their bounds set to 0.
abbrev pub emptied_page : List State → Page → Page
emptied_page m p =
    record {
      bounds = first_by (λ s. cond (is_end (state_at m s)) (bound_at p s) 0) (entries_of m) p.bounds;
      planned = ends_planned m p.planned;
      kept = p.kept;
    }
