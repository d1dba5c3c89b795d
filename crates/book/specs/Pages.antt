-- What a book holds, over lists.
use Rattle.std.specs.Prelude.{◌≡◌, ℕ, Bool, true, false, cond, List, map, length, replicate, Some, None, slice_index, slice_index_or, slice_set}
use Rattle.cost.specs.declared.amount.Cost.{Cost}
use Rattle.model.specs.Meaning.{State}
use Rattle.plan.specs.Bounds.{Bounds, LawfulBounds, Marks}
use Rattle.plan.specs.Plans.{Plan}
use Rattle.book.specs.declared.pages.Book.{Book}

-- For each state a bound, whether it is planned, and the action that is kept if it is planned.
pub record Page : Type 0 where
  pub bounds : List ℕ
  pub planned : List Bool
  pub kept : List ℕ

-- Each of a page's three lists has an entry for each of 4,096 states.
pub record Whole (p : Page) : Type 0 where
  pub bounds : length p.bounds ≡ 4096
  pub planned : length p.planned ≡ 4096
  pub kept : length p.kept ≡ 4096

-- What is written in a book.
abbrev pub page : Book → Page
page b = record { bounds = map (λ (c : Cost). c.value) b.bounds; planned = b.planned; kept = b.kept }

-- The page of a new book.
abbrev pub new_page : Page
new_page = record { bounds = replicate 4096 0; planned = replicate 4096 false; kept = replicate 4096 0 }

-- The bound of a state; past the last entry it is 0.
abbrev pub bound_at : Page → Bounds
bound_at p = λ s. slice_index p.bounds s

-- Whether a state is planned; past the last entry it is not.
abbrev pub planned_at : Page → ℕ → Bool
planned_at p = λ s. slice_index_or p.planned s false

-- The plan that is kept: the kept actions of the planned states.
abbrev pub kept_plan : Page → Plan
kept_plan p = λ s. cond (planned_at p s) (Some (slice_index p.kept s)) None

-- The page after a state's bound was set.
abbrev pub raised_page : Page → ℕ → ℕ → Page
raised_page p s cost = record { bounds = slice_set p.bounds s cost; planned = p.planned; kept = p.kept }

-- The page after a state was marked as planned with an action that is kept.
abbrev pub marked_page : Page → ℕ → ℕ → Page
marked_page p s a = record { bounds = p.bounds; planned = slice_set p.planned s true; kept = slice_set p.kept s a }

-- A page is sound: its bounds are lawful and its marks hold.
pub record Sound (m : List State) (value : List ℕ → ℕ) (prices : List ℕ) (p : Page) : Type 0 where
  pub lawful : LawfulBounds m value prices (bound_at p)
  pub marks : Marks m value prices (bound_at p) (planned_at p) (kept_plan p)
