-- How far the reading of a sheet has come, and which fields may come next.
use Rattle.std.specs.Prelude.{◌≡◌, ℕ, suc, ◌+◌, ◌-◌, ◌*◌, ◌/◌, ◌%◌, Bool, true, false, cond, not, ◌&&◌, List, [], ◌∷◌, length, drop, None, Option, ◌==◌, nat_le, nat_lt, slice_index}
use Rattle.model.specs.Firsts.{when, first_of}
use Rattle.sheet.specs.Blocks.{Block, block}
use Rattle.sheet.specs.declared.progress.Due.{Due}
use Rattle.sheet.specs.declared.faults.Cause.{Cause}
use Rattle.sheet.specs.declared.faults.Cause.TheVariants.{Tag, Length, Value}

-- What is known after some fields.
pub record Stage : Type 0 where
  -- the number of states, 0 before it was read
  pub count : ℕ
  -- the lowest task that may be named next
  pub task : ℕ
  -- how many states were read
  pub states : ℕ
  -- how many more actions the latest state may have
  pub room : ℕ
  -- how many actions and outcomes were read
  pub actions : ℕ
  pub outcomes : ℕ

abbrev pub stage : Due → Stage
stage d = record { count = d.count; task = d.task; states = d.states; room = d.room; actions = d.actions; outcomes = d.outcomes }

-- Nothing was read yet.
abbrev pub beginning : Stage
beginning = record { count = 0; task = 0; states = 0; room = 0; actions = 0; outcomes = 0 }

-- The number that two bytes of a body stand for, and the list of such numbers.
abbrev pub pair_at : List ℕ → ℕ → ℕ
pair_at b k = slice_index b k * 256 + slice_index b (k + 1)

abbrev pub pairs : List ℕ → List ℕ
pairs [] = []
pairs (x ∷ []) = []
pairs (x ∷ (y ∷ r)) = (x * 256 + y) ∷ pairs r

-- The outcomes in the body of an action, and how many there are.
abbrev pub outcomes_in : List ℕ → List ℕ
outcomes_in b = pairs (drop 1 b)

abbrev pub places_in : List ℕ → ℕ
places_in b = (length b - 1) / 2

-- The end cost in the body of an end.
abbrev pub end_cost_in : List ℕ → ℕ
end_cost_in b = pair_at b 0 * 65536 + pair_at b 2

-- A tag may come next: first the number of states, then prices, then states, each open one followed
-- by at most 16 actions.
abbrev pub tag_due : Stage → ℕ → Bool
tag_due d t =
    cond (t == 1) (d.count == 0)
    (cond (t == 2) (nat_lt 0 d.count && d.states == 0)
    (cond (t == 3) (nat_lt d.states d.count)
    (cond (t == 4) (nat_lt d.states d.count)
    (cond (t == 5) (nat_lt 0 d.room) false))))

-- A body's length is one that its tag has: an action has a task and 1 to 16 outcomes.
abbrev pub length_right : ℕ → ℕ → Bool
length_right t n =
    cond (t == 1) (n == 2)
    (cond (t == 2) (n == 3)
    (cond (t == 3) (n == 4)
    (cond (t == 4) (n == 0)
    (n % 2 == 1 && (nat_le 3 n && nat_le n 33)))))

-- Numbers ascend, from a lowest one on, and are below another.
abbrev pub rising : ℕ → ℕ → List ℕ → Bool
rising n low [] = true
rising n low (o ∷ os) = nat_le low o && (nat_lt o n && rising n (suc o) os)

-- A body's values are within their limits.
abbrev pub value_right : Stage → ℕ → List ℕ → Bool
value_right d t b =
    cond (t == 1) (nat_le 1 (pair_at b 0) && nat_le (pair_at b 0) 4096)
    (cond (t == 2) (nat_le d.task (slice_index b 0) && (nat_le (slice_index b 0) 63 && (nat_le 2 (pair_at b 1) && nat_le (pair_at b 1) 10000)))
    (cond (t == 3) (nat_le (end_cost_in b) 1000000)
    (cond (t == 4) true
    (nat_le (slice_index b 0) 63 && rising d.count 0 (outcomes_in b)))))

-- What is wrong with the next field, if anything is.
abbrev pub cause_of : Stage → Block → Option Cause
cause_of d (block t b) =
    first_of (when (not (tag_due d t)) Tag)
    (first_of (when (not (length_right t (length b))) Length) (when (not (value_right d t b)) Value))

-- What is known after one more field.
abbrev pub after : Stage → Block → Stage
after d (block t b) =
    record {
      count = cond (t == 1) (pair_at b 0) d.count;
      task = cond (t == 2) (slice_index b 0 + 1) d.task;
      states = cond (t == 3) (d.states + 1) (cond (t == 4) (d.states + 1) d.states);
      room = cond (t == 3) 0 (cond (t == 4) 16 (cond (t == 5) (d.room - 1) d.room));
      actions = cond (t == 5) (d.actions + 1) d.actions;
      outcomes = cond (t == 5) (d.outcomes + places_in b) d.outcomes;
    }

-- What is known after some more fields.
abbrev pub after_all : Stage → List Block → Stage
after_all d [] = d
after_all d (f ∷ fs) = after_all (after d f) fs

-- The last state was read.
abbrev pub all_read : Stage → Bool
all_read d = nat_lt 0 d.count && d.states == d.count

-- Nothing is wrong with fields that come after a stage.
abbrev pub Right : Stage → List Block → Type 0
Right d [] = Unit {0}
Right d (f ∷ fs) = (cause_of d f ≡ None) × Right (after d f) fs
