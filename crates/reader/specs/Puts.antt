-- What the fields of a sheet write to tables and prices.
use Rattle.std.specs.Prelude.{◌≡◌, ℕ, ◌+◌, ◌-◌, cond, ◌&&◌, List, [], ◌∷◌, replicate, ◌==◌, nat_le, nat_lt, slice_index, slice_set}
use Rattle.sheet.specs.Blocks.{Block, block}
use Rattle.sheet.specs.Stages.{Stage, beginning, pair_at, end_cost_in, outcomes_in, places_in, after}
use Rattle.table.specs.declared.tables.ActionRow.{ActionRow}
use Rattle.table.specs.declared.tables.Span.{Span}
use Rattle.table.specs.declared.tables.StateRow.{StateRow}
use Rattle.table.specs.declared.tables.StateRow.TheVariants as row

-- A run of entries from a place on.
abbrev pub span : ℕ → ℕ → Span
span first count = record { first = first; count = count }

-- A state goes to the next row. An action is one more in the span of the latest state.
abbrev pub put_state : Stage → Block → List StateRow → List StateRow
put_state d (block t b) rows =
    cond (t == 3) (slice_set rows d.states (row.End (end_cost_in b)))
    (cond (t == 4) (slice_set rows d.states (row.Open (span d.actions 0)))
    (cond (t == 5) (slice_set rows (d.states - 1) (row.Open (span (d.actions - (16 - d.room)) (16 - d.room + 1)))) rows))

-- An action goes to the next row, with the span that its outcomes will have.
abbrev pub put_action : Stage → Block → List ActionRow → List ActionRow
put_action d (block t b) acts =
    cond (t == 5) (slice_set acts d.actions (record { task = slice_index b 0; outcomes = span d.outcomes (places_in b) })) acts

-- Numbers go to a place and those after it.
abbrev pub sets : List ℕ → ℕ → List ℕ → List ℕ
sets xs at [] = xs
sets xs at (o ∷ os) = sets (slice_set xs at o) (at + 1) os

-- The outcomes of an action go to the next places.
abbrev pub put_outcomes : Stage → Block → List ℕ → List ℕ
put_outcomes d (block t b) outs = cond (t == 5) (sets outs d.outcomes (outcomes_in b)) outs

-- A price goes to its task, if both are within their limits.
abbrev pub put_price : Stage → Block → List ℕ → List ℕ
put_price d (block t b) ps =
    cond (t == 2) (cond (nat_lt (slice_index b 0) 64 && (nat_le 1 (pair_at b 1) && nat_le (pair_at b 1) 10000)) (slice_set ps (slice_index b 0) (pair_at b 1)) ps) ps

-- What fields write, one after the other.
abbrev pub put_all : {T : Type 0} → (Stage → Block → T → T) → Stage → List Block → T → T
put_all put d [] x = x
put_all put d (f ∷ fs) x = put_all put (after d f) fs (put d f x)

-- Tables and prices hold what fields wrote; all prices were 1 before.
pub record Filled (fs : List Block) (rows₀ : List StateRow) (acts₀ : List ActionRow) (outs₀ : List ℕ) (rows : List StateRow) (acts : List ActionRow) (outs ps : List ℕ) : Type 0 where
  pub states : rows ≡ put_all put_state beginning fs rows₀
  pub actions : acts ≡ put_all put_action beginning fs acts₀
  pub outcomes : outs ≡ put_all put_outcomes beginning fs outs₀
  pub prices : ps ≡ put_all put_price beginning fs (replicate 64 1)
