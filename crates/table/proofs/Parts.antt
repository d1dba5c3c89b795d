-- The entries of a table that a span names.
use Rattle.std.proofs.Common.{◌≡◌, ℕ, ◌+◌, ◌<◌, ◌≤◌, leb, List, [], length, get_or, take, drop, Some, ap, ◌∙◌, ⊎_elim, arith, length-drop, length-take}
use Rattle.std.specs.List.{slice_get}
use Rattle.std.proofs.lemmas.List.{get_or-take, get_or-drop}
use Rattle.std.proofs.lemmas.Option.{slice_get-get_or}
use Rattle.std.proofs.lemmas.Bool.{cases_Bool, cond-true, cond-false, leb-true, leb-false, le-leb, lt-leb}
use Rattle.table.specs.Tables.{part}
use Rattle.table.specs.declared.tables.Span.{Span}

pub part_within : {X : Type 0} (xs : List X) (s : Span) → s.first + s.count ≤ length xs → part xs s ≡ take s.count (drop s.first xs)
part_within xs s h = cond-true (leb (s.first + s.count) (length xs)) (take s.count (drop s.first xs)) [] (le-leb (s.first + s.count) (length xs) h)
