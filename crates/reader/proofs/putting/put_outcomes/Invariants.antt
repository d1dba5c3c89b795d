use Rattle.std.proofs.Common.{◌≡◌, ◌+◌, map, drop}
use Rattle.std.specs.Int.{w16, from_be_bytes}
use Rattle.reader.specs.Puts.{sets}
use Rattle.reader.proofs.putting.put_outcomes.Given as goal

abbrev pub invariant-loop-place : goal.invariant-loop-place
invariant-loop-place l =
    sets l.outcomes (l.due.outcomes + l.place) (map (from_be_bytes w16) (drop l.place l.outcome-items)) ≡ sets l.initial.outcomes l.due.outcomes (map (from_be_bytes w16) l.outcome-items)
