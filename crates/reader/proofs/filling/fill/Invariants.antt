use Rattle.std.proofs.Common.{◌≡◌, List, ◌++◌, length}
use Rattle.cost.specs.Prices.{figures}
use Rattle.sheet.specs.Blocks.{Block, blocks_bytes}
use Rattle.sheet.specs.Stages.{stage, beginning, after_all, Right}
use Rattle.reader.specs.Puts.{Filled}
use Rattle.reader.proofs.filling.fill.Given as goal

abbrev pub invariant-loop-next : goal.invariant-loop-next
invariant-loop-next l =
    (fs : List Block) → l.sheet ≡ blocks_bytes fs → Right beginning fs →
    (gs : List Block) × ((hs : List Block) × ((fs ≡ gs ++ hs) × (l.rest ≡ blocks_bytes hs) × (stage l.due ≡ after_all beginning gs)
    × Filled gs l.initial.states l.initial.actions l.initial.outcomes l.states l.actions l.outcomes (figures l.prices)))

abbrev pub decreases-loop-next : goal.decreases-loop-next
decreases-loop-next l = length l.rest
