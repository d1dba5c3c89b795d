use Rattle.std.proofs.Common.{◌≡◌, List, ◌++◌, length}
use Rattle.sheet.specs.Blocks.{Block, blocks_bytes}
use Rattle.sheet.specs.Stages.{stage, beginning, after_all, Right}
use Rattle.reader.proofs.checking.check.Given as goal

abbrev pub invariant-loop-rest : goal.invariant-loop-rest
invariant-loop-rest l = (fs : List Block) × ((l.sheet ≡ blocks_bytes fs ++ l.rest) × Right beginning fs × (stage l.due ≡ after_all beginning fs))

abbrev pub decreases-loop-rest : goal.decreases-loop-rest
decreases-loop-rest l = length l.rest
