use Rattle.std.proofs.Common.{arith}
use Rattle.cost.specs.LargestLaws.{largest_push}
use Rattle.cost.proofs.worst.LargestRule.take.Goals as goal

pub returns : goal.returns
returns c = λ l took. grind (arith, largest_push l c.args.cost.value)
