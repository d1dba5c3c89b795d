use Rattle.acceptance.proofs.ExampleProofs.{all_are_best, estimates}
use Rattle.acceptance.proofs.examples.examples_hold.Goals as goal

pub returns : goal.returns
returns c = record { best = all_are_best; estimates = estimates }
