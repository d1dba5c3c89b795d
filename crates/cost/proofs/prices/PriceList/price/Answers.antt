use Rattle.std.proofs.Common.{◌<◌, length, arith}
use Rattle.cost.proofs.Figures.{figure_read, figures_in_range}
use Rattle.cost.proofs.prices.PriceList.price.Goals as goal

pub returns : goal.returns
returns c =
    let l = c.args.self.now in
    let within : c.args.task.number < length l.prices = omega (arith, l.whole, c.args.task.within) in
    record { value = figure_read l c.args.task.number c.index-self-task.result within; in_range = figures_in_range l }
