use Rattle.std.proofs.Common.{◌<◌, length, get_or, ap, ◌∙◌, arith}
use Rattle.std.proofs.lemmas.List.{map-set, get_or-set_same, get_or-set_other}
use Rattle.cost.specs.Prices.{figures, price_number}
use Rattle.cost.proofs.Figures.{length_figures}
use Rattle.cost.proofs.prices.PriceList.set.Goals as goal

pub returns : goal.returns
returns c =
    let l = c.args.self.now in
    let t = c.args.task.number in
    let p = c.args.price in
    let after = map-set price_number l.prices t p in
    let within : t < length (figures l) = omega (arith, length_figures l, c.args.task.within) in
    record {
      after = after;
      that_one = ap (λ ps. get_or ps t 0) after ∙ get_or-set_same (figures l) t p.value 0 within;
      others = λ u ne. ap (λ ps. get_or ps u 0) after ∙ get_or-set_other (figures l) t u p.value 0 ne;
    }
