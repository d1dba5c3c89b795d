use Rattle.std.proofs.Common.{◌≡◌, min, get_or, ap, ◌∙◌, rules, arith}
use borrow.Author.Tests.{tests}
use Rattle.std.proofs.lemmas.List.{get_or-map}
use Rattle.cost.specs.Costs.{roof}
use Rattle.cost.specs.declared.amount.Cost.{Cost}
use Rattle.book.proofs.Firsts.{estimates_held}
use Rattle.book.proofs.MadeArrays.{each_made}
use Rattle.book.proofs.estimates.as_costs.Goals as goal

pub returns : goal.returns
returns c =
    let es = c.args.estimates.now in
    let ys = c.from_fn.result in
    let made = each_made _ (λ i (y : Cost). y.value ≡ min roof (get_or es i 0)) _ (λ i y q called. search (rules, tests)) ys 4096 0 c.from_fn.ensures.items.each in
    estimates_held es ys c.from_fn.ensures.items.long (λ k l.
    let one = made k (omega arith) (omega arith) in
    get_or-map (λ (x : Cost). x.value) ys k one.0 0 (omega (arith, c.from_fn.ensures.items.long)) ∙ ap (λ (x : Cost). x.value) (one.1.1 one.0) ∙ one.2)
