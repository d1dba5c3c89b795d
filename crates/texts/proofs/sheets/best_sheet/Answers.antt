use Rattle.std.proofs.Common.{ℕ, ◌<◌, map, length, get_or, ◌∙◌, rules}
use Rattle.std.proofs.lemmas.List.{with_items_is}
use Rattle.cost.specs.Prices.{figures}
use Rattle.cost.specs.declared.amount.Cost.{Cost}
use Rattle.plan.specs.Bests.{Best}
use Rattle.table.specs.Tables.{meaning_of}
use Rattle.transfer.specs.Loads.{loaded_model}
use Rattle.texts.proofs.SheetLines.{length_loaded, tells_best}
use Rattle.texts.proofs.sheets.best_sheet.Goals as goal

pub returns : goal.returns
returns g c =
    let l = c.in_ok-loaded.loaded in
    let costs = c.best_costs.new.costs in
    let kept = c.best_costs.auto.costs ∙ c.deref_mut.ensures.len in
    let m = meaning_of c.model-model.result in
    let best : (s : ℕ) → s < length m → Best m g.R.Rule.value (figures l.prices) s (get_or (map (λ (x : Cost). x.value) costs) s 0) = search rules in
    tells_best c.args.sheet.now _ g.R.Rule.value (loaded_model l) m (figures l.prices) costs c.deref.result.now
    c.in_ok-loaded.ensures c.model-model.ensures
    (kept ∙ c.in_ok-costs.ensures.len ∙ c.len.ensures ∙ length_loaded l)
    best
    (c.deref.ensures.value ∙ with_items_is c.in_ok-costs.costs costs kept)
    c.in_ok-best.ensures
