use Rattle.std.proofs.Common.{◌∙◌}
use Rattle.std.proofs.lemmas.List.{with_items_is}
use Rattle.std.proofs.lemmas.Result.{err_from_is_err_and}
use Rattle.cost.specs.Prices.{figures}
use Rattle.reader.specs.Reads.{tables}
use Rattle.transfer.proofs.Loadings.{sizes_same, refused_wrong, read_all, held}
use Rattle.transfer.proofs.loading.load.Goals as goal

pub returns-in_err-read : goal.returns-in_err-read
returns-in_err-read c =
    let p = err_from_is_err_and c.from_residual-in_err-read.result c.from_residual-in_err-read.ensures.1 in
    let size = c.in_ok-size.size in
    let room = sizes_same size _ _ _
    (c.deref_mut.ensures.len ∙ c.in_ok-states.ensures.len)
    (c.deref_mut-2.ensures.len ∙ c.in_ok-actions.ensures.len)
    (c.deref_mut-3.ensures.len ∙ c.in_ok-outcomes.ensures.len) in
    rw (p.1, p.2) (refused_wrong c.args.sheet.now c.in_ok-size.size _ c.in_err-read.field-0.0 c.in_ok-size.ensures room c.in_err-read.ensures.read)

pub returns : goal.returns
returns c =
    let b = c.args.sheet.now in
    let l = c.read.new in
    let ps = figures l.prices in
    let new = tables l.states l.actions l.outcomes ps in
    held b ps l.states _ l.actions _ l.outcomes _
    (with_items_is c.in_ok-states.states l.states (c.read.auto.states ∙ c.deref_mut.ensures.len))
    (with_items_is c.in_ok-actions.actions l.actions (c.read.auto.actions ∙ c.deref_mut-2.ensures.len))
    (with_items_is c.in_ok-outcomes.outcomes l.outcomes (c.read.auto.outcomes ∙ c.deref_mut-3.ensures.len))
    (read_all b c.in_ok-size.size c.in_ok-read.field-0 _ new c.in_ok-size.ensures c.in_ok-read.ensures.read (c.read.auto.states ∙ c.deref_mut.ensures.len ∙ c.in_ok-states.ensures.len))
