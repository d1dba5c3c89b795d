use Rattle.std.proofs.Common.{◌≤◌, ◌||◌, eqb, length, get_or, sym, ap, ap₂, ◌∙◌, arith}
use Rattle.std.proofs.lemmas.Bool.{ne_eqb}
use Rattle.std.proofs.lemmas.List.{take_all}
use Rattle.std.proofs.lemmas.List.Folds.{list_any_more}
use Rattle.model.specs.Meaning.{outcomes, action_at}
use Rattle.model.specs.Trims.{lists}
use Rattle.model.proofs.Trimmed.{lists_found}
use Rattle.model.proofs.layers.lists_itself.Goals as goal

pub returns-then-outcome-state : goal.returns-then-outcome-state
returns-then-outcome-state g c =
    let s = c.args.state in
    let os = outcomes (action_at (g.M.Model.meaning c.args.model.now) s c.args.action) in
    sym (lists_found s os c.loop-place.place (omega arith) (sym c.outcome.ensures ∙ c.if-outcome-state.true))

pub loop-place-preserved : goal.loop-place-preserved
loop-place-preserved g c =
    let s = c.args.state in
    let os = outcomes (action_at (g.M.Model.meaning c.args.model.now) s c.args.action) in
    let k = c.loop-place.place in
    list_any_more (λ o. eqb o s) os k 0 (omega arith) ∙ ap₂ (λ a b. a || b) c.loop-place.invariant (ne_eqb (get_or os k 0) s (λ e. c.if-outcome-state.false (c.outcome.ensures ∙ e)))

pub returns : goal.returns
returns g c =
    let s = c.args.state in
    let os = outcomes (action_at (g.M.Model.meaning c.args.model.now) s c.args.action) in
    let all : length os ≤ c.loop-place.place = omega arith in
    sym (sym (ap (lists s) (take_all c.loop-place.place os all)) ∙ c.loop-place.invariant)
