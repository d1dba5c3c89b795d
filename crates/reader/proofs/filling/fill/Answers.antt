use Rattle.std.proofs.Common.{◌≡◌, [], ◌∷◌, ◌++◌, Some, sym, ap, ◌∙◌, subst, ⊎_elim}
use Rattle.cost.specs.Prices.{figures}
use Rattle.sheet.specs.Blocks.{shown, block_bytes, blocks_bytes}
use Rattle.sheet.specs.Stages.{beginning, after, after_all, cause_of}
use Rattle.sheet.specs.Wrongs.{NoField}
use Rattle.sheet.proofs.Framing.{next_field}
use Rattle.reader.specs.Puts.{put_state, put_action, put_outcomes, Filled}
use Rattle.reader.specs.Steps.{Faults}
use Rattle.reader.proofs.Fillings.{moved, filled_more, all_taken, not_stuck}
use Rattle.reader.proofs.Fronts.{known_more}
use Rattle.reader.proofs.filling.fill.Goals as goal

pub loop-next-preserved : goal.loop-next-preserved
loop-next-preserved c fs e right =
    let inv = c.loop-next.invariant fs e right in
    let gs = inv.0 in
    let at = inv.1.1 in
    let n = c.in-Ok.next in
    let step = c.in-Ok.ensures in
    let f = shown n.field in
    let first : blocks_bytes inv.1.0 ≡ block_bytes f ++ n.rest.now = sym at.1 ∙ step.first in
    let next = next_field inv.1.0 f n.rest.now first in
    let known = at.2 in (
      gs ++ f ∷ [],
      (
        next.0,
        (
          moved fs gs inv.1.0 next.0 f at.0 next.1.0,
          next.1.1,
          step.known ∙ ap (λ d. after d f) known ∙ sym (known_more gs f),
          filled_more gs f at.3
              (c.put_state.ensures ∙ ap (λ d. put_state d f c.loop-next.states) known)
              (c.put_action.ensures ∙ ap (λ d. put_action d f c.loop-next.actions) known)
              (c.put_outcomes.ensures ∙ ap (λ d. put_outcomes d f c.loop-next.outcomes) known)
              (c.put_price.ensures (after_all beginning gs)),
        ),
      ),
    )

pub returns : goal.returns
returns c fs e right =
    let inv = c.loop-next.invariant fs e right in
    let at = inv.1.1 in
    let all =
    ⊎_elim
    (λ none. all_taken fs inv.0 inv.1.0 at.0 (subst NoField at.1 none.0))
    (λ (f : Faults _ _ _ _).
    absurd (not_stuck fs inv.0 inv.1.0 f.field f.rest f.cause right at.0 (sym at.1 ∙ f.first)
    (subst (λ d. cause_of d f.field ≡ Some f.cause) at.2 f.wrong)))
    c.in_default.ensures in
    subst (λ l. Filled l c.args.states.now c.args.actions.now c.args.outcomes.now c.loop-next.states c.loop-next.actions c.loop-next.outcomes (figures c.loop-next.prices)) all at.3
