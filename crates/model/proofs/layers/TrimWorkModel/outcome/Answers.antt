use Rattle.std.proofs.Common.{get_or, sym, ap, ◌∙◌}
use Rattle.model.specs.Meaning.{outcomes}
use Rattle.model.proofs.Trimmed.{action_listed, action_unlisted}
use Rattle.model.proofs.layers.TrimWorkModel.outcome.Goals as goal

pub returns-then-lists_itself : goal.returns-then-lists_itself
returns-then-lists_itself g c =
    let m = g.M.Model.meaning c.args.self.now.under in
    sym (ap (λ x. get_or (outcomes x) c.args.place 0) (action_listed m c.args.state c.args.action (sym c.lists_itself.ensures ∙ c.if-lists_itself.true)))

pub returns-else-lists_itself : goal.returns-else-lists_itself
returns-else-lists_itself g c =
    let m = g.M.Model.meaning c.args.self.now.under in
    c.outcome.ensures ∙ sym (ap (λ x. get_or (outcomes x) c.args.place 0) (action_unlisted m c.args.state c.args.action (sym c.lists_itself.ensures ∙ c.if-lists_itself.false)))
