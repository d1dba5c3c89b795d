use Rattle.std.proofs.Common.{sym, ap, ◌∙◌}
use Rattle.model.specs.Meaning.{task}
use Rattle.model.proofs.Trimmed.{action_listed, action_unlisted}
use Rattle.model.proofs.layers.TrimWorkModel.task.Goals as goal

pub returns-then-lists_itself : goal.returns-then-lists_itself
returns-then-lists_itself g c =
    let m = g.M.Model.meaning c.args.self.now.under in
    sym (ap (λ x. task x) (action_listed m c.args.state c.args.action (sym c.lists_itself.ensures ∙ c.if-lists_itself.true)))

pub returns-else-lists_itself : goal.returns-else-lists_itself
returns-else-lists_itself g c =
    let m = g.M.Model.meaning c.args.self.now.under in
    c.task.ensures ∙ sym (ap (λ x. task x) (action_unlisted m c.args.state c.args.action (sym c.lists_itself.ensures ∙ c.if-lists_itself.false)))
