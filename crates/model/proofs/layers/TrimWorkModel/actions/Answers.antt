use Rattle.std.proofs.Common.{sym, ◌∙◌}
use Rattle.model.proofs.Trimmed.{action_count_trimmed}
use Rattle.model.proofs.layers.TrimWorkModel.actions.Goals as goal

pub returns : goal.returns
returns g c =
    let m = g.M.Model.meaning c.args.self.now.under in
    c.actions.ensures ∙ sym (action_count_trimmed m c.args.state)
