use Rattle.std.proofs.Common.{sym, ◌∙◌}
use Rattle.model.proofs.Trimmed.{length_trimmed}
use Rattle.model.proofs.layers.TrimWorkModel.states.Goals as goal

pub returns : goal.returns
returns g c =
    let m = g.M.Model.meaning c.args.self.now.under in
    c.states.ensures ∙ sym (length_trimmed m)
