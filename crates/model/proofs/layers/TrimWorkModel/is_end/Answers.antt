use Rattle.std.proofs.Common.{sym, ap, ◌∙◌}
use Rattle.model.specs.Meaning.{is_end, state_at}
use Rattle.model.proofs.Trimmed.{state_trimmed, trim_is_end}
use Rattle.model.proofs.layers.TrimWorkModel.is_end.Goals as goal

pub returns : goal.returns
returns g c =
    let m = g.M.Model.meaning c.args.self.now.under in
    let s = c.args.state in
    c.is_end.ensures ∙ sym (ap is_end (state_trimmed m s) ∙ trim_is_end s (state_at m s))
