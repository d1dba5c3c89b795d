use Rattle.std.proofs.Common.{sym, ap, ◌∙◌}
use Rattle.model.specs.Meaning.{end_cost, state_at}
use Rattle.model.proofs.Trimmed.{state_trimmed, trim_end_cost}
use Rattle.model.proofs.layers.TrimWorkModel.end_cost.Goals as goal

pub returns : goal.returns
returns g c =
    let m = g.M.Model.meaning c.args.self.now.under in
    let s = c.args.state in
    c.end_cost.ensures ∙ sym (ap end_cost (state_trimmed m s) ∙ trim_end_cost s (state_at m s))
