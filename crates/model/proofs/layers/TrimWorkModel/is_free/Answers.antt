use Rattle.std.proofs.Common.{not, sym, ap, ◌∙◌}
use Rattle.model.proofs.Trimmed.{free_trimmed, barred_trimmed}
use Rattle.model.proofs.layers.TrimWorkModel.is_free.Goals as goal

pub returns-then-is_free : goal.returns-then-is_free
returns-then-is_free g c =
    let m = g.M.Model.meaning c.args.self.now.under in
    ap not c.lists_itself.ensures ∙ free_trimmed m c.args.state c.args.action (sym c.is_free.ensures ∙ c.if-is_free.true)

pub returns-else-is_free : goal.returns-else-is_free
returns-else-is_free g c =
    let m = g.M.Model.meaning c.args.self.now.under in
    c.is_free.ensures ∙ barred_trimmed m c.args.state c.args.action (sym c.is_free.ensures ∙ c.if-is_free.false)
