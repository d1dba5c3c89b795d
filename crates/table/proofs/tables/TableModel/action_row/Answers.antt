use Rattle.std.proofs.Common.{get_or, unwrap_or, sym, ap, ◌∙◌}
use Rattle.std.specs.Option.{option_map}
use Rattle.model.specs.Meaning.{Barred, actions}
use Rattle.table.specs.Tables.{table_action, part}
use Rattle.model.proofs.Lookups.{get_or_map_nth}
use Rattle.table.proofs.tables.TableModel.action_row.Goals as goal

pub returns-in-Open : goal.returns-in-Open
returns-in-Open c =
    let t = c.args.self.now in
    let f = table_action t.outcomes.now in
    let a = c.args.action in
    ap (λ r. unwrap_or (option_map f r) Barred) c.entry.ensures
    ∙ sym (get_or_map_nth f (part t.actions.now c.in-Open.span) a Barred)
    ∙ ap (λ s. get_or (actions s) a Barred) c.in-Open.ensures
