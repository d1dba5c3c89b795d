use Rattle.std.proofs.Common.{sym, refl, subst}
use Rattle.cost.specs.Prices.{figures}
use Rattle.sheet.specs.Stages.{stage}
use Rattle.reader.specs.Reads.{tables, room_of, stage_size, ReadInto}
use Rattle.reader.proofs.Fronts.{bytes_small}
use Rattle.reader.proofs.Readings.{short_states, short_actions, short_outcomes, short_refused, read_into}
use Rattle.reader.proofs.reading.read.Goals as goal

pub returns-then-states-due : goal.returns-then-states-due
returns-then-states-due c =
    let d = stage c.in_ok-due.due in
    let b = c.args.sheet.now in
    let room = room_of (tables c.args.states.now c.args.actions.now c.args.outcomes.now (figures c.args.prices.now)) in
    record {
      read = short_refused b (bytes_small b c.type_inv.sheet) d c.in_ok-due.ensures room 0 (short_states (stage_size d) room c.if-states-due.true);
      refused = (refl, refl, refl, refl);
    }

pub returns-then-actions-due : goal.returns-then-actions-due
returns-then-actions-due c =
    let d = stage c.in_ok-due.due in
    let b = c.args.sheet.now in
    let room = room_of (tables c.args.states.now c.args.actions.now c.args.outcomes.now (figures c.args.prices.now)) in
    record {
      read = short_refused b (bytes_small b c.type_inv.sheet) d c.in_ok-due.ensures room 1 (short_actions (stage_size d) room c.if-states-due.false c.if-actions-due.true);
      refused = (refl, refl, refl, refl);
    }

pub returns-then-outcomes-due : goal.returns-then-outcomes-due
returns-then-outcomes-due c =
    let d = stage c.in_ok-due.due in
    let b = c.args.sheet.now in
    let room = room_of (tables c.args.states.now c.args.actions.now c.args.outcomes.now (figures c.args.prices.now)) in
    record {
      read = short_refused b (bytes_small b c.type_inv.sheet) d c.in_ok-due.ensures room 2 (short_outcomes (stage_size d) room c.if-states-due.false c.if-actions-due.false c.if-outcomes-due.true);
      refused = (refl, refl, refl, refl);
    }

pub returns : goal.returns
returns c =
    let d = stage c.in_ok-due.due in
    let b = c.args.sheet.now in
    let whole = c.in_ok-due.ensures in
    let old = tables c.args.states.now c.args.actions.now c.args.outcomes.now (figures c.args.prices.now) in
    let new = tables c.fill.new.states c.fill.new.actions c.fill.new.outcomes (figures c.fill.new.prices) in
    let into = read_into b (bytes_small b c.type_inv.sheet) d whole old new
    (record { states_fit = c.if-states-due.false; actions_fit = c.if-actions-due.false; outcomes_fit = c.if-outcomes-due.false })
    (c.fill.ensures whole.blocks whole.same whole.right) in
    record {
      read = subst (λ s. ReadInto b s old new) (sym c.from.ensures) into;
      refused = tt;
    }
