use Rattle.std.proofs.Common.{◌≡◌, min, ◌⊎◌, [], ◌∷◌, sym, ap, ◌∙◌, inl, inr, arith, rules}
use Rattle.model.specs.Meaning.{Free}
use Rattle.valve.specs.SetUp.{test_at}
use Rattle.valve.specs.Valves.{inside_part, outside_part}
use Rattle.valve.proofs.ValveStates.{count_few, has_test, action_is, test_barred, test_free}
use Rattle.valve.proofs.valves.ValveModel.split.Goals as goal
use Rattle.valve.proofs.valves.ValveModel.split.Goals.{then-inside-eq0-via-then-inside-eq0, then-inside-eq0-via-else-inside-eq0+then-outside-eq0}

pub offset_bounds-self-test : goal.offset_bounds-self-test
offset_bounds-self-test c =
    let v = c.args.self.now in
    let h = has_test v c.args.state c.args.test (omega arith) in
    let few = count_few v in
    search rules

pub bounds-self-test : goal.bounds-self-test
bounds-self-test c =
    let v = c.args.self.now in
    omega (arith, count_few v, has_test v c.args.state c.args.test (omega arith))

pub bounds-self-test-2 : goal.bounds-self-test-2
bounds-self-test-2 c =
    let v = c.args.self.now in
    omega (arith, count_few v, has_test v c.args.state c.args.test (omega arith))

pub returns-then-inside-eq0 : goal.returns-then-inside-eq0
returns-then-inside-eq0 c =
    let v = c.args.self.now in
    let t = test_at v.tests c.args.test in
    let e : (inside_part c.args.state t.set ≡ 0) ⊎ (outside_part c.args.state t.set ≡ 0) =
    elim c.then-inside-eq0.branch [
      | then-inside-eq0-via-then-inside-eq0 w ↦ inl w.if-inside-eq0.true
      | then-inside-eq0-via-else-inside-eq0+then-outside-eq0 w ↦ inr w.if-outside-eq0.true
    ] in
    sym (action_is v c.args.state c.args.test (omega arith) ∙ test_barred c.args.state t e)

pub returns : goal.returns
returns c =
    let v = c.args.self.now in
    let m = c.args.state in
    let t = test_at v.tests c.args.test in
    ap (λ x. Free t.task (x ∷ c.max.result ∷ [])) c.min.ensures
    ∙ ap (λ y. Free t.task (min (inside_part m t.set) (outside_part m t.set) ∷ y ∷ [])) c.max.ensures
    ∙ sym (action_is v m c.args.test (omega arith) ∙ test_free m t c.if-inside-eq0.false c.if-outside-eq0.false)
