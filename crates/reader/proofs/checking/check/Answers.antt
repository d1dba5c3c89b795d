use Rattle.std.proofs.Common.{◌≡◌, false, [], ◌∷◌, ◌++◌, length, None, sym, ap, ◌∙◌, subst, arith, rules}
use Rattle.std.proofs.lemmas.List.{append-nil, nil_from_length}
use Rattle.std.proofs.lemmas.Bool.{eqb-true, eqb-false}
use Rattle.sheet.specs.Blocks.{shown, blocks_bytes}
use Rattle.sheet.specs.Stages.{beginning, after, after_all, cause_of, all_read}
use Rattle.sheet.specs.Wrongs.{Wrong, NoField}
use Rattle.sheet.specs.declared.faults.SheetFault.TheVariants.{Ends}
use Rattle.sheet.proofs.Splitting.{none_short}
use Rattle.reader.proofs.Fronts.{bytes_small, one_more, right_more, known_more}
use Rattle.reader.proofs.Stepping.{refused_wrong}
use Rattle.reader.proofs.Verdicts.{ended}
use Rattle.reader.proofs.checking.check.Goals as goal

pub returns-in_err-next : goal.returns-in_err-next
returns-in_err-next c =
    let b = c.args.sheet.now in
    let r = c.loop-rest.rest.now in
    let inv = c.loop-rest.invariant in
    let small = bytes_small b c.type_inv.sheet in
    let some : (r ≡ [] → ⊥) = λ e. eqb-false (length r) 0 (sym c.loop-rest-test.ensures) (ap length e) in
    let wrong = refused_wrong b small (omega arith) inv.0 inv.1.1 r inv.1.0 some in
    search rules

pub loop-rest-preserved : goal.loop-rest-preserved
loop-rest-preserved c =
    let b = c.args.sheet.now in
    let inv = c.loop-rest.invariant in
    let n = c.in_ok-next.next in
    let f = shown n.field in
    let step = c.in_ok-next.ensures in (
      inv.0 ++ f ∷ [],
      (
        one_more inv.0 f b n.rest.now (inv.1.0 ∙ ap (λ l. blocks_bytes inv.0 ++ l) step.first),
        right_more inv.0 f inv.1.1 (subst (λ d. cause_of d f ≡ None) inv.1.2 step.fine),
        step.known ∙ ap (λ d. after d f) inv.1.2 ∙ sym (known_more inv.0 f),
      ),
    )

pub returns-else-is_whole : goal.returns-else-is_whole
returns-else-is_whole c =
    let b = c.args.sheet.now in
    let r = c.loop-rest.rest.now in
    let inv = c.loop-rest.invariant in
    let none : r ≡ [] = nil_from_length r (eqb-true (length r) 0 (sym c.loop-rest-test.ensures)) in
    let all : b ≡ blocks_bytes inv.0 = inv.1.0 ∙ ap (λ l. blocks_bytes inv.0 ++ l) none ∙ append-nil (blocks_bytes inv.0) in
    let small = bytes_small b c.type_inv.sheet in
    let unread : all_read (after_all beginning inv.0) ≡ false = ap all_read (sym inv.1.2) ∙ sym c.is_whole.ensures ∙ c.if-is_whole.false in
    subst (λ p. Wrong b (Ends p)) (sym (ap length all))
    (ended b small (omega arith) inv.0 inv.1.1 r inv.1.0 (subst NoField (sym none) (none_short [] (omega arith))) (λ e. unread))
