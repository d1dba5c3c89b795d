use Rattle.std.proofs.Common.{◌≡◌, [], ◌∷◌, ◌<◌, false, Some, Result, Ok, Err, MatchResult, length, sym, ap, ◌∙◌, subst, rules, arith, length-append}
use Rattle.std.proofs.lemmas.Bool.{true≢false}
use Rattle.std.proofs.lemmas.Result.{MatchResult-at_ok}
use Rattle.std.specs.Result.{is_ok, result_ok}
use Rattle.cost.specs.Prices.{figures}
use Rattle.book.specs.Looks.{Seen}
use Rattle.book.specs.Pages.{page}
use Rattle.book.specs.Trails.{Entered}
use Rattle.book.proofs.Going.{going_begins, going_settles, going_idle, going_stops, going_raises, going_marks, going_full, going_enters}
use Rattle.book.proofs.Underway.{ready}
use Rattle.book.proofs.Unmarked.{unmarked, unmarked_less}
use Rattle.book.proofs.Wholes.{page_whole}
use Rattle.book.proofs.pages.Book.search.Goals as goal

stuck : {A E : Type 0} (P Q : Type 0) (r : Result A E) → is_ok r ≡ false → MatchResult r (λ _. P) (λ _. Q) → Q
stuck P Q (Ok x) e h = absurd (true≢false e)
stuck P Q (Err x) e h = h

pub loop-allowance-init : goal.loop-allowance-init
loop-allowance-init g c =
    going_begins (g.M.Model.meaning c.args.problem.now.model.now) g.R.Rule.value (figures c.args.problem.now.prices.now) c.args.start c.args.cap.value c.args.allowance.value (page c.args.self.now)
    (omega arith) c.new-trail.result c.new-trail.ensures.start c.new-trail.ensures.states

pub returns-in_err-look : goal.returns-in_err-look
returns-in_err-look g c = λ opens there sound.
    let known = ready (g.M.Model.meaning c.args.problem.now.model.now) g.R.Rule.value c.args.problem.now.prices.now c.args.start c.args.cap c.args.self.now g.met.R.Rule.lawful (page_whole c.args.self.now (omega arith) (omega arith) (omega arith)) opens there sound in
    let none = subst (Seen (g.M.Model.meaning c.args.problem.now.model.now) g.R.Rule.value (figures c.args.problem.now.prices.now) (page c.loop-allowance.self) c.last-state.result) (c.ok_or.ensures.ok_part ∙ ap result_ok c.in_err-look.was) c.look.ensures in
    absurd (going_idle (g.M.Model.meaning c.args.problem.now.model.now) g.R.Rule.value (figures c.args.problem.now.prices.now) c.args.start c.args.cap.value c.args.allowance.value (page c.args.self.now) (page c.loop-allowance.self) c.loop-allowance.raises c.loop-allowance.trail c.loop-allowance.invariant c.loop-allowance-test.ensures c.last-state.result c.last-state.ensures known none)

pub returns-then-raises-get : goal.returns-then-raises-get
returns-then-raises-get g c = λ opens there sound.
    let known = ready (g.M.Model.meaning c.args.problem.now.model.now) g.R.Rule.value c.args.problem.now.prices.now c.args.start c.args.cap c.args.self.now g.met.R.Rule.lawful (page_whole c.args.self.now (omega arith) (omega arith) (omega arith)) opens there sound in
    let seen = subst (Seen (g.M.Model.meaning c.args.problem.now.model.now) g.R.Rule.value (figures c.args.problem.now.prices.now) (page c.loop-allowance.self) c.last-state.result) (c.ok_or.ensures.ok_part ∙ ap result_ok c.in_ok-look.was ∙ ap Some c.in-Raise.is) c.look.ensures in
    going_stops (g.M.Model.meaning c.args.problem.now.model.now) g.R.Rule.value (figures c.args.problem.now.prices.now) c.args.start c.args.cap.value c.args.allowance.value (page c.args.self.now) (page c.loop-allowance.self) c.loop-allowance.raises c.loop-allowance.trail c.loop-allowance.invariant c.loop-allowance-test.ensures c.last-state.result c.last-state.ensures c.in-Raise.cost seen known (c.if-raises-get.true ∙ c.get.ensures)

pub loop-allowance-preserved-in-Raise : goal.loop-allowance-preserved-in-Raise
loop-allowance-preserved-in-Raise g c =
    let seen = subst (Seen (g.M.Model.meaning c.args.problem.now.model.now) g.R.Rule.value (figures c.args.problem.now.prices.now) (page c.loop-allowance.self) c.last-state.result) (c.ok_or.ensures.ok_part ∙ ap result_ok c.in_ok-look.was ∙ ap Some c.in-Raise.is) c.look.ensures in
    going_raises (g.M.Model.meaning c.args.problem.now.model.now) g.R.Rule.value (figures c.args.problem.now.prices.now) c.args.start c.args.cap.value c.args.allowance.value (page c.args.self.now) (page c.loop-allowance.self) c.loop-allowance.raises c.loop-allowance.trail c.loop-allowance.invariant c.loop-allowance-test.ensures c.last-state.result c.last-state.ensures c.in-Raise.cost seen
    (λ all. c.if-raises-get.false (all ∙ sym c.get.ensures)) (page c.raise.new.self) c.leave.new.self c.raise.ensures c.leave.ensures

pub loop-allowance-smaller-in-Mark : goal.loop-allowance-smaller-in-Mark
loop-allowance-smaller-in-Mark g c =
    let seen = subst (Seen (g.M.Model.meaning c.args.problem.now.model.now) g.R.Rule.value (figures c.args.problem.now.prices.now) (page c.loop-allowance.self) c.last-state.result) (c.ok_or.ensures.ok_part ∙ ap result_ok c.in_ok-look.was ∙ ap Some c.in-Mark.is) c.look.ensures in
    let marks = c.loop-allowance.self.planned in
    let inside : c.last-state.result < length marks = omega (arith, seen.0, c.loop-allowance.invariant.marks) in
    let fewer = unmarked_less marks c.last-state.result inside seen.1 in
    let same = ap (λ q. unmarked q.planned) c.mark.ensures in
    omega (arith, fewer, same)

pub loop-allowance-preserved-in-Mark : goal.loop-allowance-preserved-in-Mark
loop-allowance-preserved-in-Mark g c =
    let seen = subst (Seen (g.M.Model.meaning c.args.problem.now.model.now) g.R.Rule.value (figures c.args.problem.now.prices.now) (page c.loop-allowance.self) c.last-state.result) (c.ok_or.ensures.ok_part ∙ ap result_ok c.in_ok-look.was ∙ ap Some c.in-Mark.is) c.look.ensures in
    going_marks (g.M.Model.meaning c.args.problem.now.model.now) g.R.Rule.value (figures c.args.problem.now.prices.now) c.args.start c.args.cap.value c.args.allowance.value (page c.args.self.now) (page c.loop-allowance.self) c.loop-allowance.raises c.loop-allowance.trail c.loop-allowance.invariant c.loop-allowance-test.ensures c.last-state.result c.last-state.ensures c.in-Mark.action seen
    (page c.mark.new.self) c.leave-in-Mark.new.self c.mark.ensures c.leave-in-Mark.ensures

pub loop-allowance-smaller : goal.loop-allowance-smaller
loop-allowance-smaller g c =
    let entered : Entered c.loop-allowance.trail c.in-Enter.outcome c.enter.new.self = MatchResult-at_ok {r = c.enter.result} _ _ (tt {0}) (search (rules, c.map_err.ensures, c.in_ok-map_err-in-Enter.was)) c.enter.ensures in
    let longer = ap length entered.states ∙ length-append c.loop-allowance.trail.states.items (c.in-Enter.outcome ∷ []) in
    omega (arith, longer, entered.room)

pub loop-allowance-preserved : goal.loop-allowance-preserved
loop-allowance-preserved g c =
    let seen = subst (Seen (g.M.Model.meaning c.args.problem.now.model.now) g.R.Rule.value (figures c.args.problem.now.prices.now) (page c.loop-allowance.self) c.last-state.result) (c.ok_or.ensures.ok_part ∙ ap result_ok c.in_ok-look.was ∙ ap Some c.in-Enter.is) c.look.ensures in
    going_enters (g.M.Model.meaning c.args.problem.now.model.now) g.R.Rule.value (figures c.args.problem.now.prices.now) c.args.start c.args.cap.value c.args.allowance.value (page c.args.self.now) (page c.loop-allowance.self) c.loop-allowance.raises c.loop-allowance.trail c.loop-allowance.invariant c.loop-allowance-test.ensures c.last-state.result c.last-state.ensures c.in-Enter.outcome seen c.enter.new.self
    (MatchResult-at_ok {r = c.enter.result} _ _ (tt {0}) (search (rules, c.map_err.ensures, c.in_ok-map_err-in-Enter.was)) c.enter.ensures)

pub returns-in_err-map_err-in-Enter : goal.returns-in_err-map_err-in-Enter
returns-in_err-map_err-in-Enter g c = λ opens there sound.
    let known = ready (g.M.Model.meaning c.args.problem.now.model.now) g.R.Rule.value c.args.problem.now.prices.now c.args.start c.args.cap c.args.self.now g.met.R.Rule.lawful (page_whole c.args.self.now (omega arith) (omega arith) (omega arith)) opens there sound in
    let seen = subst (Seen (g.M.Model.meaning c.args.problem.now.model.now) g.R.Rule.value (figures c.args.problem.now.prices.now) (page c.loop-allowance.self) c.last-state.result) (c.ok_or.ensures.ok_part ∙ ap result_ok c.in_ok-look.was ∙ ap Some c.in-Enter.is) c.look.ensures in
    absurd (going_full (g.M.Model.meaning c.args.problem.now.model.now) g.R.Rule.value (figures c.args.problem.now.prices.now) c.args.start c.args.cap.value c.args.allowance.value (page c.args.self.now) (page c.loop-allowance.self) c.loop-allowance.raises c.loop-allowance.trail c.loop-allowance.invariant c.loop-allowance-test.ensures c.last-state.result c.last-state.ensures c.in-Enter.outcome seen known
    (stuck _ _ c.enter.result (sym c.map_err.ensures.variant ∙ ap is_ok c.in_err-map_err-in-Enter.was) c.enter.ensures))

pub returns : goal.returns
returns g c = λ opens there sound.
    let known = ready (g.M.Model.meaning c.args.problem.now.model.now) g.R.Rule.value c.args.problem.now.prices.now c.args.start c.args.cap c.args.self.now g.met.R.Rule.lawful (page_whole c.args.self.now (omega arith) (omega arith) (omega arith)) opens there sound in
    going_settles (g.M.Model.meaning c.args.problem.now.model.now) g.R.Rule.value (figures c.args.problem.now.prices.now) c.args.start c.args.cap.value c.args.allowance.value (page c.args.self.now) (page c.loop-allowance.self) c.loop-allowance.raises c.loop-allowance.trail c.loop-allowance.invariant known c.loop-allowance-test.ensures c.verdict.result c.verdict.ensures
