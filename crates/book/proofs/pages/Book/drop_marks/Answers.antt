use Rattle.std.proofs.Common.{◌≡◌, ◌≤◌, ℕ, ◌++◌, Bool, length, take, drop, set, sym, refl, ap, ◌∙◌, subst, arith}
use Rattle.std.proofs.lemmas.List.{length-take-le}
use Rattle.model.specs.Meaning.{is_end, state_at}
use Rattle.book.specs.Openings.{first_by}
use Rattle.book.specs.Pages.{Sound, page}
use Rattle.book.proofs.OpenedBooks.{unmarked_sound}
use Rattle.book.proofs.PageParts.{pages_same}
use Rattle.book.proofs.Firsts.{first_by_more, first_by_part}
use Rattle.book.proofs.pages.Book.drop_marks.Goals as goal

pub loop-state-preserved : goal.loop-state-preserved
loop-state-preserved g c =
    let f : ℕ → Bool = λ s. is_end (state_at (g.M.Model.meaning c.args.model.now) s) in
    let old = take c.entries.result c.args.self.now.planned in
    let k = c.loop-state.state in
    ap (λ l. set l k c.is_end.result) c.loop-state.invariant ∙ ap (set (first_by f k old) k) c.is_end.ensures ∙ first_by_more f k old (omega arith)

pub returns : goal.returns
returns g c =
    let m = g.M.Model.meaning c.args.model.now in
    let f : ℕ → Bool = λ s. is_end (state_at m s) in
    let n = c.entries.result in
    let old = c.args.self.now.planned in
    let inside : n ≤ length old = omega (arith, c.entries.ensures) in
    let all : c.loop-state.state ≡ n = omega (arith, length-take-le n old inside) in
    let known = c.loop-state.invariant ∙ ap (λ k. first_by f k (take n old)) all in
    let marks = ap (λ l. l ++ drop n old) known ∙ first_by_part f n old inside ∙ ap (λ k. first_by f k old) c.entries.ensures in
    let after = pages_same (page record { bounds = c.args.self.now.bounds; planned = c.loop-state.known ++ drop n old; kept = c.args.self.now.kept }) _ _ _ refl marks refl in
    record { after = after; sound = λ value prices opens lawful. subst (Sound m value prices) (sym after) (unmarked_sound m opens value prices (page c.args.self.now) lawful) }
