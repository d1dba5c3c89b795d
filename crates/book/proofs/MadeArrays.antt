-- Arrays that calls of a closure made.
use Rattle.std.proofs.Common.{◌≡◌, ◌<◌, ◌≤◌, ℕ, zero, suc, ◌+◌, List, sym, subst, ⊎_elim, arith}
use denote.Param.Members.{Mut}
use Rattle.std.specs.Array.{IsElementAt, IsFromFnResultFrom}
use Rattle.std.specs.Fn.{Called}
use Rattle.std.proofs.lemmas.Bool.{cases_eq}

-- What each call gave, where the calls leave the closure as it is.
pub each_made : {F B : Type 0} (g : Mut F (ℕ × Unit {0}) B) (P : ℕ → B → Type 0) (f : F) → ((i : ℕ) (y : B) (q : F) → Called g f (i, tt) y q → (q ≡ f) × P i y)
    → (ys : List B) (n i : ℕ) → IsFromFnResultFrom g f ys i n → (k : ℕ) → i ≤ k → k < i + n → (y : B) × IsElementAt ys k y × P k y
each_made g P f step ys zero i made k low high = absurd (omega arith)
each_made g P f step ys (suc n) i (q, y, at, called, rest) k low high =
    let turn = step i y q called in
    ⊎_elim
    (λ same. subst (λ j. (y : _) × IsElementAt ys j y × P j y) (sym same) (y, at, turn.1))
    (λ other. each_made g P f step ys n (i + 1) (subst (λ x. IsFromFnResultFrom g x ys (i + 1) n) turn.0 rest) k (omega arith) (omega arith))
    (cases_eq k i)
