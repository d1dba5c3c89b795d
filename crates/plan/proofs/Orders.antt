-- What `<` of two costs tells of their numbers.
use Rattle.std.proofs.Common.{◌≡◌, ℕ, ◌<◌, ◌≤◌, Bool, true, false, sym, ◌∙◌, arith}
use Rattle.std.specs.Ordering.{nat_cmp, is_lt}
use Rattle.std.proofs.lemmas.Bool.Decides.{nat_tests}
use Rattle.std.proofs.lemmas.Map.Keys.{ge_from_not_lt}
use Rattle.cost.specs.declared.amount.Cost.{Cost}

less_than : (a b : ℕ) → is_lt (nat_cmp a b) ≡ true → a < b
less_than a b e = grind (arith, nat_tests)

pub cost_less : (a b : Cost) (less : Bool) → less ≡ is_lt (nat_cmp a.value b.value) → less ≡ true → a.value < b.value
cost_less a b less is e = less_than a.value b.value (sym is ∙ e)

pub cost_not_less : (a b : Cost) (less : Bool) → less ≡ is_lt (nat_cmp a.value b.value) → less ≡ false → b.value ≤ a.value
cost_not_less a b less is e = ge_from_not_lt a.value b.value (sym is ∙ e)
