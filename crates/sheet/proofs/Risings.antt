-- Outcomes that ascend, one after the other.
use Rattle.std.proofs.Common.{◌≡◌, ℕ, suc, ◌+◌, ◌<◌, ◌≤◌, Bool, true, false, ◌&&◌, ltb, leb, ◌⊎◌, List, length, get_or, drop, sym, refl, ap, ◌∙◌, ⊎_elim, add-one}
use Rattle.std.proofs.lemmas.List.{at_drop_more}
use Rattle.std.proofs.lemmas.Bool.{le-leb, lt-ltb, lt-leb, le-ltb}
use Rattle.sheet.specs.Stages.{rising}

and_false : (b : Bool) → b && false ≡ false
and_false true = refl
and_false false = refl

module _ (n low : ℕ) (os : List ℕ) (k : ℕ) (there : k < length os) (o : ℕ) (here : get_or os k 0 ≡ o) where
  step : rising n low (drop k os) ≡ leb low o && (ltb o n && rising n (suc o) (drop (k + 1) os))
  step = at_drop_more (rising n low) os k 0 there ∙ ap (λ x. leb low x && (ltb x n && rising n (suc x) (drop (k + 1) os))) here

  pub rise_fails : (o < low) ⊎ (n ≤ o) → rising n low (drop k os) ≡ false
  rise_fails h =
      let more = rising n (suc o) (drop (k + 1) os) in
      step
      ∙ ⊎_elim
      (λ l. ap (λ b. b && (ltb o n && more)) (lt-leb low o l))
      (λ l. ap (λ b. leb low o && (b && more)) (le-ltb o n l) ∙ and_false (leb low o))
      h

  pub rise_more : low ≤ o → o < n → rising n low (drop k os) ≡ rising n (o + 1) (drop (k + 1) os)
  rise_more l s =
      let more = rising n (suc o) (drop (k + 1) os) in
      step
      ∙ ap (λ b. b && (ltb o n && more)) (le-leb low o l)
      ∙ ap (λ b. b && more) (lt-ltb o n s)
      ∙ ap (λ x. rising n x (drop (k + 1) os)) (sym (add-one o))
