-- The first fault of several: what a loop that looks for it keeps, and why it is the first.
use Rattle.std.proofs.Common.{◌≡◌, ℕ, zero, suc, ◌+◌, ◌<◌, ◌≤◌, length, get_or, Bool, true, false, ltb, ◌⊎◌, List, [], ◌∷◌, Some, None, Option, sym, refl, ap, ◌∙◌, subst, inl, inr, ⊎_elim, add-one, arith}
use Rattle.std.proofs.lemmas.Bool.{cases_lt, ltb-true, lt-ltb, or_cases, or_left, or_right}
use Rattle.std.proofs.lemmas.Grind.{common_steps}
use Rattle.std.proofs.lemmas.List.Quantifiers.{position-Some}
use Rattle.std.proofs.lemmas.List.Sums.{fails_before_first}
use Rattle.std.specs.List.{position, position_or_len}
use Rattle.std.specs.Option.{option_map}
use Rattle.model.specs.Firsts.{when, first_of, first_below, outside, NotAfter, IsFirst}

-- A test that is true gives its fault, and one that is false gives none.
pub when_true : {F : Type 0} (b : Bool) (x : F) → b ≡ true → when b x ≡ Some x
when_true b x e = ap (λ t. when t x) e

pub when_false : {F : Type 0} (b : Bool) (x : F) → b ≡ false → when b x ≡ None
when_false b x e = ap (λ t. when t x) e

-- The left one of two is there, or the right one is meant.
pub first_of_left : {F : Type 0} (o p : Option F) (x : F) → o ≡ Some x → first_of o p ≡ Some x
first_of_left o p x e = ap (λ r. first_of r p) e

pub first_of_right : {F : Type 0} (o p : Option F) → o ≡ None → first_of o p ≡ p
first_of_right o p e = ap (λ r. first_of r p) e

module _ {F : Type 0} (at : ℕ → Option F) where
  -- One place more without a fault.
  pub none_more : (i : ℕ) → first_below at i ≡ None → at i ≡ None → first_below at (i + 1) ≡ None
  none_more i none here = ap (first_below at) (add-one i) ∙ first_of_right (first_below at i) (at i) none ∙ here

  -- The first place with a fault is met.
  pub found : (i n : ℕ) (x : F) → i < n → first_below at i ≡ None → at i ≡ Some x → first_below at n ≡ Some x
  found i zero x h none here = absurd (omega arith)
  found i (suc n) x h none here =
      ⊎_elim
      (λ less. first_of_left (first_below at n) (at n) x (found i n x less none here))
      (λ more. let same : i ≡ n = omega arith in first_of_right (first_below at n) (at n) (subst (λ k. first_below at k ≡ None) same none) ∙ subst (λ k. at k ≡ Some x) same here)
      (cases_lt i n)

-- A number is outside a range where it is below or above it.
pub outside_true : (low high n : ℕ) → outside low high n ≡ true → (n < low) ⊎ (high < n)
outside_true low high n e = ⊎_elim (λ l. inl (ltb-true n low l)) (λ h. inr (ltb-true high n h)) (or_cases (ltb n low) (ltb high n) e)

pub outside_from : (low high n : ℕ) → (n < low) ⊎ (high < n) → outside low high n ≡ true
outside_from low high n = ⊎_elim (λ l. or_left (ltb n low) (ltb high n) (lt-ltb n low l)) (λ h. or_right (ltb n low) (ltb high n) (lt-ltb high n h))

-- Equal places can stand for each other.
pub not_after_at : {p q p' q' : List ℕ} → p ≡ p' → q ≡ q' → NotAfter p' q' → NotAfter p q
not_after_at {q} {p'} e d n = subst (λ x. NotAfter x q) (sym e) (subst (λ y. NotAfter p' y) (sym d) n)

-- No place is after itself.
pub not_after_itself : (p : List ℕ) → NotAfter p p
not_after_itself [] = tt
not_after_itself (x ∷ p) = inr (refl, not_after_itself p)

module _ {F : Type 0} (place : F → List ℕ) where
  -- One possible fault, with the test that tells whether it holds.
  pub first_when : (Holds : F → Type 0) (b : Bool) (x : F) → (b ≡ true → Holds x) → ((f : F) → Holds f → (f ≡ x) × (b ≡ true)) → IsFirst Holds place (when b x)
  first_when Holds true x holds only = (holds refl, λ g h. subst (λ f. NotAfter (place x) (place f)) (sym (only g h).0) (not_after_itself (place x)))
  first_when Holds false x holds only = λ f h. let z : ◌≡◌ {A = ℕ} 0 1 = cc (only f h).1 in absurd (omega arith)

  -- Two kinds of faults, those of the one kind before those of the other.
  pub first_of_both : (Holds Left Right : F → Type 0) (l r : Option F)
      → IsFirst Left place l → IsFirst Right place r
      → ((f : F) → Holds f → Left f ⊎ Right f) → ((f : F) → Left f → Holds f) → ((f : F) → Right f → Holds f)
      → ((f g : F) → Left f → Right g → NotAfter (place f) (place g))
      → IsFirst Holds place (first_of l r)
  first_of_both Holds Left Right None None il ir split fl fr cross = λ f h. ⊎_elim (il f) (ir f) (split f h)
  first_of_both Holds Left Right None (Some y) il ir split fl fr cross = (fr y ir.0, λ g h. ⊎_elim (λ t. absurd (il g t)) (ir.1 g) (split g h))
  first_of_both Holds Left Right (Some x) r il ir split fl fr cross = (fl x il.0, λ g h. ⊎_elim (il.1 g) (cross x g il.0) (split g h))

  -- A kind of fault for each place below n, those of a lower place first.
  pub first_at_places : (Kind : ℕ → F → Type 0) (at : ℕ → Option F)
      → ((i j : ℕ) → i < j → (f g : F) → Kind i f → Kind j g → NotAfter (place f) (place g))
      → (n : ℕ) → ((i : ℕ) → i < n → IsFirst (Kind i) place (at i))
      → IsFirst (λ f. (i : ℕ) × (i < n) × Kind i f) place (first_below at n)
  first_at_places Kind at cross zero each = λ f h. absurd (omega (arith, h.1))
  first_at_places Kind at cross (suc n) each =
      first_of_both (λ f. (i : ℕ) × (i < suc n) × Kind i f) (λ f. (i : ℕ) × (i < n) × Kind i f) (Kind n) (first_below at n) (at n)
      (first_at_places Kind at cross n (λ i h. each i (omega arith))) (each n (omega arith))
      (λ f h. ⊎_elim (λ less. inl (h.0, less, h.2)) (λ more. inr (subst (λ i. Kind i f) (omega (arith, h.1)) h.2)) (cases_lt h.0 n))
      (λ f h. (h.0, omega (arith, h.1), h.2))
      (λ f h. (n, omega arith, h))
      (λ f g l r. cross l.0 n l.1 f g l.2 r)

  -- The same faults under another description.
  pub first_same : (Holds Other : F → Type 0) (r : Option F) → IsFirst Holds place r → ((f : F) → Holds f → Other f) → ((f : F) → Other f → Holds f) → IsFirst Other place r
  first_same Holds Other None i to from = λ f h. i f (from f h)
  first_same Holds Other (Some x) i to from = (to x i.0, λ g h. i.1 g (from g h))

-- No place below n has a fault where no test is true.
none_below : {X F : Type 0} (p : X → Bool) (f : ℕ → F) (xs : List X) (d : X) (n : ℕ) → ((k : ℕ) → k < n → p (get_or xs k d) ≡ false) → first_below (λ j. when (p (get_or xs j d)) (f j)) n ≡ None
none_below p f xs d zero none = refl
none_below p f xs d (suc n) none =
    first_of_right _ _ (none_below p f xs d n (λ k h. none k (omega arith))) ∙ when_false (p (get_or xs n d)) (f n) (none n (omega arith))

-- The first entry of a list that a test finds faulty.
pub first_by_position : {X F : Type 0} (p : X → Bool) (f : ℕ → F) (xs : List X) (d : X) → first_below (λ j. when (p (get_or xs j d)) (f j)) (length xs) ≡ option_map f (position p xs)
first_by_position p f xs d = go (position p xs) refl
  where
    go : (r : Option ℕ) → position p xs ≡ r → first_below (λ j. when (p (get_or xs j d)) (f j)) (length xs) ≡ option_map f (position p xs)
    go None e =
        let all : length xs ≤ position_or_len p xs = grind (arith, common_steps) in
        none_below p f xs d (length xs) (λ k h. fails_before_first p xs k d (omega arith)) ∙ sym (ap (option_map f) e)
    go (Some i) e =
        let at = position-Some p xs i d e in
        found (λ j. when (p (get_or xs j d)) (f j)) i (length xs) (f i) at.0 (none_below p f xs d i at.2) (when_true (p (get_or xs i d)) (f i) at.1)
        ∙ sym (ap (option_map f) e)
