-- What one field writes goes to the next places of the tables.
use Rattle.std.proofs.Common.{◌≡◌, ℕ, suc, ◌+◌, ◌-◌, ◌<◌, ◌≤◌, List, [], ◌∷◌, ◌++◌, length, get_or, drop, set, replicate, sym, ap, ◌∙◌, append_assoc, add-zero, arith, length-append}
use Rattle.std.proofs.lemmas.List.{append-nil, drop_more, set_at, replicate-append-replicate, length-replicate}
use Rattle.reader.specs.Puts.{sets}

-- An entry after a front goes to the next place.
pub set_next : {X : Type 0} (front old : List X) (x : X) (n : ℕ) → length front ≡ n → n < length old → set (front ++ drop n old) n x ≡ (front ++ x ∷ []) ++ drop (n + 1) old
set_next front old x n f h =
    ap (λ l. set (front ++ l) n x) (drop_more old n x h)
    ∙ set_at front (get_or old n x) (drop (n + 1) old) x n f
    ∙ sym (append_assoc front (x ∷ []) (drop (n + 1) old))

-- Numbers after a front go to the next places.
pub sets_next : (os front old : List ℕ) (n : ℕ) → length front ≡ n → n + length os ≤ length old → sets (front ++ drop n old) n os ≡ (front ++ os) ++ drop (n + length os) old
sets_next [] front old n f h = sym (ap (λ l. l ++ drop (n + 0) old) (append-nil front) ∙ ap (λ i. front ++ drop i old) (add-zero n))
sets_next (o ∷ os) front old n f h =
    ap (λ l. sets l (n + 1) os) (set_next front old o n f (omega arith))
    ∙ sets_next os (front ++ o ∷ []) old (n + 1) (omega (arith, length-append front (o ∷ []))) (omega arith)
    ∙ ap (λ l. l ++ drop (n + 1 + length os) old) (append_assoc front (o ∷ []) os)
    ∙ ap (λ i. (front ++ o ∷ os) ++ drop i old) (omega arith)

-- A price goes to its task, after those that are 1.
pub price_next : (front : List ℕ) (t p : ℕ) → length front ≤ t → t < 64 → set (front ++ replicate (64 - length front) 1) t p ≡ (front ++ (replicate (t - length front) 1 ++ p ∷ [])) ++ replicate (64 - length (front ++ (replicate (t - length front) 1 ++ p ∷ []))) 1
price_next front t p low high =
    let n = length front in
    let ones : List ℕ = replicate (t - n) 1 in
    let rest : List ℕ = replicate (63 - t) 1 in
    let split : replicate (64 - n) 1 ≡ ones ++ 1 ∷ rest =
    ap (λ k. replicate k 1) (omega arith) ∙ sym (replicate-append-replicate (t - n) (suc (63 - t)) 1) in
    let place : length (front ++ ones) ≡ t = omega (arith, length-append front ones, length-replicate {A = ℕ} (t - n) 1) in
    let whole : length (front ++ (ones ++ p ∷ [])) ≡ t + 1 =
    omega (arith, length-append front (ones ++ p ∷ []), length-append ones (p ∷ []), length-replicate {A = ℕ} (t - n) 1) in
    ap (λ l. set (front ++ l) t p) split
    ∙ ap (λ l. set l t p) (sym (append_assoc front ones (1 ∷ rest)))
    ∙ set_at (front ++ ones) 1 rest p t place
    ∙ sym (append_assoc (front ++ ones) (p ∷ []) rest)
    ∙ ap (λ l. l ++ rest) (append_assoc front ones (p ∷ []))
    ∙ ap (λ k. (front ++ (ones ++ p ∷ [])) ++ replicate k 1) (omega (arith, whole))
