-- A list that is made element by element.
use Rattle.std.proofs.Common.{◌≡◌, ℕ, ◌+◌, ◌<◌, List, [], ◌∷◌, ◌++◌, map, length, get_or, arith, below_more}
use Rattle.std.specs.List.{range_with_len}
use Rattle.std.proofs.lemmas.List.{ext_get_or, get_or_append_left, get_or_push}
use Rattle.std.proofs.lemmas.List.FromFn.{length-map-range_with_len, get_or-map-range_with_len}

-- Each element has the property that its place asks for.
pub places_more : {X : Type 0} (P : ℕ → X → Type 0) (xs ys : List X) (x : X) (i : ℕ) → ys ≡ xs ++ x ∷ [] → length xs ≡ i → ((k : ℕ) (d : X) → k < i → P k (get_or xs k d)) → P i x → (k : ℕ) (d : X) → k < i + 1 → P k (get_or ys k d)
places_more {X} P xs ys x i e long before here k d h =
    rw e
    (below_more (λ (j : ℕ). P j (get_or (xs ++ x ∷ []) j d)) i
    (λ j l. rw (get_or_append_left xs (x ∷ []) d j (omega arith)) (before j d l))
    (rw (get_or_push xs x d i long) here)
    k h)

-- A list is its elements, place by place.
pub each_by_place : {X : Type 0} (xs : List X) (n : ℕ) (d : X) → n ≡ length xs → map (λ j. get_or xs j d) (range_with_len 0 n) ≡ xs
each_by_place {X} xs n d e =
    let f : ℕ → X = λ j. get_or xs j d in
    let long = length-map-range_with_len f 0 n in
    ext_get_or d (map f (range_with_len 0 n)) xs (omega arith)
    (λ i h. get_or-map-range_with_len f 0 n i i d (omega arith) (omega arith))
