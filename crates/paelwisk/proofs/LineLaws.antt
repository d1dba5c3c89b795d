-- How the lines of answers are put together.
use Rattle.std.proofs.Common.{◌≡◌, ℕ, suc, ◌<◌, List, [], ◌∷◌, length, get_or, refl, arith}
use Rattle.std.specs.List.{flat_map}

-- Two lists whose elements have the same texts.
pub joined_same : {X : Type 0} (f : X → List ℕ) (g : ℕ → List ℕ) (xs : List X) (ns : List ℕ) → length xs ≡ length ns → ((k : ℕ) (d : X) → k < length ns → f (get_or xs k d) ≡ g (get_or ns k 0)) → flat_map f xs ≡ flat_map g ns
joined_same f g [] [] long same = refl
joined_same f g [] (n ∷ ns) long same = absurd (omega (arith, long))
joined_same f g (x ∷ xs) [] long same = absurd (omega (arith, long))
joined_same f g (x ∷ xs) (n ∷ ns) long same =
    let rest : flat_map f xs ≡ flat_map g ns = joined_same f g xs ns (omega (arith, long)) (λ k d h. same (suc k) d (omega (arith, h))) in
    rw (same 0 x (omega arith), rest)
