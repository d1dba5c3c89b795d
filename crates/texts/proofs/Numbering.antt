-- How the texts of numbered elements are put together.
use Rattle.std.proofs.Common.{◌≡◌, ℕ, ◌+◌, ◌<◌, ◌≤◌, List, ◌++◌, length, get_or, drop, sym, ◌∙◌, add-one}
use Rattle.std.proofs.lemmas.List.{append_assoc, append-nil, drop_all, drop_more}
use Rattle.texts.specs.Texts.{numbered}

-- The text of one more element.
pub numbered_more : {X : Type 0} (f : ℕ → X → List ℕ) (old new whole : List ℕ) (xs : List X) (j : ℕ) (x d : X) → j < length xs → x ≡ get_or xs j d → old ++ numbered f j (drop j xs) ≡ whole → new ≡ old ++ f j x → new ++ numbered f (j + 1) (drop (j + 1) xs) ≡ whole
numbered_more f old new whole xs j x d within is before e =
    rw (e, append_assoc, ← before, drop_more xs j d within, is, add-one)

-- The texts of all elements.
pub numbered_all : {X : Type 0} (f : ℕ → X → List ℕ) (new whole : List ℕ) (xs : List X) (j : ℕ) → length xs ≤ j → new ++ numbered f j (drop j xs) ≡ whole → new ≡ whole
numbered_all f new whole xs j past h = sym (append-nil new) ∙ (rw (drop_all j xs past) at h)
