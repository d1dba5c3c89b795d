-- Reading numbers of two bytes.
use Rattle.std.proofs.Common.{◌≡◌, ℕ, zero, suc, ◌+◌, ◌*◌, ◌/◌, ◌<◌, List, [], ◌∷◌, map, length, get_or, drop, sym, subst, refl, ap, ◌∙◌, arith}
use Rattle.std.specs.Int.{w16, from_be_bytes}
use Rattle.std.specs.Simd.{first_chunks}
use Rattle.std.proofs.lemmas.List.{get_or-map, length-map, length-drop}
use Rattle.sheet.proofs.ByteNumbers.{length_pairs}
use Rattle.sheet.specs.Stages.{pairs, outcomes_in, places_in}

-- How many outcomes a body has.
pub length_outcomes : (b : List ℕ) → length (outcomes_in b) ≡ places_in b
length_outcomes b = length_pairs (drop 1 b) ∙ ap (λ n. n / 2) (length-drop 1 b)

-- Each two bytes of a list, read as numbers.
pub pairs_chunks : (b : List ℕ) (n : ℕ) → n ≡ length b / 2 → map (from_be_bytes w16) (first_chunks 2 n b) ≡ pairs b
pairs_chunks [] n e = subst (λ k. map (from_be_bytes w16) (first_chunks 2 k []) ≡ []) (sym e) refl
pairs_chunks (x ∷ []) n e = subst (λ k. map (from_be_bytes w16) (first_chunks 2 k (x ∷ [])) ≡ []) (sym e) refl
pairs_chunks (x ∷ (y ∷ r)) zero e = absurd (omega arith)
pairs_chunks (x ∷ (y ∷ r)) (suc n) e = ap (λ l. (x * 256 + y) ∷ l) (pairs_chunks r n (omega arith))

-- The outcome at a place, of those read from two bytes each.
module _ (b : List ℕ) (items : List (List ℕ)) (are : map (from_be_bytes w16) items ≡ outcomes_in b) where
  pub outcomes_many : length (outcomes_in b) ≡ length items
  outcomes_many = ap length (sym are) ∙ length-map items (from_be_bytes w16)

  pub outcome_read : (k : ℕ) → k < length items → get_or (outcomes_in b) k 0 ≡ from_be_bytes w16 (get_or items k [])
  outcome_read k h = ap (λ l. get_or l k 0) (sym are) ∙ get_or-map (from_be_bytes w16) items k [] 0 h
