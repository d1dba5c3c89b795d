-- The bytes of fields, one after the other.
use Rattle.std.proofs.Common.{◌≡◌, ℕ, suc, ◌+◌, ◌*◌, ◌<◌, ◌≤◌, true, false, List, [], ◌∷◌, ◌++◌, length, get_or, take, sym, refl, ap, ◌∙◌, zero-add, arith}
use Rattle.std.specs.List.{flat_map}
use Rattle.std.proofs.lemmas.List.{append-nil, take_more, flat_map_more, length-take-le}
use Rattle.std.proofs.lemmas.Grind.{flat_map-append}
use Rattle.sheet.proofs.ByteNumbers.{length_joined_two}
use Rattle.sheet.proofs.Rewritten.{price_fields_append}
use Rattle.model.specs.Meaning.{Action, Barred, Free, State, End, Open, is_free, is_end, task, outcomes, actions}
use Rattle.sheet.specs.Blocks.{Block, two, blocks_bytes}
use Rattle.sheet.specs.Sheets.{action_fields, state_fields, price_field, price_fields, sheet_of}
use Rattle.writer.specs.Puts.{Puts, most}
use Rattle.writer.specs.declared.places.Page.{Page}
use Rattle.writer.proofs.Placing.{puts_more, puts_as}

blocks_append : (fs gs : List Block) → blocks_bytes (fs ++ gs) ≡ blocks_bytes fs ++ blocks_bytes gs
blocks_append fs gs = flat_map-append _ fs gs

joined_take : {X A : Type 0} (f : X → List A) (xs : List X) (k : ℕ) (d : X) → k < length xs → flat_map f (take k xs) ++ f (get_or xs k d) ≡ flat_map f (take (k + 1) xs)
joined_take f xs k d there = flat_map_more f [] (take k xs) (get_or xs k d) ∙ ap (flat_map f) (sym (take_more xs k d there))

-- The fields of the prices of one task more.
prices_take : (ps : List ℕ) (k : ℕ) → k < length ps → price_fields 0 (take k ps) ++ price_field k (get_or ps k 0) ≡ price_fields 0 (take (k + 1) ps)
prices_take ps k there =
    let p = get_or ps k 0 in
    let place : length (take k ps) ≡ k = length-take-le k ps (omega arith) in
    sym
    (ap (price_fields 0) (take_more ps k 0 there)
    ∙ price_fields_append 0 (take k ps) (p ∷ [])
    ∙ ap (λ i. price_fields 0 (take k ps) ++ price_fields i (p ∷ [])) (zero-add (length (take k ps)) ∙ place)
    ∙ ap (λ l. price_fields 0 (take k ps) ++ l) (append-nil (price_field k p)))

-- After the bytes of the first elements of a list those of the next one are written.
module _ {old mid new : Page} (small : length old.bytes.now ≤ most) where
  pub outcomes_turn : (os : List ℕ) (k o : ℕ) → k < length os → o ≡ get_or os k 0 → Puts old mid (flat_map two (take k os)) → Puts mid new (two o) → Puts old new (flat_map two (take (k + 1) os))
  outcomes_turn os k o there is done turn =
      puts_as (ap (λ x. flat_map two (take k os) ++ two x) is ∙ joined_take two os k 0 there) (puts_more small done turn)

  pub fields_turn : {X : Type 0} (f : X → List Block) (xs : List X) (k : ℕ) (d : X) → k < length xs → Puts old mid (blocks_bytes (flat_map f (take k xs))) → Puts mid new (blocks_bytes (f (get_or xs k d))) → Puts old new (blocks_bytes (flat_map f (take (k + 1) xs)))
  fields_turn f xs k d there done turn =
      puts_as (sym (blocks_append (flat_map f (take k xs)) (f (get_or xs k d))) ∙ ap blocks_bytes (joined_take f xs k d there)) (puts_more small done turn)

  pub prices_turn : (ps : List ℕ) (k p : ℕ) → k < length ps → p ≡ get_or ps k 0 → Puts old mid (blocks_bytes (price_fields 0 (take k ps))) → Puts mid new (blocks_bytes (price_field k p)) → Puts old new (blocks_bytes (price_fields 0 (take (k + 1) ps)))
  prices_turn ps k p there is done turn =
      puts_as
      (sym (blocks_append (price_fields 0 (take k ps)) (price_field k p)) ∙ ap blocks_bytes (ap (λ x. price_fields 0 (take k ps) ++ price_field k x) is ∙ prices_take ps k there))
      (puts_more small done turn)

-- The bytes of a free action: tag, length, task and outcomes.
free_bytes : (x : Action) (n t : ℕ) → is_free x ≡ true → n ≡ length (outcomes x) → t ≡ task x → ((5 ∷ two (1 + 2 * n)) ++ t ∷ []) ++ flat_map two (outcomes x) ≡ blocks_bytes (action_fields x)
free_bytes Barred n t free count is = let z : ◌≡◌ {A = ℕ} 0 1 = cc in absurd (omega arith)
free_bytes (Free u os) n t free count is =
    let size : 1 + 2 * n ≡ suc (length (flat_map two os)) = omega (arith, length_joined_two os) in
    let e : ((5 ∷ two (1 + 2 * n)) ++ t ∷ []) ++ flat_map two os ≡ 5 ∷ (two (suc (length (flat_map two os))) ++ u ∷ flat_map two os) = cc in
    e ∙ sym (append-nil _)

module _ {old tagged named new : Page} (small : length old.bytes.now ≤ most) where
  pub free_puts : (x : Action) (n t : ℕ) → is_free x ≡ true → n ≡ length (outcomes x) → t ≡ task x → Puts old tagged (5 ∷ two (1 + 2 * n)) → Puts tagged named (t ∷ []) → Puts named new (flat_map two (outcomes x)) → Puts old new (blocks_bytes (action_fields x))
  free_puts x n t free count is head word rest = puts_as (free_bytes x n t free count is) (puts_more small (puts_more small head word) rest)

-- The bytes of an open state: its own field, which has no body, and those of its actions.
pub open_bytes : (x : State) → is_end x ≡ false → (4 ∷ two 0) ++ blocks_bytes (flat_map action_fields (actions x)) ≡ blocks_bytes (state_fields x)
open_bytes (End c) open' = let z : ◌≡◌ {A = ℕ} 0 1 = cc in absurd (omega arith)
open_bytes (Open as') open' = refl

-- The bytes of a sheet: the number of states, the prices and the states.
pub sheet_bytes : (m : List State) (ps : List ℕ) (n : ℕ) → n ≡ length m → (((1 ∷ two 2) ++ two n) ++ blocks_bytes (price_fields 0 ps)) ++ blocks_bytes (flat_map state_fields m) ≡ sheet_of m ps
sheet_bytes m ps n is =
    let split = blocks_append (price_fields 0 ps) (flat_map state_fields m) in
    ap (λ k. 1 ∷ (two 2 ++ (two k ++ (blocks_bytes (price_fields 0 ps) ++ blocks_bytes (flat_map state_fields m))))) is
    ∙ ap (λ l. 1 ∷ (two 2 ++ (two (length m) ++ l))) (sym split)
