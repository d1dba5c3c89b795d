-- What fields say, written again, are the fields.
use Rattle.std.proofs.Common.{◌≡◌, ℕ, zero, suc, ◌+◌, ◌-◌, ◌%◌, ◌<◌, ◌≤◌, cond, eqb, List, [], ◌∷◌, ◌++◌, map, length, get_or, replicate, None, sym, refl, ap, ◌∙◌, ap₂, ⊎_elim, arith}
use Rattle.std.specs.List.{flat_map, AllByRecursion}
use Rattle.std.proofs.lemmas.List.{append-nil, append_assoc, length-append, length-replicate, nil_from_length}
use Rattle.std.proofs.lemmas.Bool.{cond-true, cond-false, eq-eqb, ne_eqb}
use Rattle.model.specs.Meaning.{Free, End, Open}
use Rattle.sheet.specs.Blocks.{Block, block, body_of, two, block_bytes, blocks_bytes}
use Rattle.sheet.specs.Sheets.{action_fields, state_fields, price_field, price_fields}
use Rattle.sheet.specs.Stages.{Stage, beginning, pair_at, outcomes_in, end_cost_in, cause_of, after, Right}
use Rattle.sheet.proofs.Contents.{Content, nothing, with_action, grow, grow_all, states_of, Follows}
use Rattle.sheet.proofs.Runs.{joined_push, all_parts}
use Rattle.sheet.proofs.ByteNumbers.{two_of, four_of, joined_pairs}
use Rattle.sheet.proofs.FieldKinds.{Kind, states_kind, price_kind, end_kind, open_kind, action_kind, kind_of}
use Rattle.sheet.proofs.Growing.{grow_follows, nothing_follows}

-- The fields that say what is said. Before the number of states nothing is.
abbrev pub fields_of : Content → List Block
fields_of c = cond (eqb c.count 0) [] (block 1 (two c.count) ∷ (price_fields 0 c.prices ++ flat_map state_fields (states_of c)))

pub price_fields_append : (t : ℕ) (xs ys : List ℕ) → price_fields t (xs ++ ys) ≡ price_fields t xs ++ price_fields (t + length xs) ys
price_fields_append t [] ys = let same : t ≡ t + 0 = omega arith in ap (λ u. price_fields u ys) same
price_fields_append t (x ∷ xs) ys =
    let same : suc t + length xs ≡ t + suc (length xs) = omega arith in
    ap (λ r. price_field t x ++ r) (price_fields_append (suc t) xs ys ∙ ap (λ u. price_fields (suc t) xs ++ price_fields u ys) same)
    ∙ sym (append_assoc (price_field t x) (price_fields (suc t) xs) (price_fields (t + suc (length xs)) ys))

pub price_fields_ones : (t n : ℕ) → price_fields t (replicate n 1) ≡ []
price_fields_ones t zero = refl
price_fields_ones t (suc n) = price_fields_ones (suc t) n

-- A price that is not 1 has a field.
pub price_field_is : (t p : ℕ) → 2 ≤ p → price_field t p ≡ block 2 (t ∷ two p) ∷ []
price_field_is t p h = cond-false (eqb p 1) [] (block 2 (t ∷ two p) ∷ []) (ne_eqb p 1 (λ e. omega arith))

-- The bodies of the kinds of fields, read and written again.
pub states_body : (b : List ℕ) → length b ≡ 2 → AllByRecursion (λ x. x < 256) b → two (pair_at b 0) ≡ b
states_body [] e h = absurd (omega arith)
states_body (x ∷ []) e h = absurd (omega arith)
states_body (x ∷ (y ∷ [])) e h = two_of x y h.0 h.1.0
states_body (x ∷ (y ∷ (z ∷ r))) e h = absurd (omega arith)

pub price_body : (b : List ℕ) → length b ≡ 3 → AllByRecursion (λ x. x < 256) b → get_or b 0 0 ∷ two (pair_at b 1) ≡ b
price_body [] e h = absurd (omega arith)
price_body (x ∷ []) e h = absurd (omega arith)
price_body (x ∷ (y ∷ [])) e h = absurd (omega arith)
price_body (x ∷ (y ∷ (z ∷ []))) e h = ap (λ l. x ∷ l) (two_of y z h.1.0 h.1.1.0)
price_body (x ∷ (y ∷ (z ∷ (w ∷ r)))) e h = absurd (omega arith)

pub action_body : (b : List ℕ) → length b % 2 ≡ 1 → AllByRecursion (λ x. x < 256) b → get_or b 0 0 ∷ flat_map two (outcomes_in b) ≡ b
action_body [] e h = absurd (omega arith)
action_body (x ∷ r) e h = ap (λ l. x ∷ l) (joined_pairs r (omega arith) h.1)

-- The fields after the number of states was said.
pub written : (c : Content) → 0 < c.count → fields_of c ≡ block 1 (two c.count) ∷ (price_fields 0 c.prices ++ flat_map state_fields (states_of c))
written c h = cond-false (eqb c.count 0) [] _ (ne_eqb c.count 0 (λ e. omega arith))

-- One field more is written after the others where what it adds is.
written_more :
    (c e : Content) (f : Block) → 0 < c.count → e.count ≡ c.count →
    price_fields 0 e.prices ++ flat_map state_fields (states_of e) ≡ (price_fields 0 c.prices ++ flat_map state_fields (states_of c)) ++ f ∷ [] →
    fields_of e ≡ fields_of c ++ f ∷ []
written_more c e f h same more =
    written e (omega arith)
    ∙ ap₂ (λ n r. block 1 (two n) ∷ r) same more
    ∙ sym (ap (λ l. l ++ f ∷ []) (written c h))

-- The same where the prices stay.
states_more : (c e : Content) (f : Block) → 0 < c.count → e.count ≡ c.count → e.prices ≡ c.prices → flat_map state_fields (states_of e) ≡ flat_map state_fields (states_of c) ++ f ∷ [] → fields_of e ≡ fields_of c ++ f ∷ []
states_more c e f h same prices more =
    written_more c e f h same
    (ap₂ (λ ps r. price_fields 0 ps ++ r) prices more ∙ sym (append_assoc (price_fields 0 c.prices) (flat_map state_fields (states_of c)) (f ∷ [])))

module _ (d : Stage) (c : Content) (b : List ℕ) (f : Follows d c) (small : AllByRecursion (λ x. x < 256) b) where
  kind_fields : {t : ℕ} → Kind d b t → fields_of (grow c (block t b)) ≡ fields_of c ++ block t b ∷ []
  kind_fields (states_kind h1 h2 h3 h4) =
      let zero_count : c.count ≡ 0 = omega (arith, f.count_is) in
      let none : states_of c ≡ [] = nil_from_length (states_of c) (omega (arith, f.states_few)) in
      let free : c.prices ≡ [] = f.unread zero_count in
      written (grow c (block 1 b)) h3
      ∙ ap₂ (λ ps ss. block 1 (two (pair_at b 0)) ∷ (price_fields 0 ps ++ flat_map state_fields ss)) free none
      ∙ ap (λ l. block 1 l ∷ []) (states_body b h2 small)
      ∙ sym (ap (λ l. l ++ block 1 b ∷ []) (cond-true (eqb c.count 0) _ _ (eq-eqb c.count 0 zero_count)))
  kind_fields (price_kind h1 h2 h3 h4 h5 h6 h7) =
      let ps = c.prices in
      let k = get_or b 0 0 in
      let p = pair_at b 1 in
      let fill : List ℕ = replicate (k - length ps) 1 in
      let none : states_of c ≡ [] = nil_from_length (states_of c) (sym f.states_is ∙ h2) in
      let filled : length fill ≡ k - length ps = length-replicate (k - length ps) 1 in
      let at : 0 + length ps + length fill ≡ k = omega (arith, f.task_is) in
      let last : price_fields (0 + length ps + length fill) (p ∷ []) ≡ block 2 b ∷ [] =
      append-nil (price_field (0 + length ps + length fill) p)
      ∙ price_field_is (0 + length ps + length fill) p h6
      ∙ ap (λ u. block 2 (u ∷ two p) ∷ []) at
      ∙ ap (λ l. block 2 l ∷ []) (price_body b h3 small) in
      let more : price_fields 0 (ps ++ (fill ++ p ∷ [])) ≡ price_fields 0 ps ++ block 2 b ∷ [] =
      price_fields_append 0 ps (fill ++ p ∷ [])
      ∙ ap (λ r. price_fields 0 ps ++ r) (price_fields_append (0 + length ps) fill (p ∷ []) ∙ ap₂ (λ x y. x ++ y) (price_fields_ones (0 + length ps) (k - length ps)) last) in
      written_more c (grow c (block 2 b)) (block 2 b) (omega (arith, f.count_is)) refl
      (ap₂ (λ x ss. x ++ flat_map state_fields ss) more none
      ∙ append-nil (price_fields 0 ps ++ block 2 b ∷ [])
      ∙ ap (λ x. x ++ block 2 b ∷ []) (sym (ap (λ ss. price_fields 0 ps ++ flat_map state_fields ss) none ∙ append-nil (price_fields 0 ps))))
  kind_fields (end_kind h1 h2 h3) =
      states_more c (grow c (block 3 b)) (block 3 b) (omega (arith, f.count_is)) refl refl
      (joined_push state_fields (states_of c) (End (end_cost_in b)) ∙ ap (λ l. flat_map state_fields (states_of c) ++ block 3 l ∷ []) (four_of b h2 small))
  kind_fields (open_kind h1 h2) =
      states_more c (grow c (block 4 b)) (block 4 b) (omega (arith, f.count_is)) refl refl
      (joined_push state_fields (states_of c) (Open []) ∙ ap (λ l. flat_map state_fields (states_of c) ++ block 4 l ∷ []) (sym (nil_from_length b h2)))
  kind_fields (action_kind h1 h2 h3 h4 h5 h6) =
      ⊎_elim
      (λ none. absurd (omega arith))
      (λ r.
      let as' = r.0 in
      let last : c.latest ≡ Open as' ∷ [] = r.1.0 in
      let a = Free (get_or b 0 0) (outcomes_in b) in
      let done = c.done in
      let some : 1 ≤ length (states_of c) = omega (arith, ap length last, length-append done c.latest) in
      let old : flat_map state_fields (states_of c) ≡ flat_map state_fields done ++ block 4 [] ∷ flat_map action_fields as' = ap (λ l. flat_map state_fields (done ++ l)) last ∙ joined_push state_fields done (Open as') in
      let field : action_fields a ≡ block 5 b ∷ [] = ap (λ l. block 5 l ∷ []) (action_body b h2 small) in
      let new : flat_map state_fields (done ++ map (with_action a) c.latest) ≡ flat_map state_fields done ++ block 4 [] ∷ (flat_map action_fields as' ++ block 5 b ∷ []) =
      ap (λ l. flat_map state_fields (done ++ map (with_action a) l)) last
      ∙ joined_push state_fields done (Open (as' ++ a ∷ []))
      ∙ ap (λ l. flat_map state_fields done ++ block 4 [] ∷ l) (joined_push action_fields as' a ∙ ap (λ l. flat_map action_fields as' ++ l) field) in
      states_more c (grow c (block 5 b)) (block 5 b) (omega (arith, f.states_few)) refl refl
      (new ∙ sym (append_assoc (flat_map state_fields done) (block 4 [] ∷ flat_map action_fields as') (block 5 b ∷ [])) ∙ ap (λ l. l ++ block 5 b ∷ []) (sym old)))
      f.room_is

pub grow_fields : (d : Stage) (c : Content) (f : Block) → Follows d c → cause_of d f ≡ None → AllByRecursion (λ x. x < 256) (body_of f) → fields_of (grow c f) ≡ fields_of c ++ f ∷ []
grow_fields d c (block t b) f e small = kind_fields d c b f small (kind_of d b t e)

-- The bytes of a field hold those of its body.
body_small : (f : Block) → AllByRecursion (λ x. x < 256) (block_bytes f) → AllByRecursion (λ x. x < 256) (body_of f)
body_small (block t b) h = h.1.1.1

fields_all : (d : Stage) (c : Content) (fs : List Block) → Follows d c → Right d fs → AllByRecursion (λ x. x < 256) (blocks_bytes fs) → fields_of (grow_all c fs) ≡ fields_of c ++ fs
fields_all d c [] f r small = sym (append-nil (fields_of c))
fields_all d c (g ∷ fs) f r small =
    let parts = all_parts (λ x. x < 256) (block_bytes g) (blocks_bytes fs) small in
    fields_all (after d g) (grow c g) fs (grow_follows d c g f r.0) r.1 parts.1
    ∙ ap (λ l. l ++ fs) (grow_fields d c g f r.0 (body_small g parts.0))
    ∙ append_assoc (fields_of c) (g ∷ []) fs

pub right_fields : (fs : List Block) → AllByRecursion (λ x. x < 256) (blocks_bytes fs) → Right beginning fs → fields_of (grow_all nothing fs) ≡ fs
right_fields fs small r = fields_all beginning nothing fs nothing_follows r small
