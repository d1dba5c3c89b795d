-- Fields of which nothing is wrong are the first fields of a sheet, and all of them where every state was read.
use Rattle.std.proofs.Common.{◌≡◌, ℕ, ◌+◌, ◌-◌, ◌<◌, ◌≤◌, true, eqb, ltb, List, [], ◌∷◌, ◌++◌, length, replicate, sym, refl, ap, ◌∙◌, subst, ap₂, ⊎_elim, arith}
use Rattle.std.specs.List.{flat_map, AllByRecursion}
use Rattle.std.proofs.lemmas.List.{append-nil, append_assoc, length-append, length-replicate}
use Rattle.std.proofs.ByRecursion.{All-append}
use Rattle.std.proofs.lemmas.Bool.{cases_lt, and_parts, cond-true, eqb-true, eq-eqb, ltb-true}
use Rattle.cost.specs.Prices.{InRange}
use Rattle.model.specs.Meaning.{State, Open}
use Rattle.sheet.specs.Blocks.{Block, block, two, blocks_bytes}
use Rattle.sheet.specs.Sheets.{state_fields, price_fields, fields, Writable}
use Rattle.sheet.specs.Stages.{Stage, beginning, after_all, all_read, Right}
use Rattle.sheet.specs.Wrongs.{Begins}
use Rattle.sheet.proofs.Contents.{Content, nothing, grow_all, states_of, prices_of, model_in, prices_in, StateRight, Follows}
use Rattle.std.proofs.lemmas.Grind.{flat_map-append}
use Rattle.sheet.proofs.Runs.{all_replicate}
use Rattle.sheet.proofs.Growing.{right_follows}
use Rattle.sheet.proofs.Rewritten.{fields_of, written, price_fields_append, price_fields_ones, right_fields}
use Rattle.sheet.proofs.Limits.{writable_from}

-- The prices that were not said are 1, and have no fields.
pub price_fields_filled : (ps : List ℕ) (n : ℕ) → price_fields 0 (ps ++ replicate n 1) ≡ price_fields 0 ps
price_fields_filled ps n =
    price_fields_append 0 ps (replicate n 1) ∙ ap (λ r. price_fields 0 ps ++ r) (price_fields_ones (0 + length ps) n) ∙ append-nil (price_fields 0 ps)

-- The fields of what was said, with more states up to the number that was said.
completed : (c : Content) (m rest : List State) → 0 < c.count → m ≡ states_of c ++ rest → length m ≡ c.count → fields m (prices_of c) ≡ fields_of c ++ flat_map state_fields rest
completed c m rest some e l =
    ap₂ (λ n r. block 1 (two n) ∷ r) l
    (ap₂ (λ p s. p ++ s) (price_fields_filled c.prices (64 - length c.prices)) (ap (flat_map state_fields) e ∙ flat_map-append state_fields (states_of c) rest)
    ∙ sym (append_assoc (price_fields 0 c.prices) (flat_map state_fields (states_of c)) (flat_map state_fields rest)))
    ∙ sym (ap (λ l. l ++ flat_map state_fields rest) (written c some))

-- AllByRecursion 64 prices are in range.
filled_right : (d : Stage) (c : Content) → Follows d c → InRange (prices_of c)
filled_right d c f = (
  length-append c.prices (replicate (64 - length c.prices) 1) ∙ omega (arith, length-replicate {A = ℕ} (64 - length c.prices) 1, f.tasks_few),
  All-append (λ p. (1 ≤ p) × (p ≤ 10000)) c.prices (replicate (64 - length c.prices) 1) f.prices_right (all_replicate (λ p. (1 ≤ p) × (p ≤ 10000)) (64 - length c.prices) 1 (omega arith, omega arith)),
)

-- Before any field every sheet can come.
none_begins : Begins []
none_begins =
    let m : List State = Open [] ∷ [] in
    let ps : List ℕ = replicate 64 1 in
    record {
      model = m;
      prices = ps;
      more = fields m ps;
      writable = writable_from m ps (omega arith) (omega arith) ((omega arith, tt), tt) (refl, all_replicate (λ p. (1 ≤ p) × (p ≤ 10000)) 64 1 (omega arith, omega arith));
      first = refl;
    }

-- States without actions complete the model.
some_begins : (d : Stage) (c : Content) (fs : List Block) → Follows d c → 0 < c.count → fields_of c ≡ fs → Begins fs
some_begins d c fs f some e =
    let n = c.count in
    let left = n - length (states_of c) in
    let rest : List State = replicate left (Open []) in
    let m : List State = states_of c ++ rest in
    let many : length m ≡ n = length-append (states_of c) rest ∙ omega (arith, length-replicate {A = State} left (Open []), f.states_few) in
    let right : AllByRecursion (StateRight n) m = All-append (StateRight n) (states_of c) rest f.states_right (all_replicate (StateRight n) left (Open []) (omega arith, tt)) in
    record {
      model = m;
      prices = prices_of c;
      more = flat_map state_fields rest;
      writable = writable_from m (prices_of c) (omega arith) (omega (arith, f.count_few)) (subst (λ k. AllByRecursion (StateRight k) m) (sym many) right) (filled_right d c f);
      first = completed c m rest some refl many ∙ ap (λ l. l ++ flat_map state_fields rest) e;
    }

module _ (fs : List Block) (small : AllByRecursion (λ x. x < 256) (blocks_bytes fs)) (r : Right beginning fs) where
  pub right_begins : Begins fs
  right_begins =
      let c = grow_all nothing fs in
      ⊎_elim
      (λ some. some_begins (after_all beginning fs) c fs (right_follows fs r) some (right_fields fs small r))
      (λ none.
      let unsaid : c.count ≡ 0 = omega arith in
      let empty : fs ≡ [] = sym (right_fields fs small r) ∙ cond-true (eqb c.count 0) _ _ (eq-eqb c.count 0 unsaid) in
      subst Begins (sym empty) none_begins)
      (cases_lt 0 c.count)

  pub whole_writable : all_read (after_all beginning fs) ≡ true → Writable (model_in fs) (prices_in fs) × (fields (model_in fs) (prices_in fs) ≡ fs)
  whole_writable whole =
      let d = after_all beginning fs in
      let c = grow_all nothing fs in
      let f = right_follows fs r in
      let parts = and_parts (ltb 0 d.count) (eqb d.states d.count) whole in
      let some : 0 < c.count = omega (arith, ltb-true 0 d.count parts.0, f.count_is) in
      let many : length (states_of c) ≡ c.count = sym f.states_is ∙ eqb-true d.states d.count parts.1 ∙ f.count_is in (
        writable_from (states_of c) (prices_of c) (omega arith) (omega (arith, f.count_few)) (subst (λ k. AllByRecursion (StateRight k) (states_of c)) (sym many) f.states_right) (filled_right d c f),
        completed c (states_of c) [] some (sym (append-nil (states_of c))) many ∙ append-nil (fields_of c) ∙ right_fields fs small r,
      )
