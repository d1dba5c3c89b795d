-- The five kinds of fields, and what each has where nothing is wrong with it.
use Rattle.std.proofs.Common.{◌≡◌, ℕ, ◌%◌, ◌<◌, ◌≤◌, Bool, true, false, not, ◌&&◌, eqb, ltb, leb, List, length, get_or, None, sym, refl, ◌∙◌, subst, ⊎_elim, arith}
use Rattle.std.proofs.lemmas.Bool.{cases_eq, cond-false, eqb-true, eq-eqb, ne_eqb, leb-true, le-leb, ltb-true, lt-ltb, and_parts, and_from}
use Rattle.model.specs.Firsts.{when, first_of}
use Rattle.sheet.specs.Blocks.{block}
use Rattle.sheet.specs.Stages.{Stage, pair_at, end_cost_in, outcomes_in, rising, tag_due, length_right, value_right, cause_of}
use Rattle.sheet.specs.declared.faults.Cause.TheVariants.{Tag, Length, Value}

pub never : {A : Type 0} → ◌≡◌ {A = ℕ} 0 1 → A
never e = absurd (omega arith)

-- A field with a tag and a body may come after a stage, and what is then so.
pub data Kind (d : Stage) (b : List ℕ) : ℕ → Type 0 where
  states_kind : d.count ≡ 0 → length b ≡ 2 → 1 ≤ pair_at b 0 → pair_at b 0 ≤ 4096 → Kind d b 1
  price_kind : 0 < d.count → d.states ≡ 0 → length b ≡ 3 → d.task ≤ get_or b 0 0 → get_or b 0 0 ≤ 63 → 2 ≤ pair_at b 1 → pair_at b 1 ≤ 10000 → Kind d b 2
  end_kind : d.states < d.count → length b ≡ 4 → end_cost_in b ≤ 1000000 → Kind d b 3
  open_kind : d.states < d.count → length b ≡ 0 → Kind d b 4
  action_kind : 0 < d.room → length b % 2 ≡ 1 → 3 ≤ length b → length b ≤ 33 → get_or b 0 0 ≤ 63 → rising d.count 0 (outcomes_in b) ≡ true → Kind d b 5

-- No fault is found where all three tests are true, and only there.
none_parts : (x y z : Bool) → first_of (when (not x) Tag) (first_of (when (not y) Length) (when (not z) Value)) ≡ None → (x ≡ true) × (y ≡ true) × (z ≡ true)
none_parts true true true e = (refl, refl, refl)
none_parts true true false e = never (cc)
none_parts true false z e = never (cc)
none_parts false y z e = never (cc)

none_from : (x y z : Bool) → x ≡ true → y ≡ true → z ≡ true → first_of (when (not x) Tag) (first_of (when (not y) Length) (when (not z) Value)) ≡ None
none_from true true true h i j = refl
none_from true true false h i j = never (cc)
none_from true false z h i j = never (cc)
none_from false y z h i j = never (cc)

-- Of a field with which nothing is wrong, the tag is due and the length and the values are right.
pub unwrong : (d : Stage) (t : ℕ) (b : List ℕ) → cause_of d (block t b) ≡ None → (tag_due d t ≡ true) × (length_right t (length b) ≡ true) × (value_right d t b ≡ true)
unwrong d t b e = none_parts (tag_due d t) (length_right t (length b)) (value_right d t b) e

AllRight : Stage → List ℕ → ℕ → Type 0
AllRight d b t = (tag_due d t ≡ true) × (length_right t (length b) ≡ true) × (value_right d t b ≡ true)

-- No other tag is due.
pub other_tag : (d : Stage) (t : ℕ) → (t ≡ 1 → ⊥) → (t ≡ 2 → ⊥) → (t ≡ 3 → ⊥) → (t ≡ 4 → ⊥) → (t ≡ 5 → ⊥) → tag_due d t ≡ false
other_tag d t n1 n2 n3 n4 n5 =
    cond-false (eqb t 1) _ _ (ne_eqb t 1 n1)
    ∙ cond-false (eqb t 2) _ _ (ne_eqb t 2 n2)
    ∙ cond-false (eqb t 3) _ _ (ne_eqb t 3 n3)
    ∙ cond-false (eqb t 4) _ _ (ne_eqb t 4 n4)
    ∙ cond-false (eqb t 5) _ _ (ne_eqb t 5 n5)

module _ (d : Stage) (b : List ℕ) where
  kind_1 : AllRight d b 1 → Kind d b 1
  unfolding AllRight
  kind_1 h =
      let v = and_parts (leb 1 (pair_at b 0)) (leb (pair_at b 0) 4096) h.2 in
      states_kind (eqb-true d.count 0 h.0) (eqb-true (length b) 2 h.1) (leb-true 1 (pair_at b 0) v.0) (leb-true (pair_at b 0) 4096 v.1)

  kind_2 : AllRight d b 2 → Kind d b 2
  unfolding AllRight
  kind_2 h =
      let g = and_parts (ltb 0 d.count) (eqb d.states 0) h.0 in
      let v = and_parts (leb d.task (get_or b 0 0)) _ h.2 in
      let w = and_parts (leb (get_or b 0 0) 63) _ v.1 in
      let u = and_parts (leb 2 (pair_at b 1)) _ w.1 in
      price_kind (ltb-true 0 d.count g.0) (eqb-true d.states 0 g.1) (eqb-true (length b) 3 h.1) (leb-true d.task (get_or b 0 0) v.0) (leb-true (get_or b 0 0) 63 w.0) (leb-true 2 (pair_at b 1) u.0) (leb-true (pair_at b 1) 10000 u.1)

  kind_3 : AllRight d b 3 → Kind d b 3
  unfolding AllRight
  kind_3 h = end_kind (ltb-true d.states d.count h.0) (eqb-true (length b) 4 h.1) (leb-true (end_cost_in b) 1000000 h.2)

  kind_4 : AllRight d b 4 → Kind d b 4
  unfolding AllRight
  kind_4 h = open_kind (ltb-true d.states d.count h.0) (eqb-true (length b) 0 h.1)

  kind_5 : AllRight d b 5 → Kind d b 5
  unfolding AllRight
  kind_5 h =
      let l = and_parts (eqb (length b % 2) 1) _ h.1 in
      let k = and_parts (leb 3 (length b)) _ l.1 in
      let v = and_parts (leb (get_or b 0 0) 63) _ h.2 in
      action_kind (ltb-true 0 d.room h.0) (eqb-true (length b % 2) 1 l.0) (leb-true 3 (length b) k.0) (leb-true (length b) 33 k.1) (leb-true (get_or b 0 0) 63 v.0) v.1

  -- A field of which nothing is wrong is of one of the five kinds.
  pub kind_of : (t : ℕ) → cause_of d (block t b) ≡ None → Kind d b t
  unfolding AllRight
  kind_of t e =
      let h : AllRight d b t = unwrong d t b e in
      ⊎_elim (λ e1. subst (Kind d b) (sym e1) (kind_1 (subst (AllRight d b) e1 h)))
      (λ n1.
      ⊎_elim (λ e2. subst (Kind d b) (sym e2) (kind_2 (subst (AllRight d b) e2 h)))
      (λ n2.
      ⊎_elim (λ e3. subst (Kind d b) (sym e3) (kind_3 (subst (AllRight d b) e3 h)))
      (λ n3.
      ⊎_elim (λ e4. subst (Kind d b) (sym e4) (kind_4 (subst (AllRight d b) e4 h)))
      (λ n4.
      ⊎_elim (λ e5. subst (Kind d b) (sym e5) (kind_5 (subst (AllRight d b) e5 h)))
      (λ n5. let no = other_tag d t n1 n2 n3 n4 n5 in let yes : tag_due d t ≡ true = h.0 in never (cc))
      (cases_eq t 5))
      (cases_eq t 4))
      (cases_eq t 3))
      (cases_eq t 2))
      (cases_eq t 1)

  -- Nothing is wrong with a field of one of the five kinds.
  pub kind_right : {t : ℕ} → Kind d b t → cause_of d (block t b) ≡ None
  kind_right (states_kind h1 h2 h3 h4) =
      none_from (eqb d.count 0) (eqb (length b) 2) (leb 1 (pair_at b 0) && leb (pair_at b 0) 4096)
      (eq-eqb d.count 0 h1) (eq-eqb (length b) 2 h2) (and_from (leb 1 (pair_at b 0)) (leb (pair_at b 0) 4096) (le-leb 1 (pair_at b 0) h3) (le-leb (pair_at b 0) 4096 h4))
  kind_right (price_kind h1 h2 h3 h4 h5 h6 h7) =
      let p = pair_at b 1 in
      let k = get_or b 0 0 in
      none_from (ltb 0 d.count && eqb d.states 0) (eqb (length b) 3) (leb d.task k && (leb k 63 && (leb 2 p && leb p 10000)))
      (and_from (ltb 0 d.count) (eqb d.states 0) (lt-ltb 0 d.count h1) (eq-eqb d.states 0 h2))
      (eq-eqb (length b) 3 h3)
      (and_from (leb d.task k) (leb k 63 && (leb 2 p && leb p 10000)) (le-leb d.task k h4) (and_from (leb k 63) (leb 2 p && leb p 10000) (le-leb k 63 h5) (and_from (leb 2 p) (leb p 10000) (le-leb 2 p h6) (le-leb p 10000 h7))))
  kind_right (end_kind h1 h2 h3) =
      none_from (ltb d.states d.count) (eqb (length b) 4) (leb (end_cost_in b) 1000000)
      (lt-ltb d.states d.count h1) (eq-eqb (length b) 4 h2) (le-leb (end_cost_in b) 1000000 h3)
  kind_right (open_kind h1 h2) =
      none_from (ltb d.states d.count) (eqb (length b) 0) true
      (lt-ltb d.states d.count h1) (eq-eqb (length b) 0 h2) refl
  kind_right (action_kind h1 h2 h3 h4 h5 h6) =
      let n = length b in
      none_from (ltb 0 d.room) (eqb (n % 2) 1 && (leb 3 n && leb n 33)) (leb (get_or b 0 0) 63 && rising d.count 0 (outcomes_in b))
      (lt-ltb 0 d.room h1)
      (and_from (eqb (n % 2) 1) (leb 3 n && leb n 33) (eq-eqb (n % 2) 1 h2) (and_from (leb 3 n) (leb n 33) (le-leb 3 n h3) (le-leb n 33 h4)))
      (and_from (leb (get_or b 0 0) 63) (rising d.count 0 (outcomes_in b)) (le-leb (get_or b 0 0) 63 h5) h6)
