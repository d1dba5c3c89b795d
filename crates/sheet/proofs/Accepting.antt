-- Nothing is wrong with the fields of a model and its prices, and they say the model and the prices.
use Rattle.std.proofs.Common.{◌≡◌, ℕ, suc, ◌+◌, ◌-◌, ◌*◌, ◌<◌, ◌≤◌, true, eqb, ltb, List, [], ◌∷◌, ◌++◌, length, replicate, None, sym, refl, ap, ◌∙◌, subst, ap₂, ⊎_elim, arith}
use Rattle.std.specs.List.{flat_map, AllByRecursion}
use Rattle.std.proofs.lemmas.List.{append-nil, append_assoc, length-append, length_push, length-replicate, replicate_more}
use Rattle.std.proofs.lemmas.Bool.{cases_eq, and_from, eq-eqb, lt-ltb}
use Rattle.model.specs.Meaning.{Action, Barred, Free, State, End, Open}
use Rattle.sheet.specs.Blocks.{Block, block, two, four}
use Rattle.sheet.specs.Sheets.{action_fields, state_fields, price_field, price_fields, fields, Writable}
use Rattle.sheet.specs.Stages.{Stage, beginning, pair_at, outcomes_in, end_cost_in, rising, cause_of, after, after_all, all_read, Right}
use Rattle.sheet.specs.Wrongs.{Begins}
use Rattle.sheet.proofs.Contents.{Content, nothing, grow, grow_all, states_of, prices_of, model_in, prices_in, ActionRight, StateRight, Follows}
use Rattle.sheet.proofs.Runs.{grow_all_append, right_append, right_front}
use Rattle.sheet.proofs.ByteNumbers.{two_back, pair_at_two, pairs_joined, length_joined_two, end_cost_in_four}
use Rattle.sheet.proofs.FieldKinds.{states_kind, price_kind, end_kind, open_kind, action_kind, kind_right}
use Rattle.sheet.proofs.Growing.{grow_follows, follows_all, nothing_follows}
use Rattle.sheet.proofs.Rewritten.{price_field_is}
use Rattle.sheet.proofs.Limits.{right_from_opens}

abbrev content : ℕ → List ℕ → List State → List State → Content
content n ps done latest = record { count = n; prices = ps; done = done; latest = latest }

-- Nothing is wrong with fields after a stage, and with what was said before they say something.
abbrev Reads : Stage → Content → List Block → Content → Type 0
Reads d c fs e = Right d fs × (grow_all c fs ≡ e)

-- One field first.
reads_more : (d : Stage) (c e : Content) (f : Block) (fs : List Block) (g : Content) → cause_of d f ≡ None → grow c f ≡ e → Reads (after d f) e fs g → Reads d c (f ∷ fs) g
reads_more d c e f fs g none same r = ((none, r.0), ap (λ x. grow_all x fs) same ∙ r.1)

follows_more : (d : Stage) (c e : Content) (f : Block) → Follows d c → cause_of d f ≡ None → grow c f ≡ e → Follows (after d f) e
follows_more d c e f h none same = subst (Follows (after d f)) same (grow_follows d c f h none)

-- The actions of a state that has room for them.
reads_actions :
    (n : ℕ) (ps : List ℕ) (done : List State) (bs as' : List Action) (d : Stage) → Follows d (content n ps done (Open as' ∷ [])) → AllByRecursion (ActionRight n) bs → d.room + length as' ≡ 16 → length as' + length bs ≤ 16 →
    Reads d (content n ps done (Open as' ∷ [])) (flat_map action_fields bs) (content n ps done (Open (as' ++ bs) ∷ []))
reads_actions n ps done [] as' d f right fits few = (tt, ap (λ l. content n ps done (Open l ∷ [])) (sym (append-nil as')))
reads_actions n ps done (Barred ∷ bs) as' d f right fits few = absurd right.0
reads_actions n ps done (Free t os ∷ bs) as' d f right fits few =
    let a = Free t os in
    let h = right.0 in
    let c = content n ps done (Open as' ∷ []) in
    let e = content n ps done (Open (as' ++ a ∷ []) ∷ []) in
    let b : List ℕ = t ∷ flat_map two os in
    let long : length b ≡ suc (2 * length os) = ap suc (length_joined_two os) in
    let up : rising d.count 0 (outcomes_in b) ≡ true = ap₂ (λ k l. rising k 0 l) f.count_is (pairs_joined os) ∙ h.3 in
    let none : cause_of d (block 5 b) ≡ None =
    kind_right d b (action_kind (omega arith) (omega arith) (omega (arith, h.1)) (omega (arith, h.2)) h.0 up) in
    let same : grow c (block 5 b) ≡ e = ap (λ l. content n ps done (Open (as' ++ Free t l ∷ []) ∷ [])) (pairs_joined os) in
    let one_more = length_push as' a in
    let rest = reads_actions n ps done bs (as' ++ a ∷ []) (after d (block 5 b)) (follows_more d c e (block 5 b) f none same) right.1 (omega arith) (omega arith) in
    let more = reads_more d c e (block 5 b) (flat_map action_fields bs) (content n ps done (Open ((as' ++ a ∷ []) ++ bs) ∷ [])) none same rest in
    (more.0, more.1 ∙ ap (λ l. content n ps done (Open l ∷ [])) (append_assoc as' (a ∷ []) bs))

-- Fields say more states, and leave the number of states and the prices.
abbrev ReadsStates : Stage → Content → List Block → List State → Type 0
ReadsStates d c fs m = Right d fs × (((grow_all c fs).count ≡ c.count) × ((grow_all c fs).prices ≡ c.prices) × (states_of (grow_all c fs) ≡ m))

-- The same after other fields.
states_after : (d : Stage) (c e : Content) (fs gs : List Block) (m : List State) → Reads d c fs e → e.count ≡ c.count → e.prices ≡ c.prices → ReadsStates (after_all d fs) e gs m → ReadsStates d c (fs ++ gs) m
states_after d c e fs gs m r counts prices s =
    let same : grow_all c (fs ++ gs) ≡ grow_all e gs = grow_all_append c fs gs ∙ ap (λ x. grow_all x gs) r.1 in (
      right_append d fs gs r.0 s.0,
      (ap (λ x. x.count) same ∙ s.1.0 ∙ counts, ap (λ x. x.prices) same ∙ s.1.1 ∙ prices, ap states_of same ∙ s.1.2),
    )

reads_states :
    (n : ℕ) (ps : List ℕ) (xs : List State) (done latest : List State) (d : Stage) → Follows d (content n ps done latest) → AllByRecursion (StateRight n) xs → length (done ++ latest) + length xs ≤ n →
    ReadsStates d (content n ps done latest) (flat_map state_fields xs) ((done ++ latest) ++ xs)
reads_states n ps [] done latest d f right few = (tt, (refl, refl, sym (append-nil (done ++ latest))))
reads_states n ps (End k ∷ xs) done latest d f right few =
    let c = content n ps done latest in
    let e = content n ps (done ++ latest) (End k ∷ []) in
    let b : List ℕ = four k in
    let small : end_cost_in b ≤ 1000000 = omega (arith, end_cost_in_four k, right.0) in
    let none : cause_of d (block 3 b) ≡ None = kind_right d b (end_kind (omega (arith, f.states_is, f.count_is)) refl small) in
    let same : grow c (block 3 b) ≡ e = ap (λ x. content n ps (done ++ latest) (End x ∷ [])) (end_cost_in_four k) in
    let rest = reads_states n ps xs (done ++ latest) (End k ∷ []) (after d (block 3 b)) (follows_more d c e (block 3 b) f none same) right.1 (omega (arith, length_push (done ++ latest) (End k))) in
    subst (ReadsStates d c (flat_map state_fields (End k ∷ xs))) (append_assoc (done ++ latest) (End k ∷ []) xs)
    (states_after d c e (block 3 b ∷ []) (flat_map state_fields xs) (((done ++ latest) ++ End k ∷ []) ++ xs) ((none, tt), same) refl refl rest)
reads_states n ps (Open bs ∷ xs) done latest d f right few =
    let c = content n ps done latest in
    let o = content n ps (done ++ latest) (Open [] ∷ []) in
    let e = content n ps (done ++ latest) (Open bs ∷ []) in
    let none : cause_of d (block 4 []) ≡ None = kind_right d [] (open_kind (omega (arith, f.states_is, f.count_is)) refl) in
    let opened : Follows (after d (block 4 [])) o = follows_more d c o (block 4 []) f none refl in
    let inner = reads_actions n ps (done ++ latest) bs [] (after d (block 4 [])) opened right.0.1 refl (omega (arith, right.0.0)) in
    let whole : Reads d c (block 4 [] ∷ flat_map action_fields bs) e = reads_more d c o (block 4 []) (flat_map action_fields bs) e none refl inner in
    let d' = after_all d (block 4 [] ∷ flat_map action_fields bs) in
    let f' : Follows d' e = subst (Follows d') whole.1 (follows_all d c (block 4 [] ∷ flat_map action_fields bs) f whole.0) in
    let rest = reads_states n ps xs (done ++ latest) (Open bs ∷ []) d' f' right.1 (omega (arith, length_push (done ++ latest) (Open bs))) in
    subst (ReadsStates d c (flat_map state_fields (Open bs ∷ xs))) (append_assoc (done ++ latest) (Open bs ∷ []) xs)
    (states_after d c e (block 4 [] ∷ flat_map action_fields bs) (flat_map state_fields xs) (((done ++ latest) ++ Open bs ∷ []) ++ xs) whole refl refl rest)

-- Prices with that of one task more: the tasks between have price 1.
abbrev with_price : ℕ → ℕ → List ℕ → List ℕ
with_price t p qs = qs ++ (replicate (t - length qs) 1 ++ p ∷ [])

length_with_price : (t p : ℕ) (qs : List ℕ) → length qs ≤ t → length (with_price t p qs) ≡ suc t
length_with_price t p qs h =
    let fill : List ℕ = replicate (t - length qs) 1 in
    length-append qs (fill ++ p ∷ []) ∙ omega (arith, length_push fill p, length-replicate {A = ℕ} (t - length qs) 1)

regroup : (qs fill rs : List ℕ) (p : ℕ) → (qs ++ (fill ++ p ∷ [])) ++ rs ≡ (qs ++ fill) ++ p ∷ rs
regroup qs fill rs p = simp append_assoc

one_more : (j k : ℕ) (qs rs : List ℕ) → k ≡ j + 1 → (qs ++ replicate k 1) ++ rs ≡ (qs ++ replicate j 1) ++ 1 ∷ rs
one_more j k qs rs e = ap (λ i. (qs ++ replicate i 1) ++ rs) e ∙ ap (λ l. (qs ++ l) ++ rs) (sym (replicate_more j 1)) ∙ regroup qs (replicate j 1) rs 1

-- The prices below a number and those after, with one more of them below.
skipped : (t : ℕ) (qs rs : List ℕ) → length qs ≤ t → (qs ++ replicate (suc t - length qs) 1) ++ rs ≡ (qs ++ replicate (t - length qs) 1) ++ 1 ∷ rs
skipped t qs rs h = one_more (t - length qs) (suc t - length qs) qs rs (omega arith)

named : (t p : ℕ) (qs rs : List ℕ) → length qs ≤ t → (with_price t p qs ++ replicate (suc t - length (with_price t p qs)) 1) ++ rs ≡ (qs ++ replicate (t - length qs) 1) ++ p ∷ rs
named t p qs rs h =
    let none : suc t - length (with_price t p qs) ≡ 0 = omega (arith, length_with_price t p qs h) in
    ap (λ k. (with_price t p qs ++ replicate k 1) ++ rs) none
    ∙ ap (λ l. l ++ rs) (append-nil (with_price t p qs))
    ∙ regroup qs (replicate (t - length qs) 1) rs p

-- Fields say prices, which with ones after them are those of the tasks below a number.
abbrev ReadsPrices : ℕ → Stage → List ℕ → List Block → ℕ → List ℕ → Type 0
ReadsPrices n d qs fs t ps =
    Right d fs × ((us : List ℕ) × ((grow_all (content n qs [] []) fs ≡ content n us [] []) × (length us ≤ t) × (us ++ replicate (t - length us) 1 ≡ ps)))

prices_same : (n : ℕ) (d : Stage) (qs : List ℕ) (fs : List Block) (t u : ℕ) (ps rs : List ℕ) → t ≡ u → ps ≡ rs → ReadsPrices n d qs fs t ps → ReadsPrices n d qs fs u rs
prices_same n d qs fs t u ps rs same prices h = subst (λ k. ReadsPrices n d qs fs k rs) same (subst (ReadsPrices n d qs fs t) prices h)

prices_more :
    (n : ℕ) (d : Stage) (qs us : List ℕ) (f : Block) (fs : List Block) (t : ℕ) (ps : List ℕ) → cause_of d f ≡ None → grow (content n qs [] []) f ≡ content n us [] [] → ReadsPrices n (after d f) us fs t ps →
    ReadsPrices n d qs (f ∷ fs) t ps
prices_more n d qs us f fs t ps none same r = ((none, r.0), (r.1.0, (ap (λ x. grow_all x fs) same ∙ r.1.1.0, r.1.1.1, r.1.1.2)))

reads_prices :
    (n : ℕ) (rs : List ℕ) (t : ℕ) (qs : List ℕ) (d : Stage) → Follows d (content n qs [] []) → 0 < n → length qs ≤ t → t + length rs ≤ 64 → AllByRecursion (λ p. (1 ≤ p) × (p ≤ 10000)) rs →
    ReadsPrices n d qs (price_fields t rs) (t + length rs) ((qs ++ replicate (t - length qs) 1) ++ rs)
reads_prices n [] t qs d f some before few right =
    let same : t + 0 - length qs ≡ t - length qs = omega arith in
    (tt, (qs, (refl, omega arith, ap (λ k. qs ++ replicate k 1) same ∙ sym (append-nil (qs ++ replicate (t - length qs) 1)))))
reads_prices n (p ∷ rs) t qs d f some before few right =
    let next : suc t + length rs ≡ t + suc (length rs) = omega arith in
    let said = (qs ++ replicate (t - length qs) 1) ++ p ∷ rs in
    ⊎_elim
    (λ one.
    let prices = skipped t qs rs before ∙ ap (λ x. (qs ++ replicate (t - length qs) 1) ++ x ∷ rs) (sym one) in
    subst (λ x. ReadsPrices n d qs (price_field t x ++ price_fields (suc t) rs) (t + suc (length rs)) said) (sym one)
    (prices_same n d qs (price_fields (suc t) rs) (suc t + length rs) (t + suc (length rs)) ((qs ++ replicate (suc t - length qs) 1) ++ rs) said next prices
    (reads_prices n rs (suc t) qs d f some (omega arith) (omega arith) right.1)))
    (λ other.
    let more : 2 ≤ p = omega (arith, right.0.0, other) in
    let b : List ℕ = t ∷ two p in
    let us = with_price t p qs in
    let value : pair_at b 1 ≡ p = two_back p in
    let none : cause_of d (block 2 b) ≡ None =
    kind_right d b (price_kind (omega (arith, f.count_is)) f.states_is refl (omega (arith, f.task_is)) (omega arith) (omega arith) (omega (arith, right.0.1))) in
    let same : grow (content n qs [] []) (block 2 b) ≡ content n us [] [] = ap (λ x. content n (with_price t x qs) [] []) value in
    let f' = follows_more d (content n qs [] []) (content n us [] []) (block 2 b) f none same in
    let d' = after d (block 2 b) in
    subst (λ l. ReadsPrices n d qs (l ++ price_fields (suc t) rs) (t + suc (length rs)) said) (sym (price_field_is t p more))
    (prices_more n d qs us (block 2 b) (price_fields (suc t) rs) (t + suc (length rs)) said none same
    (prices_same n d' us (price_fields (suc t) rs) (suc t + length rs) (t + suc (length rs)) ((us ++ replicate (suc t - length us) 1) ++ rs) said next (named t p qs rs before)
    (reads_prices n rs (suc t) us d' f' some (omega (arith, length_with_price t p qs before)) (omega arith) right.1))))
    (cases_eq p 1)

module _ (m : List State) (ps : List ℕ) (w : Writable m ps) where
  pub writable_right : Right beginning (fields m ps) × (all_read (after_all beginning (fields m ps)) ≡ true) × (model_in (fields m ps) ≡ m) × (prices_in (fields m ps) ≡ ps)
  writable_right =
      let n = length m in
      let limits = right_from_opens m ps w in
      let b : List ℕ = two n in
      let said : pair_at b 0 ≡ n = pair_at_two n [] in
      let none : cause_of beginning (block 1 b) ≡ None = kind_right beginning b (states_kind refl refl (omega (arith, limits.0)) (omega (arith, limits.1))) in
      let c₁ = content n [] [] [] in
      let same : grow nothing (block 1 b) ≡ c₁ = ap (λ k. content k [] [] []) said in
      let d₁ = after beginning (block 1 b) in
      let f₁ : Follows d₁ c₁ = follows_more beginning nothing c₁ (block 1 b) nothing_follows none same in
      let all : length ps ≡ 64 = w.prices.0 in
      let p = reads_prices n ps 0 [] d₁ f₁ (omega (arith, limits.0)) (omega arith) (omega arith) w.prices.1 in
      let us = p.1.0 in
      let c₂ = content n us [] [] in
      let pf = price_fields 0 ps in
      let sf = flat_map state_fields m in
      let d₂ = after_all d₁ pf in
      let f₂ : Follows d₂ c₂ = subst (Follows d₂) p.1.1.0 (follows_all d₁ c₁ pf f₁ p.0) in
      let s = reads_states n us m [] [] d₂ f₂ limits.2 (omega arith) in
      let right : Right beginning (fields m ps) = (none, right_append d₁ pf sf p.0 s.0) in
      let last : grow_all nothing (fields m ps) ≡ grow_all c₂ sf =
      ap (λ x. grow_all x (pf ++ sf)) same ∙ grow_all_append c₁ pf sf ∙ ap (λ x. grow_all x sf) p.1.1.0 in
      let model : model_in (fields m ps) ≡ m = ap states_of last ∙ s.1.2 in
      let tasks : 0 + length ps - length us ≡ 64 - length us = omega arith in
      let prices : prices_in (fields m ps) ≡ ps =
      ap prices_of last ∙ ap (λ l. l ++ replicate (64 - length l) 1) s.1.1 ∙ ap (λ k. us ++ replicate k 1) (sym tasks) ∙ p.1.1.2 in
      let d = after_all beginning (fields m ps) in
      let f : Follows d (grow_all nothing (fields m ps)) = follows_all beginning nothing (fields m ps) nothing_follows right in
      let count : d.count ≡ n = f.count_is ∙ ap (λ x. x.count) last ∙ s.1.0 in
      let states : d.states ≡ n = f.states_is ∙ ap length model in (
        right,
        and_from (ltb 0 d.count) (eqb d.states d.count) (lt-ltb 0 d.count (omega (arith, limits.0))) (eq-eqb d.states d.count (states ∙ sym count)),
        model,
        prices,
      )

pub begins_right : (fs : List Block) → Begins fs → Right beginning fs
begins_right fs b = right_front beginning fs b.more (subst (Right beginning) b.first (writable_right b.model b.prices b.writable).0)

-- No two models or lists of prices have the same fields.
pub one_to_one : (m m' : List State) (ps ps' : List ℕ) → Writable m ps → Writable m' ps' → fields m ps ≡ fields m' ps' → (m ≡ m') × (ps ≡ ps')
one_to_one m m' ps ps' w w' e =
    let r = writable_right m ps w in
    let r' = writable_right m' ps' w' in
    (sym r.2 ∙ ap model_in e ∙ r'.2, sym r.3 ∙ ap prices_in e ∙ r'.3)
