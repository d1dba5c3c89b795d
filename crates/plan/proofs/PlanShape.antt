-- A plan that has a cost at a state is closed and proper from there, and has no other cost.
use Rattle.std.proofs.Common.{◌≡◌, ℕ, ◌<◌, true, ◌⊎◌, List, length, get_or, sym, ap, ◌∙◌, subst, ap₂, inl, inr}
use Rattle.std.specs.List.{ContainsAt as Has}
use Rattle.std.proofs.lemmas.List.{ext_get_or}
use Rattle.cost.specs.Costs.{capped}
use Rattle.model.specs.Meaning.{Free, State, End, is_end, state_at, action_at}
use Rattle.plan.specs.Plans.{Plan, Takes, Leads, Path, here, step, Closed, Proper, price_of, Costs, at_end, at_open}
use Rattle.plan.proofs.Opened.{end_open, free_open}

module _ (m : List State) (p : Plan) where
  -- The plan takes one action at a state.
  pub takes_once : (s t t' : ℕ) (os os' : List ℕ) → Takes m p s t os → Takes m p s t' os' → (t ≡ t') × (os ≡ os')
  takes_once s t t' os os' (a, pa, free) (a', pa', free') =
      let same : a ≡ a' = cc in
      let both : Free t os ≡ Free t' os' = sym free ∙ ap (action_at m s) same ∙ free' in
      (cc, cc)

  -- An end leads nowhere.
  pub end_takes : {A : Type 0} (s c t : ℕ) (os : List ℕ) → state_at m s ≡ End c → Takes m p s t os → A
  end_takes s c t os e (a, pa, free) = let o = free_open m s a t os free in end_open c o.0 (sym e ∙ o.1)

  pub path_more : (s u x : ℕ) → Path m p s u → Leads m p u x → Path m p s x
  path_more s u x here l = step l here
  path_more s u x (step {x = y} k r) l = step k (path_more y u x r l)

  pub path_join : (s u x : ℕ) → Path m p s u → Path m p u x → Path m p s x
  path_join s u x here r = r
  path_join s u x (step {x = y} k q) r = step k (path_join y u x q r)

  -- A way back to a state is a way back to the state that comes next.
  turned : (s u : ℕ) → Leads m p s u → Path m p u s → (y : ℕ) × Leads m p u y × Path m p y u
  turned s u l here = (s, l, here)
  turned s u l (step {x = y} k r) = (y, k, path_more y s u r l)

  module _ (value : List ℕ → ℕ) (prices : List ℕ) where
    -- What the plan leads to has a cost.
    child : (s c x : ℕ) → Costs m value prices p s c → Leads m p s x → (d : ℕ) × Costs m value prices p x d
    child s c x (at_end e) (t, os, takes, has) = end_takes s c t os e takes
    child s c x (at_open {t = t} {os = os} cs takes long kids e) (t', os', takes', has) =
        let same = (takes_once s t t' os os' takes takes').1 in
        let in_os = subst (λ l. Has l x) (sym same) has in
        (get_or cs in_os.0 0, subst (λ u. Costs m value prices p u (get_or cs in_os.0 0)) (in_os.2 0) (kids in_os.0 in_os.1))

    pub along : (s c u : ℕ) → Costs m value prices p s c → Path m p s u → (d : ℕ) × Costs m value prices p u d
    along s c u k here = (c, k)
    along s c u k (step {x = x} l r) = let d = child s c x k l in along x d.0 u d.1 r

    no_return : (s c x : ℕ) → Costs m value prices p s c → Leads m p s x → Path m p x s → ⊥
    no_return s c x (at_end e) (t, os, takes, has) r = end_takes s c t os e takes
    no_return s c x (at_open {t = t} {os = os} cs takes long kids e) (t', os', takes', has) r =
        let same = (takes_once s t t' os os' takes takes').1 in
        let in_os = subst (λ l. Has l x) (sym same) has in
        let k = in_os.0 in
        let is = in_os.2 0 in
        let u = get_or os k 0 in
        let back = turned s u (t, os, takes, (k, in_os.1, λ d. in_os.2 d ∙ sym is)) (subst (λ z. Path m p z s) (sym is) r) in
        no_return u (get_or cs k 0) back.0 (kids k in_os.1) back.1 back.2

    decided : (u d : ℕ) → Costs m value prices p u d → (is_end (state_at m u) ≡ true) ⊎ ((t : ℕ) × (os : List ℕ) × Takes m p u t os)
    decided u d (at_end e) = inl (ap is_end e)
    decided u d (at_open {t = t} {os = os} cs takes long kids e) = inr (t, os, takes)

    pub costs_closed : (s c : ℕ) → Costs m value prices p s c → Closed m p s
    costs_closed s c k u r = let d = along s c u k r in decided u d.0 d.1

    pub costs_proper : (s c : ℕ) → Costs m value prices p s c → Proper m p s
    costs_proper s c k u x r l b = let d = along s c u k r in no_return u d.0 x d.1 l b

    pub costs_once : (s c d : ℕ) → Costs m value prices p s c → Costs m value prices p s d → c ≡ d
    costs_once s c d (at_end e) (at_end f) = let same : End c ≡ End d = sym e ∙ f in cc
    costs_once s c d (at_end e) (at_open {t = t} {os = os} cs takes long kids f) = end_takes s c t os e takes
    costs_once s c d (at_open {t = t} {os = os} cs takes long kids e) (at_end f) = end_takes s d t os f takes
    costs_once s c d (at_open {t = t} {os = os} cs takes long kids e) (at_open {t = t'} {os = os'} cs' takes' long' kids' f) =
        let same = takes_once s t t' os os' takes takes' in
        let lengths : length cs ≡ length cs' = long ∙ ap length same.1 ∙ sym long' in
        let each = ext_get_or 0 cs cs' lengths
        (λ k h.
        let l : k < length os = subst (λ n. k < n) long h in
        costs_once (get_or os k 0) (get_or cs k 0) (get_or cs' k 0) (kids k l)
        (subst (λ l'. Costs m value prices p (get_or l' k 0) (get_or cs' k 0)) (sym same.1) (kids' k (subst (λ n. k < length n) same.1 l)))) in
        e ∙ ap₂ (λ t l. capped (price_of prices t) (value l)) same.0 each ∙ sym f
