-- Events one after another.
use Rattle.std.proofs.Common.{◌≡◌, ℕ, ◌+◌, ◌≤◌, List, [], ◌∷◌, ◌++◌, length, get_or, sym, ap, subst, ⊎_elim, arith}
use Rattle.std.proofs.lemmas.List.{get_or-set_same, set_past}
use Rattle.std.proofs.lemmas.Bool.{cases_eq, cases_lt}
use Rattle.model.specs.Meaning.{State}
use Rattle.plan.specs.Bounds.{least_cost}
use Rattle.book.specs.Events.{Event, raised, marked, MayHappen, after_event, LeadsTo, raises}
use Rattle.book.specs.Pages.{Page, bound_at}
use Rattle.book.proofs.Changes.{raised_other}

-- The raises of two lists of events add up.
pub raises_append : (es fs : List Event) → raises (es ++ fs) ≡ raises es + raises fs
raises_append [] fs = omega arith
raises_append (raised s ∷ es) fs = omega (arith, raises_append es fs)
raises_append (marked s a ∷ es) fs = raises_append es fs

module _ (m : List State) (value : List ℕ → ℕ) (prices : List ℕ) (cap : ℕ) where
  -- One event more, at the end.
  pub leads_append : (p : Page) (es : List Event) (q : Page) (e : Event) → LeadsTo m value prices cap p es q → MayHappen m value prices cap q e
      → LeadsTo m value prices cap p (es ++ e ∷ []) (after_event m value prices q e)
  leads_append p [] q e leads may =
      (subst (λ r. MayHappen m value prices cap r e) (sym leads) may, ap (λ r. after_event m value prices r e) leads)
  leads_append p (f ∷ es) q e leads may = (leads.0, leads_append (after_event m value prices p f) es q e leads.1 may)

  -- No event lowers a bound.
  pub event_grows : (p : Page) (e : Event) → MayHappen m value prices cap p e → (u : ℕ) → bound_at p u ≤ bound_at (after_event m value prices p e) u
  event_grows p (raised s) may u =
      let next = after_event m value prices p (raised s) in
      let least = least_cost m value prices (bound_at p) s in
      ⊎_elim
      (λ same.
      ⊎_elim
      (λ inside.
      let old : bound_at p u ≡ bound_at p s = ap (bound_at p) same in
      let new : bound_at next u ≡ bound_at next s = ap (bound_at next) same in
      omega (arith, old, new, get_or-set_same p.bounds s least 0 inside, may.1))
      (λ past.
      let stays : bound_at next u ≡ bound_at p u = ap (λ l. get_or l u 0) (set_past p.bounds s least past) in
      omega (arith, stays))
      (cases_lt s (length p.bounds)))
      (λ other. omega (arith, raised_other m value prices p s u other))
      (cases_eq u s)
  event_grows p (marked s a) may u = omega arith

  pub raises_grow : (p : Page) (es : List Event) (q : Page) → LeadsTo m value prices cap p es q → (u : ℕ) → bound_at p u ≤ bound_at q u
  raises_grow p [] q leads u = omega (arith, ap (λ r. bound_at r u) leads)
  raises_grow p (e ∷ es) q leads u =
      let next = after_event m value prices p e in
      omega (arith, event_grows p e leads.0 u, raises_grow next es q leads.1 u)
