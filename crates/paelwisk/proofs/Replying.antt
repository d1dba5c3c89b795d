-- How the lines of best costs are put together.
use Rattle.std.proofs.Common.{◌≡◌, ℕ, ◌+◌, ◌<◌, ◌≤◌, List, [], ◌∷◌, ◌++◌, length, get_or, drop, replicate, sym, refl, ap, ◌∙◌, subst}
use Rattle.std.specs.List.{flat_map}
use Rattle.std.proofs.lemmas.List.{append_assoc, append-nil, drop_all, drop_more}
use Rattle.cost.specs.declared.prices.Price.{Price}
use Rattle.cost.specs.declared.prices.Task.{Task}
use Rattle.model.specs.Meaning.{State}
use Rattle.paelwisk.specs.Asks.{best_text, priced, AllBest, Replies, Replied, AllLines}
use Rattle.paelwisk.specs.Lines.{lines_about}
use Rattle.paelwisk.specs.declared.valves.asks.Ask.{Ask}
use Rattle.paelwisk.specs.declared.valves.asks.Ask.TheVariants as ask
use Rattle.paelwisk.specs.declared.names.RuleName.{RuleName}

-- What is told so far, whatever is told after it, answers all that is asked.
abbrev pub Goes : List State → List ℕ → List Ask → ℕ → List ℕ → List ℕ → Type 0
Goes m ss asks i ps told =
    (rest : List ℕ) → Replies m ss ps (drop i asks) rest → Replies m ss (replicate 64 1) asks (told ++ rest)

-- A price more is set.
pub price_more : (m : List State) (ss : List ℕ) (asks : List Ask) (i : ℕ) (ps told : List ℕ) (a : Ask) (t : Task) (p : Price) → i < length asks → get_or asks i a ≡ ask.Price t p → Goes m ss asks i ps told → Goes m ss asks (i + 1) (priced ps t p) told
price_more m ss asks i ps told a t p within is before rest h =
    before rest
    (subst (λ (l : List Ask). Replies m ss ps l rest) (sym (drop_more asks i a within ∙ ap (λ (x : Ask). x ∷ drop (i + 1) asks) is)) h)

-- Best costs more are told.
pub best_more : (m : List State) (ss : List ℕ) (asks : List Ask) (i : ℕ) (ps told : List ℕ) (a : Ask) (r : RuleName) (v : ℕ → ℕ) → i < length asks → get_or asks i a ≡ ask.Best r → AllBest m r ps v → Goes m ss asks i ps told → Goes m ss asks (i + 1) ps (told ++ flat_map (λ s. best_text r s (v s)) ss)
best_more m ss asks i ps told a r v within is best before rest h =
    let lines : List ℕ = flat_map (λ s. best_text r s (v s)) ss in
    subst (λ (t : List ℕ). Replies m ss (replicate 64 1) asks t) (sym (append_assoc told lines rest))
    (before (lines ++ rest)
    (subst (λ (l : List Ask). Replies m ss ps l (lines ++ rest)) (sym (drop_more asks i a within ∙ ap (λ (x : Ask). x ∷ drop (i + 1) asks) is)) (v, rest, best, h, refl)))

-- A text has been added to by what is told so far.
abbrev pub SoFar : List State → List ℕ → List Ask → ℕ → List ℕ → List ℕ → List ℕ → Type 0
SoFar m ss asks i ps start now = (told : List ℕ) × (now ≡ start ++ told) × Goes m ss asks i ps told

pub price_told : (m : List State) (ss : List ℕ) (asks : List Ask) (i : ℕ) (ps after start old new : List ℕ) (a : Ask) (t : Task) (p : Price) → i < length asks → get_or asks i a ≡ ask.Price t p → after ≡ priced ps t p → new ≡ old → SoFar m ss asks i ps start old → SoFar m ss asks (i + 1) after start new
price_told m ss asks i ps after start old new a t p within is set same before = (
  before.0,
  same ∙ before.1,
  subst (λ (x : List ℕ). Goes m ss asks (i + 1) x before.0) (sym set) (price_more m ss asks i ps before.0 a t p within is before.2),
)

pub best_told : (m : List State) (ss : List ℕ) (asks : List Ask) (i : ℕ) (ps after start old new : List ℕ) (a : Ask) (r : RuleName) (v : ℕ → ℕ) → i < length asks → get_or asks i a ≡ ask.Best r → after ≡ ps → new ≡ old ++ flat_map (λ s. best_text r s (v s)) ss → AllBest m r ps v → SoFar m ss asks i ps start old → SoFar m ss asks (i + 1) after start new
best_told m ss asks i ps after start old new a r v within is same e best before =
    let lines : List ℕ = flat_map (λ s. best_text r s (v s)) ss in (
      before.0 ++ lines,
      e ∙ (ap (λ t. t ++ lines) before.1 ∙ append_assoc start before.0 lines),
      subst (λ (x : List ℕ). Goes m ss asks (i + 1) x (before.0 ++ lines)) (sym same) (best_more m ss asks i ps before.0 a r v within is best before.2),
    )

-- Once all is asked, what is told answers it.
pub all_asked : (m : List State) (ss : List ℕ) (asks : List Ask) (i : ℕ) (ps old new : List ℕ) → length asks ≤ i → SoFar m ss asks i ps old new → Replied m ss asks old new
all_asked m ss asks i ps old new past before = record {
  replies = before.0 ++ [];
  answers = before.2 [] (subst (λ (l : List Ask). Replies m ss ps l []) (sym (drop_all i asks past)) refl);
  text = before.1 ∙ ap (λ t. old ++ t) (sym (append-nil before.0));
}

-- What is told after the lines about the states.
pub all_lines : (m : List State) (ss : List ℕ) (asks : List Ask) (old new : List ℕ) → old ≡ lines_about m ss → Replied m ss asks old new → AllLines m ss asks new
all_lines m ss asks old new e h = subst (λ (o : List ℕ). Replied m ss asks o new) e h
