-- Writing what right fields say, one after the other.
use Rattle.std.proofs.Common.{◌≡◌, ℕ, ◌≤◌, List, [], ◌∷◌, ◌++◌, length, Some, None, sym, refl, ap, ◌∙◌, subst, append_assoc, arith}
use Rattle.std.proofs.lemmas.List.{append-nil}
use Rattle.sheet.specs.Blocks.{Block, block, body_of, block_bytes, blocks_bytes}
use Rattle.sheet.specs.Stages.{Stage, beginning, cause_of, after, after_all, Right}
use Rattle.sheet.specs.Wrongs.{NoField}
use Rattle.sheet.specs.declared.faults.Cause.{Cause}
use Rattle.sheet.proofs.FieldKinds.{Kind, states_kind, price_kind, end_kind, open_kind, action_kind, kind_of}
use Rattle.sheet.proofs.Framing.{next_field}
use Rattle.sheet.proofs.Runs.{right_back}
use Rattle.table.specs.declared.tables.ActionRow.{ActionRow}
use Rattle.table.specs.declared.tables.StateRow.{StateRow}
use Rattle.reader.specs.Puts.{put_all, put_state, put_action, put_outcomes, put_price, Filled}

-- What fields write, with one field more.
pub put_all_push : {T : Type 0} (put : Stage → Block → T → T) (d : Stage) (gs : List Block) (f : Block) (x : T) → put_all put d (gs ++ f ∷ []) x ≡ put (after_all d gs) f (put_all put d gs x)
put_all_push put d [] f x = refl
put_all_push put d (g ∷ gs) f x = put_all_push put (after d g) gs f (put d g x)

-- Nothing is wrong with the next of right fields.
pub next_right : (fs gs hs : List Block) (f : Block) → Right beginning fs → fs ≡ gs ++ f ∷ hs → cause_of (after_all beginning gs) f ≡ None
next_right fs gs hs f right e = (right_back beginning gs (f ∷ hs) (subst (Right beginning) e right)).0

-- Fields that are left, with the first one moved to those that were read.
pub moved : (fs gs hs is : List Block) (f : Block) → fs ≡ gs ++ hs → hs ≡ f ∷ is → fs ≡ (gs ++ f ∷ []) ++ is
moved fs gs hs is f e h = e ∙ ap (λ l. gs ++ l) h ∙ sym (append_assoc gs (f ∷ []) is)

-- Tables and prices with one field more.
pub filled_more : {rows₀ : List StateRow} {acts₀ : List ActionRow} {outs₀ : List ℕ} {rows rows' : List StateRow} {acts acts' : List ActionRow} {outs outs' ps ps' : List ℕ} (gs : List Block) (f : Block) → Filled gs rows₀ acts₀ outs₀ rows acts outs ps → rows' ≡ put_state (after_all beginning gs) f rows → acts' ≡ put_action (after_all beginning gs) f acts → outs' ≡ put_outcomes (after_all beginning gs) f outs → ps' ≡ put_price (after_all beginning gs) f ps → Filled (gs ++ f ∷ []) rows₀ acts₀ outs₀ rows' acts' outs' ps'
filled_more {rows₀} {acts₀} {outs₀} gs f filled r a o p =
    let d = after_all beginning gs in
    record {
      states = r ∙ ap (put_state d f) filled.states ∙ sym (put_all_push put_state beginning gs f rows₀);
      actions = a ∙ ap (put_action d f) filled.actions ∙ sym (put_all_push put_action beginning gs f acts₀);
      outcomes = o ∙ ap (put_outcomes d f) filled.outcomes ∙ sym (put_all_push put_outcomes beginning gs f outs₀);
      prices = p ∙ ap (put_price d f) filled.prices ∙ sym (put_all_push put_price beginning gs f _);
    }

-- A field of which nothing is wrong is short.
kind_short : (d : Stage) (b : List ℕ) {t : ℕ} → Kind d b t → length b ≤ 33
kind_short d b (states_kind c l v w) = omega arith
kind_short d b (price_kind c s l t u v w) = omega arith
kind_short d b (end_kind s l v) = omega arith
kind_short d b (open_kind s l) = omega arith
kind_short d b (action_kind r o l few t v) = few

pub field_short : (d : Stage) (f : Block) → cause_of d f ≡ None → length (body_of f) ≤ 33
field_short d (block t b) e = kind_short d b (kind_of d b t e)

-- Where no field stands first, all fields were read.
pub all_taken : (fs gs hs : List Block) → fs ≡ gs ++ hs → NoField (blocks_bytes hs) → gs ≡ fs
all_taken fs gs [] e none = sym (e ∙ append-nil gs)
all_taken fs gs (h ∷ hs) e none = absurd (none h (blocks_bytes hs) refl)

-- Nothing is wrong with the field that stands first after some of the right fields.
pub not_stuck : (fs gs hs : List Block) (f : Block) (more : List ℕ) (c : Cause) → Right beginning fs → fs ≡ gs ++ hs → blocks_bytes hs ≡ block_bytes f ++ more → cause_of (after_all beginning gs) f ≡ Some c → ⊥
not_stuck fs gs hs f more c right e first wrong =
    let next = next_field hs f more first in
    let fine = next_right fs gs next.0 f right (e ∙ ap (λ l. gs ++ l) next.1.0) in
    let z : ◌≡◌ {A = ℕ} 0 1 = cc in
    omega arith
