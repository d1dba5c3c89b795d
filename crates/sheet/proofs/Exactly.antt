-- Bytes are a sheet, or have exactly one fault.
use Rattle.std.proofs.Common.{◌≡◌, ℕ, ◌<◌, ◌≤◌, Bool, true, false, cond, not, ◌⊎◌, List, [], ◌∷◌, ◌++◌, length, Some, None, Option, sym, refl, ap, ◌∙◌, subst, inl, inr, ⊎_elim, append_assoc, arith}
use Rattle.std.proofs.lemmas.Bool.{cases_lt}
use Rattle.model.specs.Firsts.{when, first_of}
use Rattle.model.specs.Meaning.{State}
use Rattle.sheet.specs.Blocks.{Block, block, block_bytes, blocks_bytes}
use Rattle.sheet.specs.Refusals.{fault_at}
use Rattle.sheet.specs.SheetFacts.{Bytes, SheetStandsForOne, SheetHasNoFault, FaultIsOne}
use Rattle.sheet.specs.Sheets.{fields, Stands}
use Rattle.sheet.specs.Stages.{Stage, beginning, after, after_all, tag_due, length_right, value_right, cause_of, Right}
use Rattle.sheet.specs.Wrongs.{Begins, Reached, NoField, Wrong}
use Rattle.sheet.specs.declared.faults.Cause.{Cause}
use Rattle.sheet.specs.declared.faults.Cause.TheVariants.{Tag, Length, Value}
use Rattle.sheet.specs.declared.faults.SheetFault.{SheetFault}
use Rattle.sheet.specs.declared.faults.SheetFault.TheVariants as fault
use Rattle.sheet.proofs.Accepting.{begins_right, one_to_one}
use Rattle.sheet.proofs.Completing.{right_begins}
use Rattle.sheet.proofs.FieldKinds.{never}
use Rattle.sheet.proofs.Framing.{block_same, blocks_same, blocks_front, next_field}
use Rattle.sheet.proofs.Runs.{right_append, right_back, all_parts, joined_push}

pub stands_for_one : SheetStandsForOne
stands_for_one bytes m m' ps ps' s t =
    one_to_one m m' ps ps' s.writable t.writable (blocks_same (fields m ps) (fields m' ps') (sym s.same ∙ t.same))

-- A field stands first of which something is wrong after a stage.
pub record Bad (d : Stage) (rest : List ℕ) (c : Cause) : Type 0 where
  pub field : Block
  pub more : List ℕ
  pub first : rest ≡ block_bytes field ++ more
  pub wrong : cause_of d field ≡ Some c

-- Reading stops after a stage: no field stands first, or something is wrong with it.
abbrev Stuck : Stage → List ℕ → Type 0
Stuck d rest = NoField rest ⊎ ((c : Cause) × Bad d rest c)

-- Where reading stops, no field is right.
stuck_not : (d : Stage) (f : Block) (more rest : List ℕ) → rest ≡ block_bytes f ++ more → cause_of d f ≡ None → Stuck d rest → ⊥
stuck_not d f more rest e fine (inl none) = none f more e
stuck_not d f more rest e fine (inr (c, bad)) =
    let same = (block_same f bad.field more bad.more (sym e ∙ bad.first)).0 in
    let wrong : cause_of d f ≡ Some c = ap (cause_of d) same ∙ bad.wrong in
    let z : ◌≡◌ {A = ℕ} 0 1 = cc in
    omega arith

-- Two readings of the same bytes stop at the same place.
same_stop : (fs gs : List Block) (d : Stage) (r s : List ℕ) → blocks_bytes fs ++ r ≡ blocks_bytes gs ++ s → Right d fs → Right d gs → Stuck (after_all d fs) r → Stuck (after_all d gs) s → (fs ≡ gs) × (r ≡ s)
same_stop [] [] d r s e right right' stuck stuck' = (refl, e)
same_stop [] (g ∷ gs) d r s e right right' stuck stuck' =
    absurd (stuck_not d g (blocks_bytes gs ++ s) r (e ∙ append_assoc (block_bytes g) (blocks_bytes gs) s) right'.0 stuck)
same_stop (f ∷ fs) [] d r s e right right' stuck stuck' =
    absurd (stuck_not d f (blocks_bytes fs ++ r) s (sym e ∙ append_assoc (block_bytes f) (blocks_bytes fs) r) right.0 stuck')
same_stop (f ∷ fs) (g ∷ gs) d r s e right right' stuck stuck' =
    let split = block_same f g (blocks_bytes fs ++ r) (blocks_bytes gs ++ s) (sym (append_assoc (block_bytes f) (blocks_bytes fs) r) ∙ e ∙ append_assoc (block_bytes g) (blocks_bytes gs) s) in
    let again = subst (λ x. (cause_of d x ≡ None) × Right (after d x) gs) (sym split.0) right' in
    let rest = same_stop fs gs (after d f) r s split.1 right.1 again.1 stuck (subst (λ x. Stuck (after_all (after d x) gs) s) (sym split.0) stuck') in
    (ap (λ x. x ∷ fs) split.0 ∙ ap (λ l. g ∷ l) rest.0, rest.1)

-- The cause of a field, by its three tests.
abbrev by_tests : Bool → Bool → Bool → Option Cause
by_tests a b c = first_of (when (not a) Tag) (first_of (when (not b) Length) (when (not c) Value))

by_tag : (a b c : Bool) → a ≡ false → by_tests a b c ≡ Some Tag
by_tag false b c e = refl
by_tag true b c e = never (ap (λ x. cond x 0 1) e)

by_length : (a b c : Bool) → a ≡ true → b ≡ false → by_tests a b c ≡ Some Length
by_length true false c e h = refl
by_length true true c e h = never (ap (λ x. cond x 0 1) h)
by_length false b c e h = never (ap (λ x. cond x 0 1) (sym e))

by_value : (a b c : Bool) → a ≡ true → b ≡ true → (by_tests a b c ≡ None → ⊥) → by_tests a b c ≡ Some Value
by_value true true true e h some = absurd (some refl)
by_value true true false e h some = refl
by_value true false c e h some = never (ap (λ x. cond x 0 1) (sym h))
by_value false b c e h some = never (ap (λ x. cond x 0 1) (sym e))

-- Where reading stops, and by which fault.
pub record Stop (bytes : List ℕ) (f : SheetFault) : Type 0 where
  pub blocks : List Block
  pub rest : List ℕ
  pub right : Right beginning blocks
  pub split : bytes ≡ blocks_bytes blocks ++ rest
  pub verdict : (NoField rest × (f ≡ fault.Ends (length (blocks_bytes blocks)))) ⊎ ((c : Cause) × (Bad (after_all beginning blocks) rest c × (f ≡ fault_at (length (blocks_bytes blocks)) c)))

-- A field that is refused stops the reading.
bad_stop : (bytes : List ℕ) (p : ℕ) (fs : List Block) (g : Block) (more : List ℕ) (c : Cause) → Reached bytes p fs (block_bytes g ++ more) → cause_of (after_all beginning fs) g ≡ Some c → Stop bytes (fault_at p c)
bad_stop bytes p fs g more c reached wrong =
    record {
      blocks = fs;
      rest = block_bytes g ++ more;
      right = begins_right fs reached.begins;
      split = reached.bytes_split;
      verdict = inr (c, (record { field = g; more = more; first = refl; wrong = wrong }, ap (λ q. fault_at q c) reached.place_is));
    }

wrong_stop : (bytes : List ℕ) → Bytes bytes → length bytes ≤ 65536 → (f : SheetFault) → Wrong bytes f → Stop bytes f
wrong_stop bytes small few (fault.Ends p) (inl big) = absurd (omega arith)
wrong_stop bytes small few (fault.Ends p) (inr (le, (fs, (rest, (reached, none, no_sheet))))) =
    record {
      blocks = fs;
      rest = rest;
      right = begins_right fs reached.begins;
      split = reached.bytes_split;
      verdict = inl (none, ap fault.Ends reached.place_is);
    }
wrong_stop bytes small few (fault.Tag p) (le, (fs, (block t b, (more, (reached, what))))) =
    bad_stop bytes p fs (block t b) more Tag reached (by_tag (tag_due (after_all beginning fs) t) (length_right t (length b)) (value_right (after_all beginning fs) t b) what)
wrong_stop bytes small few (fault.Length p) (le, (fs, (block t b, (more, (reached, what))))) =
    bad_stop bytes p fs (block t b) more Length reached (by_length (tag_due (after_all beginning fs) t) (length_right t (length b)) (value_right (after_all beginning fs) t b) what.0 what.1)
wrong_stop bytes small few (fault.Value p) (le, (fs, (block t b, (more, (reached, what))))) =
    let g = block t b in
    let d = after_all beginning fs in
    let front : Bytes (blocks_bytes (fs ++ g ∷ [])) =
    subst Bytes (sym (joined_push block_bytes fs g)) (all_parts (λ x. x < 256) (blocks_bytes fs ++ block_bytes g) more (subst Bytes (reached.bytes_split ∙ sym (append_assoc (blocks_bytes fs) (block_bytes g) more)) small)).0 in
    bad_stop bytes p fs g more Value reached
    (by_value (tag_due d t) (length_right t (length b)) (value_right d t b) what.0 what.1
    (λ none. what.2 (right_begins (fs ++ g ∷ []) front (right_append beginning fs (g ∷ []) (begins_right fs reached.begins) (none, tt)))))
wrong_stop bytes small few (fault.Short list) none = absurd none

-- What stops a reading leaves it stuck.
stuck : (bytes : List ℕ) (f : SheetFault) (s : Stop bytes f) → Stuck (after_all beginning s.blocks) s.rest
stuck bytes f s = ⊎_elim (λ h. inl h.0) (λ h. inr (h.0, h.1.0)) s.verdict

-- Two stops of the same bytes have the same fault.
stops_same : (bytes : List ℕ) (f g : SheetFault) → Stop bytes f → Stop bytes g → f ≡ g
stops_same bytes f g s t =
    let same = same_stop s.blocks t.blocks beginning s.rest t.rest (sym s.split ∙ t.split) s.right t.right (stuck bytes f s) (stuck bytes g t) in
    let place : length (blocks_bytes s.blocks) ≡ length (blocks_bytes t.blocks) = ap (λ l. length (blocks_bytes l)) same.0 in
    ⊎_elim
    (λ none. ⊎_elim (λ none'. none.1 ∙ ap fault.Ends place ∙ sym none'.1) (λ bad. absurd (none.0 bad.1.0.field bad.1.0.more (same.1 ∙ bad.1.0.first))) t.verdict)
    (λ bad. ⊎_elim
    (λ none. absurd (none.0 bad.1.0.field bad.1.0.more (sym same.1 ∙ bad.1.0.first)))
    (λ bad'.
    let x = bad.1.0 in
    let y = bad'.1.0 in
    let field = (block_same x.field y.field x.more y.more (sym x.first ∙ same.1 ∙ y.first)).0 in
    let causes : Some bad.0 ≡ Some bad'.0 = sym x.wrong ∙ ap (λ l. cause_of (after_all beginning l) x.field) same.0 ∙ ap (cause_of (after_all beginning t.blocks)) field ∙ y.wrong in
    let cause : bad.0 ≡ bad'.0 = cc in
    bad.1.1 ∙ ap (λ c. fault_at (length (blocks_bytes s.blocks)) c) cause ∙ ap (λ p. fault_at p bad'.0) place ∙ sym bad'.1.1)
    t.verdict)
    s.verdict

big_one : (bytes : List ℕ) (f : SheetFault) → 65536 < length bytes → Wrong bytes f → f ≡ fault.Ends 65536
big_one bytes (fault.Ends p) big (inl h) = ap fault.Ends h.1
big_one bytes (fault.Ends p) big (inr h) = absurd (omega arith)
big_one bytes (fault.Tag p) big h = absurd (omega arith)
big_one bytes (fault.Length p) big h = absurd (omega arith)
big_one bytes (fault.Value p) big h = absurd (omega arith)
big_one bytes (fault.Short p) big h = absurd h

pub fault_is_one_lem : FaultIsOne
fault_is_one_lem bytes f g small wrong other =
    ⊎_elim
    (λ big. big_one bytes f big wrong ∙ sym (big_one bytes g big other))
    (λ few. stops_same bytes f g (wrong_stop bytes small few f wrong) (wrong_stop bytes small few g other))
    (cases_lt 65536 (length bytes))

-- A field that stands in a sheet is one that a sheet has there.
field_there : (bytes : List ℕ) (p : ℕ) (fs : List Block) (f : Block) (rest : List ℕ) (m : List State) (ps : List ℕ) → Stands bytes m ps → Reached bytes p fs (block_bytes f ++ rest) → Begins (fs ++ f ∷ [])
field_there bytes p fs f rest m ps stands reached =
    let front = blocks_front fs (fields m ps) (block_bytes f ++ rest) (sym stands.same ∙ reached.bytes_split) in
    let next = next_field front.0 f rest (sym front.1.1) in
    record {
      model = m;
      prices = ps;
      more = next.0;
      writable = stands.writable;
      first = front.1.0 ∙ ap (λ l. fs ++ l) next.1.0 ∙ sym (append_assoc fs (f ∷ []) next.0);
    }

-- Such a field is not refused.
not_wrong : (fs : List Block) (f : Block) (c : Cause) → Begins (fs ++ f ∷ []) → cause_of (after_all beginning fs) f ≡ Some c → ⊥
not_wrong fs f c begins wrong =
    let fine = (right_back beginning fs (f ∷ []) (begins_right (fs ++ f ∷ []) begins)).0 in
    let z : ◌≡◌ {A = ℕ} 0 1 = cc in
    omega arith

pub sheet_has_no_fault_lem : SheetHasNoFault
sheet_has_no_fault_lem bytes (fault.Ends p) m ps (inl h) stands = omega (arith, stands.few)
sheet_has_no_fault_lem bytes (fault.Ends p) m ps (inr (le, (fs, (rest, (reached, none, no_sheet))))) stands = no_sheet m ps stands
sheet_has_no_fault_lem bytes (fault.Tag p) m ps (le, (fs, (block t b, (rest, (reached, what))))) stands =
    not_wrong fs (block t b) Tag (field_there bytes p fs (block t b) rest m ps stands reached)
    (by_tag (tag_due (after_all beginning fs) t) (length_right t (length b)) (value_right (after_all beginning fs) t b) what)
sheet_has_no_fault_lem bytes (fault.Length p) m ps (le, (fs, (block t b, (rest, (reached, what))))) stands =
    not_wrong fs (block t b) Length (field_there bytes p fs (block t b) rest m ps stands reached)
    (by_length (tag_due (after_all beginning fs) t) (length_right t (length b)) (value_right (after_all beginning fs) t b) what.0 what.1)
sheet_has_no_fault_lem bytes (fault.Value p) m ps (le, (fs, (f, (rest, (reached, what))))) stands =
    what.2 (field_there bytes p fs f rest m ps stands reached)
sheet_has_no_fault_lem bytes (fault.Short list) m ps none stands = none
