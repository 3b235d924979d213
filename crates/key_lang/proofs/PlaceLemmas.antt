-- Places of variables and constants in a key whose slots differ.
use Rattle.std.proofs.Common.{◌≡◌, ℕ, zero, suc, ◌+◌, ◌<◌, Bool, true, false, ◌&&◌, eqb, nat_lt, bytes_eq, List, [], ◌∷◌, ◌++◌, map, length, get_or, slice_get, position, Some, None, option_map, refl, sym, ap, ◌∙◌, arith}
use Rattle.std.proofs.lemmas.Bool.{and_parts, and_from, cond-true, lt-ltb, eq-eqb, not-true, false_from_ne_true, true≢false}
use Rattle.std.proofs.lemmas.List.Folds.{list_any_at}
use Rattle.std.proofs.lemmas.List.Sums.{position_or_len_is}
use Rattle.std.proofs.lemmas.List.Quantifiers.{position-Some}
use Rattle.std.proofs.lemmas.Option.{get_or_from_slice_get, slice_get_within}
use Rattle.std.specs.Cmp.Lexicographic.{bytes_decides}
use Rattle.std.specs.List.{list_all, list_any, position_or_len}
use Rattle.gk_base.specs.declared.term.Term.{Term}
use Rattle.chase_laws.proofs.CallerLemmas.{slice_get-within}
use Rattle.term_table.specs.Numbering.{same_term}
use Rattle.term_table.proofs.CallerLemmas.{same_term-Decides}
use Rattle.key_file.specs.declared.slot.KeySlot.{KeySlot}
use Rattle.key_file.specs.declared.slot.KeySlot.TheVariants.{Entity, Any, Value, Folded, Fixed}
use Rattle.key_file.specs.Key.{may_be_subject, same_slot, all_differ}
use Rattle.key_lang.specs.OpenKey.{sigil_of, slot_name, is_named_so}
use Rattle.key_lang.specs.Statements.{begins_key_subject, is_sigil}
use Rattle.key_lang.specs.Fair.{is_no_constant}
use Rattle.key_lang.specs.CanonicalKeys.{node_text}

pub none_at : {X : Type 0} (p : X → Bool) (xs : List X) (j : ℕ) (d : X) → list_any p xs ≡ false → j < length xs → p (get_or xs j d) ≡ false
none_at p xs j d none below = false_from_ne_true _ (λ h. true≢false (sym (list_any_at p xs j d below h) ∙ none))

pub differ_at : {X : Type 0} (same : X → X → Bool) (xs : List X) → all_differ same xs ≡ true → (i k : ℕ) (d : X) → k < i → i < length xs → same (get_or xs k d) (get_or xs i d) ≡ false
differ_at same [] a i k d less below = absurd (omega (arith, below))
differ_at same (x ∷ xs) a zero k d less below = absurd (omega (arith, less))
differ_at same (x ∷ xs) a (suc i) zero d less below = none_at (same x) xs i d (not-true _ (and_parts _ _ a).0) (omega (arith, below))
differ_at same (x ∷ xs) a (suc i) (suc k) d less below = differ_at same xs (and_parts _ _ a).1 i k d (omega (arith, less)) (omega (arith, below))

pub position_here : {X : Type 0} (p : X → Bool) (xs : List X) (i : ℕ) (x : X) → slice_get xs i ≡ Some x → p x ≡ true → ((k : ℕ) → k < i → p (get_or xs k x) ≡ false) → position p xs ≡ Some i
position_here p xs i x e px none =
    let below = slice_get_within xs i x e in
    let is = position_or_len_is p xs i x (omega (arith, below)) none (λ _. ap p (get_or_from_slice_get xs i x x e) ∙ px) in
    let first = position_or_len p xs in
    cond-true (nat_lt first (length xs)) (Some first) None (lt-ltb first (length xs) (omega (arith, is, below))) ∙ ap Some is

-- variables with one sigil and one name are the same
pub named_same : (x v : KeySlot) → is_no_constant x ≡ true → is_no_constant v ≡ true → is_named_so (sigil_of v) (slot_name v) x ≡ true → same_slot x v ≡ true
named_same (Entity a t) (Entity b u) p q e = e
named_same (Any a t) (Any b u) p q e = e
named_same (Value a) (Value b) p q e = e
named_same (Value a) (Folded b) p q e = e
named_same (Folded a) (Value b) p q e = e
named_same (Folded a) (Folded b) p q e = e
named_same (Fixed c) v p q e = absurd (true≢false (sym p))
named_same x (Fixed d) p q e = absurd (true≢false (sym q))
named_same x v p q e = absurd (true≢false (sym e))

pub all_at : {X : Type 0} (p : X → Bool) (xs : List X) → list_all p xs ≡ true → (i : ℕ) (d : X) → i < length xs → p (get_or xs i d) ≡ true
all_at p [] a i d below = absurd (omega (arith, below))
all_at p (x ∷ xs) a zero d below = (and_parts _ _ a).0
all_at p (x ∷ xs) a (suc i) d below = all_at p xs (and_parts _ _ a).1 i d (omega (arith, below))

-- the place of a variable, by its sigil and name
pub variable_place : (variables : List KeySlot) → list_all is_no_constant variables ≡ true → all_differ same_slot variables ≡ true → (i : ℕ) (s : KeySlot) → slice_get variables i ≡ Some s
    → position (is_named_so (sigil_of s) (slot_name s)) variables ≡ Some i
variable_place variables all differ i s e =
    let below = slice_get_within variables i s e in
    let here : get_or variables i s ≡ s = get_or_from_slice_get variables i s s e in
    let plain : is_no_constant s ≡ true = ap is_no_constant (sym here) ∙ all_at is_no_constant variables all i s below in
    position_here (is_named_so (sigil_of s) (slot_name s)) variables i s e (own s plain)
    (λ k less. false_from_ne_true _ (λ h.
    true≢false (sym (named_same (get_or variables k s) s (all_at is_no_constant variables all k s (omega (arith, less, below))) plain h)
    ∙ ap (same_slot (get_or variables k s)) (sym here) ∙ differ_at same_slot variables differ i k s less below)))
  where
    own_name : (sigil : ℕ) (name : List ℕ) → (eqb sigil sigil && bytes_eq name name) ≡ true
    own_name sigil name = and_from _ _ (eq-eqb sigil sigil refl) ((bytes_decides name name).1 refl)

    own : (s : KeySlot) → is_no_constant s ≡ true → is_named_so (sigil_of s) (slot_name s) s ≡ true
    own s p = own_name (sigil_of s) (slot_name s)

-- a variable is written by its sigil and name
pub node_variable : (s : KeySlot) → is_no_constant s ≡ true → node_text s ≡ sigil_of s ∷ slot_name s
node_variable (Entity a t) p = refl
node_variable (Any a t) p = refl
node_variable (Value a) p = refl
node_variable (Folded a) p = refl
node_variable (Fixed t) p = absurd (true≢false (sym p))

pub slot_sigil : (s : KeySlot) → is_no_constant s ≡ true → is_sigil (sigil_of s) ≡ true
slot_sigil (Entity a t) p = refl
slot_sigil (Any a t) p = refl
slot_sigil (Value a) p = refl
slot_sigil (Folded a) p = refl
slot_sigil (Fixed t) p = absurd (true≢false (sym p))

pub subject_sigil : (s : KeySlot) → may_be_subject (Some s) ≡ true → begins_key_subject (sigil_of s) ≡ true
subject_sigil (Entity a t) p = refl
subject_sigil (Any a t) p = refl
subject_sigil (Value a) p = absurd (true≢false (sym p))
subject_sigil (Folded a) p = absurd (true≢false (sym p))
subject_sigil (Fixed t) p = absurd (true≢false (sym p))

-- the term at the place that was found for it
pub term_at : (cs : List Term) (t : Term) (place : ℕ) → position (same_term t) cs ≡ Some place → slice_get cs place ≡ Some t
term_at cs t place e =
    let found = position-Some (same_term t) cs place t e in
    let s = slice_get-within cs place found.0 in
    let is : get_or cs place t ≡ s.0 = get_or_from_slice_get cs place s.0 t s.1 in
    s.1 ∙ ap Some (sym ((same_term-Decides t s.0).0 (ap (same_term t) (sym is) ∙ found.1)))

pub slice_get-map : {X Y : Type 0} (f : X → Y) (xs : List X) (i : ℕ) (x : X) → slice_get xs i ≡ Some x → slice_get (map f xs) i ≡ Some (f x)
slice_get-map f [] i x e = absurd (cc)
slice_get-map f (y ∷ xs) zero x e = ap (λ o. option_map f o) e
slice_get-map f (y ∷ xs) (suc i) x e = slice_get-map f xs i x e

pub slice_get-right : {X : Type 0} (xs ys : List X) (i : ℕ) → slice_get (xs ++ ys) (length xs + i) ≡ slice_get ys i
slice_get-right [] ys i = ap (slice_get ys) (omega arith)
slice_get-right (x ∷ xs) ys i = ap (slice_get (x ∷ xs ++ ys)) (suc_of (length xs) i) ∙ slice_get-right xs ys i
  where
    suc_of : (n i : ℕ) → suc n + i ≡ suc (n + i)
    suc_of n i = omega arith
