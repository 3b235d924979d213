-- The canonical text as lines.
use Rattle.std.proofs.Common.{◌≡◌, ℕ, ◌<◌, true, List, [], ◌∷◌, ◌++◌, map, codes, slice_get, Some, refl, sym, ap, ap₂, ◌∙◌, subst, arith, append_assoc, lit<}
use Rattle.std.proofs.lemmas.Bool.{and_parts}
use Rattle.std.proofs.lemmas.Bool.Decides.{nat_tests}
use Rattle.std.specs.List.{flat_map, list_all}
use Rattle.gk_base.specs.declared.term.Term.{Term}
use Rattle.nt_reader.specs.Lines.{is_line_byte}
use Rattle.term_text.specs.CanonicalText.{term_text}
use Rattle.key_file.specs.declared.slot.KeySlot.{KeySlot}
use Rattle.key_file.specs.declared.slot.KeySlot.TheVariants.{Entity, Any, Value, Folded, Fixed}
use Rattle.key_file.specs.declared.edge.KeyEdge.{KeyEdge}
use Rattle.key_file.specs.Name.{is_name_byte, is_name}
use Rattle.key_lang.specs.CanonicalKeys.{typed_end, declaration_text, node_text, optional_node, node_at, triple_line, first_line}
use Rattle.nt_reader.proofs.CallerLemmas.{AllOf, IsText, text_append, text_byte, text_cons, text_low, text_term, with_end, joined}
use Rattle.key_lang.proofs.LineForms.{IsIri, IsGiven}

pub all_of_append : {X : Type 0} (P : X → Type 0) (xs ys : List X) → AllOf P xs → AllOf P ys → AllOf P (xs ++ ys)
all_of_append P [] ys a b = b
all_of_append P (x ∷ xs) ys a b = (a.0, all_of_append P xs ys a.1 b)

-- texts that are contents with their ends
pub joined_map : {X : Type 0} (content text : X → List ℕ) (P : X → Type 0) → ((x : X) → P x → text x ≡ with_end (content x)) → (xs : List X) → AllOf P xs → flat_map text xs ≡ joined (map content xs)
joined_map content text P h [] a = refl
joined_map content text P h (x ∷ xs) a = ap₂ (λ (u v : List ℕ). u ++ v) (h x a.0) (joined_map content text P h xs a.1)

pub all_map : {X : Type 0} (content : X → List ℕ) (P : X → Type 0) → ((x : X) → P x → IsText (content x)) → (xs : List X) → AllOf P xs → AllOf IsText (map content xs)
all_map content P h [] a = tt
all_map content P h (x ∷ xs) a = (h x a.0, all_map content P h xs a.1)

-- a variable with a name, and with a type where it has one
abbrev pub GoodSlot : KeySlot → Type 0
GoodSlot (Entity name type) = (is_name name ≡ true) × IsIri type
GoodSlot (Any name type) = (is_name name ≡ true) × IsIri type
GoodSlot (Value name) = is_name name ≡ true
GoodSlot (Folded name) = is_name name ≡ true
GoodSlot (Fixed term) = ⊥

-- a slot that may be written
abbrev pub GoodNode : KeySlot → Type 0
GoodNode (Entity name type) = is_name name ≡ true
GoodNode (Any name type) = is_name name ≡ true
GoodNode (Value name) = is_name name ≡ true
GoodNode (Folded name) = is_name name ≡ true
GoodNode (Fixed term) = IsGiven term

-- the lines of a key without their ends
abbrev pub first_content : List ℕ → Term → List ℕ
first_content name type = codes "key" ++ 0x20 ∷ (name ++ 0x20 ∷ term_text type)

abbrev pub declaration_content : KeySlot → List ℕ
declaration_content (Entity name type) = codes "entity" ++ 0x20 ∷ ((0x3F ∷ name) ++ 0x20 ∷ term_text type)
declaration_content (Any name type) = codes "any" ++ 0x20 ∷ ((0x5F ∷ name) ++ 0x20 ∷ term_text type)
declaration_content (Value name) = codes "value" ++ 0x20 ∷ 0x24 ∷ name
declaration_content (Folded name) = codes "folded" ++ 0x20 ∷ 0x24 ∷ name
declaration_content (Fixed term) = []

abbrev pub triple_content : List KeySlot → KeyEdge → List ℕ
triple_content slots edge = node_at slots edge.from ++ 0x20 ∷ (term_text edge.pred ++ 0x20 ∷ node_at slots edge.to)

typed_ended : (name : List ℕ) (type : Term) → name ++ typed_end type ≡ with_end (name ++ 0x20 ∷ term_text type)
typed_ended name type = sym (append_assoc name (0x20 ∷ term_text type) (0x0A ∷ []))

pub first_ended : (name : List ℕ) (variable : List ℕ) (type : Term) → first_line name (Some (Entity variable type)) ≡ with_end (first_content name type)
first_ended name variable type = ap (λ (l : List ℕ). codes "key " ++ l) (typed_ended name type)

pub declaration_ended : (slot : KeySlot) → GoodSlot slot → declaration_text slot ≡ with_end (declaration_content slot)
declaration_ended (Entity name type) g = ap (λ (l : List ℕ). codes "entity ?" ++ l) (typed_ended name type)
declaration_ended (Any name type) g = ap (λ (l : List ℕ). codes "any _" ++ l) (typed_ended name type)
declaration_ended (Value name) g = refl
declaration_ended (Folded name) g = refl
declaration_ended (Fixed term) g = absurd g

pub triple_ended : (slots : List KeySlot) (edge : KeyEdge) → triple_line slots edge ≡ with_end (triple_content slots edge)
triple_ended slots edge =
    let s = node_at slots edge.from in
    let p = term_text edge.pred in
    let o = node_at slots edge.to in
    ap (λ (l : List ℕ). s ++ 0x20 ∷ l) (sym (append_assoc p (0x20 ∷ o) (0x0A ∷ []))) ∙ sym (append_assoc s (0x20 ∷ (p ++ 0x20 ∷ o)) (0x0A ∷ []))

-- they are texts
name_low : (b : ℕ) → is_name_byte b ≡ true → b < 128
name_low b h = grind (arith, nat_tests)

name_plain : (b : ℕ) → is_name_byte b ≡ true → is_line_byte b ≡ true
name_plain b h = grind (arith, nat_tests)

text_name : (name : List ℕ) → is_name name ≡ true → IsText name
text_name name n = text_low is_name_byte name_low name_plain name (and_parts _ _ n).1

text_iri : (t : Term) → IsIri t → IsText (term_text t)
text_iri t i = text_term (term_text t) t i.spells

text_given : (t : Term) → IsGiven t → IsText (term_text t)
text_given t g = text_term (term_text t) t g.spells

space : (after : List ℕ) → IsText after → IsText (0x20 ∷ after)
space after t = text_cons 0x20 after (lit< tt) refl t

text_typed : (name : List ℕ) (type : Term) → is_name name ≡ true → IsIri type → IsText (name ++ 0x20 ∷ term_text type)
text_typed name type n i = text_append name _ (text_name name n) (space _ (text_iri type i))

word_key : IsText (codes "key")
word_key = text_cons 107 _ (lit< tt) refl (text_cons 101 _ (lit< tt) refl (text_byte 121 (lit< tt) refl))

pub text_end : IsText (codes "end")
text_end = text_cons 101 _ (lit< tt) refl (text_cons 110 _ (lit< tt) refl (text_byte 100 (lit< tt) refl))

word_text : (w : List ℕ) → list_all is_name_byte w ≡ true → IsText w
word_text w a = text_low is_name_byte name_low name_plain w a

pub text_first : (name : List ℕ) (type : Term) → is_name name ≡ true → IsIri type → IsText (first_content name type)
text_first name type n i = text_append (codes "key") _ (word_text (codes "key") refl) (space _ (text_typed name type n i))

pub text_declaration : (slot : KeySlot) → GoodSlot slot → IsText (declaration_content slot)
text_declaration (Entity name type) g =
    text_append (codes "entity") _ (word_text (codes "entity") refl) (space _ (text_cons 0x3F _ (lit< tt) refl (text_typed name type g.0 g.1)))
text_declaration (Any name type) g = text_append (codes "any") _ (word_text (codes "any") refl) (space _ (text_cons 0x5F _ (lit< tt) refl (text_typed name type g.0 g.1)))
text_declaration (Value name) g = text_append (codes "value") _ (word_text (codes "value") refl) (space _ (text_cons 0x24 _ (lit< tt) refl (text_name name g)))
text_declaration (Folded name) g = text_append (codes "folded") _ (word_text (codes "folded") refl) (space _ (text_cons 0x24 _ (lit< tt) refl (text_name name g)))
text_declaration (Fixed term) g = absurd g

text_node : (slot : KeySlot) → GoodNode slot → IsText (node_text slot)
text_node (Entity name type) g = text_cons 0x3F name (lit< tt) refl (text_name name g)
text_node (Any name type) g = text_cons 0x5F name (lit< tt) refl (text_name name g)
text_node (Value name) g = text_cons 0x24 name (lit< tt) refl (text_name name g)
text_node (Folded name) g = text_cons 0x24 name (lit< tt) refl (text_name name g)
text_node (Fixed term) g = text_given term g

pub text_node_at : (slots : List KeySlot) (place : ℕ) (slot : KeySlot) → slice_get slots place ≡ Some slot → node_at slots place ≡ node_text slot
text_node_at slots place slot e = ap optional_node e

-- the line of a triple between slots that may be written
pub text_triple : (slots : List KeySlot) (edge : KeyEdge) (s o : KeySlot) → slice_get slots edge.from ≡ Some s → slice_get slots edge.to ≡ Some o → GoodNode s → GoodNode o → IsIri edge.pred
    → IsText (triple_content slots edge)
text_triple slots edge s o from to gs go i =
    text_append _ _ (subst IsText (sym (text_node_at slots edge.from s from)) (text_node s gs)) (space _ (text_append _ _ (text_iri edge.pred i)
    (space _ (subst IsText (sym (text_node_at slots edge.to o to)) (text_node o go)))))
