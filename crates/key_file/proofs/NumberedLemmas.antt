-- Triples in numbers: what holds of the numbering, for the proofs of callers too.
use Rattle.std.proofs.Common.{inl, inr, List, [], ◌∷◌, ◌++◌, ℕ, Bool, true, Option, Some, None, All, Contains, IsSome, if◌then◌else◌, map, length, slice_get, slice_index, ◌↔◌, get_or, take, ◌≡◌, ◌<◌, ◌≤◌, ◌+◌, ◌-◌, ◌*◌, IfSome, refl, sym, ◌∙◌, ap, subst, arith}
use Rattle.std.proofs.lemmas.List.{map-append, length-map, take_more}
use Rattle.std.proofs.lemmas.List.Elements.{All-nil, All-cons}
use Rattle.std.proofs.lemmas.Bool.{cases_Bool}
use Rattle.std.proofs.lemmas.Option.{slice_get_within, get_or_from_slice_get, slice_get-get_or}
use Rattle.gk_base.specs.Term.{is_literal}
use Rattle.gk_base.specs.declared.term.Term.{Term}
use Rattle.gk_base.specs.declared.term.Triple.{Triple}
use Rattle.term_table.specs.Numbering.{is_named, place_of, with_term, with_terms, names_of}
use Rattle.term_table.proofs.CallerLemmas.{slice_get-place_of, is_named-at, place_of-within, is_named-added, is_named-with_term, is_named-with_terms, place_of-with_terms, length-with_terms}
use Rattle.chase_laws.specs.Graph.{IsFolding}
use Rattle.term_table.specs.Folding.{IsLiteralAt}
use Rattle.term_list.specs.Triples.{triple_terms, terms_of}
use Rattle.term_list.proofs.CallerLemmas.{length-terms_of}
use Rattle.key_file.specs.Numbered.{row_of, rdf_type, type_number}

-- each term of a triple is a name
pub record IsNamed (names : List Term) (t : Triple) : Type 0 where
  pub subject : is_named names t.subject ≡ true
  pub predicate : is_named names t.predicate ≡ true
  pub object : is_named names t.object ≡ true

abbrev pub AreNamed : List Term → List Triple → Type 0
AreNamed names [] = Unit {0}
AreNamed names (t ∷ ts) = IsNamed names t × AreNamed names ts

pub IsNamed-more : (names more : List Term) (t : Triple) → IsNamed names t → IsNamed (with_terms names more) t
IsNamed-more names more t h = record {
  subject = is_named-with_terms names more t.subject h.subject;
  predicate = is_named-with_terms names more t.predicate h.predicate;
  object = is_named-with_terms names more t.object h.object;
}

-- the terms of a triple that were added are names
pub IsNamed-added : (names : List Term) (t : Triple) → IsNamed (with_terms names (triple_terms t)) t
IsNamed-added names t =
    let one = with_term names t.subject in
    let two = with_term one t.predicate in
    record {
      subject = is_named-with_term two t.object t.subject (is_named-with_term one t.predicate t.subject (is_named-added names t.subject));
      predicate = is_named-with_term two t.object t.predicate (is_named-added one t.predicate);
      object = is_named-added two t.object;
    }

AreNamed-more : (names more : List Term) (ts : List Triple) → AreNamed names ts → AreNamed (with_terms names more) ts
AreNamed-more names more [] h = tt
AreNamed-more names more (t ∷ ts) h = (IsNamed-more names more t h.0, AreNamed-more names more ts h.1)

AreNamed-push : (names : List Term) (ts : List Triple) (t : Triple) → AreNamed names ts → IsNamed names t → AreNamed names (ts ++ t ∷ [])
AreNamed-push names [] t h k = (k, tt)
AreNamed-push names (u ∷ us) t h k = (h.0, AreNamed-push names us t h.1 k)

-- numbers of names stay
pub row_stays : (names more : List Term) (t : Triple) → IsNamed names t → row_of (with_terms names more) t ≡ row_of names t
row_stays names more t h =
    let s = place_of-with_terms names more t.subject h.subject in
    let p = place_of-with_terms names more t.predicate h.predicate in
    let o = place_of-with_terms names more t.object h.object in
    cc

pub rows_stay : (names more : List Term) (ts : List Triple) → AreNamed names ts → map (row_of (with_terms names more)) ts ≡ map (row_of names) ts
rows_stay names more [] h = refl
rows_stay names more (t ∷ ts) h = let a = row_stays names more t h.0 in let b = rows_stay names more ts h.1 in cc

-- three names a triple at most
pub few_names : (ts : List Triple) → length (names_of (terms_of ts)) ≤ 3 * length ts
few_names ts = let a = (length-with_terms [] (terms_of ts)).1 in let b = length-terms_of ts in omega arith

-- numbers of names are below their count
below : (names : List Term) (u : Term) (count : ℕ) → is_named names u ≡ true → length names ≤ count → place_of names u < count
below names u count n le = let p = place_of-within names u n in omega arith

row_within : (names : List Term) (t : Triple) (count : ℕ) → IsNamed names t → length names ≤ count → All (λ n. n < count) (row_of names t)
row_within names t count h le =
    let P : ℕ → Type 0 = λ n. n < count in
    All-cons P (place_of names t.subject) (place_of names t.predicate ∷ place_of names t.object ∷ []) (below names t.subject count h.subject le)
    (All-cons P (place_of names t.predicate) (place_of names t.object ∷ []) (below names t.predicate count h.predicate le)
    (All-cons P (place_of names t.object) [] (below names t.object count h.object le) (All-nil P)))

pub rows_within : (names : List Term) (ts : List Triple) (count : ℕ) → AreNamed names ts → length names ≤ count → All (λ row. All (λ n. n < count) row) (map (row_of names) ts)
rows_within names [] count h le = All-nil (λ row. All (λ n. n < count) row)
rows_within names (t ∷ ts) count h le =
    let P : List ℕ → Type 0 = λ row. All (λ n. n < count) row in
    All-cons P (row_of names t) (map (row_of names) ts) (row_within names t count h.0 le) (rows_within names ts count h.1 le)

-- the terms of all triples are names
pub all_named : (names : List Term) (ts : List Triple) → AreNamed (with_terms names (terms_of ts)) ts
all_named names [] = tt
all_named names (t ∷ ts) = (IsNamed-more (with_terms names (triple_terms t)) (terms_of ts) t (IsNamed-added names t), all_named (with_terms names (triple_terms t)) ts)

-- one more flag
pub flag_next : (names : List Term) (i : ℕ) (t : Term) → slice_get names i ≡ Some t → map is_literal (take (i + 1) names) ≡ map is_literal (take i names) ++ is_literal t ∷ []
flag_next names i t at =
    let within : i < length names = slice_get_within names i t at in
    ap (map is_literal) (take_more names i t within) ∙ map-append is_literal (take i names) (get_or names i t ∷ [])
    ∙ ap (λ u. map is_literal (take i names) ++ is_literal u ∷ []) (get_or_from_slice_get names i t t at)

pub type_within : (names : List Term) (n : ℕ) → type_number names ≡ Some n → n < length names
type_within names n e = elim (cases_Bool (is_named names rdf_type)) [
  | inl h ↦ (let same : Some (place_of names rdf_type) ≡ Some n = sym (ap (λ b. if b then Some (place_of names rdf_type) else None) h) ∙ e in
      let k : place_of names rdf_type ≡ n = cc in subst (λ m. m < length names) k (place_of-within names rdf_type h))
  | inr h ↦ absurd (let none : None ≡ Some n = sym (ap (λ b. if b then Some (place_of names rdf_type) else None) h) ∙ e in cc)
]

-- a name is one of the list
Contains-named : (names : List Term) (t : Term) → is_named names t ≡ true → Contains names t
Contains-named names t h = (place_of names t, place_of-within names t h, get_or_from_slice_get names (place_of names t) t t (slice_get-place_of names t h))

named-Contains : (names : List Term) (t : Term) → Contains names t → is_named names t ≡ true
named-Contains names t here = is_named-at names t here.0 (slice_get-get_or names here.0 t here.1 ∙ ap Some here.2)

-- a look-up finds the number
pub type_found : (names : List Term) (o : Option ℕ) (t : Term) → t ≡ rdf_type → IfSome o (λ n. n ≡ place_of names t) → IsSome o ↔ Contains names t → o ≡ type_number names
type_found names None t e at some = elim (cases_Bool (is_named names rdf_type)) [
  | inl h ↦ absurd (let c = some.1 (subst (Contains names) (sym e) (Contains-named names rdf_type h)) in cc)
  | inr h ↦ sym (ap (λ b. if b then Some (place_of names rdf_type) else None) h)
]
type_found names (Some n) t e at some =
    let h : is_named names rdf_type ≡ true = named-Contains names rdf_type (subst (Contains names) e (some.0 refl)) in
    ap Some (at ∙ ap (place_of names) e) ∙ sym (ap (λ b. if b then Some (place_of names rdf_type) else None) h)

-- what names are alike to, beside the flags of the literals
pub folding_of : (names : List Term) (rows : List (List ℕ)) (flags : List Bool) (o : Option ℕ) (alike : List ℕ) → flags ≡ map is_literal names → length alike ≡ length names →
    ((n : ℕ) → n < length names → slice_index alike n ≤ n) → ((n : ℕ) → n < length names → slice_index alike (slice_index alike n) ≡ slice_index alike n) →
    ((n : ℕ) → IsLiteralAt names n → IsLiteralAt names (slice_index alike n)) → ((n : ℕ) → n < length names → ¬ (IsLiteralAt names n) → slice_index alike n ≡ n) →
    IsFolding (record { rows = rows; literal = flags; rdf_type = o; alike = alike })
folding_of names rows flags o alike e count above again literals others =
    let long : length (map is_literal names) ≡ length names = length-map names is_literal in
    subst (λ fs. IsFolding (record { rows = rows; literal = fs; rdf_type = o; alike = alike })) (sym e) (record {
      one_each = count ∙ sym long;
      not_above = λ n h. above n (omega arith);
      itself = λ n h. again n (omega arith);
      literals = literals;
      others = λ n h k. others n (omega arith) k;
    })
