-- Triples in numbers.
use Rattle.std.proofs.Common.{List, [], ◌∷◌, ◌++◌, ℕ, zero, suc, ◌+◌, ◌*◌, ◌<◌, Some, map, length, slice_get, get_or, take, ◌≡◌, refl, sym, ap, ap₂, ◌∙◌, arith}
use Rattle.std.proofs.lemmas.List.{length-map, map_more}
use Rattle.std.proofs.lemmas.Option.{get_or_from_slice_get}
use Rattle.gk_base.specs.declared.term.Term.{Term}
use Rattle.gk_base.specs.declared.term.Triple.{Triple}
use Rattle.term_list.specs.Triples.{terms_of}
use Rattle.term_list.proofs.CallerLemmas.{length-terms_of}
use Rattle.term_table.specs.Numbering.{place_of}
use Rattle.key_file.specs.Numbered.{row_of}

-- the numbers of the terms of a triple, among those of all
pub triple_numbers : (names : List Term) (triples : List Triple) (k : ℕ) → k < length triples →
    (t : Triple) × (slice_get triples k ≡ Some t)
    × (get_or (map (place_of names) (terms_of triples)) (3 * k) 0 ≡ place_of names t.subject)
    × (get_or (map (place_of names) (terms_of triples)) (3 * k + 1) 0 ≡ place_of names t.predicate)
    × (get_or (map (place_of names) (terms_of triples)) (3 * k + 2) 0 ≡ place_of names t.object)
triple_numbers names [] k l = absurd (omega arith)
triple_numbers names (t ∷ triples) zero l = (t, refl, refl, refl, refl)
triple_numbers names (t ∷ triples) (suc k) l =
    let r = triple_numbers names triples k (omega arith) in
    let numbers = map (place_of names) (terms_of (t ∷ triples)) in
    let zs : 3 * suc k ≡ suc (suc (suc (3 * k))) = omega arith in
    let zp : 3 * suc k + 1 ≡ suc (suc (suc (3 * k + 1))) = omega arith in
    let zo : 3 * suc k + 2 ≡ suc (suc (suc (3 * k + 2))) = omega arith in
    (r.0, r.1, ap (λ i. get_or numbers i 0) zs ∙ r.2, ap (λ i. get_or numbers i 0) zp ∙ r.3, ap (λ i. get_or numbers i 0) zo ∙ r.4)

-- one row more
pub rows_next : (names : List Term) (triples : List Triple) (numbers : List ℕ) (i : ℕ) (rows : List (List ℕ)) → i < length triples → numbers ≡ map (place_of names) (terms_of triples) →
    rows ≡ map (row_of names) (take i triples) →
    rows ++ (get_or numbers (3 * i) 0 ∷ get_or numbers (3 * i + 1) 0 ∷ get_or numbers (3 * i + 2) 0 ∷ []) ∷ [] ≡ map (row_of names) (take (i + 1) triples)
rows_next names triples numbers i rows h e so_far =
    let r = triple_numbers names triples i h in
    let s = ap (λ l. get_or l (3 * i) 0) e ∙ r.2 in
    let p = ap (λ l. get_or l (3 * i + 1) 0) e ∙ r.3 in
    let o = ap (λ l. get_or l (3 * i + 2) 0) e ∙ r.4 in
    let row : get_or numbers (3 * i) 0 ∷ get_or numbers (3 * i + 1) 0 ∷ get_or numbers (3 * i + 2) 0 ∷ [] ≡ row_of names r.0 = λ j. s j ∷ p j ∷ o j ∷ [] in
    ap₂ (λ l x. l ++ x ∷ []) so_far row
    ∙ ap (λ t. map (row_of names) (take i triples) ++ row_of names t ∷ []) (sym (get_or_from_slice_get triples i r.0 r.0 r.1))
    ∙ sym (map_more (row_of names) triples i r.0 h)

-- the places of the numbers of a triple's terms
pub numbers_of_triples : (names : List Term) (triples : List Triple) (numbers : List ℕ) → numbers ≡ map (place_of names) (terms_of triples) → length numbers ≡ 3 * length triples
numbers_of_triples names triples numbers e = ap length e ∙ length-map (terms_of triples) (place_of names) ∙ length-terms_of triples
