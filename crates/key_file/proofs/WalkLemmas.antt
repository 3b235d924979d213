-- Marks of slots in an array.
use Rattle.std.proofs.Common.{List, [], ◌∷◌, ◌++◌, ℕ, zero, suc, Bool, true, false, length, get_or, map, take, ◌≡◌, ◌<◌, ◌≤◌, ◌+◌, ◌&&◌, ◌||◌, ◌==◌, nat_lt, inl, inr, refl, sym, ◌∙◌, ap, arith}
use Rattle.std.specs.List.{list_any}
use Rattle.std.proofs.lemmas.Bool.{lt-ltb, ltb-true, cases_lt, eqb-true}
use Rattle.std.proofs.lemmas.List.{get_or_past, ext_get_or, take_more, get_or-take, length-take-le}
use Rattle.std.proofs.lemmas.List.Folds.{list_any-append}
use Rattle.std.proofs.lemmas.List.FromFn.{get_or-map-range_with_len}
use Rattle.chase_laws.specs.Shape.{marks, touches}
use Rattle.key_file.specs.declared.edge.KeyEdge.{KeyEdge}
use Rattle.key_file.specs.Key.{outline, outline_edge}
use Rattle.key_file.specs.Walks.{AreMarks, IsPassed, AreWider}
use Rattle.key_file.proofs.KeyLemmas.{length-outline, length-marks, fails}

not_below : (s count : ℕ) → count ≤ s → nat_lt s count ≡ false
not_below s count h = fails (nat_lt s count) (λ t. let l = ltb-true s count t in omega arith)

-- laws of tests
or_false : (b : Bool) → (b || false) ≡ b
or_false true = refl
or_false false = refl

two_ways : (old within left right : Bool) → ((old || (within && left)) || (within && right)) ≡ (old || (within && (left || right)))
two_ways true within left right = refl
two_ways false true left right = refl
two_ways false false left right = refl

-- some of these edges joins the slot with one that was marked at first
abbrev pub is_touched : List Bool → List KeyEdge → ℕ → Bool
is_touched first edges s = list_any (λ e. touches first s (outline_edge e)) edges

-- the marks after these edges
abbrev pub ArePassed : ℕ → List KeyEdge → List Bool → List Bool → Type 0
ArePassed count edges first array = (s : ℕ) → get_or array s false ≡ (get_or first s false || (nat_lt s count && is_touched first edges s))

-- one more edge
pub passed_more : (count : ℕ) (edges : List KeyEdge) (i : ℕ) (edge : KeyEdge) (first before after : List Bool) → i < length edges → edge ≡ get_or edges i edge →
    ArePassed count (take i edges) first before → IsPassed count edge first before after → ArePassed count (take (i + 1) edges) first after
passed_more count edges i edge first before after within is so_far passed s =
    passed s ∙ ap (λ b. b || (nat_lt s count && touches first s (outline_edge edge))) (so_far s)
    ∙ two_ways (get_or first s false) (nat_lt s count) (is_touched first (take i edges) s) (touches first s (outline_edge edge))
    ∙ ap (λ b. get_or first s false || (nat_lt s count && (is_touched first (take i edges) s || b))) (sym (or_false (touches first s (outline_edge edge))))
    ∙ ap (λ b. get_or first s false || (nat_lt s count && b))
    (sym (list_any-append (λ e. touches first s (outline_edge e)) (take i edges) (edge ∷ []))
    ∙ ap (λ (es : List KeyEdge). is_touched first es s) (ap (λ (e : KeyEdge). take i edges ++ e ∷ []) is ∙ sym (take_more edges i edge within)))

pub any_map : {X Y : Type 0} (p : Y → Bool) (f : X → Y) (xs : List X) → list_any p (map f xs) ≡ list_any (λ x. p (f x)) xs
any_map p f [] = refl
any_map p f (x ∷ xs) = ap (λ b. p (f x) || b) (any_map p f xs)

-- all edges
pub all_passed : (count : ℕ) (edges : List KeyEdge) (first array : List Bool) → ArePassed count edges first array → AreWider count edges first array
all_passed count edges first array passed walk same s =
    elim (cases_lt s count) [
      | inl within ↦
          let slots = length-outline count edges in
          let next : suc walk ≡ walk + 1 = omega arith in
          passed s ∙ ap (λ b. get_or first s false || (b && is_touched first edges s)) (lt-ltb s count within)
          ∙ ap (λ b. b || is_touched first edges s) (same s)
          ∙ ap (λ b. get_or (marks (outline count edges) walk) s false || b) (touched_alike s)
          ∙ sym (get_or-map-range_with_len (λ n. get_or (marks (outline count edges) walk) n false || list_any (touches (marks (outline count edges) walk) n) (outline count edges).edges)
          0 (length (outline count edges).slots) s s false (omega arith) (omega arith))
          ∙ ap (λ n. get_or (marks (outline count edges) n) s false) next
      | inr past ↦
          let one = length-marks count edges walk in
          let more = length-marks count edges (walk + 1) in
          passed s ∙ ap (λ b. get_or first s false || (b && is_touched first edges s)) (not_below s count past) ∙ or_false (get_or first s false)
          ∙ same s ∙ get_or_past (marks (outline count edges) walk) s false (omega arith) ∙ sym (get_or_past (marks (outline count edges) (walk + 1)) s false (omega arith))
    ]
  where
    touched_alike : (s : ℕ) → is_touched first edges s ≡ list_any (touches (marks (outline count edges) walk) s) (outline count edges).edges
    touched_alike s =
        (λ i. list_any (λ (e : KeyEdge). (e.to == s && same e.from i) || (e.from == s && same e.to i)) edges)
        ∙ sym (any_map (touches (marks (outline count edges) walk) s) outline_edge edges)

-- the mark of slot 0
pub first_marked : (count : ℕ) (edges : List KeyEdge) (others : List Bool) → 0 < count → ((s : ℕ) → get_or others s false ≡ false) → AreMarks count edges 0 (true ∷ others)
first_marked count edges others some none zero =
    let slots = length-outline count edges in
    sym (get_or-map-range_with_len (λ n. n == 0) 0 (length (outline count edges).slots) 0 0 false (omega arith) (omega arith))
first_marked count edges others some none (suc s) =
    none s ∙ elim (cases_lt (suc s) count) [
      | inl within ↦
          sym (fails (suc s == 0) (λ t. let e = eqb-true (suc s) 0 t in omega arith)) ∙
          let slots = length-outline count edges in
          sym (get_or-map-range_with_len (λ n. n == 0) 0 (length (outline count edges).slots) (suc s) (suc s) false (omega arith) (omega arith))
      | inr past ↦
          let marked = length-marks count edges 0 in
          sym (get_or_past (marks (outline count edges) 0) (suc s) false (omega arith))
    ]

-- the array begins with the marks
pub marks_taken : (count : ℕ) (edges : List KeyEdge) (walk : ℕ) (array : List Bool) → count ≤ length array → AreMarks count edges walk array → take count array ≡ marks (outline count edges) walk
marks_taken count edges walk array fits same =
    let marked = length-marks count edges walk in
    let taken = length-take-le count array fits in
    ext_get_or false (take count array) (marks (outline count edges) walk) (omega arith)
    (λ s within. get_or-take count array s false (omega arith) ∙ same s)
