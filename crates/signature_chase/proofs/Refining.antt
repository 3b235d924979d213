-- Rows that have one leader are parted by the label of one image more.
use Rattle.std.proofs.Common.{List, [], ◌∷◌, ℕ, zero, suc, Contains, map, length, get_or, take, drop, replicate, ◌≡◌, ◌<◌, ◌≤◌, ◌+◌, ◌↔◌, refl, sym, ◌∙◌, ap, ap₂, subst, arith}
use Rattle.std.specs.Prelude.{slice_index}
use Rattle.std.specs.List.Sorted.{IsPermutation}
use Rattle.std.proofs.lemmas.List.{get_or-map, get_or-take, get_or_default, get_or-replicate, length-map, length-replicate, take-take, take_more_same, take_all}
use Rattle.std.proofs.lemmas.List.Elements.{Contains-get_or}
use Rattle.std.proofs.lemmas.List.Sorted.{Contains-permutation, IsPermutation-sym, length_permutation}
use Rattle.valuation_groups.specs.Groups.{GroupShape, row_in}
use Rattle.signature_chase.specs.Settled.{image_labels}
use Rattle.signature_chase.specs.Leaders.{Keyed, keyed_at, SameKey, AreKeyed, AreLed, AreLeaders}
use Rattle.signature_chase.proofs.Leading.{same_trans}

zero_at : (n i z : ℕ) → i < n → get_or (replicate n z) i 0 ≡ z
zero_at n i z h = get_or-replicate n i z 0 h

-- at first row 0 leads all
pub leaders_none : (labels : List ℕ) (group : GroupShape) → AreLeaders labels group 0 (replicate (length group.rows) 0)
leaders_none labels group =
    let n = length group.rows in
    record {
      one_each = length-replicate n 0;
      rows = λ i h. rw (zero_at n i 0 h) (omega arith);
      own = λ i h. let first : 0 < n = omega arith in let zeros : List ℕ = replicate n 0 in ap (λ k. get_or zeros k 0) (zero_at n i 0 h) ∙ zero_at n 0 0 first ∙ sym (zero_at n i 0 h);
      equal = λ i j hi hj. ((λ e. refl), (λ e. zero_at n i 0 hi ∙ sym (zero_at n j 0 hj)));
    }

-- the keyed rows, sorted
module _ (labels : List ℕ) (group : GroupShape) (place : ℕ) (leaders : List ℕ) (keyed sorted : List Keyed)
    (are : AreKeyed labels group place leaders keyed) (moved : IsPermutation keyed sorted) where
  -- where a row is now
  pub place_of : (i : ℕ) → i < length group.rows → (k : ℕ) × (k < length sorted) × (keyed_at sorted k ≡ (slice_index leaders i, slice_index labels (slice_index (drop 1 (row_in group i)) place), i))
  place_of i h =
      let x = keyed_at keyed i in
      let k = Contains-permutation keyed sorted x moved (Contains-get_or keyed i (0, 0, 0) (omega (arith, are.one_each))) in
      (k.0, k.1, get_or_default sorted k.0 (0, 0, 0) x k.1 ∙ k.2 ∙ are.each i h)

  -- which row stands at a place
  pub row_of : (k : ℕ) → k < length sorted → (i : ℕ) × (i < length group.rows) × (keyed_at sorted k ≡ (slice_index leaders i, slice_index labels (slice_index (drop 1 (row_in group i)) place), i))
  row_of k h =
      let x = keyed_at sorted k in
      let i = Contains-permutation sorted keyed x (IsPermutation-sym keyed sorted moved) (Contains-get_or sorted k (0, 0, 0) h) in
      let within : i.0 < length group.rows = omega (arith, i.1, are.one_each) in
      (i.0, within, sym (get_or_default keyed i.0 (0, 0, 0) x i.1 ∙ i.2) ∙ are.each i.0 within)

  pub rows_once : (k l : ℕ) → k < length sorted → l < length sorted → (keyed_at sorted k).2 ≡ (keyed_at sorted l).2 → SameKey (keyed_at sorted k) (keyed_at sorted l)
  rows_once k l hk hl e =
      let i = row_of k hk in
      let j = row_of l hl in
      let same : i.0 ≡ j.0 = sym (ap (λ (x : Keyed). x.2) i.2) ∙ e ∙ ap (λ (x : Keyed). x.2) j.2 in (
        ap (λ (x : Keyed). x.0) i.2 ∙ ap (slice_index leaders) same ∙ sym (ap (λ (x : Keyed). x.0) j.2),
        ap (λ (x : Keyed). x.1) i.2 ∙ ap (λ m. slice_index labels (slice_index (drop 1 (row_in group m)) place)) same ∙ sym (ap (λ (x : Keyed). x.1) j.2),
      )

  pub rows_within : (k : ℕ) → k < length sorted → (keyed_at sorted k).2 < length group.rows
  rows_within k h = let i = row_of k h in rw (ap (λ (x : Keyed). x.2) i.2) i.1

  module _ (leaders' : List ℕ) (old : AreLeaders labels group place leaders) (led : AreLed sorted leaders' (length sorted)) (long : length leaders' ≡ length leaders)
      (wide : (i : ℕ) → i < length group.rows → place < length (drop 1 (row_in group i))) where
    -- the new leader of a row, and what both are compared by
    leader : (i : ℕ) → i < length group.rows → (m : ℕ) × (m < length group.rows) × (slice_index leaders' i ≡ m)
        × (slice_index leaders m ≡ slice_index leaders i)
        × (slice_index labels (slice_index (drop 1 (row_in group m)) place) ≡ slice_index labels (slice_index (drop 1 (row_in group i)) place))
    leader i h =
        let k = place_of i h in
        let l = led.led k.0 k.1 in
        let m = row_of l.0 l.1 in (
          m.0,
          m.1,
          ap (slice_index leaders') (sym (ap (λ (x : Keyed). x.2) k.2)) ∙ l.2 ∙ ap (λ (x : Keyed). x.2) m.2,
          sym (ap (λ (x : Keyed). x.0) m.2) ∙ l.3.0 ∙ ap (λ (x : Keyed). x.0) k.2,
          sym (ap (λ (x : Keyed). x.1) m.2) ∙ l.3.1 ∙ ap (λ (x : Keyed). x.1) k.2,
        )

    -- rows that are compared by the same have one
    together : (i j : ℕ) → i < length group.rows → j < length group.rows → slice_index leaders i ≡ slice_index leaders j →
        slice_index labels (slice_index (drop 1 (row_in group i)) place) ≡ slice_index labels (slice_index (drop 1 (row_in group j)) place) →
        slice_index leaders' i ≡ slice_index leaders' j
    together i j hi hj e f =
        let k = place_of i hi in
        let l = place_of j hj in
        ap (slice_index leaders') (sym (ap (λ (x : Keyed). x.2) k.2))
        ∙ led.equal k.0 l.0 k.1 l.1 (ap (λ (x : Keyed). x.0) k.2 ∙ e ∙ sym (ap (λ (x : Keyed). x.0) l.2), ap (λ (x : Keyed). x.1) k.2 ∙ f ∙ sym (ap (λ (x : Keyed). x.1) l.2))
        ∙ ap (slice_index leaders') (ap (λ (x : Keyed). x.2) l.2)

    all_labels : ℕ → List ℕ
    all_labels i = image_labels labels (row_in group i)

    label_here : (i : ℕ) → i < length group.rows → get_or (all_labels i) place 0 ≡ slice_index labels (slice_index (drop 1 (row_in group i)) place)
    unfolding all_labels
    label_here i h = get_or-map (slice_index labels) (drop 1 (row_in group i)) place 0 0 (wide i h)

    in_labels : (i : ℕ) → i < length group.rows → place < length (all_labels i)
    unfolding all_labels
    in_labels i h = omega (arith, wide i h, length-map (drop 1 (row_in group i)) (slice_index labels))

    pub refined : AreLeaders labels group (place + 1) leaders'
    unfolding all_labels
    refined = record {
      one_each = long ∙ old.one_each;
      rows = λ i h. let m = leader i h in rw m.2 m.1;
      own = λ i h. let m = leader i h in ap (slice_index leaders') m.2 ∙ together m.0 i m.1 h m.3 m.4;
      equal = λ i j hi hj. (
        (λ e.
            let m = leader i hi in
            let n = leader j hj in
            let same : m.0 ≡ n.0 = sym m.2 ∙ e ∙ n.2 in
            let front : slice_index leaders i ≡ slice_index leaders j = sym m.3 ∙ ap (slice_index leaders) same ∙ n.3 in
            let here : slice_index labels (slice_index (drop 1 (row_in group i)) place) ≡ slice_index labels (slice_index (drop 1 (row_in group j)) place) =
            sym m.4 ∙ ap (λ r. slice_index labels (slice_index (drop 1 (row_in group r)) place)) same ∙ n.4 in
            take_more_same (all_labels i) (all_labels j) place 0 (in_labels i hi) (in_labels j hj) ((old.equal i j hi hj).0 front) (label_here i hi ∙ here ∙ sym (label_here j hj))),
        (λ e.
            let one : place ≤ place + 1 = omega arith in
            let lt : place < place + 1 = omega arith in
            let front : take place (all_labels i) ≡ take place (all_labels j) =
            sym (take-take place (place + 1) (all_labels i) one) ∙ ap (take place) e ∙ take-take place (place + 1) (all_labels j) one in
            let here : get_or (all_labels i) place 0 ≡ get_or (all_labels j) place 0 =
            sym (get_or-take (place + 1) (all_labels i) place 0 lt) ∙ ap (λ xs. get_or xs place 0) e ∙ get_or-take (place + 1) (all_labels j) place 0 lt in
            together i j hi hj ((old.equal i j hi hj).1 front) (sym (label_here i hi) ∙ here ∙ label_here j hj)),
      );
    }

-- leaders by all labels
pub leaders_whole : (labels : List ℕ) (group : GroupShape) (places : ℕ) (leaders : List ℕ) → AreLeaders labels group places leaders →
    (i j : ℕ) → i < length group.rows → j < length group.rows → length (drop 1 (row_in group i)) ≡ places → length (drop 1 (row_in group j)) ≡ places →
    (slice_index leaders i ≡ slice_index leaders j) ↔ (image_labels labels (row_in group i) ≡ image_labels labels (row_in group j))
leaders_whole labels group places leaders are i j hi hj wi wj =
    let li : take places (image_labels labels (row_in group i)) ≡ image_labels labels (row_in group i) =
    take_all places (image_labels labels (row_in group i)) (omega (arith, wi, length-map (drop 1 (row_in group i)) (slice_index labels))) in
    let lj : take places (image_labels labels (row_in group j)) ≡ image_labels labels (row_in group j) =
    take_all places (image_labels labels (row_in group j)) (omega (arith, wj, length-map (drop 1 (row_in group j)) (slice_index labels))) in
    let equal = are.equal i j hi hj in
    ((λ e. sym li ∙ equal.0 e ∙ lj), (λ e. equal.1 (li ∙ e ∙ sym lj)))
