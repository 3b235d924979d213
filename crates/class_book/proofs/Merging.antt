-- What it takes to make one class of two.
use Rattle.std.proofs.Common.{List, [], ◌∷◌, ◌++◌, ℕ, Bool, cond, length, get_or, set, take, All, ◌≡◌, ◌≢◌, ◌<◌, ◌≤◌, ◌+◌, ◌^◌, ◌==◌, ◌⊎◌, inl, inr, refl, ap, sym, ◌∙◌, subst, arith, eq-eqb, ne_eqb, if◌then◌else◌}
use Rattle.std.proofs.lemmas.Bool.{cases_eq, cases_lt}
use Rattle.std.proofs.lemmas.List.{get_or-set_same, get_or-set_other, get_or-map, length-set, length-map, length-append, ext_get_or, take_more, get_or_default}
use Rattle.std.proofs.lemmas.List.Sums.{sum_by-cons, count_by-le-length}
use Rattle.std.proofs.lemmas.List.Elements.{All-from_get_or}
use Rattle.list_pool.proofs.CallerLemmas.{times_from_Contains, times-append, times_nil, times_here, times_there}
use Rattle.list_pool.specs.Counts.{times}
use Rattle.list_pool.specs.Pool.{list_at}
use Rattle.class_book.specs.Classes.{relabelled, size_of, changed_count}
use Rattle.class_book.specs.Roster.{IsRoster}

abbrev pub bit : Bool → ℕ
bit b = cond b 1 0

abbrev pub moved : ℕ → ℕ → ℕ → ℕ
moved from to x = (if x == from then to else x)

module _ (from to : ℕ) (apart : to ≢ from) where
  moved_there : (x : ℕ) → x ≡ from → moved from to x ≡ to
  moved_there x e = ap (λ t. cond t to x) (eq-eqb x from e)

  stays_there : (x : ℕ) → x ≢ from → moved from to x ≡ x
  stays_there x n = ap (λ t. cond t to x) (ne_eqb x from n)

  bit_from : (x : ℕ) → bit (moved from to x == from) ≡ 0
  bit_from x = elim (cases_eq x from) [
    | inl e ↦ ap (λ y. bit (y == from)) (moved_there x e) ∙ ap bit (ne_eqb to from apart)
    | inr n ↦ ap (λ y. bit (y == from)) (stays_there x n) ∙ ap bit (ne_eqb x from n)
  ]

  bit_to : (x : ℕ) → bit (moved from to x == to) ≡ bit (x == to) + bit (x == from)
  bit_to x = elim (cases_eq x from) [
    | inl e ↦
        let a : bit (moved from to x == to) ≡ 1 = ap bit (eq-eqb (moved from to x) to (moved_there x e)) in
        let b : bit (x == to) ≡ 0 = ap bit (ne_eqb x to (λ f. apart (sym f ∙ e))) in
        let d : bit (x == from) ≡ 1 = ap bit (eq-eqb x from e) in
        omega arith
    | inr n ↦
        let a : bit (moved from to x == to) ≡ bit (x == to) = ap (λ y. bit (y == to)) (stays_there x n) in
        let d : bit (x == from) ≡ 0 = ap bit (ne_eqb x from n) in
        omega arith
  ]

  bit_other : (l x : ℕ) → l ≢ from → l ≢ to → bit (moved from to x == l) ≡ bit (x == l)
  bit_other l x m n = elim (cases_eq x from) [
    | inl e ↦
        let a : bit (moved from to x == l) ≡ 0 = ap bit (ne_eqb (moved from to x) l (λ f. n (sym f ∙ moved_there x e))) in
        let b : bit (x == l) ≡ 0 = ap bit (ne_eqb x l (λ f. m (sym f ∙ e))) in
        a ∙ sym b
    | inr k ↦ ap (λ y. bit (y == l)) (stays_there x k)
  ]

  size_cons : (l x : ℕ) (xs : List ℕ) → size_of (x ∷ xs) l ≡ bit (x == l) + size_of xs l
  size_cons l x xs = sum_by-cons (λ y. cond (y == l) 1 0) x xs

  size_from : (xs : List ℕ) → size_of (relabelled xs from to) from ≡ 0
  size_from [] = refl
  size_from (x ∷ xs) = omega (arith, size_cons from (moved from to x) (relabelled xs from to), bit_from x, size_from xs)

  pub size_to : (xs : List ℕ) → size_of (relabelled xs from to) to ≡ size_of xs to + size_of xs from
  size_to [] = refl
  size_to (x ∷ xs) = omega (arith, size_cons to (moved from to x) (relabelled xs from to), bit_to x, size_to xs, size_cons to x xs, size_cons from x xs)

  size_other : (l : ℕ) (xs : List ℕ) → l ≢ from → l ≢ to → size_of (relabelled xs from to) l ≡ size_of xs l
  size_other l [] m n = refl
  size_other l (x ∷ xs) m n = omega (arith, size_cons l (moved from to x) (relabelled xs from to), bit_other l x m n, size_other l xs m n, size_cons l x xs)

  -- only the nodes of the one class get another label
  pub changed_count_is : (xs : List ℕ) → changed_count xs (relabelled xs from to) ≡ size_of xs from
  unfolding changed_count
  changed_count_is [] = refl
  changed_count_is (x ∷ xs) =
      let h : cond (x == moved from to x) 0 1 ≡ bit (x == from) = elim (cases_eq x from) [
        | inl e ↦ ap (λ t. cond t 0 1) (ne_eqb x (moved from to x) (λ f. apart (sym (moved_there x e) ∙ sym f ∙ e))) ∙ sym (ap bit (eq-eqb x from e))
        | inr n ↦ ap (λ t. cond t 0 1) (eq-eqb x (moved from to x) (sym (stays_there x n))) ∙ sym (ap bit (ne_eqb x from n))
      ] in
      omega (arith, changed_count_is xs, size_cons from x xs)

  -- two writes of a list
  at_from : {X : Type 0} (xs : List X) (a b d : X) → from < length xs → get_or (set (set xs to a) from b) from d ≡ b
  at_from xs a b d h = get_or-set_same (set xs to a) from b d (rw (length-set xs to a) h)

  at_to : {X : Type 0} (xs : List X) (a b d : X) → to < length xs → get_or (set (set xs to a) from b) to d ≡ a
  at_to xs a b d h = get_or-set_other (set xs to a) from to b d apart ∙ get_or-set_same xs to a d h

  at_other : {X : Type 0} (xs : List X) (a b d : X) (l : ℕ) → l ≢ from → l ≢ to → get_or (set (set xs to a) from b) l d ≡ get_or xs l d
  at_other xs a b d l m n = get_or-set_other (set xs to a) from l b d m ∙ get_or-set_other xs to l a d n

  by_label : (l : ℕ) → (l ≡ from) ⊎ ((l ≡ to) ⊎ ((l ≢ from) × (l ≢ to)))
  by_label l = elim (cases_eq l from) [ inl e ↦ inl e | inr m ↦ elim (cases_eq l to) [ inl e ↦ inr (inl e) | inr n ↦ inr (inr (m, n)) ] ]

  pub merged : (labels sizes : List ℕ) (members : List (List ℕ)) → IsRoster labels sizes members → to < length labels → from < length labels →
      IsRoster (relabelled labels from to) (set (set sizes to (get_or sizes to 0 + get_or sizes from 0)) from 0)
      (set (set members to (list_at members to ++ list_at members from)) from [])
  merged labels sizes members r to_in from_in =
      let n : length (relabelled labels from to) ≡ length labels = length-map labels (moved from to) in
      let sum : ℕ = get_or sizes to 0 + get_or sizes from 0 in
      let both : List ℕ = list_at members to ++ list_at members from in
      let from_size : from < length sizes = omega (arith, r.size_count) in
      let to_size : to < length sizes = omega (arith, r.size_count) in
      let from_list : from < length members = omega (arith, r.list_count) in
      let to_list : to < length members = omega (arith, r.list_count) in
      record {
        list_count = length-set (set members to both) from [] ∙ length-set members to both ∙ r.list_count ∙ sym n;
        size_count = length-set (set sizes to sum) from 0 ∙ length-set sizes to sum ∙ r.size_count ∙ sym n;
        stands = λ l k h j.
            let l_in : l < length labels = rw (← n) h in
            let k_in : k < length labels = rw (← n) j in
            let x : ℕ = get_or labels k 0 in
            rw (get_or-map (moved from to) labels k 0 0 k_in) (elim (by_label l) [
              | inl e ↦ subst (λ m. times (list_at (set (set members to both) from []) m) k ≡ bit (moved from to x == m)) (sym e)
                  (ap (λ xs. times xs k) (at_from members both [] [] from_list) ∙ times_nil k ∙ sym (bit_from x))
              | inr o ↦ elim o [
                | inl e ↦ subst (λ m. times (list_at (set (set members to both) from []) m) k ≡ bit (moved from to x == m)) (sym e)
                    (ap (λ xs. times xs k) (at_to members both [] [] to_list) ∙ times-append (list_at members to) (list_at members from) k ∙
                    (let a = r.stands to k to_in k_in in let b = r.stands from k from_in k_in in let d = bit_to x in omega arith))
                | inr p ↦ ap (λ xs. times xs k) (at_other members both [] [] l p.0 p.1) ∙ r.stands l k l_in k_in ∙ sym (bit_other l x p.0 p.1)
              ]
            ]);
        nodes = λ l k h j.
            let l_in : l < length labels = rw (← n) h in
            let k_out : length labels ≤ k = rw (← n) j in
            elim (by_label l) [
              | inl e ↦ subst (λ m. times (list_at (set (set members to both) from []) m) k ≡ 0) (sym e) (ap (λ xs. times xs k) (at_from members both [] [] from_list) ∙ times_nil k)
              | inr o ↦ elim o [
                | inl e ↦ subst (λ m. times (list_at (set (set members to both) from []) m) k ≡ 0) (sym e)
                    (ap (λ xs. times xs k) (at_to members both [] [] to_list) ∙ times-append (list_at members to) (list_at members from) k ∙
                    (let a = r.nodes to k to_in k_out in let b = r.nodes from k from_in k_out in omega arith))
                | inr p ↦ ap (λ xs. times xs k) (at_other members both [] [] l p.0 p.1) ∙ r.nodes l k l_in k_out
              ]
            ];
        counts = λ l h.
            let l_in : l < length labels = rw (← n) h in
            elim (by_label l) [
              | inl e ↦ subst (λ m. get_or (set (set sizes to sum) from 0) m 0 ≡ size_of (relabelled labels from to) m) (sym e) (at_from sizes sum 0 0 from_size ∙ sym (size_from labels))
              | inr o ↦ elim o [
                | inl e ↦ subst (λ m. get_or (set (set sizes to sum) from 0) m 0 ≡ size_of (relabelled labels from to) m) (sym e)
                    (at_to sizes sum 0 0 to_size ∙ (let a = r.counts to to_in in let b = r.counts from from_in in let d = size_to labels in omega arith))
                | inr p ↦ at_other sizes sum 0 0 l p.0 p.1 ∙ r.counts l l_in ∙ sym (size_other l labels p.0 p.1)
              ]
            ];
        lengths = λ l h.
            let l_in : l < length labels = rw (← n) h in
            elim (by_label l) [
              | inl e ↦ subst (λ m. get_or (set (set sizes to sum) from 0) m 0 ≡ length (list_at (set (set members to both) from []) m)) (sym e)
                  (at_from sizes sum 0 0 from_size ∙ sym (ap (λ (xs : List ℕ). length xs) (at_from members both [] [] from_list)))
              | inr o ↦ elim o [
                | inl e ↦ subst (λ m. get_or (set (set sizes to sum) from 0) m 0 ≡ length (list_at (set (set members to both) from []) m)) (sym e)
                    (at_to sizes sum 0 0 to_size ∙ (let a = r.lengths to to_in in let b = r.lengths from from_in in let d = length-append (list_at members to) (list_at members from) in omega arith) ∙
                    sym (ap (λ (xs : List ℕ). length xs) (at_to members both [] [] to_list)))
                | inr p ↦ at_other sizes sum 0 0 l p.0 p.1 ∙ r.lengths l l_in ∙ sym (ap (λ (xs : List ℕ). length xs) (at_other members both [] [] l p.0 p.1))
              ]
            ];
        few = rw n r.few;
      }

-- one member more has the new label
pub step : (L olds news news' : List ℕ) (i x to : ℕ) → get_or L i 0 ≡ x → i < length L → x < length news → news' ≡ set news x to →
    ((k : ℕ) → k < length olds → get_or news k 0 ≡ (if times (take i L) k == 0 then get_or olds k 0 else to)) →
    (k : ℕ) → k < length olds → get_or news' k 0 ≡ (if times (take (i + 1) L) k == 0 then get_or olds k 0 else to)
step L olds news news' i x to at within x_in made h k k_in =
    let more : take (i + 1) L ≡ take i L ++ x ∷ [] = take_more L i 0 within ∙ ap (λ y. take i L ++ y ∷ []) at in
    let split : times (take (i + 1) L) k ≡ times (take i L) k + times (x ∷ []) k = ap (λ ys. times ys k) more ∙ times-append (take i L) (x ∷ []) k in
    elim (cases_eq k x) [
      | inl e ↦
          let one : times (x ∷ []) k ≡ 1 + times [] x = ap (times (x ∷ [])) e ∙ times_here x [] in
          let some : times (take (i + 1) L) k ≢ 0 = λ f. omega arith in
          ap (λ ys. get_or ys k 0) made ∙ ap (λ j. get_or (set news x to) j 0) e ∙ get_or-set_same news x to 0 x_in ∙
          sym (ap (λ t. cond t (get_or olds k 0) to) (ne_eqb (times (take (i + 1) L) k) 0 some))
      | inr n ↦
          let none : times (x ∷ []) k ≡ times [] k = times_there x [] k (λ f. n (sym f)) in
          let nil = times_nil k in
          let same : times (take (i + 1) L) k ≡ times (take i L) k = omega arith in
          ap (λ ys. get_or ys k 0) made ∙ get_or-set_other news x k to 0 n ∙ h k k_in ∙ sym (ap (λ t. cond (t == 0) (get_or olds k 0) to) same)
    ]

pub nothing_yet : (olds : List ℕ) (to k : ℕ) → get_or olds k 0 ≡ (if times [] k == 0 then get_or olds k 0 else to)
nothing_yet olds to k = sym (ap (λ t. cond (t == 0) (get_or olds k 0) to) (times_nil k))

-- what the walk over the members leaves
pub relabelled_is : (labels new sizes : List ℕ) (members : List (List ℕ)) (from to : ℕ) → IsRoster labels sizes members → from < length labels → length new ≡ length labels →
    ((k : ℕ) → k < length labels → get_or new k 0 ≡ (if times (list_at members from) k == 0 then get_or labels k 0 else to)) →
    new ≡ relabelled labels from to
relabelled_is labels new sizes members from to r from_in count made =
    ext_get_or 0 new (relabelled labels from to) (count ∙ sym (length-map labels (moved from to)))
    (λ k h.
    let k_in : k < length labels = rw (← count) h in
    let bits : times (list_at members from) k ≡ bit (get_or labels k 0 == from) = r.stands from k from_in k_in in
    made k k_in ∙ elim (cases_eq (get_or labels k 0) from) [
      | inl e ↦
          let one : times (list_at members from) k ≡ 1 = bits ∙ ap bit (eq-eqb (get_or labels k 0) from e) in
          ap (λ t. cond (t == 0) (get_or labels k 0) to) one ∙ sym (ap (λ t. cond t to (get_or labels k 0)) (eq-eqb (get_or labels k 0) from e))
      | inr n ↦
          let zero_of : times (list_at members from) k ≡ 0 = bits ∙ ap bit (ne_eqb (get_or labels k 0) from n) in
          ap (λ t. cond (t == 0) (get_or labels k 0) to) zero_of ∙ sym (ap (λ t. cond t to (get_or labels k 0)) (ne_eqb (get_or labels k 0) from n))
    ] ∙ sym (get_or-map (moved from to) labels k 0 0 k_in))

pub members_in_range : (labels sizes : List ℕ) (members : List (List ℕ)) (l : ℕ) → IsRoster labels sizes members → l < length labels → All (λ n. n < length labels) (list_at members l)
members_in_range labels sizes members l r l_in =
    All-from_get_or (λ n. n < length labels) (list_at members l) 0
    (λ i h.
    let x = get_or (list_at members l) i 0 in
    let some : 0 < times (list_at members l) x = times_from_Contains (list_at members l) x (i, h, get_or_default (list_at members l) i x 0 h) in
    elim (cases_lt x (length labels)) [
      | inl k ↦ k
      | inr k ↦ let none = r.nodes l x l_in k in absurd (omega arith)
    ])

pub sizes_fit : (labels sizes : List ℕ) (members : List (List ℕ)) (from to : ℕ) → IsRoster labels sizes members → to ≢ from → from < length labels → to < length labels → get_or sizes to 0 + get_or sizes from 0 < 2 ^ 32
sizes_fit labels sizes members from to r apart from_in to_in =
    let sum = size_to from to apart labels in
    let most : size_of (relabelled labels from to) to ≤ length (relabelled labels from to) = count_by-le-length (λ l. l == to) (relabelled labels from to) in
    omega (arith, length-map labels (moved from to), r.counts to to_in, r.counts from from_in, r.few)
