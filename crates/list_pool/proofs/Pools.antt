-- What each call of a pool keeps.
use Rattle.std.proofs.Common.{List, [], ◌∷◌, ◌++◌, ℕ, Bool, true, false, not, cond, Option, Some, None, length, ◌≡◌, ◌≢◌, ◌<◌, ◌≤◌, ◌+◌, inl, inr, refl, ap, sym, ◌∙◌, subst, arith, sum_by, count_by, get_or, set, true≢false}
use Rattle.std.specs.Option.{ForSome}
use Rattle.std.proofs.lemmas.Bool.{cases_eq, cases_lt}
use Rattle.std.proofs.lemmas.List.{get_or-set_same, get_or-set_other, length-set, length-append, length-map, get_or_past, map-set}
use Rattle.std.proofs.lemmas.List.Sums.{sum_by-set}
use Rattle.list_pool.specs.declared.cell.Cell.{Cell}
use Rattle.list_pool.specs.declared.cell.Ends.{Ends}
use Rattle.list_pool.specs.Counts.{times, count_in}
use Rattle.list_pool.specs.Pool.{list_at}
use Rattle.list_pool.specs.Linked.{last, Path, IsDoublyLinked, IsPool, next_in, prev_in, cell_at, ends_at, flags}
use Rattle.list_pool.specs.Links.{Links, cells_marked}
use Rattle.list_pool.proofs.Fields.{field_kept}
use Rattle.list_pool.proofs.Times.{times_nil, times-append, times_here, times_there, times_more, count_in-set, times-le-count_in}
use Rattle.list_pool.proofs.Paths.{Once, last_in, path_kept, linked_same, join}
use Rattle.list_pool.proofs.Cuts.{head, same_some, some_not_none, none_not_some, not_last, last_stands, head_stands, prev_is, next_is, cut}

abbrev no_cell : Cell
no_cell = record { held = false; before = None; after = None }

abbrev free_at : Bool → ℕ
free_at b = cond (not b) 1 0

abbrev held_at : Bool → ℕ
held_at b = cond b 1 0

abbrev bit_at : List Bool → ℕ → ℕ
bit_at bs x = cond (get_or bs x false) 1 0

-- a mark changes no link
pub mark_next : (cells : List Cell) (ends : List Ends) (c : ℕ) (b : Bool) (m : ℕ) (w : Option ℕ) → next_in (cells_marked cells c b) ends m w ≡ next_in cells ends m w
mark_next cells ends c b m None = refl
mark_next cells ends c b m (Some x) = field_kept (λ k. k.after) cells c (record (cell_at cells c) { held = b }) no_cell x refl

pub mark_prev : (cells : List Cell) (ends : List Ends) (c : ℕ) (b : Bool) (m : ℕ) (w : Option ℕ) → prev_in (cells_marked cells c b) ends m w ≡ prev_in cells ends m w
mark_prev cells ends c b m None = refl
mark_prev cells ends c b m (Some x) = field_kept (λ k. k.before) cells c (record (cell_at cells c) { held = b }) no_cell x refl

pub flags-marked : (cells : List Cell) (c : ℕ) (b : Bool) → flags (cells_marked cells c b) ≡ set (flags cells) c b
flags-marked cells c b = map-set (λ k. k.held) cells c (record (cell_at cells c) { held = b })

bit : (b : Bool) → cond b 1 0 ≤ 1
bit true = omega arith
bit false = omega arith

module _ (cells : List Cell) (ends : List Ends) (spare : ℕ) (lists : List (List ℕ)) (pool : IsPool cells ends spare lists) where
  pub once_in : (x : ℕ) → count_in lists x ≤ 1
  once_in x = omega (arith, pool.held x, bit (get_or (flags cells) x false))

  pub once : (l : ℕ) → l < length ends → Once (list_at lists l)
  once l h x = omega (arith, once_in x, times-le-count_in lists l x (omega (arith, pool.count)))

  -- no cell stands in two lists
  pub elsewhere : (l m x : ℕ) → l < length ends → m < length ends → m ≢ l → 0 < times (list_at lists l) x → times (list_at lists m) x ≡ 0
  elsewhere l m x h k n stands =
      let l_in : l < length lists = omega (arith, pool.count) in
      let m_in : m < length lists = omega (arith, pool.count) in
      let less = count_in-set lists l [] x l_in in
      let none = times_nil x in
      let there : times (list_at (set lists l []) m) x ≡ times (list_at lists m) x = ap (λ xs. times xs x) (get_or-set_other lists l m [] [] n) in
      let most = times-le-count_in (set lists l []) m x (rw (length-set lists l []) m_in) in
      omega (arith, once_in x)

  -- a cell that stands in a list is one of the pool's
  pub in_range : (l x : ℕ) → l < length ends → 0 < times (list_at lists l) x → x < length cells
  in_range l x h stands = within (get_or (flags cells) x false) refl
    where
      within : (b : Bool) → get_or (flags cells) x false ≡ b → x < length cells
      within true e = elim (cases_lt x (length cells)) [
        | inl k ↦ k
        | inr k ↦ absurd (true≢false (sym e ∙ get_or_past (flags cells) x false (rw (length-map cells (λ k. k.held)) k)))
      ]
      within false e =
          let none : count_in lists x ≡ 0 = pool.held x ∙ ap (λ (b : Bool). cond b 1 0) e in
          absurd (omega (arith, times-le-count_in lists l x (omega (arith, pool.count))))

-- another list stays under one link
pub linked_elsewhere : (c : List Cell) (e : List Ends) (c' : List Cell) (e' : List Ends) (l : ℕ) (left right : Option ℕ) (m : ℕ) (xs : List ℕ) →
    Links c e c' e' l left right → m ≢ l → ForSome left (λ x. times xs x ≡ 0) → ForSome right (λ x. times xs x ≡ 0) →
    IsDoublyLinked (next_in c e m) (prev_in c e m) xs → IsDoublyLinked (next_in c' e' m) (prev_in c' e' m) xs
linked_elsewhere c e c' e' l left right m xs made n a b r =
    linked_same (next_in c e m) (prev_in c e m) (next_in c' e' m) (prev_in c' e' m) xs r
    (made.next_other m None (inr (n, refl)))
    (made.prev_other m None (inr (n, refl)))
    (λ x h. made.next_other m (Some x) (inl (λ f. let g = a x (sym f) in absurd (omega arith))))
    (λ x h. made.prev_other m (Some x) (inl (λ f. let g = b x (sym f) in absurd (omega arith))))

module _ (c0 : List Cell) (e0 : List Ends) (spare : ℕ) (lists : List (List ℕ)) (pool : IsPool c0 e0 spare lists) (l : ℕ) (l_in : l < length e0) (c : ℕ) where
  -- after a cell is put to the end of a list
  pub pushed : (c1 : List Cell) (e1 : List Ends) (c2 : List Cell) (e2 : List Ends) (spare' : ℕ) → c < length c0 → count_in lists c ≡ 0 →
      Links c0 e0 c1 e1 l (ends_at e0 l).last (Some c) → Links c1 e1 c2 e2 l (Some c) None → spare ≡ spare' + 1 → length c2 ≡ length c0 →
      IsPool (cells_marked c2 c true) e2 spare' (set lists l (list_at lists l ++ c ∷ []))
  unfolding Path last
  pushed c1 e1 c2 e2 spare' c_in none first_links' second_links e n =
      let xs : List ℕ = list_at lists l in
      let ring = pool.linked l l_in in
      let u : Option ℕ = last None xs in
      let first_links : Links c0 e0 c1 e1 l u (Some c) = subst (λ v. Links c0 e0 c1 e1 l v (Some c)) ring.back first_links' in
      let l_in' : l < length lists = omega (arith, pool.count) in
      let count : length e2 ≡ length e0 = second_links.lists ∙ first_links.lists in
      let away : (m : ℕ) → m < length lists → times (list_at lists m) c ≡ 0 = λ m h. omega (arith, times-le-count_in lists m c h) in
      let not_c : (x : ℕ) → 0 < times xs x → x ≢ c = λ x h f. let k : 0 < times xs c = subst (λ y. 0 < times xs y) f h in absurd (omega (arith, away l l_in')) in
      let same_flags : flags (cells_marked c2 c true) ≡ set (flags c0) c true = flags-marked c2 c true ∙ ap (λ bs. set bs c true) (second_links.flags ∙ first_links.flags) in
      let was_free : get_or (flags c0) c false ≡ false = is_free (get_or (flags c0) c false) (sym (pool.held c) ∙ none) in
      let c_flag : c < length (flags c0) = rw (length-map c0 (λ k. k.held)) c_in in
      record {
        count = length-set lists l (xs ++ c ∷ []) ∙ pool.count ∙ sym count;
        linked = λ m h. elim (cases_eq m l) [
          | inl f ↦ subst (λ k. IsDoublyLinked (next_in (cells_marked c2 c true) e2 k) (prev_in (cells_marked c2 c true) e2 k) (list_at (set lists l (xs ++ c ∷ [])) k)) (sym f)
              (rw (get_or-set_same lists l (xs ++ c ∷ []) [] l_in')
              (join (next_in c0 e0 l) (prev_in c0 e0 l) (next_in (cells_marked c2 c true) e2 l) (prev_in (cells_marked c2 c true) e2 l) xs c [] ring.path (once c0 e0 spare lists pool l l_in)
              (λ k. mark_next c2 e2 c true l None ∙ second_links.next_other l None (inl (none_not_some c)) ∙ first_links.next_other l None (inl k))
              (λ x j k. mark_next c2 e2 c true l (Some x) ∙ second_links.next_other l (Some x) (inl (λ g. not_c x j (same_some x c g))) ∙ first_links.next_other l (Some x) (inl k))
              (λ x j. mark_prev c2 e2 c true l (Some x) ∙ second_links.prev_other l (Some x) (inl (some_not_none x)) ∙ first_links.prev_other l (Some x) (inl (λ g. not_c x j (same_some x c g))))
              (mark_next c2 e2 c true l u ∙ second_links.next_other l u (inl (λ g. not_last xs c (away l l_in') (sym g))) ∙ first_links.next)
              (mark_prev c2 e2 c true l (Some c) ∙ second_links.prev_other l (Some c) (inl (some_not_none c)) ∙ first_links.prev)
              tt
              (mark_next c2 e2 c true l (Some c) ∙ second_links.next)
              (mark_prev c2 e2 c true l None ∙ second_links.prev)))
          | inr f ↦
              let m_in : m < length e0 = rw (← count) h in
              let m_in' : m < length lists = omega (arith, pool.count) in
              rw (get_or-set_other lists l m (xs ++ c ∷ []) [] f)
              (linked_marked c2 e2 true m (list_at lists m)
              (linked_elsewhere c1 e1 c2 e2 l (Some c) None m (list_at lists m) second_links f
              (λ x g. subst (λ y. times (list_at lists m) y ≡ 0) (same_some c x g) (away m m_in')) (λ x g. absurd (none_not_some x g))
              (linked_elsewhere c0 e0 c1 e1 l u (Some c) m (list_at lists m) first_links f
              (λ x g. elsewhere c0 e0 spare lists pool l m x l_in m_in f (last_stands xs x g))
              (λ x g. subst (λ y. times (list_at lists m) y ≡ 0) (same_some c x g) (away m m_in'))
              (pool.linked m m_in))))
        ];
        held = λ x. rw same_flags (elim (cases_eq x c) [
          | inl f ↦ subst (λ y. count_in (set lists l (xs ++ c ∷ [])) y ≡ bit_at (set (flags c0) c true) y) (sym f)
              (rw (get_or-set_same (flags c0) c true false c_flag)
              (omega (arith, count_in-set lists l (xs ++ c ∷ []) c l_in', times-append xs (c ∷ []) c, times_here c [], times_nil c)))
          | inr f ↦ rw (get_or-set_other (flags c0) c x true false f)
              (let k : count_in (set lists l (xs ++ c ∷ [])) x ≡ count_in lists x =
              omega (arith, count_in-set lists l (xs ++ c ∷ []) x l_in', times-append xs (c ∷ []) x, times_there c [] x (λ g. f (sym g)), times_nil x) in
              k ∙ pool.held x)
        ]);
        free = rw same_flags (
            let k : count_by not (set (flags c0) c true) + free_at (get_or (flags c0) c false) ≡ count_by not (flags c0) + 0 = sum_by-set (λ (b : Bool). cond (not b) 1 0) (flags c0) c true false c_flag in
            let j : count_by not (set (flags c0) c true) + 1 ≡ count_by not (flags c0) + 0 = subst (λ (b : Bool). count_by not (set (flags c0) c true) + free_at b ≡ count_by not (flags c0) + 0) was_free k in
            omega (arith, pool.free));
        all = rw (length-set c2 c (record (cell_at c2 c) { held = true }), n) (
            let k : sum_by length (set lists l (xs ++ c ∷ [])) + length xs ≡ sum_by length lists + length (xs ++ c ∷ []) = sum_by-set length lists l (xs ++ c ∷ []) [] l_in' in
            omega (arith, pool.all, length-append xs (c ∷ [])));
        few = rw (length-set c2 c (record (cell_at c2 c) { held = true }), n) pool.few;
      }
    where
      is_free : (b : Bool) → held_at b ≡ 0 → b ≡ false
      is_free true e = absurd (omega arith)
      is_free false e = refl

      linked_marked : (k : List Cell) (e : List Ends) (b : Bool) (m : ℕ) (ys : List ℕ) → IsDoublyLinked (next_in k e m) (prev_in k e m) ys → IsDoublyLinked (next_in (cells_marked k c b) e m) (prev_in (cells_marked k c b) e m) ys
      linked_marked k e b m ys r = linked_same (next_in k e m) (prev_in k e m) (next_in (cells_marked k c b) e m) (prev_in (cells_marked k c b) e m) ys r
          (mark_next k e c b m None) (mark_prev k e c b m None) (λ x _. mark_next k e c b m (Some x)) (λ x _. mark_prev k e c b m (Some x))

pub cells_count : (c : List Cell) (e : List Ends) (c' : List Cell) (e' : List Ends) (l : ℕ) (left right : Option ℕ) → Links c e c' e' l left right → length c' ≡ length c
cells_count c e c' e' l left right made = sym (length-map c' (λ k. k.held)) ∙ ap length made.flags ∙ length-map c (λ k. k.held)

linked_marked : (k : List Cell) (c : ℕ) (e : List Ends) (b : Bool) (m : ℕ) (ys : List ℕ) → IsDoublyLinked (next_in k e m) (prev_in k e m) ys → IsDoublyLinked (next_in (cells_marked k c b) e m) (prev_in (cells_marked k c b) e m) ys
linked_marked k c e b m ys r = linked_same (next_in k e m) (prev_in k e m) (next_in (cells_marked k c b) e m) (prev_in (cells_marked k c b) e m) ys r
    (mark_next k e c b m None) (mark_prev k e c b m None) (λ x _. mark_next k e c b m (Some x)) (λ x _. mark_prev k e c b m (Some x))

-- after a cell is taken out of a list
pub removed : (c0 : List Cell) (e0 : List Ends) (spare : ℕ) (lists : List (List ℕ)) → IsPool c0 e0 spare lists → (l : ℕ) → l < length e0 → (c : ℕ) →
    (ys zs : List ℕ) → list_at lists l ≡ ys ++ c ∷ zs → (c1 : List Cell) (e1 : List Ends) → Links c0 e0 c1 e1 l (cell_at c0 c).before (cell_at c0 c).after →
    IsPool (cells_marked c1 c false) e1 (spare + 1) (set lists l (ys ++ zs))
removed c0 e0 spare lists pool l l_in c ys zs parts c1 e1 L =
    let xs : List ℕ = ys ++ c ∷ zs in
    let ring0 = pool.linked l l_in in
    let ring : IsDoublyLinked (next_in c0 e0 l) (prev_in c0 e0 l) xs = rw parts at ring0 in
    let once_xs : Once xs = subst Once parts (once c0 e0 spare lists pool l l_in) in
    let p : (cell_at c0 c).before ≡ last None ys = prev_is (next_in c0 e0 l) (prev_in c0 e0 l) ys c zs ring in
    let n : (cell_at c0 c).after ≡ head zs = next_is (next_in c0 e0 l) (prev_in c0 e0 l) ys c zs ring in
    let l_in' : l < length lists = omega (arith, pool.count) in
    let split : (x : ℕ) → times xs x ≡ times ys x + times (c ∷ zs) x = times-append ys (c ∷ zs) in
    let whole : (x : ℕ) → times (list_at lists l) x ≡ times xs x = λ x. ap (λ vs. times vs x) parts in
    let stands : 0 < times (list_at lists l) c = omega (arith, whole c, split c, times_here c zs) in
    let c_in : c < length c0 = in_range c0 e0 spare lists pool l c l_in stands in
    let same_flags : flags (cells_marked c1 c false) ≡ set (flags c0) c false = flags-marked c1 c false ∙ ap (λ bs. set bs c false) L.flags in
    let was_held : get_or (flags c0) c false ≡ true = is_held (get_or (flags c0) c false) (let k = pool.held c in omega (arith, once_in c0 e0 spare lists pool c, times-le-count_in lists l c l_in')) in
    let c_flag : c < length (flags c0) = rw (length-map c0 (λ k. k.held)) c_in in
    let size = cells_count c0 e0 c1 e1 l (cell_at c0 c).before (cell_at c0 c).after L in
    record {
      count = length-set lists l (ys ++ zs) ∙ pool.count ∙ sym L.lists;
      linked = λ m h. linked_marked c1 c e1 false m (list_at (set lists l (ys ++ zs)) m) (elim (cases_eq m l) [
        | inl f ↦ subst (λ k. IsDoublyLinked (next_in c1 e1 k) (prev_in c1 e1 k) (list_at (set lists l (ys ++ zs)) k)) (sym f)
            (rw (get_or-set_same lists l (ys ++ zs) [] l_in')
            (cut (next_in c0 e0 l) (prev_in c0 e0 l) (next_in c1 e1 l) (prev_in c1 e1 l) ys c zs ring once_xs L.next L.prev
            (λ w k. L.next_other l w (inl k)) (λ w k. L.prev_other l w (inl k))))
        | inr f ↦
            let m_in : m < length e0 = rw (← L.lists) h in
            rw (get_or-set_other lists l m (ys ++ zs) [] f)
            (linked_elsewhere c0 e0 c1 e1 l (cell_at c0 c).before (cell_at c0 c).after m (list_at lists m) L f
            (λ x g. elsewhere c0 e0 spare lists pool l m x l_in m_in f (let k : 0 < times ys x = last_stands ys x (sym p ∙ g) in omega (arith, whole x, split x)))
            (λ x g. elsewhere c0 e0 spare lists pool l m x l_in m_in f (let k : 0 < times zs x = head_stands zs x (sym n ∙ g) in omega (arith, whole x, split x, times_more c zs x)))
            (pool.linked m m_in))
      ]);
      held = λ x. rw same_flags (elim (cases_eq x c) [
        | inl f ↦ subst (λ y. count_in (set lists l (ys ++ zs)) y ≡ bit_at (set (flags c0) c false) y) (sym f)
            (rw (get_or-set_same (flags c0) c false false c_flag)
            (omega (arith, count_in-set lists l (ys ++ zs) c l_in', times-append ys zs c, whole c, split c, times_here c zs, once_in c0 e0 spare lists pool c)))
        | inr f ↦ rw (get_or-set_other (flags c0) c x false false f)
            (let k : count_in (set lists l (ys ++ zs)) x ≡ count_in lists x =
            omega (arith, count_in-set lists l (ys ++ zs) x l_in', times-append ys zs x, whole x, split x, times_there c zs x (λ g. f (sym g))) in
            k ∙ pool.held x)
      ]);
      free = rw same_flags (
          let k : count_by not (set (flags c0) c false) + free_at (get_or (flags c0) c false) ≡ count_by not (flags c0) + 1 = sum_by-set (λ (b : Bool). cond (not b) 1 0) (flags c0) c false false c_flag in
          let j : count_by not (set (flags c0) c false) + 0 ≡ count_by not (flags c0) + 1 = subst (λ (b : Bool). count_by not (set (flags c0) c false) + free_at b ≡ count_by not (flags c0) + 1) was_held k in
          omega (arith, pool.free));
      all = rw (length-set c1 c (record (cell_at c1 c) { held = false }), size) (
          let k : sum_by length (set lists l (ys ++ zs)) + length (list_at lists l) ≡ sum_by length lists + length (ys ++ zs) = sum_by-set length lists l (ys ++ zs) [] l_in' in
          omega (arith, pool.all, length-append ys zs, length-append ys (c ∷ zs), ap length parts));
      few = rw (length-set c1 c (record (cell_at c1 c) { held = false }), size) pool.few;
    }
  where
    is_held : (b : Bool) → 0 < held_at b → b ≡ true
    is_held true e = refl
    is_held false e = absurd (omega arith)

-- the ends after a list is emptied
abbrev pub emptied : List Ends → ℕ → List Ends
emptied ends l = set ends l (record { first = None; last = None })

abbrev no_ends : Ends
no_ends = record { first = None; last = None }

emptied_next : (k : List Cell) (e : List Ends) (l m : ℕ) (w : Option ℕ) → m ≢ l → next_in k (emptied e l) m w ≡ next_in k e m w
emptied_next k e l m None n = ap (λ e. e.first) (get_or-set_other e l m no_ends no_ends n)
emptied_next k e l m (Some x) n = refl

emptied_prev : (k : List Cell) (e : List Ends) (l m : ℕ) (w : Option ℕ) → m ≢ l → prev_in k (emptied e l) m w ≡ prev_in k e m w
emptied_prev k e l m None n = ap (λ e. e.last) (get_or-set_other e l m no_ends no_ends n)
emptied_prev k e l m (Some x) n = refl

-- after the cells of a list were put to the end of another
pub spliced : (c0 : List Cell) (e0 : List Ends) (spare : ℕ) (lists : List (List ℕ)) → IsPool c0 e0 spare lists → (l o : ℕ) → l < length e0 → o < length e0 → l ≢ o →
    (y : ℕ) (ys : List ℕ) → list_at lists o ≡ y ∷ ys → (c1 : List Cell) (e1 : List Ends) (c2 : List Cell) (e2 : List Ends) →
    Links c0 e0 c1 e1 l (ends_at e0 l).last (Some y) → Links c1 e1 c2 e2 l (ends_at e0 o).last None →
    IsPool c2 (emptied e2 o) spare (set (set lists l (list_at lists l ++ y ∷ ys)) o [])
unfolding Path last
spliced c0 e0 spare lists pool l o l_in o_in apart y ys parts c1 e1 c2 e2 first_links' second_links' =
    let xs : List ℕ = list_at lists l in
    let u : Option ℕ = last None xs in
    let v : Option ℕ = last (Some y) ys in
    let ring = pool.linked l l_in in
    let other0 = pool.linked o o_in in
    let other : IsDoublyLinked (next_in c0 e0 o) (prev_in c0 e0 o) (y ∷ ys) = rw parts at other0 in
    let first_links : Links c0 e0 c1 e1 l u (Some y) = subst (λ w. Links c0 e0 c1 e1 l w (Some y)) ring.back first_links' in
    let second_links : Links c1 e1 c2 e2 l v None = subst (λ w. Links c1 e1 c2 e2 l w None) other.back second_links' in
    let l_in' : l < length lists = omega (arith, pool.count) in
    let o_in' : o < length lists = omega (arith, pool.count) in
    let mid : List (List ℕ) = set lists l (xs ++ y ∷ ys) in
    let o_in2 : o < length mid = rw (length-set lists l (xs ++ y ∷ ys)) o_in' in
    let mid_o : list_at mid o ≡ y ∷ ys = get_or-set_other lists l o (xs ++ y ∷ ys) [] (λ e. apart (sym e)) ∙ parts in
    let count : length e2 ≡ length e0 = second_links.lists ∙ first_links.lists in
    let whole : (x : ℕ) → times (list_at lists o) x ≡ times (y ∷ ys) x = λ x. ap (λ vs. times vs x) parts in
    let once_o : Once (y ∷ ys) = subst Once parts (once c0 e0 spare lists pool o o_in) in
    let not_here : (x : ℕ) → 0 < times (y ∷ ys) x → times xs x ≡ 0 = λ x h. elsewhere c0 e0 spare lists pool o l x o_in l_in apart (omega (arith, whole x)) in
    let y_stands : 0 < times (y ∷ ys) y = omega (arith, times_here y ys) in
    let v_in = last_in y ys in
    let size = cells_count c1 e1 c2 e2 l v None second_links ∙ cells_count c0 e0 c1 e1 l u (Some y) first_links in
    let not_v : (x : ℕ) → 0 < times xs x → Some x ≢ v = λ x h e.
    let f : x ≡ v_in.0 = same_some x v_in.0 (e ∙ v_in.1) in
    let g : times xs x ≡ 0 = subst (λ z. times xs z ≡ 0) (sym f) (not_here v_in.0 v_in.2) in absurd (omega arith) in
    let not_u : (x : ℕ) → 0 < times (y ∷ ys) x → Some x ≢ u = λ x h. not_last xs x (not_here x h) in
    let N' : Option ℕ → Option ℕ = next_in c2 (emptied e2 o) l in
    let P' : Option ℕ → Option ℕ = prev_in c2 (emptied e2 o) l in
    let nexts : (w : Option ℕ) → w ≢ u → w ≢ v → N' w ≡ next_in c0 e0 l w = λ w h k. emptied_next c2 e2 o l w apart ∙ second_links.next_other l w (inl k) ∙ first_links.next_other l w (inl h) in
    let prevs : (w : Option ℕ) → w ≢ None → w ≢ Some y → P' w ≡ prev_in c0 e0 l w = λ w h k. emptied_prev c2 e2 o l w apart ∙ second_links.prev_other l w (inl h) ∙ first_links.prev_other l w (inl k) in
    let none_v : None ≢ v = λ e. let f : None ≡ Some v_in.0 = e ∙ v_in.1 in none_not_some v_in.0 f in
    let whole_ring : IsDoublyLinked N' P' (xs ++ y ∷ ys) =
    join (next_in c0 e0 l) (prev_in c0 e0 l) N' P' xs y ys ring.path (once c0 e0 spare lists pool l l_in)
    (λ h. nexts None h none_v)
    (λ x h k. nexts (Some x) k (not_v x h))
    (λ x h. prevs (Some x) (some_not_none x) (λ e. let f : x ≡ y = same_some x y e in let g : times xs x ≡ 0 = subst (λ z. times xs z ≡ 0) (sym f) (not_here y y_stands) in absurd (omega arith)))
    (emptied_next c2 e2 o l u apart ∙ second_links.next_other l u (inl (λ e. not_u v_in.0 v_in.2 (sym v_in.1 ∙ sym e))) ∙ first_links.next)
    (emptied_prev c2 e2 o l (Some y) apart ∙ second_links.prev_other l (Some y) (inl (some_not_none y)) ∙ first_links.prev)
    (path_kept (next_in c0 e0 o) (prev_in c0 e0 o) N' P' (Some y) ys other.path.2 once_o
    (λ h. nexts (Some y) (not_u y y_stands) h)
    (λ x h k. nexts (Some x) (not_u x (omega (arith, times_more y ys x))) k)
    (λ x h. prevs (Some x) (some_not_none x) (λ e. let f : x ≡ y = same_some x y e in let g : 0 < times ys y = subst (λ z. 0 < times ys z) f h in absurd (omega (arith, once_o y, times_here y ys)))))
    (emptied_next c2 e2 o l v apart ∙ second_links.next)
    (emptied_prev c2 e2 o l None apart ∙ second_links.prev) in
    record {
      count = length-set mid o [] ∙ length-set lists l (xs ++ y ∷ ys) ∙ pool.count ∙ sym count ∙ sym (length-set e2 o no_ends);
      linked = λ m h. elim (cases_eq m o) [
        | inl f ↦ subst (λ k. IsDoublyLinked (next_in c2 (emptied e2 o) k) (prev_in c2 (emptied e2 o) k) (list_at (set mid o []) k)) (sym f)
            (rw (get_or-set_same mid o [] [] o_in2) (
            let o_in3 : o < length e2 = rw count o_in in
            record { path = tt; end = ap (λ e. e.first) (get_or-set_same e2 o no_ends no_ends o_in3); back = ap (λ e. e.last) (get_or-set_same e2 o no_ends no_ends o_in3) }))
        | inr f ↦ rw (get_or-set_other mid o m [] [] f) (elim (cases_eq m l) [
          | inl g ↦ subst (λ k. IsDoublyLinked (next_in c2 (emptied e2 o) k) (prev_in c2 (emptied e2 o) k) (list_at mid k)) (sym g) (rw (get_or-set_same lists l (xs ++ y ∷ ys) [] l_in') whole_ring)
          | inr g ↦
              let m_in : m < length e0 = rw (← count, ← length-set e2 o no_ends) h in
              rw (get_or-set_other lists l m (xs ++ y ∷ ys) [] g)
              (linked_same (next_in c2 e2 m) (prev_in c2 e2 m) (next_in c2 (emptied e2 o) m) (prev_in c2 (emptied e2 o) m) (list_at lists m)
              (linked_elsewhere c1 e1 c2 e2 l v None m (list_at lists m) second_links g
              (λ x k. elsewhere c0 e0 spare lists pool o m x o_in m_in f (let j : 0 < times (y ∷ ys) x = subst (λ z. 0 < times (y ∷ ys) z) (same_some v_in.0 x (sym v_in.1 ∙ k)) v_in.2 in omega (arith, whole x)))
              (λ x k. absurd (none_not_some x k))
              (linked_elsewhere c0 e0 c1 e1 l u (Some y) m (list_at lists m) first_links g
              (λ x k. elsewhere c0 e0 spare lists pool l m x l_in m_in g (last_stands xs x k))
              (λ x k. elsewhere c0 e0 spare lists pool o m x o_in m_in f (let j : 0 < times (y ∷ ys) x = subst (λ z. 0 < times (y ∷ ys) z) (same_some y x k) y_stands in omega (arith, whole x)))
              (pool.linked m m_in)))
              (emptied_next c2 e2 o m None f) (emptied_prev c2 e2 o m None f) (λ x _. emptied_next c2 e2 o m (Some x) f) (λ x _. emptied_prev c2 e2 o m (Some x) f))
        ])
      ];
      held = λ x. rw (second_links.flags, first_links.flags) (
          let k : count_in (set mid o []) x ≡ count_in lists x = omega (arith, count_in-set mid o [] x o_in2, count_in-set lists l (xs ++ y ∷ ys) x l_in', times-append xs (y ∷ ys) x, ap (λ vs. times vs x) mid_o, times_nil x) in
          k ∙ pool.held x);
      free = rw (second_links.flags, first_links.flags) pool.free;
      all = rw size (
          let k : sum_by length (set mid o []) + length (list_at mid o) ≡ sum_by length mid + 0 = sum_by-set length mid o [] [] o_in2 in
          let j : sum_by length mid + length xs ≡ sum_by length lists + length (xs ++ y ∷ ys) = sum_by-set length lists l (xs ++ y ∷ ys) [] l_in' in
          omega (arith, pool.all, length-append xs (y ∷ ys), ap length mid_o));
      few = rw size pool.few;
    }
