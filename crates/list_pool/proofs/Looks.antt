-- What the calls of a pool read, and that it is in range.
use Rattle.std.proofs.Common.{List, [], ◌∷◌, ◌++◌, ℕ, Bool, true, false, not, cond, Some, None, length, filter, ◌≡◌, ◌<◌, ◌≤◌, ◌+◌, ◌^◌, ◌==◌, refl, ap, sym, ◌∙◌, subst, arith, count_by, get_or, set, eq-eqb, append-nil}
use Rattle.std.specs.Option.{ForSome}
use Rattle.std.proofs.lemmas.List.{get_or_read, set-get_or, length-map}
use Rattle.std.proofs.lemmas.List.Elements.{filter-append}
use Rattle.std.proofs.lemmas.List.Sums.{count_by-le-length, get_or-le-sum_by}
use Rattle.list_pool.specs.declared.cell.Cell.{Cell}
use Rattle.list_pool.specs.declared.cell.Ends.{Ends}
use Rattle.list_pool.specs.Counts.{times, count_in}
use Rattle.list_pool.specs.Pool.{list_at}
use Rattle.list_pool.specs.Linked.{last, IsDoublyLinked, IsPool, next_in, prev_in, cell_at, ends_at, flags}
use Rattle.list_pool.proofs.Times.{times-append, times_here, times_more, split_at, filter_none}
use Rattle.list_pool.proofs.Paths.{Once}
use Rattle.list_pool.proofs.Cuts.{head, last_stands, head_stands, first_is, prev_is, next_is}
use Rattle.list_pool.proofs.Pools.{in_range, once}

pub ends_read : (ends : List Ends) (i : ℕ) (e : Ends) → i < length ends → e ≡ get_or ends i e → e ≡ ends_at ends i
ends_read ends i e h r = get_or_read ends i e h r (record { first = None; last = None })

pub cell_read : (cells : List Cell) (i : ℕ) (k : Cell) → i < length cells → k ≡ get_or cells i k → k ≡ cell_at cells i
cell_read cells i k h r = get_or_read cells i k h r (record { held = false; before = None; after = None })

abbrev cond_of : Bool → ℕ
cond_of b = cond b 1 0

times-le-length : (xs : List ℕ) (c : ℕ) → times xs c ≤ length xs
unfolding times
times-le-length xs c = count_by-le-length (λ x. x == c) xs

module _ (cells : List Cell) (ends : List Ends) (spare : ℕ) (lists : List (List ℕ)) (pool : IsPool cells ends spare lists) (l : ℕ) (l_in : l < length ends) where
  pub last_in_range : ForSome (ends_at ends l).last (λ x. x < length cells)
  last_in_range x e = in_range cells ends spare lists pool l x l_in (last_stands (list_at lists l) x (let r = pool.linked l l_in in sym r.back ∙ e))

  pub first_is_head : (ends_at ends l).first ≡ head (list_at lists l)
  first_is_head = first_is (next_in cells ends l) (prev_in cells ends l) (list_at lists l) (pool.linked l l_in)

  pub first_in_range : ForSome (ends_at ends l).first (λ x. x < length cells)
  first_in_range x e = in_range cells ends spare lists pool l x l_in (head_stands (list_at lists l) x (sym first_is_head ∙ e))

  linked_at : (ys : List ℕ) (c : ℕ) (zs : List ℕ) → list_at lists l ≡ ys ++ c ∷ zs → IsDoublyLinked (next_in cells ends l) (prev_in cells ends l) (ys ++ c ∷ zs)
  linked_at ys c zs e = subst (IsDoublyLinked (next_in cells ends l) (prev_in cells ends l)) e (pool.linked l l_in)

  pub before_in_range : (c : ℕ) → 0 < times (list_at lists l) c → ForSome (cell_at cells c).before (λ x. x < length cells)
  before_in_range c h x e =
      let s = split_at (list_at lists l) c h in
      let p : (cell_at cells c).before ≡ last None s.0 = prev_is (next_in cells ends l) (prev_in cells ends l) s.0 c s.1 (linked_at s.0 c s.1 s.2) in
      let k : 0 < times s.0 x = last_stands s.0 x (sym p ∙ e) in
      in_range cells ends spare lists pool l x l_in (omega (arith, ap (λ vs. times vs x) s.2, times-append s.0 (c ∷ s.1) x))

  pub next_at : (ys : List ℕ) (c : ℕ) (zs : List ℕ) → list_at lists l ≡ ys ++ c ∷ zs → (cell_at cells c).after ≡ head zs
  next_at ys c zs e = next_is (next_in cells ends l) (prev_in cells ends l) ys c zs (linked_at ys c zs e)

  pub after_in_range : (c : ℕ) → 0 < times (list_at lists l) c → ForSome (cell_at cells c).after (λ x. x < length cells)
  after_in_range c h x e =
      let s = split_at (list_at lists l) c h in
      let k : 0 < times s.1 x = head_stands s.1 x (sym (next_at s.0 c s.1 s.2) ∙ e) in
      in_range cells ends spare lists pool l x l_in (omega (arith, ap (λ vs. times vs x) s.2, times-append s.0 (c ∷ s.1) x, times_more c s.1 x))

  -- one more cell can be spared
  pub room : (c : ℕ) → 0 < times (list_at lists l) c → spare + 1 < 2 ^ 32
  room c h = omega (arith, pool.all, pool.few, times-le-length (list_at lists l) c, get_or-le-sum_by length lists l [] (omega (arith, pool.count)))

-- a list without one of its cells
pub filter_one : (xs ys : List ℕ) (c : ℕ) (zs : List ℕ) → xs ≡ ys ++ c ∷ zs → Once xs → filter (λ x. not (x == c)) xs ≡ ys ++ zs
filter_one xs ys c zs e once =
    let total : times xs c ≡ times ys c + times (c ∷ zs) c = ap (λ vs. times vs c) e ∙ times-append ys (c ∷ zs) c in
    let l : filter (λ x. not (x == c)) ys ≡ ys = filter_none ys c (omega (arith, once c, times_here c zs)) in
    let r : filter (λ x. not (x == c)) zs ≡ zs = filter_none zs c (omega (arith, once c, times_here c zs)) in
    let here : filter (λ x. not (x == c)) (c ∷ zs) ≡ zs =
    ap (λ t. cond (not t) (c ∷ filter (λ x. not (x == c)) zs) (filter (λ x. not (x == c)) zs)) (eq-eqb c c refl) ∙ r in
    ap (filter (λ x. not (x == c))) e ∙ filter-append (λ x. not (x == c)) ys (c ∷ zs) ∙ ap (λ vs. vs ++ filter (λ x. not (x == c)) (c ∷ zs)) l ∙ ap (λ vs. ys ++ vs) here

pub from_head : (xs : List ℕ) (y : ℕ) → head xs ≡ Some y → (ys : List ℕ) × (xs ≡ y ∷ ys)
from_head [] y e = cc
from_head (x ∷ xs) y e = let f : x ≡ y = some_same x y e in (xs, ap (λ z. z ∷ xs) f)
  where
    some_same : (a b : ℕ) → Some a ≡ Some b → a ≡ b
    some_same a b e = cc

pub nil_from_head : (xs : List ℕ) → head xs ≡ None → xs ≡ []
nil_from_head [] e = refl
nil_from_head (x ∷ xs) e = cc

-- a list without cells that is put to the end of another
pub nothing_spliced : (lists : List (List ℕ)) (l o : ℕ) → list_at lists o ≡ [] → set (set lists l (list_at lists l ++ list_at lists o)) o [] ≡ lists
nothing_spliced lists l o e =
    let f : list_at lists l ++ list_at lists o ≡ list_at lists l = ap (λ vs. list_at lists l ++ vs) e ∙ append-nil (list_at lists l) in
    let g : set lists l (list_at lists l ++ list_at lists o) ≡ lists = ap (set lists l) f ∙ set-get_or lists l [] in
    ap (λ ls. set ls o []) g ∙ ap (set lists o) (sym e) ∙ set-get_or lists o []

-- a pool with a cell in no list has a spare one
pub spared : (cells : List Cell) (ends : List Ends) (spare : ℕ) (lists : List (List ℕ)) → IsPool cells ends spare lists → (c : ℕ) → c < length cells → count_in lists c ≡ 0 → 0 < spare
spared cells ends spare lists pool c within none =
    let least = get_or-le-sum_by (λ (b : Bool). cond (not b) 1 0) (flags cells) c false (rw (length-map cells (λ k. k.held)) within) in
    go (get_or (flags cells) c false) (sym (pool.held c) ∙ none) least
  where
    go : (b : Bool) → cond_of b ≡ 0 → cond_of (not b) ≤ count_by not (flags cells) → 0 < spare
    go true e h = absurd (omega arith)
    go false e h = omega (arith, pool.free)
