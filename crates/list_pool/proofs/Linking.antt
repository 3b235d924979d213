-- What the two writes of a link change.
use Rattle.std.proofs.Common.{List, ℕ, false, Option, Some, None, length, ◌≡◌, ◌<◌, inl, inr, refl, ap, ◌∙◌}
use Rattle.std.proofs.lemmas.List.{get_or-set_same, get_or-set_other, length-set}
use Rattle.std.specs.Option.{ForSome}
use Rattle.list_pool.specs.declared.cell.Cell.{Cell}
use Rattle.list_pool.specs.declared.cell.Ends.{Ends}
use Rattle.list_pool.specs.Linked.{cell_at, ends_at, next_in, prev_in, flags}
use Rattle.list_pool.specs.Links.{Links, Misses, cells_after, lists_after, cells_before, lists_before}
use Rattle.list_pool.proofs.Fields.{field_kept, fields_kept}

abbrev no_cell : Cell
no_cell = record { held = false; before = None; after = None }

abbrev no_ends : Ends
no_ends = record { first = None; last = None }

module _ (cells : List Cell) (ends : List Ends) (list : ℕ) where
  next_hit : (left right : Option ℕ) → list < length ends → ForSome left (λ c. c < length cells) →
      next_in (cells_after cells left right) (lists_after ends list left right) list left ≡ right
  next_hit None right h k = ap (λ e. e.first) (get_or-set_same ends list _ no_ends h)
  next_hit (Some c) right h k = ap (λ e. e.after) (get_or-set_same cells c _ no_cell (k c refl))

  prev_hit : (left right : Option ℕ) → list < length ends → ForSome right (λ c. c < length cells) →
      prev_in (cells_before cells left right) (lists_before ends list left right) list right ≡ left
  prev_hit left None h k = ap (λ e. e.last) (get_or-set_same ends list _ no_ends h)
  prev_hit left (Some c) h k = ap (λ e. e.before) (get_or-set_same cells c _ no_cell (k c refl))

  next_miss : (left right : Option ℕ) (m : ℕ) (w : Option ℕ) → Misses list left m w →
      next_in (cells_after cells left right) (lists_after ends list left right) m w ≡ next_in cells ends m w
  next_miss None right m None (inl h) = absurd (h refl)
  next_miss None right m None (inr h) = ap (λ e. e.first) (get_or-set_other ends list m _ no_ends h.0)
  next_miss None right m (Some x) h = refl
  next_miss (Some c) right m None h = refl
  next_miss (Some c) right m (Some x) (inl h) = ap (λ e. e.after) (get_or-set_other cells c x _ no_cell (λ e. h (ap Some e)))
  next_miss (Some c) right m (Some x) (inr h) = let e = h.1 in cc

  prev_miss : (left right : Option ℕ) (m : ℕ) (w : Option ℕ) → Misses list right m w →
      prev_in (cells_before cells left right) (lists_before ends list left right) m w ≡ prev_in cells ends m w
  prev_miss left None m None (inl h) = absurd (h refl)
  prev_miss left None m None (inr h) = ap (λ e. e.last) (get_or-set_other ends list m _ no_ends h.0)
  prev_miss left None m (Some x) h = refl
  prev_miss left (Some c) m None h = refl
  prev_miss left (Some c) m (Some x) (inl h) = ap (λ e. e.before) (get_or-set_other cells c x _ no_cell (λ e. h (ap Some e)))
  prev_miss left (Some c) m (Some x) (inr h) = let e = h.1 in cc

  prev_same : (left right : Option ℕ) (m : ℕ) (w : Option ℕ) →
      prev_in (cells_after cells left right) (lists_after ends list left right) m w ≡ prev_in cells ends m w
  prev_same None right m None = field_kept (λ e. e.last) ends list (record (ends_at ends list) { first = right }) no_ends m refl
  prev_same None right m (Some x) = refl
  prev_same (Some c) right m None = refl
  prev_same (Some c) right m (Some x) = field_kept (λ e. e.before) cells c (record (cell_at cells c) { after = right }) no_cell x refl

  next_same : (left right : Option ℕ) (m : ℕ) (w : Option ℕ) →
      next_in (cells_before cells left right) (lists_before ends list left right) m w ≡ next_in cells ends m w
  next_same left None m None = field_kept (λ e. e.first) ends list (record (ends_at ends list) { last = left }) no_ends m refl
  next_same left None m (Some x) = refl
  next_same left (Some c) m None = refl
  next_same left (Some c) m (Some x) = field_kept (λ e. e.after) cells c (record (cell_at cells c) { before = left }) no_cell x refl

  flags_after : (left right : Option ℕ) → flags (cells_after cells left right) ≡ flags cells
  flags_after None right = refl
  flags_after (Some c) right = fields_kept (λ e. e.held) cells c (record (cell_at cells c) { after = right }) no_cell refl

  flags_before : (left right : Option ℕ) → flags (cells_before cells left right) ≡ flags cells
  flags_before left None = refl
  flags_before left (Some c) = fields_kept (λ e. e.held) cells c (record (cell_at cells c) { before = left }) no_cell refl

  count_after : (left right : Option ℕ) → length (lists_after ends list left right) ≡ length ends
  count_after None right = length-set ends list _
  count_after (Some c) right = refl

  count_before : (left right : Option ℕ) → length (lists_before ends list left right) ≡ length ends
  count_before left None = length-set ends list _
  count_before left (Some c) = refl

  cells_count : (left right : Option ℕ) → length (cells_after cells left right) ≡ length cells
  cells_count None right = refl
  cells_count (Some c) right = length-set cells c _

pub link_made : (cells : List Cell) (ends : List Ends) (cells' : List Cell) (ends' : List Ends) (list : ℕ) (left right : Option ℕ) → list < length ends →
    ForSome left (λ c. c < length cells) → ForSome right (λ c. c < length cells) →
    cells' ≡ cells_after cells left right → ends' ≡ lists_after ends list left right →
    Links cells ends (cells_before cells' left right) (lists_before ends' list left right) list left right
link_made cells ends cells' ends' list left right h i j e f =
    let next0 = next_hit cells ends list left right h i in
    let n : list < length ends' = rw (f, count_after cells ends list left right) h in
    let k : ForSome right (λ c. c < length cells') = rw (e, cells_count cells ends list left right) j in
    record {
      next = next_same cells' ends' list left right list left ∙ rw (e, f) next0;
      prev = prev_hit cells' ends' list left right n k;
      next_other = λ m w g. next_same cells' ends' list left right m w ∙ rw (e, f) (next_miss cells ends list left right m w g);
      prev_other = λ m w g. prev_miss cells' ends' list left right m w g ∙ rw (e, f) (prev_same cells ends list left right m w);
      flags = flags_before cells' ends' list left right ∙ rw e (flags_after cells ends list left right);
      lists = count_before cells' ends' list left right ∙ rw f (count_after cells ends list left right);
    }
