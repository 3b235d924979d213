-- What entries change (this project's own).
use Rattle.std.specs.Prelude.{List, ◌++◌, ℕ, Contains, length, drop, slice_index, ◌≡◌, ◌<◌, ◌≤◌, ◌⊎◌}
use Rattle.chase_laws.specs.declared.entry.Entry.{Entry}
use Rattle.chase_laws.specs.Signature.{IsCoarser}
use Rattle.class_book.specs.Classes.{Classes}
use Rattle.valuation_groups.specs.Groups.{GroupShape, group_at, row_in}
use Rattle.signature_chase.specs.Setting.{HasRowAt}

-- Some entries more, and groups that wait since then: no label that was equal to another differs from it now, and the images
-- of each group that does not wait have the labels that they had. Where another group waits, something was entered.
pub record Advances (groups : List GroupShape) (old new : Classes) (waiting waiting' : List ℕ) : Type 0 where
  pub count : length new.labels ≡ length old.labels
  pub coarser : IsCoarser old.labels new.labels
  pub kept : (g : ℕ) → Contains waiting g → Contains waiting' g
  pub unmoved : (g i m : ℕ) → HasRowAt groups g i → ¬ (Contains waiting' g) → Contains (drop 1 (row_in (group_at groups g) i)) m →
      slice_index new.labels m ≡ slice_index old.labels m
  pub begins : (more : List Entry) × (new.journal ≡ old.journal ++ more)
  pub gain : (waiting' ≡ waiting) ⊎ (length old.journal < length new.journal)
