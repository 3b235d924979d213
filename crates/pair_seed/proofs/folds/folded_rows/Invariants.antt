use Rattle.std.proofs.Common.{ℕ, [], ◌∷◌, ◌↔◌, ◌<◌, All, Contains, take, length, slice_index}
use Rattle.pair_seed.proofs.Keys.{HasAlikeAmong}
use Rattle.pair_seed.proofs.folds.folded_rows.Given as goal

abbrev pub invariant-loop-row : goal.invariant-loop-row
invariant-loop-row l = record {
  rows : (c p n : ℕ) → Contains l.out.items (c ∷ p ∷ n ∷ []) ↔ HasAlikeAmong l.graph (take l.row-index l.row-items) n p c;
  named : All (λ row. slice_index row 0 < length l.graph.literal) l.out.items;
}
