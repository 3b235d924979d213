use Rattle.std.proofs.Common.{ℕ, ◌<◌, get_or}
use Rattle.chase_laws.specs.Valuation.{FitsSlot, AgreeAt}
use Rattle.paired_search.proofs.choices.agreeing.Given as goal

abbrev pub invariant-loop-place : goal.invariant-loop-place
invariant-loop-place g l = (k : ℕ) → k < l.place → FitsSlot l.graph l.slot l.m → FitsSlot l.graph l.slot (get_or l.names k 0) → AgreeAt l.graph (g.S.Sameness.are_same l.view) l.s l.slot l.m (get_or l.names k 0) → ⊥
