use Rattle.std.proofs.Common.{List, ℕ, ◌≡◌, ◌-◌, Contains, length, take, get_or}
use Rattle.paired_search.specs.Part.{AreCompletedBy}
use Rattle.paired_search.proofs.extend.+extend.Given as goal

abbrev pub decreases-extend : goal.decreases-extend
decreases-extend g l = length l.plan.now.shape.slots - length l.left.now

abbrev pub invariant-loop-m : goal.invariant-loop-m
invariant-loop-m g l = record {
  none : (v w : List ℕ) → AreCompletedBy l.graph l.plan.shape (g.S.Sameness.are_same l.view) l.fn.left l.fn.right v w → Contains (take l.m-index l.tried) (get_or v l.s 0) → ⊥;
  left : l.left ≡ l.fn.left;
  right : l.right ≡ l.fn.right;
}

abbrev pub invariant-loop-n : goal.invariant-loop-n
invariant-loop-n g l = record {
  none : (v w : List ℕ) → AreCompletedBy l.graph l.plan.shape (g.S.Sameness.are_same l.view) l.fn.left l.fn.right v w → get_or v l.s 0 ≡ l.m → Contains (take l.n-index l.beside) (get_or w l.s 0) → ⊥;
  left : l.left ≡ l.fn.left;
  right : l.right ≡ l.fn.right;
}
