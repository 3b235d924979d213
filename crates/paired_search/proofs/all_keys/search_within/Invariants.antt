use Rattle.std.proofs.Common.{List, [], ℕ, Some, ◌≡◌, ◌<◌, slice_get}
use Rattle.chase_laws.specs.Graph.{HasType}
use Rattle.chase_laws.specs.Shape.{Shape}
use Rattle.chase_laws.specs.Valuation.{IsMatch}
use Rattle.paired_search.specs.KeyRange.{IsWithin}
use Rattle.paired_search.proofs.all_keys.search_within.Given as goal

abbrev pub invariant-loop-key : goal.invariant-loop-key
invariant-loop-key g l = record {
  none : (k : ℕ) (Q : Shape) (v w : List ℕ) → k < l.key → IsWithin l.fn.range k → slice_get l.patterns k ≡ Some Q → IsMatch l.graph Q (g.S.Sameness.are_same l.view) l.a l.b v w → ⊥;
  missing : (t : ℕ) → l.missing ≡ Some t → ¬ (HasType l.graph l.a t × HasType l.graph l.b t);
  empty_left : l.left ≡ [];
  empty_right : l.right ≡ [];
}
