-- The labels of a view to which names are shown one by one.
use Rattle.std.proofs.Common.{List, [], ◌∷◌, ◌++◌, ℕ, Some, slice_index, ◌≡◌, inl, inr, sym, ◌∙◌, ap}
use Rattle.chase_laws.specs.View.{label_in}
use Rattle.paired_search.proofs.CallerLemmas.{label_push}

-- each label is the present one
abbrev pub ArePresent : List ℕ → List (ℕ × ℕ) → Type 0
ArePresent labels view = (n l : ℕ) → label_in view n ≡ Some l → l ≡ slice_index labels n

pub present_more : (labels : List ℕ) (view : List (ℕ × ℕ)) (n l : ℕ) → l ≡ slice_index labels n → ArePresent labels view → ArePresent labels (view ++ (n, l) ∷ [])
present_more labels view n l is present m k h = elim (label_push view n l m k h) [
  | inl e ↦ present m k e
  | inr e ↦ sym e.1 ∙ is ∙ ap (slice_index labels) e.0
]
