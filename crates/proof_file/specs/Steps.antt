-- Steps of a proof as contracts see them: with their terms (this project's own).
use Rattle.std.specs.Prelude.{List, [], ◌++◌, ℕ, ◌<◌, ◌≡◌, ◌≢◌, All, AllPairs, map, length, slice_index_or, flat_map}
use Rattle.gk_base.specs.declared.term.Term.{Term}
use Rattle.gk_base.specs.declared.term.Term.TheVariants.{Plain}
use Rattle.term_table.specs.Numbering.{names_of, place_of}

-- what joins the two terms at a slot: the numbers of earlier steps, from 1
pub record SupportShape : Type 0 where
  pub slot : ℕ
  pub steps : List ℕ

-- a step: the name of its key, the terms at the key's slots on either side, and a support for each entity variable but
-- the first
pub record StepShape : Type 0 where
  pub key : List ℕ
  pub left : List Term
  pub right : List Term
  pub supports : List SupportShape

-- the term at a slot; where there is none, the empty literal
abbrev pub term_at : List Term → ℕ → Term
term_at terms slot = slice_index_or terms slot (Plain [])

-- the two terms that a step makes the same
abbrev pub step_ends : StepShape → Term × Term
step_ends step = (term_at step.left 0, term_at step.right 0)

-- the terms of a step: the left ones, then the right ones
abbrev pub step_terms : StepShape → List Term
step_terms step = step.left ++ step.right

-- the terms of steps, step by step
abbrev pub steps_terms : List StepShape → List Term
steps_terms steps = flat_map step_terms steps

-- a step with numbers in place of its terms
pub record StepNumbers : Type 0 where
  pub key : List ℕ
  pub left : List ℕ
  pub right : List ℕ
  pub supports : List SupportShape

-- the step with the terms that have these numbers
abbrev pub step_with : List Term → StepNumbers → StepShape
step_with terms step = record { key = step.key; left = map (term_at terms) step.left; right = map (term_at terms) step.right; supports = step.supports }

-- a step with the places of its terms among these
abbrev pub in_numbers : List Term → StepShape → StepNumbers
in_numbers terms step = record { key = step.key; left = map (place_of terms) step.left; right = map (place_of terms) step.right; supports = step.supports }

-- the numbers of a step are below this one
abbrev pub IsNumberedBelow : ℕ → StepNumbers → Type 0
IsNumberedBelow count step = All (λ n. n < count) step.left × All (λ n. n < count) step.right

-- what a proof keeps: its terms are the distinct terms of its steps by first occurrence, and the numbers of the steps are
-- places among them
pub record IsProof (terms : List Term) (steps : List StepNumbers) : Type 0 where
  pub named : terms ≡ names_of (steps_terms (map (step_with terms) steps))
  pub inside : All (IsNumberedBelow (length terms)) steps

-- no number stands twice
abbrev pub NoneTwice : List ℕ → Type 0
NoneTwice numbers = AllPairs (λ m n. m ≢ n) numbers

-- nor does one in any support
abbrev pub NoneTwiceInSupports : List StepShape → Type 0
NoneTwiceInSupports steps = All (λ step. All (λ (support : SupportShape). NoneTwice support.steps) step.supports) steps
