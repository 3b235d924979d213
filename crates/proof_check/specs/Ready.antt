-- What a checker has made before it looks at a proof, and the verdict by its numbers (this project's own).
use Rattle.std.specs.Prelude.{List, [], ◌∷◌, ◌++◌, ℕ, ◌+◌, ◌<◌, true, slice_index, Option, Some, None, map, length, slice_get, ◌≡◌}
use Rattle.gk_base.specs.declared.term.Term.{Term}
use Rattle.gk_base.specs.declared.term.Triple.{Triple}
use Rattle.chase_laws.specs.Shape.{Shape}
use Rattle.term_table.specs.Numbering.{is_named, with_terms}
use Rattle.key_file.specs.declared.slot.KeySlot.{KeySlot}
use Rattle.key_file.specs.declared.edge.KeyEdge.{KeyEdge}
use Rattle.key_file.specs.KeyShape.{KeyShape}
use Rattle.key_file.specs.Compile.{slot_terms, patterns_of}
use Rattle.proof_file.specs.Steps.{StepNumbers, term_at}
use Rattle.proof_check.specs.NumberVerdict.{IsLookup, number_reason}
use Rattle.proof_check.specs.Verdict.{key_place, rejected_or}
use Rattle.proof_check.specs.declared.verdict.Verdict.{Verdict}
use Rattle.proof_check.specs.declared.verdict.Verdict.TheVariants.{Accepted}
use Rattle.proof_check.specs.declared.reason.Reason.{Reason}
use Rattle.proof_check.specs.declared.reason.Reason.TheVariants.{UnknownKey}
use Rattle.proof_check.specs.declared.checker.Checker.{Checker}
use Rattle.proof_check.specs.declared.sides.Sides.{Sides}

-- the terms of each key are names
pub record AreKeyNames (names : List Term) (keys : List KeyShape) : Type 0 where
  pub slots : (k s j : ℕ) (key : KeyShape) (slot : KeySlot) (u : Term) → slice_get keys k ≡ Some key → slice_get key.slots s ≡ Some slot → slice_get (slot_terms slot) j ≡ Some u → is_named names u ≡ true
  pub preds : (k i : ℕ) (key : KeyShape) (e : KeyEdge) → slice_get keys k ≡ Some key → slice_get key.edges i ≡ Some e → is_named names e.pred ≡ true

-- A checker is made of these triples and keys: what it looks up says what the triples say, the terms of each key are names, and
-- the patterns are those of the keys.
pub record IsMadeOf (checker : Checker) (triples : List Triple) (keys : List KeyShape) : Type 0 where
  pub look : IsLookup triples checker.names checker.rows checker.known.items checker.kind
  pub named : AreKeyNames checker.names keys
  pub compiled : checker.patterns.items ≡ patterns_of checker.names keys

-- ready for proofs over these triples with these keys: it is made of them, and stays so whatever terms a proof adds to its names
abbrev pub IsReady : Checker → List Triple → List KeyShape → Type 0
IsReady checker triples keys = (terms : List Term) → IsMadeOf (record checker { names = with_terms checker.names terms }) triples keys

-- a step by other numbers: that of each term stands at its place
abbrev pub renumbered : List ℕ → StepNumbers → StepNumbers
renumbered numbers step = record step { left = map (slice_index numbers) step.left; right = map (slice_index numbers) step.right }

-- a step with these numbers on its sides
abbrev pub with_sides : StepNumbers → Sides → StepNumbers
with_sides step sides = record step { left = sides.left.items; right = sides.right.items }

-- the two terms of two numbers
abbrev pub both_terms : List Term → ℕ × ℕ → Term × Term
both_terms names p = (term_at names p.0, term_at names p.1)

-- links between numbers that are below this one
abbrev pub AreNumberedLinks : ℕ → List (ℕ × ℕ) → Type 0
AreNumberedLinks count ends = (k : ℕ) (p : ℕ × ℕ) → slice_get ends k ≡ Some p → (p.0 < count) × (p.1 < count)

-- the least reason against a step whose key has this pattern, or is unknown
abbrev pub reason_by : Checker → List (ℕ × ℕ) → StepNumbers → Option Shape → Option Reason
reason_by checker ends step None = Some UnknownKey
reason_by checker ends step (Some pattern) = number_reason checker.rows checker.known.items checker.names checker.kind ends step pattern

-- the least reason against a step, whose key is found by its name
abbrev pub reason_with : Checker → List KeyShape → List (ℕ × ℕ) → StepNumbers → Option Reason
reason_with checker keys ends step = reason_by checker ends step (slice_get checker.patterns.items (key_place keys step.key))

-- the first number on either side of a step
abbrev pub number_ends : StepNumbers → ℕ × ℕ
number_ends step = (slice_index step.left 0, slice_index step.right 0)

-- the verdict on steps over numbers, where the earlier ones have these ends
abbrev pub verdict_with : Checker → List KeyShape → List (ℕ × ℕ) → List StepNumbers → Verdict
verdict_with checker keys ends [] = Accepted (length ends)
verdict_with checker keys ends (step ∷ steps) =
    rejected_or (reason_with checker keys ends step) (length ends + 1) (verdict_with checker keys (ends ++ number_ends step ∷ []) steps)
