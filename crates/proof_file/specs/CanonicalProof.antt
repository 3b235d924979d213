-- The canonical text of a proof, in version 2, one among those that say it: each term once, in order of first occurrence; single
-- spaces, canonical terms and line feeds. And the proofs whose text can be read again (this project's own).
use Rattle.std.specs.Prelude.{List, [], ◌∷◌, ◌++◌, ℕ, ◌+◌, ◌^◌, ◌<◌, true, All, map, length, codes, ◌≡◌}
use Rattle.std.specs.List.{flat_map}
use Rattle.std.specs.Fmt.{decimal}
use Rattle.gk_base.specs.declared.term.Term.{Term}
use Rattle.term_table.specs.Numbering.{names_of}
use Rattle.term_text.specs.CanonicalText.{term_text}
use Rattle.term_text.specs.ReadBack.{CanBeSpelled}
use Rattle.key_file.specs.Name.{is_name}
use Rattle.proof_file.specs.Steps.{SupportShape, StepShape, StepNumbers, step_terms, steps_terms, in_numbers}

-- numbers, each with a space before it
abbrev pub numbers_text : List ℕ → List ℕ
numbers_text numbers = flat_map (λ n. 0x20 ∷ decimal n) numbers

-- the line of a support
abbrev pub support_text : SupportShape → List ℕ
support_text support = codes "by" ++ (numbers_text (support.slot ∷ support.steps) ++ 0x0A ∷ [])

-- the line of a side: this word, and the terms with these places by their numbers, which begin at 1
abbrev pub side_text : List ℕ → List ℕ → List ℕ
side_text word places = word ++ (numbers_text (map (λ p. p + 1) places) ++ 0x0A ∷ [])

-- the line that begins a step by the key of this name
abbrev pub key_line : List ℕ → List ℕ
key_line name = codes "step " ++ (name ++ 0x0A ∷ [])

-- the lines of a step whose terms are places
abbrev pub step_text : StepNumbers → List ℕ
step_text step =
    key_line step.key ++ (side_text (codes "left") step.left ++ (side_text (codes "right") step.right
    ++ (flat_map support_text step.supports ++ codes "done\n")))

-- the line of a listed term
abbrev pub listed_text : Term → List ℕ
listed_text term = term_text term ++ 0x0A ∷ []

-- a word, a number and a line end
abbrev pub count_text : List ℕ → ℕ → List ℕ
count_text word count = word ++ (0x20 ∷ (decimal count ++ 0x0A ∷ []))

-- the lines of a proof with these terms and these steps, whose terms are places
abbrev pub numbered_text : List Term → List StepNumbers → List ℕ
numbered_text terms steps =
    codes "gkey-proof 2\n" ++ (count_text (codes "terms") (length terms) ++ (flat_map listed_text terms
    ++ (flat_map step_text steps ++ count_text (codes "end") (length steps))))

-- the text of a proof
abbrev pub proof_text : List StepShape → List ℕ
proof_text steps = let terms = names_of (steps_terms steps) in numbered_text terms (map (in_numbers terms) steps)

-- a support whose slot and numbers have the form that a line of a proof file has
abbrev pub HasSupportForm : SupportShape → Type 0
HasSupportForm support = (support.slot < 16) × All (λ n. (0 < n) × (n < 2 ^ 32)) support.steps

-- a step whose parts have the form that lines of a proof file have: a name, at least one term on either side, terms that can
-- be spelled, and supports
pub record HasStepForm (step : StepShape) : Type 0 where
  pub key : is_name step.key ≡ true
  pub left_some : 0 < length step.left
  pub right_some : 0 < length step.right
  pub spelled : All CanBeSpelled (step_terms step)
  pub supports : All HasSupportForm step.supports

-- a proof whose text is read as the same proof: its parts have the form of lines, and its distinct terms and its steps are as
-- few as have numbers of four bytes
pub record CanBeRead (steps : List StepShape) : Type 0 where
  pub each : All HasStepForm steps
  pub few_terms : length (names_of (steps_terms steps)) < 2 ^ 32
  pub few_steps : length steps < 2 ^ 32
