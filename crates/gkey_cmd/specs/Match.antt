-- What `match` prints, from the triples of the graph and the keys.
use Rattle.std.specs.Prelude.{List, ℕ, Bool, IsTrue, length, ◌≡◌, ◌<◌, ◌↔◌}
use Rattle.gk_base.specs.declared.term.Triple.{Triple}
use Rattle.chase_laws.specs.Chase.{AreSame}
use Rattle.chase_laws.specs.Report.{report_text}
use Rattle.term_text.specs.CanonicalText.{texts_of}
use Rattle.pair_seed.specs.Pairs.{HasMoreCandidates}
use Rattle.key_file.specs.KeyShape.{KeyShape}
use Rattle.key_file.specs.Compile.{patterns_of}
use Rattle.key_file.specs.Numbered.{names_for, graph_of}

-- The report of the chase: a test tells of each two names whether they are the same, and the text prints its classes.
abbrev pub IsReport : List Triple → List KeyShape → List ℕ → Type 0
IsReport triples keys text =
    let names = names_for triples keys in
    (same : ℕ → ℕ → Bool)
    × ((a b : ℕ) → a < length names → b < length names → IsTrue (same a b) ↔ AreSame (graph_of names triples) (patterns_of names keys) a b)
    × (text ≡ report_text (texts_of names) same)

-- there are more candidate pairs than the limit
abbrev pub HasTooManyPairs : List Triple → List KeyShape → ℕ → Type 0
HasTooManyPairs triples keys limit =
    let names = names_for triples keys in HasMoreCandidates (graph_of names triples) (patterns_of names keys) limit
