-- What is so of the graph that was built is so of what it was built of.
use Rattle.std.proofs.Common.{List, ℕ, Result, Ok, Err, IfOk, OnOk, ◌≡◌, inl, sym, subst}
use Rattle.std.proofs.lemmas.List.Elements.{All-weaker}
use Rattle.gk_base.specs.declared.stop.Stop.{Stop}
use Rattle.gk_base.specs.declared.stop.Stop.TheVariants.{NoMemory, Fault}
use Rattle.chase_laws.specs.Shape.{Shape}
use Rattle.chase_laws.specs.Graph.{NumberedGraph}
use Rattle.chase_laws.specs.Candidate.{IsCandidate}
use Rattle.chase_laws.specs.SameRows.{HasRowsOf}
use Rattle.pair_seed.specs.Pairs.{HasMoreCandidates}
use Rattle.pair_seed.specs.Stop.{IsRightStop}
use Rattle.pair_seed.specs.declared.stop.TooManyPairs.{TooManyPairs}
use Rattle.match_run.specs.Parts.{HasPartsOf}
use Rattle.match_run.specs.declared.preparing.Prepared.{Prepared}

-- what is said of a graph is said of that of the setup, which is the same
pub of_setup : (G : NumberedGraph) (P : NumberedGraph → Prepared → Type 0) (answer : Result Prepared (Stop TooManyPairs)) →
    IfOk answer (λ p. p.setup.task.graph ≡ G) → IfOk answer (P G) → IfOk answer (λ p. P p.setup.task.graph p)
of_setup G P (Ok p) is h = subst (λ (F : NumberedGraph). P F p) (sym is) h
of_setup G P (Err e) is h = tt

-- what the law of more rows says of candidates
abbrev pub CandidateLaw : Type 0
CandidateLaw = (G F : NumberedGraph) (K : List Shape) → HasRowsOf K G F → (a b : ℕ) → IsCandidate G K a b → IsCandidate F K a b

-- more candidates in one graph are more in another that has its rows
pub more_too : CandidateLaw → (G F : NumberedGraph) (K : List Shape) (limit : ℕ) → HasRowsOf K G F → HasMoreCandidates G K limit → HasMoreCandidates F K limit
more_too law G F K limit has h = record {
  pairs = h.pairs;
  ascending = h.ascending;
  candidates = All-weaker (λ x. IsCandidate G K x.0 x.1) (λ x. IsCandidate F K x.0 x.1) (λ x c. law G F K has x.0 x.1 c) h.pairs h.candidates;
  more = h.more;
}

module _ (law : CandidateLaw) (G P : NumberedGraph) (K : List Shape) (limit : ℕ) (has : HasPartsOf G P) where
  there : HasRowsOf K G P
  there = record { rows = λ row h. (has.rows row).0 h; literal = has.literal; rdf_type = has.rdf_type; alike = inl has.alike }

  back : HasRowsOf K P G
  back = record { rows = λ row h. (has.rows row).1 h; literal = sym has.literal; rdf_type = sym has.rdf_type; alike = inl (sym has.alike) }

  pub fewer_too : (answer : Result Prepared (Stop TooManyPairs)) → OnOk answer (¬ (HasMoreCandidates G K limit)) → OnOk answer (¬ (HasMoreCandidates P K limit))
  fewer_too (Ok p) none = λ h. none (more_too law P G K limit back h)
  fewer_too (Err e) none = tt

  pub stop_too : (stop : Stop TooManyPairs) → IsRightStop G K limit stop → IsRightStop P K limit stop
  stop_too NoMemory h = tt
  stop_too (Fault many) h = (h.0, more_too law G P K limit there h.1)
