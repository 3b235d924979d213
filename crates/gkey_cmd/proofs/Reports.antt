-- The report of the graph that was built is that of the triples.
use Rattle.std.proofs.Common.{List, ℕ, Bool, IsTrue, ◌↔◌, length, slice_index, ◌==◌, ◌≡◌, ◌∙◌, ◌<◌, refl, sym, ap, subst, arith, eqb-true, eq-eqb}
use Rattle.std.proofs.lemmas.List.{length-map}
use Rattle.gk_base.specs.Term.{is_literal}
use Rattle.gk_base.specs.declared.term.Term.{Term}
use Rattle.gk_base.specs.declared.term.Triple.{Triple}
use Rattle.chase_laws.specs.Graph.{NumberedGraph}
use Rattle.chase_laws.specs.Shape.{Shape}
use Rattle.chase_laws.specs.Chase.{AreSame}
use Rattle.chase_laws.specs.SameRows.{HasRowsOf}
use Rattle.chase_laws.specs.Report.{report_text}
use Rattle.term_text.specs.CanonicalText.{texts_of}
use Rattle.pair_seed.specs.Pairs.{HasMoreCandidates}
use Rattle.pair_seed.specs.Stop.{IsRightStop}
use Rattle.gk_base.specs.declared.stop.Stop.{Stop}
use Rattle.gk_base.specs.declared.stop.Stop.TheVariants.{NoMemory, Fault}
use Rattle.pair_seed.specs.declared.stop.TooManyPairs.{TooManyPairs}
use Rattle.match_run.specs.Classes.{AreClasses}
use Rattle.match_run.proofs.CallerLemmas.{CandidateLaw, more_too}
use Rattle.key_file.specs.KeyShape.{KeyShape}
use Rattle.key_file.specs.Compile.{patterns_of}
use Rattle.key_file.specs.Numbered.{names_for, graph_of}
use Rattle.graph_rows.specs.Numbered.{AreSameGraph}
use Rattle.chase_ways.specs.Ground.{GroundShape}
use Rattle.gkey_cmd.specs.Match.{IsReport, HasTooManyPairs}
use Rattle.gkey_cmd.specs.Told.{AreOfFiles}
use Rattle.gkey_cmd.specs.ChaseEnds.{chase_ending, IsStopped, IsChaseEnding}
use Rattle.gkey_cmd.specs.declared.ending.Ending.{Ending}

-- what the law of more rows says of the same names
abbrev pub SameLaw : Type 0
SameLaw = (G F : NumberedGraph) (K : List Shape) → HasRowsOf K G F → HasRowsOf K F G → (a b : ℕ) → AreSame G K a b ↔ AreSame F K a b

module _ (triples : List Triple) (keys : List KeyShape) (G : NumberedGraph) (names : List Term) (K : List Shape) (are_names : names ≡ names_for triples keys) (built : AreSameGraph K G (graph_of names triples)) (are_patterns : K ≡ patterns_of names keys) where
  pub has_names : length G.literal ≡ length names
  has_names = ap length built.there.literal ∙ length-map names is_literal

  -- what is said of the built graph and the patterns, said of the triples and the keys
  pub said : (P : NumberedGraph → List Shape → List Term → Type 0) → P (graph_of names triples) K names →
      P (graph_of (names_for triples keys) triples) (patterns_of (names_for triples keys) keys) (names_for triples keys)
  said P h = subst (λ ns. P (graph_of ns triples) (patterns_of ns keys) ns) are_names (subst (λ k. P (graph_of names triples) k names) are_patterns h)

  pub same_of : SameLaw → (labels : List ℕ) → AreClasses G K labels → (a b : ℕ) → a < length names → b < length names →
      IsTrue (slice_index labels a == slice_index labels b) ↔ AreSame (graph_of names triples) K a b
  same_of law labels c a b la lb =
      let n = c.count ∙ has_names in
      let s = c.same a b (omega arith) (omega arith) in
      let both = law G (graph_of names triples) K built.there built.back a b in (
        (λ t. both.0 (s.0 (eqb-true (slice_index labels a) (slice_index labels b) t))),
        (λ k. eq-eqb (slice_index labels a) (slice_index labels b) (s.1 (both.1 k))),
      )

  pub report_is : SameLaw → (labels text : List ℕ) → AreClasses G K labels → text ≡ report_text (texts_of names) (λ a b. slice_index labels a == slice_index labels b) → IsReport triples keys text
  report_is law labels text c e = said (λ F Q ns. (same : ℕ → ℕ → Bool) × ((a b : ℕ) → a < length ns → b < length ns → IsTrue (same a b) ↔ AreSame F Q a b) × (text ≡ report_text (texts_of ns) same))
      ((λ a b. slice_index labels a == slice_index labels b), same_of law labels c, e)

  pub too_many : CandidateLaw → (limit : ℕ) → HasMoreCandidates G K limit → HasTooManyPairs triples keys limit
  too_many law limit h = said (λ F Q ns. HasMoreCandidates F Q limit) (more_too law G (graph_of names triples) K limit built.there h)

  pub not_too_many : CandidateLaw → (limit : ℕ) → ¬ (HasMoreCandidates G K limit) → ¬ (HasTooManyPairs triples keys limit)
  not_too_many law limit none_more h = none_more (more_too law (graph_of names triples) G K limit built.back
      (subst (λ k. HasMoreCandidates (graph_of names triples) k limit) (sym are_patterns) (subst (λ ns. HasMoreCandidates (graph_of ns triples) (patterns_of ns keys) limit) (sym are_names) h)))

  -- a chase that is stopped over the numbers is so over the triples
  pub right_ending : CandidateLaw → (limit : ℕ) (ending : Ending) → IsStopped G K limit ending → IsChaseEnding triples keys limit ending
  right_ending law limit ending s = subst (IsChaseEnding triples keys limit) (sym s.2) (of_stop s.0 s.1)
    where
      of_stop : (stop : Stop TooManyPairs) → IsRightStop G K limit stop → IsChaseEnding triples keys limit (chase_ending limit stop)
      of_stop NoMemory h = tt
      of_stop (Fault many) h = (refl, too_many law limit h.1)

-- what was numbered is what was chased
pub of_numbered : (triples : List Triple) (keys : List KeyShape) (names chased_names : List Term) (G : NumberedGraph) (K : List Shape) (ground : GroundShape) →
    names ≡ names_for triples keys → AreSameGraph K G (graph_of names triples) → K ≡ patterns_of names keys →
    chased_names ≡ names → ground.graph ≡ G → ground.patterns ≡ K → AreOfFiles chased_names ground triples keys
of_numbered triples keys names chased_names G K ground are_names built are_patterns same_names same_graph same_patterns = record {
  names = same_names ∙ are_names;
  graph = subst (λ ns. AreSameGraph ground.patterns ground.graph (graph_of ns triples)) (sym same_names)
      (subst (λ k. AreSameGraph k ground.graph (graph_of names triples)) (sym same_patterns) (subst (λ F. AreSameGraph K F (graph_of names triples)) (sym same_graph) built));
  patterns = same_patterns ∙ are_patterns ∙ ap (λ ns. patterns_of ns keys) (sym same_names);
}
