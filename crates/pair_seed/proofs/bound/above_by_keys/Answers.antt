use Rattle.std.proofs.Common.{ℕ, Some, slice_get, ◌≡◌, ◌<◌, ap, sym, ◌∙◌, arith}
use Rattle.std.proofs.lemmas.Option.{slice_get-get_or, slice_get_within}
use Rattle.chase_laws.specs.Shape.{Shape}
use Rattle.chase_laws.specs.Candidate.{IsCandidate, IsCandidateUnder}
use Rattle.pair_seed.proofs.Bounding.{key_more, other_at_most}
use Rattle.pair_seed.proofs.bound.above_by_keys.Goals as goal

pub above_by_key-requires-clause-folds : goal.above_by_key-requires-clause-folds
above_by_key-requires-clause-folds c =
    let K = c.args.patterns.now in
    let i = c.loop-pattern.pattern-index in
    let Q = c.pattern-item.result in
    let here : slice_get K i ≡ Some Q = slice_get-get_or K i Q c.loop-pattern-test.true ∙ ap (λ (R : Shape). Some R) (sym c.pattern-item.is) in
    c.requires.folds i Q here

pub loop-pattern-preserved : goal.loop-pattern-preserved
loop-pattern-preserved c =
    let K = c.args.patterns.now in
    let i = c.loop-pattern.pattern-index in
    let Q = c.pattern-item.result in
    let here : slice_get K i ≡ Some Q = slice_get-get_or K i Q c.loop-pattern-test.true ∙ ap (λ (R : Shape). Some R) (sym c.pattern-item.is) in
    let more = c.in_ok-more.ensures in
    record {
      few = omega (arith, c.loop-pattern.invariant.few, more.0);
      most = key_more c.args.graph.now K c.args.a i c.loop-pattern.all c.in_ok-more.more Q here c.loop-pattern.invariant.most more.1;
    }

pub returns : goal.returns
returns c =
    let G = c.args.graph.now in
    let K = c.args.patterns.now in
    let a = c.args.a in
    let i = c.loop-pattern.pattern-index in (
      c.loop-pattern.invariant.few,
      other_at_most (λ b. (key : ℕ) × (Q : Shape) × (key < i) × (slice_get K key ≡ Some Q) × (a < b) × IsCandidateUnder G Q a b) (λ b. IsCandidate G K a b) c.loop-pattern.all
          c.loop-pattern.invariant.most
          (λ b x. let lt = slice_get_within K x.key x.pattern x.found in (x.key, x.pattern, omega (arith, lt, c.loop-pattern-test.false), x.found, x.below, x.under)),
    )
