-- Key by key.
use Rattle.std.proofs.Common.{ℕ, Some, ◌≡◌, sym, ◌∙◌, ap, subst, true≢false, arith, rules}
use Rattle.std.proofs.lemmas.Option.{slice_get-get_or, slice_get_within}
use Rattle.chase_laws.specs.Graph.{HasType}
use Rattle.chase_laws.specs.Valuation.{IsMatch}
use Rattle.paired_search.specs.KeyRange.{IsWithin}
use Rattle.paired_search.proofs.Keys.{none_more, match_types}
use Rattle.paired_search.proofs.PartLaws.{some_same}
use Rattle.paired_search.proofs.all_keys.search_within.Goals as goal

pub search_key-found-requires-clause-plan : goal.search_key-found-requires-clause-plan
search_key-found-requires-clause-plan g c =
    let Q = c.index-patterns-key.result in
    let P = c.index-plans-key.result in
    c.requires.plans.each c.loop-key.key Q P
    (slice_get-get_or c.args.patterns.now c.loop-key.key Q (omega (arith, c.end_among-end.ensures.few)) ∙ ap Some (sym c.index-patterns-key.is))
    (slice_get-get_or c.args.plans.now c.loop-key.key P (omega (arith, c.requires.plans.as_many)) ∙ ap Some (sym c.index-plans-key.is))

pub returns-in-Some-clause-found : goal.returns-in-Some-clause-found
returns-in-Some-clause-found g c = (
  c.index-patterns-key.result,
  slice_get-get_or c.args.patterns.now c.loop-key.key c.index-patterns-key.result (omega (arith, c.end_among-end.ensures.few)) ∙ ap Some (sym c.index-patterns-key.is),
  c.in-Some.ensures.found,
)

pub returns-in-Some-clause-within : goal.returns-in-Some-clause-within
returns-in-Some-clause-within g c = (
  omega arith,
  (c.end_among-end.ensures.exact c.loop-key.key (omega (arith, c.end_among-end.ensures.few))).0 (omega arith),
)

-- a key whose type is known to be missing
pub loop-key-preserved-then-eq : goal.loop-key-preserved-then-eq
loop-key-preserved-then-eq g c =
    let G = c.args.graph.now in
    let same = g.S.Sameness.are_same c.args.view.now in
    let Q = c.index-patterns-key.result in
    let t = c.designated_type-designated.result in
    let known : c.loop-key.missing ≡ Some t = search rules in
    record {
      none = none_more c.args.patterns.now (IsWithin c.args.range) (λ P v w. IsMatch G P same c.args.a c.args.b v w) c.loop-key.key Q
          (slice_get-get_or c.args.patterns.now c.loop-key.key Q (omega (arith, c.end_among-end.ensures.few)) ∙ ap Some (sym c.index-patterns-key.is))
          c.loop-key.invariant.none
          (λ v w m. c.loop-key.invariant.missing t known (match_types G Q same c.args.a c.args.b t v w c.designated_type-designated.ensures m));
      missing = c.loop-key.invariant.missing;
      empty_left = c.loop-key.invariant.empty_left;
      empty_right = c.loop-key.invariant.empty_right;
    }

-- one whose type is found missing
pub loop-key-preserved-then-not-have_type : goal.loop-key-preserved-then-not-have_type
loop-key-preserved-then-not-have_type g c =
    let G = c.args.graph.now in
    let same = g.S.Sameness.are_same c.args.view.now in
    let Q = c.index-patterns-key.result in
    let t = c.designated_type-designated.result in
    let have = λ (n : ℕ). HasType G c.args.a n × HasType G c.args.b n in
    let none = λ (h : have t). true≢false (sym (c.have_type.ensures.1 h) ∙ c.if-not-have_type.true) in
    record {
      none = none_more c.args.patterns.now (IsWithin c.args.range) (λ P v w. IsMatch G P same c.args.a c.args.b v w) c.loop-key.key Q
          (slice_get-get_or c.args.patterns.now c.loop-key.key Q (omega (arith, c.end_among-end.ensures.few)) ∙ ap Some (sym c.index-patterns-key.is))
          c.loop-key.invariant.none
          (λ v w m. none (match_types G Q same c.args.a c.args.b t v w c.designated_type-designated.ensures m));
      missing = λ u e h. none (subst have (sym (some_same t u e)) h);
      empty_left = c.loop-key.invariant.empty_left;
      empty_right = c.loop-key.invariant.empty_right;
    }

pub loop-key-preserved : goal.loop-key-preserved
loop-key-preserved g c = record {
  none = none_more c.args.patterns.now (IsWithin c.args.range) (λ Q v w. IsMatch c.args.graph.now Q (g.S.Sameness.are_same c.args.view.now) c.args.a c.args.b v w) c.loop-key.key c.index-patterns-key.result
      (slice_get-get_or c.args.patterns.now c.loop-key.key c.index-patterns-key.result (omega (arith, c.end_among-end.ensures.few)) ∙ ap Some (sym c.index-patterns-key.is))
      c.loop-key.invariant.none c.in_default.ensures.none;
  missing = c.loop-key.invariant.missing;
  empty_left = c.in_default.ensures.kept.0;
  empty_right = c.in_default.ensures.kept.1;
}

pub returns-clause-none : goal.returns-clause-none
returns-clause-none g c = λ k Q v w within at m.
    let before = slice_get_within c.args.patterns.now k Q at in
    c.loop-key.invariant.none k Q v w (omega (arith, (c.end_among-end.ensures.exact k before).1 within.1, c.loop-key-test.false)) within at m
