use Rattle.std.proofs.Common.{Some, ◌≡◌, slice_get, ap, sym, ◌∙◌}
use Rattle.std.proofs.lemmas.Option.{slice_get-get_or}
use Rattle.chase_laws.specs.Shape.{Shape}
use Rattle.pair_seed.proofs.Steps.{found_more}
use Rattle.pair_seed.proofs.gather.find.Goals as goal

pub gather_key-requires : goal.gather_key-requires
gather_key-requires c =
    let K = c.args.patterns.now in
    let i = c.loop-pattern.pattern-index in
    let Q = c.pattern-item.result in
    let here : slice_get K i ≡ Some Q = slice_get-get_or K i Q c.loop-pattern-test.true ∙ ap (λ (R : Shape). Some R) (sym c.pattern-item.is) in
    c.requires i Q here

pub loop-pattern-preserved : goal.loop-pattern-preserved
loop-pattern-preserved c =
    let K = c.args.patterns.now in
    let i = c.loop-pattern.pattern-index in
    let Q = c.pattern-item.result in
    let here : slice_get K i ≡ Some Q = slice_get-get_or K i Q c.loop-pattern-test.true ∙ ap (λ (R : Shape). Some R) (sym c.pattern-item.is) in
    found_more c.args.graph.now K c.args.a i c.loop-pattern.near.items _ Q here c.loop-pattern.invariant c.in_ok-gather_key.ensures
