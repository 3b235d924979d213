-- One slot after another.
use Rattle.std.proofs.Common.{List, [], ◌∷◌, All, length, sym, ap, subst, arith, length-append}
use Rattle.std.proofs.lemmas.List.Elements.{All-push}
use Rattle.key_valuations.specs.declared.leading.Leading.{Leading}
use Rattle.key_valuations.specs.Leading.{IsLeading}
use Rattle.key_valuations.proofs.leading.leading_of.Goals as goal

pub loop-s-preserved : goal.loop-s-preserved
loop-s-preserved c =
    let Q = c.args.pattern.now in
    let old = c.loop-s.leading.items in
    record {
      leading = subst (λ (xs : List Leading). All (IsLeading Q) xs) (sym c.in_ok-push.ensures.items) (All-push (IsLeading Q) old c.in-Some.lead c.loop-s.invariant.leading c.in-Some.ensures);
      few = omega (arith, ap length c.in_ok-push.ensures.items, length-append old (c.in-Some.lead ∷ []), c.loop-s.invariant.few);
    }
