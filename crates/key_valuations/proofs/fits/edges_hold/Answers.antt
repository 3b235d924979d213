-- One edge more.
use Rattle.std.proofs.Common.{ℕ, All, [], ◌∷◌, ◌++◌, get_or, subst, sym, refl, take_all, arith}
use Rattle.std.proofs.lemmas.List.Elements.{All-more}
use Rattle.chase_laws.specs.declared.pattern.Edge.{Edge}
use Rattle.key_valuations.specs.Part.{EdgeHolds}
use Rattle.key_valuations.proofs.fits.edges_hold.Goals as goal
use Rattle.key_valuations.proofs.fits.edges_hold.Goals.{else-place-known-via-then-place-known+else-not-edge_holds, else-place-known-via-else-place-known}

pub loop-place-preserved : goal.loop-place-preserved
loop-place-preserved c =
    let block = c.args.block.now in
    let holds = EdgeHolds c.args.graph.now (c.args.places.now ++ c.args.m ∷ []) in
    let none : Edge = record { from = 0; pred = 0; to = 0 } in
    let here : holds (get_or block c.loop-place.place none) = elim c.else-place-known.branch [
      | else-place-known-via-then-place-known+else-not-edge_holds w ↦ w.edge_holds.ensures.0 w.if-not-edge_holds.false
      | else-place-known-via-else-place-known w ↦ subst (λ (k : ℕ). holds (get_or block k none)) (sym w.if-place-known.false) (c.requires.known none (omega (arith, w.if-place-known.false, c.loop-place-test.true)))
    ] in
    All-more holds block c.loop-place.place none c.loop-place-test.true c.loop-place.invariant here

pub returns : goal.returns
returns c =
    let holds = EdgeHolds c.args.graph.now (c.args.places.now ++ c.args.m ∷ []) in
    ((λ t. subst (All holds) (take_all c.loop-place.place c.args.block.now c.loop-place-test.false) c.loop-place.invariant), (λ h. refl))
