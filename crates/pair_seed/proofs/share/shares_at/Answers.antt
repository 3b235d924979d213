use Rattle.std.proofs.Common.{Some, ap, ◌∙◌}
use Rattle.chase_laws.specs.declared.pattern.Slot.{Slot}
use Rattle.chase_laws.specs.declared.pattern.Slot.TheVariants.{Value, Folded}
use Rattle.typed_graph.proofs.CallerLemmas.{chain}
use Rattle.pair_seed.proofs.Keys.{shares_slot}
use Rattle.pair_seed.proofs.share.shares_at.Goals as goal

pub share_folded-requires : goal.share_folded-requires
share_folded-requires c = c.requires.folds c.args.edge c.requires.edge (record { from = c.if-edge-ne0.false; to = c.slot_at.ensures ∙ ap (λ (s : Slot). Some s) c.in-Folded.is })

pub returns-in-Value : goal.returns-in-Value
returns-in-Value c = chain _ _ _ c.share_value.ensures (shares_slot c.args.graph.now c.args.pattern.now c.args.a c.args.b c.args.edge Value (c.slot_at.ensures ∙ ap (λ (s : Slot). Some s) c.in-Value.is) c.if-edge-ne0.false)

pub returns-in-Folded : goal.returns-in-Folded
returns-in-Folded c = chain _ _ _ c.share_folded.ensures (shares_slot c.args.graph.now c.args.pattern.now c.args.a c.args.b c.args.edge Folded (c.slot_at.ensures ∙ ap (λ (s : Slot). Some s) c.in-Folded.is) c.if-edge-ne0.false)
