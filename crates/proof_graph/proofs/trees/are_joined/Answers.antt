use Rattle.std.proofs.Common.{length, sym}
use Rattle.std.proofs.lemmas.List.{length-map}
use Rattle.chase_laws.specs.declared.entry.Entry.{Entry}
use Rattle.proof_graph.proofs.TreeLemmas.{same_top}
use Rattle.chase_laws.specs.Joined.{links}
use Rattle.proof_graph.proofs.trees.are_joined.Goals as goal

pub returns : goal.returns
returns c = same_top (links c.args.journal.now) c.args.nodes.now (length c.args.journal.now) c.args.a c.args.b c.top.result c.top-2.result c.requires.trees c.requires.small c.requires.a c.requires.b c.top.ensures.climbs c.top-2.ensures.climbs (sym (length-map c.args.journal.now (λ (e : Entry). (e.a, e.b))))
