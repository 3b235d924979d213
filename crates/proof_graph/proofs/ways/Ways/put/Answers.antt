use Rattle.std.proofs.Common.{◌≡◌, ◌++◌, true, length, arith, sym, ap, ◌∙◌, append-nil}
use Rattle.chase_laws.specs.Joined.{joined_by, links}
use Rattle.proof_graph.specs.Way.{way}
use Rattle.proof_graph.proofs.WayLemmas.{way-same}
use Rattle.proof_graph.proofs.SupportLemmas.{inside_both}
use Rattle.proof_graph.proofs.ways.Ways.put.Goals as goal

pub returns-then-a-b-clause-ok : goal.returns-then-a-b-clause-ok
returns-then-a-b-clause-ok c =
    sym (ap (λ l. c.args.places.now.items ++ l) (ap (way (links c.args.self.now) (length c.args.self.now) c.args.a) (sym c.if-a-b.true) ∙ way-same (links c.args.self.now) (length c.args.self.now) c.args.a)
    ∙ append-nil c.args.places.now.items)

pub put_way-done-requires-clause-from : goal.put_way-done-requires-clause-from
put_way-done-requires-clause-from c =
    let h : joined_by c.self.inside.journal.now c.args.a c.args.b ≡ true = ap (λ H. joined_by H c.args.a c.args.b) c.self.view_is ∙ c.requires in
    let n = ap length c.deref.ensures.value in
    let i = (inside_both c.self.inside.journal.now (length c.self.inside.nodes.items) c.args.a c.args.b c.self.invariant.ends h c.if-a-b.false).0 in
    omega arith

pub put_way-done-requires-clause-to : goal.put_way-done-requires-clause-to
put_way-done-requires-clause-to c =
    let h : joined_by c.self.inside.journal.now c.args.a c.args.b ≡ true = ap (λ H. joined_by H c.args.a c.args.b) c.self.view_is ∙ c.requires in
    let n = ap length c.deref.ensures.value in
    let i = (inside_both c.self.inside.journal.now (length c.self.inside.nodes.items) c.args.a c.args.b c.self.invariant.ends h c.if-a-b.false).1 in
    omega arith
