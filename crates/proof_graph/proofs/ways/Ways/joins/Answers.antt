use Rattle.std.proofs.Common.{inl, inr, length, arith, ap, ◌∙◌}
use Rattle.chase_laws.specs.Joined.{joined_by}
use Rattle.proof_graph.proofs.SupportLemmas.{alone_test}
use Rattle.proof_graph.proofs.ways.Ways.joins.Goals as goal
use Rattle.proof_graph.proofs.ways.Ways.joins.Goals.{then-a-count-via-then-a-count, then-a-count-via-else-a-count+then-b-count}

pub returns-then-a-count : goal.returns-then-a-count
returns-then-a-count c =
    let count = length c.self.inside.nodes.items in
    let m = c.self.inside.nodes.ok in
    let n = c.len-count.ensures in
    elim c.then-a-count.branch [
      | then-a-count-via-then-a-count w ↦
          (let l = w.if-a-count.true in
          alone_test c.self.inside.journal.now count c.args.a c.args.b c.self.invariant.ends (inl (omega arith)) ∙ ap (λ H. joined_by H c.args.a c.args.b) c.self.view_is)
      | then-a-count-via-else-a-count+then-b-count w ↦
          (let l = w.if-b-count.true in
          alone_test c.self.inside.journal.now count c.args.a c.args.b c.self.invariant.ends (inr (omega arith)) ∙ ap (λ H. joined_by H c.args.a c.args.b) c.self.view_is)
    ]
