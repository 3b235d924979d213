use Rattle.std.proofs.Common.{◌<◌, ◌≤◌}
use Rattle.chase_laws.specs.Candidate.{IsCandidateUnder}
use Rattle.pair_seed.specs.Bounds.{AreAtMost, IsLedTo}
use Rattle.pair_seed.proofs.Bounding.{other_at_most, some_by}
use Rattle.pair_seed.proofs.Keys.{lead_serves, lead_led}
use Rattle.pair_seed.proofs.bound.above_by_key.Goals as goal

pub above_by_lead-requires-clause-folds : goal.above_by_lead-requires-clause-folds
above_by_lead-requires-clause-folds c = lead_serves c.args.graph.now c.args.pattern.now c.in-Some.lead c.in-Some.ensures c.args.folds.now c.requires.folds

pub returns-in-Some : goal.returns-in-Some
returns-in-Some c =
    let G = c.args.graph.now in
    let Q = c.args.pattern.now in
    let a = c.args.a in
    let lead = c.in-Some.lead in
    some_by c.above_by_lead.result (λ n. (n ≤ c.args.room) × AreAtMost (λ b. (a < b) × IsLedTo G lead.folded a lead.pred b) n)
    (λ n. (n ≤ c.args.room) × AreAtMost (λ b. (a < b) × IsCandidateUnder G Q a b) n) c.above_by_lead.ensures
    (λ n h. (
      h.0,
      other_at_most (λ b. (a < b) × IsLedTo G lead.folded a lead.pred b) (λ b. (a < b) × IsCandidateUnder G Q a b) n h.1
          (λ b x. (x.0, lead_led G Q lead c.in-Some.ensures a b x.1)),
    ))
