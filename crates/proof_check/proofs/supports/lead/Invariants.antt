use Rattle.std.proofs.Common.{◌≡◌, drop, nat_eq}
use Rattle.proof_file.specs.Leads.{links_lead}
use Rattle.proof_file.specs.Tells.{places_of}
use Rattle.proof_check.proofs.supports.lead.Given as goal

abbrev pub invariant-loop-n : goal.invariant-loop-n
invariant-loop-n l = links_lead nat_eq l.ends (places_of l.steps) l.from l.to ≡ links_lead nat_eq l.ends (places_of (drop l.n-index l.steps)) l.at l.to
