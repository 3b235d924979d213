use Rattle.std.proofs.Common.{List, ℕ, Contains, length, get_or, ◌≡◌, ◌<◌, ◌-◌, ap, subst, sym, ◌∙◌, arith, eqb-true}
use Rattle.std.proofs.lemmas.List.{get_or_default, length-map}
use Rattle.list_pool.specs.Pool.{list_at}
use Rattle.signature_chase.specs.declared.owners.Owner.{Owner}
use Rattle.signature_chase.specs.Owned.{chain, chains, owner_at}
use Rattle.signature_chase.proofs.Chains.{begins, head_in}
use Rattle.signature_chase.proofs.owners.Owners.begins_with.Goals as goal

pub returns-then-head-gt0 : goal.returns-then-head-gt0
returns-then-head-gt0 c = λ t.
    let heads = c.self.inside.heads.items in
    let os = c.self.inside.owners.items in
    let named : c.args.name < length heads = omega (arith, length-map heads (λ head. chain os (length os) head), ap (λ (ls : List (List ℕ)). length ls) c.self.view_is, c.requires) in
    let head = c.index-head.result.now in
    let is : head ≡ get_or heads c.args.name 0 = c.index-head.ensures ∙ get_or_default heads c.args.name head 0 named in
    let within = head_in heads os c.self.invariant c.args.name in
    let read : c.index.result.now ≡ owner_at os (head - 1) = c.index.ensures ∙ get_or_default os (head - 1) c.index.result.now (record { group = 0; next = 0 }) (omega arith) in
    let found = begins heads os c.args.name head c.self.invariant is (omega arith) in
    let same : (owner_at os (head - 1)).group ≡ c.args.group = ap (λ (o : Owner). o.group) (sym read) ∙ eqb-true c.index.result.now.group c.args.group t in
    subst (λ (ls : List (List ℕ)). Contains (list_at ls c.args.name) c.args.group) c.self.view_is
    (subst (λ g. Contains (list_at (chains heads os) c.args.name) g) same found)
