-- The list of the name is the chain from its head.
use Rattle.std.proofs.Common.{List, ℕ, Contains, length, get_or, ◌≡◌, ◌<◌, ap, subst, sym, ◌∙◌, arith}
use Rattle.std.proofs.lemmas.List.{get_or_default, length-map}
use Rattle.list_pool.specs.Pool.{list_at}
use Rattle.signature_chase.specs.declared.owners.Owner.{Owner}
use Rattle.signature_chase.specs.Owned.{chain, chains, AreOwners}
use Rattle.signature_chase.proofs.Chains.{list_at-chains, head_in}
use Rattle.signature_chase.proofs.owners.Owners.queue_all.Goals as goal

listed : (heads : List ℕ) (os : List Owner) (lists : List (List ℕ)) (name head : ℕ) → chains heads os ≡ lists → name < length lists → head ≡ get_or heads name head →
    list_at lists name ≡ chain os (length os) head
listed heads os lists name head view named read =
    let in_heads : name < length heads = omega (arith, length-map heads (λ h. chain os (length os) h), ap (λ (ls : List (List ℕ)). length ls) view) in
    ap (λ (ls : List (List ℕ)). list_at ls name) (sym view) ∙ list_at-chains heads os name
    ∙ ap (λ k. chain os (length os) k) (sym (read ∙ get_or_default heads name head 0 in_heads))

pub queue_chain-requires-clause-groups : goal.queue_chain-requires-clause-groups
queue_chain-requires-clause-groups c =
    let is = listed c.self.inside.heads.items c.self.inside.owners.items c.args.self.now c.args.name c.index-head.result.now c.self.view_is c.requires.name c.index-head.ensures in
    rw c.deref.ensures.value (λ g h. c.requires.groups g (subst (λ gs. Contains gs g) (sym is) h))

pub returns-clause-woken : goal.returns-clause-woken
returns-clause-woken c =
    let is = listed c.self.inside.heads.items c.self.inside.owners.items c.args.self.now c.args.name c.index-head.result.now c.self.view_is c.requires.name c.index-head.ensures in
    λ g h. c.queue_chain.ensures.woken g (rw c.deref.ensures.value (subst (λ gs. Contains gs g) is h))
