use Rattle.std.proofs.Common.{List, ℕ, Contains, length, get_or, set, ◌≡◌, ◌<◌, ◌+◌, ◌++◌, ◌∷◌, [], ap, subst, sym, ◌∙◌, arith}
use Rattle.std.proofs.lemmas.List.{get_or_default, length-map, length_push}
use Rattle.list_pool.specs.Pool.{list_at}
use Rattle.signature_chase.specs.declared.owners.Owner.{Owner}
use Rattle.signature_chase.specs.Owning.{PutsInto}
use Rattle.signature_chase.specs.Owned.{chain, chains}
use Rattle.signature_chase.proofs.Chains.{put_owner}
use Rattle.signature_chase.proofs.owners.Owners.add.Goals as goal

pub returns : goal.returns
returns c =
    let heads = c.self.inside.heads.items in
    let os = c.self.inside.owners.items in
    let named : c.args.name < length heads = omega (arith, length-map heads (λ head. chain os (length os) head), ap (λ (ls : List (List ℕ)). length ls) c.self.view_is, c.requires) in
    let next = c.index-next.result.now in
    let is : next ≡ get_or heads c.args.name 0 = c.index-next.ensures ∙ get_or_default heads c.args.name next 0 named in
    let made : c.push.new.self.items ≡ os ++ record { group = c.args.group; next = get_or heads c.args.name 0 } ∷ [] =
    c.in_ok-push.ensures.items ∙ ap (λ n. os ++ (let o : Owner = record { group = c.args.group; next = n } in o) ∷ []) is in
    let count : c.len-2.result ≡ length os + 1 = omega (arith, c.len-2.ensures, c.push.new.self.ok.0, ap (λ (xs : List Owner). length xs) made, length_push os (record { group = c.args.group; next = get_or heads c.args.name 0 })) in
    subst (λ (ls : List (List ℕ)). PutsInto ls (chains (set heads c.args.name c.len-2.result) c.push.new.self.items) c.args.group (λ m. m ≡ c.args.name)) c.self.view_is
    (put_owner heads os c.args.name c.args.group (set heads c.args.name c.len-2.result) c.push.new.self.items c.self.invariant named (ap (set heads c.args.name) count) made)
