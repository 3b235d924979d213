-- One owner after another.
use Rattle.std.proofs.Common.{List, ℕ, Contains, length, ◌≡◌, ◌<◌, ◌≤◌, ◌-◌, ◌∷◌, ap, subst, sym, ◌∙◌, inl, inr, arith}
use Rattle.signature_chase.specs.Owned.{chain, owner_at}
use Rattle.signature_chase.proofs.Chains.{chain_step, chain_none, cons_cases, cons_here, cons_later}
use Rattle.signature_chase.proofs.owners.queue_chain.Goals as goal

pub push-requires : goal.push-requires
push-requires c =
    let os = c.args.owners.now in
    let o = owner_at os (c.loop-at.at - 1) in
    rw c.loop-at.invariant.count (c.requires.groups o.group (c.loop-at.invariant.among o.group
    (subst (λ gs. Contains gs o.group) (sym (chain_step os c.requires.back (length os) c.loop-at.at c.loop-at-test.true c.loop-at.invariant.within c.loop-at.invariant.within))
    (cons_here o.group (chain os (length os) o.next)))))

pub loop-at-preserved : goal.loop-at-preserved
loop-at-preserved c =
    let os = c.args.owners.now in
    let at = c.loop-at.at in
    let o = owner_at os (at - 1) in
    let v = c.loop-at.invariant in
    let some = c.loop-at-test.true in
    let in_at = v.within in
    let step = chain_step os c.requires.back (length os) at some in_at in_at in
    let less : o.next ≤ at - 1 = c.requires.back (at - 1) (omega arith) in
    let e = c.push.ensures in
    record {
      within = omega arith;
      among = λ g h. v.among g (subst (λ gs. Contains gs g) (sym step) (cons_later o.group (chain os (length os) o.next) g h));
      rest = λ g h. elim (v.rest g h) [
        | inl k ↦ inl (e.kept g k)
        | inr k ↦ elim (cons_cases o.group (chain os (length os) o.next) g (subst (λ gs. Contains gs g) step k)) [
          | inl same ↦ inl (subst (λ m. Contains c.push.new.self.list m) (sym same) e.waits)
          | inr later ↦ inr later
        ]
      ];
      kept = λ g h. e.kept g (v.kept g h);
      count = e.count ∙ v.count;
    }

pub returns-clause-woken : goal.returns-clause-woken
returns-clause-woken c = λ g h.
    let os = c.args.owners.now in
    let none : c.loop-at.at ≡ 0 = omega (arith, c.loop-at-test.false) in
    elim (c.loop-at.invariant.rest g h) [
      | inl k ↦ k
      | inr k ↦ absurd (omega (arith, (subst (λ gs. Contains gs g) (ap (λ at. chain os (length os) at) none ∙ chain_none os (length os)) k).1))
    ]
