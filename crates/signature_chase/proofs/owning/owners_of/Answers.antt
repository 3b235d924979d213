-- Group by group.
use Rattle.std.proofs.Common.{◌∙◌, ap, arith, ◌<◌, ◌≤◌, ◌≡◌, ◌⊎◌, ◌+◌, ℕ, List, [], Contains, length, drop, subst, sym, inl, inr}
use Rattle.std.proofs.lemmas.Bool.{cases_lt}
use Rattle.list_pool.specs.Pool.{list_at}
use Rattle.valuation_groups.specs.Groups.{GroupShape, group_at, row_in}
use Rattle.signature_chase.specs.Owning.{PutsInto}
use Rattle.signature_chase.specs.Setting.{HasRowAt, IsNamedRow}
use Rattle.signature_chase.proofs.owning.owners_of.Goals as goal

pub loop-place-init : goal.loop-place-init
loop-place-init c = record {
  one_each = c.in_ok-owners.ensures.count;
  every = λ g i m h. absurd (omega arith);
  only = λ m g h. let k = subst (λ xs. Contains xs g) (c.in_ok-owners.ensures.empty m) h in absurd (omega (arith, k.1));
}

pub put_group-requires : goal.put_group-requires
put_group-requires c = λ i h.
    let g = c.loop-place.place in
    let within : g < length c.args.groups.now = omega (arith, c.len-place-end.ensures.length, c.loop-place-test.true) in
    let at : c.group.result ≡ group_at c.args.groups.now g = c.group.ensures in
    let row = subst (λ (s : GroupShape). i < length s.rows) at h in
    subst (λ (s : GroupShape). IsNamedRow (length c.loop-place.owners) (row_in s i)) (sym at) (rw c.loop-place.invariant.one_each (c.requires g i (within, row)))

pub loop-place-preserved : goal.loop-place-preserved
loop-place-preserved c =
    let groups = c.args.groups.now in
    let p = c.loop-place.place in
    let v = c.loop-place.invariant in
    let at : c.group.result ≡ group_at groups p = c.group.ensures in
    let new = c.put_group.new.owners in
    let e : PutsInto c.loop-place.owners new p (λ m. (i : ℕ) × (i < length (group_at groups p).rows) × Contains (drop 1 (row_in (group_at groups p) i)) m) =
    subst (λ (s : GroupShape). PutsInto c.loop-place.owners new p (λ m. (i : ℕ) × (i < length s.rows) × Contains (drop 1 (row_in s i)) m)) at c.in_ok-put_group.ensures in
    record {
      one_each = e.count ∙ v.one_each;
      every = λ g i m lt h k. elim (cases_lt g p) [
        | inl before ↦ e.kept m g (v.every g i m before h k)
        | inr ge ↦ (let same : p ≡ g = omega arith in
            subst (λ q. Contains (list_at new m) q) same (e.every m (
              i,
              subst (λ q. i < length (group_at groups q).rows) (sym same) h.1,
              subst (λ q. Contains (drop 1 (row_in (group_at groups q) i)) m) (sym same) k,
            )))
      ];
      only = λ m g h. elim (e.only m g h) [
        | inl k ↦ (let lt : g < p = v.only m g k in omega arith)
        | inr same ↦ omega arith
      ];
    }

pub returns : goal.returns
returns c =
    let v = c.loop-place.invariant in
    let long : length c.args.groups.now ≤ c.loop-place.place = omega (arith, c.len-place-end.ensures.length, c.loop-place-test.false) in
    record {
      one_each = v.one_each;
      every = λ g i m h k. v.every g i m (omega (arith, h.0)) h k;
      only = λ m g h. let lt = v.only m g h in omega (arith, c.len-place-end.ensures.length, c.loop-place.auto.place-end);
    }
