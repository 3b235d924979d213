-- Row by row.
use Rattle.std.proofs.Common.{◌∙◌, ap, arith, ◌<◌, ◌≤◌, ◌≡◌, ◌⊎◌, ◌+◌, ℕ, List, All, Contains, length, drop, subst, sym, inl, inr}
use Rattle.std.proofs.lemmas.Bool.{cases_lt}
use Rattle.valuation_groups.specs.Groups.{row_in}
use Rattle.signature_chase.specs.Owning.{PutsInto}
use Rattle.signature_chase.proofs.Puts.{puts_none, puts_more}
use Rattle.signature_chase.proofs.owning.put_group.Goals as goal

pub put_images-requires : goal.put_images-requires
put_images-requires c =
    let row = row_in c.args.group.now c.loop-row.row in
    let within : c.loop-row.row < length c.args.group.now.rows = omega (arith, c.len-row-end.ensures.length, c.loop-row-test.true) in
    rw (c.loop-row.invariant.count, c.images_of.ensures) (c.requires c.loop-row.row within).images

pub loop-row-init : goal.loop-row-init
loop-row-init c = puts_none c.args.owners.now c.args.place (λ m. (i : ℕ) × (i < 0) × Contains (drop 1 (row_in c.args.group.now i)) m) (λ m h. omega (arith, h.1))

pub loop-row-preserved : goal.loop-row-preserved
loop-row-preserved c =
    let group = c.args.group.now in
    let i = c.loop-row.row in
    let images = drop 1 (row_in group i) in
    let e : PutsInto c.loop-row.owners c.put_images.new.owners c.args.place (Contains images) =
    subst (λ xs. PutsInto c.loop-row.owners c.put_images.new.owners c.args.place (Contains xs)) c.images_of.ensures c.in_ok-put_images.ensures in
    puts_more c.args.owners.now c.loop-row.owners c.put_images.new.owners c.args.place
    (λ m. (k : ℕ) × (k < i) × Contains (drop 1 (row_in group k)) m) (Contains images) (λ m. (k : ℕ) × (k < i + 1) × Contains (drop 1 (row_in group k)) m)
    c.loop-row.invariant e
    (λ m h. elim (cases_lt h.0 i) [
      | inl lt ↦ inl (h.0, lt, h.2)
      | inr ge ↦ inr (let same : h.0 ≡ i = omega (arith, h.1) in subst (λ k. Contains (drop 1 (row_in group k)) m) same h.2)
    ])

pub returns : goal.returns
returns c =
    let group = c.args.group.now in
    let i = c.loop-row.row in
    let long : length group.rows ≤ i = omega (arith, c.len-row-end.ensures.length, c.loop-row-test.false) in
    puts_more c.args.owners.now c.loop-row.owners c.loop-row.owners c.args.place
    (λ m. (k : ℕ) × (k < i) × Contains (drop 1 (row_in group k)) m) (λ m. ⊥) (λ m. (k : ℕ) × (k < length group.rows) × Contains (drop 1 (row_in group k)) m)
    c.loop-row.invariant (puts_none c.loop-row.owners c.args.place (λ m. ⊥) (λ m h. h))
    (λ m h. inl (h.0, omega (arith, h.1), h.2))
