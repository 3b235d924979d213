-- Image by image.
use Rattle.std.proofs.Common.{◌∙◌, ap, arith, ◌<◌, ◌≡◌, ◌⊎◌, ◌+◌, ◌++◌, ◌∷◌, [], ℕ, List, Contains, length, get_or, take, subst, sym, inl, inr}
use Rattle.std.proofs.lemmas.List.{take_more, take_all}
use Rattle.std.proofs.lemmas.List.Elements.{Contains-push_cases, All-get_or}
use Rattle.signature_chase.specs.Owning.{PutsInto}
use Rattle.signature_chase.proofs.Puts.{puts_none, puts_more}
use Rattle.signature_chase.proofs.owning.put_images.Goals as goal

pub add-requires : goal.add-requires
add-requires c =
    let images = c.args.images.now in
    let i = c.loop-image.image-index in
    rw c.loop-image.invariant.count (All-get_or (λ m. m < length c.args.owners.now) images i 0 c.loop-image-test.true c.requires)

pub loop-image-init : goal.loop-image-init
loop-image-init c = puts_none c.args.owners.now c.args.place (Contains (take 0 c.args.images.now)) (λ m h. omega (arith, h.1))

pub loop-image-preserved : goal.loop-image-preserved
loop-image-preserved c =
    let images = c.args.images.now in
    let i = c.loop-image.image-index in
    let x = get_or images i 0 in
    puts_more c.args.owners.now c.loop-image.owners c.add.new.self c.args.place (Contains (take i images)) (λ m. m ≡ x) (Contains (take (i + 1) images)) c.loop-image.invariant c.in_ok-add.ensures
    (λ m h. elim (Contains-push_cases (take i images) x m (subst (λ xs. Contains xs m) (take_more images i 0 c.loop-image-test.true) h)) [ inl k ↦ inl k | inr e ↦ inr (sym e) ])

pub returns : goal.returns
returns c = subst (λ xs. PutsInto c.args.owners.now c.loop-image.owners c.args.place (Contains xs)) (take_all c.loop-image.image-index c.args.images.now c.loop-image-test.false) c.loop-image.invariant
