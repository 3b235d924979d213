use Rattle.std.proofs.Common.{bytes_eq, length, arith, sym, ap, ◌∙◌, []}
use Rattle.std.proofs.lemmas.List.Sums.{position_or_len_is}
use Rattle.key_file.specs.KeyShape.{KeyShape}
use Rattle.proof_check.proofs.checking.key_place.Goals as goal

pub returns-then-eq : goal.returns-then-eq
returns-then-eq c =
    let t = c.loop-place-test.true in
    sym (position_or_len_is (λ (k : KeyShape). bytes_eq k.name c.args.name.now) c.args.keys.now c.loop-place.place c.index-keys-place.result (omega arith)
    (λ k l. c.loop-place.invariant k c.index-keys-place.result l) (λ l. ap (λ (k : KeyShape). bytes_eq k.name c.args.name.now) (sym c.index-keys-place.is) ∙ ap (λ (k : KeyShape). bytes_eq k.name c.args.name.now) (sym c.key.view_is) ∙ (sym c.eq.ensures ∙ c.if-eq.true)))

pub returns : goal.returns
returns c =
    let t = c.loop-place-test.false in
    let d : KeyShape = record { name = []; slots = []; edges = [] } in
    sym (position_or_len_is (λ (k : KeyShape). bytes_eq k.name c.args.name.now) c.args.keys.now (length c.args.keys.now) d (omega arith)
    (λ k l. c.loop-place.invariant k d (omega arith)) (λ l. absurd (omega arith)))
