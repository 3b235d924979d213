use Rattle.std.proofs.Common.{List, ℕ, ◌++◌, ◌≡◌, length, ap, sym, ◌∙◌, ◌+◌, ◌*◌}
use Rattle.chase_laws.specs.Signature.{SignatureParts}
use Rattle.valuation_groups.specs.Rows.{KeyRows}
use Rattle.valuation_groups.proofs.RowLemmas.{parts_of_cells, rows_of_both, length_of_both}
use Rattle.valuation_groups.proofs.rows.ValuationRows.append.Goals as goal

pub invariant_of-self-in-Some : goal.invariant_of-self-in-Some
invariant_of-self-in-Some c =
    let r = c.self.inside in
    let o = c.other.inside in
    let same_v : o.value_count ≡ r.value_count = ap (λ (v : KeyRows). v.value_count) c.other.view_is ∙ c.requires.values ∙ sym (ap (λ (v : KeyRows). v.value_count) c.self.view_is) in
    let same_i : o.image_count ≡ r.image_count = ap (λ (v : KeyRows). v.image_count) c.other.view_is ∙ c.requires.images ∙ sym (ap (λ (v : KeyRows). v.image_count) c.self.view_is) in
    let items = c.in_ok-extend_from_slice-in-Some.ensures.items ∙ ap (λ xs. r.cells.items ++ xs) c.deref.ensures.value in (
      ap (λ (xs : List ℕ). length xs) items
          ∙ length_of_both r.cells.items o.cells.items r.count o.count r.value_count r.image_count o.value_count o.image_count c.self.invariant.0 c.other.invariant.0 same_v same_i
          ∙ ap (λ n. n * (r.value_count + 1 + r.image_count)) (sym c.in-Some.ensures.1),
      c.self.invariant.1,
    )

pub returns-clause-ok : goal.returns-clause-ok
returns-clause-ok c =
    let r = c.self.inside in
    let o = c.other.inside in
    let same_key : o.key ≡ r.key = ap (λ (v : KeyRows). v.key) c.other.view_is ∙ c.requires.key ∙ sym (ap (λ (v : KeyRows). v.key) c.self.view_is) in
    let same_v : o.value_count ≡ r.value_count = ap (λ (v : KeyRows). v.value_count) c.other.view_is ∙ c.requires.values ∙ sym (ap (λ (v : KeyRows). v.value_count) c.self.view_is) in
    let same_i : o.image_count ≡ r.image_count = ap (λ (v : KeyRows). v.image_count) c.other.view_is ∙ c.requires.images ∙ sym (ap (λ (v : KeyRows). v.image_count) c.self.view_is) in
    let items = c.in_ok-extend_from_slice-in-Some.ensures.items ∙ ap (λ xs. r.cells.items ++ xs) c.deref.ensures.value in
    let with : List SignatureParts → KeyRows = λ parts. record { key = r.key; value_count = r.value_count; image_count = r.image_count; parts = parts } in
    ap with
    (ap (λ cells. parts_of_cells r.key r.value_count cells (r.value_count + 1 + r.image_count) c.in-Some.count) items
    ∙ ap (λ n. parts_of_cells r.key r.value_count (r.cells.items ++ o.cells.items) (r.value_count + 1 + r.image_count) n) c.in-Some.ensures.1
    ∙ rows_of_both r.key r.value_count r.image_count r.cells.items o.cells.items r.count o.count o.key o.value_count o.image_count c.self.invariant.0 same_key same_v same_i
    ∙ ap (λ (w : KeyRows). parts_of_cells r.key r.value_count r.cells.items (r.value_count + 1 + r.image_count) r.count ++ w.parts) c.other.view_is)
    ∙ ap (λ (v : KeyRows). let grown : KeyRows = record { key = v.key; value_count = v.value_count; image_count = v.image_count; parts = v.parts ++ c.args.other.parts } in grown) c.self.view_is
