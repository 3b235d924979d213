-- All names of the key's type are asked.
use Rattle.std.proofs.Common.{List, All, length, slice_index, ◌≤◌, sym, subst}
use Rattle.chase_laws.specs.declared.pattern.Slot.TheVariants.{Entity}
use Rattle.key_valuations.specs.declared.leading.Leading.{Leading}
use Rattle.key_valuations.specs.Leading.{IsLeading}
use Rattle.key_valuations.proofs.RunLaws.{rows_done}
use Rattle.key_valuations.proofs.list.rows_of_key.Goals as goal

pub returns : goal.returns
returns g c =
    let all : All (IsLeading c.args.pattern.now) c.as_slice-leading.result.now = subst (λ (xs : List Leading). All (IsLeading c.args.pattern.now) xs) (sym c.as_slice-leading.ensures.value) c.in_ok-slots.ensures.leading in
    rows_done _ (record { leading = all; few = subst (λ (xs : List Leading). length xs ≤ 16) (sym c.as_slice-leading.ensures.value) c.in_ok-slots.ensures.few })
    c.with_type-names.result.now c.in_ok-leads.leads c.in_ok-shared.shared c.in_ok-rows.rows c.len-count.result
    (λ v x. (c.with_type-names.ensures.exact (slice_index v 0)).1 (x.kinds 0 (Entity c.designated_type.result) c.designated_type.ensures).1)
    c.in_ok-leads.ensures c.in_ok-shared.ensures.exact c.len-count.ensures.length c.in_ok-rows.ensures
