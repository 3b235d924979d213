-- The rows that are kept, in the order in which they are looked at: this project's own.
use Rattle.std.specs.Prelude.{Bool, List, ℕ, nat_eq, not, filter, map, ◌&&◌, ◌++◌}
use Rattle.std.specs.List.{list_any}
use Rattle.std.specs.Cmp.Lexicographic.{pointwise}
use Rattle.chase_laws.specs.Signature.{SignatureParts}
use Rattle.valuation_groups.specs.Rows.{KeyRows, part_at}

-- whether q has the values of p, and another name
abbrev pub shares_with : SignatureParts → SignatureParts → Bool
shares_with p q = pointwise nat_eq q.values p.values && not (nat_eq q.name p.name)

-- whether some part shares its values with p
abbrev pub is_shared : List SignatureParts → SignatureParts → Bool
is_shared parts p = list_any (shares_with p) parts

-- the parts in an order
abbrev pub in_order : List SignatureParts → List ℕ → List SignatureParts
in_order parts order = map (part_at parts) order

-- those that are shared
abbrev pub kept_of : List SignatureParts → List ℕ → List SignatureParts
kept_of parts order = filter (is_shared (in_order parts order)) (in_order parts order)

-- rows with more parts behind
abbrev pub grown : KeyRows → List SignatureParts → KeyRows
grown rows more = record { key = rows.key; value_count = rows.value_count; image_count = rows.image_count; parts = rows.parts ++ more }
