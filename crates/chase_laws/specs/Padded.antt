-- A list kept in a longer one, with zeros behind it.
use Rattle.std.specs.Prelude.{◌≡◌, ◌≤◌, ◌-◌, ◌++◌, length, take, replicate}
use Rattle.std.proofs.Common.{sym, ◌∙◌, ap, ap₂, length-take-le, arith}
use Rattle.chase_laws.specs.declared.places.Places.TheInside.{Inside}

-- the fields of a short list follow from the list
pub padded_again : (p : Inside) → (p.len ≤ 16) × (p.items ≡ take p.len p.items ++ replicate (16 - p.len) 0) × (length p.items ≡ 16) → let r : Inside = record { items = take p.len p.items ++ replicate (16 - length (take p.len p.items)) 0; len = length (take p.len p.items) } in r ≡ p
padded_again p h =
    let le : p.len ≤ length p.items = omega arith in
    let e : length (take p.len p.items) ≡ p.len = length-take-le p.len p.items le in
    let f : take p.len p.items ++ replicate (16 - length (take p.len p.items)) 0 ≡ p.items = ap (λ n. take p.len p.items ++ replicate (16 - n) 0) e ∙ sym h.1 in
    ap₂ (λ xs n. let r : Inside = record { items = xs; len = n } in r) f e
