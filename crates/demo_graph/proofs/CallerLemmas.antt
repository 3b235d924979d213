-- What proofs of the crates above cite. No other proof file of this crate is cited outside it.
use Rattle.std.proofs.Common.{ℕ}
use Rattle.std.specs.Prelude.{◌↔◌}
use Rattle.demo_graph.specs.Counts.{IsPlaceCount}

-- the number of places of which something holds is that of those of which the same holds, said otherwise
pub counted_alike : (P Q : ℕ → Type 0) (n : ℕ) → ((i : ℕ) → P i ↔ Q i) → IsPlaceCount P n → IsPlaceCount Q n
counted_alike P Q n alike c = record {
  listed = c.listed;
  ascending = c.ascending;
  exact = λ i. ((λ h. (alike i).0 ((c.exact i).0 h)), (λ h. (c.exact i).1 ((alike i).1 h)));
  count = c.count;
}
