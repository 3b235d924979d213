-- One group after another is put into lists.
use Rattle.std.proofs.Common.{List, ℕ, Contains, length, ◌≡◌, ◌⊎◌, inl, inr, refl, ◌∙◌}
use Rattle.list_pool.specs.Pool.{list_at}
use Rattle.signature_chase.specs.Owning.{PutsInto}

pub puts_none : (lists : List (List ℕ)) (group : ℕ) (P : ℕ → Type 0) → ((m : ℕ) → ¬ (P m)) → PutsInto lists lists group P
puts_none lists group P none = record {
  count = refl;
  every = λ m h. absurd (none m h);
  kept = λ m g h. h;
  only = λ m g h. inl h;
}

-- names of the first kind and then names of the second
pub puts_more : (a b c : List (List ℕ)) (group : ℕ) (P Q R : ℕ → Type 0) → PutsInto a b group P → PutsInto b c group Q →
    ((m : ℕ) → R m → P m ⊎ Q m) → PutsInto a c group R
puts_more a b c group P Q R first then either = record {
  count = then.count ∙ first.count;
  every = λ m h. elim (either m h) [ inl p ↦ then.kept m group (first.every m p) | inr q ↦ then.every m q ];
  kept = λ m g h. then.kept m g (first.kept m g h);
  only = λ m g h. elim (then.only m g h) [ inl k ↦ first.only m g k | inr e ↦ inr e ];
}
