-- Pairs that look at one class from one end and at another class from the other.
use Rattle.std.proofs.Common.{List, ℕ, refl, Contains, length, slice_index, ◌≡◌, ◌<◌, ◌↔◌, inl, inr, sym, arith}
use Rattle.chase_laws.specs.Core.{Task, IsTask, name_count, PairAt}
use Rattle.chase_laws.proofs.CallerLemmas.{near_named, All-at}
use Rattle.list_pool.specs.Pool.{list_at}
use Rattle.class_book.specs.Classes.{Classes, class_of, IsClass, IsLabelled}
use Rattle.near_lists.specs.Neighbourhoods.{AreNearNames}
use Rattle.near_lists.specs.Turning.{HasEnd}
use Rattle.chase_core.specs.Setup.{Preparation}
use Rattle.chase_core.specs.Gathering.{HasEnds, LooksPast, LooksAcross}

-- the ends of a pair are names
pub ends_named : (T : Task) → IsTask T → (p a b : ℕ) → PairAt T p a b → (a < name_count T) × (b < name_count T)
ends_named T ok p a b at =
    let h = All-at (λ (q : ℕ × ℕ). (q.0 < q.1) × (q.1 < name_count T)) T.pairs p (a, b) ok.named at in
    (omega arith, h.1)

pub end_named : (T : Task) → IsTask T → (q e o : ℕ) → HasEnds T.pairs q e o → e < name_count T
end_named T ok q e o h = elim h [ inl k ↦ (ends_named T ok q e o k).0 | inr k ↦ (ends_named T ok q o e k).1 ]

-- a pair with two ends has each of them
pub end_of : (pairs : List (ℕ × ℕ)) (q e o : ℕ) → HasEnds pairs q e o → HasEnd pairs q e
end_of pairs q e o h = elim h [ inl k ↦ (e, o, k, inl refl) | inr k ↦ (o, e, k, inr refl) ]

-- either end may come first
pub turned_ends : (pairs : _) (q e o : ℕ) → HasEnds pairs q e o → HasEnds pairs q o e
turned_ends pairs q e o h = elim h [ inl k ↦ inr k | inr k ↦ inl k ]

pub turned_across : (S : Preparation) (labels : _) (k l q : ℕ) → LooksAcross S labels k l q → LooksAcross S labels l k q
turned_across S labels k l q h = (h.1, h.0, turned_ends S.task.pairs q h.0 h.1 h.2, h.4, h.3)

module _ (S : Preparation) (ok : IsTask S.task) (near : AreNearNames S.task.graph S.task.patterns S.near.near) (book : Classes) (names : length book.labels ≡ name_count S.task) (labelled : IsLabelled book.labels book.journal) where
  -- what is near to a name has a label
  pub looked_named : (e n : ℕ) → e < name_count S.task → Contains (list_at S.near.near e) n → n < length book.labels
  looked_named e n h c = near_named S.task ok book.labels names e n ((near.exact e n h).0 c)

  -- the members of a class are the names with its label
  pub class_across : (x : ℕ) → x < length book.labels → IsClass book.labels book.journal x (class_of book x) → (l q : ℕ) →
      ((n : ℕ) × Contains (class_of book x) n × LooksPast S book.labels l q n) ↔ LooksAcross S book.labels (slice_index book.labels x) l q
  class_across x x_in class l q = (
    (λ h. let n = h.0 in
        let past = h.2 in
        let n_in = looked_named past.0 n past.1 past.2 in
        (past.0, past.3.0, past.3.1, (n, past.2, sym ((labelled.classes x n x_in n_in).1 ((class.joined n n_in).0 h.1))), past.3.2)),
    (λ h. let e = h.0 in
        let n = h.3.0 in
        let e_in = end_named S.task ok q e h.1 h.2 in
        let n_in = looked_named e n e_in h.3.1 in
        (n, (class.joined n n_in).1 ((labelled.classes x n x_in n_in).0 (sym h.3.2)), (e, e_in, h.3.1, (h.1, h.2, h.4)))),
  )
