-- What the member lists say of the classes.
use Rattle.std.proofs.Common.{List, ℕ, Bool, true, false, length, get_or, Contains, Option, [], ◌∷◌, ◌≡◌, ◌<◌, ◌≤◌, ◌==◌, inl, inr, sym, ◌∙◌, ap, arith, eq-eqb, ne_eqb}
use Rattle.std.specs.Prelude.{slice_get, is_some}
use Rattle.std.proofs.lemmas.Bool.{cases_eq, cases_lt}
use Rattle.std.proofs.lemmas.List.Elements.{All-get_or}
use Rattle.chase_laws.specs.declared.entry.Entry.{Entry}
use Rattle.list_pool.specs.Counts.{times}
use Rattle.list_pool.specs.Pool.{list_at}
use Rattle.list_pool.proofs.CallerLemmas.{times_nil, times_from_Contains, Contains_from_times, one_place}
use Rattle.class_book.specs.Classes.{Classes, class_of, IsLabelled, IsClass}
use Rattle.class_book.specs.Roster.{IsRoster}
use Rattle.class_book.proofs.Merging.{bit, members_in_range}

module _ (labels sizes : List ℕ) (members : List (List ℕ)) (r : IsRoster labels sizes members) where
  -- a member has the label of its list
  pub listed_label : (l n : ℕ) → l < length labels → Contains (list_at members l) n → (n < length labels) × (get_or labels n 0 ≡ l)
  listed_label l n l_in stands = elim (cases_lt n (length labels)) [
    | inl h ↦ (
      h,
      elim (cases_eq (get_or labels n 0) l) [
        | inl e ↦ e
        | inr m ↦ let none : times (list_at members l) n ≡ 0 = r.stands l n l_in h ∙ ap bit (ne_eqb (get_or labels n 0) l m) in absurd (omega (arith, times_from_Contains (list_at members l) n stands))
      ],
    )
    | inr h ↦ absurd (omega (arith, r.nodes l n l_in h, times_from_Contains (list_at members l) n stands))
  ]

  -- a node stands in the list of its label
  pub label_listed : (l n : ℕ) → l < length labels → n < length labels → get_or labels n 0 ≡ l → Contains (list_at members l) n
  label_listed l n l_in n_in e =
      let one : times (list_at members l) n ≡ 1 = r.stands l n l_in n_in ∙ ap bit (eq-eqb (get_or labels n 0) l e) in
      Contains_from_times (list_at members l) n (omega arith)

  once_at : (l n : ℕ) → l < length labels → times (list_at members l) n ≤ 1
  once_at l n l_in = elim (cases_lt n (length labels)) [
    | inl h ↦ rw (r.stands l n l_in h) (small (get_or labels n 0 == l))
    | inr h ↦ omega (arith, r.nodes l n l_in h)
  ]
    where
      small : (b : Bool) → bit b ≤ 1
      small true = omega arith
      small false = omega arith

  -- the list of a label is the class of each node with the label
  pub is_class : (journal : List Entry) (a : ℕ) → IsLabelled labels journal → a < length labels → IsClass labels journal a (list_at members (get_or labels a 0))
  is_class journal a book a_in =
      let l : ℕ = get_or labels a 0 in
      let l_in : l < length labels = All-get_or (λ x. x < length labels) labels a 0 a_in book.in_range in
      record {
        in_range = members_in_range labels sizes members l r l_in;
        joined = λ n n_in. (
          λ stands. (book.classes a n a_in n_in).0 (sym (listed_label l n l_in stands).1),
          λ joined. label_listed l n l_in n_in (sym ((book.classes a n a_in n_in).1 joined)),
        );
        once = λ i j n e f. one_place (list_at members l) i j n (once_at l n l_in) e f;
      }

-- what holds of a node of a list holds as contracts say it
pub listed_class : (book : Classes) (sizes : List ℕ) → IsRoster book.labels sizes book.members → (a l n : ℕ) → l ≡ get_or book.labels a 0 → l < length book.labels →
    Contains (list_at book.members l) n → (n < length book.labels) × (class_of book n ≡ class_of book a)
listed_class book sizes r a l n is l_in stands =
    let h = listed_label book.labels sizes book.members r l n l_in stands in
    (h.0, ap (list_at book.members) (h.1 ∙ is))

-- a list with a cell has a first one
pub some_first : (xs : List ℕ) (c : ℕ) (o : Option ℕ) → Contains xs c → o ≡ slice_get xs 0 → is_some o ≡ true
some_first [] c o stands e = absurd (omega (arith, times_from_Contains [] c stands, times_nil c))
some_first (x ∷ xs) c o stands e = ap is_some e
