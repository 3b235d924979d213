-- Groups of one key after another.
use Rattle.std.proofs.Common.{List, [], ◌++◌, ℕ, Some, Contains, slice_get, get_or, length, ◌≡◌, ◌<◌, ◌≤◌, ◌+◌, ◌-◌, inl, inr, refl, sym, ◌∙◌, ap, subst, arith, length-append}
use Rattle.std.proofs.lemmas.Bool.{cases_eq, cases_lt}
use Rattle.std.proofs.lemmas.List.{get_or_append_left, get_or-append_right}
use Rattle.std.proofs.lemmas.List.Elements.{Contains-append_left, Contains-append_right, Contains-append_cases, Contains-get_or}
use Rattle.chase_laws.specs.Shape.{Shape}
use Rattle.chase_laws.specs.Graph.{NumberedGraph}
use Rattle.chase_laws.specs.Signature.{SignatureParts, parts_of, ArePartsOfSome, ListsShared}
use Rattle.valuation_groups.specs.Rows.{KeyRows, StandOnce}
use Rattle.valuation_groups.specs.Groups.{AreApart}
use Rattle.key_valuations.specs.Parts.{IsSharedIn}
use Rattle.key_valuations.specs.Listing.{AreAlikeInValues, AreSharedRowsOf}

some_same : (x y : Shape) → Some x ≡ Some y → x ≡ y
some_same x y e = cc

-- What is listed of the first keys: parts of valuations, of all whose values another name has, each once.
pub record AreListedTo (G : NumberedGraph) (K : List Shape) (n : ℕ) (listed : List SignatureParts) : Type 0 where
  pub only : (p : SignatureParts) → Contains listed p → ArePartsOfSome G K p
  pub every : (key : ℕ) (Q : Shape) (v w : List ℕ) → key < n → slice_get K key ≡ Some Q → AreAlikeInValues G Q v w → Contains listed (parts_of G key Q v)
  pub shared : (p : SignatureParts) → Contains listed p → IsSharedIn listed p
  pub below : (p : SignatureParts) → Contains listed p → p.key < n
  pub once : StandOnce listed

pub listed_none : (G : NumberedGraph) (K : List Shape) → AreListedTo G K 0 []
listed_none G K = record {
  only = λ p h. absurd (let k = h.1 in omega arith);
  every = λ key Q v w lt at alike. absurd (omega arith);
  shared = λ p h. absurd (let k = h.1 in omega arith);
  below = λ p h. absurd (let k = h.1 in omega arith);
  once = λ i j d lt in_j. absurd (omega arith);
}

pub apart_none : AreApart []
apart_none = record { apart = λ i j a b. absurd (omega arith); some = λ k d h. absurd (omega arith) }

-- no part stands twice in two lists that have no part in common, if none does in each
once_append : (xs ys : List SignatureParts) → StandOnce xs → StandOnce ys → ((p : SignatureParts) → Contains xs p → Contains ys p → ⊥) → StandOnce (xs ++ ys)
once_append xs ys a b apart i j d lt in_j = elim (cases_lt j (length xs)) [
  | inl before ↦ (λ same. a i j d lt before (sym (get_or_append_left xs ys d i (omega arith)) ∙ same ∙ get_or_append_left xs ys d j before))
  | inr past ↦ elim (cases_lt i (length xs)) [
    | inl here ↦ (λ same.
        let long = length-append xs ys in
        let x : get_or xs i d ≡ get_or ys (j - length xs) d = sym (get_or_append_left xs ys d i here) ∙ same ∙ get_or-append_right xs ys (length xs) j d refl past in
        apart (get_or xs i d) (Contains-get_or xs i d here) (subst (Contains ys) (sym x) (Contains-get_or ys (j - length xs) d (omega arith))))
    | inr there ↦ (λ same.
        let long = length-append xs ys in
        b (i - length xs) (j - length xs) d (omega arith) (omega arith) (sym (get_or-append_right xs ys (length xs) i d refl there) ∙ same ∙ get_or-append_right xs ys (length xs) j d refl past))
  ]
]

module _ (G : NumberedGraph) (K : List Shape) (n : ℕ) (Q : Shape) (at : slice_get K n ≡ Some Q) (listed : List SignatureParts) (rows : KeyRows) (before : AreListedTo G K n listed) (new : AreSharedRowsOf G Q n rows) where
  key_is : (p : SignatureParts) → Contains rows.parts p → p.key ≡ n
  key_is p h = let x = new.rows_of.only p h in ap (λ (q : SignatureParts). q.key) x.2

  pub listed_more : AreListedTo G K (n + 1) (listed ++ rows.parts)
  listed_more = record {
    only = λ p h. elim (Contains-append_cases listed rows.parts p h) [
      | inl old ↦ before.only p old
      | inr here ↦
          (let x = new.rows_of.only p here in
          let e = key_is p here in
          (Q, x.0, ap (slice_get K) e ∙ at, x.1, subst (λ (k : ℕ). p ≡ parts_of G k Q x.0) (sym e) x.2))
    ];
    every = λ key P v w lt found alike. elim (cases_eq key n) [
      | inl e ↦
          (let same : Q ≡ P = some_same Q P (sym at ∙ ap (slice_get K) (sym e) ∙ found) in
          let here = new.rows_of.every v w (subst (λ (S : Shape). AreAlikeInValues G S v w) (sym same) alike) in
          subst (λ (k : ℕ). Contains (listed ++ rows.parts) (parts_of G k P v)) (sym e)
          (subst (λ (S : Shape). Contains (listed ++ rows.parts) (parts_of G n S v)) same (Contains-append_right listed rows.parts (parts_of G n Q v) here)))
      | inr ne ↦ Contains-append_left listed rows.parts (parts_of G key P v) (before.every key P v w (omega arith) found alike)
    ];
    shared = λ p h. elim (Contains-append_cases listed rows.parts p h) [
      | inl old ↦ (let x = before.shared p old in (x.0, Contains-append_left listed rows.parts x.0 x.1, x.2, x.3, x.4))
      | inr here ↦ (let x = new.shared p here in (x.0, Contains-append_right listed rows.parts x.0 x.1, key_is x.0 x.1 ∙ sym (key_is p here), x.2, x.3))
    ];
    below = λ p h. elim (Contains-append_cases listed rows.parts p h) [
      | inl old ↦ (let k = before.below p old in omega arith)
      | inr here ↦ (let k = key_is p here in omega arith)
    ];
    once = once_append listed rows.parts before.once new.once (λ p old here. absurd (let k = before.below p old in let e = key_is p here in omega arith));
  }

-- the list of all keys
pub listed_all : (G : NumberedGraph) (K : List Shape) (n : ℕ) (listed : List SignatureParts) → length K ≤ n → AreListedTo G K n listed → ((key : ℕ) (Q : Shape) → slice_get K key ≡ Some Q → key < length K) → ListsShared G K listed
listed_all G K n listed all x within = record {
  only = λ k d h. x.only (get_or listed k d) (Contains-get_or listed k d h);
  every = λ key Q v w at a b apart values. x.every key Q v w (let h = within key Q at in omega arith) at (record { left = a; right = b; apart = apart; values = values });
}
