-- What is kept of names' types.
use Rattle.std.proofs.Common.{List, [], ◌∷◌, ◌++◌, ℕ, Option, Some, None, All, ◌≡◌, ◌<◌, ◌≤◌, ◌+◌, ◌↔◌, ◌∙◌, length, get_or, inl, inr, ap, sym, subst, length-append, arith}
use Rattle.std.proofs.Math.ListN.{get_or-append}
use Rattle.std.proofs.Math.Seq.{get_or-append_seam}
use Rattle.std.proofs.lemmas.Bool.{cases_lt}
use Rattle.std.proofs.lemmas.List.Elements.{All-contains}
use Rattle.std.specs.Prelude.{IsSomeAnd}
use Rattle.chase_laws.specs.Graph.{NumberedGraph, IsGraph, HasRow, HasType}
use Rattle.typed_graph.specs.declared.types.TypesOf.{TypesOf}
use Rattle.typed_graph.specs.declared.types.TypesOf.TheVariants.{Untyped, One, Several}
use Rattle.typed_graph.specs.Table.{Table, TableHas}
use Rattle.typed_graph.specs.Types.{IsTrueOf, AreTypes}

-- it is true of the same numbers, however these are given
pub true_same : (kept : TypesOf) (P Q : ℕ → Type 0) → ((t : ℕ) → P t ↔ Q t) → IsTrueOf kept P → IsTrueOf kept Q
true_same Untyped P Q same h = λ t q. h t ((same t).1 q)
true_same (One s) P Q same h = λ t. ((λ q. (h t).0 ((same t).1 q)), (λ e. (same t).0 ((h t).1 e)))
true_same Several P Q same h = h

-- what is true by the table is true by the rows that it has
pub true_by_rows : (T : Table) (R : ℕ → ℕ → ℕ → Type 0) → ((n p c : ℕ) → TableHas T n p c ↔ R n p c) → (rdf_type : Option ℕ) (kept : TypesOf) (n : ℕ)
    → IsTrueOf kept (λ t. IsSomeAnd rdf_type (λ p. TableHas T n p t)) → IsTrueOf kept (λ t. IsSomeAnd rdf_type (λ p. R n p t))
true_by_rows T R same None kept n h = h
true_by_rows T R same (Some p) kept n h = true_same kept (λ t. TableHas T n p t) (λ t. R n p t) (λ t. same n p t) h

-- one name more
pub types_push : (T : Table) (rdf_type : Option ℕ) (n : ℕ) (kept : List TypesOf) (x : TypesOf) → AreTypes T rdf_type n kept
    → IsTrueOf x (λ t. IsSomeAnd rdf_type (λ p. TableHas T n p t)) → AreTypes T rdf_type (n + 1) (kept ++ x ∷ [])
types_push T rdf_type n kept x are here =
    let Types : ℕ → TypesOf → Type 0 = λ m k. IsTrueOf k (λ t. IsSomeAnd rdf_type (λ p. TableHas T m p t)) in
    record {
      count = omega (arith, length-append kept (x ∷ []), are.count);
      each = λ m d h. elim (cases_lt m n) [
        | inl lt ↦
            (let in_kept : m < length kept = omega (arith, are.count) in
            subst (Types m) (sym (get_or-append kept (x ∷ []) d m in_kept)) (are.each m d lt))
        | inr le ↦
            (let last : length kept ≡ m = omega (arith, are.count) in
            let this : n ≡ m = omega arith in
            subst (Types m) (sym (ap (λ i. get_or (kept ++ x ∷ []) i d) (sym last) ∙ get_or-append_seam kept x [] d)) (subst (λ i. Types i x) this here))
      ];
    }

-- a number that is no name has no types
no_some : (rdf_type : Option ℕ) (R : ℕ → Type 0) → ((p : ℕ) → ¬ (R p)) → ¬ (IsSomeAnd rdf_type R)
no_some None R none h = h
no_some (Some p) R none h = none p h

no_row : (G : NumberedGraph) (n p t : ℕ) → IsGraph G → length G.literal ≤ n → ¬ (HasRow G n p t)
no_row G n p t graph above row =
    let below : n < length G.literal = All-contains (λ (r : List ℕ). All (λ m. m < length G.literal) r) G.rows (n ∷ p ∷ t ∷ []) graph row 0 0 (omega arith) in
    absurd (omega arith)

pub no_types : (G : NumberedGraph) (n t : ℕ) → IsGraph G → length G.literal ≤ n → ¬ (HasType G n t)
no_types G n t graph above = no_some G.rdf_type (λ p. HasRow G n p t) (λ p. no_row G n p t graph above)
