-- Runs of rows, one behind the other.
use Rattle.std.proofs.Common.{List, [], ◌++◌, ℕ, Option, Contains, slice_index, length, ◌≡◌, ◌+◌, ◌↔◌, inl, inr, sym, ◌∙◌, ap, subst, arith}
use Rattle.std.proofs.lemmas.Bool.{cases_lt, cases_eq}
use Rattle.std.proofs.lemmas.List.{get_or_default}
use Rattle.std.proofs.lemmas.List.Elements.{Contains-append_left, Contains-append_right, Contains-append_cases}
use Rattle.chase_laws.specs.Graph.{NumberedGraph}
use Rattle.chase_laws.specs.Shape.{Shape}
use Rattle.chase_laws.specs.Valuation.{IsValuation}
use Rattle.chase_laws.specs.Signature.{SignatureParts, parts_of}
use Rattle.valuation_groups.specs.Rows.{KeyRows, part_at, IsShared}
use Rattle.key_valuations.specs.declared.search.KeySearch.{KeySearch}
use Rattle.key_valuations.specs.Counts.{HasCounts}
use Rattle.key_valuations.specs.Leading.{leading_parts}
use Rattle.key_valuations.specs.Listing.{AddsSome, IsAt, AreAlikeInValues, AreRowsOf}
use Rattle.key_valuations.specs.Search.{IsSearch, AreLeadsOf, AreRowsAt}
use Rattle.key_valuations.proofs.LeadingLaws.{same_leadings}
use Rattle.key_valuations.proofs.ListingLaws.{counts_kept}

-- a pattern's counts are those of each of its rows
pub same_counts : (Q : Shape) (a b c d : ℕ) → NumberedGraph → HasCounts Q a b → HasCounts Q c d → (a ≡ c) × (b ≡ d)
same_counts Q a b c d G one other = (sym (one G []).0 ∙ (other G []).0, sym (one G []).1 ∙ (other G []).1)

module _ (search : KeySearch) where
  -- leading rows of two lists of names
  pub leads_both : (front back : List ℕ) (low high new : KeyRows) → AreLeadsOf search front low → AreLeadsOf search back high → new ≡ record low { parts = low.parts ++ high.parts } → AreLeadsOf search (front ++ back) new
  leads_both front back low high new a b e = subst (AreLeadsOf search (front ++ back)) (sym e) (record {
    leads = record { key = a.leads.key; value_count = a.leads.value_count; image_count = a.leads.image_count };
    every = λ v led h. elim (Contains-append_cases front back (slice_index v 0) h) [
      | inl here ↦ Contains-append_left low.parts high.parts _ (a.every v led here)
      | inr there ↦ Contains-append_right low.parts high.parts _ (b.every v led there)
    ];
  })

  module _ (leads : KeyRows) where
    -- no rows
    pub rows_none : (from : ℕ) (rows : KeyRows) → rows.key ≡ search.key → HasCounts search.pattern.now rows.value_count rows.image_count → rows.parts ≡ [] → AreRowsAt search leads from from rows
    rows_none from rows key counts none = record {
      key = key;
      counts = counts;
      only = λ p h. absurd (let k = (subst (λ (ps : List SignatureParts). Contains ps p) none h).1 in omega arith);
      every = λ v at. absurd (let a = at.after in let b = at.before in omega arith);
    }

    -- the rows of one row of leading values more
    pub rows_more : (from row : ℕ) (place : List ℕ) (marks : List (Option ℕ)) (name : ℕ) (old new : KeyRows) → AreRowsAt search leads from row old →
        AddsSome search.graph.now search.pattern.now (IsAt search.graph.now search.pattern.now place marks name) old new →
        ((v : List ℕ) → IsValuation search.graph.now search.pattern.now v → part_at leads.parts row ≡ leading_parts search.graph.now search.leading.now search.key v → IsAt search.graph.now search.pattern.now place marks name v) →
        AreRowsAt search leads from (row + 1) new
    rows_more from row place marks name old new before more here = record {
      key = more.key ∙ before.key;
      counts = counts_kept search.pattern.now old new more.value_count more.image_count before.counts;
      only = λ p h. elim (more.only p h) [
        | inl o ↦ before.only p o
        | inr y ↦ (y.0, y.1, subst (λ (key : ℕ). p ≡ parts_of search.graph.now key search.pattern.now y.0) before.key y.2)
      ];
      every = λ v at. elim (cases_eq at.row row) [
        | inl e ↦ subst (λ (key : ℕ). Contains new.parts (parts_of search.graph.now key search.pattern.now v)) before.key
            (more.every v (here v at.valuation (ap (part_at leads.parts) (sym e) ∙ at.is)))
        | inr ne ↦ more.kept (parts_of search.graph.now search.key search.pattern.now v)
            (before.every v (record { valuation = at.valuation; row = at.row; after = at.after; before = let b = at.before in omega arith; is = at.is }))
      ];
    }

    -- the rows of two runs
    pub rows_both : (from middle to : ℕ) (low high new : KeyRows) → AreRowsAt search leads from middle low → AreRowsAt search leads middle to high → new ≡ record low { parts = low.parts ++ high.parts } → AreRowsAt search leads from to new
    rows_both from middle to low high new a b e = subst (AreRowsAt search leads from to) (sym e) (record {
      key = a.key;
      counts = a.counts;
      only = λ p h. elim (Contains-append_cases low.parts high.parts p h) [
        | inl here ↦ a.only p here
        | inr there ↦ b.only p there
      ];
      every = λ v at. elim (cases_lt at.row middle) [
        | inl lt ↦ Contains-append_left low.parts high.parts _ (a.every v (record { valuation = at.valuation; row = at.row; after = at.after; before = lt; is = at.is }))
        | inr ge ↦ Contains-append_right low.parts high.parts _ (b.every v (record { valuation = at.valuation; row = at.row; after = ge; before = at.before; is = at.is }))
      ];
    })

  -- the rows of a key: those at leading values that another name has are all that matter
  pub rows_done : IsSearch search → (names : List ℕ) (leads shared rows : KeyRows) (to : ℕ) → ((v : List ℕ) → IsValuation search.graph.now search.pattern.now v → Contains names (slice_index v 0)) →
      AreLeadsOf search names leads → ((p : SignatureParts) → Contains shared.parts p ↔ (Contains leads.parts p × IsShared leads.parts p)) → to ≡ length shared.parts → AreRowsAt search shared 0 to rows →
      AreRowsOf search.graph.now search.pattern.now search.key rows
  rows_done is names leads shared rows to typed listed exact all at = record {
    key = at.key;
    only = at.only;
    every = λ v w alike.
        let G = search.graph.now in
        let Q = search.pattern.now in
        let turned : AreAlikeInValues G Q w v = record { left = alike.right; right = alike.left; apart = λ e. alike.apart (sym e); values = sym alike.values } in
        let front : List ℕ → SignatureParts = leading_parts G search.leading.now search.key in
        let here = listed.every v (w, alike) (typed v alike.left) in
        let there = listed.every w (v, turned) (typed w alike.right) in
        let kept = (exact (front v)).1 (here, (front w, there, sym (same_leadings G Q search.leading.now is.leading v w alike), λ e. alike.apart (sym e))) in
        at.every v (record {
          valuation = alike.left;
          row = kept.0;
          after = omega arith;
          before = let k = kept.1 in omega arith;
          is = get_or_default shared.parts kept.0 _ (front v) kept.1 ∙ kept.2;
        });
  }
