-- A derivation with one more step.
use Rattle.std.proofs.Common.{List, [], ◌∷◌, ◌++◌, true, ◌≡◌, inl, inr, sym, subst}
use Rattle.chase_laws.specs.declared.entry.Entry.{Entry}
use Rattle.chase_laws.specs.Shape.{Shape}
use Rattle.chase_laws.specs.Graph.{NumberedGraph}
use Rattle.chase_laws.specs.Chase.{IsStep, IsDerivation, IsLean}
use Rattle.chase_laws.specs.Joined.{joined, links, Joined}
use Rattle.chase_laws.proofs.JoinedLaws.{joined_last, Within, Within-append}
use Rattle.chase_laws.proofs.Lists.{slice_get-push}
use Rattle.chase_laws.proofs.ChaseLaws.{links-push}

pub none_derived : (G : NumberedGraph) (K : List Shape) → IsDerivation G K [] × IsLean []
none_derived G K = ((λ i e h. absurd (cc)), (λ i e h. absurd (cc)))

pub IsDerivation-push : (G : NumberedGraph) (K : List Shape) (H : List Entry) (e : Entry) → IsDerivation G K H → IsStep G K H e → IsDerivation G K (H ++ e ∷ [])
IsDerivation-push G K H e d step i x at = elim (slice_get-push H e i x at) [
  | inl r ↦ subst (λ xs. IsStep G K xs x) (sym r.2) (d i x r.1)
  | inr r ↦ subst (λ xs. IsStep G K xs x) (sym r.1) (subst (IsStep G K H) r.0 step)
]

pub IsLean-push : (H : List Entry) (e : Entry) → IsLean H → ¬ (Joined H e.a e.b) → IsLean (H ++ e ∷ [])
IsLean-push H e l apart i x at = elim (slice_get-push H e i x at) [
  | inl r ↦ subst (λ xs. ¬ (Joined xs x.a x.b)) (sym r.2) (l i x r.1)
  | inr r ↦ subst (λ xs. ¬ (Joined xs x.a x.b)) (sym r.1) (subst (λ (y : Entry). ¬ (Joined H y.a y.b)) r.0 apart)
]

-- one more entry joins as much, and its ends
pub Within-links_push : (H : List Entry) (e : Entry) → Within (links H) (links (H ++ e ∷ []))
Within-links_push H e = subst (λ ps. Within (links H) ps) (sym (links-push H e)) (Within-append (links H) ((e.a, e.b) ∷ []))

pub joined_by_last : (H : List Entry) (e : Entry) → Joined (H ++ e ∷ []) e.a e.b
joined_by_last H e = subst (λ ps. joined ps e.a e.b ≡ true) (sym (links-push H e)) (joined_last (links H) e.a e.b)
