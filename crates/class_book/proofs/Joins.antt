-- What one more entry joins, by the law of what pairs join.
use Rattle.std.proofs.Common.{List, [], ◌∷◌, ◌++◌, ℕ, Bool, true, ◌||◌, ◌&&◌, ◌==◌, ◌≡◌, ◌⊎◌, inl, inr, refl, ap, sym, ◌∙◌, subst}
use Rattle.std.proofs.lemmas.Bool.{or_cases, and_parts, and_from, or_left, or_right}
use Rattle.std.specs.Prelude.{IsTrue}
use Rattle.chase_laws.specs.declared.entry.Entry.{Entry}
use Rattle.chase_laws.specs.Joined.{joined, links, Joined}

-- the law, as its clauses say it
pub record Law : Type 0 where
  pub reflexive : (ps : List (ℕ × ℕ)) (a : ℕ) → IsTrue (joined ps a a)
  pub symmetric : (ps : List (ℕ × ℕ)) (a b : ℕ) → IsTrue (joined ps a b) → IsTrue (joined ps b a)
  pub transitive : (ps : List (ℕ × ℕ)) (a b c : ℕ) → IsTrue (joined ps a b) → IsTrue (joined ps b c) → IsTrue (joined ps a c)
  pub last : (ps : List (ℕ × ℕ)) (c d a b : ℕ) → joined (ps ++ (c, d) ∷ []) a b ≡ (joined ps a b || (joined ps a c && joined ps d b) || (joined ps a d && joined ps c b))
  pub grows : (ps more : List (ℕ × ℕ)) (a b : ℕ) → IsTrue (joined ps a b) → IsTrue (joined (ps ++ more) a b)

links-push : (H : List Entry) (e : Entry) → links (H ++ e ∷ []) ≡ links H ++ (e.a, e.b) ∷ []
links-push [] e = refl
links-push (x ∷ H) e = ap (λ ps. (x.a, x.b) ∷ ps) (links-push H e)

one_of : (a b c d e : Bool) → (a || (b && c) || (d && e)) ≡ true → (a ≡ true) ⊎ (((b ≡ true) × (c ≡ true)) ⊎ ((d ≡ true) × (e ≡ true)))
one_of a b c d e h = elim (or_cases (a || (b && c)) (d && e) h) [
  | inl k ↦ elim (or_cases a (b && c) k) [ inl x ↦ inl x | inr y ↦ inr (inl (and_parts b c y)) ]
  | inr k ↦ inr (inr (and_parts d e k))
]

-- with no entry only what is equal is joined
pub none_join : (a b : ℕ) → joined [] a b ≡ (a == b)
unfolding joined
none_join a b = refl

module _ (law : Law) where
  -- what entries join, one more joins too
  pub joins_more : (H : List Entry) (e : Entry) (m n : ℕ) → Joined H m n → Joined (H ++ e ∷ []) m n
  joins_more H e m n h = subst (λ ps. joined ps m n ≡ true) (sym (links-push H e)) (law.grows (links H) ((e.a, e.b) ∷ []) m n h)

  -- what one more entry joins
  pub joins_parts : (H : List Entry) (e : Entry) (m n : ℕ) → Joined (H ++ e ∷ []) m n →
      Joined H m n ⊎ ((Joined H m e.a × Joined H e.b n) ⊎ (Joined H m e.b × Joined H e.a n))
  joins_parts H e m n h =
      let ps = links H in
      one_of (joined ps m n) (joined ps m e.a) (joined ps e.b n) (joined ps m e.b) (joined ps e.a n)
      (sym (law.last ps e.a e.b m n) ∙ subst (λ qs. joined qs m n ≡ true) (links-push H e) h)

  pub joins_ends : (H : List Entry) (e : Entry) → Joined (H ++ e ∷ []) e.a e.b
  joins_ends H e =
      let ps = links H in
      let ends = and_from (joined ps e.a e.a) (joined ps e.b e.b) (law.reflexive ps e.a) (law.reflexive ps e.b) in
      subst (λ qs. joined qs e.a e.b ≡ true) (sym (links-push H e))
      (law.last ps e.a e.b e.a e.b ∙ or_left (joined ps e.a e.b || (joined ps e.a e.a && joined ps e.b e.b)) (joined ps e.a e.b && joined ps e.a e.b)
      (or_right (joined ps e.a e.b) (joined ps e.a e.a && joined ps e.b e.b) ends))
