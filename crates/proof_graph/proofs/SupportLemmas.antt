-- What a way is as a support.
use Rattle.std.proofs.Common.{List, [], ◌∷◌, ℕ, suc, ◌+◌, ◌<◌, ◌≤◌, Bool, true, false, true≢false, eqb-true, eq-eqb, ◌⊎◌, inl, inr, nat_eq, Option, Some, None, Result, Ok, Err, IfOk, IfSome, IsSome, All, length, get_or, take, ◌≡◌, ◌↔◌, refl, sym, ap, subst, ◌∙◌, arith}
use Rattle.std.proofs.lemmas.List.{take_all, length-map, take_more}
use Rattle.std.proofs.lemmas.List.Elements.{All-push, All-weaker}
use Rattle.std.proofs.lemmas.Option.{slice_get-get_or}
use Rattle.chase_laws.specs.declared.entry.Entry.{Entry}
use Rattle.chase_laws.specs.Joined.{joined, joined_by, links}
use Rattle.chase_laws.proofs.CallerLemmas.{joined_nil, joined_refl, joined_sym, joined_parts}
use Rattle.std.proofs.lemmas.Bool.{cases_lt, false_from_ne_true}
use Rattle.proof_file.specs.Leads.{links_lead}
use Rattle.proof_file.specs.Steps.{NoneTwice}
use Rattle.proof_graph.specs.Way.{way}
use Rattle.proof_graph.proofs.WayLemmas.{way-leads, on_way, way-once, Once}

pub once_pairs : (xs : List ℕ) → Once xs → NoneTwice xs
once_pairs xs once i j d l h e =
    let same = once i j (get_or xs i d) (slice_get-get_or xs i d (omega arith)) (slice_get-get_or xs j d h ∙ ap Some (sym e)) in
    omega arith

module _ (H : List Entry) (a b : ℕ) (h : joined_by H a b ≡ true) where
  whole : joined (take (length H) (links H)) a b ≡ true
  whole = let n : length (links H) ≡ length H = length-map H (λ (e : Entry). (e.a, e.b)) in ap (λ l. joined l a b) (take_all (length H) (links H) (omega arith)) ∙ h

  pub way_leads : links_lead nat_eq (links H) (way (links H) (length H) a b) a b ≡ true
  way_leads = way-leads (links H) (length H) a b whole

  pub way_below : All (λ p. p < length H) (way (links H) (length H) a b)
  way_below i d l = (on_way (links H) (length H) a b whole i (get_or (way (links H) (length H) a b) i d) (slice_get-get_or (way (links H) (length H) a b) i d l)).below

  pub way_once : NoneTwice (way (links H) (length H) a b)
  way_once = once_pairs (way (links H) (length H) a b) (way-once (links H) (length H) a b whole)

-- what is so of the way is so of the places that were found
pub of_places : {V E : Type 0} (items : V → List ℕ) (P : List ℕ → Type 0) (H : List Entry) (a b : ℕ) (r : Result (Option V) E) →
    IfOk r (λ o. IsSome o ↔ (joined_by H a b ≡ true)) → IfOk r (λ o. IfSome o (λ v. items v ≡ way (links H) (length H) a b)) →
    (joined_by H a b ≡ true → P (way (links H) (length H) a b)) → IfOk r (λ o. IfSome o (λ v. P (items v)))
of_places items P H a b (Err e) some is p = tt
of_places items P H a b (Ok None) some is p = tt
of_places items P H a b (Ok (Some v)) some is p = subst P (sym is) (p (some.0 refl))

-- one entry more is below a greater number
pub ends_more : (H : List Entry) (i count more : ℕ) (e : Entry) → i < length H → e ≡ get_or H i e → count ≤ more → e.a < more → e.b < more →
    All (λ (f : Entry). (f.a < count) × (f.b < count)) (take i H) → All (λ (f : Entry). (f.a < more) × (f.b < more)) (take (i + 1) H)
ends_more H i count more e l is le a b h =
    let P : Entry → Type 0 = λ f. (f.a < more) × (f.b < more) in
    subst (All P) (sym (take_more H i e l))
    (All-push P (take i H) (get_or H i e) (All-weaker (λ (f : Entry). (f.a < count) × (f.b < count)) P (λ f q. let x = q.0 in let y = q.1 in (omega arith, omega arith)) (take i H) h) (subst P is (a, b)))

-- a name that no entry has is joined with itself alone
pub alone : (H : List Entry) (count a b : ℕ) → All (λ (e : Entry). (e.a < count) × (e.b < count)) H → count ≤ a → joined (links H) a b ≡ true → a ≡ b
alone [] count a b ends far h = joined_nil a b h
alone (e ∷ H) count a b ends far h =
    let rest : All (λ (f : Entry). (f.a < count) × (f.b < count)) H = λ i d l. ends (suc i) d (omega arith) in
    let first = ends 0 e (omega arith) in
    let x = first.0 in
    let y = first.1 in
    elim (joined_parts e.a e.b (links H) a b h) [
      | inl k ↦ alone H count a b rest far k
      | inr m ↦ elim m [
        | inl k ↦ absurd (let q = alone H count a e.a rest far k.0 in omega arith)
        | inr k ↦ absurd (let q = alone H count a e.b rest far k.0 in omega arith)
      ]
    ]

both_ways : (p q : Bool) → (p ≡ true → q ≡ true) → (q ≡ true → p ≡ true) → p ≡ q
both_ways true q f g = sym (f refl)
both_ways false q f g = sym (false_from_ne_true q (λ h. true≢false (sym (g h))))

pub alone_test : (H : List Entry) (count a b : ℕ) → All (λ (e : Entry). (e.a < count) × (e.b < count)) H → (count ≤ a) ⊎ (count ≤ b) → nat_eq a b ≡ joined_by H a b
alone_test H count a b ends far =
    both_ways (nat_eq a b) (joined (links H) a b)
    (λ e. subst (λ w. joined (links H) a w ≡ true) (eqb-true a b e) (joined_refl (links H) a))
    (λ h. eq-eqb a b (go far h))
  where
    go : (count ≤ a) ⊎ (count ≤ b) → joined (links H) a b ≡ true → a ≡ b
    go (inl f) h = alone H count a b ends f h
    go (inr f) h = sym (alone H count b a ends f (joined_sym (links H) a b h))

-- names that are joined and two stand in the journal
pub inside_both : (H : List Entry) (count a b : ℕ) → All (λ (e : Entry). (e.a < count) × (e.b < count)) H → joined_by H a b ≡ true → (a ≡ b → ⊥) → (a < count) × (b < count)
inside_both H count a b ends h ne = (
  elim (cases_lt a count) [ inl l ↦ l | inr f ↦ absurd (ne (alone H count a b ends f h)) ],
  elim (cases_lt b count) [ inl l ↦ l | inr f ↦ absurd (ne (sym (alone H count b a ends f (joined_sym (links H) a b h)))) ],
)
