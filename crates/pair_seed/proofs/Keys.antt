-- What a key's edges ask for.
use Rattle.std.proofs.Common.{List, [], ◌∷◌, ◌++◌, true≢false, ℕ, Bool, true, false, Some, Contains, All, get_or, slice_get, slice_index, length, take, ◌≡◌, ◌<◌, ◌↔◌, ◌+◌, inl, inr, sym, ◌∙◌, ap, subst}
use Rattle.std.proofs.lemmas.Bool.{cases_lt}
use Rattle.std.proofs.lemmas.List.{get_or_past}
use Rattle.std.proofs.lemmas.List.Elements.{Contains-push, Contains-push_cases, Contains-append_left}
use Rattle.std.proofs.lemmas.Option.{slice_get_within, get_or_from_slice_get, slice_get-get_or}
use Rattle.chase_laws.specs.declared.pattern.Slot.{Slot}
use Rattle.chase_laws.specs.declared.pattern.Slot.TheVariants.{Entity}
use Rattle.chase_laws.specs.declared.pattern.Edge.{Edge}
use Rattle.chase_laws.specs.Shape.{Shape}
use Rattle.chase_laws.specs.Graph.{NumberedGraph, HasRow, HasType, IsLiteral}
use Rattle.chase_laws.specs.Valuation.{FitsSlot, Designates}
use Rattle.chase_laws.specs.Candidate.{Shares, SharesAlong, IsCandidateUnder}
use Rattle.typed_graph.specs.Table.{Table}
use Rattle.pair_seed.specs.declared.lead.Lead.{Lead}
use Rattle.pair_seed.specs.Folds.{HasAlike, Holds, IsFoldTable, Serves}
use Rattle.pair_seed.specs.Key.{SharesAtPlace, value_slot, IsLead}
use Rattle.pair_seed.specs.Bounds.{IsLedTo}
use Rattle.pair_seed.specs.Gathered.{HoldsOneOf}
use Rattle.pair_seed.proofs.Lists.{some_same, contains_at, contains_next, contains_before, contains_here}

-- some of the rows, whose object is a literal, has n as subject and a literal that is alike to c as object
pub record HasAlikeAmong (G : NumberedGraph) (rows : List (List ℕ)) (n p c : ℕ) : Type 0 where
  pub literal : ℕ
  pub is_literal : IsLiteral G literal
  pub row : Contains rows (n ∷ p ∷ literal ∷ [])
  pub alike : slice_index G.alike literal ≡ c

-- rows out that have the turned rows of those
abbrev pub AreFolded : NumberedGraph → List (List ℕ) → List (List ℕ) → Type 0
AreFolded G rows out = (c p n : ℕ) → Contains out (c ∷ p ∷ n ∷ []) ↔ HasAlikeAmong G rows n p c

-- one row more, whose object is a literal
pub folded_push : (G : NumberedGraph) (rows out new : List (List ℕ)) (i s q o : ℕ) → i < length rows → get_or rows i [] ≡ s ∷ q ∷ o ∷ [] → IsLiteral G o →
    AreFolded G (take i rows) out → new ≡ out ++ (slice_index G.alike o ∷ q ∷ s ∷ []) ∷ [] → AreFolded G (take (i + 1) rows) new
folded_push G rows out new i s q o in_i here literal before e c p n = rw e (
  (λ x. elim (Contains-push_cases out (slice_index G.alike o ∷ q ∷ s ∷ []) (c ∷ p ∷ n ∷ []) x) [
    | inl old ↦ (let h = (before c p n).0 old in record { literal = h.literal; is_literal = h.is_literal; row = contains_before rows i [] _ in_i h.row; alike = h.alike })
    | inr same ↦
        (let e0 : s ≡ n = cc in
        let e1 : q ≡ p = cc in
        let e2 : slice_index G.alike o ≡ c = cc in
        let at : get_or rows i [] ≡ n ∷ p ∷ o ∷ [] = cc in
        record { literal = o; is_literal = literal; row = subst (Contains (take (i + 1) rows)) at (contains_here rows i [] in_i); alike = e2 })
  ]),
  (λ h. elim (contains_next rows i [] (n ∷ p ∷ h.literal ∷ []) in_i h.row) [
    | inl old ↦ Contains-append_left out _ _ ((before c p n).1 (record { literal = h.literal; is_literal = h.is_literal; row = old; alike = h.alike }))
    | inr same ↦
        (let f : s ∷ q ∷ o ∷ [] ≡ n ∷ p ∷ h.literal ∷ [] = sym here ∙ same in
        let e0 : s ≡ n = cc in
        let e1 : q ≡ p = cc in
        let e2 : o ≡ h.literal = cc in
        let e3 : slice_index G.alike o ≡ c = ap (slice_index G.alike) e2 ∙ h.alike in
        let at : slice_index G.alike o ∷ q ∷ s ∷ [] ≡ c ∷ p ∷ n ∷ [] = cc in
        subst (Contains (out ++ (slice_index G.alike o ∷ q ∷ s ∷ []) ∷ [])) at (Contains-push out (slice_index G.alike o ∷ q ∷ s ∷ [])))
  ]),
)

-- one whose object is none
pub folded_skip : (G : NumberedGraph) (rows out : List (List ℕ)) (i s q o : ℕ) → i < length rows → get_or rows i [] ≡ s ∷ q ∷ o ∷ [] → ¬ (IsLiteral G o) →
    AreFolded G (take i rows) out → AreFolded G (take (i + 1) rows) out
folded_skip G rows out i s q o in_i here none before c p n = (
  (λ x. let h = (before c p n).0 x in record { literal = h.literal; is_literal = h.is_literal; row = contains_before rows i [] _ in_i h.row; alike = h.alike }),
  (λ h. elim (contains_next rows i [] (n ∷ p ∷ h.literal ∷ []) in_i h.row) [
    | inl old ↦ (before c p n).1 (record { literal = h.literal; is_literal = h.is_literal; row = old; alike = h.alike })
    | inr same ↦
        (let f : s ∷ q ∷ o ∷ [] ≡ n ∷ p ∷ h.literal ∷ [] = sym here ∙ same in
        let e2 : h.literal ≡ o = cc in
        absurd (none (subst (IsLiteral G) e2 h.is_literal)))
  ]),
)

-- all rows
pub folded_all : (G : NumberedGraph) (out : List (List ℕ)) → AreFolded G G.rows out → (c p n : ℕ) → Contains out (c ∷ p ∷ n ∷ []) ↔ HasAlike G n p c
folded_all G out folded c p n = (
  (λ x. let h = (folded c p n).0 x in record { literal = h.literal; is_literal = h.is_literal; row = h.row; alike = h.alike }),
  (λ h. (folded c p n).1 (record { literal = h.literal; is_literal = h.is_literal; row = h.row; alike = h.alike })),
)

-- a literal is a name
pub literal_named : (G : NumberedGraph) (n : ℕ) → IsLiteral G n → n < length G.literal
literal_named G n literal = elim (cases_lt n (length G.literal)) [
  | inl lt ↦ lt
  | inr le ↦ absurd (true≢false (sym literal ∙ get_or_past G.literal n false le))
]

-- what slot 0 asks of a name
pub designated_fits : (G : NumberedGraph) (Q : Shape) (t n : ℕ) → slice_get Q.slots 0 ≡ Some (Entity t) → ¬ (IsLiteral G n) × HasType G n t → Designates G Q n
designated_fits G Q t n at fits = (Entity t, at, fits)

pub designated_by : (G : NumberedGraph) (Q : Shape) (t n : ℕ) → slice_get Q.slots 0 ≡ Some (Entity t) → Designates G Q n → FitsSlot G (Entity t) n
designated_by G Q t n at d = subst (λ (s : Slot). FitsSlot G s n) (some_same d.0 (Entity t) (sym d.1 ∙ at)) d.2

-- what an edge from slot 0 asks for, by its slot
pub shares_slot : (G : NumberedGraph) (Q : Shape) (a b : ℕ) (e : Edge) (s : Slot) → slice_get Q.slots e.to ≡ Some s → e.from ≡ 0 → Shares G s e.pred a b ↔ SharesAlong G Q a b e
shares_slot G Q a b e s at from = (
  (λ h zero slot here. subst (λ (r : Slot). Shares G r e.pred a b) (some_same s slot (sym at ∙ here)) h),
  (λ h. h from s at),
)

-- each edge stands at a place
pub all_places : (G : NumberedGraph) (Q : Shape) (a b : ℕ) → ((place : ℕ) → SharesAtPlace G Q place a b) ↔ All (SharesAlong G Q a b) Q.edges
all_places G Q a b = (
  (λ h k d in_k. h k (get_or Q.edges k d) (slice_get-get_or Q.edges k d in_k)),
  (λ h place e here. subst (SharesAlong G Q a b) (get_or_from_slice_get Q.edges place e e here) (h place e (slice_get_within Q.edges place e here))),
)

-- a literal of a that b has, or where values are folded is alike to one of b, is shared
pub holds_shares : (G : NumberedGraph) (f : Bool) (p a b l : ℕ) → HasRow G a p l → IsLiteral G l → Holds G f b p l → Shares G (value_slot f) p a b
holds_shares G true p a b l row literal h = (l, h.literal, literal, h.is_literal, row, h.row, sym h.alike)
holds_shares G false p a b l row literal h = (l, literal, row, h)

pub shares_holds : (G : NumberedGraph) (f : Bool) (p a b : ℕ) → Shares G (value_slot f) p a b → (l : ℕ) × HasRow G a p l × IsLiteral G l × Holds G f b p l
shares_holds G true p a b s = (s.0, s.4, s.2, record { literal = s.1; is_literal = s.3; row = s.5; alike = sym s.6 })
shares_holds G false p a b s = (s.0, s.2, s.1, s.3)

module _ (G : NumberedGraph) (Q : Shape) (lead : Lead) (is : IsLead Q lead) where
  -- whom the lead's literals lead to shares one
  pub lead_shares : (a b l : ℕ) → HasRow G a lead.pred l → IsLiteral G l → Holds G lead.folded b lead.pred l → SharesAtPlace G Q lead.place a b
  lead_shares a b l row literal h e here =
      let same : is.edge ≡ e = some_same is.edge e (sym is.found ∙ here) in
      let shared : Shares G (value_slot lead.folded) is.edge.pred a b = subst (λ p. Shares G (value_slot lead.folded) p a b) (sym is.pred) (holds_shares G lead.folded lead.pred a b l row literal h) in
      subst (SharesAlong G Q a b) same ((shares_slot G Q a b is.edge (value_slot lead.folded) is.to is.from).0 shared)

  -- a literal of a leads to whom the key pairs with it
  pub lead_led : (a b : ℕ) → IsCandidateUnder G Q a b → IsLedTo G lead.folded a lead.pred b
  lead_led a b paired =
      let at : SharesAlong G Q a b is.edge = (all_places G Q a b).1 paired.share lead.place is.edge is.found in
      let s = shares_holds G lead.folded lead.pred a b (subst (λ p. Shares G (value_slot lead.folded) p a b) is.pred (at is.from (value_slot lead.folded) is.to)) in
      (s.0, s.2, s.1, s.3)

  -- to whom the key pairs with a one of the lead's literals leads
  pub lead_reaches : (a b : ℕ) → IsCandidateUnder G Q a b → (ls : List ℕ) → ((o : ℕ) → Contains ls o ↔ HasRow G a lead.pred o) → HoldsOneOf G lead.folded lead.pred ls b
  lead_reaches a b paired ls exact =
      let s = lead_led a b paired in
      (s.0, (exact s.0).1 s.2, s.1, s.3)

  -- a folded lead has its table
  pub lead_serves : (T : Table) → Serves G T Q → lead.folded ≡ true → IsFoldTable G T
  lead_serves T serves folded = serves is.edge (contains_at Q.edges lead.place is.edge is.found) (record { from = is.from; to = is.to ∙ ap (λ f. Some (value_slot f)) folded })
