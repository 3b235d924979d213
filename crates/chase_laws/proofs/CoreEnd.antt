-- What a finished state has, what a view shows, and how many entries there can be.
use Rattle.std.proofs.Common.{List, [], ◌∷◌, ◌++◌, ℕ, zero, suc, true, false, Bool, Option, Some, All, Contains, slice_get, get_or, take, unwrap_or, length, ◌≡◌, ◌<◌, ◌≤◌, ◌+◌, ◌⊎◌, inl, inr, IsTrue, refl, sym, ◌∙◌, ap, subst, arith, eqb, eqb-true, ne_eqb, length-append}
use Rattle.std.specs.List.{list_any}
use Rattle.std.proofs.lemmas.Bool.{or_cases}
use Rattle.std.proofs.lemmas.Option.{slice_get_within, slice_get-get_or}
use Rattle.std.proofs.lemmas.List.Elements.{All-push, All-head, All-tail}
use Rattle.std.proofs.lemmas.List.Folds.{Any-from_list_any}
use Rattle.std.proofs.lemmas.Map.Keys.{IsDistinct-from_apart}
use Rattle.std.proofs.lemmas.Map.Steps.{length-le_from_distinct_below}
use Rattle.chase_laws.specs.declared.entry.Entry.{Entry}
use Rattle.chase_laws.specs.declared.pair_state.PairState.TheVariants as state
use Rattle.chase_laws.specs.Shape.{Shape}
use Rattle.chase_laws.specs.Graph.{NumberedGraph}
use Rattle.chase_laws.specs.Valuation.{IsMatch, Matches}
use Rattle.chase_laws.specs.Chase.{IsStep, IsLean, IsClosed}
use Rattle.chase_laws.specs.Joined.{links, joined_by, Joined}
use Rattle.chase_laws.specs.View.{label_in, same_by}
use Rattle.chase_laws.specs.Core.{Task, IsTask, State, name_count, ListsNear, IsPresent, PairAt, EndsApart, IsFinished, IsSound}
use Rattle.chase_laws.proofs.JoinedLaws.{joined_refl}
use Rattle.chase_laws.proofs.EntityLaws.{both_equal_parts}
use Rattle.chase_laws.proofs.Lists.{slice_get-from_Contains, slice_get-within, All-at, Contains-from_slice_get}
use Rattle.chase_laws.proofs.ChaseLaws.{IsMatch-grows}
use Rattle.chase_laws.proofs.Derivations.{IsLean-push, joined_by_last}
use Rattle.chase_laws.proofs.Bound.{lean_bound, Within-take}
use Rattle.chase_laws.proofs.Turned.{IsClosed-from_ascending}
use Rattle.chase_laws.proofs.CoreEvents.{near_named}

-- ---- a finished state

-- a pair that a key identifies has been joined
finished_pair : (T : Task) → IsTask T → (S : State) → IsSound T S → IsFinished S → (a b : ℕ) → a < b → Matches T.graph T.patterns (joined_by S.journal) a b → Joined S.journal a b
finished_pair T ok S sound done a b lt m =
    let p = slice_get-from_Contains T.pairs (a, b) (ok.able a b (lt, (links S.journal, m))) in
    let within : p.0 < length S.pairs = rw sound.one_state_each (slice_get_within T.pairs p.0 (a, b) p.1) in
    let s = slice_get-within S.pairs p.0 within in
    let at : PairAt T p.0 a b = p.1 in
    elim (All-at (λ t. (t ≡ state.Missed) ⊎ (t ≡ state.Joined)) S.pairs p.0 s.0 done s.1) [
      | inl e ↦ absurd (sound.missed p.0 a b at (s.1 ∙ ap Some e) m)
      | inr e ↦ sound.joined p.0 a b at (s.1 ∙ ap Some e)
    ]

pub finished_closed : (T : Task) → IsTask T → (S : State) → IsSound T S → IsFinished S → IsClosed T.graph T.patterns S.journal
finished_closed T ok S sound done = IsClosed-from_ascending T.graph T.patterns S.journal (finished_pair T ok S sound done)

-- ---- a view

-- what is the same by a view with the labels of a state is joined in that state
pub view_joined : (T : Task) → IsTask T → (S : State) → IsSound T S → (a b : ℕ) (view : List (ℕ × ℕ)) → ListsNear T a b view → IsPresent S view →
    (m n : ℕ) → IsTrue (same_by view m n) → Joined S.journal m n
view_joined T ok S sound a b view lists present m n h = elim (or_cases _ _ h) [
  | inl e ↦ subst (Joined S.journal m) (eqb-true m n e) (joined_refl (links S.journal) m)
  | inr e ↦
      (let k = both_equal_parts (label_in view m) (label_in view n) e in
      (sound.labels m n (named m k.0 k.1) (named n k.0 k.2)).0 (sym (present m k.0 k.1) ∙ present n k.0 k.2))
]
  where
    named : (i l : ℕ) → label_in view i ≡ Some l → i < length S.labels
    named i l at = elim ((lists i).0 (rw at refl)) [
      | inl x ↦ near_named T ok S.labels sound.one_label_each a i x
      | inr x ↦ near_named T ok S.labels sound.one_label_each b i x
    ]

-- what a key has up to a sameness is a step from entries that join as much
pub found_step : (G : NumberedGraph) (K : List Shape) (H : List Entry) (e : Entry) (Q : Shape) (same : ℕ → ℕ → Bool) → slice_get K e.key ≡ Some Q →
    IsMatch G Q same e.a e.b e.left e.right → ((m n : ℕ) → IsTrue (same m n) → Joined H m n) → IsStep G K H e
found_step G K H e Q same at found more = record {
  pattern = Q;
  key = at;
  witness = IsMatch-grows G Q same (joined_by H) e.a e.b e.left e.right more found;
}

-- ---- how many entries

module _ (pairs : List (ℕ × ℕ)) where
  -- the place of each entry's ends among the pairs
  places : (H : List Entry) → All (λ e. Contains pairs (e.a, e.b)) H → List ℕ
  places [] all = []
  places (e ∷ H) all = (All-head (λ (x : Entry). Contains pairs (x.a, x.b)) e H all).0 ∷ places H (All-tail (λ (x : Entry). Contains pairs (x.a, x.b)) e H all)

  length-places : (H : List Entry) (all : All (λ e. Contains pairs (e.a, e.b)) H) → length (places H all) ≡ length H
  unfolding places
  length-places [] all = refl
  length-places (e ∷ H) all = ap suc (length-places H (All-tail (λ (x : Entry). Contains pairs (x.a, x.b)) e H all))

  place_at : (H : List Entry) (all : All (λ e. Contains pairs (e.a, e.b)) H) (i d : ℕ) (e : Entry) → slice_get H i ≡ Some e → slice_get pairs (get_or (places H all) i d) ≡ Some (e.a, e.b)
  unfolding places
  place_at [] all i d e at = absurd (cc)
  place_at (x ∷ H) all zero d e at =
      let c = All-head (λ (x : Entry). Contains pairs (x.a, x.b)) x H all in
      let same : x ≡ e = cc in
      slice_get-get_or pairs c.0 (x.a, x.b) c.1 ∙ ap Some c.2 ∙ ap (λ (y : Entry). Some (y.a, y.b)) same
  place_at (x ∷ H) all (suc i) d e at = place_at H (All-tail (λ (x : Entry). Contains pairs (x.a, x.b)) x H all) i d e at

  places_differ : (H : List Entry) (all : All (λ e. Contains pairs (e.a, e.b)) H) → IsLean H → (i j d : ℕ) → i < j → j < length (places H all) → eqb (get_or (places H all) i d) (get_or (places H all) j d) ≡ false
  places_differ H all lean i j d lt h =
      let in_j : j < length H = let l = length-places H all in omega arith in
      let e = slice_get-within H i (let x : i < length H = omega arith in x) in
      let f = slice_get-within H j in_j in
      ne_eqb (get_or (places H all) i d) (get_or (places H all) j d) (λ same.
      let x : Some (e.0.a, e.0.b) ≡ Some (f.0.a, f.0.b) = sym (place_at H all i d e.0 e.1) ∙ ap (slice_get pairs) same ∙ place_at H all j d f.0 f.1 in
      let a : e.0.a ≡ f.0.a = ap (λ (o : Option (ℕ × ℕ)). (unwrap_or o (0, 0)).0) x in
      let b : e.0.b ≡ f.0.b = ap (λ (o : Option (ℕ × ℕ)). (unwrap_or o (0, 0)).1) x in
      let met : Joined (take j H) e.0.a e.0.b = Within-take H i j e.0 e.1 lt e.0.a e.0.b (joined_by_last (take i H) e.0) in
      lean j f.0 f.1 (subst (λ m. Joined (take j H) m f.0.b) a (subst (Joined (take j H) e.0.a) b met)))

  places_within : (H : List Entry) (all : All (λ e. Contains pairs (e.a, e.b)) H) (q : ℕ) → list_any (eqb q) (places H all) ≡ true → q < length pairs
  places_within H all q h =
      let a = Any-from_list_any (eqb q) (places H all) h in
      let in_k : a.0 < length H = let l = length-places H all in omega (arith, a.2) in
      let e = slice_get-within H a.0 in_k in
      let x : q ≡ get_or (places H all) a.0 a.1 = eqb-true q a.1 a.4 ∙ sym a.3 in
      rw x (slice_get_within pairs (get_or (places H all) a.0 a.1) (e.0.a, e.0.b) (place_at H all a.0 a.1 e.0 e.1))

  -- at most as many lean entries as pairs that they are between
  pub at_most_pairs : (H : List Entry) → IsLean H → All (λ e. Contains pairs (e.a, e.b)) H → length H ≤ length pairs
  at_most_pairs H lean all =
      let b = length-le_from_distinct_below (places H all) (length pairs) (IsDistinct-from_apart eqb (places H all) (places_differ H all lean)) (places_within H all) in
      let l = length-places H all in omega arith

-- the ends of entries are names
ends_named : (T : Task) → IsTask T → (H : List Entry) → All (λ e. Contains T.pairs (e.a, e.b)) H → All (λ e. (e.a < name_count T) × (e.b < name_count T)) H
ends_named T ok H all i d h =
    let c = all i d h in
    let named = ok.named c.0 (0, 0) c.1 in
    let at = slice_get-get_or T.pairs c.0 (0, 0) c.1 in
    let same : Some (get_or T.pairs c.0 (0, 0)) ≡ Some ((get_or H i d).a, (get_or H i d).b) = sym at ∙ slice_get-get_or T.pairs c.0 ((get_or H i d).a, (get_or H i d).b) c.1 ∙ ap Some c.2 in
    let a : (get_or T.pairs c.0 (0, 0)).0 ≡ (get_or H i d).a = ap (λ (o : Option (ℕ × ℕ)). (unwrap_or o (0, 0)).0) same in
    let b : (get_or T.pairs c.0 (0, 0)).1 ≡ (get_or H i d).b = ap (λ (o : Option (ℕ × ℕ)). (unwrap_or o (0, 0)).1) same in
    (omega arith, omega arith)

-- while the ends of a pair are not joined, there may come one more
pub room_left : (T : Task) → IsTask T → (S : State) → IsSound T S → (p : ℕ) → EndsApart T S p → (length S.journal < length T.pairs) × (length S.journal + 1 < name_count T)
room_left T ok S sound p h =
    let e : Entry = record { a = h.0; b = h.1; key = 0; left = []; right = [] } in
    let lean = IsLean-push S.journal e sound.lean h.3 in
    let ends = All-push (λ (x : Entry). Contains T.pairs (x.a, x.b)) S.journal e sound.ends (Contains-from_slice_get T.pairs p (h.0, h.1) h.2) in
    let few = at_most_pairs T.pairs (S.journal ++ e ∷ []) lean ends in
    let within = slice_get_within T.pairs p (h.0, h.1) h.2 in
    let named = All-at (λ (q : ℕ × ℕ). (q.0 < q.1) × (q.1 < name_count T)) T.pairs p (h.0, h.1) ok.named h.2 in
    let fewer = lean_bound (S.journal ++ e ∷ []) lean (name_count T) (omega arith) (ends_named T ok (S.journal ++ e ∷ []) ends) in
    (omega (arith, length-append S.journal (e ∷ [])), omega (arith, length-append S.journal (e ∷ [])))
