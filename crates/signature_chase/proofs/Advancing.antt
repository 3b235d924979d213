-- What entries leave as it is.
use Rattle.std.proofs.Common.{List, [], ◌∷◌, ◌++◌, ℕ, zero, suc, Bool, All, Contains, map, slice_index, length, drop, get_or, cond, ◌≡◌, ◌≢◌, ◌<◌, ◌≤◌, ◌+◌, ◌⊎◌, ◌==◌, inl, inr, refl, sym, ◌∙◌, ap, ap₂, subst, arith, append_assoc, ne_eqb}
use Rattle.std.specs.Prelude.{if◌then◌else◌}
use Rattle.std.proofs.lemmas.Bool.{cases_eq, cond-false}
use Rattle.std.proofs.lemmas.List.{get_or-map, length-map, length_push, append-nil, length-append}
use Rattle.std.proofs.lemmas.List.Elements.{All-contains}
use Rattle.list_pool.specs.Pool.{list_at}
use Rattle.chase_laws.specs.declared.entry.Entry.{Entry}
use Rattle.chase_laws.specs.Signature.{labels_of, IsCoarser}
use Rattle.class_book.specs.Classes.{Classes, relabelled}
use Rattle.valuation_groups.specs.Groups.{GroupShape, group_at, row_in}
use Rattle.signature_chase.specs.Settled.{IsSettled, AreSettledBut, image_labels, name_label}
use Rattle.signature_chase.specs.Setting.{HasRowAt, IsNamedRow, AreOwnersOf}
use Rattle.signature_chase.specs.Advance.{Advances}

pub advance_none : (groups : List GroupShape) (book : Classes) (waiting : List ℕ) → Advances groups book book waiting waiting
advance_none groups book waiting = record {
  count = refl;
  coarser = λ m n hm hn e. e;
  kept = λ g h. h;
  unmoved = λ g i m h w k. refl;
  begins = ([], sym (append-nil book.journal));
  gain = inl refl;
}

pub grown : (old new : List Entry) → ((more : List Entry) × (new ≡ old ++ more)) → length old ≤ length new
grown old new b = let e = ap (λ (xs : List Entry). length xs) b.1 ∙ length-append old b.0 in omega arith

pub advance_more : (groups : List GroupShape) (a b c : Classes) (u v w : List ℕ) → Advances groups a b u v → Advances groups b c v w → Advances groups a c u w
advance_more groups a b c u v w x y = record {
  count = y.count ∙ x.count;
  coarser = λ m n hm hn e. y.coarser m n (rw x.count hm) (rw x.count hn) (x.coarser m n hm hn e);
  kept = λ g h. y.kept g (x.kept g h);
  unmoved = λ g i m h none k. y.unmoved g i m h none k ∙ x.unmoved g i m h (λ waits. none (y.kept g waits)) k;
  begins = (x.begins.0 ++ y.begins.0, y.begins.1 ∙ ap (λ J. J ++ y.begins.0) x.begins.1 ∙ append_assoc a.journal x.begins.0 y.begins.0);
  gain = elim x.gain [
    | inl e ↦ elim y.gain [
      | inl f ↦ inl (f ∙ e)
      | inr lt ↦ inr (let le = grown a.journal b.journal x.begins in omega arith)
    ]
    | inr lt ↦ inr (let le = grown b.journal c.journal y.begins in omega arith)
  ];
}

-- ---- one entry

relabelled_at : (labels : List ℕ) (from to m : ℕ) → m < length labels → slice_index (relabelled labels from to) m ≡ cond (slice_index labels m == from) to (slice_index labels m)
relabelled_at labels from to m h = get_or-map (λ l. cond (l == from) to l) labels m 0 0 h

-- an entry relabels names, and all their owners wait
pub advance_entered : (groups : List GroupShape) (old new : Classes) (waiting waiting' : List ℕ) (owners : List (List ℕ)) (from to : ℕ) (e : Entry) →
    AreOwnersOf groups (length old.labels) owners →
    ((g i : ℕ) → HasRowAt groups g i → IsNamedRow (length old.labels) (row_in (group_at groups g) i)) →
    new.labels ≡ relabelled old.labels from to → new.journal ≡ old.journal ++ e ∷ [] →
    ((g : ℕ) → Contains waiting g → Contains waiting' g) →
    ((m g : ℕ) → m < length old.labels → slice_index old.labels m ≡ from → Contains (list_at owners m) g → Contains waiting' g) →
    Advances groups old new waiting waiting'
advance_entered groups old new waiting waiting' owners from to e owned named made entered kept woken = record {
  count = ap (λ (xs : List ℕ). length xs) made ∙ length-map old.labels (λ l. cond (l == from) to l);
  coarser = λ m n hm hn same. read m hm ∙ ap (λ l. cond (l == from) to l) same ∙ sym (read n hn);
  kept = kept;
  unmoved = λ g i m h none k.
      let in_m : m < length old.labels = All-contains (λ x. x < length old.labels) (drop 1 (row_in (group_at groups g) i)) m (named g i h).images k in
      read m in_m ∙ cond-false (slice_index old.labels m == from) to (slice_index old.labels m)
      (ne_eqb (slice_index old.labels m) from (λ goes. none (woken m g in_m goes (owned.every g i m h k))));
  begins = (e ∷ [], entered);
  gain = inr (let l = ap (λ (xs : List Entry). length xs) entered ∙ length_push old.journal e in omega arith);
}
  where
    read : (m : ℕ) → m < length old.labels → slice_index new.labels m ≡ cond (slice_index old.labels m == from) to (slice_index old.labels m)
    read m h = ap (λ (xs : List ℕ). slice_index xs m) made ∙ relabelled_at old.labels from to m h

-- ---- groups

pub labels_same : (labels labels' xs : List ℕ) → ((m : ℕ) → Contains xs m → slice_index labels' m ≡ slice_index labels m) → labels_of labels' xs ≡ labels_of labels xs
labels_same labels labels' [] same = refl
labels_same labels labels' (x ∷ xs) same = ap₂ (λ l ls. l ∷ ls) (same x (0, omega arith, refl)) (labels_same labels labels' xs (λ m h. same m (suc h.0, omega (arith, h.1), h.2)))

-- a settled group that does not wait stays settled
pub stays_settled : (groups : List GroupShape) (old new : Classes) (waiting waiting' : List ℕ) → Advances groups old new waiting waiting' → (g : ℕ) → g < length groups →
    ((i : ℕ) → i < length (group_at groups g).rows → IsNamedRow (length old.labels) (row_in (group_at groups g) i)) →
    ¬ (Contains waiting' g) → IsSettled old.labels (group_at groups g) → IsSettled new.labels (group_at groups g)
stays_settled groups old new waiting waiting' x g in_g named none settled i j hi hj same =
    let group = group_at groups g in
    let left = labels_same old.labels new.labels (drop 1 (row_in group i)) (λ m k. x.unmoved g i m (in_g, hi) none k) in
    let right = labels_same old.labels new.labels (drop 1 (row_in group j)) (λ m k. x.unmoved g j m (in_g, hj) none k) in
    x.coarser (slice_index (row_in group i) 0) (slice_index (row_in group j) 0) (named i hi).name (named j hj).name
    (settled i j hi hj (sym left ∙ same ∙ right))

-- after a look at one group
pub settled_but : (groups : List GroupShape) (old new : Classes) (waiting waiting' : List ℕ) → Advances groups old new waiting waiting' →
    ((g i : ℕ) → HasRowAt groups g i → IsNamedRow (length old.labels) (row_in (group_at groups g) i)) → (looked : ℕ) →
    AreSettledBut groups (looked ∷ waiting) old.labels → (¬ (Contains waiting' looked) → IsSettled new.labels (group_at groups looked)) → AreSettledBut groups waiting' new.labels
settled_but groups old new waiting waiting' x named looked before here g in_g none = elim (cases_eq g looked) [
  | inl e ↦ subst (λ k. IsSettled new.labels (group_at groups k)) (sym e) (here (subst (λ k. ¬ (Contains waiting' k)) e none))
  | inr d ↦ stays_settled groups old new waiting waiting' x g in_g (λ i h. named g i (in_g, h)) none
      (before g in_g (λ h. elim (front looked waiting g h) [ inl e ↦ d e | inr k ↦ none (x.kept g k) ]))
]
  where
    front : (y : ℕ) (ys : List ℕ) (z : ℕ) → Contains (y ∷ ys) z → (z ≡ y) ⊎ Contains ys z
    front y ys z h = go h.0 h.1 h.2
      where
        go : (k : ℕ) → k < length (y ∷ ys) → get_or (y ∷ ys) k z ≡ z → (z ≡ y) ⊎ Contains ys z
        go zero lt e = inl (sym e)
        go (suc k) lt e = inr (k, omega arith, e)
