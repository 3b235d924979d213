-- The way between two joined numbers: it leads there, along links that join, each once.
use Rattle.std.proofs.Common.{List, [], ◌∷◌, ◌++◌, ℕ, zero, suc, ◌+◌, ◌<◌, ◌≤◌, Bool, true, false, ◌||◌, ◌&&◌, nat_eq, Option, Some, None, length, slice_get, take, ◌≡◌, ◌⊎◌, inl, inr, refl, sym, ap, subst, ◌∙◌, arith, true≢false, eq-eqb, eqb-true, if◌then◌else◌}
use Rattle.std.proofs.lemmas.Bool.{and_parts, cases_Bool, cases_lt, cond-true, cond-false}
use Rattle.chase_laws.specs.Joined.{joined}
use Rattle.chase_laws.proofs.CallerLemmas.{joined_nil, joined_refl, joined_sym, joined_trans, joined_head, joined-push, joined_last, Within, Within-nil, Within-cons, Within-trans, Within-more}
use Rattle.proof_file.specs.Leads.{other_end, end_along, arrives, links_lead}
use Rattle.proof_graph.specs.Way.{through, way}

take-nil : (t : ℕ) → ◌≡◌ {A = List (ℕ × ℕ)} [] (take t [])
take-nil zero = refl
take-nil (suc t) = refl

-- a longer front joins no less
pub fronts : (ps : List (ℕ × ℕ)) (e t : ℕ) → e ≤ t → Within (take e ps) (take t ps)
fronts ps zero t le = Within-nil (take t ps)
fronts [] (suc e) t le = λ a b h. subst (λ l. joined l a b ≡ true) (take-nil t) h
fronts (p ∷ ps) (suc e) zero le = absurd (omega arith)
fronts (p ∷ ps) (suc e) (suc t) le = Within-cons p.0 p.1 (take e ps) (p ∷ take t ps) (joined_head p.0 p.1 (take t ps)) (Within-trans (take e ps) (take t ps) (p ∷ take t ps) (fronts ps e t (omega arith)) (Within-more p (take t ps)))

-- the next front
next_front : (ps : List (ℕ × ℕ)) (n : ℕ) (o : Option (ℕ × ℕ)) → slice_get ps n ≡ o → (o ≡ None × (take (suc n) ps ≡ take n ps)) ⊎ ((l : ℕ × ℕ) × (o ≡ Some l) × (take (suc n) ps ≡ take n ps ++ l ∷ []))
next_front [] zero o at = inl (sym at, refl)
next_front [] (suc n) o at = inl (sym at, refl)
next_front (p ∷ ps) zero o at = inr (p, sym at, refl)
next_front (p ∷ ps) (suc n) o at = elim (next_front ps n o at) [
  | inl r ↦ inl (r.0, ap (λ l. p ∷ l) r.1)
  | inr r ↦ inr (r.0, r.1, ap (λ l. p ∷ l) r.2)
]

-- what link number n joins
pub record Parted (ps : List (ℕ × ℕ)) (n x y : ℕ) : Type 0 where
  pub link : ℕ × ℕ
  pub at : slice_get ps n ≡ Some link
  pub ends : ((joined (take n ps) x link.0 ≡ true) × (joined (take n ps) link.1 y ≡ true)) ⊎ ((joined (take n ps) x link.0 ≡ false) × (joined (take n ps) x link.1 ≡ true) × (joined (take n ps) link.0 y ≡ true))

pub three : (p q r s t : Bool) → (p || (q && r) || (s && t)) ≡ true → (p ≡ true) ⊎ (((q ≡ true) × (r ≡ true)) ⊎ ((s ≡ true) × (t ≡ true)))
three true q r s t h = inl refl
three false true true s t h = inr (inl (refl, refl))
three false true false s t h = inr (inr (and_parts s t h))
three false false r s t h = inr (inr (and_parts s t h))

link_forward : (front : List (ℕ × ℕ)) (link : ℕ × ℕ) (x y : ℕ) → joined front x y ≡ false → joined front x link.0 ≡ true → joined (front ++ link ∷ []) x y ≡ true → joined front link.1 y ≡ true
link_forward front link x y apart near h = elim (three (joined front x y) (joined front x link.0) (joined front link.1 y) (joined front x link.1) (joined front link.0 y) (sym (joined-push front link.0 link.1 x y) ∙ h)) [
  | inl t ↦ absurd (true≢false (sym t ∙ apart))
  | inr u ↦ elim u [
    | inl t ↦ t.1
    | inr t ↦ absurd (true≢false (sym (joined_trans front x link.0 y near t.1) ∙ apart))
  ]
]

link_back : (front : List (ℕ × ℕ)) (link : ℕ × ℕ) (x y : ℕ) → joined front x y ≡ false → joined front x link.0 ≡ false → joined (front ++ link ∷ []) x y ≡ true → (joined front x link.1 ≡ true) × (joined front link.0 y ≡ true)
link_back front link x y apart off h = elim (three (joined front x y) (joined front x link.0) (joined front link.1 y) (joined front x link.1) (joined front link.0 y) (sym (joined-push front link.0 link.1 x y) ∙ h)) [
  | inl t ↦ absurd (true≢false (sym t ∙ apart))
  | inr u ↦ elim u [
    | inl t ↦ absurd (true≢false (sym t.0 ∙ off))
    | inr t ↦ t
  ]
]

pub parted : (ps : List (ℕ × ℕ)) (n x y : ℕ) → joined (take n ps) x y ≡ false → joined (take (suc n) ps) x y ≡ true → Parted ps n x y
parted ps n x y apart h = elim (next_front ps n (slice_get ps n) refl) [
  | inl r ↦ absurd (true≢false (sym h ∙ ap (λ l. joined l x y) r.1 ∙ apart))
  | inr r ↦
      (let front = take n ps in
      let link : ℕ × ℕ = r.0 in
      let split = ap (λ l. joined l x y) (sym r.2) ∙ h in
      record {
        link = link;
        at = r.1;
        ends = elim (cases_Bool (joined front x link.0)) [
          | inl near ↦ inl (near, link_forward front link x y apart near split)
          | inr off ↦ (let o = link_back front link x y apart off split in inr (off, o.0, o.1))
        ];
      })
]

-- ---- equations of the way

pub way-joined : (ps : List (ℕ × ℕ)) (n x y : ℕ) → joined (take n ps) x y ≡ true → way ps (suc n) x y ≡ way ps n x y
unfolding way
way-joined ps n x y h = cond-true (joined (take n ps) x y) (way ps n x y) (through (take n ps) (way ps n) n (slice_get ps n) x y) h

way-zero : (ps : List (ℕ × ℕ)) (x y : ℕ) → way ps zero x y ≡ []
unfolding way
way-zero ps x y = refl

way-apart : (ps : List (ℕ × ℕ)) (n x y : ℕ) → joined (take n ps) x y ≡ false → way ps (suc n) x y ≡ through (take n ps) (way ps n) n (slice_get ps n) x y
unfolding way
way-apart ps n x y h = cond-false (joined (take n ps) x y) (way ps n x y) (through (take n ps) (way ps n) n (slice_get ps n) x y) h

pub way-forward : (ps : List (ℕ × ℕ)) (n x y : ℕ) (link : ℕ × ℕ) → slice_get ps n ≡ Some link → joined (take n ps) x y ≡ false → joined (take n ps) x link.0 ≡ true →
    way ps (suc n) x y ≡ way ps n x link.0 ++ n ∷ way ps n link.1 y
way-forward ps n x y link at apart near =
    way-apart ps n x y apart ∙ ap (λ o. through (take n ps) (way ps n) n o x y) at
    ∙ cond-true (joined (take n ps) x link.0) (way ps n x link.0 ++ n ∷ way ps n link.1 y) (way ps n x link.1 ++ n ∷ way ps n link.0 y) near

pub way-back : (ps : List (ℕ × ℕ)) (n x y : ℕ) (link : ℕ × ℕ) → slice_get ps n ≡ Some link → joined (take n ps) x y ≡ false → joined (take n ps) x link.0 ≡ false →
    way ps (suc n) x y ≡ way ps n x link.1 ++ n ∷ way ps n link.0 y
way-back ps n x y link at apart off =
    way-apart ps n x y apart ∙ ap (λ o. through (take n ps) (way ps n) n o x y) at
    ∙ cond-false (joined (take n ps) x link.0) (way ps n x link.0 ++ n ∷ way ps n link.1 y) (way ps n x link.1 ++ n ∷ way ps n link.0 y) off

-- later links change nothing for what is joined
pub way-stable : (ps : List (ℕ × ℕ)) (e t x y : ℕ) → e ≤ t → joined (take e ps) x y ≡ true → way ps t x y ≡ way ps e x y
way-stable ps e zero x y le h = let z : 0 ≡ e = omega arith in ap (λ n. way ps n x y) z
way-stable ps e (suc t) x y le h = elim (cases_lt t e) [
  | inl more ↦ (let z : suc t ≡ e = omega arith in ap (λ n. way ps n x y) z)
  | inr less ↦ way-joined ps t x y (fronts ps e t less x y h) ∙ way-stable ps e t x y less h
]

pub way-same : (ps : List (ℕ × ℕ)) (t x : ℕ) → way ps t x x ≡ []
way-same ps t x = way-stable ps 0 t x x (omega arith) (joined_refl (take 0 ps) x) ∙ way-zero ps x x

-- ---- it leads there

end_along-none : (ps : List (ℕ × ℕ)) (ns : List ℕ) → end_along nat_eq ps ns None ≡ None
end_along-none ps [] = refl
end_along-none ps (n ∷ ns) = refl

end_along-append : (ps : List (ℕ × ℕ)) (ms ns : List ℕ) (o : Option ℕ) → end_along nat_eq ps (ms ++ ns) o ≡ end_along nat_eq ps ns (end_along nat_eq ps ms o)
end_along-append ps [] ns o = refl
end_along-append ps (m ∷ ms) ns None = sym (end_along-none ps ns)
end_along-append ps (m ∷ ms) ns (Some x) = end_along-append ps ms ns (other_end nat_eq (slice_get ps m) x)

pub way-end_along : (ps : List (ℕ × ℕ)) (t x y : ℕ) → joined (take t ps) x y ≡ true → end_along nat_eq ps (way ps t x y) (Some x) ≡ Some y
way-end_along ps zero x y h = let e : x ≡ y = joined_nil x y h in ap (λ l. end_along nat_eq ps l (Some x)) (way-zero ps x y) ∙ ap Some e
way-end_along ps (suc t) x y h = elim (cases_Bool (joined (take t ps) x y)) [
  | inl before ↦ ap (λ l. end_along nat_eq ps l (Some x)) (way-joined ps t x y before) ∙ way-end_along ps t x y before
  | inr apart ↦ (let p = parted ps t x y apart h in elim p.ends [
    | inl f ↦
        (ap (λ l. end_along nat_eq ps l (Some x)) (way-forward ps t x y p.link p.at apart f.0)
        ∙ end_along-append ps (way ps t x p.link.0) (t ∷ way ps t p.link.1 y) (Some x)
        ∙ ap (end_along nat_eq ps (t ∷ way ps t p.link.1 y)) (way-end_along ps t x p.link.0 f.0)
        ∙ ap (λ o. end_along nat_eq ps (way ps t p.link.1 y) (other_end nat_eq o p.link.0)) p.at
        ∙ ap (end_along nat_eq ps (way ps t p.link.1 y)) (cond-true (nat_eq p.link.0 p.link.0) (Some p.link.1) (if nat_eq p.link.0 p.link.1 then Some p.link.0 else None) (eq-eqb p.link.0 p.link.0 refl))
        ∙ way-end_along ps t p.link.1 y f.1)
    | inr b ↦
        (ap (λ l. end_along nat_eq ps l (Some x)) (way-back ps t x y p.link p.at apart b.0)
        ∙ end_along-append ps (way ps t x p.link.1) (t ∷ way ps t p.link.0 y) (Some x)
        ∙ ap (end_along nat_eq ps (t ∷ way ps t p.link.0 y)) (way-end_along ps t x p.link.1 b.1)
        ∙ ap (λ o. end_along nat_eq ps (way ps t p.link.0 y) (other_end nat_eq o p.link.1)) p.at
        ∙ ap (end_along nat_eq ps (way ps t p.link.0 y)) (other_end-second p.link)
        ∙ way-end_along ps t p.link.0 y b.2)
  ])
]
  where
    other_end-second : (link : ℕ × ℕ) → other_end nat_eq (Some link) link.1 ≡ Some link.0
    other_end-second link = elim (cases_Bool (nat_eq link.1 link.0)) [
      | inl same ↦ cond-true (nat_eq link.1 link.0) (Some link.1) (if nat_eq link.1 link.1 then Some link.0 else None) same ∙ ap Some (eqb-true link.1 link.0 same)
      | inr other ↦ cond-false (nat_eq link.1 link.0) (Some link.1) (if nat_eq link.1 link.1 then Some link.0 else None) other ∙ cond-true (nat_eq link.1 link.1) (Some link.0) None (eq-eqb link.1 link.1 refl)
    ]

pub way-leads : (ps : List (ℕ × ℕ)) (t x y : ℕ) → joined (take t ps) x y ≡ true → links_lead nat_eq ps (way ps t x y) x y ≡ true
way-leads ps t x y h = ap (λ o. arrives nat_eq o y) (way-end_along ps t x y h) ∙ eq-eqb y y refl

-- ---- each link once

split_at : {X : Type 0} (xs ys : List X) (i : ℕ) (x : X) → slice_get (xs ++ ys) i ≡ Some x → (slice_get xs i ≡ Some x) ⊎ ((j : ℕ) × (i ≡ length xs + j) × (slice_get ys j ≡ Some x))
split_at [] ys i x at = let z : i ≡ 0 + i = omega arith in inr (i, z, at)
split_at (z ∷ xs) ys zero x at = inl at
split_at (z ∷ xs) ys (suc i) x at = elim (split_at xs ys i x at) [
  | inl h ↦ inl h
  | inr r ↦ (let e = r.1 in let n : suc i ≡ suc (length xs) + r.0 = omega arith in inr (r.0, n, r.2))
]

-- a place on the way is that of a link which is joined with its beginning
pub record OnWay (ps : List (ℕ × ℕ)) (t x p : ℕ) : Type 0 where
  pub below : p < t
  pub link : ℕ × ℕ
  pub at : slice_get ps p ≡ Some link
  pub joins : joined (take t ps) x link.0 ≡ true

later : (ps : List (ℕ × ℕ)) (t x p : ℕ) → OnWay ps t x p → OnWay ps (suc t) x p
later ps t x p w = let l = w.below in record { below = omega arith; link = w.link; at = w.at; joins = fronts ps t (suc t) (omega arith) x w.link.0 w.joins }

pub link_joins : (ps : List (ℕ × ℕ)) (t : ℕ) (link : ℕ × ℕ) → slice_get ps t ≡ Some link → joined (take (suc t) ps) link.0 link.1 ≡ true
link_joins ps t link at = elim (next_front ps t (Some link) at) [
  | inl r ↦ absurd (let n = r.0 in cc)
  | inr r ↦ (let e : r.0 ≡ link = (let both : Some link ≡ Some r.0 = r.1 in cc) in ap (λ l. joined l link.0 link.1) r.2 ∙ ap (λ (q : ℕ × ℕ). joined (take t ps ++ q ∷ []) link.0 link.1) e ∙ joined_last (take t ps) link.0 link.1)
]

-- through a link to what goes on from its other end
past : (ps : List (ℕ × ℕ)) (t x c d p : ℕ) → joined (take t ps) x c ≡ true → joined (take (suc t) ps) c d ≡ true → OnWay ps t d p → OnWay ps (suc t) x p
past ps t x c d p near over w =
    let l = w.below in
    record {
      below = omega arith;
      link = w.link;
      at = w.at;
      joins = joined_trans (take (suc t) ps) x d w.link.0 (joined_trans (take (suc t) ps) x c d (fronts ps t (suc t) (omega arith) x c near) over) (fronts ps t (suc t) (omega arith) d w.link.0 w.joins);
    }

-- what stands on a way that a link parts
on_through : (ps : List (ℕ × ℕ)) (t x c d p : ℕ) (link : ℕ × ℕ) (first second : List ℕ) → slice_get ps t ≡ Some link → joined (take t ps) x c ≡ true → joined (take (suc t) ps) c d ≡ true → joined (take (suc t) ps) x link.0 ≡ true →
    ((k : ℕ) → slice_get first k ≡ Some p → OnWay ps t x p) → ((k : ℕ) → slice_get second k ≡ Some p → OnWay ps t d p) →
    (k : ℕ) → slice_get (first ++ t ∷ second) k ≡ Some p → OnWay ps (suc t) x p
on_through ps t x c d p link first second at near over here on_first on_second k h = elim (split_at first (t ∷ second) k p h) [
  | inl f ↦ later ps t x p (on_first k f)
  | inr r ↦ tail r.0 r.2
]
  where
    tail : (j : ℕ) → slice_get (t ∷ second) j ≡ Some p → OnWay ps (suc t) x p
    tail zero e = let same : t ≡ p = cc in subst (λ q. OnWay ps (suc t) x q) same (record { below = omega arith; link = link; at = at; joins = here })
    tail (suc j) e = past ps t x c d p near over (on_second j e)

pub on_way : (ps : List (ℕ × ℕ)) (t x y : ℕ) → joined (take t ps) x y ≡ true → (k p : ℕ) → slice_get (way ps t x y) k ≡ Some p → OnWay ps t x p
on_way ps zero x y h k p at = absurd (let none : slice_get [] k ≡ Some p = ap (λ l. slice_get l k) (sym (way-zero ps x y)) ∙ at in cc)
on_way ps (suc t) x y h k p at = elim (cases_Bool (joined (take t ps) x y)) [
  | inl before ↦ later ps t x p (on_way ps t x y before k p (ap (λ l. slice_get l k) (sym (way-joined ps t x y before)) ∙ at))
  | inr apart ↦ (let q = parted ps t x y apart h in
      let over = link_joins ps t q.link q.at in
      elim q.ends [
        | inl f ↦ on_through ps t x q.link.0 q.link.1 p q.link (way ps t x q.link.0) (way ps t q.link.1 y) q.at f.0 over (fronts ps t (suc t) (omega arith) x q.link.0 f.0)
            (λ i e. on_way ps t x q.link.0 f.0 i p e) (λ i e. on_way ps t q.link.1 y f.1 i p e) k (ap (λ l. slice_get l k) (sym (way-forward ps t x y q.link q.at apart f.0)) ∙ at)
        | inr b ↦ on_through ps t x q.link.1 q.link.0 p q.link (way ps t x q.link.1) (way ps t q.link.0 y) q.at b.1 (joined_sym (take (suc t) ps) q.link.0 q.link.1 over)
            (joined_trans (take (suc t) ps) x q.link.1 q.link.0 (fronts ps t (suc t) (omega arith) x q.link.1 b.1) (joined_sym (take (suc t) ps) q.link.0 q.link.1 over))
            (λ i e. on_way ps t x q.link.1 b.1 i p e) (λ i e. on_way ps t q.link.0 y b.2 i p e) k (ap (λ l. slice_get l k) (sym (way-back ps t x y q.link q.at apart b.0)) ∙ at)
      ])
]

-- no place twice
abbrev pub Once : List ℕ → Type 0
Once xs = (i j p : ℕ) → slice_get xs i ≡ Some p → slice_get xs j ≡ Some p → i ≡ j

once_through : (n : ℕ) (first second : List ℕ) → Once first → Once second → ((i p : ℕ) → slice_get first i ≡ Some p → p < n) → ((i p : ℕ) → slice_get second i ≡ Some p → p < n) →
    ((i j p : ℕ) → slice_get first i ≡ Some p → slice_get second j ≡ Some p → ⊥) → Once (first ++ n ∷ second)
once_through n first second a b below_a below_b apart i j p at_i at_j = elim (split_at first (n ∷ second) i p at_i) [
  | inl f ↦ elim (split_at first (n ∷ second) j p at_j) [
    | inl g ↦ a i j p f g
    | inr s ↦ absurd (no_first i s.0 f s.2)
  ]
  | inr r ↦ elim (split_at first (n ∷ second) j p at_j) [
    | inl g ↦ absurd (no_first j r.0 g r.2)
    | inr s ↦ (let e = same r.0 s.0 r.2 s.2 in let l = r.1 in let m = s.1 in omega arith)
  ]
]
  where
    no_first : (i k : ℕ) → slice_get first i ≡ Some p → slice_get (n ∷ second) k ≡ Some p → ⊥
    no_first i zero f e = let l = below_a i p f in let same : n ≡ p = cc in omega arith
    no_first i (suc k) f e = apart i k p f e

    same : (k l : ℕ) → slice_get (n ∷ second) k ≡ Some p → slice_get (n ∷ second) l ≡ Some p → k ≡ l
    same zero zero e f = refl
    same zero (suc l) e f = let m = below_b l p f in let g : n ≡ p = cc in absurd (omega arith)
    same (suc k) zero e f = let m = below_b k p e in let g : n ≡ p = cc in absurd (omega arith)
    same (suc k) (suc l) e f = ap suc (b k l p e f)

pub way-once : (ps : List (ℕ × ℕ)) (t x y : ℕ) → joined (take t ps) x y ≡ true → Once (way ps t x y)
way-once ps zero x y h = λ i j p at_i at_j. absurd (let none : slice_get [] i ≡ Some p = ap (λ l. slice_get l i) (sym (way-zero ps x y)) ∙ at_i in cc)
way-once ps (suc t) x y h = elim (cases_Bool (joined (take t ps) x y)) [
  | inl before ↦ subst Once (sym (way-joined ps t x y before)) (way-once ps t x y before)
  | inr apart ↦ (let q = parted ps t x y apart h in elim q.ends [
    | inl f ↦ subst Once (sym (way-forward ps t x y q.link q.at apart f.0)) (once_through t (way ps t x q.link.0) (way ps t q.link.1 y) (way-once ps t x q.link.0 f.0) (way-once ps t q.link.1 y f.1)
        (λ i p e. (on_way ps t x q.link.0 f.0 i p e).below) (λ i p e. (on_way ps t q.link.1 y f.1 i p e).below)
        (λ i j p e g. apart_ways q.link.1 apart f.1 p (on_way ps t x q.link.0 f.0 i p e) (on_way ps t q.link.1 y f.1 j p g)))
    | inr b ↦ subst Once (sym (way-back ps t x y q.link q.at apart b.0)) (once_through t (way ps t x q.link.1) (way ps t q.link.0 y) (way-once ps t x q.link.1 b.1) (way-once ps t q.link.0 y b.2)
        (λ i p e. (on_way ps t x q.link.1 b.1 i p e).below) (λ i p e. (on_way ps t q.link.0 y b.2 i p e).below)
        (λ i j p e g. apart_ways q.link.0 apart b.2 p (on_way ps t x q.link.1 b.1 i p e) (on_way ps t q.link.0 y b.2 j p g)))
  ])
]
  where
    apart_ways : (d : ℕ) → joined (take t ps) x y ≡ false → joined (take t ps) d y ≡ true → (p : ℕ) → OnWay ps t x p → OnWay ps t d p → ⊥
    apart_ways d apart to p v w =
        let front = take t ps in
        let e : v.link ≡ w.link = (let both : Some v.link ≡ Some w.link = sym v.at ∙ w.at in cc) in
        let back = subst (λ (q : ℕ × ℕ). joined front d q.0 ≡ true) (sym e) w.joins in
        true≢false (sym (joined_trans front x d y (joined_trans front x v.link.0 d v.joins (joined_sym front d v.link.0 back)) to) ∙ apart)
