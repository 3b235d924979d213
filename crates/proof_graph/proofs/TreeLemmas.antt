-- Ways up in trees of names, and what they say of joined names.
use Rattle.std.proofs.Common.{List, [], ◌∷◌, ◌++◌, ℕ, zero, suc, ◌+◌, ◌<◌, ◌≤◌, Bool, true, false, ◌||◌, ◌&&◌, nat_eq, Some, length, slice_get, take, ◌≡◌, ◌≢◌, ◌⊎◌, ◌↔◌, inl, inr, refl, sym, ap, subst, ◌∙◌, arith, true≢false, eq-eqb, eqb-true}
use Rattle.std.proofs.lemmas.Bool.{cases_lt, cases_eq, or_left, or_right, and_from, false_from_ne_true}
use Rattle.std.proofs.lemmas.List.{take_all}
use Rattle.chase_laws.specs.declared.entry.Entry.{Entry}
use Rattle.chase_laws.specs.Joined.{joined, links}
use Rattle.chase_laws.proofs.CallerLemmas.{joined_nil, joined_refl, joined_sym, joined_trans, joined-push}
use Rattle.proof_graph.specs.declared.trees.Node.{Node}
use Rattle.proof_graph.specs.Tree.{never, since, above, by_b, AreLone, Climbs, stays, goes, IsForest, near_end, far_end, IsHung, AreTreesOf, Hangs}
use Rattle.proof_graph.proofs.WayLemmas.{three}

-- ---- one way up

pub climb_end : (nodes : List Node) (t x r : ℕ) → Climbs nodes t x r → t ≤ since nodes r
climb_end nodes t x r (stays h) = h
climb_end nodes t x r (goes h c) = climb_end nodes t (above nodes x) r c

pub climb_once : (nodes : List Node) (t x r s : ℕ) → Climbs nodes t x r → Climbs nodes t x s → r ≡ s
climb_once nodes t x r s (stays h) (stays k) = refl
climb_once nodes t x r s (stays h) (goes k d) = absurd (omega arith)
climb_once nodes t x r s (goes h c) (stays k) = absurd (omega arith)
climb_once nodes t x r s (goes h c) (goes k d) = climb_once nodes t (above nodes x) r s c d

pub climb_inside : (nodes : List Node) (t x r : ℕ) → IsForest nodes → x < length nodes → Climbs nodes t x r → r < length nodes
climb_inside nodes t x r f i (stays h) = i
climb_inside nodes t x r f i (goes h c) = climb_inside nodes t (above nodes x) r f (f.inside x i) c

-- a way up that goes on
pub climb_more : (nodes : List Node) (t x u r : ℕ) → Climbs nodes t x u → since nodes u < t → Climbs nodes t (above nodes u) r → Climbs nodes t x r
climb_more nodes t x u r (stays h) l c = absurd (omega arith)
climb_more nodes t x u r (goes h d) l c = goes h (climb_more nodes t (above nodes x) u r d l c)

-- the same way up, up to a later place that the end does not pass
pub climb_raise : (nodes : List Node) (t u x r : ℕ) → t ≤ u → u ≤ since nodes r → Climbs nodes t x r → Climbs nodes u x r
climb_raise nodes t u x r le h (stays k) = stays h
climb_raise nodes t u x r le h (goes k c) = goes (omega arith) (climb_raise nodes t u (above nodes x) r le h c)

-- and one step more
pub climb_step : (nodes : List Node) (t x r : ℕ) → t ≤ since nodes r → since nodes r < since nodes (above nodes r) → Climbs nodes t x r → Climbs nodes (since nodes r + 1) x (above nodes r)
climb_step nodes t x r le l (stays k) = goes (omega arith) (stays (omega arith))
climb_step nodes t x r le l (goes k c) = goes (omega arith) (climb_step nodes t (above nodes x) r le l c)

-- ---- one more is hung

module _ (old new : List Node) (s r k : ℕ) (side : Bool) (h : Hangs old new s r k side) where
  hung_since : since new s ≡ k
  hung_since = h.hung.1

  -- ways up before it are as before
  pub climb_back : (t x u : ℕ) → t ≤ k → since old s ≡ never → t ≤ never → Climbs new t x u → Climbs old t x u
  climb_back t x u le top small (stays e) = elim (cases_eq x s) [
    | inl same ↦ (let f = ap (since old) same in stays (omega arith))
    | inr other ↦ (let f = (h.others x other).1 in stays (omega arith))
  ]
  climb_back t x u le top small (goes e c) = elim (cases_eq x s) [
    | inl same ↦ absurd (let f = ap (since new) same in let g = hung_since in omega arith)
    | inr other ↦
        (let o = h.others x other in
        let f = o.1 in
        goes (omega arith) (subst (λ y. Climbs old t y u) o.0 (climb_back t (above new x) u le top small c)))
  ]

  -- after it, who came to its top comes to the top above
  pub climb_over : (x u : ℕ) → since old s ≡ never → since old r ≡ never → k < never → s ≢ r → ((y : ℕ) → since old y < never → since old y < k) → Climbs new (k + 1) x u →
      (v : ℕ) × Climbs old k x v × (((v ≡ s) × (u ≡ r)) ⊎ ((v ≢ s) × (u ≡ v)))
  climb_over x u tops topr small ne made (stays e) = elim (cases_eq x s) [
    | inl same ↦ absurd (let f = ap (since new) same in let g = hung_since in omega arith)
    | inr other ↦ (let f = (h.others x other).1 in (x, stays (omega arith), inr (other, refl)))
  ]
  climb_over x u tops topr small ne made (goes e c) = elim (cases_eq x s) [
    | inl same ↦
        (let f : since old x ≡ never = ap (since old) same ∙ tops in
        let g : above new x ≡ r = ap (above new) same ∙ h.hung.0 in
        let top : since new r ≡ never = (h.others r (λ q. ne (sym q))).1 ∙ topr in
        let there = climb_once new (k + 1) r u r (subst (λ y. Climbs new (k + 1) y u) g c) (stays (omega arith)) in
        (x, stays (omega arith), inl (same, there)))
    | inr other ↦
        (let o = h.others x other in
        let f = o.1 in
        elim (cases_lt (since old x) k) [
          | inl early ↦
              (let q = climb_over (above new x) u tops topr small ne made c in
              (q.0, goes early (subst (λ y. Climbs old k y q.0) o.0 q.1), q.2))
          | inr late ↦ absurd (let m = made x (omega arith) in omega arith)
        ])
  ]

-- ---- at first

pub lone_trees : (ps : List (ℕ × ℕ)) (nodes : List Node) → AreLone nodes → AreTreesOf ps nodes 0
lone_trees ps nodes each = record {
  forest = record {
    inside = λ x h. let e = ap (λ (n : Node). n.above) (each x) in omega arith;
    rises = λ x h l. absurd (let e = ap (λ (n : Node). n.since) (each x) in omega arith);
    once = λ x y h i l e. absurd (let e = ap (λ (n : Node). n.since) (each x) in omega arith);
    small = λ x. let e = ap (λ (n : Node). n.since) (each x) in omega arith;
  };
  made = λ x l. absurd (let e = ap (λ (n : Node). n.since) (each x) in omega arith);
  hung = λ x h l. absurd (let e = ap (λ (n : Node). n.since) (each x) in omega arith);
  joins = λ t x y r s le hx hy cx cy.
      let z : t ≡ 0 = omega arith in
      let ex = climb_once nodes 0 x r x (subst (λ q. Climbs nodes q x r) z cx) (stays (omega arith)) in
      let ey = climb_once nodes 0 y s y (subst (λ q. Climbs nodes q y s) z cy) (stays (omega arith)) in (
        λ e. ap (λ q. joined (take q ps) x y) z ∙ subst (λ w. joined [] x w ≡ true) (sym ex ∙ e ∙ ey) (joined_refl [] x),
        λ j. ex ∙ joined_nil x y (sym (ap (λ q. joined (take q ps) x y) z) ∙ j) ∙ sym ey,
      );
}

-- a top is not hung
pub top_is : (nodes : List Node) (x r : ℕ) → IsForest nodes → Climbs nodes never x r → since nodes r ≡ never
top_is nodes x r f c = let a = climb_end nodes never x r c in let b = f.small r in omega arith

-- where all that is hung was hung before k, ways up are ways up to k
pub climb_all : (nodes : List Node) (k t x r : ℕ) → k ≤ t → t ≤ never → ((y : ℕ) → since nodes y < never → since nodes y < k) → Climbs nodes t x r → Climbs nodes k x r
climb_all nodes k t x r le small made (stays h) = stays (omega arith)
climb_all nodes k t x r le small made (goes h c) = goes (made x (omega arith)) (climb_all nodes k t (above nodes x) r le small made c)

-- ---- a link whose ends are joined changes nothing

next_is : (ps : List (ℕ × ℕ)) (k : ℕ) (link : ℕ × ℕ) → slice_get ps k ≡ Some link → take (suc k) ps ≡ take k ps ++ link ∷ []
next_is [] k link at = absurd cc
next_is (p ∷ ps) zero link at = let e : p ≡ link = cc in ap (λ q. q ∷ []) e
next_is (p ∷ ps) (suc k) link at = ap (λ l. p ∷ l) (next_is ps k link at)

-- what one more link joins
pub more_joined : (ps : List (ℕ × ℕ)) (k : ℕ) (link : ℕ × ℕ) (x y : ℕ) → slice_get ps k ≡ Some link →
    joined (take (k + 1) ps) x y ≡ (joined (take k ps) x y || (joined (take k ps) x link.0 && joined (take k ps) link.1 y) || (joined (take k ps) x link.1 && joined (take k ps) link.0 y))
more_joined ps k link x y at = let e : k + 1 ≡ suc k = omega arith in ap (λ l. joined l x y) (ap (λ n. take n ps) e ∙ next_is ps k link at) ∙ joined-push (take k ps) link.0 link.1 x y

both_ways : (p q : Bool) → (p ≡ true → q ≡ true) → (q ≡ true → p ≡ true) → p ≡ q
both_ways true q f g = sym (f refl)
both_ways false q f g = sym (false_from_ne_true q (λ h. true≢false (sym (g h))))

pub same_joined : (ps : List (ℕ × ℕ)) (k : ℕ) (link : ℕ × ℕ) (x y : ℕ) → slice_get ps k ≡ Some link → joined (take k ps) link.0 link.1 ≡ true → joined (take (k + 1) ps) x y ≡ joined (take k ps) x y
same_joined ps k link x y at h =
    let F = take k ps in
    both_ways (joined (take (k + 1) ps) x y) (joined F x y)
    (λ j. elim (three (joined F x y) (joined F x link.0) (joined F link.1 y) (joined F x link.1) (joined F link.0 y) (sym (more_joined ps k link x y at) ∙ j)) [
      | inl a ↦ a
      | inr b ↦ elim b [
        | inl a ↦ joined_trans F x link.0 y a.0 (joined_trans F link.0 link.1 y h a.1)
        | inr a ↦ joined_trans F x link.1 y a.0 (joined_trans F link.1 link.0 y (joined_sym F link.0 link.1 h) a.1)
      ]
    ])
    (λ j. more_joined ps k link x y at ∙ or_left _ _ (or_left _ _ j))

pub kept_trees : (ps : List (ℕ × ℕ)) (nodes : List Node) (k : ℕ) (link : ℕ × ℕ) → AreTreesOf ps nodes k → k < never → slice_get ps k ≡ Some link → joined (take k ps) link.0 link.1 ≡ true → AreTreesOf ps nodes (k + 1)
kept_trees ps nodes k link j small at h = record {
  forest = j.forest;
  made = λ x l. let m = j.made x l in omega arith;
  hung = j.hung;
  joins = λ t x y r s le hx hy cx cy. elim (cases_lt k t) [
    | inl last ↦
        (let z : t ≡ k + 1 = omega arith in
        let dx = climb_all nodes k t x r (omega arith) (omega arith) j.made cx in
        let dy = climb_all nodes k t y s (omega arith) (omega arith) j.made cy in
        let e : joined (take t ps) x y ≡ joined (take k ps) x y = ap (λ q. joined (take q ps) x y) z ∙ same_joined ps k link x y at h in
        let both = j.joins k x y r s (omega arith) hx hy dx dy in
        (λ a. e ∙ both.0 a, λ a. both.1 (sym e ∙ a)))
    | inr early ↦ j.joins t x y r s early hx hy cx cy
  ];
}

-- ---- a link whose ends are apart

module _ (ps : List (ℕ × ℕ)) (old new : List Node) (k : ℕ) (link : ℕ × ℕ) (j : AreTreesOf ps old k) (small : k < never) (at : slice_get ps k ≡ Some link) (s r : ℕ) (side : Bool) (h : Hangs old new s r k side)
    (inside_s : s < length old) (inside_r : r < length old) (inside_n : near_end side link < length old) (inside_f : far_end side link < length old)
    (climb_n : Climbs old never (near_end side link) s) (climb_f : Climbs old never (far_end side link) r) (ne : s ≢ r) where
  abbrev F : List (ℕ × ℕ)
  F = take k ps

  top_s : since old s ≡ never
  top_s = top_is old (near_end side link) s j.forest climb_n

  top_r : since old r ≡ never
  top_r = top_is old (far_end side link) r j.forest climb_f

  at_n : Climbs old k (near_end side link) s
  at_n = climb_all old k never (near_end side link) s (omega arith) (omega arith) j.made climb_n

  at_f : Climbs old k (far_end side link) r
  at_f = climb_all old k never (far_end side link) r (omega arith) (omega arith) j.made climb_f

  at_s : Climbs old k s s
  at_s = let t = top_s in stays (omega arith)

  at_r : Climbs old k r r
  at_r = let t = top_r in stays (omega arith)

  joined_s : joined (take k ps) s (near_end side link) ≡ true
  joined_s = (j.joins k s (near_end side link) s s (omega arith) inside_s inside_n at_s at_n).0 refl

  joined_r : joined (take k ps) (far_end side link) r ≡ true
  joined_r = (j.joins k (far_end side link) r r r (omega arith) inside_f inside_r at_f at_r).0 refl

  hung_forest : IsForest new
  hung_forest = record {
    inside = λ x hx. let n = h.count in elim (cases_eq x s) [
      | inl same ↦ (let e : above new x ≡ r = ap (above new) same ∙ h.hung.0 in omega arith)
      | inr other ↦ (let e = (h.others x other).0 in let i = j.forest.inside x (omega arith) in omega arith)
    ];
    rises = λ x hx l. let n = h.count in elim (cases_eq x s) [
      | inl same ↦
          (let e : above new x ≡ r = ap (above new) same ∙ h.hung.0 in
          let f : since new x ≡ k = ap (since new) same ∙ h.hung.1 in
          let g : since new r ≡ never = (h.others r (λ q. ne (sym q))).1 ∙ top_r in
          let i : since new (above new x) ≡ never = ap (since new) e ∙ g in
          omega arith)
      | inr other ↦
          (let o = h.others x other in
          let f = o.1 in
          let i = j.forest.rises x (omega arith) (omega arith) in
          let m = j.made x (omega arith) in
          elim (cases_eq (above old x) s) [
            | inl same ↦ (let g : since new (above new x) ≡ k = ap (since new) (o.0 ∙ same) ∙ h.hung.1 in omega arith)
            | inr off ↦ (let g : since new (above new x) ≡ since old (above old x) = ap (since new) o.0 ∙ (h.others (above old x) off).1 in omega arith)
          ])
    ];
    once = λ x y hx hy l e. let n = h.count in elim (cases_eq x s) [
      | inl same ↦ elim (cases_eq y s) [
        | inl also ↦ same ∙ sym also
        | inr off ↦ absurd (let f : since new x ≡ k = ap (since new) same ∙ h.hung.1 in let g = (h.others y off).1 in let m = j.made y (omega arith) in omega arith)
      ]
      | inr other ↦ elim (cases_eq y s) [
        | inl also ↦ absurd (let f : since new y ≡ k = ap (since new) also ∙ h.hung.1 in let g = (h.others x other).1 in let m = j.made x (omega arith) in omega arith)
        | inr off ↦ (let f = (h.others x other).1 in let g = (h.others y off).1 in j.forest.once x y (omega arith) (omega arith) (omega arith) (omega arith))
      ]
    ];
    small = λ x. elim (cases_eq x s) [
      | inl same ↦ (let f : since new x ≡ k = ap (since new) same ∙ h.hung.1 in omega arith)
      | inr other ↦ (let f = (h.others x other).1 in let i = j.forest.small x in omega arith)
    ];
  }

  hung_made : (x : ℕ) → since new x < never → since new x < k + 1
  hung_made x l = elim (cases_eq x s) [
    | inl same ↦ (let f : since new x ≡ k = ap (since new) same ∙ h.hung.1 in omega arith)
    | inr other ↦ (let f = (h.others x other).1 in let m = j.made x (omega arith) in omega arith)
  ]

  hung_one : IsHung ps new s
  hung_one =
      record {
        link = link;
        at = ap (slice_get ps) h.hung.1 ∙ at;
        below = ap (λ (b : Bool). joined (take (since new s) ps) s (near_end b link)) h.hung.2 ∙ ap (λ n. joined (take n ps) s (near_end side link)) h.hung.1 ∙ joined_s;
        over = ap (λ (b : Bool). joined (take (since new s) ps) (far_end b link) (above new s)) h.hung.2 ∙ ap (λ u. joined (take (since new s) ps) (far_end side link) u) h.hung.0 ∙ ap (λ n. joined (take n ps) (far_end side link) r) h.hung.1 ∙ joined_r;
      }

  hung_each : (x : ℕ) → x < length new → since new x < never → IsHung ps new x
  hung_each x hx l = elim (cases_eq x s) [
    | inl same ↦ subst (λ u. IsHung ps new u) (sym same) hung_one
    | inr other ↦
        (let o = h.others x other in
        let n = h.count in
        let f = o.1 in
        let w = j.hung x (omega arith) (omega arith) in
        record {
          link = w.link;
          at = ap (slice_get ps) o.1 ∙ w.at;
          below = ap (λ (b : Bool). joined (take (since new x) ps) x (near_end b w.link)) o.2 ∙ ap (λ n. joined (take n ps) x (near_end (by_b old x) w.link)) o.1 ∙ w.below;
          over = ap (λ (b : Bool). joined (take (since new x) ps) (far_end b w.link) (above new x)) o.2 ∙ ap (λ u. joined (take (since new x) ps) (far_end (by_b old x) w.link) u) o.0 ∙ ap (λ n. joined (take n ps) (far_end (by_b old x) w.link) (above old x)) o.1 ∙ w.over;
        })
  ]

  -- what one more link joins, by its sides
  sides_to : (side : Bool) (x y : ℕ) → joined (take (k + 1) ps) x y ≡ true →
      (joined F x y ≡ true) ⊎ (((joined F x (near_end side link) ≡ true) × (joined F (far_end side link) y ≡ true)) ⊎ ((joined F x (far_end side link) ≡ true) × (joined F (near_end side link) y ≡ true)))
  sides_to false x y q = three (joined F x y) (joined F x link.0) (joined F link.1 y) (joined F x link.1) (joined F link.0 y) (sym (more_joined ps k link x y at) ∙ q)
  sides_to true x y q = elim (three (joined F x y) (joined F x link.0) (joined F link.1 y) (joined F x link.1) (joined F link.0 y) (sym (more_joined ps k link x y at) ∙ q)) [
    | inl a ↦ inl a
    | inr b ↦ elim b [ inl a ↦ inr (inr a) | inr a ↦ inr (inl a) ]
  ]

  over_first : (side : Bool) (x y : ℕ) → joined F x (near_end side link) ≡ true → joined F (far_end side link) y ≡ true → joined (take (k + 1) ps) x y ≡ true
  over_first false x y p q = more_joined ps k link x y at ∙ or_left _ _ (or_right _ _ (and_from _ _ p q))
  over_first true x y p q = more_joined ps k link x y at ∙ or_right _ _ (and_from _ _ p q)

  over_second : (side : Bool) (x y : ℕ) → joined F x (far_end side link) ≡ true → joined F (near_end side link) y ≡ true → joined (take (k + 1) ps) x y ≡ true
  over_second false x y p q = more_joined ps k link x y at ∙ or_right _ _ (and_from _ _ p q)
  over_second true x y p q = more_joined ps k link x y at ∙ or_left _ _ (or_right _ _ (and_from _ _ p q))

  stay_joined : (x y : ℕ) → joined F x y ≡ true → joined (take (k + 1) ps) x y ≡ true
  stay_joined x y p = more_joined ps k link x y at ∙ or_left _ _ (or_left _ _ p)

  by_tops : (x y v w : ℕ) → x < length old → y < length old → Climbs old k x v → Climbs old k y w → (v ≡ w) ↔ (joined F x y ≡ true)
  by_tops x y v w hx hy cx cy = j.joins k x y v w (omega arith) hx hy cx cy

  last_joins : (x y u w : ℕ) → x < length old → y < length old → Climbs new (k + 1) x u → Climbs new (k + 1) y w → (u ≡ w) ↔ (joined (take (k + 1) ps) x y ≡ true)
  last_joins x y u w hx hy cx cy =
      let a = climb_over old new s r k side h x u top_s top_r small ne j.made cx in
      let b = climb_over old new s r k side h y w top_s top_r small ne j.made cy in
      (there a.0 b.0 a.1 b.1 a.2 b.2, back a.0 b.0 a.1 b.1 a.2 b.2)
    where
      Over : ℕ → ℕ → Type 0
      Over v u = ((v ≡ s) × (u ≡ r)) ⊎ ((v ≢ s) × (u ≡ v))

      there : (v z : ℕ) → Climbs old k x v → Climbs old k y z → Over v u → Over z w → u ≡ w → joined (take (k + 1) ps) x y ≡ true
      there v z cv cz (inl a) (inl b) e = stay_joined x y ((by_tops x y v z hx hy cv cz).0 (a.0 ∙ sym b.0))
      there v z cv cz (inl a) (inr b) e = over_first side x y ((by_tops x (near_end side link) v s hx inside_n cv at_n).0 a.0) ((by_tops (far_end side link) y r z inside_f hy at_f cz).0 (sym a.1 ∙ e ∙ b.1))
      there v z cv cz (inr a) (inl b) e = over_second side x y ((by_tops x (far_end side link) v r hx inside_f cv at_f).0 (sym a.1 ∙ e ∙ b.1)) ((by_tops (near_end side link) y s z inside_n hy at_n cz).0 (sym b.0))
      there v z cv cz (inr a) (inr b) e = stay_joined x y ((by_tops x y v z hx hy cv cz).0 (sym a.1 ∙ e ∙ b.1))

      to_r : (v u : ℕ) → Over v u → v ≡ s → u ≡ r
      to_r v u (inl a) e = a.1
      to_r v u (inr a) e = absurd (a.0 e)

      stay_r : (v u : ℕ) → Over v u → v ≡ r → u ≡ r
      stay_r v u (inl a) e = a.1
      stay_r v u (inr a) e = a.1 ∙ e

      same_over : (v z u w : ℕ) → Over v u → Over z w → v ≡ z → u ≡ w
      same_over v z u w (inl a) (inl b) e = a.1 ∙ sym b.1
      same_over v z u w (inl a) (inr b) e = absurd (b.0 (sym e ∙ a.0))
      same_over v z u w (inr a) (inl b) e = absurd (a.0 (e ∙ b.0))
      same_over v z u w (inr a) (inr b) e = a.1 ∙ e ∙ sym b.1

      back : (v z : ℕ) → Climbs old k x v → Climbs old k y z → Over v u → Over z w → joined (take (k + 1) ps) x y ≡ true → u ≡ w
      back v z cv cz ov oz q = elim (sides_to side x y q) [
        | inl p ↦ same_over v z u w ov oz ((by_tops x y v z hx hy cv cz).1 p)
        | inr c ↦ elim c [
          | inl p ↦ to_r v u ov ((by_tops x (near_end side link) v s hx inside_n cv at_n).1 p.0) ∙ sym (stay_r z w oz (sym ((by_tops (far_end side link) y r z inside_f hy at_f cz).1 p.1)))
          | inr p ↦ stay_r v u ov ((by_tops x (far_end side link) v r hx inside_f cv at_f).1 p.0) ∙ sym (to_r z w oz (sym ((by_tops (near_end side link) y s z inside_n hy at_n cz).1 p.1)))
        ]
      ]

  pub hung_trees : AreTreesOf ps new (k + 1)
  hung_trees = record {
    forest = hung_forest;
    made = hung_made;
    hung = hung_each;
    joins = λ t x y u w le hx hy cx cy.
        let n = h.count in
        elim (cases_lt k t) [
          | inl last ↦
              (let z : t ≡ k + 1 = omega arith in
              subst (λ q. (u ≡ w) ↔ (joined (take q ps) x y ≡ true)) (sym z)
              (last_joins x y u w (omega arith) (omega arith) (subst (λ q. Climbs new q x u) z cx) (subst (λ q. Climbs new q y w) z cy)))
          | inr early ↦ j.joins t x y u w early (omega arith) (omega arith)
              (climb_back old new s r k side h t x u early top_s (omega arith) cx) (climb_back old new s r k side h t y w early top_s (omega arith) cy)
        ];
  }

-- the link of an entry
pub link_at : (H : List Entry) (k : ℕ) (e : Entry) → slice_get H k ≡ Some e → slice_get (links H) k ≡ Some (e.a, e.b)
link_at [] k e at = absurd cc
link_at (f ∷ H) zero e at = let same : f ≡ e = cc in ap (λ (g : Entry). Some (g.a, g.b)) same
link_at (f ∷ H) (suc k) e at = link_at H k e at

-- ends that come to one top are joined
pub joined_ends : (ps : List (ℕ × ℕ)) (nodes : List Node) (k x y r s : ℕ) → AreTreesOf ps nodes k → k < never → x < length nodes → y < length nodes → Climbs nodes never x r → Climbs nodes never y s → r ≡ s → joined (take k ps) x y ≡ true
joined_ends ps nodes k x y r s j small hx hy cx cy e =
    (j.joins k x y r s (omega arith) hx hy (climb_all nodes k never x r (omega arith) (omega arith) j.made cx) (climb_all nodes k never y s (omega arith) (omega arith) j.made cy)).0 e

-- two names come to one top exactly where they are joined
pub same_top : (ps : List (ℕ × ℕ)) (nodes : List Node) (k a b r s : ℕ) → AreTreesOf ps nodes k → k ≤ never → a < length nodes → b < length nodes → Climbs nodes never a r → Climbs nodes never b s → k ≡ length ps → nat_eq r s ≡ joined ps a b
same_top ps nodes k a b r s j small ha hb ca cb e =
    let both = j.joins k a b r s (omega arith) ha hb (climb_all nodes k never a r small (omega arith) j.made ca) (climb_all nodes k never b s small (omega arith) j.made cb) in
    let whole : take k ps ≡ ps = take_all k ps (omega arith) in
    both_ways (nat_eq r s) (joined ps a b)
    (λ q. ap (λ l. joined l a b) (sym whole) ∙ both.0 (eqb-true r s q))
    (λ q. eq-eqb r s (both.1 (ap (λ l. joined l a b) whole ∙ q)))
