-- Where two ways up meet.
use Rattle.std.proofs.Common.{List, ℕ, ◌+◌, ◌<◌, ◌≤◌, Bool, true, false, Some, length, slice_get, get_or, take, ◌≡◌, ◌≢◌, ◌⊎◌, inl, inr, refl, sym, ap, subst, ◌∙◌, arith, true≢false}
use Rattle.std.proofs.lemmas.Bool.{cases_eq, false_from_ne_true}
use Rattle.std.proofs.lemmas.List.{get_or_default, take_all}
use Rattle.chase_laws.specs.declared.entry.Entry.{Entry}
use Rattle.chase_laws.specs.Joined.{joined, links}
use Rattle.chase_laws.proofs.CallerLemmas.{joined_sym, joined_trans}
use Rattle.proof_graph.specs.declared.trees.Node.{Node}
use Rattle.proof_graph.specs.declared.meeting.Meeting.{Meeting}
use Rattle.proof_graph.specs.Tree.{never, lone_node, node_in, since, above, by_b, Climbs, stays, IsForest, near_end, far_end, AreTreesOf, Sees, Meets, HasStepped, Approach, not_begun, by_x, by_y}
use Rattle.proof_graph.proofs.TreeLemmas.{climb_end, climb_raise, climb_step, climb_inside, climb_all, link_at}

module _ (nodes : List Node) (f : IsForest nodes) where
  came_mine : (x y u v below : ℕ) → HasStepped nodes x y u v below → Climbs nodes (since nodes below + 1) x u
  came_mine x y u v below c =
      subst (λ w. Climbs nodes (since nodes below + 1) x w) c.up (climb_step nodes (since nodes below) x below (omega arith) (f.rises below c.inside c.low) c.mine)

  came_other : (x y u v below : ℕ) → HasStepped nodes x y u v below → Climbs nodes (since nodes below + 1) y v
  came_other x y u v below c = let g = c.gap in climb_raise nodes (since nodes below) (since nodes below + 1) y v (omega arith) (omega arith) c.other

  -- both have come so far
  pub so_far : (x y u v below : ℕ) (b : Bool) → Approach nodes x y u v below b → (t : ℕ) × Climbs nodes t x u × Climbs nodes t y v
  so_far x y u v below b (not_begun e g) = (0, subst (λ w. Climbs nodes 0 x w) (sym e) (stays (omega arith)), subst (λ w. Climbs nodes 0 y w) (sym g) (stays (omega arith)))
  so_far x y u v below true (by_x c) = (since nodes below + 1, came_mine x y u v below c, came_other x y u v below c)
  so_far x y u v below false (by_y c) = (since nodes below + 1, came_other y x v u below c, came_mine y x v u below c)

  pub step_x : (x y u v below : ℕ) (b : Bool) → u < length nodes → v < length nodes → since nodes u < since nodes v → Approach nodes x y u v below b → Approach nodes x y (above nodes u) v u true
  step_x x y u v below b hu hv l s =
      let t = so_far x y u v below b s in
      let eu = climb_end nodes t.0 x u t.1 in
      let ev = climb_end nodes t.0 y v t.2 in
      let n = f.small v in
      by_x (record {
        inside = hu;
        low = omega arith;
        mine = climb_raise nodes t.0 (since nodes u) x u eu (omega arith) t.1;
        other = climb_raise nodes t.0 (since nodes u) y v eu (omega arith) t.2;
        gap = l;
        up = refl;
      })

  pub step_y : (x y u v below : ℕ) (b : Bool) → u < length nodes → v < length nodes → u ≢ v → since nodes v ≤ since nodes u → since nodes v < never → Approach nodes x y u v below b → Approach nodes x y u (above nodes v) v false
  step_y x y u v below b hu hv ne l low s =
      let t = so_far x y u v below b s in
      let eu = climb_end nodes t.0 x u t.1 in
      let ev = climb_end nodes t.0 y v t.2 in
      by_y (record {
        inside = hv;
        low = low;
        mine = climb_raise nodes t.0 (since nodes v) y v ev (omega arith) t.2;
        other = climb_raise nodes t.0 (since nodes v) x u ev l t.1;
        gap = elim (cases_eq (since nodes v) (since nodes u)) [
          | inl same ↦ absurd (ne (sym (f.once v u hv hu low same)))
          | inr other ↦ omega arith
        ];
        up = refl;
      })

module _ (ps : List (ℕ × ℕ)) (nodes : List Node) (k : ℕ) (j : AreTreesOf ps nodes k) (small : k ≤ never) where
  -- ways up that have ended apart
  pub ended_apart : (x y u v below : ℕ) (b : Bool) → k ≡ length ps → x < length nodes → y < length nodes → u ≢ v → since nodes v ≤ since nodes u → never ≤ since nodes v → Approach nodes x y u v below b → joined ps x y ≡ false
  ended_apart x y u v below b whole hx hy ne l top s =
      let t = so_far nodes j.forest x y u v below b s in
      let eu = climb_end nodes t.0 x u t.1 in
      let ev = climb_end nodes t.0 y v t.2 in
      let n = j.forest.small v in
      let m = j.forest.small u in
      let cu = climb_all nodes k never x u small (omega arith) j.made (climb_raise nodes t.0 never x u (omega arith) (omega arith) t.1) in
      let cv = climb_all nodes k never y v small (omega arith) j.made (climb_raise nodes t.0 never y v (omega arith) (omega arith) t.2) in
      false_from_ne_true (joined ps x y) (λ q. ne ((j.joins k x y u v (omega arith) hx hy cu cv).1 (ap (λ l. joined l x y) (take_all k ps (omega arith)) ∙ q)))

  -- ways up that have met
  came_meets : (x y u below : ℕ) → x < length nodes → y < length nodes → HasStepped nodes x y u u below → (link : ℕ × ℕ) × (slice_get ps (since nodes below) ≡ Some link)
      × (joined (take (since nodes below) ps) x y ≡ false) × (joined (take (since nodes below) ps) x (near_end (by_b nodes below) link) ≡ true) × (joined (take (since nodes below) ps) (far_end (by_b nodes below) link) y ≡ true)
  came_meets x y u below hx hy c =
      let e = since nodes below in
      let h = j.hung below c.inside c.low in
      let m = j.made below c.low in
      let hu = climb_inside nodes e y u j.forest hy c.other in
      let here : Climbs nodes e below below = stays (omega arith) in
      let there : Climbs nodes e u u = (let g = c.gap in stays (omega arith)) in
      let front = take e ps in
      let to_below : joined front x below ≡ true = (j.joins e x below below below (omega arith) hx c.inside c.mine here).0 refl in
      let from_u : joined front u y ≡ true = (j.joins e u y u u (omega arith) hu hy there c.other).0 refl in (
        h.link,
        h.at,
        false_from_ne_true (joined front x y) (λ q. let same = (j.joins e x y below u (omega arith) hx hy c.mine c.other).1 q in let g = c.gap in let l = ap (since nodes) same in absurd (omega arith)),
        joined_trans front x below (near_end (by_b nodes below) h.link) to_below h.below,
        joined_trans front (far_end (by_b nodes below) h.link) u y (subst (λ w. joined front (far_end (by_b nodes below) h.link) w ≡ true) c.up h.over) from_u,
      )

  -- the name that was passed last
  pub last_low : (x y u v below : ℕ) (b : Bool) → x ≢ y → u ≡ v → Approach nodes x y u v below b → (below < length nodes) × (since nodes below < k)
  last_low x y u v below b ne e (not_begun p q) = absurd (ne (sym p ∙ e ∙ q))
  last_low x y u v below true ne e (by_x c) = (c.inside, j.made below c.low)
  last_low x y u v below false ne e (by_y c) = (c.inside, j.made below c.low)

pub met : (H : List Entry) (nodes : List Node) (k : ℕ) → AreTreesOf (links H) nodes k → k ≤ never → (x y u v below : ℕ) (b : Bool) (m : Meeting) → x < length nodes → y < length nodes → x ≢ y → u ≡ v → Approach nodes x y u v below b →
    Sees H nodes below b m → Meets (links H) x y m
met H nodes k j small x y u v below b m hx hy ne e (not_begun p q) s = absurd (ne (sym p ∙ e ∙ q))
met H nodes k j small x y u v below true m hx hy ne e (by_x c) s =
    let r = came_meets (links H) nodes k j small x y v below hx hy (subst (λ w. HasStepped nodes x y w v below) e c) in
    let at = link_at H (since nodes below) s.entry s.at in
    let same : r.0 ≡ (s.entry.a, s.entry.b) = (let both : Some r.0 ≡ Some (s.entry.a, s.entry.b) = sym r.1 ∙ at in cc) in
    record {
      link = (s.entry.a, s.entry.b);
      at = ap (slice_get (links H)) s.place ∙ at;
      ends = sides (by_b nodes below) s.near s.far;
      apart = ap (λ n. joined (take n (links H)) x y) s.place ∙ r.2;
      before = ap (λ n. joined (take n (links H)) x m.near) s.place ∙ ap (joined (take (since nodes below) (links H)) x) (s.near ∙ ap (near_end (by_b nodes below)) (sym same)) ∙ r.3;
      after = ap (λ n. joined (take n (links H)) m.far y) s.place ∙ ap (λ w. joined (take (since nodes below) (links H)) w y) (s.far ∙ ap (far_end (by_b nodes below)) (sym same)) ∙ r.4;
    }
  where
    sides : (q : Bool) → m.near ≡ near_end q (s.entry.a, s.entry.b) → m.far ≡ far_end q (s.entry.a, s.entry.b) → ((m.near ≡ s.entry.a) × (m.far ≡ s.entry.b)) ⊎ ((m.near ≡ s.entry.b) × (m.far ≡ s.entry.a))
    sides true p q = inr (p, q)
    sides false p q = inl (p, q)
met H nodes k j small x y u v below false m hx hy ne e (by_y c) s =
    let r = came_meets (links H) nodes k j small y x u below hy hx (subst (λ w. HasStepped nodes y x w u below) (sym e) c) in
    let front = take (since nodes below) (links H) in
    let at = link_at H (since nodes below) s.entry s.at in
    let same : r.0 ≡ (s.entry.a, s.entry.b) = (let both : Some r.0 ≡ Some (s.entry.a, s.entry.b) = sym r.1 ∙ at in cc) in
    let off : joined front x y ≡ false = false_from_ne_true (joined front x y) (λ q. true≢false (sym (joined_sym front x y q) ∙ r.2)) in
    let before : joined front x (far_end (by_b nodes below) r.0) ≡ true = joined_sym front (far_end (by_b nodes below) r.0) x r.4 in
    let after : joined front (near_end (by_b nodes below) r.0) y ≡ true = joined_sym front y (near_end (by_b nodes below) r.0) r.3 in
    record {
      link = (s.entry.a, s.entry.b);
      at = ap (slice_get (links H)) s.place ∙ at;
      ends = sides (by_b nodes below) s.near s.far;
      apart = ap (λ n. joined (take n (links H)) x y) s.place ∙ off;
      before = ap (λ n. joined (take n (links H)) x m.near) s.place ∙ ap (joined front x) (s.near ∙ ap (far_end (by_b nodes below)) (sym same)) ∙ before;
      after = ap (λ n. joined (take n (links H)) m.far y) s.place ∙ ap (λ w. joined front w y) (s.far ∙ ap (near_end (by_b nodes below)) (sym same)) ∙ after;
    }
  where
    sides : (q : Bool) → m.near ≡ far_end q (s.entry.a, s.entry.b) → m.far ≡ near_end q (s.entry.a, s.entry.b) → ((m.near ≡ s.entry.a) × (m.far ≡ s.entry.b)) ⊎ ((m.near ≡ s.entry.b) × (m.far ≡ s.entry.a))
    sides true p q = inl (p, q)
    sides false p q = inr (p, q)

-- what an index reads
pub node_read : (nodes : List Node) (x : ℕ) → x < length nodes → get_or nodes x (record { above = 0; since = 0; by_b = false; rank = 0 }) ≡ node_in nodes x
node_read nodes x h = get_or_default nodes x (record { above = 0; since = 0; by_b = false; rank = 0 }) lone_node h
