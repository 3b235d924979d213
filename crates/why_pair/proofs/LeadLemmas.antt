-- Links that lead join, and lead as well where they stand at other places.
use Rattle.std.proofs.Common.{List, [], ◌∷◌, ℕ, zero, suc, ◌+◌, ◌-◌, ◌<◌, Bool, true, false, nat_eq, nat_le, Option, Some, None, AllPairs, length, map, slice_get, get_or, ◌≡◌, ◌≢◌, inl, inr, refl, sym, ap, ap₂, subst, ◌∙◌, arith, eqb-true, if◌then◌else◌}
use Rattle.std.specs.List.{list_all}
use Rattle.std.proofs.lemmas.Bool.{cases_lt, cases_Bool, cond-true, cond-false, and_from, le-leb}
use Rattle.std.proofs.lemmas.Option.{slice_get-get_or}
use Rattle.chase_laws.specs.Joined.{joined}
use Rattle.chase_laws.proofs.CallerLemmas.{joined_refl, joined_sym, joined_trans, joined_head, Within-more, slice_get-map_from}
use Rattle.proof_file.specs.Leads.{other_end, end_along}
use Rattle.proof_file.specs.Tells.{is_earlier, places_of}
use Rattle.why_pair.specs.Kept.{IsMarkedAt, place_kept}
use Rattle.why_pair.specs.Relinked.{places_from, step_number}
use Rattle.proof_graph.proofs.CallerLemmas.{Once}
use Rattle.why_pair.proofs.KeptLemmas.{place_less}

link_joined : (ps : List (ℕ × ℕ)) (n : ℕ) (link : ℕ × ℕ) → slice_get ps n ≡ Some link → joined ps link.0 link.1 ≡ true
link_joined [] n link at = absurd cc
link_joined (p ∷ ps) zero link at = let same : p ≡ link = cc in subst (λ (q : ℕ × ℕ). joined (p ∷ ps) q.0 q.1 ≡ true) same (joined_head p.0 p.1 ps)
link_joined (p ∷ ps) (suc n) link at = Within-more p ps link.0 link.1 (link_joined ps n link at)

other_joined : (ps : List (ℕ × ℕ)) (o : Option (ℕ × ℕ)) (x z : ℕ) → ((link : ℕ × ℕ) → o ≡ Some link → joined ps link.0 link.1 ≡ true) → other_end nat_eq o x ≡ Some z → joined ps x z ≡ true
other_joined ps None x z there is = absurd cc
other_joined ps (Some link) x z there is = elim (cases_Bool (nat_eq x link.0)) [
  | inl near ↦
      (let ends : link.1 ≡ z = (let two : Some link.1 ≡ Some z = sym (cond-true (nat_eq x link.0) (Some link.1) (if nat_eq x link.1 then Some link.0 else None) near) ∙ is in cc) in
      subst (λ u. joined ps u z ≡ true) (sym (eqb-true x link.0 near)) (subst (λ w. joined ps link.0 w ≡ true) ends (there link refl)))
  | inr off ↦
      (let second : (if nat_eq x link.1 then Some link.0 else None) ≡ Some z = sym (cond-false (nat_eq x link.0) (Some link.1) (if nat_eq x link.1 then Some link.0 else None) off) ∙ is in
      elim (cases_Bool (nat_eq x link.1)) [
        | inl near ↦
            (let ends : link.0 ≡ z = (let two : Some link.0 ≡ Some z = sym (cond-true (nat_eq x link.1) (Some link.0) None near) ∙ second in cc) in
            subst (λ u. joined ps u z ≡ true) (sym (eqb-true x link.1 near)) (subst (λ w. joined ps link.1 w ≡ true) ends (joined_sym ps link.0 link.1 (there link refl))))
        | inr none ↦ absurd (let two : None ≡ Some z = sym (cond-false (nat_eq x link.1) (Some link.0) None none) ∙ second in cc)
      ])
]

-- where links lead, they join
pub led_joined : (ps : List (ℕ × ℕ)) (ns : List ℕ) (x y : ℕ) → end_along nat_eq ps ns (Some x) ≡ Some y → joined ps x y ≡ true
led_joined ps [] x y is = let same : x ≡ y = cc in subst (λ w. joined ps x w ≡ true) same (joined_refl ps x)
led_joined ps (n ∷ ns) x y is = on (other_end nat_eq (slice_get ps n) x) refl (λ z. led_joined ps ns z y)
  where
    none : (ms : List ℕ) → end_along nat_eq ps ms None ≡ None
    none [] = refl
    none (m ∷ ms) = refl

    on : (o : Option ℕ) → other_end nat_eq (slice_get ps n) x ≡ o → ((z : ℕ) → end_along nat_eq ps ns (Some z) ≡ Some y → joined ps z y ≡ true) → joined ps x y ≡ true
    on None e rest = absurd (let two : None ≡ Some y = sym (none ns) ∙ ap (end_along nat_eq ps ns) (sym e) ∙ is in cc)
    on (Some z) e rest =
        joined_trans ps x z y (other_joined ps (slice_get ps n) x z (λ link at. link_joined ps n link at) e)
        (rest z (ap (end_along nat_eq ps ns) (sym e) ∙ is))

-- links that stand at other places
pub led_same : (ps qs : List (ℕ × ℕ)) (f : ℕ → ℕ) (ns : List ℕ) → ((k n : ℕ) → slice_get ns k ≡ Some n → slice_get qs (f n) ≡ slice_get ps n) → (o : Option ℕ) → end_along nat_eq qs (map f ns) o ≡ end_along nat_eq ps ns o
led_same ps qs f [] same o = refl
led_same ps qs f (n ∷ ns) same None = refl
led_same ps qs f (n ∷ ns) same (Some x) =
    ap (λ l. end_along nat_eq qs (map f ns) (other_end nat_eq l x)) (same 0 n refl)
    ∙ led_same ps qs f ns (λ k m at. same (suc k) m at) (other_end nat_eq (slice_get ps n) x)

-- ---- numbers of steps

pub map_equal : {X Y : Type 0} (f g : X → Y) (xs : List X) → ((k : ℕ) (x : X) → slice_get xs k ≡ Some x → f x ≡ g x) → map f xs ≡ map g xs
map_equal f g [] h = refl
map_equal f g (x ∷ xs) h = ap₂ (λ y ys. y ∷ ys) (h 0 x refl) (map_equal f g xs (λ k z at. h (suc k) z at))

places_at : (n : ℕ) (marks : List Bool) (p : ℕ) → IsMarkedAt marks p → get_or (places_from n marks) p 0 ≡ n + place_kept marks p
places_at n [] p h = absurd cc
places_at n (true ∷ marks) zero h = omega arith
places_at n (false ∷ marks) zero h = absurd cc
places_at n (true ∷ marks) (suc p) h = let r = places_at (n + 1) marks p h in omega arith
places_at n (false ∷ marks) (suc p) h = places_at n marks p h

pub number_is : (marks : List Bool) (p : ℕ) → IsMarkedAt marks p → step_number (places_from 0 marks) p ≡ place_kept marks p + 1
number_is marks p h = let r = places_at 0 marks p h in omega arith

pub length-places_from : (n : ℕ) (marks : List Bool) → length (places_from n marks) ≡ length marks
length-places_from n [] = refl
length-places_from n (true ∷ marks) = ap suc (length-places_from (n + 1) marks)
length-places_from n (false ∷ marks) = ap suc (length-places_from n marks)

pub places_small : (n : ℕ) (marks : List Bool) (k : ℕ) (p : ℕ) → slice_get (places_from n marks) k ≡ Some p → p < n + length marks
places_small n [] k p at = absurd cc
places_small n (true ∷ marks) zero p at = let same : n ≡ p = cc in omega arith
places_small n (false ∷ marks) zero p at = let same : n ≡ p = cc in omega arith
places_small n (true ∷ marks) (suc k) p at = let r = places_small (n + 1) marks k p at in omega arith
places_small n (false ∷ marks) (suc k) p at = let r = places_small n marks k p at in omega arith

-- back to places
pub numbers_back : (marks : List Bool) (ns : List ℕ) → ((k n : ℕ) → slice_get ns k ≡ Some n → IsMarkedAt marks n) → places_of (map (step_number (places_from 0 marks)) ns) ≡ map (place_kept marks) ns
numbers_back marks [] h = refl
numbers_back marks (n ∷ ns) h =
    let is = number_is marks n (h 0 n refl) in
    let one : step_number (places_from 0 marks) n - 1 ≡ place_kept marks n = omega arith in
    ap₂ (λ m ms. m ∷ ms) one (numbers_back marks ns (λ k m at. h (suc k) m at))

-- the numbers of the steps of kept entries before one are those of earlier steps
pub numbers_earlier : (marks : List Bool) (ns : List ℕ) (count : ℕ) → ((k n : ℕ) → slice_get ns k ≡ Some n → IsMarkedAt marks n × (place_kept marks n < count)) →
    list_all (is_earlier count) (map (step_number (places_from 0 marks)) ns) ≡ true
numbers_earlier marks [] count h = refl
numbers_earlier marks (n ∷ ns) count h =
    let first = h 0 n refl in
    let is = number_is marks n first.0 in
    let less = first.1 in
    let m = step_number (places_from 0 marks) n in
    and_from (is_earlier count m) (list_all (is_earlier count) (map (step_number (places_from 0 marks)) ns))
    (and_from (nat_le 1 m) (nat_le m count) (le-leb 1 m (omega arith)) (le-leb m count (omega arith)))
    (numbers_earlier marks ns count (λ k q at. h (suc k) q at))

-- ---- none twice

same_place : (marks : List Bool) (p q : ℕ) → IsMarkedAt marks p → IsMarkedAt marks q → place_kept marks p ≡ place_kept marks q → p ≡ q
same_place marks p q mp mq e = elim (cases_lt p q) [
  | inl less ↦ absurd (let l = place_less marks p q less mp in omega arith)
  | inr more ↦ elim (cases_lt q p) [
    | inl less ↦ absurd (let l = place_less marks q p less mq in omega arith)
    | inr both ↦ omega arith
  ]
]

pub none_twice : (marks : List Bool) (ns : List ℕ) → Once ns → ((k n : ℕ) → slice_get ns k ≡ Some n → IsMarkedAt marks n) → AllPairs (λ m n. m ≢ n) (map (step_number (places_from 0 marks)) ns)
none_twice marks ns once h = λ i j d l inside e.
    let f = step_number (places_from 0 marks) in
    let xs = map f ns in
    let v = get_or xs j d in
    let at_j : slice_get xs j ≡ Some v = slice_get-get_or xs j d inside in
    let at_i : slice_get xs i ≡ Some v = slice_get-get_or xs i d (omega arith) ∙ ap Some e in
    let p = slice_get-map_from f ns i v at_i in
    let q = slice_get-map_from f ns j v at_j in
    let mp = h i p.0 p.1 in
    let mq = h j q.0 q.1 in
    let np = number_is marks p.0 mp in
    let nq = number_is marks q.0 mq in
    let ep = p.2 in
    let eq = q.2 in
    let same : p.0 ≡ q.0 = same_place marks p.0 q.0 mp mq (omega arith) in
    let one : i ≡ j = once i j p.0 p.1 (q.1 ∙ ap Some (sym same)) in
    omega arith
