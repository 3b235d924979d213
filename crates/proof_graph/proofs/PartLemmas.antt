-- Parts of a way.
use Rattle.std.proofs.Common.{List, [], ◌∷◌, ◌++◌, ℕ, zero, suc, ◌+◌, ◌*◌, ◌<◌, true, false, Some, All, length, slice_get, get_or, take, ◌≡◌, ◌⊎◌, inl, inr, sym, ap, subst, ◌∙◌, arith, true≢false, append_assoc, length-append}
use Rattle.std.specs.Option.{option_to_list}
use Rattle.std.proofs.lemmas.Bool.{false_from_ne_true}
use Rattle.std.proofs.lemmas.List.{take_all}
use Rattle.std.proofs.lemmas.List.Sums.{sum_by-append, sum_by_push, fold-append}
use Rattle.std.proofs.lemmas.List.Elements.{All-push}
use Rattle.std.proofs.lemmas.Option.{slice_get_within}
use Rattle.chase_laws.specs.declared.entry.Entry.{Entry}
use Rattle.chase_laws.specs.Joined.{joined, links}
use Rattle.chase_laws.proofs.CallerLemmas.{joined_sym, joined_trans}
use Rattle.proof_graph.specs.declared.parts.Part.{Part}
use Rattle.proof_graph.specs.declared.meeting.Meeting.{Meeting}
use Rattle.proof_graph.specs.Tree.{Meets}
use Rattle.proof_graph.specs.Way.{way}
use Rattle.proof_graph.specs.Parts.{first_part, second_part, part_places, parts_places, IsWayPart, work_left}
use Rattle.proof_graph.proofs.WayLemmas.{fronts, link_joins, way-forward, way-back, way-stable, way-same}

-- where two names come together the way is parted
module _ (ps : List (ℕ × ℕ)) (k x y : ℕ) (m : Meeting) (whole : k ≡ length ps) (meets : Meets ps x y m) where
  early : m.place < k
  early = let w = slice_get_within ps m.place meets.link meets.at in omega arith

  abbrev front : List (ℕ × ℕ)
  front = take m.place ps

  all : take k ps ≡ ps
  all = take_all k ps (omega arith)

  over : joined (take (suc m.place) ps) m.near m.far ≡ true
  over = elim meets.ends [
    | inl e ↦ subst (λ u. joined (take (suc m.place) ps) u m.far ≡ true) (sym e.0) (subst (λ u. joined (take (suc m.place) ps) meets.link.0 u ≡ true) (sym e.1) (link_joins ps m.place meets.link meets.at))
    | inr e ↦ joined_sym (take (suc m.place) ps) m.far m.near (subst (λ u. joined (take (suc m.place) ps) u m.near ≡ true) (sym e.1) (subst (λ u. joined (take (suc m.place) ps) meets.link.0 u ≡ true) (sym e.0) (link_joins ps m.place meets.link meets.at)))
  ]

  joined_next : joined (take (suc m.place) ps) x y ≡ true
  joined_next =
      let l = fronts ps m.place (suc m.place) (omega arith) in
      joined_trans (take (suc m.place) ps) x m.near y (l x m.near meets.before) (joined_trans (take (suc m.place) ps) m.near m.far y over (l m.far y meets.after))

  parted_here : way ps (suc m.place) x y ≡ way ps m.place x m.near ++ m.place ∷ way ps m.place m.far y
  parted_here = elim meets.ends [
    | inl e ↦
        way-forward ps m.place x y meets.link meets.at meets.apart (subst (λ u. joined front x u ≡ true) e.0 meets.before)
        ∙ ap (λ u. way ps m.place x u ++ m.place ∷ way ps m.place meets.link.1 y) (sym e.0) ∙ ap (λ u. way ps m.place x m.near ++ m.place ∷ way ps m.place u y) (sym e.1)
    | inr e ↦
        way-back ps m.place x y meets.link meets.at meets.apart
        (false_from_ne_true (joined front x meets.link.0) (λ q. true≢false (sym (joined_trans front x m.far y (subst (λ u. joined front x u ≡ true) (sym e.1) q) meets.after) ∙ meets.apart)))
        ∙ ap (λ u. way ps m.place x u ++ m.place ∷ way ps m.place meets.link.0 y) (sym e.0) ∙ ap (λ u. way ps m.place x m.near ++ m.place ∷ way ps m.place u y) (sym e.1)
  ]

  pub way_divides : way ps k x y ≡ way ps k x m.near ++ m.place ∷ way ps k m.far y
  way_divides =
      let e = early in
      way-stable ps (suc m.place) k x y (omega arith) joined_next ∙ parted_here
      ∙ ap (λ l. l ++ m.place ∷ way ps m.place m.far y) (sym (way-stable ps m.place k x m.near (omega arith) meets.before))
      ∙ ap (λ l. way ps k x m.near ++ m.place ∷ l) (sym (way-stable ps m.place k m.far y (omega arith) meets.after))

  pub near_joined : joined ps x m.near ≡ true
  near_joined = let e = early in ap (λ l. joined l x m.near) (sym all) ∙ fronts ps m.place k (omega arith) x m.near meets.before

  pub far_joined : joined ps m.far y ≡ true
  far_joined = let e = early in ap (λ l. joined l m.far y) (sym all) ∙ fronts ps m.place k (omega arith) m.far y meets.after

-- the ends of links are names
link_inside : (H : List Entry) (count : ℕ) → All (λ (e : Entry). (e.a < count) × (e.b < count)) H → (n : ℕ) (link : ℕ × ℕ) → slice_get (links H) n ≡ Some link → (link.0 < count) × (link.1 < count)
link_inside [] count h n link at = absurd cc
link_inside (e ∷ H) count h zero link at =
    let same : (e.a, e.b) ≡ link = (let both : Some (e.a, e.b) ≡ Some link = at in cc) in
    subst (λ (l : ℕ × ℕ). (l.0 < count) × (l.1 < count)) same (h 0 e (omega arith))
link_inside (e ∷ H) count h (suc n) link at = link_inside H count (λ i d l. h (suc i) d (omega arith)) n link at

-- the two parts of a part
pub parts_of : (H : List Entry) (count k : ℕ) (part : Part) (m : Meeting) → k ≡ length (links H) → All (λ (e : Entry). (e.a < count) × (e.b < count)) H → IsWayPart (links H) count part → Meets (links H) part.from part.to m →
    IsWayPart (links H) count (first_part part m) × IsWayPart (links H) count (second_part part m)
parts_of H count k part m whole ends is meets =
    let i = link_inside H count ends m.place meets.link meets.at in
    let n : (m.near < count) × (m.far < count) = inside i meets.ends in
    ((is.0, n.0, near_joined (links H) k part.from part.to m whole meets), (n.1, is.1, far_joined (links H) k part.from part.to m whole meets))
  where
    inside : (meets.link.0 < count) × (meets.link.1 < count) → ((m.near ≡ meets.link.0) × (m.far ≡ meets.link.1)) ⊎ ((m.near ≡ meets.link.1) × (m.far ≡ meets.link.0)) → (m.near < count) × (m.far < count)
    inside i (inl e) = let a = e.0 in let b = e.1 in let p = i.0 in let q = i.1 in (omega arith, omega arith)
    inside i (inr e) = let a = e.0 in let b = e.1 in let p = i.0 in let q = i.1 in (omega arith, omega arith)

-- the last part comes first
pub pieces-push : (ps : List (ℕ × ℕ)) (k : ℕ) (parts : List Part) (part : Part) → parts_places ps k (parts ++ part ∷ []) ≡ part_places ps k part ++ parts_places ps k parts
pieces-push ps k parts part = fold-append (λ after p. part_places ps k p ++ after) [] parts (part ∷ [])

pub pieces-two : (ps : List (ℕ × ℕ)) (k : ℕ) (parts : List Part) (p q : Part) → parts_places ps k (parts ++ p ∷ q ∷ []) ≡ part_places ps k q ++ (part_places ps k p ++ parts_places ps k parts)
pieces-two ps k parts p q = fold-append (λ after u. part_places ps k u ++ after) [] parts (p ∷ q ∷ [])

-- parting leaves the places as they are
pub pieces_divided : (ps : List (ℕ × ℕ)) (k : ℕ) (parts : List Part) (part : Part) (m : Meeting) → k ≡ length ps → Meets ps part.from part.to m →
    parts_places ps k (parts ++ second_part part m ∷ first_part part m ∷ []) ≡ parts_places ps k (parts ++ part ∷ [])
pieces_divided ps k parts part m whole meets =
    let first = way ps k part.from m.near in
    let second = way ps k m.far part.to in
    let after = option_to_list part.then in
    let rest = parts_places ps k parts in
    let one : (first ++ m.place ∷ []) ++ ((second ++ after) ++ rest) ≡ ((first ++ m.place ∷ second) ++ after) ++ rest = simp append_assoc in
    pieces-two ps k parts (second_part part m) (first_part part m) ∙ one
    ∙ ap (λ l. (l ++ after) ++ rest) (sym (way_divides ps k part.from part.to m whole meets)) ∙ sym (pieces-push ps k parts part)

-- and there is less to do
pub work_divided : (ps : List (ℕ × ℕ)) (k : ℕ) (parts : List Part) (part : Part) (m : Meeting) → k ≡ length ps → Meets ps part.from part.to m →
    work_left ps k (parts ++ second_part part m ∷ first_part part m ∷ []) < work_left ps k (parts ++ part ∷ [])
work_divided ps k parts part m whole meets =
    let f : Part → ℕ = λ p. 2 * length (way ps k p.from p.to) + 1 in
    let a = sum_by-append f parts (second_part part m ∷ first_part part m ∷ []) in
    let b = sum_by_push f parts part in
    let l = ap length (way_divides ps k part.from part.to m whole meets) in
    let n = length-append (way ps k part.from m.near) (m.place ∷ way ps k m.far part.to) in
    omega arith

-- a part between a name and itself has its place alone
pub pieces_same : (ps : List (ℕ × ℕ)) (k : ℕ) (parts : List Part) (part : Part) → part.from ≡ part.to → parts_places ps k (parts ++ part ∷ []) ≡ option_to_list part.then ++ parts_places ps k parts
pieces_same ps k parts part e =
    pieces-push ps k parts part ∙ ap (λ l. (l ++ option_to_list part.then) ++ parts_places ps k parts) (ap (λ u. way ps k part.from u) (sym e) ∙ way-same ps k part.from)

pub same_or : (x y : ℕ) (ps : List (ℕ × ℕ)) → (x ≡ y) ⊎ (joined ps x y ≡ false) → joined ps x y ≡ true → x ≡ y
same_or x y ps (inl e) h = e
same_or x y ps (inr n) h = absurd (true≢false (sym h ∙ n))

-- the parts but the last, and the last
pub all_parts : (P : Part → Type 0) (parts all : List Part) (part : Part) → all ≡ parts ++ part ∷ [] → All P all → All P parts × P part
all_parts P parts all part e h = go parts (subst (All P) e h)
  where
    go : (parts : List Part) → All P (parts ++ part ∷ []) → All P parts × P part
    go [] h = (λ i d l. absurd (omega arith), h 0 part (omega arith))
    go (p ∷ parts) h =
        let r : All P parts × P part = go parts (λ i d l. h (suc i) d (omega arith)) in
        (λ i d l. first p parts (h 0 p (omega arith)) r.0 i d l, r.1)
      where
        first : (p : Part) (parts : List Part) → P p → All P parts → (i : ℕ) (d : Part) → i < length (p ∷ parts) → P (get_or (p ∷ parts) i d)
        first p parts hp hs zero d l = hp
        first p parts hp hs (suc i) d l = hs i d (omega arith)

pub push_two : (P : Part → Type 0) (parts : List Part) (p q : Part) → All P parts → P p → P q → All P (parts ++ p ∷ q ∷ [])
push_two P parts p q h hp hq = subst (All P) (append_assoc parts (p ∷ []) (q ∷ [])) (All-push P (parts ++ p ∷ []) q (All-push P parts p h hp) hq)
