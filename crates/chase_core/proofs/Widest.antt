-- The greatest count of near names, one pair after another.
use Rattle.std.proofs.Common.{List, [], ◌∷◌, ◌++◌, ℕ, Any, take, get_or, length, max, min, ◌≡◌, ◌<◌, ◌≤◌, ◌+◌, inl, inr, refl, sym, ◌∙◌, subst, arith}
use Rattle.std.proofs.lemmas.Bool.{cases_lt}
use Rattle.std.proofs.lemmas.List.{take_more, length_push, get_or_append_left}
use Rattle.std.proofs.lemmas.List.Elements.{All-push, All-weaker}
use Rattle.std.proofs.lemmas.List.Quantifiers.{Any-push}
use Rattle.std.proofs.lemmas.Option.{slice_get_within, get_or_from_slice_get}
use Rattle.chase_laws.specs.Core.{name_count, PairAt}
use Rattle.list_pool.specs.Pool.{list_at}
use Rattle.chase_core.specs.Setup.{Preparation, near_count, IsMost, IsWidest}

Any-push_left : {X : Type 0} (P : X → Type 0) (xs : List X) (y : X) → Any P xs → Any P (xs ++ y ∷ [])
Any-push_left P xs y a = (a.0, a.1, omega (arith, length_push xs y, a.2), get_or_append_left xs (y ∷ []) a.1 a.0 a.2 ∙ a.3, a.4)

most_push : (near : List (List ℕ)) (pairs : List (ℕ × ℕ)) (p : ℕ × ℕ) (most : ℕ) → IsMost near pairs most → IsMost near (pairs ++ p ∷ []) (max most (near_count near p))
most_push near pairs p most m = record {
  bounds = All-push (λ q. near_count near q ≤ max most (near_count near p)) pairs p
      (All-weaker (λ q. near_count near q ≤ most) (λ q. near_count near q ≤ max most (near_count near p)) (λ q h. omega arith) pairs m.bounds) (omega arith);
  reached = elim (cases_lt (near_count near p) most) [
    | inl less ↦ elim m.reached [
      | inl none ↦ absurd (omega arith)
      | inr some ↦ (let e : max most (near_count near p) ≡ most = omega arith in rw e (inr (Any-push_left (λ q. near_count near q ≡ most) pairs p some)))
    ]
    | inr more ↦ (let e : max most (near_count near p) ≡ near_count near p = omega arith in rw e (inr (Any-push (λ q. near_count near q ≡ near_count near p) pairs p refl)))
  ];
}

pub most_more : (near : List (List ℕ)) (pairs : List (ℕ × ℕ)) (i most : ℕ) → i < length pairs → IsMost near (take i pairs) most →
    IsMost near (take (i + 1) pairs) (max most (near_count near (get_or pairs i (0, 0))))
most_more near pairs i most h m = subst (λ ps. IsMost near ps (max most (near_count near (get_or pairs i (0, 0))))) (sym (take_more pairs i (0, 0) h))
    (most_push near (take i pairs) (get_or pairs i (0, 0)) most m)

-- the widest view has room for what is near to the ends of a pair
pub room_enough : (S : Preparation) → IsWidest S → (p a b : ℕ) → PairAt S.task p a b → min (length (list_at S.near.near a) + length (list_at S.near.near b)) (name_count S.task) ≤ S.widest
room_enough S w p a b at =
    let bound = w.is_most.bounds p (a, b) (slice_get_within S.task.pairs p (a, b) at) in
    let here = subst (λ q. near_count S.near.near q ≤ w.most) (get_or_from_slice_get S.task.pairs p (a, b) (a, b) at) bound in
    rw w.least (omega arith)
