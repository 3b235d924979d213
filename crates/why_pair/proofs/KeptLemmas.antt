-- What is kept of a list, place by place.
use Rattle.std.proofs.Common.{List, [], ◌∷◌, ◌++◌, if◌then◌else◌, ℕ, zero, suc, ◌+◌, ◌<◌, Bool, true, false, Some, length, slice_get, get_or, take, drop, ◌≡◌, refl, sym, ap, ap₂, subst, ◌∙◌, arith}
use Rattle.std.proofs.lemmas.List.{drop_more}
use Rattle.chase_laws.specs.declared.entry.Entry.{Entry}
use Rattle.chase_laws.specs.Joined.{joined, links}
use Rattle.chase_laws.specs.Chase.{IsLean}
use Rattle.chase_laws.proofs.CallerLemmas.{Within, Within-nil, Within-cons, Within-more, Within-trans, joined_head}
use Rattle.why_pair.specs.Kept.{kept_by, place_kept}

-- where an element that is kept stood
pub record KeptAt {X : Type 0} (marks : List Bool) (xs : List X) (k : ℕ) (x : X) : Type 0 where
  pub place : ℕ
  pub at : slice_get xs place ≡ Some x
  pub marked : slice_get marks place ≡ Some true
  pub is : place_kept marks place ≡ k

pub at_kept : {X : Type 0} (marks : List Bool) (xs : List X) (k : ℕ) (x : X) → slice_get (kept_by marks xs) k ≡ Some x → KeptAt marks xs k x
at_kept [] xs k x at = absurd cc
at_kept (mark ∷ marks) [] k x at = absurd cc
at_kept (true ∷ marks) (y ∷ xs) zero x at = record { place = 0; at = at; marked = refl; is = refl }
at_kept (true ∷ marks) (y ∷ xs) (suc k) x at = let r = at_kept marks xs k x at in record { place = suc r.place; at = r.at; marked = r.marked; is = ap suc r.is }
at_kept (false ∷ marks) (y ∷ xs) k x at = let r = at_kept marks xs k x at in record { place = suc r.place; at = r.at; marked = r.marked; is = r.is }

-- and where one that has the mark stands then
pub kept_at : {X : Type 0} (marks : List Bool) (xs : List X) (p : ℕ) (x : X) → slice_get xs p ≡ Some x → slice_get marks p ≡ Some true → slice_get (kept_by marks xs) (place_kept marks p) ≡ Some x
kept_at [] xs p x at marked = absurd cc
kept_at (mark ∷ marks) [] p x at marked = absurd cc
kept_at (true ∷ marks) (y ∷ xs) zero x at marked = at
kept_at (false ∷ marks) (y ∷ xs) zero x at marked = absurd cc
kept_at (true ∷ marks) (y ∷ xs) (suc p) x at marked = kept_at marks xs p x at marked
kept_at (false ∷ marks) (y ∷ xs) (suc p) x at marked = kept_at marks xs p x at marked

-- the order stays
pub place_less : (marks : List Bool) (p q : ℕ) → p < q → slice_get marks p ≡ Some true → place_kept marks p < place_kept marks q
place_less [] p q l marked = absurd cc
place_less (mark ∷ marks) p zero l marked = absurd (omega arith)
place_less (true ∷ marks) zero (suc q) l marked = omega arith
place_less (false ∷ marks) zero (suc q) l marked = absurd cc
place_less (true ∷ marks) (suc p) (suc q) l marked = let r = place_less marks p q (omega arith) marked in omega arith
place_less (false ∷ marks) (suc p) (suc q) l marked = place_less marks p q (omega arith) marked

-- ---- one place more

kept_one : {X : Type 0} (mark : Bool) (marks : List Bool) (x : X) (xs : List X) → kept_by (mark ∷ marks) (x ∷ xs) ≡ (if mark then x ∷ [] else []) ++ kept_by marks xs
kept_one true marks x xs = refl
kept_one false marks x xs = refl

pub kept_more : {X : Type 0} (marks : List Bool) (xs : List X) (at : ℕ) (m : Bool) (d : X) → at < length marks → at < length xs →
    kept_by (drop at marks) (drop at xs) ≡ (if get_or marks at m then get_or xs at d ∷ [] else []) ++ kept_by (drop (at + 1) marks) (drop (at + 1) xs)
kept_more marks xs at m d l k = ap₂ kept_by (drop_more marks at m l) (drop_more xs at d k) ∙ kept_one (get_or marks at m) (drop (at + 1) marks) (get_or xs at d) (drop (at + 1) xs)

-- ---- lean entries

take-none : {X : Type 0} (n : ℕ) → ◌≡◌ {A = List X} (take n []) []
take-none zero = refl
take-none (suc n) = refl

-- what is kept of a front joins no more than the front
pub kept_within : (marks : List Bool) (H : List Entry) (p : ℕ) → Within (links (take (place_kept marks p) (kept_by marks H))) (links (take p H))
kept_within [] H p = Within-nil (links (take p H))
kept_within (mark ∷ marks) [] p = subst (λ (l : List Entry). Within (links l) (links (take p []))) (sym (take-none (place_kept (mark ∷ marks) p))) (Within-nil (links (take p [])))
kept_within (mark ∷ marks) (e ∷ H) zero = Within-nil []
kept_within (true ∷ marks) (e ∷ H) (suc p) =
    let front = links (take p H) in
    Within-cons e.a e.b (links (take (place_kept marks p) (kept_by marks H))) ((e.a, e.b) ∷ front) (joined_head e.a e.b front)
    (Within-trans (links (take (place_kept marks p) (kept_by marks H))) front ((e.a, e.b) ∷ front) (kept_within marks H p) (Within-more (e.a, e.b) front))
kept_within (false ∷ marks) (e ∷ H) (suc p) =
    let front = links (take p H) in
    Within-trans (links (take (place_kept marks p) (kept_by marks H))) front ((e.a, e.b) ∷ front) (kept_within marks H p) (Within-more (e.a, e.b) front)

pub kept_lean : (marks : List Bool) (H : List Entry) → IsLean H → IsLean (kept_by marks H)
kept_lean marks H lean i e at joins =
    let r = at_kept marks H i e at in
    lean r.place e r.at (kept_within marks H r.place e.a e.b (subst (λ k. joined (links (take k (kept_by marks H))) e.a e.b ≡ true) (sym r.is) joins))
