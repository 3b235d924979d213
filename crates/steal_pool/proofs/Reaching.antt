-- Passes for stealing, in order.
use Rattle.std.proofs.Common.{Global, List, [], ◌∷◌, ◌++◌, ℕ, zero, suc, Some, length, get_or, slice_get, ◌≡◌, ◌<◌, sym, subst, ap, ◌∙◌, Vec}
use Rattle.std.proofs.lemmas.List.{length-map}
use Rattle.std.specs.List.{All}
use Rattle.std.specs.Option.{option_map}
use Rattle.std.proofs.lemmas.Option.{slice_get-map, slice_get-get_or}
use Rattle.atomic_blocks.specs.Lent.{RowsId}
use Rattle.crossbeam_deque.specs.Handles.{view, IsPassOf, stealer_deque, worker_deque}
use Rattle.label_board.specs.Seen.{SeenBoard}
use Rattle.steal_pool.specs.Hints.{bounded_by}
use Rattle.steal_pool.specs.declared.workspace.StealPass.{StealPass}
use Rattle.steal_pool.specs.declared.workspace.Workspace.{Workspace}
use Rattle.steal_pool.specs.Workspaces.{Thief, HintDeque, thief_ids, deque_ids, ReachFirst, ReachAll, ReachEach, IsOwnDeque, IsPlace, IsWorkspace}

some_same : {A : Type 0} (x y : A) → Some x ≡ Some y → x ≡ y
some_same x y e = cc

-- what holds of each element of a list and of one more at its end
each_pushed : {A : Type 0} (P : ℕ → A → Type 0) (xs : List A) (y : A) → ((k : ℕ) (x : A) → slice_get xs k ≡ Some x → P k x) → P (length xs) y
    → (k : ℕ) (x : A) → slice_get (xs ++ y ∷ []) k ≡ Some x → P k x
each_pushed P [] y h last zero x e = subst (P 0) (some_same y x e) last
each_pushed P [] y h last (suc k) x e = absurd (cc)
each_pushed P (z ∷ zs) y h last zero x e = h 0 x e
each_pushed P (z ∷ zs) y h last (suc k) x e = each_pushed (λ (n : ℕ). P (suc n)) zs y (λ j w d. h (suc j) w d) last k x e

reach_each : (n : ℕ) (thieves : List Thief) (passes : List StealPass) → ReachAll n (thief_ids thieves) passes → ReachEach n thieves passes
reach_each n thieves passes h = (
  h.0 ∙ length-map thieves (λ (t : Thief). stealer_deque t),
  λ k t p at pass. h.1 k (stealer_deque t) p (slice_get-map (λ (t : Thief). stealer_deque t) thieves k ∙ ap (option_map (λ (t : Thief). stealer_deque t)) at) pass,
)

-- one more pass, of the next deque
pub reach_more : (n k : ℕ) (ids : List (RowsId × Global)) (deques : List HintDeque) (passes : List StealPass) (p : StealPass) (w : HintDeque)
    → deque_ids deques ≡ ids → k < length deques → length passes ≡ k
    → IsPassOf (worker_deque (get_or deques k w)) p.pass → view p.pass ≡ bounded_by n
    → ReachFirst n ids passes → ReachFirst n ids (passes ++ p ∷ [])
reach_more n k ids deques passes p w same within count pass knows reach = λ j i e at there.
    each_pushed (λ j e. (i : RowsId × Global) → slice_get ids j ≡ Some i → IsPassOf i e.pass × (view e.pass ≡ bounded_by n)) passes p
    (λ j e at i there. reach j i e there at)
    (λ i there. (
      subst (λ (o : RowsId × Global). IsPassOf o p.pass)
          (some_same _ i (sym (ap (option_map (λ (o : HintDeque). worker_deque o)) (slice_get-get_or deques k w within)) ∙ sym (slice_get-map (λ (o : HintDeque). worker_deque o) deques k) ∙ ap (λ l. slice_get l k) same ∙ sym (ap (slice_get ids) count) ∙ there))
          pass,
      knows,
    ))
    j e there i at

-- what a workspace is made of
pub workspace_made : (n m widest : ℕ) (on : SeenBoard) (thieves : List Thief) (workspace : Workspace) (own : HintDeque) (passes : Vec StealPass Global)
    → n ≡ m → workspace.count ≡ m → workspace.own ≡ own → workspace.steal_passes ≡ passes → workspace.pending.items ≡ [] → All (IsPlace widest on) workspace.jobs.items
    → IsOwnDeque n own → ReachAll n (thief_ids thieves) passes.items → IsWorkspace m widest on thieves workspace
workspace_made n m widest on thieves workspace own passes same count is_own are_passes none places deque reach = record {
  count = count;
  own = subst (λ (k : ℕ). IsOwnDeque k workspace.own) same (subst (IsOwnDeque n) (sym is_own) deque);
  passes = subst (λ (k : ℕ). ReachEach k thieves workspace.steal_passes.items) same (subst (λ (ps : Vec StealPass Global). ReachEach n thieves ps.items) (sym are_passes) (reach_each n thieves passes.items reach));
  pending = subst (All (λ p. p < m)) (sym none) (λ k d l. absurd (omega Rattle.std.proofs.Common.arith));
  places = places;
}
