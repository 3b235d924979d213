-- What one seat has, as the passes are joined into it.
use Rattle.std.proofs.Common.{sym, ◌≡◌, ℕ, ◌+◌, List, [], ◌∷◌, ◌++◌, length, Some, slice_get, inl, inr, ⊎_elim, refl, ap, ◌∙◌, subst, arith}
use Rattle.turn_lock.specs.declared.handles.Pass.{Pass}
use Rattle.turn_lock.specs.declared.handles.TurnLock.{TurnLock}
use Rattle.turn_lock.specs.declared.view.Known.{Known}
use Rattle.turn_lock.specs.declared.view.View.{View}
use Rattle.turn_lock.specs.Lists.{total, occurrences, Placed}
use Rattle.turn_lock.specs.Turns.{fresh, joined_of, IsRight, AreRight}
use Rattle.turn_lock.specs.Handles.{Gathers, IsPassOf, IsOut, IsNew, known, mine}
use Rattle.turn_lock.proofs.Sums.{total_snoc, total_append, placed_none}
use Rattle.turn_lock.proofs.Knowing.{all_right_front}
use Rattle.turn_lock.proofs.Rows.{at_back}

module _ {T B I : Type 0} where
  pub first_gathered : (all rest : List (Pass T B I)) (p : Pass T B I) → all ≡ rest ++ p ∷ [] → p.seat.me.0.joined ≡ [] → Gathers all rest p.seat.me.0
  first_gathered all rest p is none = record {
    claimed = λ x. let f : Pass T B I → ℕ = λ q. occurrences x (mine q) in let sum : total f all ≡ total f rest + f p = ap (total f) is ∙ total_snoc f rest p in
        let zero_more : total (λ k. occurrences x k.mine) p.seat.me.0.joined ≡ 0 = ap (total (λ (k : Known B I). occurrences x k.mine)) none in omega arith;
    right = λ b log own joined k q e. ⊎_elim (λ (a : slice_get rest k ≡ Some q). inl a) (λ (a : p ≡ q). inr (subst (λ (z : Pass T B I). IsRight b log (known z)) a own)) (at_back rest p k q (subst (λ l. slice_get l k ≡ Some q) is e));
  }

  pub more_gathered : (all rest less : List (Pass T B I)) (p : Pass T B I) (v : View B I) → rest ≡ less ++ p ∷ [] → p.seat.me.0.joined ≡ [] → Gathers all rest v → Gathers all less (joined_of v p.seat.me.0)
  more_gathered all rest less p v is none g = record {
    claimed = λ x. let f : Pass T B I → ℕ = λ q. occurrences x (mine q) in let h : Known B I → ℕ = λ k. occurrences x k.mine in let sum : total f rest ≡ total f less + f p = ap (total f) is ∙ total_snoc f less p in
        let zero_more : total h p.seat.me.0.joined ≡ 0 = ap (total h) none in
        let was = g.claimed x in let both = total_append h v.joined p.seat.me.0.joined in omega arith;
    right = λ b log own joined k q e. ⊎_elim
        (λ (a : slice_get rest k ≡ Some q). ⊎_elim (λ (c : slice_get less k ≡ Some q). inl c) (λ (c : p ≡ q). inr (subst (λ (z : Pass T B I). IsRight b log (known z)) c joined.0)) (at_back less p k q (subst (λ l. slice_get l k ≡ Some q) is a)))
        (λ (a : IsRight b log (known q)). inr a)
        (g.right b log own (all_right_front b log v.joined p.seat.me.0.joined joined.1) k q e);
  }

  none_left : (xs : List (Pass T B I)) → length xs ≡ 0 → xs ≡ []
  none_left [] e = refl
  none_left (x ∷ xs) e = absurd (omega arith)

  pub all_gathered : (all rest : List (Pass T B I)) (v : View B I) → length rest ≡ 0 → Gathers all rest v → Gathers all [] v
  all_gathered all rest v e g = subst (λ l. Gathers all l v) (none_left rest e) g

  -- what is gathered, at the end
  pub right_for_all : (all : List (Pass T B I)) (v : View B I) (b : B) (log : List I) → Gathers all [] v → IsRight b log v.own → AreRight b log v.joined → (k : ℕ) (p : Pass T B I) → slice_get all k ≡ Some p → IsRight b log (known p)
  right_for_all all v b log g own joined k p e = ⊎_elim (λ (c : slice_get [] k ≡ Some p). absurd (cc)) (λ (c : IsRight b log (known p)). c) (g.right b log own joined k p e)

  pub fresh_is_out : (lock : TurnLock T B I) (p : Pass T B I) (b : B) (es : List I) → p.seat.table_id ≡ lock.table.shared.table_id → p.seat.me ≡ (fresh 1 b es, []) → IsPassOf lock p × IsOut p
  fresh_is_out lock p b es table me = (
    record { table = table; part = ap (λ m. m.0.parts) me; alone = ap (λ m. m.0.joined) me; placed = subst (λ m. Placed 0 m.0.own.mine (length m.0.own.seen)) (sym me) (placed_none 0 (length es)) },
    record { idle = ap (λ m. m.0.stage) me; holds = ap (λ m. m.1) me },
  )

  pub fresh_is_new : (base : T → B) (entries : T → List I) (x : T) (k : ℕ) (p : Pass T B I) → p.number ≡ k → p.seat.me ≡ (fresh 1 (base x) (entries x), []) → IsNew base entries x k p
  fresh_is_new base entries x k p numbered me = record {
    numbered = numbered;
    based = ap (λ m. m.0.own.base) me;
    has_seen = ap (λ m. m.0.own.seen) me;
    none_mine = ap (λ m. m.0.own.mine) me;
    floor_is = ap (λ m. m.0.own.floor) me;
  }
