-- What is free is put to the end; what is not stands there.
use Rattle.std.proofs.Common.{◌∙◌, ap, arith, rules, ◌<◌, ◌≡◌, ◌++◌, ◌∷◌, [], ℕ, List, Contains, length, subst, sym, refl, inl, inr, get_or-set_same, length-set}
use Rattle.std.proofs.lemmas.Bool.{iff_false, not-true}
use Rattle.std.proofs.lemmas.List.Elements.{Contains-push, Contains-append_left}
use Rattle.list_pool.specs.Pool.{list_at}
use Rattle.signature_chase.proofs.Queues.{only_list, stands_or_not}
use Rattle.signature_chase.proofs.queue.put_once.Goals as goal

pub returns-then-not-is_free-clause-waits : goal.returns-then-not-is_free-clause-waits
returns-then-not-is_free-clause-waits c =
    let lists = c.args.pool.now.lists in
    let g = c.args.cell in
    elim (stands_or_not (list_at lists 0) g) [
      | inl h ↦ h
      | inr n ↦ absurd (iff_false c.is_free.ensures (search (rules, not-true)) (only_list lists g c.requires.lists n))
    ]

pub returns : goal.returns
returns c =
    let lists = c.args.pool.now.lists in
    let g = c.args.cell in
    let some : 0 < length lists = let e = c.requires.lists in omega arith in
    let made : list_at c.push_back.new.self.lists 0 ≡ list_at lists 0 ++ g ∷ [] =
    ap (λ ls. list_at ls 0) c.push_back.ensures.lists ∙ get_or-set_same lists 0 (list_at lists 0 ++ g ∷ []) [] some in
    record {
      waits = rw made (Contains-push (list_at lists 0) g);
      kept = λ h k. rw made (Contains-append_left (list_at lists 0) (g ∷ []) h k);
      lists = ap length c.push_back.ensures.lists ∙ length-set lists 0 (list_at lists 0 ++ g ∷ []) ∙ c.requires.lists;
      cells = c.push_back.ensures.cells;
    }
