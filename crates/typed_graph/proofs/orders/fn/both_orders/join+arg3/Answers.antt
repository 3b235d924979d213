-- The sorted rows have the names of the rows that came, and the index keeps them as they are.
use Rattle.std.proofs.Common.{Result, Ok, Err, IfOk}
use Rattle.typed_graph.proofs.Order.{all_named}
use Rattle.typed_graph.proofs.orders.fn.both_orders.join+arg3.Goals as goal

if_ok_more : {X E : Type 0} (P R : X → Type 0) → ((x : X) → P x → R x) → (answer : Result X E) → IfOk answer P → IfOk answer R
if_ok_more P R more (Ok x) h = more x h
if_ok_more P R more (Err e) h = tt

pub index_forward-requires : goal.index_forward-requires
index_forward-requires g c = record {
  ascending = c.sorted_in_threads.ensures.ascending;
  three = c.sorted_in_threads.ensures.three;
  named = all_named _ _ c.captures.names c.sorted_in_threads.ensures.same c.requires;
}

pub returns : goal.returns
returns g c =
    let kept = c.index_forward.ensures.rows in
    record {
      ascending = if_ok_more _ _ (λ o e. rw e c.sorted_in_threads.ensures.ascending) c.index_forward.result kept;
      three = if_ok_more _ _ (λ o e. rw e c.sorted_in_threads.ensures.three) c.index_forward.result kept;
      same = if_ok_more _ _ (λ o e. rw e c.sorted_in_threads.ensures.same) c.index_forward.result kept;
      forward = c.index_forward.ensures.forward;
      types = c.index_forward.ensures.types;
    }
