-- What is copied is the same.
use Rattle.std.proofs.Common.{List, ℕ, All, Contains, length, ◌<◌, ◌↔◌, sym, ◌∙◌, ap, subst}
use Rattle.std.proofs.lemmas.Result.{IfOk-weaker}
use Rattle.graph_rows.proofs.growth.graph_over.Goals as goal

pub build_in_threads-requires-clause-named : goal.build_in_threads-requires-clause-named
build_in_threads-requires-clause-named g c κs within =
    rw c.len-count.ensures.len (subst (All (λ (row : List ℕ). All (λ n. n < length c.args.keys.now.names) row)) (sym c.in_ok-rows.ensures.items) c.requires.named)

pub build_in_threads-requires-clause-flags : goal.build_in_threads-requires-clause-flags
build_in_threads-requires-clause-flags g c κs within = ap length (c.in_ok-literal.ensures.items ∙ c.deref.ensures.value) ∙ c.requires.flags ∙ sym c.len-count.ensures.len

pub build_in_threads-requires-clause-type_named : goal.build_in_threads-requires-clause-type_named
build_in_threads-requires-clause-type_named g c κs within = rw c.len-count.ensures.len c.requires.type_named

pub build_in_threads-requires-clause-folding : goal.build_in_threads-requires-clause-folding
build_in_threads-requires-clause-folding g c κs within =
    rw (c.in_ok-rows.ensures.items, c.in_ok-literal.ensures.items ∙ c.deref.ensures.value, c.in_ok-alike.ensures.items ∙ c.deref-2.ensures.value) c.requires.folding

pub returns-clause-rows : goal.returns-clause-rows
returns-clause-rows g c =
    IfOk-weaker c.build_in_threads.result _ _
    (λ built has. subst (λ (rs : List (List ℕ)). (row : List ℕ) → Contains built.rows row ↔ Contains rs row) c.in_ok-rows.ensures.items has) c.build_in_threads.ensures.rows
