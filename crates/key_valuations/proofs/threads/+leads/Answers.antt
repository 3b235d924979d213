-- The names of both halves, joined.
use Rattle.std.proofs.Common.{List, ℕ, ◌++◌, ap₂, ◌∙◌, subst}
use Rattle.std.proofs.lemmas.List.{take-append-drop}
use Rattle.key_valuations.specs.Search.{AreLeadsOf}
use Rattle.key_valuations.proofs.RunLaws.{leads_both}
use Rattle.key_valuations.proofs.threads.+leads.Goals as goal

pub returns : goal.returns
returns g t c =
    let low = rw c.in_ok-leads.was at c.join-low.ensures.first in
    let high = rw c.in_ok-high.was at c.join-low.ensures.second in
    let search = c.args.search.now in
    let new = c.append.new.self in
    let whole = ap₂ (λ (xs ys : List ℕ). xs ++ ys) c.split_at.ensures.front c.split_at.ensures.back ∙ take-append-drop _ c.args.names.now in
    subst (λ (names : List ℕ). AreLeadsOf search names new) whole
    (leads_both search _ _ c.in_ok-leads.leads c.in_ok-high.field-0 new low high c.in_ok-append.ensures.ok)
