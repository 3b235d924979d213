-- The chase over the numbers is that over the triples.
use Rattle.gkey_cmd.proofs.Reports.{not_too_many, right_ending}
use Rattle.gkey_cmd.proofs.LastCalls.{if_err_more, on_ok_more}
use Rattle.gkey_cmd.proofs.chased.chase_files.Goals as goal

pub returns-clause-no_more : goal.returns-clause-no_more
returns-clause-no_more g c =
    let n = c.in_ok-numbered.numbered in
    on_ok_more _ _ (λ none triples s.
    let is = c.in_ok-numbered.ensures.numbered triples s in
    not_too_many triples c.args.keys.now n.graph n.names n.patterns.items is.names is.graph is.patterns c.law_rows.ensures.candidate c.args.options.now.limits.now.pairs none) c.chase_numbered.result c.chase_numbered.ensures.no_more

pub returns-clause-ends : goal.returns-clause-ends
returns-clause-ends g c =
    let n = c.in_ok-numbered.numbered in
    if_err_more _ _ (λ ending stopped triples s.
    let is = c.in_ok-numbered.ensures.numbered triples s in
    right_ending triples c.args.keys.now n.graph n.names n.patterns.items is.names is.graph is.patterns c.law_rows.ensures.candidate c.args.options.now.limits.now.pairs ending stopped) c.chase_numbered.result c.chase_numbered.ensures.ends
