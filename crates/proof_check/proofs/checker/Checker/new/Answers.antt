-- What is made of a graph in numbers and keys.
use Rattle.std.proofs.Common.{arith, sym, ap, ◌∙◌}
use Rattle.term_table.specs.Numbering.{place_of, with_term, with_terms}
use Rattle.key_file.specs.Compile.{key_terms}
use Rattle.proof_check.specs.Rows.{has_end}
use Rattle.proof_check.proofs.ReadyLemmas.{kind_stays, made_ready}
use Rattle.proof_check.proofs.checker.Checker.new.Goals as goal

pub returns : goal.returns
returns c = λ triples g.
    let keys = c.args.keys.now in
    let type = c.in_ok-type_term in
    let kind = c.in_ok-kind in
    let names = c.in_ok-patterns.ensures.names in
    let count = c.len-count.ensures.len in
    made_ready c.args.names c.args.rows.items keys _ triples
    (record {
      names = names ∙ ap (λ l. with_terms l (key_terms keys)) (kind.ensures.ok ∙ ap (with_term c.args.names) type.ensures);
      distinct = c.in_ok-patterns.ensures.distinct;
      order = c.in_ok-rows.ensures;
      count = c.in_ok-known.ensures.count ∙ count;
      ends = λ n h. c.in_ok-known.ensures.ends n (omega arith) ∙ ap (λ l. has_end l n) c.deref.ensures.value;
      kind = ap (place_of c.compile.new.names) (sym type.ensures) ∙ kind_stays c.args.names c.intern.new.self c.compile.new.names (key_terms keys) type.field-0 kind.kind kind.ensures.ok kind.ensures.distinct kind.ensures.place names;
      compiled = c.in_ok-patterns.ensures.patterns;
    })
    g
