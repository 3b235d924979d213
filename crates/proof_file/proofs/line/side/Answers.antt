use Rattle.std.proofs.Common.{map, sym, subst}
use Rattle.proof_file.specs.Steps.{term_at}
use Rattle.proof_file.specs.Words.{words_of}
use Rattle.proof_file.specs.ProofText.{numbered_side, SideSays}
use Rattle.proof_file.specs.Progress.{ItemsAre, SideTold}
use Rattle.proof_file.proofs.SideLemmas.{numbers_told}
use Rattle.proof_file.proofs.line.side.Goals as goal

pub returns-in-One-clause-told : goal.returns-in-One-clause-told
returns-in-One-clause-told c =
    let terms = map (term_at c.args.terms.now) c.args.known.now.listed.items in
    subst (λ v. SideTold c.spelled_side.new.terms (SideSays c.args.word.now c.args.line.now terms v) c.spelled_side.result) (sym c.in-One.is) (c.spelled_side.ensures.told terms)

pub returns-in-Two-clause-told : goal.returns-in-Two-clause-told
returns-in-Two-clause-told c =
    let names = c.args.terms.now in
    let listed = c.args.known.now.listed.items in
    subst (λ v. SideTold names (SideSays c.args.word.now c.args.line.now (map (term_at names) listed) v) c.numbered_side.result) (sym c.in-Two.is)
    (numbers_told names listed c.args.word.now c.args.line.now c.numbered_side.result c.requires.below.listed
    (subst (λ l. ItemsAre (numbered_side c.args.word.now l (words_of c.args.line.now)) c.numbered_side.result) c.deref.ensures.value c.numbered_side.ensures))
