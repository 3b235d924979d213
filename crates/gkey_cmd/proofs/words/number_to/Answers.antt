-- What was found is the number.
use Rattle.std.proofs.Common.{◌≡◌, ◌≢◌, ◌≤◌, ℕ, MatchOption, arith, subst}
use Rattle.std.specs.Fmt.{decimal}
use Rattle.gkey_cmd.proofs.Numbers.{number_is}
use Rattle.gkey_cmd.proofs.words.number_to.Goals as goal

pub returns-clause-number : goal.returns-clause-number
returns-clause-number c =
    let most = c.args.most in
    number_is most c.args.word.now c.number_of.result (omega (arith, c.requires))
    (subst (λ word. MatchOption c.number_of.result ((n : ℕ) → 1 ≤ n → n ≤ most → word ≢ decimal n) (λ n. (1 ≤ n) × (n ≤ most) × (word ≡ decimal n)))
    c.bytes.ensures c.number_of.ensures)
