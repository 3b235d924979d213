use Rattle.std.proofs.Common.{◌≡◌, ◌++◌, ◌∷◌, [], ◌+◌, ◌/◌, ◌%◌, arith, sym, ap, ◌∙◌, append_assoc}
use Rattle.std.specs.Fmt.{decimal}
use Rattle.std.proofs.lemmas.Fmt.{decimal_step, decimal_digit}
use Rattle.std.proofs.lemmas.Result.{on_ok_weaker}
use Rattle.proof_file.proofs.canonical.+put_decimal.Goals as goal
use Rattle.proof_file.proofs.canonical.+put_decimal.Goals.{then-number-ge10+in_ok-put_decimal, else-number-ge10}

pub returns-clause-ok : goal.returns-clause-ok
returns-clause-ok t c =
    let n = c.args.number in
    let old = c.args.buf.now.items in
    on_ok_weaker c.put.result (λ last. elim c.if-number-ge10.branch [
      | then-number-ge10+in_ok-put_decimal w ↦
          (let big = w.if-number-ge10.true in
          last ∙ ap (λ v. v.items ++ (48 + n % 10) ∷ []) w.buf-is ∙ ap (λ l. l ++ (48 + n % 10) ∷ []) w.in_ok-put_decimal.ensures.ok
          ∙ append_assoc old (decimal (n / 10)) ((48 + n % 10) ∷ []) ∙ ap (λ l. old ++ l) (sym (decimal_step n big (omega (arith, c.ranges.number.fits)))))
      | else-number-ge10 w ↦
          (let small = w.if-number-ge10.false in
          let same : 48 + n % 10 ≡ 48 + n = omega arith in
          last ∙ ap (λ v. v.items ++ (48 + n % 10) ∷ []) w.buf-is ∙ ap (λ d. old ++ d ∷ []) same ∙ ap (λ l. old ++ l) (sym (decimal_digit n (omega arith))))
    ]) c.put.ensures.ok
