use Rattle.std.proofs.Common.{◌≡◌, ℕ, List, IfOk, IsUtf8, chars, encode_utf8_all, sym, ap, subst, ◌∙◌}
use Rattle.std.specs.Str.{is_utf8}
use Rattle.std.proofs.lemmas.Bool.{cond-true, cond-false, false_from_ne_true}
use Rattle.std.proofs.lemmas.Str.{IsUtf8-from_is_utf8, is_utf8-from_IsUtf8}
use Rattle.caseless.specs.Caseless.{default_case_fold}
use Rattle.term_table.specs.Folding.{folded_form}
use Rattle.proof_check.proofs.values.folded_form.Goals as goal

-- a text folds to the folding of its characters
text : (form : List ℕ) → IsUtf8 form → folded_form form ≡ encode_utf8_all (default_case_fold (chars form))
text form utf8 = cond-true (is_utf8 form) (encode_utf8_all (default_case_fold (chars form))) form (is_utf8-from_IsUtf8 form utf8)

-- other bytes stay
bytes : (form : List ℕ) → (IsUtf8 form → ⊥) → folded_form form ≡ form
bytes form not_utf8 =
    cond-false (is_utf8 form) (encode_utf8_all (default_case_fold (chars form))) form
    (false_from_ne_true (is_utf8 form) (λ h. not_utf8 (IsUtf8-from_is_utf8 form h)))

pub returns-in_ok-folded-in-Ok : goal.returns-in_ok-folded-in-Ok
returns-in_ok-folded-in-Ok c =
    let cases = c.in-Ok.ensures.cases in
    c.from_vec.ensures ∙ ap (λ v. v.items) c.into_bytes.ensures.value ∙ c.in_ok-folded-in-Ok.ensures
    ∙ ap (λ form. encode_utf8_all (default_case_fold (chars form))) cases.0
    ∙ sym (text c.args.form.now cases.1)

pub returns-in-Err : goal.returns-in-Err
returns-in-Err c =
    subst (λ form. IfOk c.from_bytes.result (λ t. t ≡ form)) (sym (bytes c.args.form.now c.in-Err.ensures.cases.0)) c.from_bytes.ensures
