-- Lines of words alone.
use Rattle.std.proofs.Common.{List, [], ◌∷◌, ◌++◌, ℕ, Option, Some, None, ◌≡◌, refl, sym, ap, ◌∙◌, append-nil, append_assoc}
use Rattle.std.specs.Option.{option_map}
use Rattle.proof_file.specs.Words.{decimal_number}
use Rattle.proof_file.specs.ProofText.{number_before, step_numbers}

-- one number more
pub step_numbers-more : (done : List ℕ) (words rest : List (List ℕ)) (word : List ℕ) (n : ℕ) → words ≡ word ∷ rest → decimal_number 1 word ≡ Some n →
    option_map (λ ns. done ++ ns) (step_numbers words) ≡ option_map (λ ns. (done ++ n ∷ []) ++ ns) (step_numbers rest)
step_numbers-more done words rest word n split number =
    ap (λ ws. option_map (λ ns. done ++ ns) (step_numbers ws)) split
    ∙ ap (λ o. option_map (λ ns. done ++ ns) (number_before o (step_numbers rest))) number ∙ by (step_numbers rest)
  where
    by : (o : Option (List ℕ)) → option_map (λ ns. done ++ ns) (number_before (Some n) o) ≡ option_map (λ ns. (done ++ n ∷ []) ++ ns) o
    by None = refl
    by (Some ns) = ap Some (sym (append_assoc done (n ∷ []) ns))

-- no number
pub step_numbers-none : (done : List ℕ) (words rest : List (List ℕ)) (word : List ℕ) → words ≡ word ∷ rest → decimal_number 1 word ≡ None → option_map (λ ns. done ++ ns) (step_numbers words) ≡ None
step_numbers-none done words rest word split number =
    ap (λ ws. option_map (λ ns. done ++ ns) (step_numbers ws)) split ∙ ap (λ o. option_map (λ ns. done ++ ns) (number_before o (step_numbers rest))) number

-- no more numbers
pub step_numbers-end : (done : List ℕ) (words : List (List ℕ)) → words ≡ [] → option_map (λ ns. done ++ ns) (step_numbers words) ≡ Some done
step_numbers-end done words none = ap (λ ws. option_map (λ ns. done ++ ns) (step_numbers ws)) none ∙ ap Some (append-nil done)
