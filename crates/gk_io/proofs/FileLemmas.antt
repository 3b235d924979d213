-- The first file with a name.
use Rattle.std.proofs.Common.{List, ℕ, Some, true, cond, ◌≡◌, ◌∙◌, ◌∷◌, ◌+◌, ◌<◌, ◌≤◌, get_or, slice_get, drop, length, sym, ap, bytes_eq, Vec, Global, arith, drop_of_length-le}
use Rattle.std.proofs.lemmas.List.{drop_more}
use Rattle.std.proofs.lemmas.Option.{slice_get-get_or, slice_get_past}
use Rattle.gk_io.specs.Files.{bytes_of, contents_of}
use Rattle.gk_io.specs.HeldFiles.{rest_in, rest_of}

-- where the files before place i have other names and the one there has this name
pub bytes_of-here : (files : List (List ℕ × Vec ℕ Global)) (name : List ℕ) (i : ℕ) (file : List ℕ × Vec ℕ Global) → i < length files → file ≡ get_or files i file → true ≡ bytes_eq file.0 name →
    bytes_of (contents_of files) name ≡ bytes_of (contents_of (drop i files)) name → bytes_of (contents_of files) name ≡ rest_of files i 0
bytes_of-here files name i file h is same before =
    let here : slice_get files i ≡ Some file = slice_get-get_or files i file h ∙ ap Some (sym is) in
    let left : drop i files ≡ file ∷ drop (i + 1) files = drop_more files i file h ∙ ap (λ f. f ∷ drop (i + 1) files) (sym is) in
    before ∙ ap (λ fs. bytes_of (contents_of fs) name) left ∙ ap (λ b. cond b file.1.items (bytes_of (contents_of (drop (i + 1) files)) name)) (sym same)
    ∙ sym (ap (λ o. rest_in o 0) here)

-- where all files have other names
pub bytes_of-nowhere : (files : List (List ℕ × Vec ℕ Global)) (name : List ℕ) (i : ℕ) → length files ≤ i →
    bytes_of (contents_of files) name ≡ bytes_of (contents_of (drop i files)) name → bytes_of (contents_of files) name ≡ rest_of files (length files) 0
bytes_of-nowhere files name i h before =
    before ∙ ap (λ fs. bytes_of (contents_of fs) name) (drop_of_length-le files h) ∙ sym (ap (λ o. rest_in o 0) (slice_get_past files (length files) (omega arith)))
