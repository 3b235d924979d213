-- Runs of pairs that are dealt to threads: what is kept of each.
use Rattle.std.proofs.Common.{List, [], ◌∷◌, ◌++◌, ℕ, zero, suc, Some, slice_get, get_or, take, length, ◌≡◌, ◌+◌, ◌*◌, ◌/◌, ◌%◌, ◌<◌, ◌≤◌, ◌⊎◌, ◌∙◌, Vec, Global, inl, inr, arith, refl, sym, ap, subst, length-append}
use Rattle.std.proofs.Math.Nat.{suc-mul, mul-le-mul_right, mod-add-div', mod-lt}
use Rattle.std.proofs.Math.Seq.{take-add}
use Rattle.std.proofs.lemmas.Option.{slice_get-get_or}
use Rattle.chase_laws.specs.Graph.{NumberedGraph}
use Rattle.chase_laws.specs.Pairing.{ArePairedBy}
use Rattle.chase_laws.specs.Shape.{Shape}
use Rattle.pair_filter.specs.declared.keeping.KeptPairs.{KeptPairs}
use Rattle.pair_filter.specs.Depth.{filter_depth}
use Rattle.pair_filter.specs.Selection.{IsSelection}
use Rattle.pair_filter.specs.Runs.{run_of, IsKept, AreKeptOf}
use Rattle.pair_filter.proofs.Selections.{selection_append}

-- a list that is long enough has an element at a place
there : {X : Type 0} (xs : List X) (k : ℕ) → k < length xs → (x : X) × (slice_get xs k ≡ Some x)
there [] k lt = absurd (omega arith)
there (x ∷ xs) zero lt = (x, refl)
there (x ∷ xs) (suc k) lt = there xs k (omega arith)

-- an element of a list with one more is one of the list, or that one, at the end
pushed_at : {X : Type 0} (xs : List X) (y : X) (k : ℕ) (x : X) → slice_get (xs ++ y ∷ []) k ≡ Some x → (slice_get xs k ≡ Some x) ⊎ ((k ≡ length xs) × (y ≡ x))
pushed_at [] y zero x h = inr (refl, cc)
pushed_at [] y (suc k) x h = absurd (cc)
pushed_at (z ∷ zs) y zero x h = inl h
pushed_at (z ∷ zs) y (suc k) x h = elim (pushed_at zs y k x h) [
  | inl old ↦ inl old
  | inr new ↦ inr (ap suc new.0, new.1)
]

-- the same times as many is no more
turns_before : (place first threads turn count : ℕ) → place ≡ first + count * threads → first + turn * threads < place → turn < count
turns_before place first threads turn count is lt = elim (before turn count) [
  | inl less ↦ less
  | inr more ↦ absurd (omega (arith, is, lt, mul-le-mul_right threads more))
]
  where
    before : (m n : ℕ) → (m < n) ⊎ (n ≤ m)
    before m zero = inr (omega arith)
    before zero (suc n) = inl (omega arith)
    before (suc m) (suc n) = elim (before m n) [
      | inl less ↦ inl (omega arith)
      | inr more ↦ inr (omega arith)
    ]

-- the place behind
pub place_behind : (threads first place : ℕ) (list : List KeptPairs) (kept : KeptPairs) → place ≡ first + length list * threads → place + threads ≡ first + length (list ++ kept ∷ []) * threads
place_behind threads first place list kept is =
    let long : length (list ++ kept ∷ []) ≡ suc (length list) = length-append list (kept ∷ []) ∙ omega arith in
    rw long (omega (arith, is, suc-mul (length list) threads))

module _ (G : NumberedGraph) (K : List Shape) (xs : List (ℕ × ℕ)) where
  -- each of a list is of the run that is dealt at its place
  abbrev pub AreOfTheirs : ℕ → ℕ → List KeptPairs → Type 0
  AreOfTheirs threads first list = (turn : ℕ) (kept : KeptPairs) → slice_get list turn ≡ Some kept → IsKept G K (run_of xs (first + turn * threads)) kept

  -- one more
  pub dealt_more : (threads first place : ℕ) (list : List KeptPairs) (kept : KeptPairs) → place ≡ first + length list * threads → AreOfTheirs threads first list → IsKept G K (run_of xs place) kept → AreOfTheirs threads first (list ++ kept ∷ [])
  dealt_more threads first place list kept is all one turn other at = elim (pushed_at list kept turn other at) [
    | inl old ↦ all turn other old
    | inr new ↦ subst (IsKept G K (run_of xs (first + turn * threads))) new.1
        (subst (λ n. IsKept G K (run_of xs n) kept) (is ∙ ap (λ n. first + n * threads) (sym new.0)) one)
  ]

  -- when the place is behind the last run, all are there
  pub dealt_all : (threads first place : ℕ) (list : List KeptPairs) → place ≡ first + length list * threads → length xs ≤ place * 1024 → AreOfTheirs threads first list → AreKeptOf G K xs threads first list
  dealt_all threads first place list is end all turn lt =
      let within : turn < length list = turns_before place first threads turn (length list) is (omega arith) in
      let one = there list turn within in
      (one.0, one.1, all turn one.0 one.1)

  -- the run at a place is the one that is dealt to a thread in its turn
  pub of_run : (threads run : ℕ) (list : List KeptPairs) → run * 1024 < length xs → AreKeptOf G K xs threads (run % threads) list → (kept : KeptPairs) × (slice_get list (run / threads) ≡ Some kept) × IsKept G K (run_of xs run) kept
  of_run threads run list lt all =
      let same : run % threads + run / threads * threads ≡ run = mod-add-div' run threads in
      let one = all (run / threads) (subst (λ n. n * 1024 < length xs) (sym same) lt) in
      (one.0, one.1, subst (λ n. IsKept G K (run_of xs n) one.0) same one.2)

  -- the same, among what is dealt to all threads
  pub found_run : (threads run : ℕ) (lists : List (Vec KeptPairs Global)) (list : Vec KeptPairs Global) → 0 < threads → length lists ≡ threads
      → run * 1024 < length xs → list ≡ get_or lists (run % threads) list
      → ((first : ℕ) (dealt : Vec KeptPairs Global) → slice_get lists first ≡ Some dealt → AreKeptOf G K xs threads first dealt.items)
      → (kept : KeptPairs) × (slice_get list.items (run / threads) ≡ Some kept) × IsKept G K (run_of xs run) kept
  found_run threads run lists list some count lt is all =
      let within : run % threads < length lists = rw count (mod-lt run some) in
      let at : slice_get lists (run % threads) ≡ Some list = slice_get-get_or lists (run % threads) list within ∙ ap (λ l. Some l) (sym is) in
      of_run threads run list.items lt (all (run % threads) list at)

  -- what is kept of the runs before, and of one more
  pub selection_run : (run : ℕ) (ys zs : List (ℕ × ℕ)) → IsSelection (λ x. ArePairedBy G K filter_depth x.0 x.1) (take (run * 1024) xs) ys → IsSelection (λ x. ArePairedBy G K filter_depth x.0 x.1) (run_of xs run) zs → IsSelection (λ x. ArePairedBy G K filter_depth x.0 x.1) (take ((run + 1) * 1024) xs) (ys ++ zs)
  selection_run run ys zs before one =
      let P : ℕ × ℕ → Type 0 = λ x. ArePairedBy G K filter_depth x.0 x.1 in
      let more : (run + 1) * 1024 ≡ run * 1024 + 1024 = omega arith in
      subst (λ l. IsSelection P l (ys ++ zs)) (sym (ap (λ n. take n xs) more ∙ take-add (run * 1024) 1024 xs))
      (selection_append P (take (run * 1024) xs) (run_of xs run) ys zs before one)
