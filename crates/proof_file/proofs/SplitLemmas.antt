-- A text without its first line.
use Rattle.std.proofs.Common.{List, [], ◌∷◌, ◌++◌, ℕ, ◌+◌, ◌-◌, ◌<◌, IsUtf8, Bool, true, false, ◌&&◌, ◌||◌, ◌==◌, eqb, eqb-true, if◌then◌else◌, fold, length, get_or, take, drop, slice_range, ◌≡◌, inl, inr, refl, sym, ap, ap₂, subst, ◌∙◌, arith, append-nil, append_assoc, length-append}
use Rattle.std.proofs.lemmas.Bool.{and_right, and_left, cond-false, or_cases, not-false, cases_eq, ne_eqb}
use Rattle.std.proofs.lemmas.List.{drop_more, drop_all, length-drop, get_or-drop}
use Rattle.std.proofs.lemmas.Str.{IsUtf8-take, IsUtf8-drop, IsCharBoundary-before_ascii, IsCharBoundary-after_ascii}
use Rattle.std.specs.List.{AllPass}
use Rattle.std.proofs.lemmas.List.Folds.{drop_split}
use Rattle.nt_lex.specs.Scans.{IsRunAt}
use Rattle.nt_reader.specs.Lines.{Cut, next, uncut, cut_of, is_line_byte}
use Rattle.nt_reader.proofs.CallerLemmas.{cut_append, some_plain, whole_line, swallowed, range_passes}
use Rattle.proof_file.proofs.WordLemmas.{to_the_end}
use Rattle.proof_file.specs.Splitting.{HasNoEnd, returned_after, IsSplit}

abbrev cut : List (List ℕ) → List ℕ → Bool → Cut
cut ended rest returned = record { ended = ended; rest = rest; returned = returned }

-- the front after the byte `b`, by whether it goes with a carriage return and whether it ends a line
abbrev step : ℕ → Bool → Bool → Cut → Cut
step b x y c =
    if x then record { ended = c.ended; rest = c.rest; returned = false }
    else if y then record { ended = c.ended ++ c.rest ∷ []; rest = []; returned = b == 0x0D }
    else record { ended = c.ended; rest = c.rest ++ b ∷ []; returned = false }

-- what came before stays before
next_from : (e : List (List ℕ)) (c : Cut) (b : ℕ) → next (cut (e ++ c.ended) c.rest c.returned) b ≡ cut (e ++ (next c b).ended) (next c b).rest (next c b).returned
next_from e c b = by (b == 0x0A && c.returned) (b == 0x0A || b == 0x0D)
  where
    by : (x y : Bool) → step b x y (cut (e ++ c.ended) c.rest c.returned) ≡ cut (e ++ (step b x y c).ended) (step b x y c).rest (step b x y c).returned
    by true y = refl
    by false true = ap (λ l. cut l [] (b == 0x0D)) (append_assoc e c.ended (c.rest ∷ []))
    by false false = refl

from_cut : (e : List (List ℕ)) (c : Cut) (bs : List ℕ) → fold next (cut (e ++ c.ended) c.rest c.returned) bs ≡ cut (e ++ (fold next c bs).ended) (fold next c bs).rest (fold next c bs).returned
from_cut e c [] = refl
from_cut e c (b ∷ bs) = ap (λ k. fold next k bs) (next_from e c b) ∙ from_cut e (next c b) bs

-- after a line that ended, where no line feed of it comes
after_line : (line bs : List ℕ) → fold next (cut (line ∷ []) [] false) bs ≡ cut (line ∷ (cut_of bs).ended) (cut_of bs).rest (cut_of bs).returned
unfolding cut_of
after_line line bs = from_cut (line ∷ []) uncut bs

-- a carriage return before a byte that is no line feed is forgotten
return_forgotten : (line : List ℕ) (b : ℕ) (bs : List ℕ) → eqb b 0x0A ≡ false → fold next (cut (line ∷ []) [] true) (b ∷ bs) ≡ fold next (cut (line ∷ []) [] false) (b ∷ bs)
return_forgotten line b bs other =
    ap (λ k. fold next k bs)
    (cond-false (b == 0x0A && true) (cut (line ∷ []) [] false) _ (and_left (b == 0x0A) true other)
    ∙ sym (cond-false (b == 0x0A && false) (cut (line ∷ []) [] false) _ (and_left (b == 0x0A) false other)))

-- the first line of a text
first_cut : (line rest : List ℕ) (b : ℕ) → AllPass is_line_byte line → is_line_byte b ≡ false → cut_of (line ++ b ∷ rest) ≡ fold next (cut (line ∷ []) [] (eqb b 0x0D)) rest
unfolding cut_of
first_cut line rest b pass ends =
    ap cut_of (sym (append_assoc line (b ∷ []) rest)) ∙ cut_append (line ++ b ∷ []) rest
    ∙ ap (λ k. fold next k rest) (whole_line uncut line b pass ends (λ z. and_right (eqb b 0x0A) false refl))

-- from the cut of a text to that of its rest
split_from : (text line rest : List ℕ) (returned : Bool) (r : Bool) → cut_of text ≡ cut (line ∷ (cut_of rest).ended) (cut_of rest).rest r → r ≡ returned_after returned rest → length rest < length text → IsSplit text line rest returned
split_from text line rest returned r is ret shorter = record {
  ended = ap (λ (c : Cut). c.ended) is;
  last = ap (λ (c : Cut). c.rest) is;
  returned_is = ap (λ (c : Cut). c.returned) is ∙ ret;
  shorter = shorter;
}

empty_cut : cut_of [] ≡ cut [] [] false
unfolding cut_of
empty_cut = refl

-- no carriage return came before the text
pub not_returned : (rest : List ℕ) → (cut_of rest).returned ≡ returned_after false rest
not_returned [] = ap (λ (c : Cut). c.returned) empty_cut
not_returned (b ∷ rest) = refl

-- how a text goes on after its first line
module _ (text line rest : List ℕ) (pass : AllPass is_line_byte line) where
  longer : (b : ℕ) (rest : List ℕ) → text ≡ line ++ b ∷ rest → length rest < length text
  longer b rest e = let n = ap length e in let m = length-append line (b ∷ rest) in omega arith

  pub split_feed : text ≡ line ++ 0x0A ∷ rest → IsSplit text line rest false
  split_feed e = split_from text line rest false (cut_of rest).returned (ap cut_of e ∙ first_cut line rest 0x0A pass refl ∙ after_line line rest) (not_returned rest) (longer 0x0A rest e)

  pub split_return : text ≡ line ++ 0x0D ∷ rest → ((b : ℕ) (more : List ℕ) → rest ≡ b ∷ more → eqb b 0x0A ≡ false) → IsSplit text line rest true
  split_return e other = go rest refl
    where
      go : (r : List ℕ) → rest ≡ r → IsSplit text line rest true
      go [] same =
          split_from text line rest true true
          (ap cut_of e ∙ first_cut line rest 0x0D pass refl ∙ ap (fold next (cut (line ∷ []) [] true)) same
          ∙ ap (λ (c : Cut). cut (line ∷ c.ended) c.rest true) (sym empty_cut) ∙ ap (λ l. cut (line ∷ (cut_of l).ended) (cut_of l).rest true) (sym same))
          (ap (returned_after true) (sym same)) (longer 0x0D rest e)
      go (b ∷ more) same =
          split_from text line rest true (cut_of rest).returned
          (ap cut_of e ∙ first_cut line rest 0x0D pass refl ∙ ap (fold next (cut (line ∷ []) [] true)) same ∙ return_forgotten line b more (other b more same)
          ∙ after_line line (b ∷ more) ∙ ap (λ l. cut (line ∷ (cut_of l).ended) (cut_of l).rest (cut_of l).returned) (sym same))
          (ap (λ l. (cut_of l).returned) same ∙ ap (returned_after true) (sym same)) (longer 0x0D rest e)

  pub split_return_feed : text ≡ line ++ 0x0D ∷ 0x0A ∷ rest → IsSplit text line rest false
  split_return_feed e =
      let shorter = longer 0x0D (0x0A ∷ rest) e in
      split_from text line rest false (cut_of rest).returned
      (ap cut_of e ∙ first_cut line (0x0A ∷ rest) 0x0D pass refl ∙ ap (λ k. fold next k rest) (swallowed (cut (line ∷ []) [] true) refl) ∙ after_line line rest)
      (not_returned rest) (omega arith)

-- a text in which no line ends
pub no_end : (text : List ℕ) → AllPass is_line_byte text → HasNoEnd text
unfolding cut_of
no_end [] pass = record { ended = refl; rest = refl; returned = refl }
no_end (b ∷ text) pass =
    let is = some_plain uncut (b ∷ text) pass (omega arith) in
    record { ended = ap (λ (c : Cut). c.ended) is; rest = ap (λ (c : Cut). c.rest) is; returned = ap (λ (c : Cut). c.returned) is }

-- ---- by places

pub run_line : (text : List ℕ) (end : ℕ) → IsRunAt is_line_byte text 0 end → AllPass is_line_byte (slice_range text 0 end)
run_line text end run = range_passes is_line_byte text 0 end run.in_range run.pass

pub run_text : (text : List ℕ) (end : ℕ) → IsRunAt is_line_byte text 0 end → end < length text → text ≡ slice_range text 0 end ++ get_or text end 0 ∷ drop (end + 1) text
run_text text end run inside = drop_split text 0 end run.ordered ∙ ap (λ l. slice_range text 0 end ++ l) (drop_more text end 0 inside)

pub run_whole : (text : List ℕ) (end : ℕ) → IsRunAt is_line_byte text 0 end → end ≡ length text → HasNoEnd text
run_whole text end run whole = no_end text (subst (AllPass is_line_byte) (sym (drop_split text 0 end run.ordered ∙ ap (λ l. slice_range text 0 end ++ l) (drop_all end text (omega arith)) ∙ append-nil (slice_range text 0 end))) (run_line text end run))

-- what ends a run of a line is a line feed or a carriage return
pub line_end_is : (b : ℕ) → is_line_byte b ≡ false → (b ≡ 0x0A → ⊥) → b ≡ 0x0D
line_end_is b ends other =
    elim (or_cases (b == 0x0A) (b == 0x0D) (not-false (b == 0x0A || b == 0x0D) ends)) [
      | inl feed ↦ absurd (other (eqb-true b 0x0A feed))
      | inr return ↦ eqb-true b 0x0D return
    ]

-- the text up to the end of a run
front : (text : List ℕ) (end : ℕ) → slice_range text 0 end ≡ take end text
front text end = ap (λ n. take n text) (same end)
  where
    same : (n : ℕ) → n - 0 ≡ n
    same n = omega arith

-- in a text in UTF-8 so are the line before an ASCII byte and what comes after this byte
pub utf8_parts : (text : List ℕ) (end : ℕ) → end < length text → get_or text end 0 < 128 → IsUtf8 text → IsUtf8 (take end text) × IsUtf8 (take (length text - (end + 1)) (drop (end + 1) text))
utf8_parts text end inside ascii u = (
  IsUtf8-take text end u (IsCharBoundary-before_ascii text end inside ascii),
  subst IsUtf8 (sym (to_the_end text (end + 1))) (IsUtf8-drop text (end + 1) u (IsCharBoundary-after_ascii text end u inside ascii)),
)

-- and where two of them end the line
pub utf8_parts_two : (text : List ℕ) (end : ℕ) → end + 1 < length text → get_or text end 0 < 128 → get_or text (end + 1) 0 < 128 → IsUtf8 text → IsUtf8 (take end text) × IsUtf8 (take (length text - (end + 2)) (drop (end + 2) text))
utf8_parts_two text end inside first second u = (
  IsUtf8-take text end u (IsCharBoundary-before_ascii text end (omega arith) first),
  subst (λ n. IsUtf8 (take (length text - n) (drop n text))) (plus end)
      (subst IsUtf8 (sym (to_the_end text (end + 1 + 1))) (IsUtf8-drop text (end + 1 + 1) u (IsCharBoundary-after_ascii text (end + 1) u inside second))),
)
  where
    plus : (n : ℕ) → n + 1 + 1 ≡ n + 2
    plus n = omega arith

-- a byte that ends a line is ASCII
pub end_ascii : (b : ℕ) → is_line_byte b ≡ false → b < 128
end_ascii b ends = elim (cases_eq b 0x0A) [
  | inl feed ↦ omega arith
  | inr other ↦ let return = line_end_is b ends other in omega arith
]

-- a carriage return and a line feed end the line
pub split_pair : (text : List ℕ) (end : ℕ) → IsRunAt is_line_byte text 0 end → get_or text end 0 ≡ 0x0D → end + 1 < length text → get_or text (end + 1) 0 ≡ 0x0A
    → IsSplit text (take end text) (take (length text - (end + 2)) (drop (end + 2) text)) false
split_pair text end run return inside feed =
    let here = run_text text end run (omega arith) in
    let next = drop_more text (end + 1) 0 inside in
    let two = plus end in
    let whole : text ≡ slice_range text 0 end ++ 0x0D ∷ 0x0A ∷ drop (end + 2) text =
    here ∙ ap₂ (λ b l. slice_range text 0 end ++ b ∷ l) return (next ∙ ap₂ (λ b n. b ∷ drop n text) feed two) in
    subst (λ l. IsSplit text l (take (length text - (end + 2)) (drop (end + 2) text)) false) (front text end)
    (subst (λ r. IsSplit text (slice_range text 0 end) r false) (sym (to_the_end text (end + 2))) (split_return_feed text (slice_range text 0 end) (drop (end + 2) text) (run_line text end run) whole))
  where
    plus : (n : ℕ) → n + 1 + 1 ≡ n + 2
    plus n = omega arith

-- one byte ends the line
pub split_one : (text : List ℕ) (end : ℕ) → IsRunAt is_line_byte text 0 end → end < length text → (get_or text end 0 ≡ 0x0D → end + 1 < length text → get_or text (end + 1) 0 ≡ 0x0A → ⊥)
    → IsSplit text (take end text) (take (length text - (end + 1)) (drop (end + 1) text)) (get_or text end 0 == 0x0D)
split_one text end run inside no_pair =
    subst (λ l. IsSplit text l (take (length text - (end + 1)) (drop (end + 1) text)) (get_or text end 0 == 0x0D)) (front text end)
    (subst (λ r. IsSplit text (slice_range text 0 end) r (get_or text end 0 == 0x0D)) (sym (to_the_end text (end + 1))) by)
  where
    same : (n : ℕ) → n ≡ n + 0
    same n = omega arith

    here : text ≡ slice_range text 0 end ++ get_or text end 0 ∷ drop (end + 1) text
    here = run_text text end run inside

    no_feed : get_or text end 0 ≡ 0x0D → (b : ℕ) (more : List ℕ) → drop (end + 1) text ≡ b ∷ more → eqb b 0x0A ≡ false
    no_feed return b more rest =
        let first : get_or text (end + 1) 0 ≡ b = ap (λ n. get_or text n 0) (same (end + 1)) ∙ sym (get_or-drop (end + 1) text 0 0) ∙ ap (λ l. get_or l 0 0) rest in
        let some = ap length rest in
        let count = length-drop (end + 1) text in
        ne_eqb b 0x0A (λ feed. no_pair return (omega arith) (first ∙ feed))

    by : IsSplit text (slice_range text 0 end) (drop (end + 1) text) (get_or text end 0 == 0x0D)
    by = elim (cases_eq (get_or text end 0) 0x0A) [
      | inl feed ↦
          subst (IsSplit text (slice_range text 0 end) (drop (end + 1) text)) (sym (ap (λ b. b == 0x0D) feed))
          (split_feed text (slice_range text 0 end) (drop (end + 1) text) (run_line text end run) (here ∙ ap (λ b. slice_range text 0 end ++ b ∷ drop (end + 1) text) feed))
      | inr other ↦
          let return = line_end_is (get_or text end 0) (run.stops inside) other in
          subst (IsSplit text (slice_range text 0 end) (drop (end + 1) text)) (sym (ap (λ b. b == 0x0D) return))
          (split_return text (slice_range text 0 end) (drop (end + 1) text) (run_line text end run) (here ∙ ap (λ b. slice_range text 0 end ++ b ∷ drop (end + 1) text) return) (no_feed return))
    ]
