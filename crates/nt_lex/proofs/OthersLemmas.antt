-- The steps of the loop over the characters of a label.
use Rattle.std.proofs.Common.{◌≡◌, ◌≢◌, ℕ, ◌+◌, ◌-◌, true, List, [], ◌∷◌, ◌++◌, length, get_or, drop, refl, sym, ap, ap₂, ◌∙◌, arith, append_assoc, append-nil}
use Rattle.std.proofs.lemmas.Bool.{and_from}
use Rattle.std.proofs.lemmas.List.{length-append, drop_at}
use Rattle.std.proofs.lemmas.List.Folds.{list_all-append}
use Rattle.std.proofs.lemmas.Str.{encodes-append, encode_ascii}
use Rattle.std.specs.List.{list_all}
use lib.Utf8.{encode, encodes}
use Rattle.nt_lex.specs.Chars.{is_label_first, is_label_inner}
use Rattle.nt_lex.specs.Parts.{OthersIn, LabelIn}
use Rattle.nt_lex.proofs.WrittenLemmas.{same_front}
use Rattle.nt_lex.proofs.LabelLemmas.{is_dot, NoChar, NoLastDot, inner_dots, encodes_dots}

-- the characters so far, and dots that may turn out to stand at the end
pub record OthersSoFar (text rest : List ℕ) (len : ℕ) : Type 0 where
  pub others : List ℕ
  pub dots : List ℕ
  pub each : list_all is_label_inner others ≡ true
  pub ends : NoLastDot others
  pub dotted : list_all is_dot dots ≡ true
  pub whole : text ≡ encodes others ++ (dots ++ rest)
  pub long : len ≡ length (encodes others)

pub nothing_before : (before : List ℕ) → [] ≡ before ++ 0x2E ∷ [] → ⊥
nothing_before [] e = cc
nothing_before (b ∷ bs) e = cc

pub others_start : (text : List ℕ) → OthersSoFar text text 0
others_start text = record { others = []; dots = []; each = refl; ends = nothing_before; dotted = refl; whole = refl; long = refl }

pub others_dot : (text rest more : List ℕ) (len c : ℕ) → OthersSoFar text rest len → rest ≡ encode c ++ more → c ≡ 0x2E → OthersSoFar text more len
others_dot text rest more len c o step is =
    let one : encode c ≡ 0x2E ∷ [] = encode_ascii c (omega arith) ∙ ap (λ x. x ∷ []) is in
    record {
      others = o.others;
      dots = o.dots ++ 0x2E ∷ [];
      each = o.each;
      ends = o.ends;
      dotted = list_all-append is_dot o.dots (0x2E ∷ []) ∙ and_from _ _ o.dotted refl;
      whole = o.whole ∙ ap (λ (l : List ℕ). encodes o.others ++ l) (ap (λ (l : List ℕ). o.dots ++ l) (step ∙ ap (λ (l : List ℕ). l ++ more) one) ∙ sym (append_assoc o.dots (0x2E ∷ []) more));
      long = o.long;
    }

last_is : (xs before : List ℕ) (c : ℕ) → xs ++ c ∷ [] ≡ before ++ 0x2E ∷ [] → c ≡ 0x2E
last_is xs before c e =
    let long : length xs ≡ length before = omega (arith, ap length e, length-append xs (c ∷ []), length-append before (0x2E ∷ [])) in
    ap (λ l. get_or l 0 0) (same_front xs before (c ∷ []) (0x2E ∷ []) long e).1

pub others_more : (text rest more : List ℕ) (len c : ℕ) → OthersSoFar text rest len → rest ≡ encode c ++ more → is_label_inner c ≡ true → c ≢ 0x2E
    → OthersSoFar text more (length text - length more)
others_more text rest more len c o step inner other =
    let others = (o.others ++ o.dots) ++ c ∷ [] in
    let bytes : encodes others ≡ encodes o.others ++ (o.dots ++ encode c) =
    encodes-append (o.others ++ o.dots) (c ∷ [])
    ∙ ap₂ (λ (a b : List ℕ). a ++ b) (encodes-append o.others o.dots ∙ ap (λ (l : List ℕ). encodes o.others ++ l) (encodes_dots o.dots o.dotted)) (append-nil (encode c))
    ∙ append_assoc (encodes o.others) o.dots (encode c) in
    let whole : text ≡ encodes others ++ more =
    o.whole ∙ ap (λ (l : List ℕ). encodes o.others ++ l) (ap (λ (l : List ℕ). o.dots ++ l) step ∙ sym (append_assoc o.dots (encode c) more))
    ∙ sym (append_assoc (encodes o.others) (o.dots ++ encode c) more) ∙ ap (λ (l : List ℕ). l ++ more) (sym bytes) in
    record {
      others = others;
      dots = [];
      each = list_all-append is_label_inner (o.others ++ o.dots) (c ∷ [])
          ∙ and_from _ _ (list_all-append is_label_inner o.others o.dots ∙ and_from _ _ o.each (inner_dots o.dots o.dotted)) (and_from _ _ inner refl);
      ends = λ before e. other (last_is (o.others ++ o.dots) before c e);
      dotted = refl;
      whole = whole;
      long = omega (arith, ap length whole, length-append (encodes others) more);
    }

pub others_end : (text rest : List ℕ) (len : ℕ) → OthersSoFar text rest len → NoChar is_label_inner rest → OthersIn text len
others_end text rest len o none =
    let after : drop len text ≡ o.dots ++ rest = ap (drop len) o.whole ∙ drop_at (encodes o.others) (o.dots ++ rest) len (sym o.long) in
    record {
      others = o.others;
      each = o.each;
      ends = o.ends;
      whole = o.whole ∙ ap (λ (l : List ℕ). encodes o.others ++ l) (sym after);
      long = o.long;
      stops = record { dots = o.dots; after = rest; each = o.dotted; whole = after; none = none };
    }

-- a label is its first character and the others
pub label_in : (text rest : List ℕ) (c size : ℕ) → text ≡ encode c ++ rest → is_label_first c ≡ true → OthersIn rest size → LabelIn text (length text - length rest + size)
label_in text rest c size step first o =
    let label = encodes (c ∷ o.others) in
    let size' = length text - length rest + size in
    let whole : text ≡ label ++ drop size rest = step ∙ ap (λ (l : List ℕ). encode c ++ l) o.whole ∙ sym (append_assoc (encode c) (encodes o.others) (drop size rest)) in
    let long : size' ≡ length label = omega (arith, o.long, ap length step, length-append (encode c) rest, length-append (encode c) (encodes o.others)) in
    let after : drop size' text ≡ drop size rest = ap (drop size') whole ∙ drop_at label (drop size rest) size' (sym long) in
    record {
      first = c;
      others = o.others;
      begins = first;
      each = o.each;
      ends = o.ends;
      whole = whole ∙ ap (λ (l : List ℕ). label ++ l) (sym after);
      long = long;
      stops = record { dots = o.stops.dots; after = o.stops.after; each = o.stops.each; whole = after ∙ o.stops.whole; none = o.stops.none };
    }
