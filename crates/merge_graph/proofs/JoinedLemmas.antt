-- Lines that are written one after another ascend.
use Rattle.std.proofs.Common.{◌≡◌, ◌↔◌, ℕ, ◌-◌, ◌<◌, Ordering, List, [], ◌∷◌, ◌++◌, length, take, drop, Contains, inl, inr, refl, sym, ap, ◌∙◌, subst, arith, length-append, append_assoc, ⊎_elim}
use Rattle.std.proofs.lemmas.Cmp.{nat_list_cmp_total}
use Rattle.std.proofs.lemmas.List.{append-nil, drop_at, take_at}
use Rattle.std.proofs.lemmas.List.Elements.{Contains-append_left, Contains-push, Contains-push_cases}
use Rattle.std.specs.List.{AllByRecursion}
use Rattle.std.specs.List.Sorted.{IsStrictlySortedBy}
use Rattle.std.specs.Ordering.{nat_cmp, is_eq}
use Rattle.std.specs.declared.cmp.Ordering.TheVariants.{Less, Equal}
use Rattle.std.specs.Cmp.Lexicographic.{slice_cmp, bytes_decides, texts_ties}
use Rattle.merge_graph.specs.Ranked.{joined_text, LastBegins, HoldsLines, line_of_texts}

joined_push : (lines : List (List ℕ)) (line : List ℕ) → joined_text (lines ++ line ∷ []) ≡ joined_text lines ++ line
joined_push [] line = append-nil line
joined_push (l ∷ ls) line = ap (λ (t : List ℕ). l ++ t) (joined_push ls line) ∙ sym (append_assoc l (joined_text ls) line)

-- what is below the last of ascending lines is below a further one
all_push : (x : List ℕ) (xs : List (List ℕ)) (last y : List ℕ) → AllByRecursion (λ z. slice_cmp nat_cmp x z ≡ Less) (xs ++ last ∷ []) → slice_cmp nat_cmp last y ≡ Less
    → AllByRecursion (λ z. slice_cmp nat_cmp x z ≡ Less) ((xs ++ last ∷ []) ++ y ∷ [])
all_push x [] last y a up = (a.0, (nat_list_cmp_total.trans x last y a.0 up, tt))
all_push x (z ∷ zs) last y a up = (a.0, all_push x zs last y a.1 up)

sorted_push : (xs : List (List ℕ)) (last y : List ℕ) → IsStrictlySortedBy (slice_cmp nat_cmp) (xs ++ last ∷ []) → slice_cmp nat_cmp last y ≡ Less
    → IsStrictlySortedBy (slice_cmp nat_cmp) ((xs ++ last ∷ []) ++ y ∷ [])
unfolding IsStrictlySortedBy
sorted_push [] last y s up = ((up, tt), (tt, tt))
sorted_push (x ∷ xs) last y s up = (all_push x xs last y s.0 up, sorted_push xs last y s.1 up)

sorted_one : (y : List ℕ) → IsStrictlySortedBy (slice_cmp nat_cmp) (y ∷ [])
unfolding IsStrictlySortedBy
sorted_one y = (tt, tt)

sorted_none : IsStrictlySortedBy (slice_cmp nat_cmp) []
unfolding IsStrictlySortedBy
sorted_none = tt

same_line : (x y : List ℕ) → slice_cmp nat_cmp x y ≡ Equal → x ≡ y
same_line x y e = (bytes_decides x y).0 (texts_ties x y ∙ ap is_eq e)

contains_more : (xs ys : List (List ℕ)) (y : List ℕ) → ((line : List ℕ) → Contains xs line → Contains ys line) → (line : List ℕ) → Contains (xs ++ y ∷ []) line → Contains (ys ++ y ∷ []) line
contains_more xs ys y h line c = ⊎_elim (λ old. Contains-append_left ys (y ∷ []) line (h line old)) (λ e. subst (Contains (ys ++ y ∷ [])) e (Contains-push ys y)) (Contains-push_cases xs y line c)

-- no lines yet
pub holds_none : HoldsLines [] [] 0
holds_none = record {
  joined = record { lines = []; ascends = sorted_none; same = λ line. ((λ c. c), (λ c. c)); whole = refl };
  end = inl (refl, refl);
}

module _ (all : List (List ℕ)) (text line : List ℕ) (last : ℕ) (h : HoldsLines all text last) where
  -- what stands from the place of the last line on
  last_is : (l : LastBegins h.joined.lines last) → take (length text - last) (drop last (text ++ line)) ≡ l.line
  last_is l =
      let whole : text ≡ joined_text l.earlier ++ l.line = h.joined.whole ∙ ap joined_text l.are ∙ joined_push l.earlier l.line in
      let cut : drop last (text ++ line) ≡ l.line ++ line =
      ap (λ (t : List ℕ). drop last (t ++ line)) whole ∙ ap (drop last) (append_assoc (joined_text l.earlier) l.line line) ∙ drop_at (joined_text l.earlier) (l.line ++ line) last (sym l.begins) in
      let long : length l.line ≡ length text - last = omega (arith, ap length whole, length-append (joined_text l.earlier) l.line, l.begins) in
      ap (take (length text - last)) cut ∙ take_at l.line line (length text - last) long

  -- where there is no line, nothing stands before
  none_is : h.joined.lines ≡ [] → text ≡ []
  none_is e = h.joined.whole ∙ ap joined_text e

  more_same : (l : List ℕ) → Contains (h.joined.lines ++ line ∷ []) l ↔ Contains (all ++ line ∷ []) l
  more_same l = (contains_more h.joined.lines all line (λ m. (h.joined.same m).0) l, contains_more all h.joined.lines line (λ m. (h.joined.same m).1) l)

  more_sorted : slice_cmp nat_cmp (take (length text - last) (drop last (text ++ line))) line ≡ Less → IsStrictlySortedBy (slice_cmp nat_cmp) (h.joined.lines ++ line ∷ [])
  more_sorted up = ⊎_elim
      (λ none. subst (λ (ls : List (List ℕ)). IsStrictlySortedBy (slice_cmp nat_cmp) (ls ++ line ∷ [])) (sym none.0) (sorted_one line))
      (λ (l : LastBegins h.joined.lines last). subst (λ (ls : List (List ℕ)). IsStrictlySortedBy (slice_cmp nat_cmp) (ls ++ line ∷ [])) (sym l.are)
      (sorted_push l.earlier l.line line (subst (IsStrictlySortedBy (slice_cmp nat_cmp)) l.are h.joined.ascends) (ap (λ (t : List ℕ). slice_cmp nat_cmp t line) (sym (last_is l)) ∙ up)))
      h.end

  -- a line more that is above the last one
  pub holds_more : slice_cmp nat_cmp (take (length text - last) (drop last (text ++ line))) line ≡ Less → HoldsLines (all ++ line ∷ []) (text ++ line) (length text)
  holds_more up = record {
    joined = record {
      lines = h.joined.lines ++ line ∷ [];
      ascends = more_sorted up;
      same = more_same;
      whole = ap (λ (t : List ℕ). t ++ line) h.joined.whole ∙ sym (joined_push h.joined.lines line);
    };
    end = inr (record { earlier = h.joined.lines; line = line; are = refl; begins = ap length h.joined.whole });
  }

  -- a line that equals the last one is among the lines
  is_among : 0 < length line → slice_cmp nat_cmp (take (length text - last) (drop last (text ++ line))) line ≡ Equal → Contains h.joined.lines line
  is_among some tie = ⊎_elim
      (λ none.
      let empty : take (length text - last) (drop last (text ++ line)) ≡ [] = ap (λ (t : List ℕ). take (length t - last) (drop last (text ++ line))) (none_is none.0) ∙ ap (λ n. take n (drop last (text ++ line))) nothing_left in
      absurd (omega (arith, some, ap length (sym empty ∙ same_line _ line tie))))
      (λ (l : LastBegins h.joined.lines last).
      let is : l.line ≡ line = sym (last_is l) ∙ same_line _ line tie in
      subst (λ (ls : List (List ℕ)). Contains ls line) (sym l.are) (subst (Contains (l.earlier ++ l.line ∷ [])) is (Contains-push l.earlier l.line)))
      h.end
    where
      nothing_left : 0 - last ≡ 0
      nothing_left = omega arith

  -- a line that equals the last one
  pub holds_same : 0 < length line → slice_cmp nat_cmp (take (length text - last) (drop last (text ++ line))) line ≡ Equal → HoldsLines (all ++ line ∷ []) text last
  holds_same some tie =
      let among = is_among some tie in
      record {
        joined = record {
          lines = h.joined.lines;
          ascends = h.joined.ascends;
          same = λ l. (
            (λ c. Contains-append_left all (line ∷ []) l ((h.joined.same l).0 c)),
            (λ c. ⊎_elim (λ old. (h.joined.same l).1 old) (λ e. subst (Contains h.joined.lines) e among) (Contains-push_cases all line l c)),
          );
          whole = h.joined.whole;
        };
        end = h.end;
      }

-- a line is not empty
pub line_not_empty : (subject predicate object : List ℕ) → 0 < length (line_of_texts subject predicate object)
line_not_empty subject predicate object = omega (arith, length-append subject (0x20 ∷ (predicate ++ 0x20 ∷ (object ++ 0x20 ∷ 0x2E ∷ 0x0A ∷ []))))

-- what is read behind the lines so far is the line that was put there
read_again : (text line lent : List ℕ) (last start : ℕ) → lent ≡ text ++ line → start ≡ length text
    → slice_cmp nat_cmp (take (start - last) (drop last lent)) (drop start lent) ≡ slice_cmp nat_cmp (take (length text - last) (drop last (text ++ line))) line
read_again text line lent last start given long =
    let dropped : drop start lent ≡ line = ap (drop start) given ∙ drop_at text line start (sym long) in
    λ i. slice_cmp nat_cmp (take (long i - last) (drop last (given i))) (dropped i)

-- the line that was put behind the others is above the last one
pub added_above : (all : List (List ℕ)) (text line new lent : List ℕ) (last start : ℕ) (r : Ordering) → new ≡ text ++ line → lent ≡ new → start ≡ length text
    → r ≡ slice_cmp nat_cmp (take (start - last) (drop last lent)) (drop start lent) → r ≡ Less → HoldsLines all text last → HoldsLines (all ++ line ∷ []) new start
added_above all text line new lent last start r put given long compared is h =
    let up = sym (read_again text line lent last start (given ∙ put) long) ∙ sym compared ∙ is in
    subst (λ (t : List ℕ). HoldsLines (all ++ line ∷ []) t start) (sym put) (subst (HoldsLines (all ++ line ∷ []) (text ++ line)) (sym long) (holds_more all text line last h up))

-- it equals the last one, and is taken back
pub added_same : (all : List (List ℕ)) (text line new lent cut : List ℕ) (last start : ℕ) (r : Ordering) → new ≡ text ++ line → lent ≡ new → start ≡ length text
    → r ≡ slice_cmp nat_cmp (take (start - last) (drop last lent)) (drop start lent) → r ≡ Equal → 0 < length line → cut ≡ take start new → HoldsLines all text last → HoldsLines (all ++ line ∷ []) cut last
added_same all text line new lent cut last start r put given long compared is some back h =
    let tie = sym (read_again text line lent last start (given ∙ put) long) ∙ sym compared ∙ is in
    let whole : cut ≡ text = back ∙ ap (take start) put ∙ take_at text line start (sym long) in
    subst (λ (t : List ℕ). HoldsLines (all ++ line ∷ []) t last) (sym whole) (holds_same all text line last h some tie)
