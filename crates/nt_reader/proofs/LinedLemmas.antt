-- The lines of a text are those of the grammar.
use Rattle.std.proofs.Common.{◌≡◌, ℕ, Bool, true, false, not, ◌&&◌, ◌||◌, cond, eqb, List, [], ◌∷◌, ◌++◌, drop, refl, sym, ap, ap₂, ◌∙◌, subst, inl, inr, append_assoc, append-nil, fold}
use Rattle.std.proofs.lemmas.Bool.{and_parts, and_from, cases_Bool, cases_eq, ne_eqb}
use Rattle.std.proofs.lemmas.List.Folds.{list_all-append}
use Rattle.std.specs.List.{list_all}
use Rattle.nt_lex.specs.Scans.{NextFails}
use Rattle.nt_lex.proofs.CallerLemmas.{heads_differ, next_fails, span_once}
use Rattle.nt_reader.specs.Lines.{is_line_byte, Cut, next, uncut, cut_of, Lined, rest, feed, return_feed, return}
use Rattle.nt_reader.proofs.CutLemmas.{next_plain, next_end, swallowed}
use Rattle.nt_reader.proofs.LineLemmas.{true_false}

-- a cut with no carriage return last
abbrev at_line : List (List ℕ) → List ℕ → Cut
at_line ended line = record { ended = ended; rest = line; returned = false }

-- what is to come of a text after lines that have ended and the front of one
record Goes (cut : Cut) (ended : List (List ℕ)) (bytes whole : List ℕ) : Type 0 where
  contents : List (List ℕ)
  last : List ℕ
  ended_is : (fold next cut bytes).ended ≡ ended ++ contents
  rest_is : (fold next cut bytes).rest ≡ last
  lined : Lined contents last whole

goes_end : (ended : List (List ℕ)) (line : List ℕ) → list_all is_line_byte line ≡ true → Goes (at_line ended line) ended [] (line ++ [])
goes_end ended line p = record {
  contents = [];
  last = line;
  ended_is = sym (append-nil ended);
  rest_is = refl;
  lined = subst (Lined [] line) (sym (append-nil line)) (rest p);
}

-- from one cut to an equal one
moved : (c d : Cut) (ended : List (List ℕ)) (bytes whole : List ℕ) → c ≡ d → Goes d ended bytes whole → Goes c ended bytes whole
moved c d ended bytes whole e g = subst (λ x. Goes x ended bytes whole) (sym e) g

plain_step : (ended : List (List ℕ)) (line : List ℕ) (b : ℕ) (bytes : List ℕ) → is_line_byte b ≡ true
    → Goes (at_line ended (line ++ b ∷ [])) ended bytes ((line ++ b ∷ []) ++ bytes) → Goes (at_line ended line) ended (b ∷ bytes) (line ++ b ∷ bytes)
plain_step ended line b bytes p g =
    let step = next_plain (at_line ended line) b p in
    record {
      contents = g.contents;
      last = g.last;
      ended_is = ap (λ (c : Cut). (fold next c bytes).ended) step ∙ g.ended_is;
      rest_is = ap (λ (c : Cut). (fold next c bytes).rest) step ∙ g.rest_is;
      lined = subst (Lined g.contents g.last) (append_assoc line (b ∷ []) bytes) g.lined;
    }

end_whole : (ended : List (List ℕ)) (line : List ℕ) (contents : List (List ℕ)) → (ended ++ line ∷ []) ++ contents ≡ ended ++ line ∷ contents
end_whole ended line contents = append_assoc ended (line ∷ []) contents

feed_step : (ended : List (List ℕ)) (line : List ℕ) (b : ℕ) (bytes : List ℕ) → list_all is_line_byte line ≡ true → b ≡ 0x0A
    → Goes (at_line (ended ++ line ∷ []) []) (ended ++ line ∷ []) bytes bytes → Goes (at_line ended line) ended (b ∷ bytes) (line ++ b ∷ bytes)
feed_step ended line b bytes p is g =
    let step : next (at_line ended line) b ≡ at_line (ended ++ line ∷ []) [] = ap (next (at_line ended line)) is ∙ next_end (at_line ended line) 0x0A refl refl in
    record {
      contents = line ∷ g.contents;
      last = g.last;
      ended_is = ap (λ (c : Cut). (fold next c bytes).ended) step ∙ g.ended_is ∙ end_whole ended line g.contents;
      rest_is = ap (λ (c : Cut). (fold next c bytes).rest) step ∙ g.rest_is;
      lined = feed p g.lined (ap (λ x. line ++ x ∷ bytes) is);
    }

-- after a carriage return
abbrev after_return : List (List ℕ) → Cut
after_return ended = record { ended = ended; rest = []; returned = true }

return_next : (ended : List (List ℕ)) (line : List ℕ) (b : ℕ) → b ≡ 0x0D → next (at_line ended line) b ≡ after_return (ended ++ line ∷ [])
return_next ended line b is = ap (next (at_line ended line)) is ∙ next_end (at_line ended line) 0x0D refl refl

return_step : (ended : List (List ℕ)) (line : List ℕ) (b : ℕ) (bytes : List ℕ) → list_all is_line_byte line ≡ true → b ≡ 0x0D → NextFails (λ x. eqb x 0x0A) bytes
    → Goes (after_return (ended ++ line ∷ [])) (ended ++ line ∷ []) bytes bytes → Goes (at_line ended line) ended (b ∷ bytes) (line ++ b ∷ bytes)
return_step ended line b bytes p is n g =
    let step = return_next ended line b is in
    record {
      contents = line ∷ g.contents;
      last = g.last;
      ended_is = ap (λ (c : Cut). (fold next c bytes).ended) step ∙ g.ended_is ∙ end_whole ended line g.contents;
      rest_is = ap (λ (c : Cut). (fold next c bytes).rest) step ∙ g.rest_is;
      lined = return p n g.lined (ap (λ x. line ++ x ∷ bytes) is);
    }

both_step : (ended : List (List ℕ)) (line : List ℕ) (b d : ℕ) (bytes : List ℕ) → list_all is_line_byte line ≡ true → b ≡ 0x0D → d ≡ 0x0A
    → Goes (at_line (ended ++ line ∷ []) []) (ended ++ line ∷ []) bytes bytes → Goes (at_line ended line) ended (b ∷ d ∷ bytes) (line ++ b ∷ d ∷ bytes)
both_step ended line b d bytes p is is' g =
    let step : next (next (at_line ended line) b) d ≡ at_line (ended ++ line ∷ []) [] =
    ap (λ (c : Cut). next c d) (return_next ended line b is) ∙ ap (next (after_return (ended ++ line ∷ []))) is' ∙ swallowed (after_return (ended ++ line ∷ [])) refl in
    record {
      contents = line ∷ g.contents;
      last = g.last;
      ended_is = ap (λ (c : Cut). (fold next c bytes).ended) step ∙ g.ended_is ∙ end_whole ended line g.contents;
      rest_is = ap (λ (c : Cut). (fold next c bytes).rest) step ∙ g.rest_is;
      lined = return_feed p g.lined (ap₂ (λ x y. line ++ x ∷ y ∷ bytes) is is');
    }

first_with : {A : Type 0} (x : Bool) (p q : A) → x ≡ false → cond (x && true) p q ≡ cond (x && false) p q
first_with true p q e = absurd (cc)
first_with false p q e = refl

swallow_none : (x y : Bool) (a b c : Cut) → x ≡ false → cond (x && true) a (cond y b c) ≡ cond (x && false) a (cond y b c)
swallow_none x y a b c e = first_with x a (cond y b c) e

-- another byte than a line feed comes after a carriage return as anywhere
other_next : (ended : List (List ℕ)) (d : ℕ) → eqb d 0x0A ≡ false → next (after_return ended) d ≡ next (at_line ended []) d
other_next ended d n = swallow_none (eqb d 0x0A) (eqb d 0x0A || eqb d 0x0D) _ _ _ n

other_step : (ended : List (List ℕ)) (d : ℕ) (bytes : List ℕ) → eqb d 0x0A ≡ false → Goes (at_line ended []) ended (d ∷ bytes) (d ∷ bytes)
    → Goes (after_return ended) ended (d ∷ bytes) (d ∷ bytes)
other_step ended d bytes n g =
    let step = other_next ended d n in
    record {
      contents = g.contents;
      last = g.last;
      ended_is = ap (λ (c : Cut). (fold next c bytes).ended) step ∙ g.ended_is;
      rest_is = ap (λ (c : Cut). (fold next c bytes).rest) step ∙ g.rest_is;
      lined = g.lined;
    }

last_return : (ended : List (List ℕ)) → Goes (after_return ended) ended [] []
last_return ended = record { contents = []; last = []; ended_is = sym (append-nil ended); rest_is = refl; lined = rest refl }

not_plain : (b : ℕ) → is_line_byte b ≡ false → (b ≡ 0x0A → ⊥) → b ≡ 0x0D
not_plain b p n = elim (cases_eq b 0x0D) [
  | inl is ↦ is
  | inr other ↦ absurd (true_false (sym (plain_byte (eqb b 0x0A) (eqb b 0x0D) (ne_eqb _ _ n) (ne_eqb _ _ other)) ∙ p))
]
  where
    plain_byte : (x y : Bool) → x ≡ false → y ≡ false → not (x || y) ≡ true
    plain_byte true y a b = absurd (cc)
    plain_byte false true a b = absurd (cc)
    plain_byte false false a b = refl

plain_more : (line : List ℕ) (b : ℕ) → list_all is_line_byte line ≡ true → is_line_byte b ≡ true → list_all is_line_byte (line ++ b ∷ []) ≡ true
plain_more line b p q = list_all-append is_line_byte line (b ∷ []) ∙ and_from _ _ p (and_from _ _ q refl)

go : (ended : List (List ℕ)) (line bytes : List ℕ) → list_all is_line_byte line ≡ true → Goes (at_line ended line) ended bytes (line ++ bytes)
go ended line [] p = goes_end ended line p
go ended line (b ∷ []) p = elim (cases_Bool (is_line_byte b)) [
  | inl q ↦ plain_step ended line b [] q (go ended (line ++ b ∷ []) [] (plain_more line b p q))
  | inr q ↦ elim (cases_eq b 0x0A) [
    | inl is ↦ feed_step ended line b [] p is (go (ended ++ line ∷ []) [] [] refl)
    | inr other ↦ return_step ended line b [] p (not_plain b q other) tt (last_return (ended ++ line ∷ []))
  ]
]
go ended line (b ∷ d ∷ bytes) p = elim (cases_Bool (is_line_byte b)) [
  | inl q ↦ plain_step ended line b (d ∷ bytes) q (go ended (line ++ b ∷ []) (d ∷ bytes) (plain_more line b p q))
  | inr q ↦ elim (cases_eq b 0x0A) [
    | inl is ↦ feed_step ended line b (d ∷ bytes) p is (go (ended ++ line ∷ []) [] (d ∷ bytes) refl)
    | inr other ↦ elim (cases_eq d 0x0A) [
      | inl is ↦ both_step ended line b d bytes p (not_plain b q other) is (go (ended ++ line ∷ []) [] bytes refl)
      | inr single ↦
          return_step ended line b (d ∷ bytes) p (not_plain b q other) (ne_eqb _ _ single)
          (other_step (ended ++ line ∷ []) d bytes (ne_eqb _ _ single) (go (ended ++ line ∷ []) [] (d ∷ bytes) refl))
    ]
  ]
]

-- the cut of a text is its lines and its rest by the grammar
pub cut_lined : (bytes : List ℕ) → Lined (cut_of bytes).ended (cut_of bytes).rest bytes
unfolding cut_of
cut_lined bytes =
    let g = go [] [] bytes refl in
    subst (λ (m : List (List ℕ)). Lined m (fold next uncut bytes).rest bytes) (sym g.ended_is) (subst (λ (r : List ℕ). Lined g.contents r bytes) (sym g.rest_is) g.lined)

no_end : (b : ℕ) (all line more : List ℕ) → list_all is_line_byte all ≡ true → all ≡ line ++ b ∷ more → is_line_byte b ≡ false → ⊥
no_end b all line more p e n =
    let parts = and_parts _ _ (sym (list_all-append is_line_byte line (b ∷ more)) ∙ ap (list_all is_line_byte) (sym e) ∙ p) in
    true_false (sym (and_parts _ _ parts.1).0 ∙ n)

-- two lines at the same place
one_line : (l k m n : List ℕ) (b c : ℕ) → list_all is_line_byte l ≡ true → list_all is_line_byte k ≡ true → is_line_byte b ≡ false → is_line_byte c ≡ false
    → l ++ b ∷ m ≡ k ++ c ∷ n → (l ≡ k) × (b ∷ m ≡ c ∷ n)
one_line l k m n b c p q x y e = span_once is_line_byte l k (b ∷ m) (c ∷ n) p q x y e

-- a text has one list of lines and one rest
pub lined_once : (m n : List (List ℕ)) (r s all : List ℕ) → Lined m r all → Lined n s all → (m ≡ n) × (r ≡ s)
lined_once m n r s all (rest p) (rest q) = (refl, refl)
lined_once m n r s all (rest p) (feed {line} {last} {bytes} q y e) = absurd (no_end 0x0A all line bytes p e refl)
lined_once m n r s all (rest p) (return_feed {line} {last} {bytes} q y e) = absurd (no_end 0x0D all line (0x0A ∷ bytes) p e refl)
lined_once m n r s all (rest p) (return {line} {last} {bytes} q f y e) = absurd (no_end 0x0D all line bytes p e refl)
lined_once m n r s all (feed {line} {last} {bytes} p x e) (rest q) = absurd (no_end 0x0A all line bytes q e refl)
lined_once m n r s all (feed {line} {last} {bytes} {more = more} p x e) (feed {line = line'} {last = last'} {bytes = bytes'} {more = more'} q y d) =
    let one = one_line line line' bytes bytes' 0x0A 0x0A p q refl refl (sym e ∙ d) in
    let others = lined_once more more' last last' bytes' (subst (Lined more last) (ap (drop 1) one.1) x) y in
    (ap₂ (λ u (us : List (List ℕ)). u ∷ us) one.0 others.0, others.1)
lined_once m n r s all (feed {line} {last} {bytes} p x e) (return_feed {line = line'} {last = last'} {bytes = bytes'} q y d) =
    absurd (heads_differ 0x0A 0x0D bytes (0x0A ∷ bytes') refl (one_line line line' bytes (0x0A ∷ bytes') 0x0A 0x0D p q refl refl (sym e ∙ d)).1)
lined_once m n r s all (feed {line} {last} {bytes} p x e) (return {line = line'} {last = last'} {bytes = bytes'} q f y d) =
    absurd (heads_differ 0x0A 0x0D bytes bytes' refl (one_line line line' bytes bytes' 0x0A 0x0D p q refl refl (sym e ∙ d)).1)
lined_once m n r s all (return_feed {line} {last} {bytes} p x e) (rest q) = absurd (no_end 0x0D all line (0x0A ∷ bytes) q e refl)
lined_once m n r s all (return_feed {line} {last} {bytes} p x e) (feed {line = line'} {last = last'} {bytes = bytes'} q y d) =
    absurd (heads_differ 0x0D 0x0A (0x0A ∷ bytes) bytes' refl (one_line line line' (0x0A ∷ bytes) bytes' 0x0D 0x0A p q refl refl (sym e ∙ d)).1)
lined_once m n r s all (return_feed {line} {last} {bytes} {more = more} p x e) (return_feed {line = line'} {last = last'} {bytes = bytes'} {more = more'} q y d) =
    let one = one_line line line' (0x0A ∷ bytes) (0x0A ∷ bytes') 0x0D 0x0D p q refl refl (sym e ∙ d) in
    let others = lined_once more more' last last' bytes' (subst (Lined more last) (ap (drop 2) one.1) x) y in
    (ap₂ (λ u (us : List (List ℕ)). u ∷ us) one.0 others.0, others.1)
lined_once m n r s all (return_feed {line} {last} {bytes} p x e) (return {line = line'} {last = last'} {bytes = bytes'} q f y d) =
    absurd (next_fails _ 0x0A bytes bytes' f (sym (ap (drop 1) (one_line line line' (0x0A ∷ bytes) bytes' 0x0D 0x0D p q refl refl (sym e ∙ d)).1)) refl)
lined_once m n r s all (return {line} {last} {bytes} p f x e) (rest q) = absurd (no_end 0x0D all line bytes q e refl)
lined_once m n r s all (return {line} {last} {bytes} p f x e) (feed {line = line'} {last = last'} {bytes = bytes'} q y d) =
    absurd (heads_differ 0x0D 0x0A bytes bytes' refl (one_line line line' bytes bytes' 0x0D 0x0A p q refl refl (sym e ∙ d)).1)
lined_once m n r s all (return {line} {last} {bytes} p f x e) (return_feed {line = line'} {last = last'} {bytes = bytes'} q y d) =
    absurd (next_fails _ 0x0A bytes' bytes f (ap (drop 1) (one_line line line' bytes (0x0A ∷ bytes') 0x0D 0x0D p q refl refl (sym e ∙ d)).1) refl)
lined_once m n r s all (return {line} {last} {bytes} {more = more} p f x e) (return {line = line'} {last = last'} {bytes = bytes'} {more = more'} q g y d) =
    let one = one_line line line' bytes bytes' 0x0D 0x0D p q refl refl (sym e ∙ d) in
    let others = lined_once more more' last last' bytes' (subst (Lined more last) (ap (drop 1) one.1) x) y in
    (ap₂ (λ u (us : List (List ℕ)). u ∷ us) one.0 others.0, others.1)
