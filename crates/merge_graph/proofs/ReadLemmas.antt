-- The text of the merged graph is read as its triples.
use Rattle.std.proofs.Common.{◌≡◌, ℕ, ◌<◌, false, List, [], ◌∷◌, ◌++◌, map, length, get_or, All, Some, refl, sym, ap, ◌∙◌, subst, ⊎_elim}
use Rattle.std.proofs.lemmas.Bool.{cases_Bool, true≢false}
use Rattle.std.proofs.lemmas.List.Elements.{All-head, All-tail, All-get_or, All-map}
use Rattle.std.specs.List.{AllZip}
use Rattle.gk_base.specs.Term.{is_literal}
use Rattle.gk_base.specs.declared.term.Term.{Term}
use Rattle.gk_base.specs.declared.term.Term.TheVariants.{Plain}
use Rattle.gk_base.specs.declared.term.Triple.{Triple}
use Rattle.nt_reader.specs.Lines.{lines}
use Rattle.nt_reader.specs.File.{triples_of, IsGood, AreGood}
use Rattle.nt_reader.proofs.CallerLemmas.{AllOf, IsText, joined, lines_joined}
use Rattle.term_text.specs.ReadBack.{CanBeSpelled}
use Rattle.merge_graph.specs.MergedGraph.{name_at, same_label, AreFaces, IsWithin, image, lines_of}
use Rattle.merge_graph.specs.Saying.{CanBeSaid, IsReadAs}
use Rattle.merge_graph.proofs.LineLemmas.{IsSayable, line_of, line_ends, line_is_text, line_says}

answers_good : (ts : List Triple) → All IsSayable ts → AllZip IsGood (map line_of ts) (map (λ t. Some t) ts)
answers_good [] a = tt
answers_good (t ∷ ts) a = (line_says t (All-head IsSayable t ts a), answers_good ts (All-tail IsSayable t ts a))

triples_all : (ts : List Triple) → ts ≡ triples_of (map (λ t. Some t) ts)
triples_all [] = refl
triples_all (t ∷ ts) = ap (λ l. t ∷ l) (triples_all ts)

lines_text : (ts : List Triple) → All IsSayable ts → AllOf IsText (map line_of ts)
lines_text [] a = tt
lines_text (t ∷ ts) a = (line_is_text t (All-head IsSayable t ts a), lines_text ts (All-tail IsSayable t ts a))

lines_joined_are : (ts : List Triple) → joined (map line_of ts) ≡ lines_of ts
lines_joined_are [] = refl
lines_joined_are (t ∷ ts) = λ i. line_ends t i ++ lines_joined_are ts i

-- triples that lines can say are read from their text
pub said_again : (ts : List Triple) (text : List ℕ) → All IsSayable ts → text ≡ lines_of ts → IsReadAs text ts
said_again ts text a e = λ limits bytes few.
    let cut : lines text ≡ map line_of ts = ap lines (e ∙ sym (lines_joined_are ts)) ∙ lines_joined (map line_of ts) (lines_text ts a) in
    let good : AreGood (map line_of ts) ts = record { answers = map (λ t. Some t) ts; each = answers_good ts a; have = triples_all ts } in
    (bytes, subst (λ (l : List (List ℕ)). AreGood l ts) (sym cut) good, few)

-- the images of rows that can be said can be said
pub images_sayable : (names : List Term) (texts : List (List ℕ)) (labels faces : List ℕ) (rows : List (List ℕ)) → length texts ≡ length names
    → AreFaces texts (same_label labels) faces → All (IsWithin (length names)) rows → CanBeSaid names rows labels → All IsSayable (map (image names faces) rows)
images_sayable names texts labels faces rows long a within can = All-map IsSayable (image names faces) rows (λ k d l.
    let row = get_or rows k d in
    let w : IsWithin (length names) row = within k d l in record {
      subject = spelled (get_or faces (get_or row 0 0) 0) (face_within (get_or row 0 0) w.subject);
      predicate = spelled (get_or row 1 0) w.predicate;
      object = spelled (get_or faces (get_or row 2 0) 0) (face_within (get_or row 2 0) w.object);
      no_literal = face_literal (get_or row 0 0) w.subject (can.subjects k d l);
      an_iri = can.predicates k d l;
    })
  where
    spelled : (n : ℕ) → n < length names → CanBeSpelled (name_at names n)
    spelled n l = All-get_or CanBeSpelled names n (Plain []) l can.spelled

    face_within : (n : ℕ) → n < length names → get_or faces n 0 < length names
    face_within n l = subst (λ v. get_or faces n 0 < v) long (a.each n (subst (λ v. n < v) (sym long) l)).in_range

    -- a literal is no face but its own
    face_literal : (n : ℕ) → n < length names → is_literal (name_at names n) ≡ false → is_literal (name_at names (get_or faces n 0)) ≡ false
    face_literal n l e =
        let face = a.each n (subst (λ v. n < v) (sym long) l) in
        ⊎_elim
        (λ is. absurd (true≢false (sym is ∙ ap (λ v. is_literal (name_at names v)) (sym (can.literals n (get_or faces n 0) l (face_within n l) face.member is)) ∙ e)))
        (λ isnt. isnt)
        (cases_Bool (is_literal (name_at names (get_or faces n 0))))
