-- What the state stands for, as bytes come.
use Rattle.std.proofs.Common.{◌≡◌, ℕ, ◌+◌, ◌-◌, ◌<◌, ◌≤◌, Bool, true, false, ◌&&◌, eqb, List, [], ◌∷◌, ◌++◌, length, get_or, take, drop, slice_range, refl, sym, ap, ap₂, ◌∙◌, subst, arith, append_assoc, append-nil, length-append, Ok, Err, inl, inr}
use Rattle.std.proofs.lemmas.List.{take-append-drop, take-take, drop-take, take_more, drop_more, nil_from_length, length-take, length-drop, get_or-take, get_or-drop}
use Rattle.std.proofs.lemmas.List.Elements.{All-from_get_or}
use Rattle.nt_lex.specs.Scans.{AllPassBetween}
use Rattle.std.specs.List.{AllPass}
use Rattle.gk_base.specs.declared.limits.Limits.{Limits}
use Rattle.gk_base.specs.declared.term.Triple.{Triple}
use Rattle.gk_base.specs.declared.read_fault.ReadRefusal.{ReadRefusal}
use Rattle.nt_reader.specs.Lines.{is_line_byte}
use Rattle.nt_reader.specs.declared.state.State.{State}
use Rattle.nt_reader.specs.Lines.{Cut, cut_of, last_of, lines}
use Rattle.nt_reader.specs.File.{triples_of, AreGood, RefusesLine, line_of_next, FileSays, Refuses}
use Rattle.gk_base.specs.declared.read_fault.ReadFault.{ReadFault}
use Rattle.gk_base.specs.declared.read_fault.ReadFault.TheVariants.{TooLong}
use Rattle.std.proofs.lemmas.Bool.{and_from, cond-true, cond-false, eq-eqb, le-leb}
use Rattle.nt_reader.specs.Judged.{AddsLine, IsRefusedWith, Judges}
use Rattle.gk_base.specs.Answers.{ReadStop, IsSo}
use Rattle.gk_base.specs.declared.stop.Stop.TheVariants.{NoMemory, Fault}
use Rattle.nt_reader.specs.Reading.{Front, front_of}
use Rattle.nt_reader.specs.Kept.{IsFrontOf, IsStopped, FinishSays}
use Rattle.nt_reader.specs.Line.{LineSays}
use Rattle.nt_reader.proofs.CutLemmas.{cut_append, some_plain, whole_line, swallowed}
use Rattle.nt_reader.proofs.FileLemmas.{good_push, refused_for_good, long_for_good}

pub take_part : (xs : List ℕ) (i j : ℕ) → i ≤ j → take j xs ≡ take i xs ++ slice_range xs i j
take_part xs i j le =
    let sum : i + (j - i) ≡ j = omega arith in
    sym (take-append-drop i (take j xs)) ∙ ap₂ (λ (a b : List ℕ). a ++ b) (take-take i j xs le)
    (ap (λ n. drop i (take n xs)) (sym sum) ∙ drop-take i (j - i) xs)

-- what is refused for the room that is left is refused for the whole limit
refused_after : (most : ℕ) (taken triples : List Triple) (room : ℕ) (line : List ℕ) (fault : ReadFault) → length taken + room ≡ most
    → RefusesLine room triples line fault → RefusesLine most (taken ++ triples) line fault
refused_after most taken triples room line fault sum r = record {
  why = elim r.why [
    | inl w ↦ inl w
    | inr w ↦ inr (w.0, w.1, omega (arith, length-append taken triples, sum, w.2), w.3)
  ];
}

-- from the cut of the bytes to the state after them
after : (limits : Limits) (new : State) (taken : List Triple) (bytes : List ℕ) (cut : Cut) → cut_of bytes ≡ cut → new.bytes ≡ length bytes → length bytes ≤ limits.bytes
    → new.kept.items ≡ cut.rest → new.line ≡ length cut.ended + 1 → new.after_return ≡ cut.returned
    → AreGood cut.ended (taken ++ new.triples) → length taken + new.room ≡ limits.triples → length new.triples ≤ new.room
    → IsFrontOf limits (front_of new) taken bytes
after limits new taken bytes cut is count within rest line returned good room few = record {
  count = count;
  within = within;
  rest = rest ∙ ap (λ (c : Cut). c.rest) (sym is);
  line = line ∙ ap (λ (c : Cut). length c.ended + 1) (sym is);
  returned = returned ∙ ap (λ (c : Cut). c.returned) (sym is);
  good = subst (λ (c : Cut). AreGood c.ended (taken ++ new.triples)) (sym is) good;
  room = room;
  few = few;
}

-- all triples so far are within the limit
pub all_few : (limits : Limits) (front : Front) (taken : List Triple) (seen : List ℕ) → IsFrontOf limits front taken seen → length (taken ++ front.triples) ≤ limits.triples
all_few limits front taken seen s = omega (arith, length-append taken front.triples, s.room, s.few)

module _ (limits : Limits) (old : State) (taken : List Triple) (seen : List ℕ) (s : IsFrontOf limits (front_of old) taken seen) where
  -- the line feed of a CR LF
  pub stands_swallow : (new : State) → old.after_return ≡ true → old.bytes + 1 ≤ limits.bytes → new.bytes ≡ old.bytes + 1 → new.kept.items ≡ old.kept.items
      → new.line ≡ old.line → new.after_return ≡ false → new.triples ≡ old.triples → new.room ≡ old.room → IsFrontOf limits (front_of new) taken (seen ++ 0x0A ∷ [])
  stands_swallow new r room count kept line returned triples left =
      after limits new taken (seen ++ 0x0A ∷ []) _ (cut_append seen (0x0A ∷ []) ∙ swallowed (cut_of seen) (sym s.returned ∙ r))
      (omega (arith, count, s.count, length-append seen (0x0A ∷ []))) (omega (arith, room, s.count, length-append seen (0x0A ∷ [])))
      (kept ∙ s.rest) (line ∙ s.line) returned (subst (λ ts. AreGood (cut_of seen).ended (taken ++ ts)) (sym triples) s.good)
      (omega (arith, s.room, left)) (omega (arith, s.few, ap length triples, left))

  -- a part of a line
  pub stands_part : (new : State) (seg : List ℕ) → AllPass is_line_byte seg → 0 < length seg → old.bytes + length seg ≤ limits.bytes
      → new.bytes ≡ old.bytes + length seg → new.kept.items ≡ old.kept.items ++ seg → new.line ≡ old.line → new.after_return ≡ false
      → new.triples ≡ old.triples → new.room ≡ old.room → IsFrontOf limits (front_of new) taken (seen ++ seg)
  stands_part new seg p some room count kept line returned triples left =
      after limits new taken (seen ++ seg) _ (cut_append seen seg ∙ some_plain (cut_of seen) seg p some)
      (omega (arith, count, s.count, length-append seen seg)) (omega (arith, room, s.count, length-append seen seg))
      (kept ∙ ap (λ (l : List ℕ). l ++ seg) s.rest) (line ∙ s.line) returned (subst (λ ts. AreGood (cut_of seen).ended (taken ++ ts)) (sym triples) s.good)
      (omega (arith, s.room, left)) (omega (arith, s.few, ap length triples, left))

  module _ (seg : List ℕ) (b : ℕ) (p : AllPass is_line_byte seg) (e : is_line_byte b ≡ false)
      (own : length seg ≡ 0 → (eqb b 0x0A && old.after_return) ≡ false) (room : old.bytes + length seg + 1 ≤ limits.bytes) where
    ends : cut_of (seen ++ (seg ++ b ∷ [])) ≡ record { ended = (cut_of seen).ended ++ ((cut_of seen).rest ++ seg) ∷ []; rest = []; returned = eqb b 0x0D }
    ends = cut_append seen (seg ++ b ∷ []) ∙ whole_line (cut_of seen) seg b p e (λ z. ap (λ r. eqb b 0x0A && r) (sym s.returned) ∙ own z)

    long : length (seen ++ (seg ++ b ∷ [])) ≡ old.bytes + length seg + 1
    long = omega (arith, s.count, length-append seen (seg ++ b ∷ []), length-append seg (b ∷ []))

    pub stands_line : (new : State) → AddsLine old.room old.triples new.triples (old.kept.items ++ seg)
        → new.bytes ≡ old.bytes + length seg + 1 → new.kept.items ≡ [] → new.line ≡ old.line + 1 → new.after_return ≡ eqb b 0x0D → new.room ≡ old.room
        → IsFrontOf limits (front_of new) taken (seen ++ (seg ++ b ∷ []))
    stands_line new adds count kept line returned left =
        let grown = good_push (cut_of seen).ended (taken ++ old.triples) (old.kept.items ++ seg) adds.answer s.good adds.says in
        let content : old.kept.items ++ seg ≡ (cut_of seen).rest ++ seg = ap (λ (l : List ℕ). l ++ seg) s.rest in
        let more : taken ++ new.triples ≡ (taken ++ old.triples) ++ triples_of (adds.answer ∷ []) =
        ap (λ (t : List Triple). taken ++ t) adds.grown ∙ sym (append_assoc taken old.triples (triples_of (adds.answer ∷ []))) in
        after limits new taken (seen ++ (seg ++ b ∷ [])) _ ends (count ∙ sym long) (omega (arith, long, room)) kept
        (omega (arith, line, s.line, length-append (cut_of seen).ended (((cut_of seen).rest ++ seg) ∷ [])))
        returned
        (subst (λ (t : List Triple). AreGood ((cut_of seen).ended ++ ((cut_of seen).rest ++ seg) ∷ []) t) (sym more)
        (subst (λ (l : List ℕ). AreGood ((cut_of seen).ended ++ l ∷ []) ((taken ++ old.triples) ++ triples_of (adds.answer ∷ []))) content grown))
        (omega (arith, s.room, left)) (omega (arith, adds.few s.few, left))

    pub stops_line : (refusal : ReadRefusal) → IsRefusedWith old.room old.triples (old.kept.items ++ seg) old.line refusal
        → Refuses limits (seen ++ (seg ++ b ∷ [])) refusal
    stops_line refusal r =
        refused_for_good limits (seen ++ (seg ++ b ∷ [])) (cut_of seen).ended ((cut_of seen).rest ++ seg) (taken ++ old.triples) refusal
        (omega (arith, long, room)) (ap (λ (c : Cut). c.ended) ends) s.good (all_few limits (front_of old) taken seen s) (r.number_is ∙ s.line)
        (refused_after limits.triples taken old.triples old.room ((cut_of seen).rest ++ seg) refusal.fault s.room
        (subst (λ (l : List ℕ). RefusesLine old.room old.triples (l ++ seg) refusal.fault) s.rest r.refused))

-- what is refused stays refused
pub refuses_more : (limits : Limits) (bytes more : List ℕ) (refusal : ReadRefusal) → Refuses limits bytes refusal → Refuses limits (bytes ++ more) refusal
refuses_more limits bytes more refusal r = record {
  always = λ rest. subst (λ (l : List ℕ). FileSays limits l (Err refusal)) (sym (append_assoc bytes more rest)) (r.always (more ++ rest));
}

pub length-range : (xs : List ℕ) (i j : ℕ) → j ≤ length xs → length (slice_range xs i j) ≡ j - i
length-range xs i j le = simp (length-take, length-drop) (omega arith)

pub range_passes : (test : ℕ → Bool) (xs : List ℕ) (i j : ℕ) → j ≤ length xs → AllPassBetween test xs i j → AllPass test (slice_range xs i j)
range_passes test xs i j le pass =
    All-from_get_or (λ v. test v ≡ true) _ 0 λ k below.
    let inside : k < j - i = omega (arith, length-range xs i j le) in
    rw (get_or-take, get_or-drop) (pass (i + k) (omega arith) (omega arith))

-- a line and the byte that ends it
pub take_line : (xs : List ℕ) (i j : ℕ) → i ≤ j → j < length xs → take (j + 1) xs ≡ take i xs ++ (slice_range xs i j ++ get_or xs j 0 ∷ [])
take_line xs i j le inside =
    take_more xs j 0 inside ∙ ap (λ (l : List ℕ). l ++ get_or xs j 0 ∷ []) (take_part xs i j le) ∙ append_assoc (take i xs) (slice_range xs i j) (get_or xs j 0 ∷ [])

pub moved : (limits : Limits) (front : Front) (taken : List Triple) (a b : List ℕ) → a ≡ b → IsFrontOf limits front taken a → IsFrontOf limits front taken b
moved limits front taken a b e s = subst (IsFrontOf limits front taken) e s

pub stopped_more : (limits : Limits) (bytes all more : List ℕ) (stop : ReadStop) → bytes ++ more ≡ all → IsStopped limits bytes stop → IsStopped limits all stop
stopped_more limits bytes all more NoMemory e s = tt
stopped_more limits bytes all more (Fault r) e s = subst (λ (l : List ℕ). IsStopped limits l (Fault r)) e (refuses_more limits bytes more r s)

pub too_long : (limits : Limits) (new : State) (taken : List Triple) (seen piece front : List ℕ) (cut line : ℕ) → IsFrontOf limits (front_of new) taken (seen ++ front) → front ≡ take cut piece → cut < length piece
    → new.bytes ≡ limits.bytes → line ≡ line_of_next (seen ++ front) (get_or piece cut 0) → Refuses limits (seen ++ piece) (record { line = line; fault = TooLong })
too_long limits new taken seen piece front cut line s is inside full number =
    let whole : (seen ++ front) ++ (get_or piece cut 0 ∷ drop (cut + 1) piece) ≡ seen ++ piece =
    append_assoc seen front _ ∙ ap (λ (l : List ℕ). seen ++ l)
    (ap₂ (λ (a b : List ℕ). a ++ b) is (sym (drop_more piece cut 0 inside)) ∙ take-append-drop cut piece)
    in
    subst (λ (l : List ℕ). Refuses limits l (record { line = line; fault = TooLong })) whole
    (long_for_good limits (seen ++ front) (drop (cut + 1) piece) (get_or piece cut 0) (taken ++ new.triples) _ (sym s.count ∙ full) s.good
    (all_few limits (front_of new) taken (seen ++ front) s) number refl)

pub line_at_feed : (limits : Limits) (new : State) (taken : List Triple) (front : List ℕ) (b : ℕ) → IsFrontOf limits (front_of new) taken front → new.after_return ≡ true → b ≡ 0x0A → new.line - 1 ≡ line_of_next front b
line_at_feed limits new taken front b s r e =
    let ended : new.line - 1 ≡ length (cut_of front).ended = omega (arith, s.line) in
    ended ∙ sym (cond-true _ _ _ (and_from _ _ (sym s.returned ∙ r) (eq-eqb b 0x0A e)))

pub line_elsewhere : (limits : Limits) (new : State) (taken : List Triple) (front : List ℕ) (b : ℕ) → IsFrontOf limits (front_of new) taken front → (new.after_return && eqb b 0x0A) ≡ false → new.line ≡ line_of_next front b
line_elsewhere limits new taken front b s e =
    s.line ∙ sym (cond-false _ _ _ (ap (λ r. r && eqb b 0x0A) (sym s.returned) ∙ e))

-- at the end, what was refused is the answer
pub finish_stopped : (limits : Limits) (taken : List Triple) (bytes : List ℕ) (stop : ReadStop) → IsStopped limits bytes stop → IsSo (FinishSays limits taken bytes) (Err stop)
finish_stopped limits taken bytes NoMemory s = tt
finish_stopped limits taken bytes (Fault r) s = subst (λ (l : List ℕ). FileSays limits l (Err r)) (append-nil bytes) (s.always [])

last_some : (rest : List ℕ) → 0 < length rest → last_of rest ≡ rest ∷ []
last_some [] h = absurd (omega arith)
last_some (b ∷ bs) h = refl

-- at the end, with nothing kept
pub finish_clean : (limits : Limits) (state : State) (taken : List Triple) (bytes : List ℕ) → IsFrontOf limits (front_of state) taken bytes → length state.kept.items ≡ 0
    → FileSays limits bytes (Ok (taken ++ state.triples))
finish_clean limits state taken bytes s none =
    let empty : (cut_of bytes).rest ≡ [] = nil_from_length _ (ap length (sym s.rest) ∙ none) in (
      s.within,
      subst (λ (l : List (List ℕ)). AreGood l (taken ++ state.triples)) (sym (ap (λ (r : List ℕ). (cut_of bytes).ended ++ last_of r) empty ∙ append-nil (cut_of bytes).ended)) s.good,
      all_few limits (front_of state) taken bytes s,
    )

module _ (limits : Limits) (state : State) (taken : List Triple) (bytes : List ℕ) (s : IsFrontOf limits (front_of state) taken bytes) (some : 0 < length state.kept.items) where
  all_lines : lines bytes ≡ (cut_of bytes).ended ++ state.kept.items ∷ []
  all_lines =
      let some_rest : 0 < length (cut_of bytes).rest = omega (arith, ap length s.rest) in
      ap (λ (l : List (List ℕ)). (cut_of bytes).ended ++ l) (last_some _ some_rest ∙ ap (λ (r : List ℕ). r ∷ []) (sym s.rest))

  -- at the end, with a last line that is good
  pub finish_good : (new : List Triple) → AddsLine state.room state.triples new (state.kept.items ++ []) → FileSays limits bytes (Ok (taken ++ new))
  finish_good new adds =
      let more : taken ++ new ≡ (taken ++ state.triples) ++ triples_of (adds.answer ∷ []) =
      ap (λ (t : List Triple). taken ++ t) adds.grown ∙ sym (append_assoc taken state.triples (triples_of (adds.answer ∷ []))) in (
        s.within,
        subst (λ (l : List (List ℕ)). AreGood l (taken ++ new)) (sym all_lines)
            (subst (λ (t : List Triple). AreGood ((cut_of bytes).ended ++ state.kept.items ∷ []) t) (sym more)
            (good_push (cut_of bytes).ended (taken ++ state.triples) state.kept.items adds.answer s.good
            (subst (λ (l : List ℕ). LineSays l (Ok adds.answer)) (append-nil state.kept.items) adds.says))),
        omega (arith, length-append taken new, s.room, adds.few s.few),
      )

  -- at the end, with a last line that is refused
  pub finish_bad : (B : Type 0) (new : List Triple) (stop : ReadStop) → IsSo (Judges {A = B} state.room state.triples new (state.kept.items ++ []) state.line) (Err stop)
      → IsSo (FinishSays limits taken bytes) (Err stop)
  finish_bad B new NoMemory j = tt
  finish_bad B new (Fault r) j = inl (record {
    good = (cut_of bytes).ended;
    bad = state.kept.items;
    more = [];
    triples = taken ++ state.triples;
    here = cond-true _ _ _ (le-leb _ _ s.within) ∙ all_lines;
    before = s.good;
    few = all_few limits (front_of state) taken bytes s;
    number = j.number_is ∙ s.line;
    refused = refused_after limits.triples taken state.triples state.room state.kept.items r.fault s.room
        (subst (λ (l : List ℕ). RefusesLine state.room state.triples l r.fault) (append-nil state.kept.items) j.refused);
  })
