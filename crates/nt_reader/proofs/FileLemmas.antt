-- What is judged of a file does not change when more of it comes.
use Rattle.std.proofs.Common.{◌≡◌, ℕ, ◌+◌, ◌-◌, ◌≤◌, inl, inr, nat_le, List, [], ◌∷◌, ◌++◌, length, take, get_or, sym, ap, ap₂, ◌∙◌, subst, arith, append_assoc, length-append, Option, Ok}
use Rattle.std.proofs.Math.Seq.{take-append-add}
use Rattle.std.proofs.lemmas.Bool.{cases_Bool, cond-true, cond-false}
use Rattle.std.proofs.lemmas.List.{take_at, get_or_at}
use Rattle.std.proofs.lemmas.List.Elements.{filter_map-append}
use Rattle.std.specs.List.{AllZip}
use Rattle.gk_base.specs.declared.term.Triple.{Triple}
use Rattle.gk_base.specs.declared.limits.Limits.{Limits}
use Rattle.gk_base.specs.declared.read_fault.ReadFault.TheVariants.{TooLong}
use Rattle.gk_base.specs.declared.read_fault.ReadRefusal.{ReadRefusal}
use Rattle.nt_reader.specs.Line.{LineSays}
use Rattle.nt_reader.specs.Lines.{Cut, cut_of, last_of}
use Rattle.nt_reader.specs.File.{triples_of, IsGood, AreGood, RefusesLine, judged, line_of_next, Refuses}
use Rattle.nt_reader.proofs.CutLemmas.{cut_append, ended_grows}

zip_push : (ls : List (List ℕ)) (bs : List (Option Triple)) (l : List ℕ) (a : Option Triple) → AllZip IsGood ls bs → IsGood l a → AllZip IsGood (ls ++ l ∷ []) (bs ++ a ∷ [])
zip_push [] [] l a z g = (g, tt)
zip_push [] (b ∷ bs) l a z g = absurd z
zip_push (k ∷ ls) [] l a z g = absurd z
zip_push (k ∷ ls) (b ∷ bs) l a z g = (z.0, zip_push ls bs l a z.1 g)

-- one more line is good
pub good_push : (ls : List (List ℕ)) (ts : List Triple) (l : List ℕ) (a : Option Triple) → AreGood ls ts → LineSays l (Ok a)
    → AreGood (ls ++ l ∷ []) (ts ++ triples_of (a ∷ []))
good_push ls ts l a g s = record {
  answers = g.answers ++ a ∷ [];
  each = zip_push ls g.answers l a g.each s;
  have = ap (λ (t : List Triple). t ++ triples_of (a ∷ [])) g.have ∙ sym (filter_map-append (λ answer. answer) g.answers (a ∷ []));
}

-- the lines that ended in a front within the limit are judged first, whatever follows
pub judged_front : (most : ℕ) (bytes more : List ℕ) → length bytes ≤ most
    → (tail : List (List ℕ)) × (judged most (bytes ++ more) ≡ (cut_of bytes).ended ++ tail)
judged_front most bytes more within =
    let front : (rest : List ℕ) → (tail : List (List ℕ)) × ((cut_of (bytes ++ rest)).ended ≡ (cut_of bytes).ended ++ tail) =
    λ rest. let g = ended_grows (cut_of bytes) rest in (g.0, ap (λ (c : Cut). c.ended) (cut_append bytes rest) ∙ g.1)
    in
    elim (cases_Bool (nat_le (length (bytes ++ more)) most)) [
      | inl fits ↦
          let g = front more in (
            g.0 ++ last_of (cut_of (bytes ++ more)).rest,
            cond-true _ _ _ fits ∙ ap (λ (l : List (List ℕ)). l ++ last_of (cut_of (bytes ++ more)).rest) g.1 ∙ append_assoc _ g.0 _,
          )
      | inr over ↦
          let n = most - length bytes in
          let g = front (take n more) in
          let sum : length bytes + n ≡ most = omega arith in
          (g.0, cond-false _ _ _ over ∙ ap (λ k. (cut_of (take k (bytes ++ more))).ended) (sym sum) ∙ ap (λ (b : List ℕ). (cut_of b).ended) (take-append-add bytes more n) ∙ g.1)
    ]

-- a line that ended within the limit is refused, whatever follows
pub refused_for_good : (limits : Limits) (bytes : List ℕ) (good : List (List ℕ)) (bad : List ℕ) (triples : List Triple) (refusal : ReadRefusal)
    → length bytes ≤ limits.bytes → (cut_of bytes).ended ≡ good ++ bad ∷ [] → AreGood good triples → length triples ≤ limits.triples
    → refusal.line ≡ length good + 1 → RefusesLine limits.triples triples bad refusal.fault → Refuses limits bytes refusal
refused_for_good limits bytes good bad triples refusal within ended g few number refused = record {
  always = λ more.
      let f = judged_front limits.bytes bytes more within in
      inl (record {
        good = good;
        bad = bad;
        more = f.0;
        triples = triples;
        here = f.1 ∙ ap (λ (l : List (List ℕ)). l ++ f.0) ended ∙ append_assoc good (bad ∷ []) f.0;
        before = g;
        few = few;
        number = number;
        refused = refused;
      });
}

-- a byte after the limit is refused, whatever follows
pub long_for_good : (limits : Limits) (front rest : List ℕ) (b : ℕ) (triples : List Triple) (refusal : ReadRefusal)
    → length front ≡ limits.bytes → AreGood (cut_of front).ended triples → length triples ≤ limits.triples
    → refusal.line ≡ line_of_next front b → refusal.fault ≡ TooLong → Refuses limits (front ++ b ∷ rest) refusal
long_for_good limits front rest b triples refusal full g few line fault = record {
  always = λ more.
      let whole = append_assoc front (b ∷ rest) more in
      let head : take limits.bytes ((front ++ b ∷ rest) ++ more) ≡ front = ap (take limits.bytes) whole ∙ take_at front (b ∷ rest ++ more) limits.bytes full in
      let at : get_or ((front ++ b ∷ rest) ++ more) limits.bytes 0 ≡ b = ap (λ (l : List ℕ). get_or l limits.bytes 0) whole ∙ get_or_at front b (rest ++ more) 0 limits.bytes full in
      inr (record {
        triples = triples;
        longer = omega (arith, full, length-append (front ++ b ∷ rest) more, length-append front (b ∷ rest));
        before = subst (λ (l : List ℕ). AreGood (cut_of l).ended triples) (sym head) g;
        few = few;
        line = line ∙ ap₂ line_of_next (sym head) (sym at);
        fault = fault;
      });
}
