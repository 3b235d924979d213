use Rattle.std.proofs.Common.{◌≡◌, ℕ, ◌-◌, ◌≤◌, false, List, ◌++◌, length, sym, ap, ◌∙◌, subst, arith}
use Rattle.std.proofs.lemmas.List.{length-append}
use Rattle.std.proofs.lemmas.Str.{encode_same, length-encode, len_utf8_bounds}
use lib.Utf8.{encode}
use Rattle.nt_lex.specs.Chars.{is_label_inner}
use Rattle.nt_lex.proofs.WrittenLemmas.{true_false}
use Rattle.nt_lex.proofs.OthersLemmas.{OthersSoFar, others_start, others_dot, others_more, others_end}
use Rattle.nt_lex.proofs.blank.others_len.Goals as goal

nothing : (c : ℕ) (more rest : List ℕ) → length rest ≡ 0 → rest ≡ encode c ++ more → ⊥
nothing c more rest none e = omega (arith, none, ap length e, length-append (encode c) more, length-encode c, (len_utf8_bounds c).0)

shorter : (text rest more : List ℕ) (c : ℕ) → rest ≡ encode c ++ more → length rest ≤ length text → length more ≤ length text
shorter text rest more c step within = omega (arith, ap length step, length-append (encode c) more)

pub loop-c-init : goal.loop-c-init
loop-c-init c = record {
  so_far = subst (λ (r : List ℕ). OthersSoFar c.args.text.now r 0) (sym c.chars-chars.ensures.rest) (others_start c.args.text.now);
  within = omega (arith, ap length c.chars-chars.ensures.rest);
}

pub loop-c-preserved-then-c-ne46 : goal.loop-c-preserved-then-c-ne46
loop-c-preserved-then-c-ne46 c =
    let i = c.loop-c.invariant in
    let rest = c.next.new.self.rest.now in
    record {
      so_far = subst (λ (r : List ℕ). OthersSoFar c.args.text.now rest (length c.args.text.now - length r)) (sym c.as_str.ensures)
          (others_more c.args.text.now c.loop-c.chars.rest.now rest c.loop-c.len c.in-Some.c i.so_far c.in-Some.ensures.steps.0 (sym c.is_label_inner.ensures ∙ c.if-not-is_label_inner.false) c.if-c-ne46.true);
      within = shorter c.args.text.now c.loop-c.chars.rest.now rest c.in-Some.c c.in-Some.ensures.steps.0 i.within;
    }

pub loop-c-preserved : goal.loop-c-preserved
loop-c-preserved c =
    let i = c.loop-c.invariant in
    record {
      so_far = others_dot c.args.text.now c.loop-c.chars.rest.now c.next.new.self.rest.now c.loop-c.len c.in-Some.c i.so_far c.in-Some.ensures.steps.0 c.if-c-ne46.false;
      within = shorter c.args.text.now c.loop-c.chars.rest.now c.next.new.self.rest.now c.in-Some.c c.in-Some.ensures.steps.0 i.within;
    }

pub returns-then-not-is_label_inner : goal.returns-then-not-is_label_inner
returns-then-not-is_label_inner c =
    let i = c.loop-c.invariant in
    let step : c.loop-c.chars.rest.now ≡ encode c.in-Some.c ++ c.next.new.self.rest.now = c.in-Some.ensures.steps.0 in
    let outside : is_label_inner c.in-Some.c ≡ false = sym c.is_label_inner.ensures ∙ c.if-not-is_label_inner.true in
    others_end c.args.text.now c.loop-c.chars.rest.now c.loop-c.len i.so_far
    (λ d more m e. true_false (sym m ∙ ap is_label_inner (encode_same d c.in-Some.c more c.next.new.self.rest.now (sym e ∙ step)).0 ∙ outside))

pub returns-in_default : goal.returns-in_default
returns-in_default c =
    let i = c.loop-c.invariant in
    others_end c.args.text.now c.loop-c.chars.rest.now c.loop-c.len i.so_far (λ d more m e. nothing d more c.loop-c.chars.rest.now c.in_default.ensures.steps.0.0 e)
