use Rattle.std.proofs.Common.{◌≡◌, ℕ, false, List, ◌++◌, length, sym, ap, ◌∙◌, arith}
use Rattle.std.proofs.lemmas.List.{length-append}
use Rattle.std.proofs.lemmas.Str.{encode_same, length-encode, len_utf8_bounds}
use lib.Utf8.{encode}
use Rattle.nt_lex.specs.Chars.{is_label_first}
use Rattle.nt_lex.proofs.WrittenLemmas.{true_false}
use Rattle.nt_lex.proofs.OthersLemmas.{label_in}
use Rattle.nt_lex.proofs.blank.label_len.Goals as goal

nothing : (c : ℕ) (more rest : List ℕ) → length rest ≡ 0 → rest ≡ encode c ++ more → ⊥
nothing c more rest none e = omega (arith, none, ap length e, length-append (encode c) more, length-encode c, (len_utf8_bounds c).0)

pub returns-then-not-is_label_first : goal.returns-then-not-is_label_first
returns-then-not-is_label_first c =
    let step : c.args.text.now ≡ encode c.in-Some.first ++ c.next.new.self.rest.now = sym c.chars-chars.ensures.rest ∙ c.in-Some.ensures.steps.0 in
    let outside : is_label_first c.in-Some.first ≡ false = sym c.is_label_first.ensures ∙ c.if-not-is_label_first.true in
    λ d more m e. true_false (sym m ∙ ap is_label_first (encode_same d c.in-Some.first more c.next.new.self.rest.now (sym e ∙ step)).0 ∙ outside)

pub returns-else-not-is_label_first : goal.returns-else-not-is_label_first
returns-else-not-is_label_first c =
    let step : c.args.text.now ≡ encode c.in-Some.first ++ c.as_str-rest.result.now =
    sym c.chars-chars.ensures.rest ∙ c.in-Some.ensures.steps.0 ∙ ap (λ (r : List ℕ). encode c.in-Some.first ++ r) (sym c.as_str-rest.ensures) in
    label_in c.args.text.now c.as_str-rest.result.now c.in-Some.first c.others_len.result step (sym c.is_label_first.ensures ∙ c.if-not-is_label_first.false) c.others_len.ensures

pub returns-in-None : goal.returns-in-None
returns-in-None c = λ d more m e. nothing d more c.args.text.now (ap length (sym c.chars-chars.ensures.rest) ∙ c.in-None.ensures.steps.0.0) e
