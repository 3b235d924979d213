use Rattle.std.proofs.Common.{◌≡◌, ℕ, ◌+◌, List, ◌∷◌, drop, get_or, IsUtf8, sym, ap, ◌∙◌, subst, arith}
use Rattle.std.proofs.lemmas.List.{drop-drop, get_or-drop}
use Rattle.nt_lex.specs.Parts.{LabelIn}
use Rattle.nt_lex.specs.Reading.{Reads}
use Rattle.nt_lex.proofs.AnswerLemmas.{utf_after_byte}
use Rattle.nt_lex.proofs.PartLemmas.{known_inside}
use Rattle.nt_lex.proofs.AnswerParts.{blank_reads, blank_fails}
use Rattle.nt_lex.proofs.blank.blank_answer.Goals as goal

-- the first byte from a place on, and what follows it
second : (line : List ℕ) (at : ℕ) (more : List ℕ) → drop (at + 1) line ≡ 58 ∷ more → get_or line (at + 1) 0 ≡ 58
second line at more e =
    let place : at + 1 + 0 ≡ at + 1 = omega arith in
    ap (λ n. get_or line n 0) (sym place) ∙ sym (get_or-drop (at + 1) line 0 0) ∙ ap (λ l. get_or l 0 0) e

past : (line : List ℕ) (at : ℕ) (more : List ℕ) → drop at line ≡ 58 ∷ more → drop (at + 1) line ≡ more
past line at more e = sym (drop-drop 1 at line) ∙ ap (drop 1) e

two : (at : ℕ) → at + 1 + 1 ≡ at + 2
two at = omega arith

pub returns-then-byte_at-ne58-clause-so : goal.returns-then-byte_at-ne58-clause-so
returns-then-byte_at-ne58-clause-so c =
    let line = c.args.line.now in
    let at = c.args.at in
    blank_fails line at c.requires.inside c.requires.opens
    (λ d more m e. c.if-byte_at-ne58.true (c.byte_at.ensures ∙ second line at _ e))

pub text_from-requires-clause-utf8 : goal.text_from-requires-clause-utf8
text_from-requires-clause-utf8 c =
    let line = c.args.line.now in
    let at = c.args.at in
    let colon : get_or line (at + 1) 0 ≡ 58 = sym c.byte_at.ensures ∙ c.if-byte_at-ne58.false in
    subst (λ n. IsUtf8 (drop n line)) (two at) (utf_after_byte line (at + 1) c.requires.utf8 (known_inside line (at + 1) 58 colon (omega arith)) (omega (arith, colon)))

pub returns-in-Some-clause-so : goal.returns-in-Some-clause-so
returns-in-Some-clause-so c =
    let line = c.args.line.now in
    let at = c.args.at in
    let colon : get_or line (at + 1) 0 ≡ 58 = sym c.byte_at.ensures ∙ c.if-byte_at-ne58.false in
    let found : LabelIn (drop (at + 2) line) c.in-Some.len = subst (λ (t : List ℕ). LabelIn t c.in-Some.len) c.text_from.ensures c.in-Some.ensures in
    subst (λ t. Reads line at t (at + 2 + c.in-Some.len)) (sym c.new-node.ensures)
    (blank_reads line at c.in-Some.len c.requires.inside c.requires.opens colon found)

pub returns-in-None-clause-so : goal.returns-in-None-clause-so
returns-in-None-clause-so c =
    let line = c.args.line.now in
    let at = c.args.at in
    blank_fails line at c.requires.inside c.requires.opens
    (λ d more m e. c.in-None.ensures d more m (c.text_from.ensures ∙ ap (λ n. drop n line) (sym (two at)) ∙ past line (at + 1) _ e))
