use Rattle.std.proofs.Common.{◌≡◌, ℕ, ◌+◌, ◌<◌, ◌≤◌, true, false, List, Option, Some, None, IfSome, IfNone, sym, subst, ◌∙◌, arith, length, take, drop, get_or}
use Rattle.std.specs.Str.Parse.{digits_value}
use Rattle.nt_lex.specs.Written.{is_uchar, is_code, Stops, EscapeAt}
use Rattle.nt_lex.proofs.WrittenLemmas.{uchar_short, uchar_long, uchar_stops}
use Rattle.nt_lex.proofs.escape.uchar.Goals as goal

module _ (line : List ℕ) (at : ℕ) (inside : at < length line) (slash : get_or line at 0 ≡ 0x5C) where
  short_found : (o : Option (ℕ × ℕ)) → IfSome o (λ r. is_code 4 (take 4 (drop (at + 2) line)) ≡ true)
      → IfSome o (λ r. r.0 ≡ digits_value 16 (take 4 (drop (at + 2) line))) → IfSome o (λ r. r.1 ≡ at + 2 + 4)
      → IfSome o (λ r. at + 2 + 4 ≤ length line) → get_or line (at + 1) 0 ≡ 0x75 → IfSome o (λ r. EscapeAt is_uchar line at r.0 r.1)
  short_found None a b e w is = tt
  short_found (Some r) a b e w is =
      subst (λ v. EscapeAt is_uchar line at v r.1) (sym b) (subst (λ n. EscapeAt is_uchar line at (digits_value 16 (take 4 (drop (at + 2) line))) n) (sym e) (uchar_short line at inside slash w is a))

  long_found : (o : Option (ℕ × ℕ)) → IfSome o (λ r. is_code 8 (take 8 (drop (at + 2) line)) ≡ true)
      → IfSome o (λ r. r.0 ≡ digits_value 16 (take 8 (drop (at + 2) line))) → IfSome o (λ r. r.1 ≡ at + 2 + 8)
      → IfSome o (λ r. at + 2 + 8 ≤ length line) → get_or line (at + 1) 0 ≡ 0x55 → IfSome o (λ r. EscapeAt is_uchar line at r.0 r.1)
  long_found None a b e w is = tt
  long_found (Some r) a b e w is =
      subst (λ v. EscapeAt is_uchar line at v r.1) (sym b) (subst (λ n. EscapeAt is_uchar line at (digits_value 16 (take 8 (drop (at + 2) line))) n) (sym e) (uchar_long line at inside slash w is a))

  short_none : (o : Option (ℕ × ℕ)) → IfNone o (is_code 4 (take 4 (drop (at + 2) line)) ≡ false) → get_or line (at + 1) 0 ≡ 0x75
      → IfNone o (Stops is_uchar (drop at line))
  short_none (Some r) n is = tt
  short_none None n is = uchar_stops line at inside slash (λ _. n) (λ other. absurd (omega (arith, is, other)))

  long_none : (o : Option (ℕ × ℕ)) → IfNone o (is_code 8 (take 8 (drop (at + 2) line)) ≡ false) → get_or line (at + 1) 0 ≡ 0x55
      → IfNone o (Stops is_uchar (drop at line))
  long_none (Some r) n is = tt
  long_none None n is = uchar_stops line at inside slash (λ other. absurd (omega (arith, is, other))) (λ _. n)

pub returns-then-next-eq117-clause-found : goal.returns-then-next-eq117-clause-found
returns-then-next-eq117-clause-found c =
    let e = c.code.ensures in
    short_found c.args.line.now c.args.at c.requires.inside c.requires.back _ e.found e.value e.end e.within (sym c.byte_at-next.ensures ∙ c.if-next-eq117.true)

pub returns-then-next-eq117-clause-none : goal.returns-then-next-eq117-clause-none
returns-then-next-eq117-clause-none c =
    short_none c.args.line.now c.args.at c.requires.inside c.requires.back _ c.code.ensures.none (sym c.byte_at-next.ensures ∙ c.if-next-eq117.true)

pub returns-then-next-eq85-clause-found : goal.returns-then-next-eq85-clause-found
returns-then-next-eq85-clause-found c =
    let e = c.code-then-next-eq85.ensures in
    long_found c.args.line.now c.args.at c.requires.inside c.requires.back _ e.found e.value e.end e.within (sym c.byte_at-next.ensures ∙ c.if-next-eq85.true)

pub returns-then-next-eq85-clause-none : goal.returns-then-next-eq85-clause-none
returns-then-next-eq85-clause-none c =
    long_none c.args.line.now c.args.at c.requires.inside c.requires.back _ c.code-then-next-eq85.ensures.none (sym c.byte_at-next.ensures ∙ c.if-next-eq85.true)

pub returns-else-next-eq85-clause-none : goal.returns-else-next-eq85-clause-none
returns-else-next-eq85-clause-none c =
    uchar_stops c.args.line.now c.args.at c.requires.inside c.requires.back
    (λ is. absurd (c.if-next-eq117.false (c.byte_at-next.ensures ∙ is)))
    (λ is. absurd (c.if-next-eq85.false (c.byte_at-next.ensures ∙ is)))
