use Rattle.std.proofs.Common.{◌≡◌, ℕ, ◌≤◌, List, [], ◌∷◌, ◌++◌, length, Option, Some, None, Result, Ok, Err, inl, inr, refl, sym, subst, append-nil}
use Rattle.std.specs.Result.{OnOk}
use Rattle.gk_base.specs.declared.term.Triple.{Triple}
use Rattle.gk_base.specs.declared.read_fault.ReadFault.TheVariants.{TooManyTriples}
use Rattle.gk_base.specs.declared.read_fault.ReadRefusal.{ReadRefusal}
use Rattle.gk_base.specs.Answers.{ReadStop, LexStop, IsSo}
use Rattle.gk_base.specs.declared.stop.Stop.TheVariants.{NoMemory, Fault}
use Rattle.gk_base.specs.declared.lex_fault.LexFault.{LexFault}
use Rattle.gk_base.specs.declared.stop.Stop.TheVariants as stops
use Rattle.nt_reader.specs.Line.{LineSays}
use Rattle.nt_reader.specs.Judged.{Judges}
use Rattle.nt_reader.proofs.state.judge.Goals as goal

added : (most : ℕ) (old new : List Triple) (line : List ℕ) (number : ℕ) (triple : Triple) (r : Result (Unit {0}) ReadStop) → LineSays line (Ok (Some triple))
    → OnOk r (new ≡ old ++ triple ∷ []) → OnOk r (length new ≤ most) → ((refusal : ReadRefusal) → r ≡ Err (Fault refusal) → most ≤ length old)
    → ((refusal : ReadRefusal) → r ≡ Err (Fault refusal) → refusal ≡ record { line = number; fault = TooManyTriples }) → IsSo (Judges most old new line number) r
added most old new line number triple (Ok x) says grown few full refused = record { answer = Some triple; says = says; grown = grown; few = λ _. few }
added most old new line number triple (Err NoMemory) says grown few full refused = tt
added most old new line number triple (Err (Fault refusal)) says grown few full refused =
    subst (λ w. IsSo (Judges {A = Unit {0}} most old new line number) (Err (Fault w))) (sym (refused refusal refl))
    (record { number_is = refl; refused = record { why = inr (triple, says, full refusal refl, refl) } })

said : (Says : Result (Option Triple) LexFault → Type 0) {stop : LexStop} {fault : LexFault} → stop ≡ stops.Fault fault → IsSo Says (Err stop) → Says (Err fault)
said Says e so = subst (λ s. IsSo Says (Err s)) e so

pub returns-in-Ok-None : goal.returns-in-Ok-None
returns-in-Ok-None c = record {
  answer = None;
  says = subst (λ a. LineSays c.args.content.now (Ok a)) c.in-Ok-None.field-0-is c.in-Ok-None.ensures;
  grown = sym (append-nil c.args.triples.now);
  few = λ h. h;
}

pub returns-in-Ok-Some : goal.returns-in-Ok-Some
returns-in-Ok-Some c =
    let e = c.add.ensures in
    added _ _ _ _ _ c.in-Ok-Some.triple _ (subst (λ a. LineSays c.args.content.now (Ok a)) c.in-Ok-Some.field-0-is c.in-Ok-Some.ensures) e.ok e.few e.full e.refused

pub returns-in-Err-Fault : goal.returns-in-Err-Fault
returns-in-Err-Fault c =
    let most = c.args.room in
    let old = c.args.triples.now in
    subst (λ stop. IsSo (Judges {A = Unit {0}} most old old c.args.content.now c.args.number) (Err stop)) (sym c.refused.ensures)
    (record { number_is = refl; refused = record { why = inl (c.in-Err-Fault.fault, said (LineSays c.args.content.now) c.in-Err-Fault.field-0-is c.in-Err-Fault.ensures, refl) } })
