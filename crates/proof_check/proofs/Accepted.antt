-- The steps of an accepted proof are a derivation.
use Rattle.std.proofs.Common.{List, [], ◌∷◌, ◌++◌, ℕ, zero, suc, ◌+◌, Option, Some, None, map, length, slice_get, take, ◌≡◌, refl, sym, subst, arith, append_assoc, append-nil, length-append}
use Rattle.std.proofs.lemmas.List.{map-append}
use Rattle.std.proofs.lemmas.Option.{get_or_from_slice_get, slice_get_within}
use Rattle.gk_base.specs.declared.term.Triple.{Triple}
use Rattle.chase_laws.specs.Joined.{Joined}
use Rattle.chase_laws.specs.Chase.{IsStep, IsDerivation, AreSame}
use Rattle.key_file.specs.KeyShape.{KeyShape}
use Rattle.key_file.specs.Key.{IsKey}
use Rattle.key_file.specs.KeyFile.{IsKeyFile}
use Rattle.key_file.specs.Compile.{patterns_of}
use Rattle.gk_base.specs.declared.term.Term.{Term}
use Rattle.proof_file.specs.Steps.{StepShape, step_ends}
use Rattle.key_file.specs.Numbered.{names_for, graph_of}
use Rattle.proof_check.specs.StepEntries.{step_entry, step_entries}
use Rattle.proof_check.specs.Verdict.{key_place, reason_of, rejected_or, verdict_after, verdict}
use Rattle.proof_check.specs.declared.reason.Reason.{Reason}
use Rattle.proof_check.specs.declared.verdict.Verdict.{Verdict}
use Rattle.proof_check.specs.declared.verdict.Verdict.TheVariants.{Accepted}
use Rattle.proof_check.proofs.ListFacts.{map-take, map_found}
use Rattle.proof_check.proofs.NameFacts.{are_names}
use Rattle.proof_check.proofs.ToNumbers.{holds_at, step_holds}

-- no reason was found
judged_accepted : (o : Option Reason) (number : ℕ) (later : Verdict) (count : ℕ) → rejected_or o number later ≡ Accepted count → (o ≡ None) × (later ≡ Accepted count)
judged_accepted None number later count h = (refl, h)
judged_accepted (Some reason) number later count h = absurd cc

-- each step is counted, and so are those before
count_after : (triples : List Triple) (keys : List KeyShape) (earlier : List (Term × Term)) (steps : List StepShape) (count : ℕ) → verdict_after triples keys earlier steps ≡ Accepted count → count ≡ length earlier + length steps
count_after triples keys earlier [] count h = let same : length earlier ≡ count = cc in omega arith
count_after triples keys earlier (s ∷ steps) count h =
    let later = count_after triples keys (earlier ++ step_ends s ∷ []) steps count (judged_accepted _ _ _ count h).1 in
    let more = length-append earlier (step_ends s ∷ []) in
    omega arith

pub accepted_count : (triples : List Triple) (keys : List KeyShape) (steps : List StepShape) (count : ℕ) → verdict triples keys steps ≡ Accepted count → count ≡ length steps
accepted_count triples keys steps count h = let all = count_after triples keys [] steps count h in omega arith

-- there is no reason against any step of an accepted proof
pub no_reason : (triples : List Triple) (keys : List KeyShape) (before steps : List StepShape) (count : ℕ) → verdict_after triples keys (map step_ends before) steps ≡ Accepted count →
    (i : ℕ) (step : StepShape) → slice_get steps i ≡ Some step → reason_of triples keys (map step_ends (before ++ take i steps)) step ≡ None
no_reason triples keys before [] count h i step at = absurd cc
no_reason triples keys before (s ∷ steps) count h zero step at =
    let e : s ≡ step = cc in
    let none = (judged_accepted _ _ _ count h).0 in
    subst (λ l. reason_of triples keys (map step_ends l) step ≡ None) (sym (append-nil before)) (subst (λ u. reason_of triples keys (map step_ends before) u ≡ None) e none)
no_reason triples keys before (s ∷ steps) count h (suc i) step at =
    let later = (judged_accepted _ _ _ count h).1 in
    let moved = subst (λ l. verdict_after triples keys l steps ≡ Accepted count) (sym (map-append step_ends before (s ∷ []))) later in
    subst (λ l. reason_of triples keys (map step_ends l) step ≡ None) (append_assoc before (s ∷ []) (take i steps))
    (no_reason triples keys (before ++ s ∷ []) steps count moved i step at)

pub accepted_derivation : (triples : List Triple) (keys : List KeyShape) (steps : List StepShape) (count : ℕ) → IsKeyFile keys → verdict triples keys steps ≡ Accepted count →
    IsDerivation (graph_of (names_for triples keys) triples) (patterns_of (names_for triples keys) keys) (step_entries (names_for triples keys) keys steps)
accepted_derivation triples keys steps count file h i e at =
    let names = names_for triples keys in
    let s = map_found (step_entry names keys) steps i e at in
    let none = no_reason triples keys [] steps count h i s.0 s.1 in
    let found = holds_at triples (map step_ends (take i steps)) s.0 (slice_get keys (key_place keys s.0.key)) none in
    let valid : IsKey found.0 = subst IsKey (get_or_from_slice_get keys (key_place keys s.0.key) found.0 found.0 found.1) (file.valid (key_place keys s.0.key) found.0 (slice_get_within keys (key_place keys s.0.key) found.0 found.1)) in
    subst (λ u. IsStep (graph_of names triples) (patterns_of names keys) (take i (step_entries names keys steps)) u) s.2
    (subst (λ l. IsStep (graph_of names triples) (patterns_of names keys) l (step_entry names keys s.0)) (map-take (step_entry names keys) i steps)
    (step_holds triples keys names (are_names triples keys) (key_place keys s.0.key) found.0 found.1 (take i steps) s.0 refl valid found.2))

-- what they join is the same
pub accepted_same : (triples : List Triple) (keys : List KeyShape) (steps : List StepShape) (count : ℕ) → IsKeyFile keys → verdict triples keys steps ≡ Accepted count →
    (a b : ℕ) → Joined (step_entries (names_for triples keys) keys steps) a b → AreSame (graph_of (names_for triples keys) triples) (patterns_of (names_for triples keys) keys) a b
accepted_same triples keys steps count file h a b joins = (step_entries (names_for triples keys) keys steps, accepted_derivation triples keys steps count file h, joins)
