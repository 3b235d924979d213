-- A finished journal makes a proof of all that is the same.
use Rattle.std.proofs.Common.{List, [], ◌∷◌, ℕ, zero, suc, Bool, true, Some, All, IsTrue, ◌==◌, ◌||◌, ◌↔◌, map, length, slice_get, slice_index, ◌≡◌, ◌∙◌, ◌<◌, inl, inr, refl, sym, ap, ap₂, subst, arith, eqb-true, true≢false}
use Rattle.std.specs.List.{list_any}
use Rattle.std.proofs.lemmas.Bool.{or_cases}
use Rattle.std.proofs.lemmas.List.Elements.{All-nil, All-cons}
use Rattle.std.proofs.lemmas.Option.{slice_get_within}
use Rattle.gk_base.specs.declared.term.Term.{Term}
use Rattle.gk_base.specs.declared.term.Triple.{Triple}
use Rattle.chase_laws.specs.declared.entry.Entry.{Entry}
use Rattle.chase_laws.specs.declared.pattern.Edge.{Edge}
use Rattle.chase_laws.specs.declared.pattern.Slot.TheVariants.{Entity}
use Rattle.chase_laws.specs.Shape.{Shape, PatternFacts}
use Rattle.chase_laws.specs.Graph.{NumberedGraph, IsGraph, HasRow}
use Rattle.chase_laws.specs.Valuation.{IsValuation}
use Rattle.chase_laws.specs.Joined.{joined, links, Joined}
use Rattle.chase_laws.specs.Chase.{IsDerivation, IsLean, IsClosed, AreSame}
use Rattle.chase_laws.specs.SameRows.{HasRowsOf}
use Rattle.chase_laws.proofs.CallerLemmas.{All-at, lean_bound, slice_get-from_Contains}
use Rattle.term_table.specs.Numbering.{place_of, AreDistinct}
use Rattle.term_table.proofs.CallerLemmas.{place_of-at}
use Rattle.key_file.specs.KeyShape.{KeyShape}
use Rattle.key_file.specs.KeyFile.{IsKeyFile}
use Rattle.key_file.specs.Compile.{patterns_of}
use Rattle.key_file.specs.Numbered.{names_for, graph_of}
use Rattle.term_text.specs.ReadBack.{CanBeSpelled}
use Rattle.graph_rows.specs.Numbered.{AreSameGraph}
use Rattle.proof_file.specs.Steps.{StepShape, term_at}
use Rattle.proof_file.specs.Tells.{AreSupported, TellsAll}
use Rattle.proof_check.specs.Verdict.{verdict}
use Rattle.proof_check.specs.StepEntries.{step_entries}
use Rattle.proof_check.specs.declared.verdict.Verdict.TheVariants.{Accepted}
use Rattle.gkey_cmd.specs.ChaseEnds.{IsProofOfFiles}
use Rattle.chase_ways.specs.Ground.{GroundShape}
use Rattle.gkey_cmd.specs.Told.{step_link, TellsJournal}

-- ---- each entry of a derivation can be told

-- a test that some element passes
any_found : {X : Type 0} (p : X → Bool) (xs : List X) → list_any p xs ≡ true → (k : ℕ) × (x : X) × (slice_get xs k ≡ Some x) × (p x ≡ true)
any_found p [] h = absurd (true≢false (sym h))
any_found p (x ∷ xs) h = elim (or_cases (p x) (list_any p xs) h) [
  | inl a ↦ (0, x, refl, a)
  | inr b ↦ let r = any_found p xs b in (suc r.0, r.1, r.2, r.3)
]

-- what is so at each place is so of all
all_within : (P : ℕ → Type 0) (xs : List ℕ) → ((k : ℕ) → k < length xs → P (slice_index xs k)) → All P xs
all_within P [] h = All-nil P
all_within P (x ∷ xs) h = All-cons P x xs (h 0 (omega arith)) (all_within P xs (λ k l. h (suc k) (omega arith)))

-- the ends of a row are names
row_named : (G : NumberedGraph) → IsGraph G → (s p o : ℕ) → HasRow G s p o → (s < length G.literal) × (o < length G.literal)
row_named G graph s p o row =
    let at = slice_get-from_Contains G.rows (s ∷ p ∷ o ∷ []) row in
    let named : All (λ n. n < length G.literal) (s ∷ p ∷ o ∷ []) = All-at (λ r. All (λ n. n < length G.literal) r) G.rows at.0 (s ∷ p ∷ o ∷ []) graph at.1 in
    (All-at (λ n. n < length G.literal) (s ∷ p ∷ o ∷ []) 0 s named refl, All-at (λ n. n < length G.literal) (s ∷ p ∷ o ∷ []) 2 o named refl)

-- a valuation has names alone: each slot stands on an edge
valued : (G : NumberedGraph) (Q : Shape) (v : List ℕ) → IsGraph G → PatternFacts Q → IsValuation G Q v → (s : ℕ) → s < length v → slice_index v s < length G.literal
valued G Q v graph facts fit s l =
    let test : Edge → Bool = λ e. e.from == s || e.to == s in
    let on = any_found test Q.edges (facts.on_edges s (omega (arith, fit.one_each))) in
    let e : Edge = on.1 in
    let row = All-at (λ (x : Edge). HasRow G (slice_index v x.from) x.pred (slice_index v x.to)) Q.edges on.0 e fit.edges on.2 in
    let ends = row_named G graph (slice_index v e.from) e.pred (slice_index v e.to) row in
    elim (or_cases (e.from == s) (e.to == s) on.3) [
      | inl a ↦ subst (λ n. slice_index v n < length G.literal) (eqb-true e.from s a) ends.0
      | inr b ↦ subst (λ n. slice_index v n < length G.literal) (eqb-true e.to s b) ends.1
    ]

module _ (G : NumberedGraph) (K : List Shape) (count : ℕ) (graph : IsGraph G) (facts : (key : ℕ) (Q : Shape) → slice_get K key ≡ Some Q → PatternFacts Q) (named : length G.literal ≡ count) where
  all_named : (Q : Shape) (v : List ℕ) → PatternFacts Q → IsValuation G Q v → All (λ n. n < count) v
  all_named Q v f fit = all_within (λ n. n < count) v (λ k l. subst (λ m. slice_index v k < m) named (valued G Q v graph f fit k l))

  -- a derivation is a journal that a proof can be made of
  pub derived_supported : (H : List Entry) → IsDerivation G K H → AreSupported count K H
  derived_supported H d i e at =
      let s = d i e at in
      let f = facts e.key s.pattern s.key in
      let w = s.witness in
      record {
        pattern = s.pattern;
        key = s.key;
        left_count = w.left.one_each;
        right_count = w.right.one_each;
        left_named = all_named s.pattern e.left f w.left;
        right_named = all_named s.pattern e.right f w.right;
        at_a = w.at_a;
        at_b = w.at_b;
        joined = λ n t there nonzero. w.coincide n (Entity t) there nonzero;
      }

-- ---- steps that tell entries make the same what these do

-- the number of the first term of a side
first_number : (names : List Term) → AreDistinct names → (side : List ℕ) (n : ℕ) → 0 < length side → All (λ m. m < length names) side → slice_index side 0 ≡ n →
    place_of names (term_at (map (term_at names) side) 0) ≡ n
first_number names distinct [] n some named at = absurd (omega arith)
first_number names distinct (m ∷ side) n some named at =
    let within : m < length names = All-at (λ k. k < length names) (m ∷ side) 0 m named refl in
    place_of-at names distinct (term_at names m) m (term_there names m within) ∙ at
  where
    term_there : (ts : List Term) (k : ℕ) → k < length ts → slice_get ts k ≡ Some (term_at ts k)
    term_there [] k l = absurd (omega arith)
    term_there (t ∷ ts) zero l = refl
    term_there (t ∷ ts) (suc k) l = term_there ts k (omega arith)

links_told : (names : List Term) (H : List Entry) (steps : List StepShape) → length steps ≡ length H →
    ((i : ℕ) (e : Entry) (step : StepShape) → slice_get H i ≡ Some e → slice_get steps i ≡ Some step → step_link names step ≡ (e.a, e.b)) → map (step_link names) steps ≡ links H
links_told names [] [] n h = refl
links_told names [] (step ∷ steps) n h = absurd (omega arith)
links_told names (e ∷ H) [] n h = absurd (omega arith)
links_told names (e ∷ H) (step ∷ steps) n h =
    ap₂ (λ p ps. p ∷ ps) (h 0 e step refl refl) (links_told names H steps (omega arith) (λ i f s at in_steps. h (suc i) f s at in_steps))

pub told_links : (names : List Term) (K : List Shape) (key_names : List (List ℕ)) (H : List Entry) (steps : List StepShape) → AreDistinct names →
    ((key : ℕ) (Q : Shape) → slice_get K key ≡ Some Q → PatternFacts Q) → AreSupported (length names) K H → TellsAll names K key_names H steps → map (step_link names) steps ≡ links H
told_links names K key_names H steps distinct facts supported tells = links_told names H steps tells.one_each (λ i e step at there. link i e step at there)
  where
    link : (i : ℕ) (e : Entry) (step : StepShape) → slice_get H i ≡ Some e → slice_get steps i ≡ Some step → step_link names step ≡ (e.a, e.b)
    link i e step at there =
        let s = supported i e at in
        let t = tells.each i e step at there in
        let first = (facts e.key s.pattern s.key).first in
        let some : 0 < length s.pattern.slots = slice_get_within s.pattern.slots 0 (Entity first.0) first.1 in
        ap₂ (λ (m n : ℕ). (m, n))
        (ap (λ side. place_of names (term_at side 0)) t.left ∙ first_number names distinct e.left e.a (omega (arith, s.left_count)) s.left_named s.at_a)
        (ap (λ side. place_of names (term_at side 0)) t.right ∙ first_number names distinct e.right e.b (omega (arith, s.right_count)) s.right_named s.at_b)

-- ---- a lean journal is short

each_entry : (P : Entry → Type 0) (H : List Entry) → ((i : ℕ) (e : Entry) → slice_get H i ≡ Some e → P e) → All P H
each_entry P [] h = All-nil P
each_entry P (e ∷ H) h = All-cons P e H (h 0 e refl) (each_entry P H (λ i f at. h (suc i) f at))

first_named : (count : ℕ) (side : List ℕ) (n : ℕ) → 0 < length side → All (λ m. m < count) side → slice_index side 0 ≡ n → n < count
first_named count [] n some named at = absurd (omega arith)
first_named count (m ∷ side) n some named at = subst (λ k. k < count) at (All-at (λ k. k < count) (m ∷ side) 0 m named refl)

pub few_entries : (count most : ℕ) (K : List Shape) (H : List Entry) → ((key : ℕ) (Q : Shape) → slice_get K key ≡ Some Q → PatternFacts Q) → AreSupported count K H → IsLean H → count < most → length H < most
few_entries count most K [] facts supported lean few = omega arith
few_entries count most K (e ∷ H) facts supported lean few =
    let a = (ends 0 e refl).0 in
    let short = lean_bound (e ∷ H) lean count (omega arith) (each_entry (λ x. (x.a < count) × (x.b < count)) (e ∷ H) ends) in
    omega arith
  where
    ends : (i : ℕ) (x : Entry) → slice_get (e ∷ H) i ≡ Some x → (x.a < count) × (x.b < count)
    ends i x at =
        let s = supported i x at in
        let first = (facts x.key s.pattern s.key).first in
        let some : 0 < length s.pattern.slots = slice_get_within s.pattern.slots 0 (Entity first.0) first.1 in (
          first_named count x.left x.a (omega (arith, s.left_count)) s.left_named s.at_a,
          first_named count x.right x.b (omega (arith, s.right_count)) s.right_named s.at_b,
        )

-- ---- the proof of a finished journal

-- what the laws say
abbrev pub DerivationLaw : Type 0
DerivationLaw = (G F : NumberedGraph) (K : List Shape) → HasRowsOf K G F → (H : List Entry) → IsDerivation G K H → IsDerivation F K H

abbrev pub ClosedLaw : Type 0
ClosedLaw = (G F : NumberedGraph) (K : List Shape) → HasRowsOf K G F → HasRowsOf K F G → (H : List Entry) → IsClosed G K H ↔ IsClosed F K H

abbrev pub ChaseLaw : Type 0
ChaseLaw = (G : NumberedGraph) (K : List Shape) (H : List Entry) → IsDerivation G K H → IsClosed G K H → (a b : ℕ) → AreSame G K a b ↔ Joined H a b

abbrev pub AcceptedLaw : Type 0
AcceptedLaw = (triples : List Triple) (keys : List KeyShape) (H : List Entry) (steps : List StepShape) → IsKeyFile keys →
    IsDerivation (graph_of (names_for triples keys) triples) (patterns_of (names_for triples keys) keys) H →
    TellsAll (names_for triples keys) (patterns_of (names_for triples keys) keys) (map (λ (k : KeyShape). k.name) keys) H steps → verdict triples keys steps ≡ Accepted (length steps)

-- the entries of steps join as their links do
entry_links : (names : List Term) (keys : List KeyShape) (steps : List StepShape) → links (step_entries names keys steps) ≡ map (step_link names) steps
entry_links names keys [] = refl
entry_links names keys (step ∷ steps) = ap (λ ps. step_link names step ∷ ps) (entry_links names keys steps)

module _ (triples : List Triple) (keys : List KeyShape) (ground : GroundShape) (names : List Term) (are_names : names ≡ names_for triples keys) (built : AreSameGraph ground.patterns ground.graph (graph_of names triples)) (are_patterns : ground.patterns ≡ patterns_of names keys)
    (is_key_file : IsKeyFile keys) (derivation : DerivationLaw) (closed : ClosedLaw) (chase : ChaseLaw) (accepted : AcceptedLaw) (text : List ℕ) (told : TellsJournal ground names (map (λ (k : KeyShape). k.name) keys) text) where
  abbrev Told : List Term → List Shape → Type 0
  Told ns k = IsDerivation (graph_of ns triples) k told.journal × IsClosed (graph_of ns triples) k told.journal
      × TellsAll ns k (map (λ (q : KeyShape). q.name) keys) told.journal told.steps × (map (step_link ns) told.steps ≡ links told.journal)

  told_here : Told names ground.patterns
  told_here = (
    derivation ground.graph (graph_of names triples) ground.patterns built.there told.journal told.finished.derivation,
    (closed ground.graph (graph_of names triples) ground.patterns built.there built.back told.journal).0 told.finished.closed,
    told.tells,
    told.ends,
  )

  told_for : Told (names_for triples keys) (patterns_of (names_for triples keys) keys)
  told_for = subst (λ ns. Told ns (patterns_of ns keys)) are_names (subst (λ k. Told names k) are_patterns told_here)

  joins : (a b : ℕ) → Joined (step_entries (names_for triples keys) keys told.steps) a b ↔ AreSame (graph_of (names_for triples keys) triples) (patterns_of (names_for triples keys) keys) a b
  joins a b =
      let same = entry_links (names_for triples keys) keys told.steps ∙ told_for.3 in
      let c = chase (graph_of (names_for triples keys) triples) (patterns_of (names_for triples keys) keys) told.journal told_for.0 told_for.1 a b in (
        (λ h. c.1 (subst (λ ps. IsTrue (joined ps a b)) same h)),
        (λ h. subst (λ ps. IsTrue (joined ps a b)) (sym same) (c.0 h)),
      )

  pub is_proof : IsProofOfFiles triples keys text
  is_proof spelled named = record {
    steps = told.steps;
    written = told.written;
    reads = told.reads (subst (All CanBeSpelled) (sym are_names) spelled) named;
    accepted = accepted triples keys told.journal told.steps is_key_file told_for.0 told_for.2;
    joins = λ a b la lb. joins a b;
  }
