-- The text of a proof for two names, and what it says of the triples and the keys.
use Rattle.std.proofs.Common.{List, [], ◌∷◌, ◌++◌, ℕ, Bool, true, false, Some, Ok, Err, All, map, length, slice_get, ◌≡◌, ◌↔◌, ◌<◌, ◌≤◌, ◌^◌, refl, sym, subst, arith}
use Rattle.std.proofs.lemmas.Option.{get_or_from_slice_get}
use Rattle.gk_base.specs.declared.term.Term.{Term}
use Rattle.gk_base.specs.declared.term.Term.TheVariants.{Plain}
use Rattle.gk_base.specs.declared.term.Triple.{Triple}
use Rattle.chase_laws.specs.declared.entry.Entry.{Entry}
use Rattle.chase_laws.specs.Shape.{Shape, IsPattern, PatternFacts}
use Rattle.chase_laws.specs.Graph.{NumberedGraph, IsGraph}
use Rattle.chase_laws.specs.Chase.{IsDerivation, AreSame}
use Rattle.match_run.specs.Classes.{IsFinishedJournal}
use Rattle.term_list.specs.Triples.{terms_of}
use Rattle.term_table.specs.Numbering.{place_of, AreDistinct}
use Rattle.term_table.proofs.CallerLemmas.{AreDistinct-names_of, place_of-at}
use Rattle.key_file.specs.KeyShape.{KeyShape}
use Rattle.key_file.specs.KeyFile.{IsKeyFile}
use Rattle.key_file.specs.Name.{is_name}
use Rattle.key_file.specs.Compile.{patterns_of, key_terms}
use Rattle.key_file.specs.Numbered.{names_for, graph_of}
use Rattle.term_text.specs.ReadBack.{CanBeSpelled}
use Rattle.graph_rows.specs.Numbered.{AreSameGraph}
use Rattle.proof_file.specs.Steps.{StepShape, NoneTwice, NoneTwiceInSupports, term_at}
use Rattle.proof_file.specs.Tells.{AreSupported, TellsAll}
use Rattle.proof_file.specs.ProofText.{ProofSays}
use Rattle.proof_file.specs.CanonicalProof.{proof_text, CanBeRead}
use Rattle.why_pair.specs.Kept.{kept_by}
use Rattle.why_pair.specs.Why.{StepsLead, AllReached, TellsPart}
use Rattle.gkey_cmd.specs.Why.{SpellApart, SpellsNumber, SpellTwo, TellsPair}
use Rattle.gk_base.specs.declared.stop.Stop.{Stop}
use Rattle.gk_base.specs.declared.stop.Stop.TheVariants as stop
use Rattle.pair_seed.specs.Stop.{IsRightStop}
use Rattle.pair_seed.specs.declared.stop.TooManyPairs.{TooManyPairs}
use Rattle.match_run.proofs.CallerLemmas.{CandidateLaw}
use Rattle.gkey_cmd.specs.ChaseEnds.{IsWhyOfFiles, NameTwo, WhyEnds, IsStopped, chase_ending}
use Rattle.gkey_cmd.specs.declared.ending.Answer.TheVariants.{Given}
use Rattle.gkey_cmd.specs.declared.ending.Asked.TheVariants.{First, Second}
use Rattle.gkey_cmd.specs.declared.ending.Refusal.TheVariants.{InGraph, InMore, InKeys, InProof, NoSuchEntity, MorePairsThan}
use Rattle.gkey_cmd.specs.declared.ending.Ending.{Ending}
use Rattle.gkey_cmd.specs.declared.ending.Ending.TheVariants.{NoCommand, Failed, Refused, NoMemory, Done}
use Rattle.gkey_cmd.proofs.Derived.{derived_supported, few_entries, DerivationLaw, AcceptedLaw}
use Rattle.gkey_cmd.proofs.Reports.{SameLaw, said, too_many}
use Rattle.gkey_cmd.proofs.Finding.{spells_entity, names_one, names_none}

-- ---- the text of a part of a journal

-- what the laws say
abbrev pub BackLaw : Type 0
BackLaw = (limit : ℕ) (steps : List StepShape) → CanBeRead steps → (length (proof_text steps) ≤ limit) ↔ ProofSays limit (proof_text steps) (Ok steps)

abbrev pub ToldLaw : Type 0
ToldLaw = (names : List Term) (K : List Shape) (key_names : List (List ℕ)) (H : List Entry) (steps : List StepShape) →
    All CanBeSpelled names → All IsPattern K → All (λ name. is_name name ≡ true) key_names →
    length names < 2 ^ 32 → length H < 2 ^ 32 → AreSupported (length names) K H → TellsAll names K key_names H steps → CanBeRead steps

-- a part has no more entries than the whole
no_more_kept : (marks : List Bool) (H : List Entry) → length (kept_by marks H) ≤ length H
no_more_kept [] H = omega arith
no_more_kept (mark ∷ marks) [] = omega arith
no_more_kept (true ∷ marks) (e ∷ H) = let k = no_more_kept marks H in omega arith
no_more_kept (false ∷ marks) (e ∷ H) = let k = no_more_kept marks H in omega arith

module _ (G : NumberedGraph) (K : List Shape) (names : List Term) (key_names : List (List ℕ)) (H : List Entry) (steps : List StepShape) (graph : IsGraph G)
    (facts : (key : ℕ) (Q : Shape) → slice_get K key ≡ Some Q → PatternFacts Q) (valid : All IsPattern K) (named : length G.literal ≡ length names) (small : length names < 2 ^ 32)
    (finished : IsFinishedJournal G K H) (part : TellsPart names K key_names H steps) where
  pub part_readable : ToldLaw → All CanBeSpelled names → All (λ name. is_name name ≡ true) key_names → CanBeRead steps
  part_readable told spelled good =
      let whole = derived_supported G K (length names) graph facts named H finished.derivation in
      let short : length H < 2 ^ 32 = few_entries (length names) (2 ^ 32) K H facts whole finished.lean small in
      let kept = kept_by part.marks H in
      let few : length kept < 2 ^ 32 = let k = no_more_kept part.marks H in omega arith in
      told names K key_names kept steps spelled valid good small few
      (derived_supported G K (length names) graph facts named kept (part.derivation G finished.derivation)) part.tells

  pub part_read : BackLaw → ToldLaw → (text : List ℕ) → text ≡ proof_text steps →
      All CanBeSpelled names → All (λ name. is_name name ≡ true) key_names → (limit : ℕ) → length text ≤ limit → ProofSays limit text (Ok steps)
  part_read back told text written spelled good limit fits =
      subst (λ t. ProofSays limit t (Ok steps)) (sym written)
      ((back limit steps (part_readable told spelled good)).0 (subst (λ (t : List ℕ). length t ≤ limit) written fits))

  pub pair_told : BackLaw → ToldLaw → (a b : ℕ) (goal text : List ℕ) → AreSame G K a b → StepsLead steps goal (term_at names a) (term_at names b) →
      NoneTwice goal → NoneTwiceInSupports steps → AllReached steps goal → text ≡ proof_text steps → TellsPair G K names key_names a b text
  pair_told back told a b goal text same leads once supports_once reached written = record {
    same = same;
    entries = kept_by part.marks H;
    steps = steps;
    goal = goal;
    derivation = part.derivation G finished.derivation;
    tells = part.tells;
    leads = leads;
    once = once;
    supports_once = supports_once;
    reached = reached;
    written = written;
    reads = part_read back told text written;
  }

-- ---- what it says of the triples and the keys

module _ (triples : List Triple) (keys : List KeyShape) (G : NumberedGraph) (names : List Term) (K : List Shape) (are_names : names ≡ names_for triples keys) (built : AreSameGraph K G (graph_of names triples)) (are_patterns : K ≡ patterns_of names keys) where
  distinct : AreDistinct names
  distinct = subst AreDistinct (sym are_names) (AreDistinct-names_of (terms_of triples ++ key_terms keys))

  place_is : (word : List ℕ) (n : ℕ) (x : SpellsNumber G names word n) → place_of names x.term ≡ n
  place_is word n x = place_of-at names distinct x.term n x.name

  term_is : (word : List ℕ) (n : ℕ) (x : SpellsNumber G names word n) → term_at names n ≡ x.term
  term_is word n x = get_or_from_slice_get names n x.term (Plain []) x.name

  -- two words that spell entities
  pub two_named : (first second : List ℕ) (a b : ℕ) → SpellsNumber G names first a → SpellsNumber G names second b → NameTwo triples first second
  two_named first second a b x y = (names_one triples keys G names K are_names built first a x, names_one triples keys G names K are_names built second b y)

  -- how a run ends whose words don't both spell one
  pub words_end : (first second : List ℕ) (limit : ℕ) (ending : Ending) → SpellTwo G names first second (Err ending) → WhyEnds triples keys first second limit (Err ending)
  words_end first second limit (Refused (InGraph refusal)) h = h
  words_end first second limit (Refused (InMore refusal)) h = h
  words_end first second limit (Refused (InKeys refusal)) h = h
  words_end first second limit (Refused (InProof refusal)) h = h
  words_end first second limit (Refused (NoSuchEntity First)) h = names_none triples keys G names K are_names built first h
  words_end first second limit (Refused (NoSuchEntity Second)) h =
      (names_one triples keys G names K are_names built first h.0.0 h.0.1, names_none triples keys G names K are_names built second h.1)
  words_end first second limit (Refused (MorePairsThan most)) h = absurd h
  words_end first second limit NoMemory h = tt
  words_end first second limit NoCommand h = h
  words_end first second limit (Failed file) h = h
  words_end first second limit (Done answer text) h = h

  -- and how one ends whose words do, where its chase is stopped
  pub chase_ends : CandidateLaw → (first second : List ℕ) (limit : ℕ) (ending : Ending) → NameTwo triples first second → IsStopped G K limit ending → WhyEnds triples keys first second limit (Err ending)
  chase_ends law first second limit ending two s = subst (λ e. WhyEnds triples keys first second limit (Err e)) (sym s.2) (of_stop s.0 s.1)
    where
      of_stop : (stop : Stop TooManyPairs) → IsRightStop G K limit stop → WhyEnds triples keys first second limit (Err (chase_ending limit stop))
      of_stop stop.NoMemory h = tt
      of_stop (stop.Fault many) h = (two, too_many triples keys G names K are_names built are_patterns law limit h.1, refl)

  module _ (same : SameLaw) (first second : List ℕ) (a b : ℕ) (x : SpellsNumber G names first a) (y : SpellsNumber G names second b) where
    -- what is said of the two names, said of the terms
    to_places : (P : ℕ → ℕ → Type 0) → P a b → P (place_of names x.term) (place_of names y.term)
    to_places P h = subst (λ i. P i (place_of names y.term)) (sym (place_is first a x)) (subst (λ j. P a j) (sym (place_is second b y)) h)

    same_terms : AreSame G K a b → AreSame (graph_of names triples) K (place_of names x.term) (place_of names y.term)
    same_terms h = to_places (AreSame (graph_of names triples) K) ((same G (graph_of names triples) K built.there built.back a b).0 h)

    apart_terms : ¬ (AreSame G K a b) → ¬ (AreSame (graph_of names triples) K (place_of names x.term) (place_of names y.term))
    apart_terms apart = to_places (λ i j. ¬ (AreSame (graph_of names triples) K i j)) (λ h. apart ((same G (graph_of names triples) K built.there built.back a b).1 h))

    -- two entities that are not the same
    pub are_apart : ¬ (AreSame G K a b) → SpellApart triples keys first second
    are_apart apart = record {
      one = x.term;
      other = y.term;
      first_spells = spells_entity triples keys G names K are_names built first a x;
      second_spells = spells_entity triples keys G names K are_names built second b y;
      apart = said triples keys G names K are_names built are_patterns (λ F Q ns. ¬ (AreSame F Q (place_of ns x.term) (place_of ns y.term))) (apart_terms apart);
    }

    -- and two that are
    pub is_reason : DerivationLaw → AcceptedLaw → IsKeyFile keys → (text : List ℕ) → TellsPair G K names (map (λ (k : KeyShape). k.name) keys) a b text →
        IsWhyOfFiles triples keys first second Given text
    is_reason derivation accepted key_file text told spelled good =
        let here = said triples keys G names K are_names built are_patterns
        (λ F Q ns. IsDerivation F Q told.entries × TellsAll ns Q (map (λ (k : KeyShape). k.name) keys) told.entries told.steps)
        (derivation G (graph_of names triples) K built.there told.entries told.derivation, told.tells) in
        record {
          one = x.term;
          other = y.term;
          first_spells = spells_entity triples keys G names K are_names built first a x;
          second_spells = spells_entity triples keys G names K are_names built second b y;
          same = said triples keys G names K are_names built are_patterns (λ F Q ns. AreSame F Q (place_of ns x.term) (place_of ns y.term)) (same_terms told.same);
          steps = told.steps;
          goal = told.goal;
          written = told.written;
          reads = told.reads (subst (All CanBeSpelled) (sym are_names) spelled) good;
          accepted = accepted triples keys told.entries told.steps key_file here.0 here.1;
          leads = subst (λ t. StepsLead told.steps told.goal t y.term) (term_is first a x) (subst (λ t. StepsLead told.steps told.goal (term_at names a) t) (term_is second b y) told.leads);
          once = told.once;
          supports_once = told.supports_once;
          reached = told.reached;
        }
