-- One answer to a command for its files and limits, and one output, if it prints no proof of its own.
use Rattle.std.proofs.Common.{List, ◌++◌, ℕ, Ok, ◌≡◌, ◌∙◌, refl, sym, ap, subst}
use Rattle.gk_base.specs.declared.limits.Limits.{Limits}
use Rattle.gk_base.specs.declared.term.Triple.{Triple}
use Rattle.gk_io.specs.Files.{bytes_of}
use Rattle.key_file.specs.KeyShape.{KeyShape}
use Rattle.key_lang.proofs.CallerLemmas.{keys_once}
use Rattle.proof_file.specs.Steps.{StepShape}
use Rattle.proof_file.specs.CanonicalProof.{proof_text}
use Rattle.proof_file.proofs.CallerLemmas.{proof_once}
use Rattle.gkey_cmd.specs.Commands.{Wanted, Matching, Proving, Checking, Converting, Demonstrating, Merging, Explaining, Growing, Helping, TellingVersion, demo_graph_name, demo_keys_name}
use Rattle.gkey_cmd.specs.Reading.{NamedFiles, GraphSays, KeyFileSays, ProofFileSays, left_by}
use Rattle.gkey_cmd.specs.Match.{IsReport}
use Rattle.gkey_cmd.specs.Check.{IsChecked}
use Rattle.gkey_cmd.specs.Demo.{IsDemoText}
use Rattle.gkey_cmd.specs.Merge.{IsMergedOutput}
use Rattle.gkey_cmd.specs.Why.{IsReason, AreSameTerms}
use Rattle.gkey_cmd.specs.Written.{Answers, HasOneOutput}
use Rattle.gkey_cmd.specs.declared.ending.Answer.{Answer}
use Rattle.gkey_cmd.specs.declared.ending.Answer.TheVariants.{Given, NotAccepted, NotTheSame}
use Rattle.gkey_cmd.proofs.RefusedOnce.{same_triples}
use Rattle.gkey_cmd.proofs.WholeWords.{one_term}
use Rattle.gkey_cmd.proofs.OneReport.{one_report}
use Rattle.gkey_cmd.proofs.OneMerged.{one_merged}
use Rattle.gkey_cmd.proofs.OneDemo.{one_demo}

-- ---- what the other files say is one

same_keys : (limits : Limits) (bytes : List ℕ) (keys others : List KeyShape) → KeyFileSays limits bytes (Ok keys) → KeyFileSays limits bytes (Ok others) → keys ≡ others
same_keys limits bytes keys others h k = let one : Ok keys ≡ Ok others = keys_once limits.key_bytes bytes (Ok keys) (Ok others) h k in cc

same_steps : (limits : Limits) (bytes : List ℕ) (steps others : List StepShape) → ProofFileSays limits bytes (Ok steps) → ProofFileSays limits bytes (Ok others) → steps ≡ others
same_steps limits bytes steps others h k = let one : Ok steps ≡ Ok others = proof_once limits.bytes bytes (Ok steps) (Ok others) h k in cc

-- ---- one output

-- a graph and keys that are accepted, with a text that is made of them
abbrev HasText : (IsText : List Triple → List KeyShape → List ℕ → Type 0) → Limits → NamedFiles → (graph keys : List ℕ) → List ℕ → Type 0
HasText IsText limits files graph keys output =
    (triples : List Triple) × (key_list : List KeyShape) × GraphSays limits (bytes_of files graph) (Ok triples)
    × KeyFileSays limits (bytes_of files keys) (Ok key_list) × IsText triples key_list output

module _ (limits : Limits) (files : NamedFiles) (output more : List ℕ) where
  one_text : (IsText : List Triple → List KeyShape → List ℕ → Type 0) → ((triples : List Triple) (keys : List KeyShape) (first second : List ℕ) → IsText triples keys first → IsText triples keys second → first ≡ second) →
      (graph keys : List ℕ) → HasText IsText limits files graph keys output → HasText IsText limits files graph keys more → output ≡ more
  one_text IsText one graph keys h k =
      let ts = same_triples limits (bytes_of files graph) h.0 k.0 h.2 k.2 in
      let ks = same_keys limits (bytes_of files keys) h.1 k.1 h.3 k.3 in
      one k.0 k.1 output more (subst (λ l. IsText k.0 l output) ks (subst (λ l. IsText l h.1 output) ts h.4)) k.4

  one_growth : (graph added keys : List ℕ) → Answers limits files (Growing graph added keys) Given output → Answers limits files (Growing graph added keys) Given more → output ≡ more
  one_growth graph added keys h k =
      let ts = same_triples limits (bytes_of files graph) h.0 k.0 h.3 k.3 in
      let says = subst (λ l. GraphSays (left_by limits l) (bytes_of files added) (Ok h.1)) ts h.4 in
      let ms = same_triples (left_by limits k.0) (bytes_of files added) h.1 k.1 says k.4 in
      let ks = same_keys limits (bytes_of files keys) h.2 k.2 h.5 k.5 in
      let both : h.0 ++ h.1 ≡ k.0 ++ k.1 = λ i. ts i ++ ms i in
      one_report (k.0 ++ k.1) k.2 output more (subst (λ l. IsReport (k.0 ++ k.1) l output) ks (subst (λ l. IsReport l h.2 output) both h.6)) k.6

  one_conversion : (proof : List ℕ) → Answers limits files (Converting proof) Given output → Answers limits files (Converting proof) Given more → output ≡ more
  one_conversion proof h k = h.2 ∙ ap proof_text (same_steps limits (bytes_of files proof) h.0 k.0 h.1 k.1) ∙ sym k.2

  -- the verdict is one, since the three files say one thing
  one_check : (answer other : Answer) (graph keys proof : List ℕ) → Answers limits files (Checking graph keys proof) answer output → Answers limits files (Checking graph keys proof) other more →
      (answer ≡ other) × (output ≡ more)
  one_check answer other graph keys proof h k =
      let ts = same_triples limits (bytes_of files graph) h.0 k.0 h.3 k.3 in
      let ks = same_keys limits (bytes_of files keys) h.1 k.1 h.4 k.4 in
      let ps = same_steps limits (bytes_of files proof) h.2 k.2 h.5 k.5 in
      let here : IsChecked k.0 k.1 k.2 answer output = subst (λ l. IsChecked k.0 k.1 l answer output) ps
      (subst (λ l. IsChecked k.0 l h.2 answer output) ks (subst (λ l. IsChecked l h.1 h.2 answer output) ts h.6)) in
      (here.answered ∙ sym k.6.answered, here.written ∙ sym k.6.written)

pub one_output : (command : Wanted) (files : NamedFiles) (limits : Limits) (answer other : Answer) (output more : List ℕ) → HasOneOutput command →
    Answers limits files command answer output → Answers limits files command other more → (answer ≡ other) × (output ≡ more)
one_output (Matching graph keys) files limits Given Given output more o h k = (refl, one_text limits files output more IsReport one_report graph keys h k)
one_output (Matching graph keys) files limits Given other output more o h k = absurd k
one_output (Matching graph keys) files limits answer other output more o h k = absurd h
one_output (Proving graph keys) files limits answer other output more o h k = absurd o
one_output (Checking graph keys proof) files limits answer other output more o h k = one_check limits files output more answer other graph keys proof h k
one_output (Converting proof) files limits Given Given output more o h k = (refl, one_conversion limits files output more proof h k)
one_output (Converting proof) files limits Given other output more o h k = absurd k
one_output (Converting proof) files limits answer other output more o h k = absurd h
one_output (Demonstrating n) files limits Given Given output more o h k = (refl, one_text limits files output more IsDemoText one_demo demo_graph_name demo_keys_name h k)
one_output (Demonstrating n) files limits Given other output more o h k = absurd k
one_output (Demonstrating n) files limits answer other output more o h k = absurd h
one_output (Merging graph keys) files limits Given Given output more o h k = (refl, one_text limits files output more IsMergedOutput one_merged graph keys h k)
one_output (Merging graph keys) files limits Given other output more o h k = absurd k
one_output (Merging graph keys) files limits answer other output more o h k = absurd h
one_output (Explaining graph keys first second) files limits answer other output more o h k = absurd o
one_output (Growing graph added keys) files limits Given Given output more o h k = (refl, one_growth limits files output more graph added keys h k)
one_output (Growing graph added keys) files limits Given other output more o h k = absurd k
one_output (Growing graph added keys) files limits answer other output more o h k = absurd h
one_output Helping files limits Given Given output more o h k = (refl, h ∙ sym k)
one_output Helping files limits Given other output more o h k = absurd k
one_output Helping files limits answer other output more o h k = absurd h
one_output TellingVersion files limits Given Given output more o h k = (refl, h ∙ sym k)
one_output TellingVersion files limits Given other output more o h k = absurd k
one_output TellingVersion files limits answer other output more o h k = absurd h

-- ---- one answer, also where there may be several proofs

-- two entities are the same or are not
reason_or_apart : (limits : Limits) (files : NamedFiles) (graph keys first second output more : List ℕ) → Answers limits files (Explaining graph keys first second) Given output →
    Answers limits files (Explaining graph keys first second) NotTheSame more → ⊥
reason_or_apart limits files graph keys first second output more h k =
    let ts = same_triples limits (bytes_of files graph) h.0 k.0 h.2 k.2 in
    let ks = same_keys limits (bytes_of files keys) h.1 k.1 h.3 k.3 in
    let reason : IsReason k.0 k.1 first second output = subst (λ l. IsReason k.0 l first second output) ks (subst (λ l. IsReason l h.1 first second output) ts h.4) in
    let apart = k.4 in
    let one = one_term first reason.one apart.one reason.first_spells.spells apart.first_spells.spells in
    let two = one_term second reason.other apart.other reason.second_spells.spells apart.second_spells.spells in
    apart.apart (subst (λ t. AreSameTerms k.0 k.1 t apart.other) one (subst (λ t. AreSameTerms k.0 k.1 reason.one t) two reason.same))

pub one_answer : (command : Wanted) (files : NamedFiles) (limits : Limits) (answer other : Answer) (output more : List ℕ) →
    Answers limits files command answer output → Answers limits files command other more → answer ≡ other
one_answer (Proving graph keys) files limits Given Given output more h k = refl
one_answer (Proving graph keys) files limits Given other output more h k = absurd k
one_answer (Proving graph keys) files limits answer other output more h k = absurd h
one_answer (Explaining graph keys first second) files limits Given Given output more h k = refl
one_answer (Explaining graph keys first second) files limits Given NotTheSame output more h k = absurd (reason_or_apart limits files graph keys first second output more h k)
one_answer (Explaining graph keys first second) files limits NotTheSame Given output more h k = absurd (reason_or_apart limits files graph keys first second more output k h)
one_answer (Explaining graph keys first second) files limits NotTheSame NotTheSame output more h k = refl
one_answer (Explaining graph keys first second) files limits NotAccepted other output more h k = absurd h
one_answer (Explaining graph keys first second) files limits answer NotAccepted output more h k = absurd k
one_answer (Matching graph keys) files limits answer other output more h k = (one_output (Matching graph keys) files limits answer other output more tt h k).0
one_answer (Checking graph keys proof) files limits answer other output more h k = (one_output (Checking graph keys proof) files limits answer other output more tt h k).0
one_answer (Converting proof) files limits answer other output more h k = (one_output (Converting proof) files limits answer other output more tt h k).0
one_answer (Demonstrating n) files limits answer other output more h k = (one_output (Demonstrating n) files limits answer other output more tt h k).0
one_answer (Merging graph keys) files limits answer other output more h k = (one_output (Merging graph keys) files limits answer other output more tt h k).0
one_answer (Growing graph added keys) files limits answer other output more h k = (one_output (Growing graph added keys) files limits answer other output more tt h k).0
one_answer Helping files limits answer other output more h k = (one_output Helping files limits answer other output more tt h k).0
one_answer TellingVersion files limits answer other output more h k = (one_output TellingVersion files limits answer other output more tt h k).0
