-- How a run ends, from what was read.
use Rattle.std.proofs.Common.{List, [], ◌∷◌, ◌++◌, ℕ, true, All, map, Some, Result, Ok, Err, IfSome, IsSomeAnd, MatchResult, Vec, Global, vec_items, ◌≡◌, ◌∙◌, inl, inr, refl, sym, subst}
use Rattle.gk_base.specs.declared.limits.Limits.{Limits}
use Rattle.gk_base.specs.declared.read_fault.ReadRefusal.{ReadRefusal}
use Rattle.gk_base.specs.declared.stop.Stop.{Stop}
use Rattle.gk_base.specs.declared.stop.Stop.TheVariants as stop
use Rattle.gk_base.specs.declared.term.Triple.{Triple}
use Rattle.gk_io.specs.Cause.{Rose}
use Rattle.gk_io.specs.Files.{bytes_of}
use Rattle.gk_io.specs.declared.file_fault.FileFault.{FileFault}
use Rattle.gk_io.specs.declared.file_fault.FileFault.TheVariants as fault
use Rattle.gk_io.specs.declared.shelf.Shelf
use Rattle.nt_reader.proofs.CallerLemmas.{file_once}
use Rattle.key_file.specs.KeyShape.{KeyShape}
use Rattle.key_file.specs.Name.{is_name}
use Rattle.key_file.specs.Numbered.{names_for}
use Rattle.key_lang.specs.KeyText.{KeysSay}
use Rattle.key_lang.proofs.CallerLemmas.{keys_once}
use Rattle.term_text.specs.ReadBack.{CanBeSpelled}
use Rattle.proof_file.specs.Steps.{StepShape}
use Rattle.proof_file.specs.CanonicalProof.{proof_text}
use Rattle.proof_file.specs.ProofText.{ProofSays}
use Rattle.graph_rows.specs.GraphFile.{StopsSoon, StopsAtGraph}
use Rattle.graph_rows.proofs.CallerLemmas.{told, told_more, told_both}
use Rattle.gkey_cmd.specs.Commands.{Wanted, Matching, Proving, Checking, Converting, Demonstrating, Merging, Explaining, demo_graph_name, demo_keys_name, files_of}
use Rattle.gkey_cmd.specs.Reading.{NamedFiles, GraphSays, KeyFileSays, ProofFileSays, left_by, IsAcceptedLeaving, IsRefusedSo, AllAccepted, FirstRefused}
use Rattle.gkey_cmd.specs.HowFar.{IsReadWithin, FileLeft, KeysLeft, ProofLeft, ChaseStops, LeavesFiles, StopsReading}
use Rattle.gkey_cmd.specs.Failing.{HasFailed}
use Rattle.gkey_cmd.specs.Match.{IsReport, HasTooManyPairs}
use Rattle.gkey_cmd.specs.Check.{IsChecked}
use Rattle.gkey_cmd.specs.Entities.{NamesOne}
use Rattle.gkey_cmd.specs.Written.{ChaseHasMorePairs, IsAnswered, IsRefused}
use Rattle.gkey_cmd.specs.ChaseEnds.{ChaseEnds, IsProofOfFiles, IsMergedOfFiles, IsWhyOfFiles, NameTwo, WhyEnds}
use Rattle.gkey_cmd.proofs.Spelled.{names_good, names_spelled}
use Rattle.gkey_cmd.proofs.OfFiles.{triples_of_file}
use Rattle.gkey_cmd.specs.Demo.{demo_files, IsDemoText}
use Rattle.gkey_cmd.specs.Endings.{graph_ending, Stopped, DemoStops, IsBeforeChase, StopsAt, EndsAt, AllAcceptedLeaving, ReadSoFar}
use Rattle.gkey_cmd.specs.declared.file.File.{File}
use Rattle.gkey_cmd.specs.declared.file.File.TheVariants.{Graph, More, Keys, Proof}
use Rattle.gkey_cmd.specs.declared.ending.Answer.{Answer}
use Rattle.gkey_cmd.specs.declared.ending.Answer.TheVariants.{Given, NotAccepted, NotTheSame}
use Rattle.gkey_cmd.specs.declared.ending.Asked.TheVariants.{First, Second}
use Rattle.gkey_cmd.specs.declared.ending.Refusal.{Refusal}
use Rattle.gkey_cmd.specs.declared.ending.Refusal.TheVariants.{InGraph, InMore, InKeys, InProof, NoSuchEntity, MorePairsThan}
use Rattle.gkey_cmd.specs.declared.ending.Ending.{Ending}
use Rattle.gkey_cmd.specs.declared.ending.Ending.TheVariants.{NoCommand, Failed, Refused, NoMemory, Done}

-- a graph is not to be had, and the run ends at it
pub graph_ends : {K : Type 0} (shelf : Shelf.Ghosts K) (before after : K) (limits : Limits) (name : List ℕ) (stop : Stop (FileFault ReadRefusal)) →
    StopsAtGraph shelf before after limits name stop → EndsAt shelf before after limits Graph name (graph_ending stop)
graph_ends shelf before after limits name stop.NoMemory h = h
graph_ends shelf before after limits name (stop.Fault fault.Failed) h = (refl, h)
graph_ends shelf before after limits name (stop.Fault (fault.Refused refusal)) h = (h.0, h.1, h.2)

-- after accepted files the first refused one is that of the others, under the limits that are left
refused_after : (limits left : Limits) (files : NamedFiles) (before others : List (File × List ℕ)) (refusal : Refusal) →
    AllAcceptedLeaving limits files before left → FirstRefused left files others refusal → FirstRefused limits files (before ++ others) refusal
refused_after limits left files [] others refusal h r = subst (λ l. FirstRefused l files others refusal) h r
refused_after limits left files (file ∷ before) others refusal h r = inr (h.0, h.1, refused_after h.0 left files before others refusal h.2 r)

-- one more accepted file
accepted_more : (limits left next : Limits) (files : NamedFiles) (before : List (File × List ℕ)) (file : File) (name : List ℕ) →
    AllAcceptedLeaving limits files before left → IsAcceptedLeaving left files file name next → AllAcceptedLeaving limits files (before ++ (file, name) ∷ []) next
accepted_more limits left next files [] file name h k = (next, subst (λ l. IsAcceptedLeaving l files file name next) h k, refl)
accepted_more limits left next files (first ∷ before) file name h k = (h.0, h.1, accepted_more h.0 left next files before file name h.2 k)

-- they are accepted, whatever they leave
all_accepted : (limits left : Limits) (files : NamedFiles) (list : List (File × List ℕ)) → AllAcceptedLeaving limits files list left → AllAccepted limits files list
all_accepted limits left files [] h = tt
all_accepted limits left files (file ∷ others) h = (h.0, h.1, all_accepted h.0 left files others h.2)

-- nothing was read yet
pub read_none : {K : Type 0} (shelf : Shelf.Ghosts K) (old : K) (limits : Limits) → ReadSoFar shelf old old limits [] limits
read_none shelf old limits = record { count = refl; held = refl; accepted = told (shelf.held old) _ (λ files. refl) }

-- a key file and a proof file are judged under their limits of bytes alone
pub keys_judged : (under left : Limits) → under.key_bytes ≡ left.key_bytes → (name : List ℕ) (files : NamedFiles) (refusal : Refusal) →
    IsRefusedSo under files Keys name refusal → IsRefusedSo left files Keys name refusal
keys_judged under left e name files (InGraph refusal) h = h
keys_judged under left e name files (InMore refusal) h = h
keys_judged under left e name files (InKeys refusal) h = subst (λ n. KeysSay n (bytes_of files name) (Err refusal)) e h
keys_judged under left e name files (InProof refusal) h = h
keys_judged under left e name files (NoSuchEntity asked) h = h
keys_judged under left e name files (MorePairsThan limit) h = h

pub proof_judged : (under left : Limits) → under.bytes ≡ left.bytes → (name : List ℕ) (files : NamedFiles) (refusal : Refusal) →
    IsRefusedSo under files Proof name refusal → IsRefusedSo left files Proof name refusal
proof_judged under left e name files (InGraph refusal) h = h
proof_judged under left e name files (InMore refusal) h = h
proof_judged under left e name files (InKeys refusal) h = h
proof_judged under left e name files (InProof refusal) h = subst (λ n. ProofSays n (bytes_of files name) (Err refusal)) e h
proof_judged under left e name files (NoSuchEntity asked) h = h
proof_judged under left e name files (MorePairsThan limit) h = h

module _ {K : Type 0} (shelf : Shelf.Ghosts K) (old mid new : K) (limits left : Limits) (before : List (File × List ℕ)) (file : File) (name : List ℕ) (so_far : ReadSoFar shelf old mid limits before left) where
  -- what is told of the files now was told at first
  pub told_first : (P : NamedFiles → Type 0) → IfSome (shelf.held mid) P → IfSome (shelf.held old) P
  told_first P h = subst (λ o. IfSome o P) so_far.held h

  -- the next file was read and is accepted
  pub read_next : (next : Limits) → IfSome (shelf.held mid) (λ files. IsAcceptedLeaving left files file name next) → shelf.faults new ≡ shelf.faults mid →
      shelf.held new ≡ shelf.held mid → ReadSoFar shelf old new limits (before ++ (file, name) ∷ []) next
  read_next next accepted count same = record {
    count = count ∙ so_far.count;
    held = same ∙ so_far.held;
    accepted = told_both (shelf.held old) (λ files. AllAcceptedLeaving limits files before left) (λ files. IsAcceptedLeaving left files file name next) _
        (λ files a e. accepted_more limits left next files before file name a e) so_far.accepted (told_first _ accepted);
  }

  pub file_left_first : (limit : ℕ) → FileLeft shelf mid new limit name → FileLeft shelf old new limit name
  file_left_first limit h = (h.0, told_first (λ files. IsSomeAnd (shelf.rest new) (λ rest. IsReadWithin limit (bytes_of files name) rest)) h.1)

  -- how far it was read, said of the files as they were told at first
  stops_first : (under : Limits) (f : File) (refusal : Refusal) → StopsAt shelf mid new under f name refusal → StopsAt shelf old new under f name refusal
  stops_first under Graph (InGraph refusal) h = (h.0, told_first (λ files. IsSomeAnd (shelf.rest new) (λ rest. StopsSoon under (bytes_of files name) rest)) h.1)
  stops_first under Graph (InMore refusal) h = h
  stops_first under Graph (InKeys refusal) h = h
  stops_first under Graph (InProof refusal) h = h
  stops_first under Graph (NoSuchEntity asked) h = h
  stops_first under Graph (MorePairsThan limit) h = h
  stops_first under More (InGraph refusal) h = h
  stops_first under More (InMore refusal) h = (h.0, told_first (λ files. IsSomeAnd (shelf.rest new) (λ rest. StopsSoon under (bytes_of files name) rest)) h.1)
  stops_first under More (InKeys refusal) h = h
  stops_first under More (InProof refusal) h = h
  stops_first under More (NoSuchEntity asked) h = h
  stops_first under More (MorePairsThan limit) h = h
  stops_first under Keys (InGraph refusal) h = h
  stops_first under Keys (InMore refusal) h = h
  stops_first under Keys (InKeys refusal) h = file_left_first under.key_bytes h
  stops_first under Keys (InProof refusal) h = h
  stops_first under Keys (NoSuchEntity asked) h = h
  stops_first under Keys (MorePairsThan limit) h = h
  stops_first under Proof (InGraph refusal) h = h
  stops_first under Proof (InMore refusal) h = h
  stops_first under Proof (InKeys refusal) h = h
  stops_first under Proof (InProof refusal) h = file_left_first under.bytes h
  stops_first under Proof (NoSuchEntity asked) h = h
  stops_first under Proof (MorePairsThan limit) h = h

  -- the next file is not to be had: it was judged under some limits, as under those that are left
  pub stopped : (under : Limits) → ((files : NamedFiles) (refusal : Refusal) → IsRefusedSo under files file name refusal → IsRefusedSo left files file name refusal) →
      (command : Wanted) (after : List (File × List ℕ)) → files_of command ≡ before ++ (file, name) ∷ after →
      ((refusal : Refusal) → StopsAt shelf old new under file name refusal → StopsReading shelf old new (Some command) limits refusal) →
      (ending : Ending) → EndsAt shelf mid new under file name ending → Stopped shelf old new command limits ending
  stopped under judged command after e stops NoCommand h = absurd h
  stopped under judged command after e stops (Failed which) h =
      let P : File → Type 0 = λ f. HasFailed shelf old new command limits f in
      subst P (sym h.0) (record {
        before = before;
        name = name;
        after = after;
        stands = e;
        rose = subst (λ n. Rose n (shelf.faults new)) so_far.count h.1.rose;
        asked_for = h.1.asked_for;
        is_bad = h.1.is_bad;
        accepted = told_more (shelf.held old) (λ files. AllAcceptedLeaving limits files before left) (λ files. AllAccepted limits files before)
            (λ files a. all_accepted limits left files before a) so_far.accepted;
      })
  stopped under judged command after e stops (Refused refusal) h = (
    h.0 ∙ so_far.count,
    told_both (shelf.held old) (λ files. AllAcceptedLeaving limits files before left) (λ files. IsRefusedSo under files file name refusal) _
        (λ files a k. inl (subst (λ fs. FirstRefused limits files fs refusal) (sym e)
        (refused_after limits left files before ((file, name) ∷ after) refusal a (inl (judged files refusal k)))))
        so_far.accepted (told_first _ h.1),
    stops refusal (stops_first under file refusal h.2),
  )
  stopped under judged command after e stops NoMemory h = h ∙ so_far.count
  stopped under judged command after e stops (Done answer text) h = absurd h

-- the graph was read first, and is accepted
pub graph_read : {K : Type 0} (shelf : Shelf.Ghosts K) (old new : K) (limits : Limits) (name : List ℕ) (triples : List Triple) →
    IfSome (shelf.held old) (λ files. GraphSays limits (bytes_of files name) (Ok triples)) → shelf.faults new ≡ shelf.faults old → shelf.held new ≡ shelf.held old →
    ReadSoFar shelf old new limits ((Graph, name) ∷ []) (left_by limits triples)
graph_read shelf old new limits name triples says count same =
    read_next shelf old old new limits limits [] Graph name (read_none shelf old limits) (left_by limits triples)
    (told_more (shelf.held old) (λ files. GraphSays limits (bytes_of files name) (Ok triples)) (λ files. IsAcceptedLeaving limits files Graph name (left_by limits triples))
    (λ files h. (triples, h, refl)) says) count same

-- ---- how far a refused command read

module _ {K : Type 0} (shelf : Shelf.Ghosts K) (old new : K) (limits : Limits) (graph keys proof : List ℕ) where
  -- a chase that is refused at its graph, and one that is refused at its keys
  pub stops_at_graph : (refusal : Refusal) → StopsAt shelf old new limits Graph graph refusal → ChaseStops shelf old new graph keys limits refusal
  stops_at_graph (InGraph refusal) h = h
  stops_at_graph (InMore refusal) h = absurd h
  stops_at_graph (InKeys refusal) h = absurd h
  stops_at_graph (InProof refusal) h = absurd h
  stops_at_graph (NoSuchEntity asked) h = absurd h
  stops_at_graph (MorePairsThan limit) h = absurd h

  pub stops_at_keys : (refusal : Refusal) → StopsAt shelf old new limits Keys keys refusal → ChaseStops shelf old new graph keys limits refusal
  stops_at_keys (InGraph refusal) h = absurd h
  stops_at_keys (InMore refusal) h = absurd h
  stops_at_keys (InKeys refusal) h = h
  stops_at_keys (InProof refusal) h = absurd h
  stops_at_keys (NoSuchEntity asked) h = absurd h
  stops_at_keys (MorePairsThan limit) h = absurd h

  -- a check that is refused at each of its files
  pub check_stops_at_graph : (refusal : Refusal) → StopsAt shelf old new limits Graph graph refusal → StopsReading shelf old new (Some (Checking graph keys proof)) limits refusal
  check_stops_at_graph (InGraph refusal) h = h
  check_stops_at_graph (InMore refusal) h = absurd h
  check_stops_at_graph (InKeys refusal) h = absurd h
  check_stops_at_graph (InProof refusal) h = absurd h
  check_stops_at_graph (NoSuchEntity asked) h = absurd h
  check_stops_at_graph (MorePairsThan limit) h = absurd h

  pub check_stops_at_keys : (refusal : Refusal) → StopsAt shelf old new limits Keys keys refusal → StopsReading shelf old new (Some (Checking graph keys proof)) limits refusal
  check_stops_at_keys (InGraph refusal) h = absurd h
  check_stops_at_keys (InMore refusal) h = absurd h
  check_stops_at_keys (InKeys refusal) h = h
  check_stops_at_keys (InProof refusal) h = absurd h
  check_stops_at_keys (NoSuchEntity asked) h = absurd h
  check_stops_at_keys (MorePairsThan limit) h = absurd h

  pub check_stops_at_proof : (refusal : Refusal) → StopsAt shelf old new limits Proof proof refusal → StopsReading shelf old new (Some (Checking graph keys proof)) limits refusal
  check_stops_at_proof (InGraph refusal) h = absurd h
  check_stops_at_proof (InMore refusal) h = absurd h
  check_stops_at_proof (InKeys refusal) h = absurd h
  check_stops_at_proof (InProof refusal) h = h
  check_stops_at_proof (NoSuchEntity asked) h = absurd h
  check_stops_at_proof (MorePairsThan limit) h = absurd h

  -- a proof file that is not converted
  pub convert_stops : (refusal : Refusal) → StopsAt shelf old new limits Proof proof refusal → StopsReading shelf old new (Some (Converting proof)) limits refusal
  convert_stops (InGraph refusal) h = absurd h
  convert_stops (InMore refusal) h = absurd h
  convert_stops (InKeys refusal) h = absurd h
  convert_stops (InProof refusal) h = h
  convert_stops (NoSuchEntity asked) h = absurd h
  convert_stops (MorePairsThan limit) h = absurd h

-- ---- a chase

module _ (limits : Limits) (files : NamedFiles) (graph keys : List ℕ) (triples : List Triple) (key_list : List KeyShape) (in_graph : GraphSays limits (bytes_of files graph) (Ok triples)) (in_keys : KeyFileSays limits (bytes_of files keys) (Ok key_list)) where
  both_accepted : AllAccepted limits files ((Graph, graph) ∷ (Keys, keys) ∷ [])
  both_accepted = (left_by limits triples, (triples, in_graph, refl), (left_by limits triples, (key_list, in_keys, refl), tt))

  -- the names can be spelled, and the keys have names
  spelled : All CanBeSpelled (names_for triples key_list)
  spelled = names_spelled limits limits.key_bytes (bytes_of files graph) (bytes_of files keys) triples key_list in_graph in_keys

  good : All (λ name. is_name name ≡ true) (map (λ (k : KeyShape). k.name) key_list)
  good = names_good limits.key_bytes (bytes_of files keys) key_list in_keys

  more_here : HasTooManyPairs triples key_list limits.pairs → ChaseHasMorePairs limits files graph keys
  more_here h = (triples, key_list, in_graph, in_keys, h)

  more_only_here : ChaseHasMorePairs limits files graph keys → HasTooManyPairs triples key_list limits.pairs
  more_only_here h =
      let g = h.2 in
      let k = h.3 in
      let one : Ok h.0 ≡ Ok triples = file_once limits (bytes_of files graph) (Ok h.0) (Ok triples) g in_graph in
      let same_triples : h.0 ≡ triples = cc in
      let two : Ok h.1 ≡ Ok key_list = keys_once limits.key_bytes (bytes_of files keys) (Ok h.1) (Ok key_list) k in_keys in
      let same_key : h.1 ≡ key_list = cc in
      subst (λ ts. HasTooManyPairs ts key_list limits.pairs) same_triples (subst (λ q. HasTooManyPairs h.0 q limits.pairs) same_key h.4)

  match_answered : (text : List ℕ) → IsReport triples key_list text → ¬ (HasTooManyPairs triples key_list limits.pairs) → IsAnswered (Some (Matching graph keys)) files limits Given text
  match_answered text report none_more = ((both_accepted, tt, (λ h. none_more (more_only_here h))), (triples, key_list, in_graph, in_keys, report))

  prove_answered : (text : List ℕ) → IsProofOfFiles triples key_list text → ¬ (HasTooManyPairs triples key_list limits.pairs) → IsAnswered (Some (Proving graph keys)) files limits Given text
  prove_answered text proof none_more = ((both_accepted, tt, (λ h. none_more (more_only_here h))), (triples, key_list, in_graph, in_keys, proof spelled good))

  merge_answered : (text : List ℕ) → IsMergedOfFiles triples key_list text → ¬ (HasTooManyPairs triples key_list limits.pairs) → IsAnswered (Some (Merging graph keys)) files limits Given text
  merge_answered text merged none_more = (
    (both_accepted, tt, (λ h. none_more (more_only_here h))),
    (triples, key_list, in_graph, in_keys, merged spelled (triples_of_file limits (bytes_of files graph) triples in_graph)),
  )

  why_answered : (first second : List ℕ) (answer : Answer) (text : List ℕ) → NameTwo triples first second → ¬ (HasTooManyPairs triples key_list limits.pairs) →
      IsWhyOfFiles triples key_list first second answer text → IsAnswered (Some (Explaining graph keys first second)) files limits answer text
  why_answered first second Given text named none_more h = (
    (both_accepted, (triples, in_graph, named.0, named.1), (λ m. none_more (more_only_here m))),
    (triples, key_list, in_graph, in_keys, h spelled good),
  )
  why_answered first second NotAccepted text named none_more h = absurd h
  why_answered first second NotTheSame text named none_more h = (
    (both_accepted, (triples, in_graph, named.0, named.1), (λ m. none_more (more_only_here m))),
    (triples, key_list, in_graph, in_keys, h.0, h.1),
  )

  match_refused : HasTooManyPairs triples key_list limits.pairs → IsRefused (Some (Matching graph keys)) files limits (MorePairsThan limits.pairs)
  match_refused h = inr (both_accepted, (tt, more_here h, refl))

  prove_refused : HasTooManyPairs triples key_list limits.pairs → IsRefused (Some (Proving graph keys)) files limits (MorePairsThan limits.pairs)
  prove_refused h = inr (both_accepted, (tt, more_here h, refl))

  merge_refused : HasTooManyPairs triples key_list limits.pairs → IsRefused (Some (Merging graph keys)) files limits (MorePairsThan limits.pairs)
  merge_refused h = inr (both_accepted, (tt, more_here h, refl))

  -- `why` is refused for a word that names no entity, or for too many pairs
  first_refused : (first second : List ℕ) → ¬ (NamesOne triples first) → IsRefused (Some (Explaining graph keys first second)) files limits (NoSuchEntity First)
  first_refused first second none = inr (both_accepted, (triples, in_graph, none))

  second_refused : (first second : List ℕ) → NamesOne triples first → ¬ (NamesOne triples second) → IsRefused (Some (Explaining graph keys first second)) files limits (NoSuchEntity Second)
  second_refused first second one none = inr (both_accepted, (triples, in_graph, one, none))

  why_refused : (first second : List ℕ) (most : ℕ) → NameTwo triples first second → HasTooManyPairs triples key_list limits.pairs → most ≡ limits.pairs →
      IsRefused (Some (Explaining graph keys first second)) files limits (MorePairsThan most)
  why_refused first second most named h e = inr (both_accepted, ((triples, in_graph, named.0, named.1), more_here h, e))

-- a demo whose texts are read
module _ (n : ℕ) (limits : Limits) (triples : List Triple) (key_list : List KeyShape) (in_graph : GraphSays limits (bytes_of (demo_files n) demo_graph_name) (Ok triples)) (in_keys : KeyFileSays limits (bytes_of (demo_files n) demo_keys_name) (Ok key_list)) where
  pub demo_ended : (result : Result (Vec ℕ Global) Ending) → ChaseEnds IsDemoText triples key_list limits.pairs result →
      MatchResult result (λ text. DemoStops n limits (Done Given text)) (DemoStops n limits)
  demo_ended (Ok text) h = (
    (
      both_accepted limits (demo_files n) demo_graph_name demo_keys_name triples key_list in_graph in_keys,
      tt,
      (λ more. h.1 (more_only_here limits (demo_files n) demo_graph_name demo_keys_name triples key_list in_graph in_keys more)),
    ),
    (triples, key_list, in_graph, in_keys, h.0),
  )
  demo_ended (Err (Refused refusal)) h = subst (λ r. IsRefused (Some (Demonstrating n)) (demo_files n) limits r) (sym h.0)
      (inr (
        both_accepted limits (demo_files n) demo_graph_name demo_keys_name triples key_list in_graph in_keys,
        (tt, more_here limits (demo_files n) demo_graph_name demo_keys_name triples key_list in_graph in_keys h.1, refl),
      ))
  demo_ended (Err NoMemory) h = tt
  demo_ended (Err NoCommand) h = absurd h
  demo_ended (Err (Failed file)) h = absurd h
  demo_ended (Err (Done answer text)) h = absurd h

module _ {K : Type 0} (shelf : Shelf.Ghosts K) (old new : K) (limits : Limits) (graph keys : List ℕ) (triples : List Triple) (key_list : List KeyShape) (count : shelf.faults new ≡ shelf.faults old)
    (in_graph : IfSome (shelf.held old) (λ files. GraphSays limits (bytes_of files graph) (Ok triples))) (in_keys : IfSome (shelf.held old) (λ files. KeyFileSays limits (bytes_of files keys) (Ok key_list))) where
  -- a command with a chase that ends so leaves the run so
  module _ (command : Wanted) (IsText : List Triple → List KeyShape → List ℕ → Type 0) (left : LeavesFiles shelf old new command limits) (stops : StopsReading shelf old new (Some command) limits (MorePairsThan limits.pairs))
      (answered : (files : NamedFiles) → GraphSays limits (bytes_of files graph) (Ok triples) → KeyFileSays limits (bytes_of files keys) (Ok key_list) → (text : List ℕ) → IsText triples key_list text → ¬ (HasTooManyPairs triples key_list limits.pairs) → IsAnswered (Some command) files limits Given text)
      (refused : (files : NamedFiles) → GraphSays limits (bytes_of files graph) (Ok triples) → KeyFileSays limits (bytes_of files keys) (Ok key_list) → HasTooManyPairs triples key_list limits.pairs → IsRefused (Some command) files limits (MorePairsThan limits.pairs)) where
    chase_ended : (result : Result (Vec ℕ Global) Ending) → ChaseEnds IsText triples key_list limits.pairs result →
        MatchResult result (λ text. Stopped shelf old new command limits (Done Given text)) (Stopped shelf old new command limits)
    chase_ended (Ok text) h = (
      count,
      told_both (shelf.held old) _ _ (λ files. IsAnswered (Some command) files limits Given (vec_items text))
          (λ files g k. answered files g k (vec_items text) h.0 h.1) in_graph in_keys,
      left,
    )
    chase_ended (Err (Refused refusal)) h = (
      count,
      subst (λ r. IfSome (shelf.held old) (λ files. IsRefused (Some command) files limits r)) (sym h.0)
          (told_both (shelf.held old) _ _ (λ files. IsRefused (Some command) files limits (MorePairsThan limits.pairs))
          (λ files g k. refused files g k h.1) in_graph in_keys),
      subst (λ r. StopsReading shelf old new (Some command) limits r) (sym h.0) stops,
    )
    chase_ended (Err NoMemory) h = count
    chase_ended (Err NoCommand) h = absurd h
    chase_ended (Err (Failed file)) h = absurd h
    chase_ended (Err (Done answer text)) h = absurd h

  pub match_ended : KeysLeft shelf old new limits keys → (result : Result (Vec ℕ Global) Ending) → ChaseEnds IsReport triples key_list limits.pairs result →
      MatchResult result (λ text. Stopped shelf old new (Matching graph keys) limits (Done Given text)) (Stopped shelf old new (Matching graph keys) limits)
  match_ended left = chase_ended (Matching graph keys) IsReport left left (λ files g k. match_answered limits files graph keys triples key_list g k) (λ files g k. match_refused limits files graph keys triples key_list g k)

  pub prove_ended : KeysLeft shelf old new limits keys → (result : Result (Vec ℕ Global) Ending) → ChaseEnds IsProofOfFiles triples key_list limits.pairs result →
      MatchResult result (λ text. Stopped shelf old new (Proving graph keys) limits (Done Given text)) (Stopped shelf old new (Proving graph keys) limits)
  prove_ended left = chase_ended (Proving graph keys) IsProofOfFiles left left (λ files g k. prove_answered limits files graph keys triples key_list g k) (λ files g k. prove_refused limits files graph keys triples key_list g k)

  pub merge_ended : KeysLeft shelf old new limits keys → (result : Result (Vec ℕ Global) Ending) → ChaseEnds IsMergedOfFiles triples key_list limits.pairs result →
      MatchResult result (λ text. Stopped shelf old new (Merging graph keys) limits (Done Given text)) (Stopped shelf old new (Merging graph keys) limits)
  merge_ended left = chase_ended (Merging graph keys) IsMergedOfFiles left left (λ files g k. merge_answered limits files graph keys triples key_list g k) (λ files g k. merge_refused limits files graph keys triples key_list g k)

  -- `why` is refused so where its files are read
  why_stopped : KeysLeft shelf old new limits keys → (first second : List ℕ) (refusal : Refusal) → ChaseStops shelf old new graph keys limits refusal →
      ((files : NamedFiles) → GraphSays limits (bytes_of files graph) (Ok triples) → KeyFileSays limits (bytes_of files keys) (Ok key_list) → IsRefused (Some (Explaining graph keys first second)) files limits refusal) →
      Stopped shelf old new (Explaining graph keys first second) limits (Refused refusal)
  why_stopped left first second refusal stops refused =
      (count, told_both (shelf.held old) _ _ (λ files. IsRefused (Some (Explaining graph keys first second)) files limits refusal) refused in_graph in_keys, stops)

  pub explain_ended : KeysLeft shelf old new limits keys → (first second : List ℕ) (result : Result (Answer × Vec ℕ Global) Ending) → WhyEnds triples key_list first second limits.pairs result →
      MatchResult result (λ r. Stopped shelf old new (Explaining graph keys first second) limits (Done r.0 r.1)) (Stopped shelf old new (Explaining graph keys first second) limits)
  explain_ended left first second (Ok r) h = (
    count,
    told_both (shelf.held old) _ _ (λ files. IsAnswered (Some (Explaining graph keys first second)) files limits r.0 (vec_items r.1))
        (λ files g k. why_answered limits files graph keys triples key_list g k first second r.0 (vec_items r.1) h.0 h.1 h.2) in_graph in_keys,
    left,
  )
  explain_ended left first second (Err (Refused (InGraph refusal))) h = absurd h
  explain_ended left first second (Err (Refused (InMore refusal))) h = absurd h
  explain_ended left first second (Err (Refused (InKeys refusal))) h = absurd h
  explain_ended left first second (Err (Refused (InProof refusal))) h = absurd h
  explain_ended left first second (Err (Refused (NoSuchEntity First))) h =
      why_stopped left first second (NoSuchEntity First) left (λ files g k. first_refused limits files graph keys triples key_list g k first second h)
  explain_ended left first second (Err (Refused (NoSuchEntity Second))) h =
      why_stopped left first second (NoSuchEntity Second) left (λ files g k. second_refused limits files graph keys triples key_list g k first second h.0 h.1)
  explain_ended left first second (Err (Refused (MorePairsThan most))) h =
      why_stopped left first second (MorePairsThan most) left (λ files g k. why_refused limits files graph keys triples key_list g k first second most h.0 h.1 h.2)
  explain_ended left first second (Err NoMemory) h = count
  explain_ended left first second (Err NoCommand) h = absurd h
  explain_ended left first second (Err (Failed file)) h = absurd h
  explain_ended left first second (Err (Done answer text)) h = absurd h

  -- ---- a check
  module _ (proof : List ℕ) (steps : List StepShape) (in_proof : IfSome (shelf.held old) (λ files. ProofFileSays limits (bytes_of files proof) (Ok steps))) (left : ProofLeft shelf old new limits proof) where
    pub check_ended : (answer : Answer) (text : Vec ℕ Global) → IsChecked triples key_list steps answer (vec_items text) →
        Stopped shelf old new (Checking graph keys proof) limits (Done answer text)
    check_ended answer text checked = (
      count,
      told_both (shelf.held old) _ _ (λ files. IsAnswered (Some (Checking graph keys proof)) files limits answer (vec_items text))
          (λ files g p. (
            (
              (left_by limits triples, (triples, g, refl), (left_by limits triples, (key_list, p.0, refl), (left_by limits triples, (steps, p.1, refl), tt))),
              tt,
              (λ h. h),
            ),
            (triples, key_list, steps, g, p.0, p.1, checked),
          ))
          in_graph (told_both (shelf.held old) _ _ (λ files. KeyFileSays limits (bytes_of files keys) (Ok key_list) × ProofFileSays limits (bytes_of files proof) (Ok steps)) (λ files k p. (k, p)) in_keys in_proof),
      left,
    )

-- ---- a proof file that is converted

pub convert_ended : {K : Type 0} (shelf : Shelf.Ghosts K) (old new : K) (limits : Limits) (proof : List ℕ) (steps : List StepShape) (text : Vec ℕ Global) → shelf.faults new ≡ shelf.faults old →
    IfSome (shelf.held old) (λ files. ProofFileSays limits (bytes_of files proof) (Ok steps)) → ProofLeft shelf old new limits proof → vec_items text ≡ proof_text steps →
    Stopped shelf old new (Converting proof) limits (Done Given text)
convert_ended shelf old new limits proof steps text count in_proof left t = (
  count,
  told_more (shelf.held old) _ (λ files. IsAnswered (Some (Converting proof)) files limits Given (vec_items text))
      (λ files p. (((limits, (steps, p, refl), tt), tt, (λ h. h)), (steps, p, t))) in_proof,
  left,
)

-- ---- commands whose graph or keys are not to be had

-- an ending at a file comes before a chase
pub before_chase : {K : Type 0} (shelf : Shelf.Ghosts K) (before after : K) (limits : Limits) (file : File) (name : List ℕ) (ending : Ending) →
    EndsAt shelf before after limits file name ending → IsBeforeChase ending
before_chase shelf before after limits file name NoCommand h = tt
before_chase shelf before after limits file name (Failed which) h = tt
before_chase shelf before after limits file name (Refused (InGraph refusal)) h = tt
before_chase shelf before after limits file name (Refused (InMore refusal)) h = tt
before_chase shelf before after limits file name (Refused (InKeys refusal)) h = tt
before_chase shelf before after limits file name (Refused (InProof refusal)) h = tt
before_chase shelf before after limits Graph name (Refused (NoSuchEntity asked)) h = h.2
before_chase shelf before after limits More name (Refused (NoSuchEntity asked)) h = h.2
before_chase shelf before after limits Keys name (Refused (NoSuchEntity asked)) h = h.2
before_chase shelf before after limits Proof name (Refused (NoSuchEntity asked)) h = h.2
before_chase shelf before after limits Graph name (Refused (MorePairsThan limit)) h = h.2
before_chase shelf before after limits More name (Refused (MorePairsThan limit)) h = h.2
before_chase shelf before after limits Keys name (Refused (MorePairsThan limit)) h = h.2
before_chase shelf before after limits Proof name (Refused (MorePairsThan limit)) h = h.2
before_chase shelf before after limits file name NoMemory h = tt
before_chase shelf before after limits file name (Done answer text) h = h

-- A match that is refused before its chase: so is each command with the same files.
refused_alike : (limits : Limits) (files : NamedFiles) (graph keys : List ℕ) (command : Wanted) → files_of command ≡ (Graph, graph) ∷ (Keys, keys) ∷ [] → (refusal : Refusal) → IsBeforeChase (Refused refusal) →
    IsRefused (Some (Matching graph keys)) files limits refusal → IsRefused (Some command) files limits refusal
refused_alike limits files graph keys command e refusal b (inl h) = inl (subst (λ fs. FirstRefused limits files fs refusal) (sym e) h)
refused_alike limits files graph keys command e (InGraph refusal) b (inr h) = absurd h.1
refused_alike limits files graph keys command e (InMore refusal) b (inr h) = absurd h.1
refused_alike limits files graph keys command e (InKeys refusal) b (inr h) = absurd h.1
refused_alike limits files graph keys command e (InProof refusal) b (inr h) = absurd h.1
refused_alike limits files graph keys command e (NoSuchEntity asked) b (inr h) = absurd b
refused_alike limits files graph keys command e (MorePairsThan limit) b (inr h) = absurd b

-- what ends a match before its chase ends each command with the same files that reads them as far
pub ends_alike : {K : Type 0} (shelf : Shelf.Ghosts K) (old new : K) (limits : Limits) (graph keys : List ℕ) (command : Wanted) → files_of command ≡ (Graph, graph) ∷ (Keys, keys) ∷ [] →
    ((refusal : Refusal) → ChaseStops shelf old new graph keys limits refusal → StopsReading shelf old new (Some command) limits refusal) →
    (ending : Ending) → IsBeforeChase ending → Stopped shelf old new (Matching graph keys) limits ending → Stopped shelf old new command limits ending
ends_alike shelf old new limits graph keys command e stops NoCommand b h = absurd h
ends_alike shelf old new limits graph keys command e stops (Failed file) b h = record {
  before = h.before;
  name = h.name;
  after = h.after;
  stands = e ∙ h.stands;
  rose = h.rose;
  asked_for = h.asked_for;
  is_bad = h.is_bad;
  accepted = h.accepted;
}
ends_alike shelf old new limits graph keys command e stops (Refused refusal) b h = (
  h.0,
  told_more (shelf.held old) (λ files. IsRefused (Some (Matching graph keys)) files limits refusal) (λ files. IsRefused (Some command) files limits refusal)
      (λ files r. refused_alike limits files graph keys command e refusal b r) h.1,
  stops refusal h.2,
)
ends_alike shelf old new limits graph keys command e stops NoMemory b h = h
ends_alike shelf old new limits graph keys command e stops (Done answer text) b h = absurd b
