-- A chase that has come to its end has the classes and the journal of a whole chase.
use Rattle.std.proofs.Common.{List, ◌++◌, ℕ, All, Contains, IsTrue, Result, Ok, Err, ◌≡◌, ◌↔◌, sym, subst}
use Rattle.std.specs.Prelude.{IfOk}
use Rattle.std.proofs.lemmas.List.{map-append}
use Rattle.chase_laws.specs.Shape.{Shape}
use Rattle.chase_laws.specs.Graph.{NumberedGraph}
use Rattle.chase_laws.specs.declared.entry.Entry.{Entry}
use Rattle.chase_laws.specs.Joined.{joined, links, Joined}
use Rattle.chase_laws.specs.Chase.{IsStep, IsDerivation, AreSame, IsClosed}
use Rattle.chase_laws.specs.Core.{Task, IsTask, State, IsSound, IsFinished}
use Rattle.chase_core.specs.Setup.{Preparation}
use Rattle.chase_core.specs.Running.{Running, IsRunning, state_in}
use Rattle.match_run.specs.Classes.{AreClasses, IsFinishedJournal, JoinsStepsOf, JoinsAsAll}

-- what the law of the core says of a finished state
abbrev pub Finishes : Type 0
Finishes = (T : Task) → IsTask T → (S : State) → IsSound T S → IsFinished S →
    IsClosed T.graph T.patterns S.journal × ((a b : ℕ) → Joined S.journal a b ↔ AreSame T.graph T.patterns a b)

module _ (finishes : Finishes) (C : Running) (running : IsRunning C) (finished : IsFinished (state_in C)) (setup : Preparation) (kept : C.setup ≡ setup) where
  ends : IsClosed C.setup.task.graph C.setup.task.patterns C.book.journal × ((a b : ℕ) → Joined C.book.journal a b ↔ AreSame C.setup.task.graph C.setup.task.patterns a b)
  ends = finishes C.setup.task running.task (state_in C) running.sound finished

  own_classes : AreClasses C.setup.task.graph C.setup.task.patterns C.book.labels
  own_classes = record {
    count = running.sound.one_label_each;
    same = λ a b la lb. let j = running.sound.labels a b la lb in let k = ends.1 a b in ((λ e. k.0 (j.0 e)), (λ s. j.1 (k.1 s)));
  }

  own_journal : IsFinishedJournal C.setup.task.graph C.setup.task.patterns C.book.journal
  own_journal = record { derivation = running.sound.derivation; lean = running.sound.lean; closed = ends.0 }

  pub classes : (labels : List ℕ) → labels ≡ C.book.labels → AreClasses setup.task.graph setup.task.patterns labels
  classes labels e = subst (λ s. AreClasses s.task.graph s.task.patterns labels) kept
      (subst (λ ls. AreClasses C.setup.task.graph C.setup.task.patterns ls) (sym e) own_classes)

  pub ends_are_pairs : (entries : List Entry) → entries ≡ C.book.journal → All (λ e. Contains setup.task.pairs (e.a, e.b)) entries
  ends_are_pairs entries e = subst (λ s. All (λ x. Contains s.task.pairs (x.a, x.b)) entries) kept
      (subst (λ es. All (λ x. Contains C.setup.task.pairs (x.a, x.b)) es) (sym e) running.sound.ends)

  pub journal : (entries : List Entry) → entries ≡ C.book.journal → IsFinishedJournal setup.task.graph setup.task.patterns entries
  journal entries e = subst (λ s. IsFinishedJournal s.task.graph s.task.patterns entries) kept
      (subst (λ es. IsFinishedJournal C.setup.task.graph C.setup.task.patterns es) (sym e) own_journal)

-- ---- what the laws of steps say of a journal

-- what they say of steps, of what pairs join, and of closed derivations
abbrev pub StepGrows : Type 0
StepGrows = (G : NumberedGraph) (K : List Shape) (H J : List Entry) (e : Entry) → IsStep G K H e → ((a b : ℕ) → Joined H a b → Joined J a b) → IsStep G K J e

abbrev pub JoinedGrows : Type 0
JoinedGrows = (ps more : List (ℕ × ℕ)) (a b : ℕ) → IsTrue (joined ps a b) → IsTrue (joined (ps ++ more) a b)

abbrev pub Confluent : Type 0
Confluent = (G : NumberedGraph) (K : List Shape) (H J : List Entry) → IsDerivation G K H → IsClosed G K H → IsDerivation G K J → IsClosed G K J → (a b : ℕ) → Joined H a b ↔ Joined J a b

-- a finished journal that begins with a list joins what a step from that list is of
pub steps_joined : StepGrows → JoinedGrows → (G : NumberedGraph) (K : List Shape) (H J : List Entry) → (more : List Entry) × (J ≡ H ++ more) → IsFinishedJournal G K J → JoinsStepsOf G K H J
steps_joined step_grows joined_grows G K H J begins finished e step =
    let within : (a b : ℕ) → Joined H a b → Joined J a b = λ a b j.
    subst (λ x. Joined x a b) (sym begins.1)
    (subst (λ ps. IsTrue (joined ps a b)) (sym (map-append (λ (x : Entry). (x.a, x.b)) H begins.0)) (joined_grows (links H) (links begins.0) a b j)) in
    let later = step_grows G K H J e step within in
    finished.closed e.a e.b (record { key = e.key; pattern = later.pattern; found = later.key; left = e.left; right = e.right; witness = later.witness })

-- a finished journal joins what each other one joins
pub joins_as_all : Confluent → (G : NumberedGraph) (K : List Shape) (J : List Entry) → IsFinishedJournal G K J → JoinsAsAll G K J
joins_as_all confluent G K J finished other ended = confluent G K J other finished.derivation finished.closed ended.derivation ended.closed

-- what follows of a value follows of the answer
pub if_ok_more : {X E : Type 0} (P R : X → Type 0) → ((x : X) → P x → R x) → (answer : Result X E) → IfOk answer P → IfOk answer R
if_ok_more P R more (Ok x) h = more x h
if_ok_more P R more (Err e) h = tt
