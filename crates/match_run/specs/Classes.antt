-- What a finished chase leaves (this project's own).
use Rattle.std.specs.Prelude.{List, ℕ, ◌≡◌, ◌↔◌, ◌<◌, length, slice_index}
use Rattle.chase_laws.specs.declared.entry.Entry.{Entry}
use Rattle.chase_laws.specs.Shape.{Shape}
use Rattle.chase_laws.specs.Graph.{NumberedGraph}
use Rattle.chase_laws.specs.Chase.{IsStep, IsDerivation, IsLean, IsClosed, AreSame}
use Rattle.chase_laws.specs.Joined.{Joined}

-- one label for each name, equal exactly where two names are the same
pub record AreClasses (G : NumberedGraph) (K : List Shape) (labels : List ℕ) : Type 0 where
  pub count : length labels ≡ length G.literal
  pub same : (a b : ℕ) → a < length labels → b < length labels → (slice_index labels a ≡ slice_index labels b) ↔ AreSame G K a b

-- a lean derivation after which no step goes further
pub record IsFinishedJournal (G : NumberedGraph) (K : List Shape) (journal : List Entry) : Type 0 where
  pub derivation : IsDerivation G K journal
  pub lean : IsLean journal
  pub closed : IsClosed G K journal

-- each step from what the first list joins is of names that the second one joins
abbrev pub JoinsStepsOf : NumberedGraph → List Shape → List Entry → List Entry → Type 0
JoinsStepsOf G K H journal = (e : Entry) → IsStep G K H e → Joined journal e.a e.b

-- the journal joins the same names as each that a finished chase may leave
abbrev pub JoinsAsAll : NumberedGraph → List Shape → List Entry → Type 0
JoinsAsAll G K journal = (other : List Entry) → IsFinishedJournal G K other → (a b : ℕ) → Joined journal a b ↔ Joined other a b
