-- A graph whose terms are numbered, and what a number may be in it.
use Rattle.std.specs.Prelude.{List, [], ◌∷◌, ℕ, Bool, false, Option, IsTrue, IsSomeAnd, Contains, All, length, slice_index, slice_index_or, ◌≡◌, ◌⊎◌, ◌<◌, ◌≤◌}

-- Numbers stand for names, which are terms of an RDF graph or of its keys. A row is a triple of names: subject,
-- predicate, object (RDF 1.1 Concepts, section 3.1). Each name has a flag that tells whether it is a literal, and
-- the number of the name that it is alike to. rdf_type is the number of rdf:type, where that is a name.
pub record NumberedGraph : Type 0 where
  pub rows : List (List ℕ)
  pub literal : List Bool
  pub rdf_type : Option ℕ
  pub alike : List ℕ

-- the triple is in the graph
abbrev pub HasRow : NumberedGraph → ℕ → ℕ → ℕ → Type 0
HasRow G s p o = Contains G.rows (s ∷ p ∷ o ∷ [])

-- the name is a literal
abbrev pub IsLiteral : NumberedGraph → ℕ → Type 0
IsLiteral G n = IsTrue (slice_index_or G.literal n false)

-- t is a type of n: the graph has the triple n rdf:type t (RDF Schema 1.1, section 3.3)
abbrev pub HasType : NumberedGraph → ℕ → ℕ → Type 0
HasType G n t = IsSomeAnd G.rdf_type (λ p. HasRow G n p t)

-- an entity: no literal, and the subject or the object of a row (this project's own)
abbrev pub IsEntity : NumberedGraph → ℕ → Type 0
IsEntity G n = ¬ (IsLiteral G n) × ((s p o : ℕ) × HasRow G s p o × ((n ≡ s) ⊎ (n ≡ o)))

-- two names are alike where they are alike to the same name (this project's own: case-folded literals)
abbrev pub AreAlike : NumberedGraph → ℕ → ℕ → Type 0
AreAlike G m n = slice_index G.alike m ≡ slice_index G.alike n

-- each number of a row is a name
abbrev pub IsGraph : NumberedGraph → Type 0
IsGraph G = All (λ row. All (λ n. n < length G.literal) row) G.rows

-- The list of what names are alike to. Each name is alike to one that is not above it, which is alike to itself. A
-- literal is alike to a literal, and any other name to itself alone.
pub record IsFolding (G : NumberedGraph) : Type 0 where
  pub one_each : length G.alike ≡ length G.literal
  pub not_above : (n : ℕ) → n < length G.literal → slice_index G.alike n ≤ n
  pub itself : (n : ℕ) → n < length G.literal → slice_index G.alike (slice_index G.alike n) ≡ slice_index G.alike n
  pub literals : (n : ℕ) → IsLiteral G n → IsLiteral G (slice_index G.alike n)
  pub others : (n : ℕ) → n < length G.literal → ¬ (IsLiteral G n) → slice_index G.alike n ≡ n
