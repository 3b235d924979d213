-- The graph in which each entity stands as the first member of its class, and its text: this project's own words.
use Rattle.std.specs.Prelude.{◌≡◌, ◌<◌, ℕ, Bool, true, ◌==◌, List, [], map, length, slice_index, slice_index_or, All, Contains}
use Rattle.std.specs.List.{flat_map}
use Rattle.std.specs.List.Sorted.{IsStrictlySortedBy}
use Rattle.std.specs.Ordering.{nat_cmp}
use Rattle.std.specs.Cmp.Lexicographic.{slice_cmp}
use Rattle.gk_base.specs.declared.term.Term.{Term}
use Rattle.gk_base.specs.declared.term.Term.TheVariants.{Plain}
use Rattle.gk_base.specs.declared.term.Triple.{Triple}
use Rattle.chase_laws.specs.Report.{not_above}
use Rattle.term_text.specs.CanonicalText.{texts_of, triple_text}

-- the term of a name; where there is none, the empty literal
abbrev pub name_at : List Term → ℕ → Term
name_at names n = slice_index_or names n (Plain [])

-- whether two names have one label
abbrev pub same_label : List ℕ → ℕ → ℕ → Bool
same_label labels m n = slice_index labels m == slice_index labels n

-- m is the face of name n: the member of its class whose text is not above that of any other member, by bytes
pub record IsFace (texts : List (List ℕ)) (same : ℕ → ℕ → Bool) (n m : ℕ) : Type 0 where
  pub in_range : m < length texts
  pub member : same n m ≡ true
  pub first : (k : ℕ) → k < length texts → same n k ≡ true → not_above texts m k ≡ true

-- for each name its face
pub record AreFaces (texts : List (List ℕ)) (same : ℕ → ℕ → Bool) (faces : List ℕ) : Type 0 where
  pub one_each : length faces ≡ length texts
  pub each : (n : ℕ) → n < length texts → IsFace texts same n (slice_index faces n)

-- each number of a row is a name
pub record IsWithin (count : ℕ) (row : List ℕ) : Type 0 where
  pub subject : slice_index row 0 < count
  pub predicate : slice_index row 1 < count
  pub object : slice_index row 2 < count

-- the triple of a row
abbrev pub triple_at : List Term → List ℕ → Triple
triple_at names row = record {
  subject = name_at names (slice_index row 0);
  predicate = name_at names (slice_index row 1);
  object = name_at names (slice_index row 2);
}

-- the triple of a row with the faces of its subject and of its object in their places; the predicate stays
abbrev pub image : List Term → List ℕ → List ℕ → Triple
image names faces row = record {
  subject = name_at names (slice_index faces (slice_index row 0));
  predicate = name_at names (slice_index row 1);
  object = name_at names (slice_index faces (slice_index row 2));
}

-- The second list has triples of the first one and no others, and the text of each triple of the first. The texts strictly
-- ascend by bytes, so that each stands once.
pub record ListsOnce (triples listed : List Triple) : Type 0 where
  pub ascends : IsStrictlySortedBy (slice_cmp nat_cmp) (map triple_text listed)
  pub only : All (Contains triples) listed
  pub every : All (λ triple. Contains (map triple_text listed) (triple_text triple)) triples

-- the text of triples: their lines in order
abbrev pub lines_of : List Triple → List ℕ
lines_of triples = flat_map triple_text triples

-- the text lists these triples, each once, ascending by bytes
pub record IsSortedText (triples : List Triple) (text : List ℕ) : Type 0 where
  pub listed : List Triple
  pub once : ListsOnce triples listed
  pub whole : text ≡ lines_of listed

-- the merged graph: the images of the rows, each once, ascending by bytes
pub record IsMerged (names : List Term) (rows : List (List ℕ)) (same : ℕ → ℕ → Bool) (listed : List Triple) : Type 0 where
  pub faces : List ℕ
  pub are_faces : AreFaces (texts_of names) same faces
  pub once : ListsOnce (map (image names faces) rows) listed

-- the text of the merged graph
pub record IsMergedText (names : List Term) (rows : List (List ℕ)) (same : ℕ → ℕ → Bool) (text : List ℕ) : Type 0 where
  pub listed : List Triple
  pub merged : IsMerged names rows same listed
  pub whole : text ≡ lines_of listed

-- no two names have one label
abbrev pub AreApart : List ℕ → Type 0
AreApart labels = (m n : ℕ) → m < length labels → n < length labels → same_label labels m n ≡ true → m ≡ n
