-- Triples in numbers: this project's own words.
use Rattle.std.specs.Prelude.{List, ℕ, map, length, ◌++◌, ◌≡◌, ◌≤◌, ◌+◌, ◌^◌}
use Rattle.gk_base.specs.declared.term.Triple.{Triple}
use Rattle.term_table.specs.Numbering.{names_of}
use Rattle.term_list.specs.Triples.{terms_of}
use Rattle.key_file.specs.Numbered.{row_of}
use Rattle.graph_rows.specs.declared.rows.Rows.{Rows}

-- The rows are these triples in numbers, and the names are the distinct terms of the triples, in their order.
pub record StandFor (r : Rows) (triples : List Triple) : Type 0 where
  pub names : r.names ≡ names_of (terms_of triples)
  pub rows : r.rows.items ≡ map (row_of r.names) triples

-- The most triples that a graph may have. A name's number has 32 bits, and each triple has three names.
abbrev pub most_triples : ℕ
most_triples = 2 ^ 30

-- they stand for triples that are no more than a graph may have
abbrev pub AreFew : Rows → Type 0
AreFew r = (triples : List Triple) × StandFor r triples × (length triples ≤ most_triples)

-- with so many triples more they would be no more than a graph may have
abbrev pub LeaveRoom : Rows → ℕ → Type 0
LeaveRoom r count = (triples : List Triple) × StandFor r triples × (length triples + count ≤ most_triples)

-- the rows go on with these triples: whatever triples they stood for, these stand behind them now
abbrev pub GoOn : (old new : Rows) → List Triple → Type 0
GoOn old new more = (triples : List Triple) → StandFor old triples → StandFor new (triples ++ more)
