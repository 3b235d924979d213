-- The line of the demo: this project's own.
use Rattle.std.specs.Prelude.{List, ◌++◌, ℕ, codes}
use Rattle.std.specs.Fmt.{decimal}

-- the numbers of triples, of candidate pairs, of classes of two or more, and of the members of these
abbrev pub demo_line_text : ℕ → ℕ → ℕ → ℕ → List ℕ
demo_line_text triples pairs classes members =
    codes "triples " ++ decimal triples
    ++ codes " pairs " ++ decimal pairs
    ++ codes " classes " ++ decimal classes
    ++ codes " members " ++ decimal members
    ++ codes "\n"
