-- The graph and the keys of the demo: this project's own.
use Rattle.std.specs.Prelude.{List, [], ◌++◌, ℕ, zero, suc, codes}
use Rattle.std.specs.Fmt.{decimal}

-- the two entities with a number, as they are spelled
abbrev pub a_entity : ℕ → List ℕ
a_entity i = codes "<urn:a:" ++ decimal i ++ codes ">"

abbrev pub b_entity : ℕ → List ℕ
b_entity i = codes "<urn:b:" ++ decimal i ++ codes ">"

-- the line that gives an entity its type
abbrev pub type_line : List ℕ → List ℕ
type_line entity = entity ++ codes " <http://www.w3.org/1999/02/22-rdf-syntax-ns#type> <urn:T> .\n"

-- the line that gives an entity its name, which has the number
abbrev pub name_line : List ℕ → ℕ → List ℕ
name_line entity i = entity ++ codes " <urn:name> \"n" ++ decimal i ++ codes "\" .\n"

-- the line that leads from an entity to the one before it, or else to a code
abbrev pub last_line : (ℕ → List ℕ) → ℕ → List ℕ
last_line entity zero = entity 0 ++ codes " <urn:code> \"c\" .\n"
last_line entity (suc j) = entity (suc j) ++ codes " <urn:next> " ++ entity j ++ codes " .\n"

-- the six lines of the two entities with a number
abbrev pub numbered_lines : ℕ → List ℕ
numbered_lines i =
    type_line (a_entity i)
    ++ type_line (b_entity i)
    ++ name_line (a_entity i) i
    ++ name_line (b_entity i) i
    ++ last_line a_entity i
    ++ last_line b_entity i

-- the graph with n pairs of entities: the lines of the numbers from 0 to n - 1, in order
abbrev pub demo_graph_text : ℕ → List ℕ
demo_graph_text zero = []
demo_graph_text (suc i) = demo_graph_text i ++ numbered_lines i

-- the keys
abbrev pub demo_keys_text : List ℕ
demo_keys_text =
    codes "key base <urn:T>\n"
    ++ codes "value $n\n"
    ++ codes "value $c\n"
    ++ codes "?x <urn:name> $n\n"
    ++ codes "?x <urn:code> $c\n"
    ++ codes "end\n"
    ++ codes "key link <urn:T>\n"
    ++ codes "entity ?y <urn:T>\n"
    ++ codes "value $n\n"
    ++ codes "?x <urn:name> $n\n"
    ++ codes "?x <urn:next> ?y\n"
    ++ codes "end\n"
