-- The lines of a number, as they are formatted.
use Rattle.std.proofs.Common.{◌≡◌, ℕ, suc, ◌+◌, add-one, List, ◌++◌, ap, sym, subst, ◌∙◌, append_assoc}
use Rattle.std.specs.Prelude.{codes}
use Rattle.std.specs.Fmt.{decimal}
use Rattle.demo_graph.specs.DemoTexts.{demo_graph_text, type_line, name_line, last_line, a_entity, b_entity}

-- as the code formats the lines of n that lead to a code
abbrev lines_to_a_code : ℕ → List ℕ
lines_to_a_code n = codes "<urn:a:" ++ (decimal n ++ (codes "> <urn:code> \"c\" .\n<urn:b:" ++ (decimal n ++ codes "> <urn:code> \"c\" .\n")))

-- as it formats those that lead from n to j
abbrev lines_to_entities : ℕ → ℕ → List ℕ
lines_to_entities n j =
    codes "<urn:a:" ++ (decimal n ++ (codes "> <urn:next> <urn:a:" ++ (decimal j
    ++ (codes "> .\n<urn:b:" ++ (decimal n ++ (codes "> <urn:next> <urn:b:" ++ (decimal j ++ codes "> .\n")))))))

-- two lines, each of an entity and what follows it
two_lines : (a b d q x : List ℕ) → ((a ++ d ++ q) ++ x) ++ ((b ++ d ++ q) ++ x) ≡ a ++ (d ++ (q ++ (x ++ (b ++ (d ++ (q ++ x))))))
two_lines a b d q x = simp append_assoc

-- two lines, each of two entities and what follows them
two_links : (a b d e q x y : List ℕ)
    → (((a ++ d ++ q) ++ x) ++ (a ++ e ++ q) ++ y) ++ (((b ++ d ++ q) ++ x) ++ (b ++ e ++ q) ++ y)
    ≡ a ++ (d ++ (q ++ (x ++ (a ++ (e ++ (q ++ (y ++ (b ++ (d ++ (q ++ (x ++ (b ++ (e ++ (q ++ y))))))))))))))
two_links a b d e q x y = simp append_assoc

pub lines_of_zero : (n : ℕ) → n ≡ 0 → lines_to_a_code n ≡ last_line a_entity n ++ last_line b_entity n
lines_of_zero n e =
    subst (λ m. lines_to_a_code m ≡ last_line a_entity m ++ last_line b_entity m) (sym e)
    (sym (two_lines (codes "<urn:a:") (codes "<urn:b:") (decimal 0) (codes ">") (codes " <urn:code> \"c\" .\n")))

pub lines_of_next : (n j : ℕ) → n ≡ suc j → lines_to_entities n j ≡ last_line a_entity n ++ last_line b_entity n
lines_of_next n j e =
    subst (λ m. lines_to_entities m j ≡ last_line a_entity m ++ last_line b_entity m) (sym e)
    (sym (two_links (codes "<urn:a:") (codes "<urn:b:") (decimal (suc j)) (decimal j) (codes ">") (codes " <urn:next> ") (codes " .\n")))

-- as the code formats the lines that give a type
abbrev lines_with_a_type : ℕ → List ℕ
lines_with_a_type n =
    codes "<urn:a:" ++ (decimal n ++ (codes "> <http://www.w3.org/1999/02/22-rdf-syntax-ns#type> <urn:T> .\n<urn:b:"
    ++ (decimal n ++ codes "> <http://www.w3.org/1999/02/22-rdf-syntax-ns#type> <urn:T> .\n")))

pub lines_of_type : (n : ℕ) → lines_with_a_type n ≡ type_line (a_entity n) ++ type_line (b_entity n)
lines_of_type n =
    sym (two_lines (codes "<urn:a:") (codes "<urn:b:") (decimal n) (codes ">") (codes " <http://www.w3.org/1999/02/22-rdf-syntax-ns#type> <urn:T> .\n"))

-- as it formats those that give a name
abbrev lines_with_a_name : ℕ → List ℕ
lines_with_a_name n =
    codes "<urn:a:" ++ (decimal n ++ (codes "> <urn:name> \"n" ++ (decimal n ++ (codes "\" .\n<urn:b:"
    ++ (decimal n ++ (codes "> <urn:name> \"n" ++ (decimal n ++ codes "\" .\n")))))))

-- two lines, each of an entity and a name
two_names : (a b d q x y : List ℕ)
    → ((a ++ d ++ q) ++ x ++ d ++ y) ++ ((b ++ d ++ q) ++ x ++ d ++ y)
    ≡ a ++ (d ++ (q ++ (x ++ (d ++ (y ++ (b ++ (d ++ (q ++ (x ++ (d ++ y))))))))))
two_names a b d q x y = simp append_assoc

pub lines_of_name : (n : ℕ) → lines_with_a_name n ≡ name_line (a_entity n) n ++ name_line (b_entity n) n
lines_of_name n =
    sym (two_names (codes "<urn:a:") (codes "<urn:b:") (decimal n) (codes ">") (codes " <urn:name> \"n") (codes "\" .\n"))

-- six lines after a text, appended by twos
pub by_twos : (text a b c d e f : List ℕ) → ((text ++ (a ++ b)) ++ (c ++ d)) ++ (e ++ f) ≡ text ++ (a ++ b ++ c ++ d ++ e ++ f)
by_twos text a b c d e f = simp append_assoc

-- the graph as far as it has come, and the lines of the next number
pub one_number_more : (i : ℕ) (before typed named linked : List ℕ)
    → before ≡ demo_graph_text i
    → typed ≡ before ++ (type_line (a_entity i) ++ type_line (b_entity i))
    → named ≡ typed ++ (name_line (a_entity i) i ++ name_line (b_entity i) i)
    → linked ≡ named ++ (last_line a_entity i ++ last_line b_entity i)
    → linked ≡ demo_graph_text (i + 1)
one_number_more i before typed named linked e f g h =
    let all : linked ≡ ((demo_graph_text i ++ (type_line (a_entity i) ++ type_line (b_entity i))) ++ (name_line (a_entity i) i ++ name_line (b_entity i) i)) ++ (last_line a_entity i ++ last_line b_entity i) =
    h ∙ ap (λ bs. bs ++ (last_line a_entity i ++ last_line b_entity i)) (g ∙ ap (λ bs. bs ++ (name_line (a_entity i) i ++ name_line (b_entity i) i)) (f ∙ ap (λ bs. bs ++ (type_line (a_entity i) ++ type_line (b_entity i))) e)) in
    rw add-one
    (all ∙ by_twos (demo_graph_text i) (type_line (a_entity i)) (type_line (b_entity i)) (name_line (a_entity i) i) (name_line (b_entity i) i) (last_line a_entity i) (last_line b_entity i))
