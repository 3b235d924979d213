-- A derivation over a graph and its keys is a journal that a proof can be made of.
use Rattle.std.proofs.Common.{List, ℕ, true, Some, length, take, slice_get, ◌≡◌, sym, subst}
use Rattle.std.proofs.lemmas.Option.{slice_get_within, get_or_from_slice_get}
use Rattle.gk_base.specs.declared.term.Term.{Term}
use Rattle.gk_base.specs.declared.term.Triple.{Triple}
use Rattle.chase_laws.specs.declared.entry.Entry.{Entry}
use Rattle.chase_laws.specs.declared.pattern.Slot.TheVariants.{Entity}
use Rattle.chase_laws.specs.Shape.{Shape, IsPattern}
use Rattle.chase_laws.specs.Valuation.{IsMatch}
use Rattle.chase_laws.specs.Joined.{joined_by}
use Rattle.chase_laws.specs.Chase.{IsDerivation}
use Rattle.term_table.specs.Numbering.{is_named}
use Rattle.key_file.specs.declared.edge.KeyEdge.{KeyEdge}
use Rattle.key_file.specs.KeyShape.{KeyShape}
use Rattle.key_file.specs.Key.{IsKey}
use Rattle.key_file.specs.KeyFile.{IsKeyFile}
use Rattle.key_file.specs.Compile.{shape_of, patterns_of}
use Rattle.key_file.specs.Numbered.{names_for, graph_of}
use Rattle.key_file.proofs.CallerLemmas.{key_pattern}
use Rattle.proof_file.specs.Tells.{AreSupported}
use Rattle.proof_check.proofs.ListFacts.{map_found}
use Rattle.proof_check.proofs.NameFacts.{are_names, pred_named}
use Rattle.proof_check.proofs.FromNumbers.{values_named}

module _ (triples : List Triple) (keys : List KeyShape) (file : IsKeyFile keys) where
  abbrev names : List Term
  names = names_for triples keys

  -- the key of a pattern
  record KeyOf (k : ℕ) (Q : Shape) : Type 0 where
    key : KeyShape
    at : slice_get keys k ≡ Some key
    valid : IsKey key
    is : shape_of names key ≡ Q

  key_of : (k : ℕ) (Q : Shape) → slice_get (patterns_of names keys) k ≡ Some Q → KeyOf k Q
  key_of k Q at =
      let r = map_found (shape_of names) keys k Q at in
      record {
        key = r.0;
        at = r.1;
        valid = subst IsKey (get_or_from_slice_get keys k r.0 r.0 r.1) (file.valid k r.0 (slice_get_within keys k r.0 r.1));
        is = r.2;
      }

  -- the patterns are valid
  pub patterns_valid : (k : ℕ) (Q : Shape) → slice_get (patterns_of names keys) k ≡ Some Q → IsPattern Q
  patterns_valid k Q at =
      let r = key_of k Q at in
      subst IsPattern r.is (key_pattern names r.key (λ i pred there.
      let e = map_found (λ (e : KeyEdge). e.pred) r.key.edges i pred there in
      subst (λ t. is_named names t ≡ true) e.2 (pred_named triples keys names (are_names triples keys) k i r.key e.0 r.at e.1)) r.valid)

  pub derived_supported : (H : List Entry) → IsDerivation (graph_of names triples) (patterns_of names keys) H → AreSupported (length names) (patterns_of names keys) H
  derived_supported H d i e at =
      let s = d i e at in
      let w = s.witness in
      let r = key_of e.key s.pattern s.key in
      let m = subst (λ Q. IsMatch (graph_of names triples) Q (joined_by (take i H)) e.a e.b e.left e.right) (sym r.is) w in
      let N = are_names triples keys in
      record {
        pattern = s.pattern;
        key = s.key;
        left_count = w.left.one_each;
        right_count = w.right.one_each;
        left_named = values_named triples keys names N e.key r.key r.at r.valid e.left m.left;
        right_named = values_named triples keys names N e.key r.key r.at r.valid e.right m.right;
        at_a = w.at_a;
        at_b = w.at_b;
        joined = λ n t there nonzero. w.coincide n (Entity t) there nonzero;
      }
