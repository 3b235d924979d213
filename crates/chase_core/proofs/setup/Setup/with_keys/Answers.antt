-- The parts are those of the task.
use Rattle.std.proofs.Common.{subst, ◌<◌, ◌∙◌, ap, sym, min}
use Rattle.chase_core.specs.Setup.{IsMost}
use Rattle.chase_core.proofs.setup.Setup.with_keys.Goals as goal

pub invariant_of-result : goal.invariant_of-result
invariant_of-result c =
    let patterns = c.args.patterns.items in
    let pairs = c.args.pairs.items in
    record {
      task = record {
        graph = c.names-names.ensures.graph;
        patterns = rw c.deref.ensures.value at c.all_valid.ensures.valid;
        named = c.requires.named;
        able = c.requires.able;
      };
      ascend = c.requires.ascend;
      few_patterns = c.requires.few_patterns;
      few_pairs = c.requires.few_pairs;
      plans = rw c.deref-2.ensures.value at c.in_ok-plans.ensures;
      near = let near = rw c.deref-3.ensures.value at c.in_ok-near.ensures.names in record { one_each = near.one_each; exact = near.exact };
      ranges = c.requires.keys;
      widest = record {
        most = c.most_near.result;
        is_most = subst (λ ps. IsMost c.in_ok-near.near.near ps c.most_near.result) c.deref-5.ensures.value c.most_near.ensures;
        least = c.min-widest.ensures ∙ ap (min c.most_near.result) (c.from.ensures ∙ c.names-names.ensures.names);
      };
      by_end =
          let count = c.names-names.ensures.names in
          let exact = rw c.deref-4.ensures.value at c.in_ok-ends.ensures.exact in
          record {
            one_each = c.in_ok-ends.ensures.one_each ∙ count;
            ascending = λ e h. c.in_ok-ends.ensures.ascending e (subst (λ n. e < n) (sym count) h);
            exact = λ e p h. exact e p (subst (λ n. e < n) (sym count) h);
          };
    }
