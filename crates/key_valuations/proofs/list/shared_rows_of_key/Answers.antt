-- What is kept is shared by what is kept.
use Rattle.std.proofs.Common.{sym, ◌∙◌}
use Rattle.chase_laws.specs.Signature.{parts_of}
use Rattle.key_valuations.proofs.list.shared_rows_of_key.Goals as goal

pub returns : goal.returns
returns g c =
    let G = c.args.graph.now in
    let Q = c.args.pattern.now in
    let key = c.args.key in
    let made = c.in_ok-rows.ensures in
    let kept = c.in_ok-kept.ensures in
    record {
      rows_of = record {
        key = kept.key ∙ made.key;
        only = λ p h. made.only p ((kept.exact p).0 h).0;
        every = λ v w alike. (kept.exact (parts_of G key Q v)).1 (
          made.every v w alike,
          (parts_of G key Q w, made.every w v (record { left = alike.right; right = alike.left; apart = λ e. alike.apart (sym e); values = sym alike.values }), sym alike.values, λ e. alike.apart (sym e)),
        );
      };
      shared = λ p h.
          let x = (kept.exact p).0 h in
          let q = x.1.0 in
          (q, (kept.exact q).1 (x.1.1, (p, x.0, sym x.1.2, λ e. x.1.3 (sym e))), x.1.2, x.1.3);
      once = kept.once;
      sorted = kept.sorted;
    }
