use Rattle.std.proofs.Common.{◌≡◌, ◌-◌, ◌∙◌, ℕ, Vec, Global, ap, arith, subst}
use Rattle.std.proofs.Crossing.{crosses, frees}
use Rattle.std.specs.Prelude.{IfOk}
use Rattle.std.specs.List.{AllZip, range_with_len}
use Rattle.std.specs.declared.result.Result.{Result}
use denote.Param.Send.{sendable}
use Rattle.rayon.proofs.ListFacts.{IfOk-then}
use Rattle.gk_base.specs.declared.memory.NoMemory.{NoMemory}
use Rattle.pair_filter.specs.declared.keeping.KeptPairs.{KeptPairs}
use Rattle.pair_filter.specs.Runs.{AreKeptOf}
use Rattle.pair_filter.proofs.Collected.{collected}
use Rattle.pair_filter.proofs.dealing.keep_by_threads.Goals as goal

-- one line for each `Send` and `Sync`, the allocator, and then what the closure asks
pub collect-requires : goal.collect-requires
collect-requires g c κs =
    (search (sendable, crosses) depth 40, (search (sendable, crosses) depth 40, (search (sendable, crosses) depth 40, (search (sendable, crosses) depth 40, (search (sendable, crosses) depth 40, (frees, rw c.map.ensures.f (λ k d lt. ((c.requires.some, c.requires.few), λ y p. tt))))))))

pub returns : goal.returns
returns g c =
    let ends = c.into_par_iter.ensures in
    let n = c.args.threads in
    let whole : n - 0 ≡ n = omega arith in
    let r = c.in_ok-collect.field-0 in
    let R : ℕ → Result (Vec KeptPairs Global) NoMemory → Type 0 = λ k made. IfOk made (λ v. AreKeptOf c.args.graph.now c.args.patterns.now c.args.pairs.now n k v.items) in
    let h = c.in_ok-collect.ensures in
    let start = ap (λ it. it.base.start) c.map.ensures.base ∙ ap (λ it. it.start) c.with_min_len.ensures.base ∙ ends.0 in
    let end = ap (λ it. it.base.end) c.map.ensures.base ∙ ap (λ it. it.end) c.with_min_len.ensures.base ∙ ends.1 in
    let listed : h.1.0 ≡ range_with_len 0 n = h.1.1 ∙ (λ i. range_with_len (start i) (end i - start i)) ∙ ap (range_with_len 0) whole in
    let zipped = rw c.map.ensures.f at h.1.2 in
    let all : AllZip R (range_with_len 0 n) h.0 = subst (λ l. AllZip R l h.0) listed zipped in
    let done = collected R n r h.0 all h.2 in
    record { count = IfOk-then r _ _ done (λ v k. k.0); kept = IfOk-then r _ _ done (λ v k. k.1) }
