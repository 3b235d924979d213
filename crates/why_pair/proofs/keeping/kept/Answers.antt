use Rattle.std.proofs.Common.{◌∷◌, [], ◌++◌, ◌+◌, false, if◌then◌else◌, get_or, drop, sym, ap, ◌∙◌, arith, append_assoc}
use Rattle.chase_laws.specs.declared.entry.Entry.{Entry}
use Rattle.why_pair.specs.Kept.{kept_by}
use Rattle.why_pair.proofs.KeptLemmas.{kept_more}
use Rattle.why_pair.proofs.keeping.kept.Goals as goal

pub loop-at-preserved : goal.loop-at-preserved
loop-at-preserved c =
    let H = c.args.journal.now in
    let M = c.args.marks.now in
    let i = c.loop-at.at in
    let past = c.loop-at-test.true in
    let same = c.requires in
    let e = c.index-journal-at.result in
    let rest = kept_by (drop (i + 1) M) (drop (i + 1) H) in
    ap (λ l. l ++ rest) c.in_ok-keep.ensures.ok
    ∙ append_assoc c.loop-at.kept.items (if get_or M i false then e ∷ [] else []) rest
    ∙ ap (λ (f : Entry). c.loop-at.kept.items ++ ((if get_or M i false then f ∷ [] else []) ++ rest)) c.index-journal-at.is
    ∙ ap (λ l. c.loop-at.kept.items ++ l) (sym (kept_more M H i false e (omega arith) past)) ∙ c.loop-at.invariant
