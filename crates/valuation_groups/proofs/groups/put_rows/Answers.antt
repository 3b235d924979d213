use Rattle.std.proofs.Common.{arith}
use Rattle.valuation_groups.proofs.GroupLemmas.{put_more}
use Rattle.valuation_groups.proofs.groups.put_rows.Goals as goal

pub loop-row-preserved : goal.loop-row-preserved
loop-row-preserved c =
    put_more c.args.cells.now.items c.loop-row.cells.items c.push.new.self.items c.extend_from_slice.new.self.items c.args.rows.now.parts c.args.from c.loop-row.row c.name.result c.images.result.now
    (omega arith) (omega arith) c.loop-row.invariant c.in_ok-push.ensures.items c.in_ok-extend_from_slice.ensures.items c.name.ensures c.images.ensures
