use Rattle.list_pool.proofs.Linking.{link_made}
use Rattle.list_pool.proofs.links.link.Goals as goal

pub returns : goal.returns
returns c =
    rw (c.link_before.ensures.cells, c.link_before.ensures.lists)
    (link_made c.args.cells.now.items c.args.lists.now.items c.link_after.new.cells.items c.link_after.new.lists.items c.args.list c.args.left c.args.right
    c.requires.list c.requires.left c.requires.right c.link_after.ensures.cells c.link_after.ensures.lists)
