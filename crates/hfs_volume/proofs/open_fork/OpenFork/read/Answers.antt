use Rattle.std.proofs.Common.{◌≡◌, List, drop, subst, ap, ◌∙◌}
use Rattle.hfs_fields.specs.declared.extent.Extent.{Extent}
use Rattle.hfs_blocks.specs.Blocks.{block_at}
use Rattle.hfs_space.specs.Places.{bytes_behind}
use Rattle.hfs_volume.proofs.Openings.{left_is}
use Rattle.hfs_volume.proofs.open_fork.OpenFork.read.Goals as goal

pub returns-clause-left : goal.returns-clause-left
returns-clause-left c =
    let blocks = block_at c.self.inside.blocks.image.now.current in
    let mdb = c.self.inside.mdb.now in
    let extents = c.self.inside.extents.items in
    left_is c.args.count c.self.inside.left c.min-count.result c.min-count.ensures (bytes_behind blocks mdb extents c.self.inside.place) (bytes_behind blocks mdb extents c.in_ok-bytes.place)
    (subst (λ (es : List Extent). bytes_behind blocks mdb es c.in_ok-bytes.place ≡ drop c.min-count.result (bytes_behind blocks mdb es c.self.inside.place)) c.deref.ensures.value c.in_ok-bytes.ensures.rest)
    ∙ ap (drop c.args.count) c.self.view_is
