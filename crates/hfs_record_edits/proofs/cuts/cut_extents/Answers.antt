-- The first blocks of the three.
use Rattle.std.proofs.Common.{◌-◌, List, ap, ◌∙◌}
use Rattle.hfs_fields.specs.declared.extent.Extent.{Extent}
use Rattle.hfs_space.specs.Extents.{extent_blocks}
use Rattle.hfs_record_edits.proofs.CutLemmas.{blocks-cut, cut-three}
use Rattle.hfs_record_edits.proofs.cuts.cut_extents.Goals as goal

pub returns-clause-blocks : goal.returns-clause-blocks
returns-clause-blocks c =
    ap (λ (es : List Extent). extent_blocks es)
    (cut-three c.args.extents.now c.args.count c.saturating_sub-rest.result c.saturating_sub-last.result c.first_blocks.result c.first_blocks-2.result c.first_blocks-3.result c.told-extents
    (c.saturating_sub-rest.ensures ∙ ap (λ m. c.args.count - m) c.from.ensures) (c.saturating_sub-last.ensures ∙ ap (λ m. c.saturating_sub-rest.result - m) c.from-2.ensures)
    c.first_blocks.ensures c.first_blocks-2.ensures c.first_blocks-3.ensures)
    ∙ blocks-cut c.args.count c.args.extents.now
