use Rattle.std.proofs.Common.{◌∙◌, ap}
use Rattle.hfs_fields.proofs.OutcomeLemmas.{on_ok}
use Rattle.hfs_catalog.specs.Records.{Catalog, valence_of}
use Rattle.hfs_repair.proofs.AllPlaced.{all-pushed}
use Rattle.hfs_repair.proofs.wrong.push_numbers.Goals as goal

pub returns : goal.returns
returns g c =
    on_ok c.push_valences.result _ _
    (λ last. all-pushed (g.B.Blocks.total c.args.blocks.now) (g.B.Blocks.blocks c.args.blocks.now) c.args.mdb.now c.args.extents.now c.args.catalog.now c.requires.extents c.requires.catalog _
    (λ id. c.in_ok-children.ensures id ∙ ap (λ (catalog : Catalog). valence_of catalog id) c.requires.records) c.args.records.now c.requires.records
    _ _ _ _ _ c.in_ok-push_mdb_numbers.ensures c.in_ok-push_header_numbers.ensures c.in_ok-push_header_numbers-2.ensures last)
    c.push_valences.ensures
