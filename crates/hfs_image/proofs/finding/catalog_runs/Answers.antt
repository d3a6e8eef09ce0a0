-- Where the tree or the file is wrong nothing of the catalog is found.
use Rattle.std.proofs.Common.{◌≡◌, Bool, true, false, sym, subst, rules}
use Rattle.std.specs.Prelude.{◌&&◌, IfOk}
use Rattle.std.proofs.lemmas.Bool.{and_left}
use Rattle.hfs_check.specs.Parts.{catalog_blocks}
use Rattle.hfs_image.specs.Finding.{FindsWhere}
use Rattle.hfs_image.specs.Needed as spec
use Rattle.hfs_image.proofs.finding.catalog_runs.Goals as goal

pub returns-then-not-branch : goal.returns-then-not-branch
returns-then-not-branch g c =
    let blocks = g.B.Blocks.blocks c.args.blocks.now in
    let wrong : false ≡ spec.is_extents_tree_right blocks = search rules in
    and_left (spec.is_extents_tree_right blocks) (spec.has_catalog_file blocks) (sym wrong)

pub returns : goal.returns
returns g c =
    let blocks = g.B.Blocks.blocks c.args.blocks.now in
    let total = g.B.Blocks.total c.args.blocks.now in
    let right : true ≡ spec.is_extents_tree_right blocks = search rules in
    subst (λ (t : Bool). IfOk c.right_catalog_runs.result (FindsWhere (t && spec.has_catalog_file blocks) total (catalog_blocks blocks))) right c.right_catalog_runs.ensures
