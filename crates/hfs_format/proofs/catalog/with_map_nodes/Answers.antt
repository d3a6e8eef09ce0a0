use Rattle.std.proofs.Common.{sym, subst, ◌+◌, ◌/◌}
use Rattle.hfs_format.specs.Least.{IsLeastFrom}
use Rattle.hfs_format.specs.Catalogs.{has_left, with_map_nodes}
use Rattle.hfs_format.proofs.CatalogLemmas.{with_map_nodes-least}
use Rattle.hfs_format.proofs.catalog.with_map_nodes.Goals as goal

pub returns-clause-least : goal.returns-clause-least
unfolding with_map_nodes
returns-clause-least c =
    subst (λ n. IsLeastFrom 0 (has_left c.args.left) (1 + c.args.left + (n + 3934) / 3935)) (sym c.saturating_sub.ensures) (with_map_nodes-least c.args.left)
