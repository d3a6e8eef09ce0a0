-- The path as the map compares it.
use Rattle.std.proofs.Common.{◌∙◌, ap}
use Rattle.hfs_put_sources.specs.Later.{Entries, told_at}
use Rattle.hfs_put_sources.proofs.PathLemmas.{path-there}
use Rattle.hfs_put_sources.proofs.by_path.ByPath.get.Goals as goal

pub returns : goal.returns
returns g c =
    c.copied.ensures ∙ c.get.ensures.value ∙ path-there c.self.inside.values.entries c.args.path.now
    ∙ ap (λ (entries : Entries _). told_at entries c.args.path.now) c.self.view_is
