-- One path more.
use Rattle.std.proofs.Common.{◌∙◌, ap}
use Rattle.std.specs.Option.{option_or}
use Rattle.hfs_put_sources.specs.Later.{Entries, told_at, told_of}
use Rattle.hfs_put_sources.proofs.PathLemmas.{path-put}
use Rattle.hfs_put_sources.proofs.by_path.ByPath.put.Goals as goal

pub returns : goal.returns
returns g c = λ path.
    path-put c.self.inside.values c.insert.new.self c.args.path c.args.value c.in_ok-insert.ensures.updates path
    ∙ ap (λ (entries : Entries _). option_or (told_of c.args.path.items c.args.value path) (told_at entries path)) c.self.view_is
