use Rattle.std.proofs.Common.{List, Option, String, Global, sym, subst}
use Rattle.hfs_remains_places.specs.Paths.{IsReady}
use Rattle.hfs_remains_places.proofs.PathLemmas.{ready-known}
use Rattle.hfs_remains_places.proofs.places.Places.path.Goals as goal

pub path-requires-clause-ready : goal.path-requires-clause-ready
path-requires-clause-ready c =
    let s = c.self.inside in
    subst (λ (l : List (Option (String Global))). IsReady s.things l c.args.i) (sym c.deref-3.ensures.value) (ready-known s.things s.paths.items c.self.invariant.known c.args.i)
