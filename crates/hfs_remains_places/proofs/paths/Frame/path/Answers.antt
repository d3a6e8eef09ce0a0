use Rattle.std.proofs.Common.{◌≡◌, Option, Some, None, ℕ, slice_index_or, sym, subst, ◌∙◌}
use Rattle.std.specs.Prelude.{IfSome}
use Rattle.hfs_remains_places.specs.Chains.{place_at, ups_of}
use Rattle.hfs_remains_places.specs.Paths.{path, IsKnown}
use Rattle.hfs_remains_places.proofs.PathLemmas.{known-is}
use Rattle.hfs_remains_places.proofs.paths.Frame.path.Goals as goal

pub known_path-requires-clause-known : goal.known_path-requires-clause-known
known_path-requires-clause-known c = subst (λ (o : Option ℕ). IfSome o (IsKnown c.args.paths.now)) (sym c.up.ensures.is ∙ c.in-Some.is) c.requires.ready

pub inner_path-requires-clause-above : goal.inner_path-requires-clause-above
inner_path-requires-clause-above c =
    let things = c.args.self.now.things.now in
    let p = c.in-Some.p in
    known-is (slice_index_or c.args.paths.now p None) c.known_path.result.now (path things p) c.known_path.ensures (c.requires.right p)
    (subst (λ (o : Option ℕ). IfSome o (IsKnown c.args.paths.now)) (sym c.up.ensures.is ∙ c.in-Some.is) c.requires.ready)
