-- A block is there where it has a place.
use Rattle.std.proofs.Common.{ap, ◌∙◌}
use Rattle.std.specs.Prelude.{is_some}
use Rattle.hfs_blocks.specs.Layers.{Numbered, changes}
use Rattle.hfs_source.proofs.PuttingIn.{some-by}
use Rattle.hfs_source.proofs.sparse_blocks.SparseBlocks.has.Goals as goal

pub returns : goal.returns
returns c = c.contains_key.ensures ∙ some-by c.self.inside.held.bytes.items c.self.inside.held.places.entries c.args.n
    ∙ ap (λ (l : Numbered). is_some (changes l c.args.n)) c.self.view_is
