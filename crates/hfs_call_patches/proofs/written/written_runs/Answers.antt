-- The runs have the blocks from that of the first to that of the last.
use Rattle.std.proofs.Common.{◌/◌, List, length, drop, sym, ◌∙◌, ap, subst, arith}
use Rattle.std.specs.List.{flat_map}
use Rattle.hfs_fields.proofs.OutcomeLemmas.{if_ok}
use Rattle.hfs_blocks.specs.declared.run.Run.{Run}
use Rattle.hfs_blocks.specs.Blocks.{run_of, AreRunsWithin}
use Rattle.hfs_space.proofs.Puts.{runs-small}
use Rattle.hfs_space.specs.TreeFiles.{tree_blocks}
use Rattle.hfs_call_patches.proofs.WrittenBlocks.{written_by}
use Rattle.hfs_call_patches.proofs.written.written_runs.Goals as goal

pub runs_from-requires : goal.runs_from-requires
runs_from-requires g c =
    runs-small c.deref.result.now (g.B.Blocks.total c.args.volume.now.blocks.now) 4294967296 (let few = g.met.B.Blocks.few c.args.volume.now.blocks.now in omega (arith, few))
    (subst (λ (rs : List Run). AreRunsWithin rs (g.B.Blocks.total c.args.volume.now.blocks.now)) (sym c.deref.ensures.value) c.in_ok-runs.ensures.within)

pub returns : goal.returns
unfolding tree_blocks
returns g c =
    if_ok c.runs_from.result _ _
    (λ rest is. written_by c.args.laying.now.from c.args.laying.now.end c.args.laying.now.offset (length c.args.laying.now.bytes.now) c.first_written-first.result c.last_written-last.result c.first_written-first.ensures c.last_written-last.ensures c.requires.order _ (flat_map run_of c.in_ok-runs.runs.items) (flat_map run_of rest.items)
    (is ∙ ap (λ (rs : List Run). drop (c.first_written-first.result / 512) (flat_map run_of rs)) c.deref.ensures.value) c.in_ok-runs.ensures.numbers)
    c.runs_from.ensures.blocks
