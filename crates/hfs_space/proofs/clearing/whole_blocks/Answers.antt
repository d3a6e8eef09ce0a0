-- The blocks of the runs are the fork's from the first to the last.
use Rattle.std.proofs.Common.{ℕ, ◌-◌, ◌*◌, List, drop, sym, ap, ◌∙◌, subst, arith}
use Rattle.std.specs.List.{flat_map}
use Rattle.hfs_blocks.specs.declared.run.Run.{Run}
use Rattle.hfs_blocks.specs.Blocks.{run_of, AreRunsWithin}
use Rattle.hfs_space.specs.ForkLaws.{block_numbers}
use Rattle.hfs_space.specs.Clearing.{HaveZeros, KeepOthers}
use Rattle.hfs_space.specs.Zeros.{AreAmong}
use Rattle.hfs_space.proofs.Puts.{runs-small}
use Rattle.hfs_space.proofs.NumberLemmas.{numbers-once}
use Rattle.hfs_space.proofs.FromLemmas.{once-from}
use Rattle.hfs_space.proofs.WholeLemmas.{first-numbers, same-shown, whole-beside, whole-zeros}
use Rattle.hfs_space.proofs.clearing.whole_blocks.Goals as goal

pub runs_from-requires : goal.runs_from-requires
runs_from-requires g c =
    runs-small c.deref.result.now (g.B.Blocks.total c.args.blocks.now) 4294967296 (let few = g.met.B.Blocks.few c.args.blocks.now in omega (arith, few))
    (subst (λ (rs : List Run). AreRunsWithin rs (g.B.Blocks.total c.args.blocks.now)) (sym c.deref.ensures.value) c.in_ok-runs.ensures.within)

pub of-requires : goal.of-requires
of-requires g c = record {
  some = c.in_ok-whole.ensures.some;
  once = once-from (block_numbers c.args.mdb.now c.args.extents.now) c.args.first c.args.last c.in_ok-whole.whole.items
      (c.in_ok-whole.ensures.blocks ∙ ap (λ (rs : List Run). drop c.args.first (flat_map run_of rs)) c.deref.ensures.value
      ∙ ap (drop c.args.first) (first-numbers c.args.mdb.now c.args.extents.now c.args.last c.in_ok-runs.runs.items c.in_ok-runs.ensures.numbers))
      (numbers-once c.args.mdb.now c.args.extents.now c.requires.once);
}

pub returns-clause-written : goal.returns-clause-written
returns-clause-written g c =
    let below = g.B.Blocks.blocks c.args.blocks.now in
    subst (λ (bs : ℕ → List ℕ). HaveZeros c.args.mdb.now c.args.extents.now (512 * c.args.first) (512 * (c.args.last - c.args.first)) below bs)
    (same-shown c.in_ok-whole.whole.items c.of.result below c.of.ensures.same)
    (whole-zeros c.args.mdb.now c.args.extents.now c.args.first c.args.last (g.B.Blocks.total c.args.blocks.now) below c.in_ok-whole.whole.items c.requires.area c.requires.extents c.requires.once c.requires.order c.requires.fits
    (λ k lt. g.met.B.Blocks.whole c.args.blocks.now k lt)
    (c.in_ok-whole.ensures.blocks ∙ ap (λ (rs : List Run). drop c.args.first (flat_map run_of rs)) c.deref.ensures.value
    ∙ ap (drop c.args.first) (first-numbers c.args.mdb.now c.args.extents.now c.args.last c.in_ok-runs.runs.items c.in_ok-runs.ensures.numbers)))

pub returns-clause-beside : goal.returns-clause-beside
returns-clause-beside g c =
    let below = g.B.Blocks.blocks c.args.blocks.now in
    subst (λ (bs : ℕ → List ℕ). KeepOthers c.args.mdb.now c.args.extents.now (512 * c.args.first) (512 * (c.args.last - c.args.first)) below bs)
    (same-shown c.in_ok-whole.whole.items c.of.result below c.of.ensures.same)
    (whole-beside c.args.mdb.now c.args.extents.now c.args.first c.args.last (g.B.Blocks.total c.args.blocks.now) below c.in_ok-whole.whole.items c.requires.area c.requires.extents c.requires.once c.requires.order c.requires.fits
    (λ k lt. g.met.B.Blocks.whole c.args.blocks.now k lt)
    (c.in_ok-whole.ensures.blocks ∙ ap (λ (rs : List Run). drop c.args.first (flat_map run_of rs)) c.deref.ensures.value
    ∙ ap (drop c.args.first) (first-numbers c.args.mdb.now c.args.extents.now c.args.last c.in_ok-runs.runs.items c.in_ok-runs.ensures.numbers)))

pub returns-clause-among : goal.returns-clause-among
returns-clause-among g c =
    let total = g.B.Blocks.total c.args.blocks.now in
    c.of.ensures.among total (c.in_ok-whole.ensures.among total (subst (λ (rs : List Run). AreAmong rs total) (sym c.deref.ensures.value) c.in_ok-runs.ensures.within.within))
