-- What is cleared in the runs is cleared in the fork.
use Rattle.std.proofs.Common.{◌≡◌, ℕ, ◌+◌, List, length, sym, ap, ◌∙◌, subst, arith}
use Rattle.std.specs.List.{flat_map}
use Rattle.hfs_blocks.specs.Blocks.{run_of}
use Rattle.hfs_blocks.specs.Layers.{changes, over, length-over}
use Rattle.hfs_space.specs.ForkLaws.{block_numbers}
use Rattle.std.proofs.lemmas.List.{length-replicate}
use Rattle.hfs_space.specs.Parts.{zeros}
use Rattle.hfs_space.specs.Written.{KeepsBeside, HasPart}
use Rattle.hfs_space.proofs.ForkLemmas.{runs-different, runs-reach, fork-beside, fork-written}
use Rattle.hfs_space.proofs.forks.clear_part.Goals as goal

length-zeros : (n : ℕ) → length (zeros n) ≡ n
length-zeros n = let zero_byte : ℕ = 0 in length-replicate n zero_byte

sum : (offset n : ℕ) → offset + n ≡ offset + length (zeros n)
sum offset n = let long = length-zeros n in omega (arith, long)

counted : (n : ℕ) (ns : List ℕ) (offset : ℕ) (old new : ℕ → List ℕ) → KeepsBeside ns offset (length (zeros n)) old new → KeepsBeside ns offset n old new
counted n ns offset old new keeps = subst (λ (k : ℕ). KeepsBeside ns offset k old new) (length-zeros n) keeps

cleared : (n : ℕ) (ns : List ℕ) (offset at m : ℕ) (old new : ℕ → List ℕ) → at ≡ offset → m ≡ n → KeepsBeside ns at m old new → KeepsBeside ns offset (length (zeros n)) old new
cleared n ns offset at m old new is count keeps =
    subst (λ (o : ℕ). KeepsBeside ns o (length (zeros n)) old new) is (subst (λ (k : ℕ). KeepsBeside ns at k old new) (count ∙ sym (length-zeros n)) keeps)

pub clear_runs-requires-clause-different : goal.clear_runs-requires-clause-different
clear_runs-requires-clause-different g c =
    runs-different c.args.mdb.now c.args.extents.now (c.args.offset + c.args.count) (g.B.Blocks.total c.args.blocks.now) c.deref.result.now c.requires.area c.requires.extents c.requires.once
    (ap (flat_map run_of) c.deref.ensures.value ∙ c.in_ok-runs.ensures.numbers)

pub clear_runs-requires-clause-fits : goal.clear_runs-requires-clause-fits
clear_runs-requires-clause-fits g c =
    let reach = runs-reach c.args.mdb.now c.args.extents.now (c.args.offset + c.args.count) (g.B.Blocks.total c.args.blocks.now) c.deref.result.now c.requires.area c.requires.extents c.requires.once
    (ap (flat_map run_of) c.deref.ensures.value ∙ c.in_ok-runs.ensures.numbers) c.requires.fits in
    omega (arith, reach, c.from.ensures, c.from-2.ensures)

pub returns-in_err-clear_runs-clause-beside : goal.returns-in_err-clear_runs-clause-beside
returns-in_err-clear_runs-clause-beside g c =
    let below = g.B.Blocks.blocks c.args.blocks.now in
    let old = over (changes c.args.patch.now) below in
    let new = over (changes c.clear_runs.new.patch) below in
    counted c.args.count (block_numbers c.args.mdb.now c.args.extents.now) c.args.offset old new (fork-beside c.args.mdb.now c.args.extents.now (c.args.offset + c.args.count) (g.B.Blocks.total c.args.blocks.now) c.deref.result.now c.requires.area c.requires.extents c.requires.once
    (ap (flat_map run_of) c.deref.ensures.value ∙ c.in_ok-runs.ensures.numbers) c.args.offset (zeros c.args.count) old new (sum c.args.offset c.args.count) c.requires.fits
    (cleared c.args.count (flat_map run_of c.deref.result.now) c.args.offset c.from.result c.from-2.result old new c.from.ensures c.from-2.ensures c.in_err-clear_runs.ensures.beside))

pub returns-clause-written : goal.returns-clause-written
returns-clause-written g c =
    let below = g.B.Blocks.blocks c.args.blocks.now in
    let old = over (changes c.args.patch.now) below in
    let new = over (changes c.clear_runs.new.patch) below in
    fork-written c.args.mdb.now c.args.extents.now (c.args.offset + c.args.count) (g.B.Blocks.total c.args.blocks.now) c.deref.result.now c.requires.area c.requires.extents c.requires.once
    (ap (flat_map run_of) c.deref.ensures.value ∙ c.in_ok-runs.ensures.numbers) c.args.offset (zeros c.args.count) old new (sum c.args.offset c.args.count) c.requires.fits
    (λ k lt. length-over (changes c.args.patch.now) below k c.in_ok-clear_runs.ensures.whole.0 (g.met.B.Blocks.whole c.args.blocks.now k lt))
    (λ k lt. length-over (changes c.clear_runs.new.patch) below k c.in_ok-clear_runs.ensures.whole.1 (g.met.B.Blocks.whole c.args.blocks.now k lt))
    (cleared c.args.count (flat_map run_of c.deref.result.now) c.args.offset c.from.result c.from-2.result old new c.from.ensures c.from-2.ensures c.in_ok-clear_runs.ensures.beside)
    (subst (λ (o : ℕ). HasPart (flat_map run_of c.deref.result.now) o (zeros c.args.count) old new) c.from.ensures
    (subst (λ (n : ℕ). HasPart (flat_map run_of c.deref.result.now) c.from.result (zeros n) old new) c.from-2.ensures c.in_ok-clear_runs.ensures.part))

pub returns-clause-beside : goal.returns-clause-beside
returns-clause-beside g c =
    let below = g.B.Blocks.blocks c.args.blocks.now in
    let old = over (changes c.args.patch.now) below in
    let new = over (changes c.clear_runs.new.patch) below in
    counted c.args.count (block_numbers c.args.mdb.now c.args.extents.now) c.args.offset old new (fork-beside c.args.mdb.now c.args.extents.now (c.args.offset + c.args.count) (g.B.Blocks.total c.args.blocks.now) c.deref.result.now c.requires.area c.requires.extents c.requires.once
    (ap (flat_map run_of) c.deref.ensures.value ∙ c.in_ok-runs.ensures.numbers) c.args.offset (zeros c.args.count) old new (sum c.args.offset c.args.count) c.requires.fits
    (cleared c.args.count (flat_map run_of c.deref.result.now) c.args.offset c.from.result c.from-2.result old new c.from.ensures c.from-2.ensures c.in_ok-clear_runs.ensures.beside))
