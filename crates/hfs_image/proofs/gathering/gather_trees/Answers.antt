-- What is needed of the extents tree, and of the catalog, which is found by it.
use Rattle.std.proofs.Common.{◌≡◌, true, false, ap, sym, subst, ◌∙◌, rules}
use Rattle.hfs_fields.specs.declared.mdb.Mdb.{Mdb}
use Rattle.hfs_blocks.specs.Layers.{Numbered}
use Rattle.hfs_check.specs.Parts.{extents_blocks}
use Rattle.hfs_source.specs.Sparse.{sparse}
use Rattle.hfs_source.proofs.SparseLemmas.{has-grown}
use Rattle.hfs_image.specs.Gathered.{LieAt}
use Rattle.hfs_image.specs.Needed.{has_extents_file}
use Rattle.hfs_image.proofs.Gathered.{lie-at, lie-later, reads-on, mdb-stays, extents-room, has_extents-stays, has_extents-now, has_extents-later, needs_none, needs_both}
use Rattle.hfs_space.proofs.LawsProved.{no_tree_file_fault}
use Rattle.hfs_source.proofs.Seen.{sees_on}
use Rattle.hfs_image.proofs.gathering.gather_trees.Goals as goal

pub returns-in_default-found-clause-has : goal.returns-in_default-found-clause-has
returns-in_default-found-clause-has g c =
    let none : has_extents_file (sparse c.volume.result.read.now) ≡ false = search rules in
    needs_none c.args.read.now (subst (λ (r : Numbered). has_extents_file (sparse r) ≡ false) c.volume.ensures.read none)

pub gather_tree-requires-clause-some : goal.gather_tree-requires-clause-some
gather_tree-requires-clause-some g c =
    let found : (has_extents_file (sparse c.volume.result.read.now) ≡ true)
    × LieAt c.volume.result.count (extents_blocks (sparse c.volume.result.read.now)) c.in-Some.runs.items = search rules in
    let file : has_extents_file (sparse c.args.read.now) ≡ true =
    subst (λ (r : Numbered). has_extents_file (sparse r) ≡ true) c.volume.ensures.read found.0 in
    let lie = lie-at (λ (r : Numbered). extents_blocks (sparse r)) c.args.count c.volume.result.count c.args.read.now c.volume.result.read.now
    c.in-Some.runs.items c.deref.result.now c.volume.ensures.read c.volume.ensures.count c.deref.ensures.value found.1 in
    (extents-room (sparse c.args.read.now) c.args.mdb.now c.requires.is c.args.count c.deref.result.now no_tree_file_fault c.requires.sound.whole_size file lie).0

pub gather_tree-requires-clause-within : goal.gather_tree-requires-clause-within
gather_tree-requires-clause-within g c =
    let found : (has_extents_file (sparse c.volume.result.read.now) ≡ true)
    × LieAt c.volume.result.count (extents_blocks (sparse c.volume.result.read.now)) c.in-Some.runs.items = search rules in
    let file : has_extents_file (sparse c.args.read.now) ≡ true =
    subst (λ (r : Numbered). has_extents_file (sparse r) ≡ true) c.volume.ensures.read found.0 in
    let lie = lie-at (λ (r : Numbered). extents_blocks (sparse r)) c.args.count c.volume.result.count c.args.read.now c.volume.result.read.now
    c.in-Some.runs.items c.deref.result.now c.volume.ensures.read c.volume.ensures.count c.deref.ensures.value found.1 in
    (extents-room (sparse c.args.read.now) c.args.mdb.now c.requires.is c.args.count c.deref.result.now no_tree_file_fault c.requires.sound.whole_size file lie).1

pub returns-in_err-gather_tree-clause-reads : goal.returns-in_err-gather_tree-clause-reads
returns-in_err-gather_tree-clause-reads g c =
    let found : (has_extents_file (sparse c.volume.result.read.now) ≡ true)
    × LieAt c.volume.result.count (extents_blocks (sparse c.volume.result.read.now)) c.in-Some.runs.items = search rules in
    let lie = lie-at (λ (r : Numbered). extents_blocks (sparse r)) c.args.count c.volume.result.count c.args.read.now c.volume.result.read.now
    c.in-Some.runs.items c.deref.result.now c.volume.ensures.read c.volume.ensures.count c.deref.ensures.value found.1 in
    c.in_err-gather_tree.ensures.reads c.args.count lie.within

pub gather_catalog-requires-clause-is : goal.gather_catalog-requires-clause-is
gather_catalog-requires-clause-is g c =
    let found : (has_extents_file (sparse c.volume.result.read.now) ≡ true)
    × LieAt c.volume.result.count (extents_blocks (sparse c.volume.result.read.now)) c.in-Some.runs.items = search rules in
    let lie = lie-at (λ (r : Numbered). extents_blocks (sparse r)) c.args.count c.volume.result.count c.args.read.now c.volume.result.read.now
    c.in-Some.runs.items c.deref.result.now c.volume.ensures.read c.volume.ensures.count c.deref.ensures.value found.1 in
    let grown = (c.in_ok-gather_tree.ensures.reads c.args.count lie.within).grown in
    c.requires.is ∙ sym (mdb-stays c.args.read.now c.gather_tree.new.read grown c.requires.has_mdb)

pub gather_catalog-requires-clause-file : goal.gather_catalog-requires-clause-file
gather_catalog-requires-clause-file g c =
    let found : (has_extents_file (sparse c.volume.result.read.now) ≡ true)
    × LieAt c.volume.result.count (extents_blocks (sparse c.volume.result.read.now)) c.in-Some.runs.items = search rules in
    let file : has_extents_file (sparse c.args.read.now) ≡ true =
    subst (λ (r : Numbered). has_extents_file (sparse r) ≡ true) c.volume.ensures.read found.0 in
    let lie = lie-at (λ (r : Numbered). extents_blocks (sparse r)) c.args.count c.volume.result.count c.args.read.now c.volume.result.read.now
    c.in-Some.runs.items c.deref.result.now c.volume.ensures.read c.volume.ensures.count c.deref.ensures.value found.1 in
    let grown = (c.in_ok-gather_tree.ensures.reads c.args.count lie.within).grown in
    has_extents-stays c.args.read.now c.gather_tree.new.read grown c.requires.has_mdb ∙ file

pub gather_catalog-requires-clause-runs : goal.gather_catalog-requires-clause-runs
gather_catalog-requires-clause-runs g c =
    let found : (has_extents_file (sparse c.volume.result.read.now) ≡ true)
    × LieAt c.volume.result.count (extents_blocks (sparse c.volume.result.read.now)) c.in-Some.runs.items = search rules in
    let lie = lie-at (λ (r : Numbered). extents_blocks (sparse r)) c.args.count c.volume.result.count c.args.read.now c.volume.result.read.now
    c.in-Some.runs.items c.deref.result.now c.volume.ensures.read c.volume.ensures.count c.deref.ensures.value found.1 in
    let grown = (c.in_ok-gather_tree.ensures.reads c.args.count lie.within).grown in
    lie-later c.args.read.now c.gather_tree.new.read grown c.requires.has_mdb c.args.count c.deref.result.now c.deref-2.result.now
    (c.deref-2.ensures.value ∙ sym c.deref.ensures.value) lie

pub gather_catalog-requires-clause-has_mdb : goal.gather_catalog-requires-clause-has_mdb
gather_catalog-requires-clause-has_mdb g c =
    let found : (has_extents_file (sparse c.volume.result.read.now) ≡ true)
    × LieAt c.volume.result.count (extents_blocks (sparse c.volume.result.read.now)) c.in-Some.runs.items = search rules in
    let lie = lie-at (λ (r : Numbered). extents_blocks (sparse r)) c.args.count c.volume.result.count c.args.read.now c.volume.result.read.now
    c.in-Some.runs.items c.deref.result.now c.volume.ensures.read c.volume.ensures.count c.deref.ensures.value found.1 in
    let grown = (c.in_ok-gather_tree.ensures.reads c.args.count lie.within).grown in
    has-grown c.args.read.now c.gather_tree.new.read grown 2 c.requires.has_mdb

pub gather_catalog-requires-clause-has_extents : goal.gather_catalog-requires-clause-has_extents
gather_catalog-requires-clause-has_extents g c =
    let found : (has_extents_file (sparse c.volume.result.read.now) ≡ true)
    × LieAt c.volume.result.count (extents_blocks (sparse c.volume.result.read.now)) c.in-Some.runs.items = search rules in
    let lie = lie-at (λ (r : Numbered). extents_blocks (sparse r)) c.args.count c.volume.result.count c.args.read.now c.volume.result.read.now
    c.in-Some.runs.items c.deref.result.now c.volume.ensures.read c.volume.ensures.count c.deref.ensures.value found.1 in
    let grown = (c.in_ok-gather_tree.ensures.reads c.args.count lie.within).grown in
    let now = has_extents-now c.args.read.now c.gather_tree.new.read grown c.requires.has_mdb c.args.count c.deref.result.now c.args.mdb.now.extents_file_size lie
    (ap (λ (m : Mdb). m.extents_file_size) c.requires.is) c.in_ok-gather_tree.ensures.has in
    now

pub returns-in_err-gather_catalog-clause-reads : goal.returns-in_err-gather_catalog-clause-reads
returns-in_err-gather_catalog-clause-reads g c =
    let found : (has_extents_file (sparse c.volume.result.read.now) ≡ true)
    × LieAt c.volume.result.count (extents_blocks (sparse c.volume.result.read.now)) c.in-Some.runs.items = search rules in
    let lie = lie-at (λ (r : Numbered). extents_blocks (sparse r)) c.args.count c.volume.result.count c.args.read.now c.volume.result.read.now
    c.in-Some.runs.items c.deref.result.now c.volume.ensures.read c.volume.ensures.count c.deref.ensures.value found.1 in
    reads-on (g.S.BlockSource.image c.args.source.now) (g.S.BlockSource.image c.gather_tree.new.source) c.args.count c.args.read.now c.gather_tree.new.read
    c.gather_catalog.new.read c.in_ok-gather_tree.ensures.image (c.in_ok-gather_tree.ensures.reads c.args.count lie.within)
    c.in_err-gather_catalog.ensures.reads

pub returns-clause-has : goal.returns-clause-has
returns-clause-has g c =
    let found : (has_extents_file (sparse c.volume.result.read.now) ≡ true)
    × LieAt c.volume.result.count (extents_blocks (sparse c.volume.result.read.now)) c.in-Some.runs.items = search rules in
    let lie = lie-at (λ (r : Numbered). extents_blocks (sparse r)) c.args.count c.volume.result.count c.args.read.now c.volume.result.read.now
    c.in-Some.runs.items c.deref.result.now c.volume.ensures.read c.volume.ensures.count c.deref.ensures.value found.1 in
    let grown = (c.in_ok-gather_tree.ensures.reads c.args.count lie.within).grown in
    let now = has_extents-now c.args.read.now c.gather_tree.new.read grown c.requires.has_mdb c.args.count c.deref.result.now c.args.mdb.now.extents_file_size lie
    (ap (λ (m : Mdb). m.extents_file_size) c.requires.is) c.in_ok-gather_tree.ensures.has in
    let mdb = has-grown c.args.read.now c.gather_tree.new.read grown 2 c.requires.has_mdb in
    needs_both c.gather_catalog.new.read
    (has_extents-later c.gather_tree.new.read c.gather_catalog.new.read c.in_ok-gather_catalog.ensures.reads.grown mdb now) c.in_ok-gather_catalog.ensures.has

pub returns-clause-reads : goal.returns-clause-reads
returns-clause-reads g c =
    let found : (has_extents_file (sparse c.volume.result.read.now) ≡ true)
    × LieAt c.volume.result.count (extents_blocks (sparse c.volume.result.read.now)) c.in-Some.runs.items = search rules in
    let lie = lie-at (λ (r : Numbered). extents_blocks (sparse r)) c.args.count c.volume.result.count c.args.read.now c.volume.result.read.now
    c.in-Some.runs.items c.deref.result.now c.volume.ensures.read c.volume.ensures.count c.deref.ensures.value found.1 in
    reads-on (g.S.BlockSource.image c.args.source.now) (g.S.BlockSource.image c.gather_tree.new.source) c.args.count c.args.read.now c.gather_tree.new.read
    c.gather_catalog.new.read c.in_ok-gather_tree.ensures.image (c.in_ok-gather_tree.ensures.reads c.args.count lie.within)
    c.in_ok-gather_catalog.ensures.reads

pub returns-in_err-gather_catalog-clause-sees : goal.returns-in_err-gather_catalog-clause-sees
returns-in_err-gather_catalog-clause-sees g c = sees_on c.in_ok-gather_tree.ensures.sees c.in_err-gather_catalog.ensures.sees

pub returns-clause-sees : goal.returns-clause-sees
returns-clause-sees g c = sees_on c.in_ok-gather_tree.ensures.sees c.in_ok-gather_catalog.ensures.sees
