-- The catalog's file was found by what was read before, which stays.
use Rattle.std.proofs.Common.{◌≡◌, true, false, ap, subst, rules}
use Rattle.std.specs.Prelude.{◌&&◌}
use Rattle.std.proofs.lemmas.Bool.{and_parts}
use Rattle.hfs_fields.specs.declared.mdb.Mdb.{Mdb}
use Rattle.hfs_blocks.specs.Layers.{Numbered}
use Rattle.hfs_check.specs.Parts.{catalog_blocks}
use Rattle.hfs_source.specs.Sparse.{sparse}
use Rattle.hfs_image.specs.Gathered.{LieAt}
use Rattle.hfs_image.specs.Needed.{is_extents_tree_right, has_catalog_file}
use Rattle.hfs_image.proofs.Gathered.{lie-at, catalog-room, needs-no-catalog, has_catalog}
use Rattle.hfs_space.proofs.LawsProved.{no_tree_file_fault}
use Rattle.hfs_image.proofs.gathering.gather_catalog.Goals as goal

pub returns-in_default-found-clause-has : goal.returns-in_default-found-clause-has
returns-in_default-found-clause-has g c =
    let none : (is_extents_tree_right (sparse c.volume.result.read.now) && has_catalog_file (sparse c.volume.result.read.now)) ≡ false = search rules in
    needs-no-catalog c.args.read.now
    (subst (λ (r : Numbered). (is_extents_tree_right (sparse r) && has_catalog_file (sparse r)) ≡ false) c.volume.ensures.read none)

pub gather_tree-requires-clause-some : goal.gather_tree-requires-clause-some
gather_tree-requires-clause-some g c =
    let found : ((is_extents_tree_right (sparse c.volume.result.read.now) && has_catalog_file (sparse c.volume.result.read.now)) ≡ true)
    × LieAt c.volume.result.count (catalog_blocks (sparse c.volume.result.read.now)) c.in-Some.runs.items = search rules in
    let right : (is_extents_tree_right (sparse c.args.read.now) && has_catalog_file (sparse c.args.read.now)) ≡ true =
    subst (λ (r : Numbered). (is_extents_tree_right (sparse r) && has_catalog_file (sparse r)) ≡ true) c.volume.ensures.read found.0 in
    let lie = lie-at (λ (r : Numbered). catalog_blocks (sparse r)) c.args.count c.volume.result.count c.args.read.now c.volume.result.read.now
    c.in-Some.runs.items c.deref.result.now c.volume.ensures.read c.volume.ensures.count c.deref.ensures.value found.1 in
    (catalog-room (sparse c.args.read.now) c.args.mdb.now c.requires.is c.args.count c.deref.result.now no_tree_file_fault c.requires.sound.whole_size
    (and_parts (is_extents_tree_right (sparse c.args.read.now)) (has_catalog_file (sparse c.args.read.now)) right).1 lie).0

pub gather_tree-requires-clause-within : goal.gather_tree-requires-clause-within
gather_tree-requires-clause-within g c =
    let found : ((is_extents_tree_right (sparse c.volume.result.read.now) && has_catalog_file (sparse c.volume.result.read.now)) ≡ true)
    × LieAt c.volume.result.count (catalog_blocks (sparse c.volume.result.read.now)) c.in-Some.runs.items = search rules in
    let right : (is_extents_tree_right (sparse c.args.read.now) && has_catalog_file (sparse c.args.read.now)) ≡ true =
    subst (λ (r : Numbered). (is_extents_tree_right (sparse r) && has_catalog_file (sparse r)) ≡ true) c.volume.ensures.read found.0 in
    let lie = lie-at (λ (r : Numbered). catalog_blocks (sparse r)) c.args.count c.volume.result.count c.args.read.now c.volume.result.read.now
    c.in-Some.runs.items c.deref.result.now c.volume.ensures.read c.volume.ensures.count c.deref.ensures.value found.1 in
    (catalog-room (sparse c.args.read.now) c.args.mdb.now c.requires.is c.args.count c.deref.result.now no_tree_file_fault c.requires.sound.whole_size
    (and_parts (is_extents_tree_right (sparse c.args.read.now)) (has_catalog_file (sparse c.args.read.now)) right).1 lie).1

pub returns-in_err-gather_tree-clause-reads : goal.returns-in_err-gather_tree-clause-reads
returns-in_err-gather_tree-clause-reads g c =
    let found : ((is_extents_tree_right (sparse c.volume.result.read.now) && has_catalog_file (sparse c.volume.result.read.now)) ≡ true)
    × LieAt c.volume.result.count (catalog_blocks (sparse c.volume.result.read.now)) c.in-Some.runs.items = search rules in
    let lie = lie-at (λ (r : Numbered). catalog_blocks (sparse r)) c.args.count c.volume.result.count c.args.read.now c.volume.result.read.now
    c.in-Some.runs.items c.deref.result.now c.volume.ensures.read c.volume.ensures.count c.deref.ensures.value found.1 in
    c.in_err-gather_tree.ensures.reads c.args.count lie.within

pub returns-clause-has : goal.returns-clause-has
returns-clause-has g c =
    let found : ((is_extents_tree_right (sparse c.volume.result.read.now) && has_catalog_file (sparse c.volume.result.read.now)) ≡ true)
    × LieAt c.volume.result.count (catalog_blocks (sparse c.volume.result.read.now)) c.in-Some.runs.items = search rules in
    let right : (is_extents_tree_right (sparse c.args.read.now) && has_catalog_file (sparse c.args.read.now)) ≡ true =
    subst (λ (r : Numbered). (is_extents_tree_right (sparse r) && has_catalog_file (sparse r)) ≡ true) c.volume.ensures.read found.0 in
    let lie = lie-at (λ (r : Numbered). catalog_blocks (sparse r)) c.args.count c.volume.result.count c.args.read.now c.volume.result.read.now
    c.in-Some.runs.items c.deref.result.now c.volume.ensures.read c.volume.ensures.count c.deref.ensures.value found.1 in
    has_catalog c.args.read.now c.gather_tree.new.read (c.in_ok-gather_tree.ensures.reads c.args.count lie.within).grown c.requires.has_mdb c.requires.has_extents
    c.args.count c.deref.result.now c.args.mdb.now.catalog_file_size right lie (ap (λ (m : Mdb). m.catalog_file_size) c.requires.is) c.in_ok-gather_tree.ensures.has

pub returns-clause-reads : goal.returns-clause-reads
returns-clause-reads g c =
    let found : ((is_extents_tree_right (sparse c.volume.result.read.now) && has_catalog_file (sparse c.volume.result.read.now)) ≡ true)
    × LieAt c.volume.result.count (catalog_blocks (sparse c.volume.result.read.now)) c.in-Some.runs.items = search rules in
    let lie = lie-at (λ (r : Numbered). catalog_blocks (sparse r)) c.args.count c.volume.result.count c.args.read.now c.volume.result.read.now
    c.in-Some.runs.items c.deref.result.now c.volume.ensures.read c.volume.ensures.count c.deref.ensures.value found.1 in
    c.in_ok-gather_tree.ensures.reads c.args.count lie.within
