-- By what was found of the volume.
use Rattle.std.proofs.Common.{◌≡◌, ◌++◌, None, append-nil, subst, sym}
use Rattle.hfs_fields.proofs.OutcomeLemmas.{on_err}
use Rattle.hfs_remains_forks.specs.Finds.{IsFoundIn, found_directory}
use Rattle.hfs_database.specs.Taken.{IsBeginning}
use Rattle.hfs_source.specs.Images.{OfEach}
use Rattle.hfs_word_collect.specs.Refused.{IsFoundOf}
use Rattle.hfs_word_collect.specs.Volumes.{rows_by_directory}
use Rattle.hfs_word_collect.proofs.FoundGiving.{found_of}
use Rattle.hfs_word_collect.proofs.VolumeGiving.{found_where, unfound_where}
use Rattle.hfs_word_collect.proofs.giving_remains.give_where_found.Goals as goal

pub returns-in_ok-counts-in-Some-clause-whole : goal.returns-in_ok-counts-in-Some-clause-whole
returns-in_ok-counts-in-Some-clause-whole g c = λ image h.
    let refused = c.args.image.now in
    let start = g.T.RowTaker.given c.args.taker.now in
    let new = g.T.RowTaker.given c.give_found.new.taker in
    let old = c.in_ok-counts-in-Some.ensures.narrows image h in
    let long = c.requires.long image old in
    let is : IsFoundOf c.in-Some.finds c.limit_of-limit.result image =
    found_of refused.found c.in-Some.finds refused.len c.limit_of-limit.result image c.in-Some.is long (c.requires.found_is image old long) c.limit_of-limit.ensures in
    found_where image c.args.taken c.args.place.now (λ rows. new ≡ start ++ rows) refused.why c.in-Some.finds is.directory_is (c.in_ok-counts-in-Some.ensures.whole image h is)

pub returns-in_err-counts-in-Some-clause-part : goal.returns-in_err-counts-in-Some-clause-part
returns-in_err-counts-in-Some-clause-part g c =
    let refused = c.args.image.now in
    let start = g.T.RowTaker.given c.args.taker.now in
    let new = g.T.RowTaker.given c.give_found.new.taker in
    let part : OfEach (g.S.PlacedBlocks.Holds c.give_found.new.source.blocks) (λ bytes. IsBeginning new (start ++ rows_by_directory c.args.taken c.args.place.now refused.why (found_directory bytes) bytes)) =
    λ image h.
    let old = c.in_err-counts-in-Some.ensures.narrows image h in
    let long = c.requires.long image old in
    let is : IsFoundOf c.in-Some.finds c.limit_of-limit.result image =
    found_of refused.found c.in-Some.finds refused.len c.limit_of-limit.result image c.in-Some.is long (c.requires.found_is image old long) c.limit_of-limit.ensures in
    found_where image c.args.taken c.args.place.now (λ rows. IsBeginning new (start ++ rows)) refused.why c.in-Some.finds is.directory_is (c.in_err-counts-in-Some.ensures.part image h is) in
    on_err _ _ part

pub returns-in-None-clause-whole : goal.returns-in-None-clause-whole
returns-in-None-clause-whole g c = λ image h.
    let start = g.T.RowTaker.given c.args.taker.now in
    let none : found_directory image ≡ None = subst (IsFoundIn image) c.in-None.is (c.requires.found_is image h (c.requires.long image h)) in
    unfound_where image c.args.taken c.args.place.now (λ rows. start ≡ start ++ rows) c.args.image.now.why none (sym (append-nil start))
