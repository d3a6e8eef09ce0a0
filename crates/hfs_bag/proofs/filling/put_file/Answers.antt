use Rattle.std.proofs.Common.{◌++◌, List, ℕ, [], ◌∷◌, ap, ◌∙◌, subst}
use Rattle.hfs_bag.specs.Entries.{IsBeginning, file}
use Rattle.hfs_bag.proofs.Beginnings.{begins_appended}
use Rattle.hfs_bag.specs.Filling.{with_dated_file}
use Rattle.hfs_bag.specs.Sources.{stream_bytes}
use Rattle.hfs_bag.proofs.FileLemmas.{part_unmade, part_headless, part_streamed, whole_file}
use Rattle.hfs_bag.proofs.Growing.{each_err}
use Rattle.hfs_bag.proofs.filling.put_file.Goals as goal

pub returns-in_err-open-clause-part : goal.returns-in_err-open-clause-part
returns-in_err-open-clause-part g c =
    each_err _ (g.B.BagSource.Holds c.open.new.self) (λ image h. begins_appended (g.S.Shelf.given c.args.shelf.now) (file c.args.path.now c.args.modified (c.args.head.now ++ stream_bytes (g.B.BagSource.state c.args.source.now image) c.args.stream) ∷ []))

pub returns-in_err-make_file-clause-part : goal.returns-in_err-make_file-clause-part
returns-in_err-make_file-clause-part g c =
    each_err _ (g.B.BagSource.Holds c.open.new.self) (λ image h. part_unmade _ _ _ _ (c.args.head.now ++ stream_bytes (g.B.BagSource.state c.args.source.now image) c.args.stream) c.in_err-make_file.ensures.part)

pub returns-in_err-append-clause-part : goal.returns-in_err-append-clause-part
returns-in_err-append-clause-part g c =
    each_err _ (g.B.BagSource.Holds c.open.new.self) (λ image h. part_headless _ _ _ _ c.args.head.now c.in_ok-make_file.ensures.whole _ (stream_bytes (g.B.BagSource.state c.args.source.now image) c.args.stream) c.in_err-append.ensures.part)

pub returns-in_err-move_stream-clause-part : goal.returns-in_err-move_stream-clause-part
returns-in_err-move_stream-clause-part g c =
    let before = g.S.Shelf.given c.args.shelf.now in
    let now = g.S.Shelf.given c.move_stream.new.shelf in
    each_err _ (g.B.BagSource.Holds c.move_stream.new.source) (λ image h.
    let opened : IsBeginning now (with_dated_file before c.args.path.now c.args.modified (c.args.head.now ++ (g.B.BagSource.state c.open.new.self image).bytes)) =
    part_streamed _ _ _ _ c.args.head.now c.in_ok-make_file.ensures.whole _ _ c.in_ok-append.ensures.whole _ (c.in_err-move_stream.ensures.part image h) in
    subst (λ (bytes : List ℕ). IsBeginning now (with_dated_file before c.args.path.now c.args.modified (c.args.head.now ++ bytes)))
    (c.in_ok-open.ensures.opened image (c.in_err-move_stream.ensures.narrows image h)).bytes opened)

pub returns-clause-whole : goal.returns-clause-whole
returns-clause-whole g c = λ image h.
    whole_file _ _ _ _ c.args.head.now c.in_ok-make_file.ensures.whole _ _ c.in_ok-append.ensures.whole _ (c.in_ok-move_stream.ensures.whole image h)
    ∙ ap (λ (bytes : List ℕ). with_dated_file (g.S.Shelf.given c.args.shelf.now) c.args.path.now c.args.modified (c.args.head.now ++ bytes))
    (c.in_ok-open.ensures.opened image (c.in_ok-move_stream.ensures.narrows image h)).bytes
