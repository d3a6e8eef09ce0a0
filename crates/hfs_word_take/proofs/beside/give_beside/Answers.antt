-- Behind a digest that failed the payload was given whole.
use Rattle.std.proofs.Common.{◌≡◌, List, ◌++◌, sym, subst, rules}
use Rattle.hfs_bag.proofs.Growing.{each_err}
use Rattle.hfs_bag.specs.Bags.{payload}
use Rattle.hfs_bag.proofs.Beginnings.{begins_itself}
use Rattle.hfs_bag.specs.Entries.{IsBeginning, ShelfEntry}
use Rattle.hfs_source.specs.Images.{OfEach}
use Rattle.hfs_word_take.proofs.beside.give_beside.Goals as goal

pub returns-in_err-digest-clause-part : goal.returns-in_err-digest-clause-part
returns-in_err-digest-clause-part g c =
    let now = g.T.Shelf.given c.shelf-1.given.0 in
    let Holds = g.B.BagSource.Holds c.items-1.given.0 in
    let whole : OfEach Holds (λ image. now ≡ g.T.Shelf.given c.args.shelf.now ++ payload (g.B.BagSource.state c.args.items.now image).all) = search rules in
    each_err _ Holds (λ image h.
    let all = g.T.Shelf.given c.args.shelf.now ++ payload (g.B.BagSource.state c.args.items.now image).all in
    subst (λ (given : List ShelfEntry). IsBeginning given all) (sym (whole image h)) (begins_itself all))
