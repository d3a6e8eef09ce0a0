-- What was looked at before a bag was written.
use Rattle.std.proofs.Common.{◌≡◌, ◌∙◌, ◌∷◌, Bool, false, Global, IfOk, List, ap, subst}
use Rattle.std.specs.Option.{option_map}
use Rattle.std.specs.Prelude.{string_bytes}
use Rattle.hfs_bag.specs.Entries.{ShelfEntry}
use Rattle.hfs_bag.specs.SystemSteps.{SystemStep, done, looked}
use Rattle.hfs_source.specs.Images.{OfEach}
use Rattle.hfs_word_take.specs.Bags.{OfBag}
use Rattle.hfs_word_take.specs.Digests.{HoldsBeside}
use Rattle.hfs_word_take.specs.Placed.{HasPlaced}
use Rattle.hfs_word_take.proofs.PlacedBagLemmas.{not_there, there}
use Rattle.hfs_word_take.specs.TakeFaults.{IsUngiven}
use Rattle.hfs_word_take.proofs.taking.take_opened.Goals as goal

pub returns-then-is_there-clause-unplaced : goal.returns-then-is_there-clause-unplaced
returns-then-is_there-clause-unplaced g c =
    there c.args.words.now (IsUngiven (g.S.PlacedBlocks.Holds c.into_opened.result)) c.is_there.result (g.Y.FileSystem.did c.args.system)
    (g.Y.FileSystem.did c.is_there.new.self) c.if-is_there.true c.is_there.ensures

pub returns-clause-unplaced : goal.returns-clause-unplaced
returns-clause-unplaced g c =
    not_there c.args.words.now (λ back. IsUngiven (g.S.PlacedBlocks.Holds back.image)) c.is_there.result (λ back. back.fault) (λ back. g.Y.FileSystem.did back.system) (g.Y.FileSystem.did c.args.system)
    (g.Y.FileSystem.did c.is_there.new.self) c.write_bag.result c.if-is_there.false c.is_there.ensures c.write_bag.ensures.away

pub returns-clause-placed : goal.returns-clause-placed
returns-clause-placed g c =
    let path = c.args.words.now.folder.now in
    let old = g.Y.FileSystem.did c.args.system in
    let seen : g.Y.FileSystem.did c.is_there.new.self ≡ done (looked path false) ∷ old =
    c.is_there.ensures ∙ ap (λ (b : Bool). done (looked path b) ∷ old) c.if-is_there.false in
    subst
    (λ (steps : List SystemStep). IfOk c.write_bag.result (λ placed. OfEach (g.S.PlacedBlocks.Holds placed.image)
    (OfBag (option_map (string_bytes {Z = Global}) c.args.image.volume) c.args.words.now (HoldsBeside g.S.PlacedBlocks.Holds placed.beside)
    (λ (bag : List ShelfEntry). HasPlaced path bag steps (g.Y.FileSystem.did placed.system)))))
    seen c.write_bag.ensures.placed
