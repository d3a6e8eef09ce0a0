-- What was looked at before a bag was written.
use Rattle.std.proofs.Common.{Global}
use Rattle.std.specs.Option.{option_map}
use Rattle.std.specs.Prelude.{string_bytes}
use Rattle.hfs_word_take.proofs.PlacedBagLemmas.{not_there, there}
use Rattle.hfs_word_rescue.specs.Bags.{IsUngiven}
use Rattle.hfs_word_rescue.specs.Words.{as_take_words}
use Rattle.hfs_word_rescue.proofs.rescuing.rescue_opened.Goals as goal

pub returns-then-is_there-clause-unplaced : goal.returns-then-is_there-clause-unplaced
returns-then-is_there-clause-unplaced g c =
    let image = c.args.image in
    there (as_take_words c.args.words.now)
    (IsUngiven (g.S.PlacedBlocks.Holds c.into_source.result.blocks) image.len (option_map (string_bytes {Z = Global}) image.line) c.args.words.now)
    c.is_there.result (g.Y.FileSystem.did c.args.system) (g.Y.FileSystem.did c.is_there.new.self) c.if-is_there.true c.is_there.ensures

pub returns-clause-unplaced : goal.returns-clause-unplaced
returns-clause-unplaced g c =
    let image = c.args.image in
    not_there (as_take_words c.args.words.now)
    (λ back. IsUngiven (g.S.PlacedBlocks.Holds back.source.blocks) image.len (option_map (string_bytes {Z = Global}) image.line) c.args.words.now)
    c.is_there.result (λ back. back.fault) (λ back. g.Y.FileSystem.did back.system) (g.Y.FileSystem.did c.args.system)
    (g.Y.FileSystem.did c.is_there.new.self) c.write_bag.result c.if-is_there.false c.is_there.ensures c.write_bag.ensures.away
