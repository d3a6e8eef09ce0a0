-- The user data of whole sectors.
use Rattle.std.proofs.Common.{◌≡◌, ◌*◌, ◌/◌, length, refl, subst, sym}
use Rattle.hfs_source.specs.declared.ranges.Layout.{Layout}
use Rattle.hfs_bag.specs.Parts.{content_of}
use Rattle.hfs_bag.proofs.PartLemmas.{raw_long}
use Rattle.hfs_bag.proofs.part.content_len.Goals as goal

pub returns-in-Raw : goal.returns-in-Raw
returns-in-Raw c = λ file whole.
    subst (λ (layout : Layout). length (content_of layout file) ≡ c.args.len / 2352 * 2048) (sym c.in-Raw.is) (raw_long file c.args.len (c.args.len / 2352 * 2048) whole refl)
