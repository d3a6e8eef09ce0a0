use Rattle.hfs_bag.specs.Tags.{info_text}
use Rattle.hfs_bag.proofs.TagLemmas.{laid}
use Rattle.hfs_bag.proofs.tags.info_text.Goals as goal

pub returns : goal.returns
unfolding info_text
returns c =
    laid _ _ _ _ c.in_ok-push_line-4.ensures (laid _ _ _ _ c.in_ok-push_source_digest.ensures (laid _ _ _ _ c.in_ok-push_source_bytes.ensures
    (laid _ _ _ _ c.in_ok-push_directory.ensures (laid _ _ _ _ c.in_ok-push_volume.ensures
    (laid _ _ _ _ c.in_ok-push_line-3.ensures (laid _ _ _ _ c.in_ok-push_line-2.ensures (laid _ _ _ _ c.in_ok-push_line.ensures c.new-text.ensures.bytes)))))))
