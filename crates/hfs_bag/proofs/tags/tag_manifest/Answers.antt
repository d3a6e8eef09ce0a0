use Rattle.hfs_bag.proofs.TagLemmas.{laid}
use Rattle.hfs_bag.proofs.tags.tag_manifest.Goals as goal

pub returns : goal.returns
returns c =
    laid _ _ _ _ c.in_ok-push_digest_line-5.ensures (laid _ _ _ _ c.in_ok-push_digest_line-4.ensures (laid _ _ _ _ c.in_ok-push_remains_line.ensures (laid _ _ _ _ c.in_ok-push_digest_line-3.ensures
    (laid _ _ _ _ c.in_ok-push_digest_line-2.ensures (laid _ _ _ _ c.in_ok-push_digest_line.ensures c.new-text.ensures.bytes)))))
