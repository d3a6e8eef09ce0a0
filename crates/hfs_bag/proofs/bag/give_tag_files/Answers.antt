use Rattle.std.proofs.Common.{◌∙◌}
use Rattle.hfs_bag.proofs.TagLemmas.{streams_are}
use Rattle.hfs_bag.proofs.bag.give_tag_files.Goals as goal

pub give_tags-requires-clause-told : goal.give_tags-requires-clause-told
give_tags-requires-clause-told g c = λ image h. (c.requires image h).digests_are

pub give_tags-requires-clause-bytes : goal.give_tags-requires-clause-bytes
give_tags-requires-clause-bytes g c = λ image h. (c.requires image h).bytes_are

pub give_tags-requires-clause-files : goal.give_tags-requires-clause-files
give_tags-requires-clause-files g c = λ image h.
    streams_are (g.B.BagSource.state c.args.source.now image).all c.deref.result.now c.count_streams-streams.result c.count_streams-streams.ensures (c.deref.ensures.value ∙ (c.requires image h).digests_are)
