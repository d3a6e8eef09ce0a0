-- Laws of this crate, each by the laws that it stands on.
use Rattle.hfs_shared.proofs.Following.{published_is_after as published_is_after-proved, published_grows as published_grows-proved, published_begins as published_begins-proved, published_stays as published_stays-proved}
use Rattle.hfs_shared.proofs.LawTypes.{PublishedIsAfter, PublishedGrows, PublishedBegins, PublishedStays}
use Rattle.hfs_model.proofs.ModelLawsProved.{reading_leaves, refusal_leaves}

-- The rows of a published list are those of the volume after the entries that it covers, where the journal is legal.
pub published_is_after : PublishedIsAfter
published_is_after = published_is_after-proved reading_leaves refusal_leaves

-- A published list with the accepted changes of the next entries covers these too.
pub published_grows : PublishedGrows
published_grows = published_grows-proved

-- The list that covers fewer entries begins the one that covers more.
pub published_begins : PublishedBegins
published_begins = published_begins-proved

-- What is published of a journal stays the same while the journal grows.
pub published_stays : PublishedStays
published_stays = published_stays-proved
