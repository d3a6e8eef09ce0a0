-- Records that are looked up by their keys, before and after an edit.
use Rattle.std.proofs.Common.{Bool}
use Rattle.std.specs.Prelude.{Option}
use Rattle.std.specs.Bool.{IsTrue}
use Rattle.std.specs.List.{find}
use Rattle.std.specs.Ordering.{is_eq}
use Rattle.hfs_fields.specs.declared.key.CatKey.{CatKey}
use Rattle.hfs_fields.specs.Keys.{cat_cmp}
use Rattle.hfs_fields.specs.Records.{begins_thread}
use Rattle.hfs_catalog.specs.Records.{Record, Catalog}
use Rattle.hfs_catalog.specs.Sound.{EachThread}

-- a record whose key is equal to this one in the order
abbrev pub has_key : CatKey → Record → Bool
has_key key r = is_eq (cat_cmp key r.0)

-- the record under a key
abbrev pub record_at : CatKey → Catalog → Option Record
record_at key catalog = find (has_key key) catalog

-- each thread's record can be read
abbrev pub AreThreadsReadable : Catalog → Type 0
AreThreadsReadable catalog = EachThread (λ r. IsTrue (begins_thread r.1)) catalog
