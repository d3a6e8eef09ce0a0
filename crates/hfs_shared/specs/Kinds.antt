-- A pair, whether viewers read or not.
use Rattle.hfs_shared.specs.declared.pair.Kind.{Kind}
use Rattle.hfs_shared.specs.declared.pair.Kind.TheVariants.{Read, Unread}
use Rattle.hfs_shared.specs.Pairs.{PairState}

-- what contracts see of it
abbrev pub pair_of : Kind → PairState
pair_of (Read copies) = copies
pair_of (Unread list) = list
