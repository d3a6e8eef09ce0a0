-- Lemmas about the definitions of specs/Kind.antt.
use Rattle.std.proofs.Common.{refl}
use Rattle.std.specs.Prelude.{◌≡◌, Some}
use Rattle.hfs_btree.specs.declared.kind.NodeKind.{NodeKind}
use Rattle.hfs_btree.specs.declared.kind.NodeKind.TheVariants.{Index, Header, Map, Leaf}
use Rattle.hfs_btree.specs.Kind.{byte_of, kind_of}

-- each kind is named by its byte
pub kind_of-byte_of : (kind : NodeKind) → kind_of (byte_of kind) ≡ Some kind
unfolding kind_of
kind_of-byte_of Index = refl
kind_of-byte_of Header = refl
kind_of-byte_of Map = refl
kind_of-byte_of Leaf = refl
