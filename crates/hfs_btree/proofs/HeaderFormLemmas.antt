-- Lemmas about the definitions of specs/HeaderForm.antt.
use Rattle.std.proofs.Common.{◌≡◌, ℕ, List, ◌++◌, arith}
use Rattle.byteorder.specs.Endian.{big_bytes}
use Rattle.byteorder.specs.Numbers.{big_number-reads_back}
use Rattle.hfs_fields.specs.Numbers.{number_at}
use Rattle.hfs_btree.specs.declared.header.Header.{Header}
use Rattle.hfs_btree.specs.Header.{header_of}
use Rattle.hfs_btree.specs.HeaderForm.{header_bytes, IsHeaderValue}

module _ (h : Header) (rest : List ℕ) (v : IsHeaderValue h) where
  depth-read : number_at 0 2 (header_bytes h ++ rest) ≡ h.depth
  unfolding number_at header_bytes
  depth-read = big_number-reads_back 2 h.depth (big_bytes 4 h.root ++ big_bytes 4 h.records ++ big_bytes 4 h.first_leaf ++ big_bytes 4 h.last_leaf ++ big_bytes 2 h.node_size ++ big_bytes 2 h.key_len ++ big_bytes 4 h.nodes ++ big_bytes 4 h.free_nodes ++ rest) (omega (arith, v.depth))

  root-read : number_at 2 4 (header_bytes h ++ rest) ≡ h.root
  unfolding number_at header_bytes
  root-read = big_number-reads_back 4 h.root (big_bytes 4 h.records ++ big_bytes 4 h.first_leaf ++ big_bytes 4 h.last_leaf ++ big_bytes 2 h.node_size ++ big_bytes 2 h.key_len ++ big_bytes 4 h.nodes ++ big_bytes 4 h.free_nodes ++ rest) (omega (arith, v.root))

  records-read : number_at 6 4 (header_bytes h ++ rest) ≡ h.records
  unfolding number_at header_bytes
  records-read = big_number-reads_back 4 h.records (big_bytes 4 h.first_leaf ++ big_bytes 4 h.last_leaf ++ big_bytes 2 h.node_size ++ big_bytes 2 h.key_len ++ big_bytes 4 h.nodes ++ big_bytes 4 h.free_nodes ++ rest) (omega (arith, v.records))

  first-read : number_at 10 4 (header_bytes h ++ rest) ≡ h.first_leaf
  unfolding number_at header_bytes
  first-read = big_number-reads_back 4 h.first_leaf (big_bytes 4 h.last_leaf ++ big_bytes 2 h.node_size ++ big_bytes 2 h.key_len ++ big_bytes 4 h.nodes ++ big_bytes 4 h.free_nodes ++ rest) (omega (arith, v.first_leaf))

  last-read : number_at 14 4 (header_bytes h ++ rest) ≡ h.last_leaf
  unfolding number_at header_bytes
  last-read = big_number-reads_back 4 h.last_leaf (big_bytes 2 h.node_size ++ big_bytes 2 h.key_len ++ big_bytes 4 h.nodes ++ big_bytes 4 h.free_nodes ++ rest) (omega (arith, v.last_leaf))

  size-read : number_at 18 2 (header_bytes h ++ rest) ≡ h.node_size
  unfolding number_at header_bytes
  size-read = big_number-reads_back 2 h.node_size (big_bytes 2 h.key_len ++ big_bytes 4 h.nodes ++ big_bytes 4 h.free_nodes ++ rest) (omega (arith, v.node_size))

  key-read : number_at 20 2 (header_bytes h ++ rest) ≡ h.key_len
  unfolding number_at header_bytes
  key-read = big_number-reads_back 2 h.key_len (big_bytes 4 h.nodes ++ big_bytes 4 h.free_nodes ++ rest) (omega (arith, v.key_len))

  nodes-read : number_at 22 4 (header_bytes h ++ rest) ≡ h.nodes
  unfolding number_at header_bytes
  nodes-read = big_number-reads_back 4 h.nodes (big_bytes 4 h.free_nodes ++ rest) (omega (arith, v.nodes))

  free-read : number_at 26 4 (header_bytes h ++ rest) ≡ h.free_nodes
  unfolding number_at header_bytes
  free-read = big_number-reads_back 4 h.free_nodes rest (omega (arith, v.free_nodes))

  -- what was written is read back
  pub header-read : header_of (header_bytes h ++ rest) ≡ h
  unfolding header_of
  header-read = λ i. record {
    depth = depth-read i;
    root = root-read i;
    records = records-read i;
    first_leaf = first-read i;
    last_leaf = last-read i;
    node_size = size-read i;
    key_len = key-read i;
    nodes = nodes-read i;
    free_nodes = free-read i;
  }
