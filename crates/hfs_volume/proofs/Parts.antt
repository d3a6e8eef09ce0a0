-- The reply of a part of a fork.
use Rattle.std.proofs.Common.{◌≡◌, ℕ, ◌+◌, ◌*◌, ◌%◌, ◌<◌, ◌≤◌, cond, List, length, sym, ◌∙◌, ap}
use Rattle.std.specs.Prelude.{nat_lt, pos}
use Rattle.hfs_fields.specs.declared.extent.Extent.{Extent}
use Rattle.hfs_fields.specs.declared.mdb.Mdb.{Mdb}
use Rattle.hfs_model.specs.declared.codes.TheConstants.{END_OF_FILE}
use Rattle.hfs_model.specs.declared.reply.Value.TheVariants as value
use Rattle.hfs_model.specs.Reading.{part_of}
use Rattle.hfs_space.specs.Extents.{AreExtentsWithin, block_total}
use Rattle.hfs_space.specs.Forks.{HasArea, fork_bytes, read_from}
use Rattle.hfs_space.proofs.ForkLengthLemmas.{length-fork_bytes}

-- a fork has as many bytes as its length says
pub part_is : (blocks : ℕ → List ℕ) (total : ℕ) → ((n : ℕ) → n < total → length (blocks n) ≡ 512) → (mdb : Mdb) → HasArea mdb total → mdb.allocation_block_size % 512 ≡ 0
    → (extents read : List Extent) (len offset count : ℕ) (bytes : List ℕ) → AreExtentsWithin mdb.allocation_blocks extents → len ≤ block_total extents * mdb.allocation_block_size
    → read ≡ extents → bytes ≡ read_from (fork_bytes blocks mdb read len) offset count
    → record { code = cond (nat_lt len (offset + count)) END_OF_FILE (pos 0); value = value.Bytes bytes } ≡ part_of (fork_bytes blocks mdb extents len) offset count
part_is blocks total whole mdb area even extents read len offset count bytes within room same is i = record {
  code = cond (nat_lt (sym (length-fork_bytes blocks total whole mdb area extents len even within room) i) (offset + count)) END_OF_FILE (pos 0);
  value = value.Bytes ((is ∙ ap (λ (es : List Extent). read_from (fork_bytes blocks mdb es len) offset count) same) i);
}
