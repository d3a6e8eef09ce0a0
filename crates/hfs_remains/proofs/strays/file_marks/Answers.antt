use Rattle.std.proofs.Common.{◌≡◌, ℕ, ◌<◌, Bool, true, List, length, Option, Some, None, slice_index_or, refl, ap, arith}
use Rattle.std.specs.Prelude.{nat_lt}
use Rattle.std.specs.Option.{IfSome}
use Rattle.std.proofs.lemmas.Bool.{and_parts, ltb-true}
use Rattle.hfs_fields.specs.declared.mdb.Mdb.{Mdb}
use Rattle.hfs_remains.specs.Allocation.{is_there}
use Rattle.hfs_remains.proofs.strays.file_marks.Goals as goal

within-directory : (total : ℕ) (mdb : Mdb) (b : ℕ) → is_there total mdb b ≡ true → b < mdb.allocation_blocks
unfolding is_there
within-directory total mdb b there = ltb-true b mdb.allocation_blocks (and_parts (nat_lt b mdb.allocation_blocks) _ there).0

some-within : (o : Option ℕ) (n : ℕ) → ((b : ℕ) → o ≡ Some b → b < n) → IfSome o (λ b. b < n)
some-within None n within = tt
some-within (Some b) n within = within b refl

pub mark_place-requires : goal.mark_place-requires
mark_place-requires g c =
    let s = c.args.nodes.now in
    let long : length c.deref_mut.result.now ≡ s.mdb.now.allocation_blocks = omega (arith, ap (λ (l : List Bool). length l) c.deref_mut.ensures.value, c.loop-place.invariant.long) in
    some-within (slice_index_or s.file.now c.loop-place.place-index None) (length c.deref_mut.result.now)
    (λ b is. let in_directory = within-directory (g.B.Blocks.total s.blocks.now) s.mdb.now b (s.there c.loop-place.place-index b is) in omega (arith, in_directory, long))
