-- A plan without fault has the numbers of a new volume.
use Rattle.std.proofs.Common.{◌≡◌, ℕ, ◌+◌, ◌-◌, ◌*◌, ◌/◌, ◌^◌, ◌<◌, ◌≤◌, inl, inr, Bool, true, false, cond, not, Option, Some, None, length, refl, sym, subst, arith}
use Rattle.std.specs.Prelude.{nat_le}
use Rattle.std.proofs.Math.Nat.{mul-le-mul_left, mul_comm, div-le_self}
use Rattle.std.proofs.lemmas.Bool.{and_parts, leb-true, cases_lt}
use Rattle.hfs_fields.specs.Names.{is_item_name}
use Rattle.hfs_format.specs.declared.format_plan.FormatPlan.{FormatPlan}
use Rattle.hfs_format.specs.declared.format_fault.FormatFault.{FormatFault}
use Rattle.hfs_format.specs.declared.format_fault.FormatFault.TheVariants.{BadName, BadSize, BadNodes, NoRoom}
use Rattle.hfs_format.specs.Plan.{block_factor, bitmap_blocks, allocation_start, allocation_blocks, file_blocks, layout_of, is_volume_name, is_volume_size, are_node_counts, has_room, format_fault}
use Rattle.hfs_format.specs.declared.layout.Layout.{Layout}
use Rattle.hfs_format.specs.Plan.{IsLayout, IsLaidOut}
use Rattle.hfs_format.proofs.NewVolumeLemmas.{IsNewVolume, is_layout-new}

-- ---- the tests of a plan

passed : (test : Bool) (fault : FormatFault) (rest : Option FormatFault) → cond (not test) (Some fault) rest ≡ None → (test ≡ true) × (rest ≡ None)
passed true fault rest h = (refl, h)
passed false fault rest h = absurd (let e : Some fault ≡ None = h in cc)

record Passes (plan : FormatPlan) : Type 0 where
  name : is_volume_name plan.name.items ≡ true
  size : is_volume_size plan.blocks ≡ true
  nodes : are_node_counts plan ≡ true
  room : has_room (layout_of plan) ≡ true

passes : (plan : FormatPlan) → format_fault plan ≡ None → Passes plan
unfolding format_fault
passes plan h =
    let name = passed (is_volume_name plan.name.items) BadName _ h in
    let size = passed (is_volume_size plan.blocks) BadSize _ name.1 in
    let nodes = passed (are_node_counts plan) BadNodes _ size.1 in
    let room = passed (has_room (layout_of plan)) NoRoom _ nodes.1 in
    record { name = name.0; size = size.0; nodes = nodes.0; room = room.0 }

-- ---- numbers

record AreSizes (blocks factor start allocations : ℕ) : Type 0 where
  some_factor : 1 ≤ factor
  few_factor : factor ≤ 65
  few_start : start ≤ 19
  behind_bitmap : 3 ≤ start
  few_allocations : allocations < 2 ^ 16
  bitmap : allocations ≤ 4096 * (start - 3)
  area : start + allocations * factor + 2 ≤ blocks

below : (n f : ℕ) → 1 ≤ f → n < 65536 * f → n / f < 65536
below n f some less = elim (cases_lt (n / f) 65536) [
  | inl lt ↦ lt
  | inr ge ↦ absurd (let more = mul-le-mul_left f ge in let turned = mul_comm f 65536 in omega (arith, more, turned))
]

least-quotient : (n m f : ℕ) → 1 ≤ f → m ≤ n → m / f ≤ n / f
least-quotient n m f some le = elim (cases_lt (n / f) (m / f)) [
  | inl lt ↦ absurd (let more = mul-le-mul_left f lt in omega arith)
  | inr ge ↦ ge
]

sizes : (blocks : ℕ) → 8 ≤ blocks → blocks ≤ 4194304 → AreSizes blocks (block_factor blocks) (allocation_start blocks) (allocation_blocks blocks)
unfolding block_factor bitmap_blocks allocation_start allocation_blocks
sizes blocks least most =
    let f : ℕ = blocks / 65536 + 1 in
    let some : 1 ≤ f = omega arith in
    let q = below blocks f some (omega arith) in
    let part = div-le_self blocks f in
    let start : ℕ = 3 + (blocks / f + 4095) / 4096 in
    let fewer = least-quotient blocks (blocks - 2 - start) f some (omega arith) in
    let turned = mul_comm f ((blocks - 2 - start) / f) in
    record {
      some_factor = some;
      few_factor = omega arith;
      few_start = omega arith;
      behind_bitmap = omega arith;
      few_allocations = omega arith;
      bitmap = omega arith;
      area = omega arith;
    }

-- so many nodes are at least those that were asked for
pub enough : (factor nodes : ℕ) → 1 ≤ factor → nodes ≤ file_blocks factor nodes * factor
unfolding file_blocks
enough factor nodes some = let turned = mul_comm factor ((nodes + (factor - 1)) / factor) in omega arith

-- ---- the layout of a plan

pub is_new_volume-planned : (plan : FormatPlan) → plan.now < 2 ^ 32 → format_fault plan ≡ None → IsNewVolume (layout_of plan)
unfolding layout_of
is_new_volume-planned plan moment none =
    let all = passes plan none in
    let name = and_parts (is_item_name plan.name.items) (nat_le (length plan.name.items) 27) all.name in
    let size = and_parts (nat_le 8 plan.blocks) (nat_le plan.blocks 4194304) all.size in
    let least : 8 ≤ plan.blocks = leb-true _ _ size.0 in
    let most : plan.blocks ≤ 4194304 = leb-true _ _ size.1 in
    let numbers = sizes plan.blocks least most in
    let factor : ℕ = block_factor plan.blocks in
    let nodes = and_parts (nat_le 2 plan.catalog_nodes) (nat_le 1 plan.extents_nodes) all.nodes in
    let catalog : 2 ≤ plan.catalog_nodes = leb-true _ _ nodes.0 in
    let extents : 1 ≤ plan.extents_nodes = leb-true _ _ nodes.1 in
    let more_catalog = enough factor plan.catalog_nodes numbers.some_factor in
    let more_extents = enough factor plan.extents_nodes numbers.some_factor in
    record {
      item_name = name.0;
      name = leb-true _ _ name.1;
      moment = moment;
      blocks = most;
      factor = numbers.few_factor;
      some_factor = numbers.some_factor;
      start = numbers.few_start;
      behind_bitmap = numbers.behind_bitmap;
      allocation_blocks = numbers.few_allocations;
      bitmap = numbers.bitmap;
      area = numbers.area;
      room = leb-true _ _ all.room;
      extents = refl;
      some_extents = omega (arith, more_extents);
      catalog = refl;
      some_catalog = omega (arith, more_catalog);
    }

pub is_layout_laid : (plan : FormatPlan) (volume : Layout) → plan.now < 2 ^ 32 → IsLaidOut plan volume → IsLayout volume
is_layout_laid plan volume moment laid = subst IsLayout (sym laid.1) (is_layout-new (layout_of plan) (is_new_volume-planned plan moment laid.0))
