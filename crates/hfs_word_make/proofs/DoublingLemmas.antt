-- The nodes of a catalog aren't doubled 31 times: no volume has as many.
use Rattle.std.proofs.Common.{◌≡◌, ℕ, ◌-◌, ◌*◌, ◌≤◌, length, None, arith}
use Rattle.std.proofs.lemmas.Nat.{mul-le}
use Rattle.hfs_format.specs.declared.format_plan.FormatPlan.{FormatPlan}
use Rattle.hfs_format.specs.declared.planned_image.PlannedImage.{PlannedImage}
use Rattle.hfs_format.specs.Plan.{block_factor, format_fault, layout_of}
use Rattle.hfs_format.proofs.NewVolumeLemmas.{is_layout-new}
use Rattle.hfs_format.proofs.PlanFacts.{is_new_volume-planned, enough}
use Rattle.hfs_format.specs.declared.new_volume.NewVolume.{NewVolume}
use Rattle.hfs_format.specs.Catalogs.{record_nodes, records_bytes, with_map_nodes}
use Rattle.hfs_format.specs.Plans.{nodes_of}
use Rattle.hfs_format.proofs.CatalogLemmas.{catalog_nodes-some}
use Rattle.hfs_word_make.specs.Planned.{IsDoubled}

some-factor : (blocks : ℕ) → 1 ≤ block_factor blocks
unfolding block_factor
some-factor blocks = omega arith

-- a volume has at most 4,194,304 blocks, and so many nodes
few-nodes : (plan : FormatPlan) → format_fault plan ≡ None → plan.catalog_nodes ≤ 4194304
unfolding format_fault layout_of
few-nodes plan none =
    let plain : FormatPlan =
    record { name = plan.name; blocks = plan.blocks; extents_nodes = plan.extents_nodes; catalog_nodes = plan.catalog_nodes; now = 0 } in
    let laid = is_layout-new (layout_of plain) (is_new_volume-planned plain (omega arith) none) in
    let more = enough (block_factor plan.blocks) plan.catalog_nodes (some-factor plan.blocks) in
    omega (arith, laid.nodes, laid.blocks, more)

-- so many times the nodes, of which there are some
many-nodes : (volume : NewVolume) → volume.catalog_times ≤ nodes_of volume
many-nodes volume =
    let nodes : ℕ = with_map_nodes (record_nodes (records_bytes (length volume.name.name) volume.items.now)) in
    let two : 2 ≤ nodes * 1 = catalog_nodes-some (length volume.name.name) volume.items.now 1 (omega arith) in
    let more : 1 * volume.catalog_times ≤ nodes * volume.catalog_times = mul-le 1 volume.catalog_times nodes volume.catalog_times (omega arith) (omega arith) in
    omega (arith, more)

pub never-31 : (wanted : NewVolume) (planned : PlannedImage) → IsDoubled wanted 31 planned → ⊥
never-31 wanted planned doubled =
    let few = few-nodes doubled.made.0 doubled.made.2.0 in
    let many = many-nodes doubled.volume in
    omega (arith, few, many, doubled.made.1.catalog, doubled.times.times_are)
