use Rattle.std.proofs.Common.{◌∙◌, ◌<◌, refl, inl, inr}
use Rattle.std.proofs.lemmas.Bool.{cases_lt}
use Rattle.hfs_format.specs.declared.format_plan.FormatPlan.{FormatPlan}
use Rattle.hfs_format.specs.Plans.{nodes_of}
use Rattle.hfs_format.proofs.PlanLemmas.{no-room-over, planned, refused}
use Rattle.hfs_format.proofs.make_plan.plan_volume.Goals as goal

pub returns-in_default : goal.returns-in_default
returns-in_default c =
    let v = c.args.volume.now in
    let many : 4194304 < nodes_of v = elim (cases_lt 4194304 (nodes_of v)) [ inl over ↦ over | inr few ↦ absurd (c.in_default.ensures few) ] in
    no-room-over (nodes_of v) v.items.now v.size many

pub image_of-requires : goal.image_of-requires
image_of-requires c =
    let v = c.args.volume.now in
    let plan : FormatPlan = record { name = c.in-Ok.name; blocks = c.in-Some-size_blocks.blocks; extents_nodes = 8; catalog_nodes = c.in-Some.nodes; now = v.moment } in
    λ fault told. (refused v plan c.in-Some.nodes c.in-Some.ensures.1 (c.in-Ok.ensures.items ∙ c.bytes.ensures.bytes) c.in-Some-size_blocks.ensures refl refl fault told).0

pub returns : goal.returns
returns c =
    let v = c.args.volume.now in
    let plan : FormatPlan = record { name = c.in-Ok.name; blocks = c.in-Some-size_blocks.blocks; extents_nodes = 8; catalog_nodes = c.in-Some.nodes; now = v.moment } in
    planned v plan c.in-Some.nodes c.in-Some.ensures.1 (c.in-Ok.ensures.items ∙ c.bytes.ensures.bytes) c.in-Some-size_blocks.ensures refl refl refl
    c.image_of.result c.image_of.ensures
