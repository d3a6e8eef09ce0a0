-- What holds of the images of new volumes. Each statement is what a function of src/format_laws.rt ensures.
use Rattle.std.specs.Prelude.{◌≡◌, ℕ, ◌*◌, ◌<◌, ◌^◌, false, List, None}
use Rattle.std.specs.FinMap as finite
use Rattle.hfs_model.specs.declared.item.Item.{Item}
use Rattle.hfs_model.specs.Changes.{new_folder, new_item}
use Rattle.hfs_model.specs.Volume.{Volume}
use Rattle.hfs_format.specs.declared.format_plan.FormatPlan.{FormatPlan}
use Rattle.hfs_format.specs.Plan.{block_factor, format_fault}
use Rattle.hfs_format.specs.Image.{new_image}
use Rattle.hfs_check.specs.Sound.{IsSound}
use Rattle.hfs_check.specs.VolumeOf.{volume_of}

-- ---- the volume of a plan

-- a new folder under 1, which is dated as backed up when it is made
abbrev pub root_item : List ℕ → ℕ → Item
root_item name now = record (new_item new_folder 1 name now) { backup = now }

-- one item, the root, with the volume's name; the next ID is 16, and nothing is locked
abbrev pub volume_of_root : List ℕ → ℕ → ℕ → Volume
volume_of_root name now block_size = record {
  items = finite.insert finite.empty 2 (root_item name now);
  next_id = 16;
  changed = now;
  hardware_locked = false;
  software_locked = false;
  block_size = block_size;
}

-- of a plan. The model's own `new_volume` differs from it in the root's backup date, and in that its allocation blocks always have 512
-- bytes: there the root is made as calls make a folder, never backed up (0), while all dates of a new image are the plan's moment
abbrev pub planned_volume : FormatPlan → Volume
planned_volume plan = volume_of_root plan.name.items plan.now (512 * block_factor plan.blocks)

-- ---- laws

-- the image of a plan without fault, at a moment of four bytes, is sound
abbrev pub NewImagesAreSound : Type 0
NewImagesAreSound = (plan : FormatPlan) → plan.now < 2 ^ 32 → format_fault plan ≡ None → IsSound (new_image plan)

-- and holds the volume of the plan
abbrev pub NewImagesHoldNewVolumes : Type 0
NewImagesHoldNewVolumes = (plan : FormatPlan) → plan.now < 2 ^ 32 → format_fault plan ≡ None → volume_of (new_image plan) ≡ planned_volume plan
