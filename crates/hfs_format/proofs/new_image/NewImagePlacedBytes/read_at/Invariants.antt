use Rattle.std.proofs.Common.{◌≡◌, ◌-◌, ◌≤◌, length, take}
use Rattle.hfs_format.specs.Image.{image_bytes}
use Rattle.hfs_source.specs.Images.{HasAt}
use Rattle.hfs_format.proofs.new_image.NewImagePlacedBytes.read_at.Given as goal

abbrev pub invariant-loop-done : goal.invariant-loop-done
invariant-loop-done l = record {
  same : image_bytes l.self.planned ≡ image_bytes l.initial.self.planned;
  long : length l.into ≡ length l.initial.into;
  few : l.done ≤ length l.into;
  read : HasAt l.place (take l.done l.into) (image_bytes l.initial.self.planned);
}

abbrev pub decreases-loop-done : goal.decreases-loop-done
decreases-loop-done l = length l.initial.into - l.done
