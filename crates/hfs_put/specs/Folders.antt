-- Folders that are open, with what leaves them.
use Rattle.std.specs.Prelude.{◌≡◌, ℕ, List, map, reverse, Result, Ok}
use Rattle.hfs_model.specs.Volume.{Volume}
use Rattle.hfs_put_plan.specs.Accepted.{all_accepted}
use Rattle.hfs_put_plan.specs.Calls.{somes, ending}
use Rattle.hfs_put_plan.specs.Put.{Open, Refused, at_place}
use Rattle.hfs_put.specs.declared.folders.OpenFolder.{OpenFolder}

abbrev pub open_of : ℕ → OpenFolder → Open
open_of now f = record { place = f.place; id = f.id; ending = somes (ending f.dir f.item now) }

-- the last is the innermost
abbrev pub opens : ℕ → List OpenFolder → List Open
opens now folders = reverse (map (open_of now) folders)

-- the volume after what leaves it
abbrev pub one_left : ℕ → OpenFolder → Volume → Result Volume Refused
one_left now f v = at_place f.place (all_accepted v (somes (ending f.dir f.item now)))

abbrev pub LeavesOne : ℕ → OpenFolder → Volume → Volume → Type 0
LeavesOne now f v w = one_left now f v ≡ Ok w
