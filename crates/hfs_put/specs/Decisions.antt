-- What becomes of one item that is to be put into a folder, by what is there in its place.
use Rattle.std.specs.Prelude.{ℕ, Bool, true, false, not, ◌&&◌, if◌then◌else◌, List, Option, Some, None, is_some}
use Rattle.hfs_model.specs.declared.reply.Info.{Info}
use Rattle.hfs_model.specs.declared.reply.ItemKind.{ItemKind}
use Rattle.hfs_model.specs.declared.reply.ItemKind.TheVariants.{Folder, File}
use Rattle.hfs_model.specs.declared.reply.Value.{Value}
use Rattle.hfs_model.specs.declared.reply.Value.TheVariants as value
use Rattle.hfs_model.specs.Children.{entries_of}
use Rattle.hfs_model.specs.Reading.{get_cat_info}
use Rattle.hfs_model.specs.Volume.{Volume}
use Rattle.hfs_put_plan.specs.declared.items.PutItem.{PutItem}
use Rattle.hfs_put_plan.specs.declared.over.Placing.{Placing}
use Rattle.hfs_put_plan.specs.declared.over.Placing.TheVariants as placing
use Rattle.hfs_put_plan.specs.declared.over.Standing.{Standing}
use Rattle.hfs_put_plan.specs.declared.reasons.Findings.{Findings}
use Rattle.hfs_put_plan.specs.declared.reasons.Why.{Why}
use Rattle.hfs_put_plan.specs.declared.reasons.Why.TheVariants.{NoName}
use Rattle.hfs_put_plan.specs.Placing.{how_placed}
use Rattle.hfs_put_plan.specs.Why.{why_not}
use Rattle.hfs_put_sources.specs.declared.entry.Look.{Look}
use Rattle.hfs_put_sources.specs.declared.plan.ItemPlan.{ItemPlan}
use Rattle.hfs_put_sources.specs.Items.{PlannedItem}
use Rattle.hfs_put_sources.specs.Plans.{fit, is_folder}
use Rattle.hfs_put.specs.declared.decisions.Decision.{Decision}
use Rattle.hfs_put.specs.declared.decisions.Decision.TheVariants as decided
use Rattle.hfs_put.specs.declared.decisions.Destination.{Destination}
use Rattle.hfs_put.specs.declared.decisions.Destination.TheVariants as destination

-- ---- what is on the disk

-- what a value says about one item
abbrev pub info_in : Value → Option Info
info_in (value.One info) = Some info
info_in value.Nothing = None
info_in (value.Id id) = None
info_in (value.Many infos) = None
info_in (value.Bytes bytes) = None
info_in (value.Full free depth) = None
info_in (value.Room free wanted) = None
info_in (value.ExtentNodes free depth) = None
info_in (value.Place dir name) = None

-- what GetCatInfo says about the folder's item of that name
abbrev pub info_named : Volume → ℕ → Option (List ℕ) → Option Info
info_named v dir (Some name) = info_in (get_cat_info (entries_of v) dir name).value
info_named v dir None = None

abbrev pub standing_of : Option Info → Option Standing
standing_of (Some info) = Some (record { kind = info.kind; locked = info.locked })
standing_of None = None

-- ---- the item

abbrev pub item_kind : Option Look → ItemKind
item_kind own = if is_folder own then Folder else File

abbrev pub fork_spans_fit : ItemPlan → Bool
fork_spans_fit plan = fit plan.data_fork plan.resource_fork

-- its first call is refused, by -48
abbrev pub is_taken : Placing → Bool
is_taken placing.New = false
is_taken placing.Kept = false
is_taken (placing.Replaced locked) = false
is_taken placing.Taken = true

-- what was found of it, with what is known of its place
abbrev pub findings_with : Placing → ItemPlan → Findings
findings_with placing plan = record {
  is_item = plan.found.is_item;
  fits = plan.found.fits && fork_spans_fit plan;
  is_double = plan.found.is_double;
  is_named = is_some plan.name;
  is_first = plan.found.is_first;
  is_accepted = not (is_taken placing);
}

abbrev pub put_item : Option ℕ → ItemPlan → List ℕ → Placing → PutItem
put_item parent plan name placing = record {
  parent = parent;
  kind = item_kind plan.own;
  name = name;
  placing = placing;
  facts = plan.facts;
  data_len = plan.data_fork.len;
  resource_len = plan.resource_fork.len;
}

-- ---- what lies in it

abbrev pub inside_kept : Option Info → Destination
inside_kept (Some info) = destination.OnDisk info.id
inside_kept None = destination.Made

-- what lies in a folder that stays is put into it; in what is new nothing is there
abbrev pub inside_of : Placing → Option Info → Destination
inside_of placing.Kept there = inside_kept there
inside_of placing.New there = destination.Made
inside_of (placing.Replaced locked) there = destination.Made
inside_of placing.Taken there = destination.Made

-- ---- the decision

-- what has a name is put where nothing is against it
abbrev pub decision_by : Option Why → Option (List ℕ) → Placing → Destination → PlannedItem → Decision
decision_by (Some why) name placing inside item = decided.Refused why
decision_by None (Some name) placing inside item = decided.Put (put_item item.parent item.plan name placing) inside
decision_by None None placing inside item = decided.Refused NoName

-- of an item that gets its place so
abbrev pub placed_by : Placing → Destination → PlannedItem → Decision
placed_by placing folder item = decision_by (why_not (findings_with placing item.plan)) item.plan.name placing folder item

-- how it gets its place where this is there
abbrev pub placing_over : Bool → Option Info → PlannedItem → Placing
placing_over replace there item = how_placed (standing_of there) (item_kind item.plan.own) replace

abbrev pub judged : Bool → Option Info → PlannedItem → Decision
judged replace there item = placed_by (placing_over replace there item) (inside_of (placing_over replace there item) there) item

-- of an item that is put into that folder, where files may be replaced or may not
abbrev pub decision : Volume → Bool → Destination → PlannedItem → Decision
decision v replace (destination.OnDisk dir) item = judged replace (info_named v dir item.plan.name) item
decision v replace destination.Made item = judged replace None item
decision v replace destination.Refused item = decided.Untold

-- the folder into which what lies in it is put
abbrev pub inside : Decision → Destination
inside (decided.Put item folder) = folder
inside (decided.Refused why) = destination.Refused
inside decided.Untold = destination.Refused
