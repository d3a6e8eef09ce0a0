-- What is planned of an item: its name, its facts, where its forks lie, and what was found of it.
use Rattle.std.specs.Prelude.{ℕ, Bool, true, false, ◌&&◌, ◌||◌, not, if◌then◌else◌, List, Option, Some, None, is_none, is_some, chars}
use Rattle.hfs_encodings.specs.IncomingAppleDouble.{apple_double_in}
use Rattle.hfs_encodings.specs.IncomingMacBinary.{macbinary_in}
use Rattle.hfs_encodings.specs.Names.{given_name}
use Rattle.hfs_encodings.specs.Spelled.{host_letters}
use Rattle.hfs_encodings.specs.declared.incoming_apple_double.AppleDoubleFile.{AppleDoubleFile}
use Rattle.hfs_encodings.specs.declared.forks.ForkPlace.{ForkPlace}
use Rattle.hfs_encodings.specs.declared.incoming_macbinary.MacBinaryFile.{MacBinaryFile}
use Rattle.hfs_put_plan.specs.Facts.{double_facts, macbinary_facts}
use Rattle.hfs_put_plan.specs.Names.{put_name}
use Rattle.hfs_put_plan.specs.Why.{is_too_large}
use Rattle.hfs_put_plan.specs.declared.entries.EntryKind.{EntryKind}
use Rattle.hfs_put_plan.specs.declared.entries.EntryKind.TheVariants.{File, Folder, Other}
use Rattle.hfs_put_plan.specs.declared.facts.ToldFacts.{ToldFacts}
use Rattle.hfs_put_plan.specs.declared.reasons.Findings.{Findings}
use Rattle.hfs_put_sources.specs.declared.entry.Look.{Look}
use Rattle.hfs_put_sources.specs.declared.plan.ForkSpan.{ForkSpan}
use Rattle.hfs_put_sources.specs.declared.plan.ItemPlan.{ItemPlan}
use Rattle.hfs_put_sources.specs.declared.plan.PutOptions.{PutOptions}
use Rattle.hfs_put_sources.specs.Looks.{host_date}
use Rattle.hfs_put_sources.specs.Trees.{Tree}

-- ---- kinds

abbrev pub is_file_kind : EntryKind → Bool
is_file_kind (File len) = true
is_file_kind Folder = false
is_file_kind Other = false

abbrev pub is_folder_kind : EntryKind → Bool
is_folder_kind (File len) = false
is_folder_kind Folder = true
is_folder_kind Other = false

abbrev pub is_file : Option Look → Bool
is_file (Some look) = is_file_kind look.kind
is_file None = false

abbrev pub is_folder : Option Look → Bool
is_folder (Some look) = is_folder_kind look.kind
is_folder None = false

-- a file, a folder, or a file that has nothing but what belongs to it by its name
abbrev pub is_item : Option Look → Bool
is_item own = is_none own || is_file own || is_folder own

-- ---- forks

abbrev pub no_span : ForkSpan
no_span = record { start = 0; len = 0 }

abbrev pub span_of : ForkPlace → ForkSpan
span_of place = record { start = place.start; len = place.len }

abbrev pub kind_span : EntryKind → ForkSpan
kind_span (File len) = record { start = 0; len = len }
kind_span Folder = no_span
kind_span Other = no_span

-- the data fork is a file's bytes
abbrev pub data_span : Option Look → ForkSpan
data_span (Some look) = kind_span look.kind
data_span None = no_span

abbrev pub double_span : Option AppleDoubleFile → ForkSpan
double_span (Some double) = span_of double.resource_fork
double_span None = no_span

-- the resource fork is that of what belongs to it by its name; a folder has none
abbrev pub resource_span : Option Look → Option AppleDoubleFile → ForkSpan
resource_span own double = if is_folder own then no_span else double_span double

abbrev pub fit : ForkSpan → ForkSpan → Bool
fit data_fork resource_fork = not (is_too_large data_fork.len) && not (is_too_large resource_fork.len)

-- ---- plans

-- when an item was last changed: by its own file or folder, or else by what belongs to it
abbrev pub modified_date : Option Look → Option Look → ℕ
modified_date (Some own) double = host_date own.modified
modified_date None (Some double) = host_date double.modified
modified_date None None = 0

-- what was found, as far as one item shows: none before it has its name, and no call has refused it
abbrev pub findings : Bool → Bool → Bool → Bool → Findings
findings is_item fits is_double is_named =
    record { is_item = is_item; fits = fits; is_double = is_double; is_named = is_named; is_first = true; is_accepted = true }

abbrev pub host_put_name : List ℕ → Bool → Option (List ℕ)
host_put_name name rename = put_name (given_name (host_letters (chars name))) rename

-- by what belongs to it by its name
abbrev pub plain_plan : PutOptions → Option ToldFacts → Option Look → Option Look → List ℕ → Option AppleDoubleFile → ItemPlan
plain_plan how told own double name found = record {
  own = own;
  double = double;
  is_macbinary = false;
  name = host_put_name name how.rename;
  facts = double_facts told found (modified_date own double);
  data_fork = data_span own;
  resource_fork = resource_span own found;
  found = findings (is_item own) (fit (data_span own) (resource_span own found)) (is_none double || is_some found)
      (is_some (host_put_name name how.rename));
}

-- by its own MacBinary header, where what belongs to it by its name is passed over
abbrev pub macbinary_plan : PutOptions → Option ToldFacts → Option Look → MacBinaryFile → ItemPlan
macbinary_plan how told own file = record {
  own = own;
  double = None;
  is_macbinary = true;
  name = put_name file.name how.rename;
  facts = macbinary_facts told file;
  data_fork = span_of file.data_fork;
  resource_fork = span_of file.resource_fork;
  found = findings true (fit (span_of file.data_fork) (span_of file.resource_fork)) true (is_some (put_name file.name how.rename));
}

-- ---- of a tree

-- what its own file holds that is MacBinary, where that is asked for
abbrev pub header_at : Tree → PutOptions → Option Look → List ℕ → Option MacBinaryFile
header_at host how own path = if how.macbinary && is_file own then macbinary_in (host.bytes path) else None

-- what the file holds that is AppleDouble
abbrev pub double_at : Tree → Option Look → List ℕ → Option AppleDoubleFile
double_at host double path = if is_file double then apple_double_in (host.bytes path) else None

abbrev pub plan_by : Option MacBinaryFile → PutOptions → Option ToldFacts → Option Look → Option Look → List ℕ → Option AppleDoubleFile → ItemPlan
plan_by (Some file) how told own double name found = macbinary_plan how told own file
plan_by None how told own double name found = plain_plan how told own double name found

-- of an item by its name, what is seen of its own entry and of the one that belongs to it, and the paths of both
abbrev pub plan_at : Tree → PutOptions → Option ToldFacts → Option Look → Option Look → List ℕ → List ℕ → List ℕ → ItemPlan
plan_at host how told own double name path double_path =
    plan_by (header_at host how own path) how told own double name (double_at host double double_path)
