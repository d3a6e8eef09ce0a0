-- What a check answers.
use Rattle.std.specs.Prelude.{◌≡◌, ◌⊎◌, ℕ, List, Option, Some, None, Result, IfOk, MatchResult, if◌then◌else◌, ◌++◌}
use Rattle.std.proofs.Common.{Vec, Global}
use Rattle.hfs_fields.specs.Records.{is_file, file_record_of}
use Rattle.hfs_btree_checks.specs.Order.{key_fault, order_fault}
use Rattle.hfs_btree_checks.specs.Shape.{shape_fault, ◌or_else◌}
use Rattle.hfs_btree.specs.Tree.{Store}
use Rattle.hfs_space.specs.declared.files.CatalogFile.{CatalogFile}
use Rattle.hfs_space.specs.TreeKeys.{ext_keys, overflow_of}
use Rattle.hfs_fields.specs.declared.extent.Extent.{Extent}
use Rattle.hfs_fields.specs.declared.mdb.Mdb.{Mdb}
use Rattle.hfs_space.specs.Extents.{Overflow, extent_blocks}
use Rattle.hfs_space.specs.Faults.{fork_fault, space_fault}
use Rattle.hfs_space.specs.Owners.{owned_blocks}
use Rattle.hfs_catalog.specs.Records.{Catalog}
use Rattle.hfs_catalog.specs.Tree.{catalog_of}
use Rattle.hfs_catalog.specs.Faults.{record_fault, id_fault, valence_fault, count_fault}
use Rattle.hfs_check.specs.Parts.{Blocks, extents_nodes, catalog_extents, catalog_nodes, owned_in}
use Rattle.hfs_check.specs.Faults.{◌or_fault◌, check_fault, extents_fault, extents_counts, catalog_fault, catalog_counts, trees_fault, catalog_name_fault, catalog_place_fault, is_fork_key, records_fault, numbers_fault, blocks_fault}
use Rattle.hfs_check.specs.declared.mount_fault.MountFault.{MountFault}
use Rattle.hfs_check.specs.declared.mount_fault.MountFault.TheVariants.{Memory}
use Rattle.std.specs.Option.{option_to_list}
use Rattle.hfs_btree_checks.specs.ShapeSteps.{IsFault}
use Rattle.hfs_btree_checks.specs.declared.fault.TreeFault.{TreeFault}

-- the answer is this first fault, or memory was refused
abbrev pub IsFaultOf : Option MountFault → MountFault → Type 0
IsFaultOf fault answer = (answer ≡ Memory) ⊎ (fault ≡ Some answer)

-- Ok where there is no fault, and else this first fault, or memory was refused
abbrev pub Answers : {A : Type 0} → Option MountFault → Result A MountFault → Type 0
Answers fault result = MatchResult result (λ _. fault ≡ None) (IsFaultOf fault)

-- the answer is the first fault of so many blocks, or memory was refused
abbrev pub IsFaultIn : ℕ → Blocks → MountFault → Type 0
IsFaultIn total blocks answer = IsFaultOf (blocks_fault total blocks) answer

-- the answer of the check of this number to a fault of its tree
abbrev pub IsAnswerTo : TreeFault → ℕ → MountFault → Type 0
IsAnswerTo fault number answer = (place : Option ℕ) → IsFault place fault → IsFaultOf (check_fault number place) answer

-- the first fault of the forks in the keys of an extents tree
abbrev pub fork_key_fault : Store → Option ℕ
fork_key_fault nodes = key_fault ext_keys nodes is_fork_key

-- the first fault of an extents tree in a file of so many bytes
abbrev pub extents_tree_fault : ℕ → Store → Option ℕ
extents_tree_fault size nodes = shape_fault ext_keys size nodes or_else fork_key_fault nodes or_else order_fault ext_keys nodes

-- what check 3 answers of a volume with this master directory block: the extents tree
abbrev pub extents_check_fault : Mdb → Blocks → Option MountFault
extents_check_fault mdb blocks = check_fault 3 (extents_fault (extents_counts blocks) mdb (extents_nodes blocks))

-- and check 4: the catalog tree
abbrev pub catalog_check_fault : Mdb → Blocks → Option MountFault
catalog_check_fault mdb blocks = check_fault 4 (catalog_fault (catalog_counts blocks) mdb (catalog_extents blocks) (catalog_nodes blocks))

-- the first fault of the two trees, as their headers count
abbrev pub both_trees_fault : Blocks → Option MountFault
both_trees_fault blocks = trees_fault (extents_counts blocks) (catalog_counts blocks) blocks

-- a file's record with its number, where the body is one
abbrev pub numbered_file : ℕ → List ℕ → Option CatalogFile
numbered_file number body = if is_file body then Some (record { number = number; file = file_record_of body }) else None

-- the files, and after them that of a record with this number, where the body is a file's
abbrev pub with_file : List CatalogFile → ℕ → List ℕ → List CatalogFile
with_file files number body = files ++ option_to_list (numbered_file number body)

-- the first fault of a catalog's records, which lie in these nodes, on a volume whose next ID this is
abbrev pub listed_fault : ℕ → Store → Catalog → Option MountFault
listed_fault next nodes catalog =
    check_fault 5 (record_fault catalog) or_fault check_fault 6 (id_fault next catalog) or_fault check_fault 7 (catalog_name_fault nodes catalog)
    or_fault check_fault 8 (catalog_place_fault nodes catalog)

-- the first fault of the numbers that are counted, and of the space
abbrev pub counted_fault : Blocks → Mdb → Overflow → Catalog → Option MountFault
counted_fault blocks mdb overflow catalog =
    check_fault 9 (valence_fault catalog) or_fault check_fault 10 (count_fault mdb catalog) or_fault check_fault 11 (fork_fault mdb overflow catalog)
    or_fault check_fault 12 (space_fault blocks mdb (owned_blocks mdb overflow catalog))

-- the first fault of what the two trees hold, whose nodes these are
abbrev pub contents_fault : Blocks → Mdb → Store → Store → Option MountFault
contents_fault blocks mdb extents catalog = listed_fault mdb.next_id catalog (catalog_of catalog) or_fault counted_fault blocks mdb (overflow_of extents) (catalog_of catalog)

-- these are all extents that somebody owns, where the two trees have these nodes
abbrev pub AreOwned : Mdb → Overflow → Catalog → List Extent → Type 0
AreOwned mdb overflow catalog owned = extent_blocks owned ≡ owned_blocks mdb overflow catalog

-- these are all extents that somebody owns in a volume of these blocks
abbrev pub AreAllOwned : Blocks → List Extent → Type 0
AreAllOwned blocks owned = extent_blocks owned ≡ owned_in blocks

-- the first fault after the checks of the two trees
abbrev pub behind_trees_fault : Blocks → Option MountFault
behind_trees_fault blocks = records_fault blocks or_fault numbers_fault blocks

-- these are all extents that somebody owns, where these are the nodes of the two trees
abbrev pub AreOwnedIn : Mdb → Store → Store → List Extent → Type 0
AreOwnedIn mdb extents catalog owned = AreOwned mdb (overflow_of extents) (catalog_of catalog) owned

-- the checks of what the two trees hold, of extents and of space, and of what is counted, as they are answered
abbrev pub AnswersContents : {A : Type 0} → Blocks → Mdb → Store → Store → Result A MountFault → Type 0
AnswersContents blocks mdb extents catalog result = Answers (contents_fault blocks mdb extents catalog) result

abbrev pub AnswersForks : {A : Type 0} → Mdb → Store → Catalog → Result A MountFault → Type 0
AnswersForks mdb extents catalog result = Answers (check_fault 11 (fork_fault mdb (overflow_of extents) catalog)) result

abbrev pub AnswersSpace : {A : Type 0} → Blocks → Mdb → List Extent → Result A MountFault → Type 0
AnswersSpace blocks mdb owned result = Answers (check_fault 12 (space_fault blocks mdb (extent_blocks owned))) result

abbrev pub AnswersNumbers : {A : Type 0} → Blocks → Mdb → Store → Catalog → Result A MountFault → Type 0
AnswersNumbers blocks mdb extents catalog result = Answers (counted_fault blocks mdb (overflow_of extents) catalog) result

-- the answer has all extents that somebody owns
abbrev pub GivesAllOwned : {E : Type 0} → Mdb → Overflow → Catalog → Result (Vec Extent Global) E → Type 0
GivesAllOwned mdb overflow catalog result = IfOk result (λ owned. AreOwned mdb overflow catalog owned.items)

-- the answer has all extents that somebody owns, where these are the nodes of the two trees
abbrev pub GivesOwnedIn : {E : Type 0} → Mdb → Store → Store → Result (Vec Extent Global) E → Type 0
GivesOwnedIn mdb extents catalog result = IfOk result (λ owned. AreOwnedIn mdb extents catalog owned.items)
