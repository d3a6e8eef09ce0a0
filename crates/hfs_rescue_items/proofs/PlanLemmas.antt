-- What is planned, step by step.
use Rattle.std.proofs.Common.{◌≡◌, ℕ, suc, ◌+◌, ◌-◌, ◌<◌, ◌≤◌, Bool, true, false, ◌&&◌, ◌||◌, ◌==◌, if◌then◌else◌, List, [], ◌∷◌, ◌++◌, length, take, drop, slice_index_or, Option, Some, None, Vec, Global, refl, sym, ap, ◌∙◌, arith, length-drop, length-take}
use Rattle.std.specs.List.{fold, list_any, range_with_len}
use Rattle.std.specs.Option.{IsSomeAnd}
use Rattle.std.specs.Str.{bytes_eq}
use Rattle.std.proofs.lemmas.Bool.{eq-eqb, ne_eqb, true≢false}
use Rattle.std.proofs.lemmas.List.{drop_more, take_rest}
use Rattle.std.proofs.lemmas.List.Folds.{list_any-append}
use Rattle.std.proofs.lemmas.List.Sums.{fold-append}
use Rattle.std.proofs.lemmas.Option.{slice_get_past, slice_get_read}
use Rattle.hfs_bag.specs.declared.item.BagKind.{BagKind}
use Rattle.hfs_bag.specs.declared.item.BagKind.TheVariants as bag
use Rattle.hfs_remains_forks.specs.declared.findings.FoundFork.{FoundFork}
use Rattle.hfs_remains_forks.specs.declared.shares.FileShares.{FileShares}
use Rattle.hfs_remains_forks.specs.Verdicts.{FindsFork, IsForkOf, finding_of, shares_at, used_for}
use Rattle.hfs_remains.specs.declared.catalog.FoundRecord.{FoundRecord}
use Rattle.hfs_remains.specs.Items.{AddsRow, has_row}
use Rattle.hfs_space.specs.declared.fork_kind.ForkKind.TheVariants.{Data}
use Rattle.hfs_remains_places.specs.declared.verdict.Finding.{Finding}
use Rattle.hfs_remains_places.specs.declared.verdict.Verdict.TheVariants.{Left, Taken}
use Rattle.hfs_rescue_items.specs.declared.found.Found.{Found}
use Rattle.hfs_rescue_items.specs.declared.plan.Planned.{Planned}
use Rattle.hfs_rescue_items.specs.Found.{path_at}
use Rattle.hfs_rescue_items.specs.Plan.{AreAllMade, KnowsFolders, NotesRow, file_kind, first_part, folder_before, folders_above, is_made, kind_by, last_part, makes, makes_folder, of_kind, own_kind, part_behind, path_of, thing_kind, whole_plan, with_folder, with_kind, with_own, with_path, with_thing}

or-none : (a : Bool) → a ≡ (a || false)
or-none true = refl
or-none false = refl

-- ---- the paths of made folders

pub notes_none : (kind : BagKind) (row : Vec ℕ Global) (rows : List (Vec ℕ Global)) → makes_folder kind ≡ false → NotesRow kind row rows rows
notes_none kind row rows none = λ other.
    or-none (has_row rows other) ∙ ap (λ (b : Bool). has_row rows other || (b && bytes_eq row.items other.items)) (sym none)

pub notes_row : (kind : BagKind) (row : Vec ℕ Global) (old new : List (Vec ℕ Global)) → makes_folder kind ≡ true → AddsRow row old new → NotesRow kind row old new
notes_row kind row old new makes adds = λ other.
    adds other ∙ ap (λ (b : Bool). has_row old other || (b && bytes_eq row.items other.items)) (sym makes)

-- one part more
pub made-push : (found : Found) (parts : List Planned) (part : Planned) (path : List ℕ) → is_made found (parts ++ part ∷ []) path ≡ (is_made found parts path || makes found path part)
unfolding is_made
made-push found parts part path =
    list_any-append (makes found path) parts (part ∷ []) ∙ ap (λ (b : Bool). list_any (makes found path) parts || b) (sym (or-none (makes found path part)))

pub knows_more : (found : Found) (parts : List Planned) (part : Planned) (row : Vec ℕ Global) (old new : List (Vec ℕ Global)) → KnowsFolders found parts old
    → row.items ≡ path_of found part → NotesRow part.kind row old new → KnowsFolders found (parts ++ part ∷ []) new
knows_more found parts part row old new knows is notes = λ other.
    notes other
    ∙ (λ i. knows other i || (makes_folder part.kind && bytes_eq (is i) other.items))
    ∙ sym (made-push found parts part other.items)

-- ---- folders

-- the row of a path tells whether its folder is made
made-by : (found : Found) (parts : List Planned) (rows : List (Vec ℕ Global)) (row : Vec ℕ Global) (path : List ℕ) → KnowsFolders found parts rows → row.items ≡ path
    → has_row rows row ≡ is_made found parts path
made-by found parts rows row path knows is = knows row ∙ ap (is_made found parts) is

pub folder_there : (found : Found) (parts : List Planned) (part : Planned) (rows : List (Vec ℕ Global)) (row : Vec ℕ Global) → KnowsFolders found parts rows
    → row.items ≡ path_of found part → has_row rows row ≡ true → parts ≡ with_folder found parts part
unfolding with_folder
folder_there found parts part rows row knows is there =
    ap (λ (b : Bool). if b then parts else parts ++ part ∷ []) (sym there ∙ made-by found parts rows row (path_of found part) knows is)

pub folder_put : (found : Found) (parts new : List Planned) (part : Planned) (rows : List (Vec ℕ Global)) (row : Vec ℕ Global) → KnowsFolders found parts rows
    → row.items ≡ path_of found part → has_row rows row ≡ false → new ≡ parts ++ part ∷ [] → new ≡ with_folder found parts part
unfolding with_folder
folder_put found parts new part rows row knows is none put =
    put ∙ ap (λ (b : Bool). if b then parts else parts ++ part ∷ []) (sym none ∙ made-by found parts rows row (path_of found part) knows is)

-- one byte more of a path
pub folders_more : (found : Found) (parts now whole : List Planned) (part part' : Planned) (byte : ℕ) (rest behind : List ℕ) → rest ≡ byte ∷ behind
    → fold (with_folder found) parts (folders_above part rest) ≡ whole → now ≡ fold (with_folder found) parts (folder_before part byte) → part' ≡ part_behind part byte
    → fold (with_folder found) now (folders_above part' behind) ≡ whole
folders_more found parts now whole part part' byte rest behind first so put next =
    (λ i. fold (with_folder found) (put i) (folders_above (next i) behind))
    ∙ sym (fold-append (with_folder found) parts (folder_before part byte) (folders_above (part_behind part byte) behind))
    ∙ ap (λ (l : List ℕ). fold (with_folder found) parts (folders_above part l)) (sym first) ∙ so

pub last_more : (whole part part' : Planned) (byte : ℕ) (rest behind : List ℕ) → rest ≡ byte ∷ behind → fold part_behind part rest ≡ whole → part' ≡ part_behind part byte
    → fold part_behind part' behind ≡ whole
last_more whole part part' byte rest behind first so next =
    ap (λ (p : Planned). fold part_behind p behind) next ∙ ap (fold part_behind part) (sym first) ∙ so

-- ---- the first byte of what is left

pub split-first : (rest : List ℕ) → 1 ≤ length rest → rest ≡ slice_index_or rest 0 0 ∷ take (length rest - 1) (drop 1 rest)
split-first rest some = drop_more rest 0 0 (omega (arith, some)) ∙ ap (λ (l : List ℕ). slice_index_or rest 0 0 ∷ l) (sym (take_rest rest 1))

pub left-step : (part part' : Planned) (byte : ℕ) (rest : List ℕ) (n : ℕ) → 1 ≤ length rest → part.to + length rest ≡ n → part' ≡ part_behind part byte
    → part'.to + length (take (length rest - 1) (drop 1 rest)) ≡ n
unfolding part_behind
left-step part part' byte rest n some so next =
    omega (arith, some, so, ap (λ (p : Planned). p.to) next, length-take (length rest - 1) (drop 1 rest), length-drop 1 rest)

-- ---- kinds

taken-kind : (b : Bool) (finding : Finding) → kind_by (if b then Taken finding else Left) ≡ (if b then bag.File else bag.DoubleAlone)
taken-kind true finding = refl
taken-kind false finding = refl

pub file_kinds : (found : Found) (i : ℕ) (fork : FoundFork) (kind : BagKind) → FindsFork found.salvage.now i Data (Some fork) → kind ≡ kind_by fork.verdict
    → kind ≡ file_kind (shares_at found.salvage.now i)
file_kinds found i fork kind finds is = is ∙ by (shares_at found.salvage.now i) finds
  where
    by : (o : Option FileShares) → IsSomeAnd o (IsForkOf found.salvage.now Data fork) → kind_by fork.verdict ≡ file_kind o
    by None finds = absurd finds
    by (Some file) finds =
        let t = found.salvage.now.trees in
        ap kind_by finds.verdict_is ∙ taken-kind file.«data».taken (finding_of t.total t.overflow.now t.mdb.now (used_for found.salvage.now file) file.«data».fork)

pub no_file_kind : (found : Found) (i : ℕ) → shares_at found.salvage.now i ≡ None → bag.DoubleAlone ≡ file_kind (shares_at found.salvage.now i)
no_file_kind found i none = ap file_kind (sym none)

pub named_own : (found : Found) (i : ℕ) (made : Bool) (kind : Option BagKind) → length found.items.now ≤ i → kind ≡ (if made then None else Some bag.FolderAlone)
    → kind ≡ own_kind found i made
unfolding own_kind
named_own found i made kind past is = is ∙ ap (thing_kind found i made) (sym (slice_get_past found.items.now i past))

pub item_own : (found : Found) (i : ℕ) (made : Bool) (item : FoundRecord) (kind : BagKind) → i < length found.items.now → item ≡ slice_index_or found.items.now i item
    → Some kind ≡ thing_kind found i made (Some item) → Some kind ≡ own_kind found i made
unfolding own_kind
item_own found i made item kind within is told =
    told ∙ ap (thing_kind found i made) (sym (slice_get_read found.items.now (length found.items.now) i item refl within is))

-- nothing is made at a thing's own path, or this
pub own_nothing : (found : Found) (parts : List Planned) (part : Planned) (rows : List (Vec ℕ Global)) (row : Vec ℕ Global) (made : Bool) → KnowsFolders found parts rows
    → row.items ≡ path_of found part → made ≡ has_row rows row → None ≡ own_kind found part.place made → parts ≡ with_own found parts part
own_nothing found parts part rows row made knows is tells none =
    ap (with_kind parts part) (none ∙ ap (own_kind found part.place) (tells ∙ made-by found parts rows row (path_of found part) knows is))

pub own_put : (found : Found) (parts new : List Planned) (part : Planned) (rows : List (Vec ℕ Global)) (row : Vec ℕ Global) (made : Bool) (kind : BagKind)
    → KnowsFolders found parts rows → row.items ≡ path_of found part → made ≡ has_row rows row → Some kind ≡ own_kind found part.place made
    → new ≡ parts ++ of_kind kind part ∷ [] → new ≡ with_own found parts part
own_put found parts new part rows row made kind knows is tells some put =
    put ∙ ap (with_kind parts part) (some ∙ ap (own_kind found part.place) (tells ∙ made-by found parts rows row (path_of found part) knows is))

-- ---- things

pub root_planned : (found : Found) (i : ℕ) (parts : List Planned) (path : List ℕ) → path ≡ path_at found.places.now i → length path ≡ 0 → parts ≡ with_thing found parts i
unfolding with_thing
root_planned found i parts path is none =
    let empty : (length (path_at found.places.now i) == 0) ≡ true = eq-eqb (length (path_at found.places.now i)) 0 (ap length (sym is) ∙ none) in
    ap (λ (b : Bool). if b then parts else with_path found i (path_at found.places.now i) parts) (sym empty)

pub thing_planned : (found : Found) (i : ℕ) (parts above now : List Planned) (path : List ℕ) (part : Planned) → path ≡ path_at found.places.now i → (length path ≡ 0 → ⊥)
    → part ≡ last_part i path → above ≡ fold (with_folder found) parts (folders_above (first_part i) path) → now ≡ with_own found above part
    → now ≡ with_thing found parts i
unfolding with_thing
thing_planned found i parts above now path part is some last folders own =
    let full : (length (path_at found.places.now i) == 0) ≡ false = ne_eqb (length (path_at found.places.now i)) 0 (λ none. some (ap length is ∙ none)) in
    let behind : above ≡ fold (with_folder found) parts (folders_above (first_part i) (path_at found.places.now i)) =
    folders ∙ ap (λ (l : List ℕ). fold (with_folder found) parts (folders_above (first_part i) l)) is in
    let ends : part ≡ last_part i (path_at found.places.now i) = last ∙ ap (last_part i) is in
    own ∙ (λ k. with_own found (behind k) (ends k))
    ∙ ap (λ (b : Bool). if b then parts else with_path found i (path_at found.places.now i) parts) (sym full)

-- ---- the whole plan

pub knows_none : (found : Found) (parts : List Planned) (rows : List (Vec ℕ Global)) → parts ≡ [] → rows ≡ [] → KnowsFolders found parts rows
unfolding is_made
knows_none found parts rows none empty = λ row. ap (λ (l : List (Vec ℕ Global)). has_row l row) empty ∙ sym (ap (λ (l : List Planned). list_any (makes found row.items) l) none)

none-made : (found : Found) (path : List ℕ) → is_made found [] path ≡ false
unfolding is_made
none-made found path = refl

pub all_none : (found : Found) (parts : List Planned) → parts ≡ [] → AreAllMade found parts
all_none found parts none = λ path t made within slash.
    absurd (true≢false (sym made ∙ ap (λ (l : List Planned). is_made found l path) none ∙ none-made found path))

pub plan_begun : (found : Found) (parts : List Planned) (n : ℕ) → parts ≡ [] → n ≡ length found.places.now → fold (with_thing found) parts (range_with_len 0 (n - 0)) ≡ whole_plan found
plan_begun found parts n none all =
    let count : n - 0 ≡ length found.places.now = omega (arith, all) in
    λ i. fold (with_thing found) (none i) (range_with_len 0 (count i))

pub thing_more : (found : Found) (i n : ℕ) (parts now whole : List Planned) → i < n → fold (with_thing found) parts (range_with_len i (n - i)) ≡ whole → now ≡ with_thing found parts i
    → fold (with_thing found) now (range_with_len (i + 1) (n - (i + 1))) ≡ whole
thing_more found i n parts now whole within so put =
    let one : n - i ≡ suc (n - (i + 1)) = omega (arith, within) in
    ap (λ (ps : List Planned). fold (with_thing found) ps (range_with_len (i + 1) (n - (i + 1)))) put
    ∙ ap (λ (m : ℕ). fold (with_thing found) parts (range_with_len i m)) (sym one) ∙ so

pub plan_ends : (found : Found) (i n : ℕ) (parts whole : List Planned) → n ≤ i → fold (with_thing found) parts (range_with_len i (n - i)) ≡ whole → parts ≡ whole
plan_ends found i n parts whole end so =
    let none : 0 ≡ n - i = omega (arith, end) in
    ap (λ (m : ℕ). fold (with_thing found) parts (range_with_len i m)) none ∙ so
