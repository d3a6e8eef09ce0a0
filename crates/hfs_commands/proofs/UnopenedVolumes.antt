-- Why a volume isn't opened to be changed.
use Rattle.std.proofs.Common.{◌≡◌, ℕ, List, Option, None, Some, refl, subst, sym, inl, inr}
use Rattle.std.specs.Borrow.{Bor}
use Rattle.hfs_commands.specs.declared.fault.Fault.{Fault}
use Rattle.hfs_commands.specs.declared.fault.Fault.TheVariants.{CannotRead, NoMemory, NotWritten, SumWrong}
use Rattle.hfs_commands.specs.declared.opened_file.OpenedFile.{OpenedFile}
use Rattle.hfs_commands.specs.declared.unopened.LeftFile.{LeftFile}
use Rattle.hfs_commands.specs.declared.unopened.LeftFile.TheVariants.{Content, Input, Nothing, Part}
use Rattle.hfs_commands.specs.declared.unopened.UnopenedFile.{UnopenedFile}
use Rattle.hfs_commands.specs.Faults.{IsUnopened, IsUnopenedVolume}
use Rattle.hfs_commands.specs.OpenedFiles.{IsLaidOut, IsWholeRange, images_of, opened_layout}
use Rattle.hfs_commands.specs.Parts.{IsRangeAt, IsWholeAt}
use Rattle.hfs_commands.specs.Unopened.{HasNoPart, IsReadFault, TellsLeft, TellsPlace, TellsWhy, WasNotRead}
use Rattle.hfs_commands.specs.WatchedVolumes.{HasNoVolume, IsWrongSum, range_at}
use Rattle.hfs_source.specs.Asking.{asked_in}
use Rattle.hfs_source.specs.Images.{OfEach}
use Rattle.hfs_source.specs.declared.asking.Asked.TheVariants.{Inside}
use Rattle.hfs_source.specs.declared.asking.Counted.TheVariants.{Ranges}
use Rattle.hfs_source.specs.declared.asking.NumberedRange.{NumberedRange}
use Rattle.hfs_source.specs.declared.ranges.ByteRange.{ByteRange}
use Rattle.hfs_source.specs.declared.ranges.FoundRange.{FoundRange}
use Rattle.hfs_source.specs.declared.ranges.Layout.TheVariants as layout

-- what is told of a file that was handed back
handed : {F : Type 0} (path : Bor (List ℕ)) (number : ℕ) (file : OpenedFile F) (why : Fault) (unopened : UnopenedFile F) → unopened.fault ≡ why
    → unopened.left ≡ Content file → HasNoVolume number file why → TellsWhy path (HasNoVolume number) WasNotRead unopened
handed path number file why unopened fault left told =
    inr (subst (λ l. TellsLeft (HasNoVolume number) WasNotRead l unopened.fault) (sym left) (subst (HasNoVolume number file) (sym fault) told))

-- or of a read that failed
unread : {F : Type 0} (path : Bor (List ℕ)) (number : ℕ) (why : Fault) (unopened : UnopenedFile F) → unopened.fault ≡ why → IsReadFault path why
    → TellsWhy path (HasNoVolume number) WasNotRead unopened
unread path number why unopened fault read = inl (subst (IsReadFault path) (sym fault) read)

-- there is no volume with the number
pub no_volume : {F : Type 0} (path : Bor (List ℕ)) (number : ℕ) (file : OpenedFile F) (why : Fault) (unopened : UnopenedFile F) → unopened.fault ≡ why
    → unopened.left ≡ Content file → IsLaidOut file → TellsPlace path (opened_layout file) Ranges (Some number) (images_of file) why
    → TellsWhy path (HasNoVolume number) WasNotRead unopened
no_volume path number file why unopened fault left laid (inl read) = unread path number why unopened fault read
no_volume path number file why unopened fault left laid (inr none) = handed path number file why unopened fault left (inl (laid, none))

-- the same of what was told where it was looked for
told_left : {F : Type 0} (number : ℕ) (left : LeftFile F) (why : Fault) → TellsLeft (HasNoPart Ranges (Some number)) WasNotRead left why
    → TellsLeft (HasNoVolume number) WasNotRead left why
told_left number Nothing why told = told
told_left number (Input input) why told = told
told_left number (Content file) why told = inl told
told_left number (Part part) why told = told

pub missing_volume : {F : Type 0} (path : Bor (List ℕ)) (number : ℕ) (unopened : UnopenedFile F)
    → TellsWhy path (HasNoPart Ranges (Some number)) WasNotRead unopened → TellsWhy path (HasNoVolume number) WasNotRead unopened
missing_volume path number unopened (inl read) = inl read
missing_volume path number unopened (inr told) = inr (told_left number unopened.left unopened.fault told)

-- its sum is wrong
pub wrong_sum : {F : Type 0} (path : Bor (List ℕ)) (number : ℕ) (file : OpenedFile F) (place : NumberedRange) (why : Fault) (unopened : UnopenedFile F)
    → unopened.fault ≡ why → unopened.left ≡ Content file → IsLaidOut file
    → OfEach (images_of file) (λ bytes. Inside place ≡ asked_in (opened_layout file) Ranges (Some number) bytes)
    → IsWrongSum (images_of file) place.found path why → TellsWhy path (HasNoVolume number) WasNotRead unopened
wrong_sum path number file place why unopened fault left laid asked (inl wrong) =
    handed path number file why unopened fault left
    (inr (inr (wrong.0, laid, (place, λ bytes holds. (sym (asked bytes holds), sym (wrong.1 bytes holds))))))
wrong_sum path number file place why unopened fault left laid asked (inr read) = unread path number why unopened fault read

-- it lies in raw sectors
pub raw_volume : {F : Type 0} (path : Bor (List ℕ)) (number : ℕ) (file : OpenedFile F) (unopened : UnopenedFile F) → unopened.fault ≡ NotWritten
    → unopened.left ≡ Content file → opened_layout file ≡ layout.Raw → IsLaidOut file → TellsWhy path (HasNoVolume number) WasNotRead unopened
raw_volume path number file unopened fault left raw laid = handed path number file NotWritten unopened fault left (inr (inl (refl, raw, laid)))

-- ---- which faults there are, whatever was read

pub same_fault : {F : Type 0} (path : Bor (List ℕ)) (number : ℕ) (why : Fault) (unopened : UnopenedFile F) → unopened.fault ≡ why → IsUnopened path (Some number) why
    → IsUnopenedVolume path number unopened.fault
same_fault path number why unopened fault is = inl (subst (IsUnopened path (Some number)) (sym fault) is)

pub raw_told : {F : Type 0} (path : Bor (List ℕ)) (number : ℕ) (unopened : UnopenedFile F) → unopened.fault ≡ NotWritten
    → IsUnopenedVolume path number unopened.fault
raw_told path number unopened fault = inr (inl fault)

pub sum_fault : {F : Type 0} (path : Bor (List ℕ)) (number : ℕ) (Holds : List ℕ → Type 0) (found : FoundRange) (why : Fault) (unopened : UnopenedFile F)
    → unopened.fault ≡ why → IsWrongSum Holds found path why → IsUnopenedVolume path number unopened.fault
sum_fault path number Holds found why unopened fault (inl wrong) = inr (inr (subst (λ (f : Fault). f ≡ SumWrong) (sym fault) wrong.0))
sum_fault path number Holds found why unopened fault (inr (inl read)) = inl (inl (subst (λ (f : Fault). f ≡ CannotRead path) (sym fault) read))
sum_fault path number Holds found why unopened fault (inr (inr memory)) = inl (inr (inl (inr (subst (λ (f : Fault). f ≡ NoMemory) (sym fault) memory))))

-- ---- where a volume lies that is opened

pub placed_range : (place : Option NumberedRange) (all range : ByteRange) → range ≡ range_at place all → IsRangeAt place range
placed_range None all range is = tt
placed_range (Some place) all range is = is

pub placed_whole : (Old New : List ℕ → Type 0) (place : Option NumberedRange) (all range : ByteRange) → IsWholeRange Old all → OfEach New Old
    → range ≡ range_at place all → IsWholeAt New place range
placed_whole Old New None all range whole held is =
    subst (λ (r : ByteRange). IsWholeRange New r) (sym is) (whole.0, λ image holds. whole.1 image (held image holds))
placed_whole Old New (Some place) all range whole held is = tt
