-- A bag that was given is the one that got its place, and one that was not is taken away.
use Rattle.std.proofs.Common.{◌≡◌, ℕ, List, [], ◌++◌, Option, Some, Result, Ok, Err, ap, subst, inl, inr}
use Rattle.std.specs.Prelude.{IfErr, IfOk}
use Rattle.hfs_bag.specs.declared.fault.BagFault.{BagFault}
use Rattle.hfs_bag.specs.declared.shelf_fault.ShelfFault.{ShelfFault}
use Rattle.hfs_bag.specs.Entries.{ShelfEntry}
use Rattle.hfs_bag.specs.Removals.{HasOpenedFolder, IsPlaced}
use Rattle.hfs_bag.specs.ShelfPlaces.{ShelfPlace, others_in, shelf_place}
use Rattle.hfs_bag.specs.SystemSteps.{SystemStep}
use Rattle.hfs_bag.specs.Told.{Tells}
use Rattle.hfs_source.specs.Images.{OfEach}
use Rattle.hfs_source.specs.Seen.{EachKnown}
use Rattle.hfs_word_take.specs.declared.fault.TakeFault.{TakeFault}
use Rattle.hfs_word_take.specs.TakeFaults.{IsTakeFault, fault_of_shelf}
use Rattle.hfs_word_take.specs.Placed.{IsAwayFor, IsBagAway, IsUnplaced}
use Rattle.hfs_word_take.specs.declared.words.TakeWords.{TakeWords}
use Rattle.hfs_word_take.proofs.FaultLemmas.{of_shelf, unplaced}
use Rattle.hfs_word_take.proofs.PlacedBagLemmas.{bag_away}
use Rattle.hfs_word_rescue.specs.declared.words.BagWords.{BagWords}
use Rattle.hfs_word_rescue.specs.Bags.{OfKnownBag}
use Rattle.hfs_word_rescue.specs.Placed.{IsBagPlaced}
use Rattle.hfs_word_rescue.specs.Words.{as_take_words}

-- ---- a folder that did not get its place

pub unplaced_told : (words : BagWords) (fault : ShelfFault) (found : TakeFault) → found ≡ fault_of_shelf fault → Tells words.folder.now fault
    → IsTakeFault (as_take_words words) found
unplaced_told words fault found told tells = of_shelf (as_take_words words) fault found told (unplaced words.folder.now fault tells)

-- ---- a bag

-- what was given to an empty folder lies in it
pub bag-placed : {T E : Type 0} (Holds : T → List ℕ → Type 0) (Now : List ℕ → Type 0) (len : ℕ) (line : Option (List ℕ)) (words : BagWords) (folder now : List ℕ) (before given : List ShelfEntry)
    (old opened filled : List SystemStep) (steps : T → List SystemStep) (came : Result T E) → before ≡ [] → shelf_place now filled ≡ shelf_place folder opened → HasOpenedFolder words.folder.now folder old opened
    → EachKnown Now (λ known. OfKnownBag known len line words (λ bag. given ≡ before ++ bag)) → IfOk came (λ placed. IsPlaced words.folder.now now given (others_in now filled) (steps placed))
    → IfOk came (λ placed. OfEach (Holds placed) Now) → IfOk came (λ placed. IsBagPlaced (Holds placed) len line words old (steps placed))
bag-placed Holds Now len line words folder now before given old opened filled steps (Ok placed) empty place is_new whole is held = record {
  folder = folder;
  opened = opened;
  is_new = is_new;
  entries = given;
  placed = subst (λ (f : List ℕ). IsPlaced words.folder.now f given (others_in folder opened) (steps placed)) (ap (λ (p : ShelfPlace). p.folder) place)
      (subst (λ (others : List SystemStep). IsPlaced words.folder.now now given others (steps placed)) (ap (λ (p : ShelfPlace). p.others) place) is);
  bag_is = λ image h. subst (λ (b : List ShelfEntry). OfKnownBag (Some image) len line words (λ (bag : List ShelfEntry). given ≡ b ++ bag)) empty (whole image (held image h));
}
bag-placed Holds Now len line words folder now before given old opened filled steps (Err e) empty place is_new whole is held = tt

-- what holds of the source that comes back held of that which was given
pub kept_source : {T E S : Type 0} (source_of : T → S) (source : S) (Holds : S → List ℕ → Type 0) (came : Result T E) → IfOk came (λ placed. source_of placed ≡ source)
    → IfOk came (λ placed. OfEach (Holds (source_of placed)) (Holds source))
kept_source source_of source Holds (Ok placed) same = λ image h. subst (λ s. Holds s image) same h
kept_source source_of source Holds (Err e) same = tt

pub back_source : {T E S : Type 0} (source_of : E → S) (source : S) (Holds : S → List ℕ → Type 0) (was : List ℕ → Type 0) (came : Result T E)
    → OfEach (Holds source) was → IfErr came (λ back. source_of back ≡ source) → IfErr came (λ back. OfEach (Holds (source_of back)) was)
back_source source_of source Holds was (Ok placed) narrows same = tt
back_source source_of source Holds was (Err back) narrows same = λ image h. narrows image (subst (λ s. Holds s image) same h)

-- and it is taken away where it gets no place
pub bag-away : {T E S : Type 0} (words : TakeWords) (Ungiven : S → List ℕ → BagFault → Type 0) (source_of : E → S) (folder now : List ℕ) (fault : E → TakeFault)
    (steps : E → List SystemStep) (old opened filled : List SystemStep) (came : Result T E) → shelf_place now filled ≡ shelf_place folder opened
    → HasOpenedFolder words.folder.now folder old opened → IfErr came (λ back. IsAwayFor (fault back) now filled (steps back))
    → IfErr came (λ back. IsUnplaced words.folder.now (fault back)) → IfErr came (λ back. IsBagAway words (Ungiven (source_of back)) (fault back) old (steps back))
bag-away words Ungiven source_of folder now fault steps old opened filled (Ok placed) place is_new away told = tt
bag-away words Ungiven source_of folder now fault steps old opened filled (Err back) place is_new away told =
    bag_away words (Ungiven (source_of back)) folder now (fault back) old opened filled (steps back) place is_new away (inr (inl told))
