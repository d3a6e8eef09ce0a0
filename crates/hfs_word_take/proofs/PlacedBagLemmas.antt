-- A bag that has its place, of an image, and one that was taken away.
use Rattle.std.proofs.Common.{◌≡◌, ℕ, Bool, true, false, List, [], ◌∷◌, ◌++◌, Option, Result, Ok, Err, refl, sym, ap, subst, ◌∙◌, inl, inr}
use Rattle.std.specs.Prelude.{IfErr}
use Rattle.hfs_source.specs.Images.{OfEach}
use Rattle.hfs_bag.specs.declared.shelf_fault.ShelfFault.{ShelfFault}
use Rattle.hfs_bag.specs.declared.shelf_fault.ShelfFault.TheVariants as shelf
use Rattle.hfs_bag.specs.Entries.{ShelfEntry}
use Rattle.hfs_bag.specs.Left.{IsLeft}
use Rattle.hfs_bag.specs.declared.fault.BagFault.{BagFault}
use Rattle.hfs_bag.specs.Removals.{HasOpenedFolder, IsPlaced}
use Rattle.hfs_bag.specs.ShelfPlaces.{ShelfPlace, others_in, shelf_place}
use Rattle.hfs_bag.specs.SystemSteps.{SystemStep, done, looked}
use Rattle.hfs_bag.specs.Told.{Tells}
use Rattle.hfs_word_take.specs.declared.fault.TakeFault.{TakeFault}
use Rattle.hfs_word_take.specs.declared.fault.TakeFault.TheVariants as take
use Rattle.hfs_word_take.specs.declared.words.TakeWords.{TakeWords}
use Rattle.hfs_word_take.specs.Bags.{OfBag, image_bag}
use Rattle.hfs_word_take.specs.TakeFaults.{IsTakeFault, fault_of_bag, fault_of_shelf}
use Rattle.hfs_word_take.specs.Placed.{HasPlaced, IsAwayFor, IsBagAway, IsBagUnplaced, IsUnfinished, StaysOrNoMemory}
use Rattle.hfs_word_take.proofs.FaultLemmas.{of_shelf, unplaced}

-- a folder that has been given the bag, beginning with nothing, got its place
pub placed-bag : (Holds Beside : List ℕ → Type 0) (line : Option (List ℕ)) (words : TakeWords) (path folder now : List ℕ) (before given : List ShelfEntry)
    (old opened filled steps : List SystemStep) → before ≡ [] → shelf_place now filled ≡ shelf_place folder opened → HasOpenedFolder path folder old opened
    → OfEach Holds (OfBag line words Beside (λ bag. given ≡ before ++ bag)) → IsPlaced path now given (others_in now filled) steps
    → OfEach Holds (OfBag line words Beside (λ bag. HasPlaced path bag old steps))
placed-bag Holds Beside line words path folder now before given old opened filled steps empty place is_new whole is = λ image h.
    let of = whole image h in (
      of.0,
      of.1,
      λ facts tells. record {
        folder = folder;
        opened = opened;
        is_new = is_new;
        placed = subst (λ (f : List ℕ). IsPlaced path f (image_bag image facts) (others_in folder opened) steps) (ap (λ (p : ShelfPlace). p.folder) place)
            (subst (λ (others : List SystemStep). IsPlaced path now (image_bag image facts) others steps) (ap (λ (p : ShelfPlace). p.others) place)
            (subst (λ (bag : List ShelfEntry). IsPlaced path now bag (others_in now filled) steps)
            (of.2 facts tells ∙ ap (λ (xs : List ShelfEntry). xs ++ image_bag image facts) empty) is));
      },
    )

-- ---- a folder that did not get its place

pub left_away : (fault : ShelfFault) (found : TakeFault) (folder : List ℕ) (old new : List SystemStep) → found ≡ fault_of_shelf fault → IsLeft fault folder old new
    → IsAwayFor found folder old new
left_away (shelf.CannotWrite path) found folder old new told is = inl is
left_away shelf.NoMemory found folder old new told is = inr (told, is)

pub unplaced_told : (words : TakeWords) (fault : ShelfFault) (found : TakeFault) → found ≡ fault_of_shelf fault → Tells words.folder.now fault → IsTakeFault words found
unplaced_told words fault found told tells = of_shelf words fault found told (unplaced words.folder.now fault tells)

-- memory may be refused in any image
pub stays_told : (words : TakeWords) (was is : TakeFault) → StaysOrNoMemory was is → IsTakeFault words was → IsTakeFault words is
stays_told words was is (inl same) told = subst (IsTakeFault words) (sym same) told
stays_told words was is (inr none) told = subst (IsTakeFault words) (sym none) (inl (inr (inl (inr refl))))

-- a bag that got no place is taken away
pub bag_away : (words : TakeWords) (Ungiven : List ℕ → BagFault → Type 0) (folder now : List ℕ) (fault : TakeFault) (old opened filled new : List SystemStep)
    → shelf_place now filled ≡ shelf_place folder opened → HasOpenedFolder words.folder.now folder old opened → IsAwayFor fault now filled new
    → IsUnfinished words (Ungiven folder) fault → IsBagAway words Ungiven fault old new
bag_away words Ungiven folder now fault old opened filled new place is_new away why = inr (record {
  folder = folder;
  opened = opened;
  is_new = is_new;
  filled = filled;
  others = ap (λ (f : List ℕ). others_in f filled) (sym same) ∙ ap (λ (p : ShelfPlace). p.others) place;
  away = subst (λ (f : List ℕ). IsAwayFor fault f filled new) same away;
  why = why;
})
  where
    same : now ≡ folder
    same = ap (λ (p : ShelfPlace). p.folder) place

-- the fault of a bag that was not given is told, unless memory is refused
pub stays_ungiven : (words : TakeWords) (Ungiven : BagFault → Type 0) (why : BagFault) (was is : TakeFault) → Ungiven why → was ≡ fault_of_bag words.image why
    → StaysOrNoMemory was is → IsUnfinished words Ungiven is
stays_ungiven words Ungiven why was is reason told (inl same) = inl (why, reason, same ∙ told)
stays_ungiven words Ungiven why was is reason told (inr none) = inr (inr none)

-- ---- behind a look

pub there : (words : TakeWords) (Ungiven : List ℕ → BagFault → Type 0) (b : Bool) (old new : List SystemStep) → b ≡ true
    → new ≡ done (looked words.folder.now b) ∷ old → IsBagUnplaced words Ungiven (take.IsThere words.folder) old new
there words Ungiven b old new is steps = inl (refl, steps ∙ ap (λ (b : Bool). done (looked words.folder.now b) ∷ old) is)

pub not_there : {T E : Type 0} (words : TakeWords) (Ungiven : E → List ℕ → BagFault → Type 0) (b : Bool) (fault : E → TakeFault) (steps : E → List SystemStep)
    (old seen : List SystemStep) (came : Result T E) → b ≡ false → seen ≡ done (looked words.folder.now b) ∷ old
    → IfErr came (λ back. IsBagAway words (Ungiven back) (fault back) seen (steps back))
    → IfErr came (λ back. IsBagUnplaced words (Ungiven back) (fault back) old (steps back))
not_there words Ungiven b fault steps old seen (Ok placed) is looked-is away = tt
not_there words Ungiven b fault steps old seen (Err back) is looked-is away = inr
    (subst (λ (s : List SystemStep). IsBagAway words (Ungiven back) (fault back) s (steps back))
    (looked-is ∙ ap (λ (b : Bool). done (looked words.folder.now b) ∷ old) is) away)
