-- The page of what was found is the page of the image.
use Rattle.std.proofs.Common.{◌≡◌, ◌∙◌, ℕ, ◌-◌, List, [], ◌∷◌, ◌++◌, length, Option, None, Some, refl, ap, subst}
use Rattle.std.specs.Prelude.{if◌then◌else◌, nat_lt}
use Rattle.std.specs.Borrow.{Bor}
use Rattle.hfs_check.specs.declared.mount_fault.MountFault.{MountFault}
use Rattle.hfs_model.specs.declared.reply.Info.{Info}
use Rattle.hfs_model.specs.declared.reply.ItemKind.{ItemKind}
use Rattle.hfs_model.specs.declared.reply.ItemKind.TheVariants.{Folder, File}
use Rattle.hfs_image.specs.Known.{OfKnown}
use Rattle.hfs_page.specs.Items.{closings}
use Rattle.hfs_check.specs.Hints.{meaning_text}
use Rattle.hfs_check.specs.Refusals.{refusal_text}
use Rattle.hfs_remains_page.specs.declared.remains_texts.RemainsTexts.{RemainsTexts}
use Rattle.hfs_remains_page.specs.declared.steps.Step.{Step}
use Rattle.hfs_remains_page.specs.Facts.{facts_text}
use Rattle.hfs_remains_page.specs.Pages.{back_by, back_text, front_text, remains_page}
use Rattle.hfs_remains_page.specs.Pictures.{all_held_of, cells_of}
use Rattle.hfs_remains_page.specs.Rows.{added_row, depth_at, file_row, info_row, item_row, node_kind, node_row, open_behind, row_text, rows_text}
use Rattle.hfs_remains_page.specs.Trees.{tree_order}
use Rattle.hfs_remains_forks.specs.Verdicts.{all_used}
use Rattle.hfs_rescue_items.specs.declared.found.Found.{Found}
use Rattle.hfs_rescue_items.specs.Found.{field_name, told_at}
use Rattle.hfs_source.specs.Seen.{EachKnown}
use Rattle.hfs_word_rescue.specs.declared.words.RescueWords.{RescueWords}
use Rattle.hfs_word_rescue.specs.Found.{IsFoundOf}
use Rattle.hfs_word_rescue.specs.Shown.{OfEachFound, OfKnownFound, found_page}
use Rattle.hfs_word_rescue.specs.Words.{limit_of}
use Rattle.hfs_word_rescue.proofs.SameLemmas.{Fits, Values, fits, holding, same-values, values}

-- ---- it is a function of the values that were found

module _ (f g : Found) (v : Values) (p q : Fits v) where
  file-holding : (base : Option (Bor (List ℕ))) (i : ℕ) (info : Info) → file_row base (holding f v p) i info ≡ file_row base (holding g v q) i info
  unfolding file_row all_used
  file-holding base i info = refl

  info-holding : (kind : ItemKind) (base : Option (Bor (List ℕ))) (depth : ℕ) (step : Step) (info : Info)
      → info_row kind base (holding f v p) depth step info ≡ info_row kind base (holding g v q) depth step info
  info-holding Folder base depth step info = refl
  info-holding File base depth step info = file-holding base step.node info

  item-holding : (base : Option (Bor (List ℕ))) (depth : ℕ) (step : Step) (told : Option Info)
      → item_row base (holding f v p) depth step told ≡ item_row base (holding g v q) depth step told
  item-holding base depth step None = refl
  item-holding base depth step (Some info) = info-holding info.kind base depth step info

  node-holding : (base : Option (Bor (List ℕ))) (depth : ℕ) (step : Step) → node_row base (holding f v p) depth step ≡ node_row base (holding g v q) depth step
  unfolding node_row
  node-holding base depth step =
      ap (λ (row : List ℕ). if nat_lt step.node (length v.items) then row else added_row v.things depth (field_name v.mdb.volume_name) step)
      (item-holding base depth step (told_at v.items step.node))

  row-holding : (base : Option (Bor (List ℕ))) (opened : ℕ) (step : Step) → row_text base (holding f v p) opened step ≡ row_text base (holding g v q) opened step
  unfolding row_text
  row-holding base opened step = ap (λ (row : List ℕ). closings (opened - depth_at opened step) ++ row) (node-holding base (depth_at opened step) step)

  behind-holding : (opened : ℕ) (step : Step) → open_behind (holding f v p) opened step ≡ open_behind (holding g v q) opened step
  unfolding node_kind
  behind-holding opened step = refl

  rows-holding : (base : Option (Bor (List ℕ))) (opened : ℕ) (steps : List Step) → rows_text base (holding f v p) opened steps ≡ rows_text base (holding g v q) opened steps
  rows-holding base opened [] = refl
  rows-holding base opened (step ∷ steps) =
      (λ i. row-holding base opened step i ++ rows_text base (holding f v p) (behind-holding opened step i) steps)
      ∙ (λ i. row_text base (holding g v q) opened step ++ rows-holding base (open_behind (holding g v q) opened step) steps i)

  front-holding : (texts : RemainsTexts) (refusal meaning : List ℕ) → front_text texts refusal meaning (holding f v p) ≡ front_text texts refusal meaning (holding g v q)
  unfolding front_text facts_text all_used
  front-holding texts refusal meaning = refl

  back-holding : (texts : RemainsTexts) → back_text texts (holding f v p) ≡ back_text texts (holding g v q)
  unfolding back_by cells_of all_held_of
  back-holding texts = refl

  page-holding : (texts : RemainsTexts) (refusal meaning : List ℕ) → remains_page texts refusal meaning (holding f v p) ≡ remains_page texts refusal meaning (holding g v q)
  unfolding remains_page
  page-holding texts refusal meaning =
      λ i. front-holding texts refusal meaning i ++ rows-holding texts.page.image.base 0 (tree_order (holding f v p).places.now) i ++ back-holding texts i

page-by : (texts : RemainsTexts) (refusal meaning : List ℕ) (f g : Found) (v : Values) → values f ≡ v → (q : Fits v)
    → remains_page texts refusal meaning f ≡ remains_page texts refusal meaning (holding g v q)
page-by texts refusal meaning f g v same =
    subst (λ (w : Values). (q : Fits w) → remains_page texts refusal meaning f ≡ remains_page texts refusal meaning (holding g w q)) same
    (λ q. page-holding f g (values f) (fits f) q texts refusal meaning)

same-page : (image : List ℕ) (limit : ℕ) (f g : Found) → IsFoundOf image limit f → IsFoundOf image limit g → (texts : RemainsTexts) (why : MountFault)
    → found_page texts why f ≡ found_page texts why g
same-page image limit f g a b texts why = page-by texts (refusal_text why) (meaning_text why) f g (values g) (same-values image limit f g a b) (fits g)

-- ---- where the image's bytes are known

paged : (known : Option (List ℕ)) (len : ℕ) (words : RescueWords) (found : Found) → OfKnown known len (λ image. IsFoundOf image (limit_of words image) found)
    → (texts : RemainsTexts) (why : MountFault) (P : List ℕ → Type 0) → P (found_page texts why found) → OfKnownFound known len words (λ image other. P (found_page texts why other))
paged None len words found is texts why P given = tt
paged (Some image) len words found is texts why P given = λ same other others.
    subst P (same-page image (limit_of words image) found other (is same) others texts why) given

-- ---- of each image that has the bytes which were read

pub paged_each : (Holds : List ℕ → Type 0) (len : ℕ) (words : RescueWords) (found : Found)
    → EachKnown Holds (λ known. OfKnown known len (λ image. IsFoundOf image (limit_of words image) found))
    → (texts : RemainsTexts) (why : MountFault) (P : List ℕ → Type 0) → P (found_page texts why found) → OfEachFound Holds len words (λ image other. P (found_page texts why other))
paged_each Holds len words found is texts why P given = λ own h. paged (Some own) len words found (is own h) texts why P given
