-- What is shown of what was found of a refused image: rows, and the bytes of a fork.
use Rattle.std.specs.Prelude.{◌≡◌, ℕ, ℤ, Bool, true, false, List, [], Option, Some, None, Result, Ok, Err}
use Rattle.std.specs.Io.KnownBytes.{Appends}
use Rattle.hfs_check.specs.declared.mount_fault.MountFault.{MountFault}
use Rattle.hfs_commands.specs.declared.fault.Status.TheVariants.{CallRefused, Done}
use Rattle.hfs_commands.specs.Faults.{status_number}
use Rattle.hfs_remains_forks.specs.Finds.{is_found_right}
use Rattle.hfs_model.specs.declared.codes.TheConstants.{NOT_A_FOLDER, NOT_FOUND}
use Rattle.hfs_model.specs.declared.reply.Reply.{Reply}
use Rattle.hfs_model.specs.Replies.{refusal}
use Rattle.hfs_image.specs.Known.{OfKnown}
use Rattle.hfs_check.specs.Hints.{meaning_text}
use Rattle.hfs_check.specs.Refusals.{refusal_text}
use Rattle.hfs_remains_page.specs.declared.remains_texts.RemainsTexts.{RemainsTexts}
use Rattle.hfs_remains_page.specs.Pages.{remains_page}
use Rattle.hfs_rescue_items.specs.declared.found.Found.{Found}
use Rattle.hfs_rescue_items.specs.Bytes.{taken_bytes}
use Rattle.hfs_rescue_items.specs.declared.paths.PathEnd.{PathEnd}
use Rattle.hfs_rescue_items.specs.declared.paths.PathEnd.TheVariants as end
use Rattle.hfs_rescue_items.specs.declared.rows.Selection.{Selection}
use Rattle.hfs_rescue_items.specs.declared.rows.Selection.TheVariants as selection
use Rattle.hfs_rescue_items.specs.Folders.{home_number}
use Rattle.hfs_rescue_items.specs.Forks.{whole_fork}
use Rattle.hfs_rescue_items.specs.Paths.{path_end}
use Rattle.hfs_rescue_items.specs.Rows.{selected_text}
use Rattle.hfs_space.specs.declared.fork_kind.ForkKind.{ForkKind}
use Rattle.hfs_source.specs.Seen.{EachKnown}
use Rattle.hfs_texts.specs.Writing.{AppendsFront}
use Rattle.hfs_word_rescue.specs.declared.words.RescueWords.{RescueWords}
use Rattle.hfs_word_rescue.specs.Answers.{answer_status, found_sums}
use Rattle.hfs_word_rescue.specs.Found.{OfFound}
use Rattle.hfs_word_rescue.specs.Words.{limit_of}

-- where an image's bytes are known, and are so many, this holds of it and of what was found of it, as these words ask for it
abbrev pub OfKnownFound : Option (List ℕ) → ℕ → RescueWords → (List ℕ → Found → Type 0) → Type 0
OfKnownFound known len words Fact = OfKnown known len (λ image. OfFound image (limit_of words image) (Fact image))

-- of each of these images that has so many bytes this holds, and of what was found of it
abbrev pub OfEachFound : (List ℕ → Type 0) → ℕ → RescueWords → (List ℕ → Found → Type 0) → Type 0
OfEachFound Holds len words Fact = EachKnown Holds (λ known. OfKnownFound known len words Fact)

-- ---- rows

-- the exit status: that of `rescue`
abbrev pub found_status : List ℕ → Found → ℕ
found_status image found = answer_status (is_found_right image found.mdb.now) (found_sums found)

-- the rows of the folder that a path leads to; none where it leads to none
abbrev pub end_rows : Found → PathEnd → List ℕ
end_rows found end.Nothing = []
end_rows found (end.File k) = []
end_rows found (end.Folder k) = selected_text (selection.InFolder (home_number found.places.now k)) found

-- the exit status after them, or the code where there is no such item, or it is a file
abbrev pub folder_told : List ℕ → Found → PathEnd → Result ℕ Reply
folder_told image found end.Nothing = Err (refusal NOT_FOUND)
folder_told image found (end.File k) = Err (refusal NOT_A_FOLDER)
folder_told image found (end.Folder k) = Ok (found_status image found)

-- ---- a page

-- with the fault in words
abbrev pub found_page : RemainsTexts → MountFault → Found → List ℕ
found_page texts why found = remains_page texts (refusal_text why) (meaning_text why) found

-- ---- forks

-- the bytes that are taken of a fork of the item that a path leads to; a folder has none
abbrev pub end_bytes : List ℕ → Found → ForkKind → PathEnd → List ℕ
end_bytes image found kind end.Nothing = []
end_bytes image found kind (end.File k) = taken_bytes image found kind k
end_bytes image found kind (end.Folder k) = taken_bytes image found kind k

abbrev pub whole_status : Bool → ℕ
whole_status true = status_number Done
whole_status false = status_number CallRefused

-- the exit status after them: whether the fork is whole; or the code where there is no fork
abbrev pub told_whole : Option Bool → Result ℕ Reply
told_whole None = Err (refusal NOT_FOUND)
told_whole (Some whole) = Ok (whole_status whole)

abbrev pub fork_told : Found → ForkKind → PathEnd → Result ℕ Reply
fork_told found kind end.Nothing = Err (refusal NOT_FOUND)
fork_told found kind (end.File k) = told_whole (whole_fork found kind k)
fork_told found kind (end.Folder k) = told_whole (whole_fork found kind k)
