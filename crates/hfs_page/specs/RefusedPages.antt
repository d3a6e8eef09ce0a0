-- The page of an image that is refused.
use Rattle.std.specs.Prelude.{ℕ, List}
use Rattle.hfs_check.specs.declared.mount_fault.MountFault.{MountFault}
use Rattle.hfs_page.specs.declared.page_texts.PageTexts.{PageTexts}
use Rattle.hfs_page.specs.Document.{refused_page}
use Rattle.hfs_check.specs.Hints.{meaning_text}
use Rattle.hfs_check.specs.Refusals.{refusal_text}

-- its fault and what that means, with these texts
abbrev pub refusal_page : PageTexts → MountFault → List ℕ
refusal_page texts why = refused_page texts (refusal_text why) (meaning_text why)
