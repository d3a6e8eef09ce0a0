-- What is told by the names of a path is told by its text.
use Rattle.std.proofs.Common.{◌≡◌, ◌∙◌, ℕ, List, Option, Some, None, ap, subst}
use Rattle.std.specs.Option.{option_map_or}
use Rattle.hfs_model.specs.declared.codes.TheConstants.{NOT_FOUND}
use Rattle.hfs_model.specs.declared.reply.Reply.{Reply}
use Rattle.hfs_model.specs.Replies.{refusal}
use Rattle.hfs_image.specs.Paths.{path_told}
use Rattle.hfs_texts.specs.Paths.{path_names}
use Rattle.hfs_commands.specs.ByPath.{IsFilePathReply, IsPathReply, file_reply}
use Rattle.hfs_commands.specs.Entries.{entries_in}

by-found : (image path : List ℕ) (reply : Reply) (found : Option (List (List ℕ))) → found ≡ path_names path
    → reply ≡ option_map_or (path_told (entries_in image)) found (refusal NOT_FOUND) → IsPathReply path reply image
by-found image path reply found e h = subst (λ (f : Option (List (List ℕ))). reply ≡ option_map_or (path_told (entries_in image)) f (refusal NOT_FOUND)) e h

pub by_names : (image path : List ℕ) (reply : Reply) (names : List (List ℕ)) → Some names ≡ path_names path
    → reply ≡ path_told (entries_in image) names → IsPathReply path reply image
by_names image path reply names e h = by-found image path reply (Some names) e h

pub by_none : (image path : List ℕ) (reply : Reply) → None ≡ path_names path → reply ≡ refusal NOT_FOUND → IsPathReply path reply image
by_none image path reply e h = by-found image path reply None e h

-- and so of a file
pub of_file : (image path : List ℕ) (reply found : Reply) → IsPathReply path reply image → found ≡ file_reply reply → IsFilePathReply path found image
of_file image path reply found h e = e ∙ ap file_reply h
