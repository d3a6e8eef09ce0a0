-- What is told by the names of a path is told by its text.
use Rattle.std.proofs.Common.{◌≡◌, ℕ, List, Option, Some, None, subst}
use Rattle.std.specs.Option.{option_map_or}
use Rattle.hfs_commands.specs.ByPath.{path_reply}
use Rattle.hfs_model.specs.declared.codes.TheConstants.{NOT_FOUND}
use Rattle.hfs_model.specs.declared.reply.Reply.{Reply}
use Rattle.hfs_model.specs.Replies.{refusal}
use Rattle.hfs_model.specs.Volume.{Entry}
use Rattle.hfs_image.specs.Paths.{path_told}
use Rattle.hfs_texts.specs.Paths.{path_names}

by-found : (es : List Entry) (path : List ℕ) (reply : Reply) (found : Option (List (List ℕ))) → found ≡ path_names path
    → reply ≡ option_map_or (path_told es) found (refusal NOT_FOUND) → reply ≡ path_reply es path
by-found es path reply found e h = subst (λ (f : Option (List (List ℕ))). reply ≡ option_map_or (path_told es) f (refusal NOT_FOUND)) e h

pub by_names : (es : List Entry) (path : List ℕ) (reply : Reply) (names : List (List ℕ)) → Some names ≡ path_names path → reply ≡ path_told es names
    → reply ≡ path_reply es path
by_names es path reply names e h = by-found es path reply (Some names) e h

pub by_none : (es : List Entry) (path : List ℕ) (reply : Reply) → None ≡ path_names path → reply ≡ refusal NOT_FOUND → reply ≡ path_reply es path
by_none es path reply e h = by-found es path reply None e h
