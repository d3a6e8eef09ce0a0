-- Laws of this crate, each by the laws that it stands on.
use Rattle.std.proofs.Common.{◌≡◌, ◌∙◌, sym, ap, List, ◌∷◌, ℕ, Some}
use Rattle.hfs_texts.proofs.Printed.{printed-read}
use Rattle.hfs_texts.specs.Paths.{path_names}
use Rattle.hfs_texts.specs.PathLaws.{ArePrintedPathsRead}

same-names : (a b : List (List ℕ)) → Some a ≡ Some b → a ≡ b
same-names a b same = cc

-- The law of printed paths: each is read as the names that it is printed of, and is printed of no others.
pub printed_paths_are_read : ArePrintedPathsRead
printed_paths_are_read = record {
  read = printed-read;
  one = λ a b more rest first second same. same-names (a ∷ more) (b ∷ rest) (sym (printed-read a more first) ∙ ap path_names same ∙ printed-read b rest second);
}
