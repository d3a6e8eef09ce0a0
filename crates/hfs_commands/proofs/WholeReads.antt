-- All bytes that a reader gives up to its end.
use Rattle.std.proofs.Common.{◌≡◌, ◌∙◌, List, ℕ, ◌++◌, Option, None, Some, ap, sym}
use Rattle.std.specs.Prelude.{IfSome}
use Rattle.std.specs.Io.KnownBytes.{Consumes, IsAtEnd}
use Rattle.std.proofs.lemmas.List.{append-nil}

-- what was read up to the end is all that was there
pub whole_read : (old new : Option (List ℕ)) (bytes : List ℕ) → Consumes old new bytes → IsAtEnd new → IfSome old (λ all. bytes ≡ all)
whole_read None new bytes read ended = tt
whole_read (Some all) None bytes read ended = absurd read
whole_read (Some all) (Some rest) bytes read ended = sym (read ∙ ap (λ l. bytes ++ l) ended ∙ append-nil bytes)

-- and so it is held
pub whole_held : (old held : Option (List ℕ)) (bytes : List ℕ) → IfSome old (λ all. bytes ≡ all) → held ≡ Some bytes → IfSome old (λ all. held ≡ Some all)
whole_held None held bytes is same = tt
whole_held (Some all) held bytes is same = same ∙ ap Some is
