-- Lemmas about the definitions of specs/Keys.antt.
use Rattle.std.specs.Prelude.{ℕ, List, drop}

abbrev pub ext_body_of : List ℕ → List ℕ
ext_body_of bytes = drop 8 bytes
