-- What is asked for.
use Rattle.std.specs.Prelude.{ℕ, ◌*◌, List, length, Option, None, Some}
use Rattle.hfs_word_take.specs.declared.words.TakeWords.{TakeWords}
use Rattle.hfs_word_rescue.specs.declared.words.BagWords.{BagWords}
use Rattle.hfs_word_rescue.specs.declared.words.RescueWords.{RescueWords}

-- how many bytes of forks are taken at most: as many as is asked for, else four times those of the image
abbrev pub limit_or_usual : Option ℕ → ℕ → ℕ
limit_or_usual None len = 4 * len
limit_or_usual (Some limit) len = limit

abbrev pub limit_of : RescueWords → List ℕ → ℕ
limit_of words image = limit_or_usual words.limit (length image)

-- the words of `take` with the same names
abbrev pub as_take_words : BagWords → TakeWords
as_take_words words = record {
  image = words.words.image;
  volume = words.words.volume;
  folder = words.folder;
  is_digested = words.is_digested;
  program = words.program;
}
