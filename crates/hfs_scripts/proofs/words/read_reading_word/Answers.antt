-- The first word that has the text is the one beside it.
use Rattle.hfs_scripts.specs.Texts.{word_text}
use Rattle.hfs_scripts.proofs.words.read_reading_word.Goals as goal

pub returns : goal.returns
unfolding word_text
returns c = c.find_word.ensures
