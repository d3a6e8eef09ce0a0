-- The answers to a script in pieces, in which long bytes have no digits yet.
use Rattle.std.specs.Prelude.{◌≡◌, ℕ, ℤ, List, [], ◌∷◌, ◌++◌, codes, Option, Some, None, string_bytes}
use Rattle.std.specs.Fmt.{decimal, signed_decimal}
use Rattle.std.specs.List.{flat_map}
use Rattle.hfs_model.specs.declared.reply.Reply.{Reply}
use Rattle.hfs_model.specs.declared.reply.Value.{Value}
use Rattle.hfs_model.specs.declared.reply.Value.TheVariants as value
use Rattle.hfs_texts.specs.Lines.{hex_text}
use Rattle.hfs_runs.specs.declared.numbering.Asked.{Asked}
use Rattle.hfs_runs.specs.declared.pieces.Answers.{Answers}
use Rattle.hfs_runs.specs.declared.pieces.Piece.{Piece}
use Rattle.hfs_runs.specs.declared.replies.Replies.{Replies}
use Rattle.hfs_runs.specs.Answers.{kept_replies, reply_to}

-- the bytes of a fork that a value has
abbrev pub value_bytes : Value → List ℕ
value_bytes value.Nothing = []
value_bytes (value.Id id) = []
value_bytes (value.One info) = []
value_bytes (value.Many infos) = []
value_bytes (value.Bytes bytes) = bytes
value_bytes (value.Full free depth) = []
value_bytes (value.Room free wanted) = []
value_bytes (value.ExtentNodes free depth) = []
value_bytes (value.Place dir name) = []

-- those that a reply has, and none where there is no reply
abbrev pub bytes_in : Option Reply → List ℕ
bytes_in None = []
bytes_in (Some reply) = value_bytes reply.value

-- what precedes the digits in the lines of a reply with bytes
unfoldable pub digits_head : List ℕ → ℕ → ℤ → List ℕ
digits_head who number code = who ++ codes "\t" ++ decimal number ++ codes "\t" ++ signed_decimal code ++ codes "\tbytes "

-- a text, and after it the digits of the bytes that the reply to a call has
abbrev pub piece_text : Replies → Piece → List ℕ
piece_text replies piece = string_bytes piece.text ++ hex_text (bytes_in (reply_to (kept_replies replies) piece.asked))

-- those of some pieces, one after the other, and a text
abbrev pub pieces_text : Replies → List Piece → List ℕ → List ℕ
pieces_text replies pieces last = flat_map (piece_text replies) pieces ++ last

-- there is one piece more, of this text and this call
pub record HasPieceMore (old : List Piece) (text : List ℕ) (asked : Asked) (new : List Piece) : Type 0 where
  pub piece : Piece
  pub grown : new ≡ old ++ piece ∷ []
  pub text_is : string_bytes piece.text ≡ text
  pub asked_is : piece.asked ≡ asked

-- the text of answers that are in pieces
abbrev pub text_of_pieces : Answers → List ℕ
text_of_pieces answers = pieces_text answers.replies answers.pieces.items (string_bytes answers.last)
