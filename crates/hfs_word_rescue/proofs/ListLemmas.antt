-- What is written of a list while its lines come.
use Rattle.std.proofs.Common.{◌≡◌, ◌∙◌, ℕ, suc, ◌+◌, ◌<◌, ◌≤◌, List, [], ◌∷◌, ◌++◌, length, drop, get_or, Option, append_assoc, append-nil, None, Some, refl, sym, ap, subst, arith}
use Rattle.std.proofs.lemmas.List.{drop_all, drop_more}
use Rattle.std.proofs.KnownBytes.{Appends-nil}
use Rattle.std.specs.Io.KnownBytes.{Appends}
use Rattle.hfs_commands.proofs.Rows.{whole_next}
use Rattle.hfs_texts.proofs.FrontLemmas.{front_first, front_next}
use Rattle.hfs_image.specs.Known.{OfKnown}
use Rattle.hfs_remains.specs.declared.catalog.FoundRecord.{FoundRecord}
use Rattle.hfs_rescue_items.specs.declared.found.Found.{Found}
use Rattle.hfs_rescue_items.specs.Lines.{lines_of, remains_text}
use Rattle.hfs_texts.specs.Writing.{AppendsFront}
use Rattle.hfs_word_rescue.specs.declared.words.RescueWords.{RescueWords}
use Rattle.hfs_word_rescue.specs.Found.{IsFoundOf, OfFound}
use Rattle.hfs_word_rescue.specs.Lists.{Gathers, TellsRemains, TellsRemainsFront}
use Rattle.hfs_word_rescue.specs.Words.{limit_of}
use Rattle.hfs_word_rescue.proofs.SameLemmas.{Seen, same_seen}
use Rattle.hfs_rescue_items.proofs.GatherLemmas.{IsBegun}

-- ---- a line is gathered

pub line_kept : (line old new : List ℕ) (now : Option (List ℕ)) → new ≡ old ++ line → Gathers line old new now now
line_kept line old new now is = record { out = []; written = Appends-nil now; rest = is }

pub line_out : (line old text new : List ℕ) (now later : Option (List ℕ)) → text ≡ old ++ line → Appends now later text → new ≡ [] → Gathers line old new now later
line_out line old text new now later is written none =
    record { out = text; written = written; rest = ap (λ (rest : List ℕ). text ++ rest) none ∙ append-nil text ∙ is }

-- ---- all lines

pub begins : (start : Option (List ℕ)) (whole : List ℕ) → IsBegun start start [] whole whole
begins start whole = record { out = []; written = Appends-nil start; rest = refl }

module _ (line : ℕ → FoundRecord → List ℕ) (items : List FoundRecord) (start : Option (List ℕ)) (whole : List ℕ) where
  -- the lines of item i and those behind it
  next-left : (i : ℕ) (item d : FoundRecord) → i < length items → item ≡ get_or items i d → lines_of line i (drop i items) ≡ line i item ++ lines_of line (i + 1) (drop (i + 1) items)
  next-left i item d within is =
      let next : suc i ≡ i + 1 = omega arith in
      ap (lines_of line i) (drop_more items i d within ∙ ap (λ (first : FoundRecord). first ∷ drop (i + 1) items) (sym is))
      ∙ ap (λ (n : ℕ). line i item ++ lines_of line n (drop (i + 1) items)) next

  pub line_more : (i : ℕ) (item d : FoundRecord) (now later : Option (List ℕ)) (text new : List ℕ) → i < length items → item ≡ get_or items i d
      → IsBegun start now text (lines_of line i (drop i items)) whole → Gathers (line i item) text new now later → IsBegun start later new (lines_of line (i + 1) (drop (i + 1) items)) whole
  line_more i item d now later text new within is begun more =
      let left = lines_of line (i + 1) (drop (i + 1) items) in
      record {
        out = begun.out ++ more.out;
        written = whole_next start now later begun.out more.out begun.written more.written;
        rest = begun.rest ∙ ap (λ (l : List ℕ). begun.out ++ (text ++ l)) (next-left i item d within is)
            ∙ ap (λ (l : List ℕ). begun.out ++ l) (sym (append_assoc text (line i item) left) ∙ ap (λ (l : List ℕ). l ++ left) (sym more.rest) ∙ append_assoc more.out new left)
            ∙ sym (append_assoc begun.out more.out (new ++ left));
      }

  -- writing ended in the text and the line that comes
  pub line_front : (i : ℕ) (item d : FoundRecord) (now later : Option (List ℕ)) (text : List ℕ) → i < length items → item ≡ get_or items i d
      → IsBegun start now text (lines_of line i (drop i items)) whole → AppendsFront now later (text ++ line i item) → AppendsFront start later whole
  line_front i item d now later text within is begun part =
      let left = lines_of line (i + 1) (drop (i + 1) items) in
      let is_rest = begun.rest ∙ ap (λ (l : List ℕ). begun.out ++ (text ++ l)) (next-left i item d within is) ∙ ap (λ (l : List ℕ). begun.out ++ l) (sym (append_assoc text (line i item) left)) in
      subst (AppendsFront start later) (sym is_rest)
      (front_next start now later begun.out ((text ++ line i item) ++ left) begun.written (front_first now later (text ++ line i item) left part))

  none-left : (i : ℕ) → length items ≤ i → lines_of line i (drop i items) ≡ []
  none-left i end = ap (lines_of line i) (drop_all i items end)

  -- the last text goes out, or a part of it
  pub all_out : (i : ℕ) (now later : Option (List ℕ)) (text : List ℕ) → length items ≤ i → IsBegun start now text (lines_of line i (drop i items)) whole → Appends now later text
      → Appends start later whole
  all_out i now later text end begun written =
      let is = begun.rest ∙ ap (λ (l : List ℕ). begun.out ++ (text ++ l)) (none-left i end) ∙ ap (λ (l : List ℕ). begun.out ++ l) (append-nil text) in
      subst (Appends start later) (sym is) (whole_next start now later begun.out text begun.written written)

  pub last_front : (i : ℕ) (now later : Option (List ℕ)) (text : List ℕ) → length items ≤ i → IsBegun start now text (lines_of line i (drop i items)) whole → AppendsFront now later text
      → AppendsFront start later whole
  last_front i now later text end begun part =
      let is = begun.rest ∙ ap (λ (l : List ℕ). begun.out ++ (text ++ l)) (none-left i end) ∙ ap (λ (l : List ℕ). begun.out ++ l) (append-nil text) in
      subst (AppendsFront start later) (sym is) (front_next start now later begun.out text begun.written part)

-- ---- of an image

some-same : (a b : List ℕ) → Some a ≡ Some b → a ≡ b
some-same a b e = cc

module _ (image : List ℕ) (limit : ℕ) (found : Found) (is : IsFoundOf image limit found) (old new : Option (List ℕ)) where
  same-text : (other : Found) → IsFoundOf image limit other → remains_text found ≡ remains_text other
  same-text other others = some-same (remains_text found) (remains_text other) (ap (λ (s : Seen). s.tables.remains) (same_seen image limit found other is others))

  tells-so : Appends old new (remains_text found) → OfFound image limit (λ other. Appends old new (remains_text other))
  tells-so written other others = subst (Appends old new) (same-text other others) written

  front-so : AppendsFront old new (remains_text found) → OfFound image limit (λ other. AppendsFront old new (remains_text other))
  front-so part other others = subst (AppendsFront old new) (same-text other others) part

-- where the image's bytes are known, this was found of it
pub tells : (known : Option (List ℕ)) (len : ℕ) (words : RescueWords) (found : Found) (old new : Option (List ℕ)) → OfKnown known len (λ image. IsFoundOf image (limit_of words image) found)
    → Appends old new (remains_text found) → TellsRemains known len words old new
tells None len words found old new is written = tt
tells (Some image) len words found old new is written = λ same. tells-so image (limit_of words image) found (is same) old new written

pub tells_front : (known : Option (List ℕ)) (len : ℕ) (words : RescueWords) (found : Found) (old new : Option (List ℕ))
    → OfKnown known len (λ image. IsFoundOf image (limit_of words image) found) → AppendsFront old new (remains_text found) → TellsRemainsFront known len words old new
tells_front None len words found old new is part = tt
tells_front (Some image) len words found old new is part = λ same. front-so image (limit_of words image) found (is same) old new part

-- nothing was written yet
pub nothing_told : (known : Option (List ℕ)) (len : ℕ) (words : RescueWords) (now : Option (List ℕ)) → TellsRemainsFront known len words now now
nothing_told None len words now = tt
nothing_told (Some image) len words now = λ same found is. (0, Appends-nil now)
