-- Line by line.
use Rattle.std.proofs.Common.{◌≡◌, ◌∙◌, ℕ, ◌+◌, ◌<◌, ◌≤◌, List, [], ◌∷◌, ◌++◌, length, drop, get_or, Some, None, ap, sym, arith, append_assoc, append-nil}
use Rattle.std.proofs.lemmas.List.{drop_more, drop_all, nil_from_length}
use Rattle.hfs_source.specs.declared.ranges.FoundRange.{FoundRange}
use Rattle.hfs_source.specs.declared.ranges.Layout.{Layout}
use Rattle.hfs_source.specs.Found.{found_by}
use Rattle.hfs_commands.specs.Volumes.{line_of, lines_from, lines_of, volume_lines}

module _ (others : ℕ) (ranges : List FoundRange) (file : List ℕ) where
  -- the text, and the lines that are still to come, make the whole
  abbrev pub LinesLeft : List ℕ → List ℕ → ℕ → Type 0
  LinesLeft start text i = text ++ lines_from others (i + 1) (drop i ranges) file ≡ start ++ lines_from others 1 ranges file

  pub line_more : (i : ℕ) → i < length ranges → (d : FoundRange) (start text more : List ℕ) → more ≡ text ++ line_of others (i + 1) (get_or ranges i d) file
      → LinesLeft start text i → LinesLeft start more (i + 1)
  unfolding lines_from
  line_more i lt d start text more line all =
      ap (λ l. l ++ lines_from others (i + 1 + 1) (drop (i + 1) ranges) file) line
      ∙ append_assoc text (line_of others (i + 1) (get_or ranges i d) file) (lines_from others (i + 1 + 1) (drop (i + 1) ranges) file)
      ∙ ap (λ l. text ++ lines_from others (i + 1) l file) (sym (drop_more ranges i d lt))
      ∙ all

  pub lines_end : (i : ℕ) → length ranges ≤ i → (start text : List ℕ) → LinesLeft start text i → text ≡ start ++ lines_from others 1 ranges file
  unfolding lines_from
  lines_end i end start text all = sym (append-nil text) ∙ ap (λ l. text ++ lines_from others (i + 1) l file) (sym (drop_all i ranges end)) ∙ all

-- nothing was found
pub lines_none : (layout : Layout) (others : ℕ) (ranges : List FoundRange) (file : List ℕ) → ranges ≡ found_by layout file → length ranges ≡ 0 → None ≡ volume_lines layout others file
unfolding volume_lines
lines_none layout others ranges file own none = ap (λ l. lines_of others l file) (sym (nil_from_length ranges none) ∙ own)

-- something was found
pub lines_some : (layout : Layout) (others : ℕ) (ranges told : List FoundRange) (start text file : List ℕ) → ranges ≡ found_by layout file → 0 < length ranges
    → told ≡ ranges → start ≡ [] → text ≡ start ++ lines_from others 1 told file → Some text ≡ volume_lines layout others file
unfolding volume_lines
lines_some layout others [] told start text file own some e f made = absurd (omega (arith, some))
lines_some layout others (found ∷ ranges) told start text file own some e f made =
    ap Some (made ∙ (λ i. f i ++ lines_from others 1 (e i) file)) ∙ ap (λ l. lines_of others l file) own
