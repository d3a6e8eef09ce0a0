-- Range by range.
use Rattle.std.proofs.Common.{◌≡◌, ◌∙◌, ℕ, ◌+◌, ◌<◌, ◌≤◌, List, ◌++◌, length, drop, get_or, ap, sym, append_assoc, append-nil}
use Rattle.std.specs.Option.{option_to_list}
use Rattle.std.proofs.lemmas.List.{drop_more, drop_all}
use Rattle.hfs_source.specs.declared.asking.Counted.{Counted}
use Rattle.hfs_source.specs.declared.asking.NumberedRange.{NumberedRange}
use Rattle.hfs_source.specs.declared.ranges.FoundRange.{FoundRange}
use Rattle.hfs_source.specs.Asking.{counted_at, counted_from}

module _ (counted : Counted) (ranges : List FoundRange) (file : List ℕ) where
  -- those so far, and those that are still to come, make the whole
  abbrev pub CountedLeft : List NumberedRange → ℕ → Type 0
  CountedLeft inside i = inside ++ counted_from counted (i + 1) (drop i ranges) file ≡ counted_from counted 1 ranges file

  pub counted_more : (i : ℕ) → i < length ranges → (d : FoundRange) (inside more : List NumberedRange)
      → more ≡ inside ++ option_to_list (counted_at counted (i + 1) (get_or ranges i d) file) → CountedLeft inside i → CountedLeft more (i + 1)
  unfolding counted_from
  counted_more i lt d inside more one all =
      ap (λ l. l ++ counted_from counted (i + 1 + 1) (drop (i + 1) ranges) file) one
      ∙ append_assoc inside (option_to_list (counted_at counted (i + 1) (get_or ranges i d) file)) (counted_from counted (i + 1 + 1) (drop (i + 1) ranges) file)
      ∙ ap (λ l. inside ++ counted_from counted (i + 1) l file) (sym (drop_more ranges i d lt))
      ∙ all

  pub counted_end : (i : ℕ) → length ranges ≤ i → (inside : List NumberedRange) → CountedLeft inside i → inside ≡ counted_from counted 1 ranges file
  unfolding counted_from
  counted_end i end inside all = sym (append-nil inside) ∙ ap (λ l. inside ++ counted_from counted (i + 1) l file) (sym (drop_all i ranges end)) ∙ all
