-- Entry by entry.
use Rattle.std.proofs.Common.{◌≡◌, ◌∙◌, ℕ, suc, ◌+◌, ◌-◌, ◌*◌, ◌<◌, ◌≤◌, true, false, cond, List, [], ◌∷◌, ◌++◌, Option, Some, ap, sym, arith, append_assoc, append-nil}
use Rattle.std.specs.Prelude.{map}
use Rattle.std.specs.List.{flat_map, range_with_len, take_while}
use Rattle.std.specs.Option.{option_to_list}
use Rattle.std.proofs.lemmas.List.Sums.{take_while-cons}
use Rattle.hfs_fields.specs.Mdb.{bytes_at}
use Rattle.hfs_source.specs.declared.ranges.FoundRange.{FoundRange}
use Rattle.hfs_source.specs.PartitionMap.{begins_pm, entry_at, entry_count, map_block_in, partition_of, partitions_among, partitions_in, partitions_of_map}

among : ℕ → ℕ → List (List ℕ) → List FoundRange
among block len entries = flat_map (λ entry. option_to_list (partition_of block len entry)) entries

pub among-more : (block len n : ℕ) (numbers file : List ℕ) → begins_pm (entry_at block file n) ≡ true
    → partitions_among block len (n ∷ numbers) file
    ≡ option_to_list (partition_of block len (entry_at block file n)) ++ partitions_among block len numbers file
unfolding partitions_among among
among-more block len n numbers file is =
    ap (among block len) (take_while-cons begins_pm (entry_at block file n) (map (entry_at block file) numbers)
    ∙ ap (λ b. cond b (entry_at block file n ∷ take_while begins_pm (map (entry_at block file) numbers)) []) is)

pub among-none : (block len n : ℕ) (numbers file : List ℕ) → begins_pm (entry_at block file n) ≡ false → partitions_among block len (n ∷ numbers) file ≡ []
unfolding partitions_among among
among-none block len n numbers file is =
    ap (among block len) (take_while-cons begins_pm (entry_at block file n) (map (entry_at block file) numbers)
    ∙ ap (λ b. cond b (entry_at block file n ∷ take_while begins_pm (map (entry_at block file) numbers)) []) is)

next : (n count : ℕ) → n < count + 1 → range_with_len n (count + 1 - n) ≡ n ∷ range_with_len (n + 1) (count + 1 - (n + 1))
next n count lt =
    let one : count + 1 - n ≡ suc (count + 1 - (n + 1)) = omega (arith, lt) in
    ap (range_with_len n) one

module _ (block len count : ℕ) (file : List ℕ) where
  -- with the partitions of the blocks from this one on what was found is the whole
  abbrev pub Completes : ℕ → List FoundRange → List FoundRange → Type 0
  Completes n found whole = found ++ partitions_among block len (range_with_len n (count + 1 - n)) file ≡ whole

  -- an entry was read in block n
  pub entry_more : (n : ℕ) → n < count + 1 → (entry : List ℕ) → entry ≡ bytes_at (block * n) 64 file → begins_pm entry ≡ true → (found more whole : List FoundRange)
      → more ≡ found ++ option_to_list (partition_of block len entry) → Completes n found whole → Completes (n + 1) more whole
  entry_more n lt entry here is found more whole e all =
      let rest : List ℕ = range_with_len (n + 1) (count + 1 - (n + 1)) in
      ap (λ l. l ++ partitions_among block len rest file) (e ∙ ap (λ b. found ++ option_to_list (partition_of block len b)) here)
      ∙ append_assoc found (option_to_list (partition_of block len (entry_at block file n))) (partitions_among block len rest file)
      ∙ ap (λ l. found ++ l) (sym (among-more block len n rest file (sym (ap begins_pm here) ∙ is)))
      ∙ ap (λ l. found ++ partitions_among block len l file) (sym (next n count lt))
      ∙ all

  -- block n is none
  pub entry_none : (n : ℕ) → n < count + 1 → (entry : List ℕ) → entry ≡ bytes_at (block * n) 64 file → begins_pm entry ≡ false → (found whole : List FoundRange)
      → Completes n found whole → found ≡ whole
  entry_none n lt entry here is found whole all =
      let rest : List ℕ = range_with_len (n + 1) (count + 1 - (n + 1)) in
      sym (append-nil found)
      ∙ ap (λ l. found ++ l) (sym (among-none block len n rest file (sym (ap begins_pm here) ∙ is)))
      ∙ ap (λ l. found ++ partitions_among block len l file) (sym (next n count lt))
      ∙ all

  -- there are no more
  pub entries_end : (n : ℕ) → count + 1 ≤ n → (found whole : List FoundRange) → Completes n found whole → found ≡ whole
  unfolding partitions_among
  entries_end n end found whole all =
      let none : count + 1 - n ≡ 0 = omega (arith, end) in
      sym (append-nil found) ∙ ap (λ k. found ++ partitions_among block len (range_with_len n k) file) (sym none) ∙ all

-- the partitions of the map that the file has
pub partitions_found : (len block count : ℕ) (found items : List FoundRange) (file : List ℕ) (o : Option ℕ) → o ≡ map_block_in len file → o ≡ Some block
    → count ≡ entry_count block len file → items ≡ found ++ partitions_among block len (range_with_len 1 count) file → items ≡ found ++ partitions_in len file
unfolding partitions_in
partitions_found len block count found items file o own is many made =
    made ∙ ap (λ k. found ++ partitions_among block len (range_with_len 1 k) file) many
    ∙ ap (λ k. found ++ partitions_of_map len file k) (sym is ∙ own)
