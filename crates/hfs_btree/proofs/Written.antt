-- What is written into the bytes of a node, and what stays.
use Rattle.std.proofs.Common.{◌≡◌, ℕ, ◌+◌, ◌-◌, ◌*◌, ◌^◌, ◌<◌, ◌≤◌, inl, inr, List, [], ◌∷◌, Some, refl, arith, length, get_or, ◌∙◌, lit<, lit≤}
use Rattle.std.specs.Prelude.{slice_range}
use Rattle.std.proofs.lemmas.Bool.{cases_eq}
use Rattle.byteorder.specs.Endian.{big_bytes}
use Rattle.hfs_fields.specs.Puts.{IsPut}
use Rattle.hfs_fields.proofs.PutLemmas.{number_at-same, number_at-kept, number_at-put, slice_range-kept, slice_range-put}
use Rattle.hfs_btree.specs.declared.node.Node.{Node}
use Rattle.hfs_btree.specs.Kind.{kind_of}
use Rattle.hfs_btree.specs.Node.{count_of, offset_of, start_of, size_of}
use Rattle.hfs_btree.specs.Laid.{AreLaid, HasHead, SameHead}
use Rattle.hfs_btree.proofs.ReadBackLemmas.{start-more, start-rises, start-room, few-records}

-- ---- one record more

module _ (records : List (List ℕ)) (i : ℕ) (old mid new : List ℕ) (in' : i < length records) (room : size_of records ≤ 496)
    (first : IsPut (510 - 2 * i) (big_bytes 2 (start_of records i)) old mid)
    (second : IsPut (start_of records i) (get_or records i []) mid new) (len : length old ≡ 512) where
  two : length (big_bytes 2 (start_of records i)) ≡ 2
  two = refl

  offset-kept : (k : ℕ) → k < i → offset_of new k ≡ offset_of old k
  unfolding offset_of
  offset-kept k lt =
      let more = start-more records i in' in
      let bound = start-room records (i + 1) room in
      number_at-kept (510 - 2 * k) 2 (start_of records i) (get_or records i []) mid new second (inr (omega (arith, more, bound)))
      ∙ number_at-kept (510 - 2 * k) 2 (510 - 2 * i) (big_bytes 2 (start_of records i)) old mid first (inr (omega (arith, bound)))

  offset-new : offset_of new i ≡ start_of records i
  unfolding offset_of
  offset-new =
      let more = start-more records i in' in
      let bound = start-room records (i + 1) room in
      let own = start-room records i room in
      number_at-kept (510 - 2 * i) 2 (start_of records i) (get_or records i []) mid new second (inr (omega (arith, more, bound)))
      ∙ number_at-put (510 - 2 * i) 2 (start_of records i) old mid first (let P : start_of records i < 65536 = omega (arith, own) in P)

  body-kept : (k : ℕ) → k < i → slice_range new (start_of records k) (start_of records (k + 1)) ≡ slice_range old (start_of records k) (start_of records (k + 1))
  body-kept k lt =
      let rise = start-rises records (k + 1) i (omega arith) in
      let bound = start-room records i room in
      let same = first.len in
      slice_range-kept (start_of records k) (start_of records (k + 1)) (start_of records i) (get_or records i []) mid new second (omega (arith, rise, bound, same)) (inl rise)
      ∙ slice_range-kept (start_of records k) (start_of records (k + 1)) (510 - 2 * i) (big_bytes 2 (start_of records i)) old mid first (omega (arith, rise, bound)) (inl (omega (arith, rise, bound)))

  body-new : slice_range new (start_of records i) (start_of records (i + 1)) ≡ get_or records i []
  body-new =
      let more = start-more records i in' in
      let bound = start-room records (i + 1) room in
      let same = first.len in
      slice_range-put (start_of records i) (start_of records (i + 1)) (get_or records i []) mid new second more (omega (arith, bound, same))

  pub laid-more : AreLaid records i old → AreLaid records (i + 1) new
  laid-more laid = record {
    offsets = λ k lt. elim (cases_eq k i) [
      | inl e ↦ rw e offset-new
      | inr d ↦ offset-kept k (omega arith) ∙ laid.offsets k (omega arith)
    ];
    bodies = λ k lt. elim (cases_eq k i) [
      | inl e ↦ rw e body-new
      | inr d ↦ body-kept k (omega arith) ∙ laid.bodies k (omega arith)
    ];
  }

-- ---- the free space's place, which is written last

module _ (records : List (List ℕ)) (old new : List ℕ) (room : size_of records ≤ 496) (len : length old ≡ 512)
    (last : IsPut (510 - 2 * length records) (big_bytes 2 (start_of records (length records))) old new) where
  pub free-put : offset_of new (length records) ≡ start_of records (length records)
  unfolding offset_of
  free-put =
      let own = start-room records (length records) room in
      number_at-put (510 - 2 * length records) 2 (start_of records (length records)) old new last (let P : start_of records (length records) < 65536 = omega (arith, own) in P)

  pub laid-kept : AreLaid records (length records) old → AreLaid records (length records) new
  unfolding offset_of
  laid-kept laid = record {
    offsets = λ k lt.
        let few = few-records records room in
        number_at-kept (510 - 2 * k) 2 (510 - 2 * length records) (big_bytes 2 (start_of records (length records))) old new last (inr (omega (arith, few))) ∙ laid.offsets k lt;
    bodies = λ k lt.
        let rise = start-rises records (k + 1) (length records) (omega arith) in
        let bound = start-room records (length records) room in
        slice_range-kept (start_of records k) (start_of records (k + 1)) (510 - 2 * length records) (big_bytes 2 (start_of records (length records))) old new last (omega (arith, rise, bound)) (inl (omega (arith, rise, bound)))
        ∙ laid.bodies k lt;
  }

-- ---- the descriptor

pub head-from : (v : Node) (a b c d e : List ℕ) (kind : ℕ) → v.forward < 2 ^ 32 → v.backward < 2 ^ 32 → length v.records < 2 ^ 16
    → kind_of kind ≡ Some v.kind
    → IsPut 0 (big_bytes 4 v.forward) a b → IsPut 4 (big_bytes 4 v.backward) b c → IsPut 8 (kind ∷ v.height ∷ []) c d
    → IsPut 10 (big_bytes 2 (length v.records)) d e → HasHead v e
unfolding count_of
head-from v a b c d e kind f_small b_small n_small kind_is p q r s = record {
  forward =
      number_at-kept 0 4 10 (big_bytes 2 (length v.records)) d e s (inl (lit≤ tt)) ∙ number_at-kept 0 4 8 (kind ∷ v.height ∷ []) c d r (inl (lit≤ tt))
      ∙ number_at-kept 0 4 4 (big_bytes 4 v.backward) b c q (inl (lit≤ tt)) ∙ number_at-put 0 4 v.forward a b p f_small;
  backward =
      number_at-kept 4 4 10 (big_bytes 2 (length v.records)) d e s (inl (lit≤ tt)) ∙ number_at-kept 4 4 8 (kind ∷ v.height ∷ []) c d r (inl (lit≤ tt))
      ∙ number_at-put 4 4 v.backward b c q b_small;
  kind = let moved = s.rest 8 (inl (lit< tt)) ∙ r.here 0 (lit< tt) in rw moved kind_is;
  height = s.rest 9 (inl (lit< tt)) ∙ r.here 1 (lit< tt);
  count = number_at-put 10 2 (length v.records) d e s n_small;
}

pub head-kept : (v : Node) (old new : List ℕ) → SameHead old new → HasHead v old → HasHead v new
unfolding count_of
head-kept v old new same head = record {
  forward = number_at-same 0 4 new old (λ k low high. same k (omega arith)) ∙ head.forward;
  backward = number_at-same 4 4 new old (λ k low high. same k (omega arith)) ∙ head.backward;
  kind = rw (same 8 (lit< tt)) head.kind;
  height = same 9 (lit< tt) ∙ head.height;
  count = number_at-same 10 2 new old (λ k low high. same k (omega arith)) ∙ head.count;
}
