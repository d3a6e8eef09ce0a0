-- What is read of a MacBinary file is what was written.
use Rattle.std.proofs.Common.{◌≡◌, ◌∙◌, sym, ap, refl, arith, ℕ, ◌+◌, ◌-◌, ◌<◌, ◌≤◌, true, ◌&&◌, List, [], ◌∷◌, ◌++◌, length, take, drop, replicate, slice_index, Some, None}
use Rattle.std.specs.Prelude.{◌==◌, nat_le, if◌then◌else◌}
use Rattle.std.proofs.lemmas.List.{append_assoc, length-append, get_or-take, get_or-drop, take-take, drop-take, drop_at}
use Rattle.std.proofs.lemmas.Bool.{and_parts, and_from, eqb-true, eq-eqb, leb-true, le-leb}
use Rattle.byteorder.specs.Endian.{big_bytes}
use Rattle.hfs_fields.proofs.LaidLemmas.{laid, row, laid-append}
use Rattle.hfs_fields.proofs.PutLemmas.{number_at-same}
use Rattle.hfs_fields.specs.Numbers.{number_at}
use Rattle.hfs_fields.specs.Mdb.{bytes_at}
use Rattle.hfs_fields.specs.Records.{is_bit_set}
use Rattle.hfs_encodings.specs.Crc.{crc16}
use Rattle.hfs_encodings.specs.declared.macbinary.MacBinaryHead.{MacBinaryHead}
use Rattle.hfs_encodings.specs.MacBinary.{HoldsMacBinary, lock_byte, macbinary_bytes, macbinary_fields, macbinary_head_bytes, macbinary_head_of, padding, filled, begins_macbinary, finder_info_in}
use Rattle.hfs_encodings.proofs.WrittenMacBinary.{length-filled}
use Rattle.hfs_encodings.specs.Names.{given_name}
use Rattle.hfs_encodings.specs.IncomingMacBinary.{is_version, is_macbinary_head, filled_length, data_place, resource_place, macbinary_end, macbinary_of, macbinary_with, macbinary_in}
use Rattle.hfs_encodings.specs.Laws.{IsReadBack, macbinary_file_of}
use Rattle.hfs_encodings.proofs.AppleDoubleRead.{chosen}

-- ---- the first bytes of a file

module _ (m : ℕ) (w : List ℕ) where
  byte-front : (k : ℕ) → k < m → slice_index (take m w) k ≡ slice_index w k
  byte-front k lt = get_or-take m w k 0 lt

  number-front : (i n : ℕ) → i + n ≤ m → number_at i n (take m w) ≡ number_at i n w
  number-front i n le = number_at-same i n (take m w) w (λ k from to. byte-front k (omega (arith, le, to)))

  bytes-front : (i n : ℕ) → i + n ≤ m → bytes_at i n (take m w) ≡ bytes_at i n w
  bytes-front i n le =
      let parts : m ≡ i + (m - i) = omega (arith, le) in
      ap (λ (k : ℕ). take n (drop i (take k w))) parts ∙ ap (take n) (drop-take i (m - i) w) ∙ take-take n (m - i) (drop i w) (omega (arith, le))

-- ---- the version

-- the fields before it
before_version : MacBinaryHead → List ℕ
before_version head =
    0 ∷ length head.name ∷ [] ++ head.name ++ replicate (63 - length head.name) 0
    ++ bytes_at 0 8 head.finder_info ++ slice_index head.finder_info 8 ∷ 0 ∷ [] ++ bytes_at 10 6 head.finder_info ++ lock_byte head.locked ∷ 0 ∷ []
    ++ big_bytes 4 head.data_length ++ big_bytes 4 head.resource_length ++ big_bytes 4 head.created ++ big_bytes 4 head.modified
    ++ 0 ∷ 0 ∷ slice_index head.finder_info 9 ∷ [] ++ replicate 20 0

module _ (head : MacBinaryHead) (rest : List ℕ) (long : length (macbinary_head_bytes head) ≡ 128) where
  check : List ℕ
  check = big_bytes 2 (crc16 (macbinary_fields head))

  parts : macbinary_head_bytes head ++ rest ≡ before_version head ++ (129 ∷ 129 ∷ (check ++ (0 ∷ 0 ∷ rest)))
  unfolding macbinary_head_bytes macbinary_fields before_version check laid row
  parts = laid-append (before_version head) ((129 ∷ 129 ∷ []) ∷ check ∷ (0 ∷ 0 ∷ []) ∷ []) rest

  check-size : length check ≡ 2
  unfolding check
  check-size = refl

  size : length (before_version head) ≡ 122
  size =
      let all : length (macbinary_head_bytes head ++ rest) ≡ 128 + length rest = length-append (macbinary_head_bytes head) rest ∙ ap (λ (n : ℕ). n + length rest) long in
      omega (
        arith,
        all,
        length-append (before_version head) (129 ∷ 129 ∷ (check ++ (0 ∷ 0 ∷ rest))),
        length-append check (0 ∷ 0 ∷ rest),
        check-size,
        ap length parts,
      )

  from-version : drop 122 (macbinary_head_bytes head ++ rest) ≡ 129 ∷ 129 ∷ (check ++ (0 ∷ 0 ∷ rest))
  from-version = ap (drop 122) parts ∙ drop_at (before_version head) (129 ∷ 129 ∷ (check ++ (0 ∷ 0 ∷ rest))) 122 size

  version-there : slice_index (macbinary_head_bytes head ++ rest) 122 ≡ 129
  version-there = sym (get_or-drop 122 (macbinary_head_bytes head ++ rest) 0 0) ∙ ap (λ (l : List ℕ). slice_index l 0) from-version

  least-there : slice_index (macbinary_head_bytes head ++ rest) 123 ≡ 129
  least-there = sym (get_or-drop 122 (macbinary_head_bytes head ++ rest) 1 0) ∙ ap (λ (l : List ℕ). slice_index l 1) from-version

-- ---- all of it

module _ (head : MacBinaryHead) (file : List ℕ) (begins : begins_macbinary file ≡ true) (is : macbinary_head_of file ≡ head) (version : slice_index file 122 ≡ 129) (least : slice_index file 123 ≡ 129) where
  front : List ℕ
  front = take 128 file

  record Tests : Type 0 where
    pub size : nat_le 128 (length file) ≡ true
    pub first : (slice_index file 0 == 0) ≡ true
    pub named : nat_le 1 (slice_index file 1) ≡ true
    pub short : nat_le (slice_index file 1) 31 ≡ true
    pub second : (slice_index file 74 == 0) ≡ true
    pub third : (slice_index file 82 == 0) ≡ true
    pub header : (number_at 120 2 file == 0) ≡ true
    pub check : (number_at 124 2 file == crc16 (take 124 file)) ≡ true

  tests : Tests
  unfolding begins_macbinary
  tests =
      let nine = and_parts _ _ begins in
      let eight = and_parts _ _ nine.0 in
      let seven = and_parts _ _ eight.0 in
      let six = and_parts _ _ seven.0 in
      let five = and_parts _ _ six.0 in
      let four = and_parts _ _ five.0 in
      let three = and_parts _ _ four.0 in
      let two = and_parts _ _ three.0 in
      record { size = two.0; first = two.1; named = three.1; short = four.1; second = five.1; third = six.1; header = seven.1; check = nine.1 }

  few : slice_index file 1 ≤ 31
  few = leb-true (slice_index file 1) 31 tests.short

  at : (k : ℕ) → k < 128 → slice_index (take 128 file) k ≡ slice_index file k
  at k lt = byte-front 128 file k lt

  same-check : (number_at 124 2 (take 128 file) == crc16 (take 124 (take 128 file))) ≡ (number_at 124 2 file == crc16 (take 124 file))
  same-check = λ i. number-front 128 file 124 2 (omega arith) i == crc16 (take-take 124 128 file (omega arith) i)

  is-version : (k : ℕ) → k < 128 → slice_index file k ≡ 129 → is_version (slice_index (take 128 file) k) ≡ true
  is-version k lt e = ap is_version (at k lt ∙ e)

  pub begins-there : is_macbinary_head (take 128 file) ≡ true
  unfolding is_macbinary_head
  begins-there =
      and_from _ _ (and_from _ _ (and_from _ _ (and_from _ _ (and_from _ _ (and_from _ _ (and_from _ _
      (ap (λ (n : ℕ). n == 0) (at 0 (omega arith)) ∙ tests.first)
      (ap (nat_le 1) (at 1 (omega arith)) ∙ tests.named))
      (ap (λ (n : ℕ). nat_le n 63) (at 1 (omega arith)) ∙ le-leb (slice_index file 1) 63 (omega (arith, few))))
      (ap (λ (n : ℕ). n == 0) (at 74 (omega arith)) ∙ tests.second))
      (ap (λ (n : ℕ). n == 0) (at 82 (omega arith)) ∙ tests.third))
      (is-version 122 (omega arith) version))
      (is-version 123 (omega arith) least))
      (same-check ∙ tests.check)

  name-there : bytes_at 2 (slice_index (take 128 file) 1) (take 128 file) ≡ head.name
  unfolding macbinary_head_of
  name-there =
      ap (λ (n : ℕ). bytes_at 2 n (take 128 file)) (at 1 (omega arith)) ∙ bytes-front 128 file 2 (slice_index file 1) (omega (arith, few))
      ∙ ap (λ (h : MacBinaryHead). h.name) is

  info-there : finder_info_in (take 128 file) ≡ head.finder_info
  unfolding macbinary_head_of
  info-there =
      (λ i. bytes-front 128 file 65 8 (omega arith) i ++ at 73 (omega arith) i ∷ at 101 (omega arith) i ∷ [] ++ bytes-front 128 file 75 6 (omega arith) i)
      ∙ ap (λ (h : MacBinaryHead). h.finder_info) is

  lock-there : is_bit_set 0 (slice_index (take 128 file) 81) ≡ head.locked
  unfolding macbinary_head_of
  lock-there = ap (is_bit_set 0) (at 81 (omega arith)) ∙ ap (λ (h : MacBinaryHead). h.locked) is

  created-there : number_at 91 4 (take 128 file) ≡ head.created
  unfolding macbinary_head_of
  created-there = number-front 128 file 91 4 (omega arith) ∙ ap (λ (h : MacBinaryHead). h.created) is

  modified-there : number_at 95 4 (take 128 file) ≡ head.modified
  unfolding macbinary_head_of
  modified-there = number-front 128 file 95 4 (omega arith) ∙ ap (λ (h : MacBinaryHead). h.modified) is

  pub data-there : number_at 83 4 (take 128 file) ≡ head.data_length
  unfolding macbinary_head_of
  data-there = number-front 128 file 83 4 (omega arith) ∙ ap (λ (h : MacBinaryHead). h.data_length) is

  pub resource-there : number_at 87 4 (take 128 file) ≡ head.resource_length
  unfolding macbinary_head_of
  resource-there = number-front 128 file 87 4 (omega arith) ∙ ap (λ (h : MacBinaryHead). h.resource_length) is

  pub header-there : number_at 120 2 (take 128 file) ≡ 0
  header-there = number-front 128 file 120 2 (omega arith) ∙ eqb-true _ _ tests.header

  pub end-there : macbinary_end (take 128 file) ≡ 128 + (head.data_length + padding head.data_length) + (head.resource_length + padding head.resource_length)
  unfolding macbinary_end resource_place data_place
  end-there = λ i. 128 + filled_length (header-there i) + filled_length (data-there i) + filled_length (resource-there i)

  pub all-there : macbinary_of (take 128 file) ≡ macbinary_file_of head
  unfolding macbinary_of resource_place data_place
  all-there = λ i. record {
    name = given_name (name-there i);
    finder_info = info-there i;
    locked = lock-there i;
    created = created-there i;
    modified = modified-there i;
    data_fork = record { start = 128 + filled_length (header-there i); len = data-there i };
    resource_fork = record { start = 128 + filled_length (header-there i) + filled_length (data-there i); len = resource-there i };
  }

  pub told-there : length file ≡ 128 + (head.data_length + padding head.data_length) + (head.resource_length + padding head.resource_length)
      → macbinary_in file ≡ Some (macbinary_file_of head)
  unfolding macbinary_in macbinary_with
  told-there size =
      chosen (nat_le 128 (length file)) (macbinary_with (length file) (take 128 file)) None tests.size
      ∙ chosen (is_macbinary_head (take 128 file) && (length file == macbinary_end (take 128 file))) (Some (macbinary_of (take 128 file))) None
      (and_from _ _ begins-there (eq-eqb (length file) (macbinary_end (take 128 file)) (size ∙ sym end-there)))
      ∙ ap Some all-there

pub read-back : (head : MacBinaryHead) (data_fork resource_fork : List ℕ) → length (macbinary_head_bytes head) ≡ 128
    → length data_fork ≡ head.data_length → length resource_fork ≡ head.resource_length
    → HoldsMacBinary head data_fork resource_fork (macbinary_bytes head data_fork resource_fork) → IsReadBack head data_fork resource_fork
read-back head data_fork resource_fork long data_own resource_own held =
    let file : List ℕ = macbinary_bytes head data_fork resource_fork in
    let behind : macbinary_bytes head data_fork resource_fork ≡ macbinary_head_bytes head ++ (filled data_fork ++ filled resource_fork) =
    append_assoc (macbinary_head_bytes head) (filled data_fork) (filled resource_fork) in
    let version = ap (λ (l : List ℕ). slice_index l 122) behind ∙ version-there head (filled data_fork ++ filled resource_fork) long in
    let least = ap (λ (l : List ℕ). slice_index l 123) behind ∙ least-there head (filled data_fork ++ filled resource_fork) long in
    let size : length (macbinary_bytes head data_fork resource_fork) ≡ 128 + (head.data_length + padding head.data_length) + (head.resource_length + padding head.resource_length) =
    length-append (macbinary_head_bytes head ++ filled data_fork) (filled resource_fork)
    ∙ (λ i. length-append (macbinary_head_bytes head) (filled data_fork) i + length-filled resource_fork head.resource_length resource_own i)
    ∙ (λ i. long i + length-filled data_fork head.data_length data_own i + (head.resource_length + padding head.resource_length)) in
    record {
      told = told-there head file held.begins held.head_is version least size;
      data_is = held.data_is;
      resource_is = held.resource_is;
    }
