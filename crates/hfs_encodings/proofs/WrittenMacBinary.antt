-- What is read of a MacBinary file is what was written.
use Rattle.std.proofs.Common.{◌≡◌, ◌∙◌, sym, ap, refl, arith, ℕ, ◌+◌, ◌-◌, ◌^◌, ◌<◌, ◌≤◌, Bool, true, false, ◌&&◌, List, [], ◌∷◌, ◌++◌, length, take, drop, replicate, slice_index}
use Rattle.std.specs.Prelude.{◌==◌, nat_le}
use Rattle.std.proofs.lemmas.List.{append_assoc, append-nil, length-append, length-replicate, length-take, length-drop, take_at, take_all, take-append-drop, drop_more, get_or-drop}
use Rattle.std.proofs.lemmas.Bool.{le-leb, eq-eqb}
use Rattle.byteorder.specs.Endian.{big_bytes}
use Rattle.hfs_fields.proofs.LaidLemmas.{behind, next, number-read, bytes-read, laid, row, laid-append}
use Rattle.hfs_fields.specs.Numbers.{number_at}
use Rattle.hfs_fields.specs.Mdb.{bytes_at}
use Rattle.hfs_fields.specs.Records.{is_bit_set}
use Rattle.hfs_encodings.specs.Crc.{crc16}
use Rattle.hfs_encodings.specs.declared.macbinary.MacBinaryHead.{MacBinaryHead}
use Rattle.hfs_encodings.specs.MacBinary.{IsMacBinaryHeadValue, HoldsMacBinary, lock_byte, macbinary_fields, macbinary_head_bytes, padding, filled, begins_macbinary, finder_info_in, macbinary_head_of, resource_place}

-- ---- what the Finder keeps, parted and joined

length-part : (i n : ℕ) (xs : List ℕ) → i + n ≤ length xs → length (bytes_at i n xs) ≡ n
length-part i n xs fits = omega (arith, length-take n (drop i xs), length-drop i xs, fits)

pub finder_info-joined : (info : List ℕ) → length info ≡ 16 → bytes_at 0 8 info ++ slice_index info 8 ∷ slice_index info 9 ∷ [] ++ bytes_at 10 6 info ≡ info
finder_info-joined info whole =
    let last : bytes_at 10 6 info ≡ drop 10 info = take_all 6 (drop 10 info) (omega (arith, length-drop 10 info, whole)) in
    let ninth : drop 9 info ≡ slice_index info 9 ∷ drop 10 info = drop_more info 9 0 (omega (arith, whole)) in
    let eighth : drop 8 info ≡ slice_index info 8 ∷ drop 9 info = drop_more info 8 0 (omega (arith, whole)) in
    ap (λ (bytes : List ℕ). take 8 info ++ slice_index info 8 ∷ slice_index info 9 ∷ [] ++ bytes) last
    ∙ append_assoc (take 8 info) (slice_index info 8 ∷ slice_index info 9 ∷ []) (drop 10 info)
    ∙ ap (λ (bytes : List ℕ). take 8 info ++ slice_index info 8 ∷ bytes) (sym ninth)
    ∙ ap (λ (bytes : List ℕ). take 8 info ++ bytes) (sym eighth)
    ∙ take-append-drop 8 info

lock-read : (locked : Bool) → is_bit_set 0 (lock_byte locked) ≡ locked
lock-read true = refl
lock-read false = refl

-- ---- the fields, one behind the other

-- what stands from type and creator on
behind_name : MacBinaryHead → List ℕ → List ℕ
behind_name head rest =
    row (
    bytes_at 0 8 head.finder_info ∷ (slice_index head.finder_info 8 ∷ 0 ∷ []) ∷ bytes_at 10 6 head.finder_info ∷ (lock_byte head.locked ∷ 0 ∷ [])
    ∷ big_bytes 4 head.data_length ∷ big_bytes 4 head.resource_length ∷ big_bytes 4 head.created ∷ big_bytes 4 head.modified
    ∷ (0 ∷ 0 ∷ slice_index head.finder_info 9 ∷ []) ∷ replicate 20 0 ∷ (129 ∷ 129 ∷ []) ∷ []
    ) rest

fields-row : (head : MacBinaryHead) (rest : List ℕ) → macbinary_fields head ++ rest ≡ 0 ∷ length head.name ∷ (head.name ++ (replicate (63 - length head.name) 0 ++ behind_name head rest))
unfolding macbinary_fields behind_name laid row
fields-row head rest =
    laid-append (0 ∷ length head.name ∷ []) (
    head.name ∷ replicate (63 - length head.name) 0
    ∷ bytes_at 0 8 head.finder_info ∷ (slice_index head.finder_info 8 ∷ 0 ∷ []) ∷ bytes_at 10 6 head.finder_info ∷ (lock_byte head.locked ∷ 0 ∷ [])
    ∷ big_bytes 4 head.data_length ∷ big_bytes 4 head.resource_length ∷ big_bytes 4 head.created ∷ big_bytes 4 head.modified
    ∷ (0 ∷ 0 ∷ slice_index head.finder_info 9 ∷ []) ∷ replicate 20 0 ∷ (129 ∷ 129 ∷ []) ∷ []
    ) rest

pub length-macbinary_fields : (head : MacBinaryHead) → IsMacBinaryHeadValue head → length (macbinary_fields head) ≡ 124
unfolding macbinary_fields
length-macbinary_fields head ok =
    let zeros = length-replicate {A = ℕ} (63 - length head.name) 0 in
    let first = length-part 0 8 head.finder_info (omega (arith, ok.finder_info)) in
    let second = length-part 10 6 head.finder_info (omega (arith, ok.finder_info)) in
    simp length-append (omega (arith, ok.name, zeros, first, second))

pub length-macbinary_head_bytes : (head : MacBinaryHead) → IsMacBinaryHeadValue head → length (macbinary_head_bytes head) ≡ 128
unfolding macbinary_head_bytes
length-macbinary_head_bytes head ok = simp length-append (omega (arith, length-macbinary_fields head ok))

pub length-filled : (fork : List ℕ) (len : ℕ) → length fork ≡ len → length (filled fork) ≡ len + padding len
unfolding filled
length-filled fork len own =
    length-append fork (replicate (padding (length fork)) 0) ∙ ap (λ (n : ℕ). length fork + n) (length-replicate {A = ℕ} (padding (length fork)) 0)
    ∙ ap (λ (n : ℕ). n + padding n) own

take-filled : (fork rest : List ℕ) (len : ℕ) → length fork ≡ len → take len (filled fork ++ rest) ≡ fork
unfolding filled
take-filled fork rest len own =
    ap (λ (bytes : List ℕ). take len bytes) (append_assoc fork (replicate (padding (length fork)) 0) rest) ∙ take_at fork (replicate (padding (length fork)) 0 ++ rest) len own

head-rebuilt : (head : MacBinaryHead) (name finder_info : List ℕ) (locked : Bool) (data_length resource_length created modified : ℕ)
    → name ≡ head.name → finder_info ≡ head.finder_info → locked ≡ head.locked → data_length ≡ head.data_length → resource_length ≡ head.resource_length
    → created ≡ head.created → modified ≡ head.modified
    → record head { name = name; finder_info = finder_info; locked = locked; data_length = data_length; resource_length = resource_length; created = created; modified = modified } ≡ head
head-rebuilt head _ _ _ _ _ _ _ a b c d e f g =
    λ i. record { name = a i; finder_info = b i; locked = c i; data_length = d i; resource_length = e i; created = f i; modified = g i }

-- a byte at a place, where it is known what stands from a place before it on
byte-read : (i k : ℕ) (w t : List ℕ) → drop i w ≡ t → slice_index w (i + k) ≡ slice_index t k
byte-read i k w t h = sym (get_or-drop i w k 0) ∙ ap (λ (bytes : List ℕ). slice_index bytes k) h

all-true : (a b c d e f g h j : Bool) → a ≡ true → b ≡ true → c ≡ true → d ≡ true → e ≡ true → f ≡ true → g ≡ true → h ≡ true → j ≡ true
    → (a && b && c && d && e && f && g && h && j) ≡ true
all-true a b c d e f g h j p q r s t u v w x = λ i. p i && q i && r i && s i && t i && u i && v i && w i && x i

-- ---- the fields, read from a file that begins with them

module _ (head : MacBinaryHead) (rest : List ℕ) (ok : IsMacBinaryHeadValue head) where
  w : List ℕ
  w = macbinary_fields head ++ rest

  from-name : drop 2 w ≡ head.name ++ (replicate (63 - length head.name) 0 ++ behind_name head rest)
  unfolding w
  from-name = ap (λ (bytes : List ℕ). drop 2 bytes) (fields-row head rest)

  name-length : slice_index w 1 ≡ length head.name
  unfolding w
  name-length = ap (λ (bytes : List ℕ). slice_index bytes 1) (fields-row head rest)

  first-byte : slice_index w 0 ≡ 0
  unfolding w
  first-byte = ap (λ (bytes : List ℕ). slice_index bytes 0) (fields-row head rest)

  from-type : drop 65 w ≡ behind_name head rest
  from-type =
      let zeros : List ℕ = replicate (63 - length head.name) 0 in
      let whole : length (head.name ++ zeros) ≡ 63 = omega (arith, length-append head.name zeros, length-replicate {A = ℕ} (63 - length head.name) 0, ok.name) in
      next 2 63 (head.name ++ zeros) w (behind_name head rest) (from-name ∙ sym (append_assoc head.name zeros (behind_name head rest))) whole

  -- behind type and creator
  behind_creator : List ℕ
  behind_creator =
      row (
      (slice_index head.finder_info 8 ∷ 0 ∷ []) ∷ bytes_at 10 6 head.finder_info ∷ (lock_byte head.locked ∷ 0 ∷ [])
      ∷ big_bytes 4 head.data_length ∷ big_bytes 4 head.resource_length ∷ big_bytes 4 head.created ∷ big_bytes 4 head.modified
      ∷ (0 ∷ 0 ∷ slice_index head.finder_info 9 ∷ []) ∷ replicate 20 0 ∷ (129 ∷ 129 ∷ []) ∷ []
      ) rest

  -- from the lock on
  from_lock : List ℕ
  from_lock =
      lock_byte head.locked ∷ 0 ∷ (big_bytes 4 head.data_length ++ (big_bytes 4 head.resource_length ++ (big_bytes 4 head.created ++ (big_bytes 4 head.modified
      ++ (0 ∷ 0 ∷ slice_index head.finder_info 9 ∷ (replicate 20 0 ++ (129 ∷ 129 ∷ rest)))))))

  type-there : drop 65 w ≡ bytes_at 0 8 head.finder_info ++ behind_creator
  unfolding behind_name behind_creator row
  type-there = from-type

  from-flags : drop 73 w ≡ slice_index head.finder_info 8 ∷ 0 ∷ (bytes_at 10 6 head.finder_info ++ from_lock)
  unfolding behind_creator from_lock row
  from-flags = next 65 8 (bytes_at 0 8 head.finder_info) w behind_creator type-there (length-part 0 8 head.finder_info (omega (arith, ok.finder_info)))

  from-location : drop 75 w ≡ bytes_at 10 6 head.finder_info ++ from_lock
  from-location = behind 73 2 w _ from-flags

  from-lock : drop 81 w ≡ from_lock
  from-lock = next 75 6 (bytes_at 10 6 head.finder_info) w from_lock from-location (length-part 10 6 head.finder_info (omega (arith, ok.finder_info)))

  from-data_length : drop 83 w ≡ big_bytes 4 head.data_length ++ (big_bytes 4 head.resource_length ++ (big_bytes 4 head.created ++ (big_bytes 4 head.modified ++ drop 18 from_lock)))
  unfolding from_lock
  from-data_length = behind 81 2 w _ from-lock

  from-low_flags : drop 99 w ≡ 0 ∷ 0 ∷ slice_index head.finder_info 9 ∷ (replicate 20 0 ++ (129 ∷ 129 ∷ rest))
  unfolding from_lock
  from-low_flags = behind 81 18 w _ from-lock

  from-check : drop 124 w ≡ rest
  from-check = behind 99 25 w _ from-low_flags

  check-there : drop 124 (macbinary_fields head ++ rest) ≡ rest
  unfolding w
  check-there = from-check

  finder-read : finder_info_in w ≡ head.finder_info
  finder-read =
      (λ i. bytes-read 65 8 (bytes_at 0 8 head.finder_info) w behind_creator type-there (length-part 0 8 head.finder_info (omega (arith, ok.finder_info))) i
      ++ byte-read 73 0 w _ from-flags i ∷ byte-read 99 2 w _ from-low_flags i ∷ []
      ++ bytes-read 75 6 (bytes_at 10 6 head.finder_info) w from_lock from-location (length-part 10 6 head.finder_info (omega (arith, ok.finder_info))) i)
      ∙ finder_info-joined head.finder_info ok.finder_info

  lock-is : is_bit_set 0 (slice_index w 81) ≡ head.locked
  unfolding from_lock
  lock-is = ap (λ (byte : ℕ). is_bit_set 0 byte) (byte-read 81 0 w _ from-lock) ∙ lock-read head.locked

  pub macbinary_head_of-fields : macbinary_head_of (macbinary_fields head ++ rest) ≡ head
  unfolding macbinary_head_of w
  macbinary_head_of-fields =
      head-rebuilt head _ _ _ _ _ _ _
      ((λ i. take (name-length i) (from-name i)) ∙ take_at head.name _ (length head.name) refl)
      finder-read
      lock-is
      (number-read 83 4 head.data_length w _ from-data_length (omega (arith, ok.data_length)))
      (number-read 87 4 head.resource_length w _ (behind 83 4 w _ from-data_length) (omega (arith, ok.resource_length)))
      (number-read 91 4 head.created w _ (behind 83 8 w _ from-data_length) (omega (arith, ok.created)))
      (number-read 95 4 head.modified w _ (behind 83 12 w _ from-data_length) (omega (arith, ok.modified)))

  -- with the check behind the fields
  pub begins_macbinary-fields : (more : List ℕ) → 2 ≤ length more → rest ≡ big_bytes 2 (crc16 (macbinary_fields head)) ++ more → crc16 (macbinary_fields head) < 2 ^ 16 → 1 ≤ length head.name
      → begins_macbinary (macbinary_fields head ++ rest) ≡ true
  unfolding begins_macbinary w from_lock
  begins_macbinary-fields more two check small named =
      let fields = length-macbinary_fields head ok in
      let own = ap (λ (bytes : List ℕ). length bytes) check in
      let long = length-append (macbinary_fields head) rest in
      let read : number_at 124 2 w ≡ crc16 (macbinary_fields head) = number-read 124 2 (crc16 (macbinary_fields head)) w more (from-check ∙ check) (omega (arith, small)) in
      all-true _ _ _ _ _ _ _ _ _
      (le-leb 128 (length w) (omega (arith, fields, own, long, two)))
      (ap (λ (n : ℕ). n == 0) first-byte)
      (le-leb 1 (slice_index w 1) (omega (arith, name-length, named)))
      (le-leb (slice_index w 1) 31 (omega (arith, name-length, ok.name)))
      (ap (λ (n : ℕ). n == 0) (byte-read 73 1 w _ from-flags))
      (ap (λ (n : ℕ). n == 0) (byte-read 81 1 w _ from-lock))
      (ap (λ (n : ℕ). n == 0) (number-read 120 2 0 w _ (behind 99 21 w _ from-low_flags) (omega arith)))
      (ap (λ (n : ℕ). nat_le n 129) (byte-read 99 24 w _ from-low_flags))
      (eq-eqb (number_at 124 2 w) (crc16 (take 124 w)) (read ∙ sym (ap crc16 (take_at (macbinary_fields head) rest 124 fields))))

-- ---- the whole file

module _ (head : MacBinaryHead) (data_fork resource_fork : List ℕ) (ok : IsMacBinaryHeadValue head) (small : crc16 (macbinary_fields head) < 2 ^ 16) where
  -- behind the fields and the check
  more : List ℕ
  more = 0 ∷ 0 ∷ (filled data_fork ++ filled resource_fork)

  file-row : macbinary_head_bytes head ++ filled data_fork ++ filled resource_fork ≡ macbinary_fields head ++ (big_bytes 2 (crc16 (macbinary_fields head)) ++ more)
  unfolding macbinary_head_bytes more laid row
  file-row = laid-append (macbinary_fields head) (big_bytes 2 (crc16 (macbinary_fields head)) ∷ (0 ∷ 0 ∷ []) ∷ filled data_fork ∷ []) (filled resource_fork)

  from-forks : (file : List ℕ) → file ≡ macbinary_fields head ++ (big_bytes 2 (crc16 (macbinary_fields head)) ++ more) → drop 128 file ≡ filled data_fork ++ filled resource_fork
  unfolding more
  from-forks file is =
      behind 124 4 file _ (ap (λ (bytes : List ℕ). drop 124 bytes) is ∙ check-there head (big_bytes 2 (crc16 (macbinary_fields head)) ++ more) ok)

  from-resource : (file : List ℕ) → file ≡ macbinary_fields head ++ (big_bytes 2 (crc16 (macbinary_fields head)) ++ more) → length data_fork ≡ head.data_length
      → drop (resource_place head) file ≡ filled resource_fork
  from-resource file is own =
      next 128 (head.data_length + padding head.data_length) (filled data_fork) file (filled resource_fork) (from-forks file is) (length-filled data_fork head.data_length own)

  pub holds-macbinary : 1 ≤ length head.name → length data_fork ≡ head.data_length → length resource_fork ≡ head.resource_length
      → HoldsMacBinary head data_fork resource_fork (macbinary_head_bytes head ++ filled data_fork ++ filled resource_fork)
  unfolding more
  holds-macbinary named data_own resource_own = record {
    begins = ap begins_macbinary file-row ∙ begins_macbinary-fields head _ ok more (omega arith) refl small named;
    head_is = ap macbinary_head_of file-row ∙ macbinary_head_of-fields head _ ok;
    data_is = ap (λ (bytes : List ℕ). take head.data_length bytes) (from-forks _ file-row) ∙ take-filled data_fork (filled resource_fork) head.data_length data_own;
    resource_is =
        ap (λ (bytes : List ℕ). take head.resource_length bytes) (from-resource _ file-row data_own ∙ sym (append-nil (filled resource_fork)))
        ∙ take-filled resource_fork [] head.resource_length resource_own;
  }
