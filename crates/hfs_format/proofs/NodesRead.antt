-- What is read back from the bytes of a node of a new volume.
use Rattle.std.proofs.Common.{◌≡◌, ℕ, zero, suc, ◌+◌, ◌-◌, ◌*◌, ◌^◌, ◌<◌, ◌≤◌, List, [], ◌∷◌, ◌++◌, Ok, length, take, drop, get_or, replicate, refl, sym, ap, ◌∙◌, arith, subst}
use Rattle.std.specs.Prelude.{slice_range}
use Rattle.std.specs.List.{flat_map, sum_by}
use Rattle.std.proofs.lemmas.List.{append_assoc, append-nil, take_at, drop_at, drop-drop, length-append, length-replicate}
use Rattle.std.proofs.lemmas.List.Concat.{length-flat_map}
use Rattle.std.proofs.lemmas.List.Sums.{sum_by-cons, sum_by_more}
use Rattle.byteorder.specs.Endian.{big_bytes}
use Rattle.hfs_fields.proofs.LaidLemmas.{number-read}
use Rattle.hfs_btree.proofs.KindLemmas.{kind_of-byte_of}
use Rattle.hfs_btree.specs.declared.node.Node.{Node}
use Rattle.hfs_btree.specs.Node.{count_of, offset_of, node_of, start_of, size_of, Fits}
use Rattle.hfs_btree.specs.Laid.{HasHead}
use Rattle.hfs_btree.proofs.ReadBackLemmas.{start-room, few-records, size_of-lengths, node_of-encoded}
use Rattle.hfs_format.specs.NewTrees.{descriptor_bytes, offsets_down, offset_bytes, node_bytes}

-- what every node of a new volume keeps
pub record IsNodeValue (node : Node) : Type 0 where
  pub forward : node.forward < 2 ^ 32
  pub backward : node.backward < 2 ^ 32
  pub fits : Fits node

-- ---- the descriptor

head-read : (node : Node) (rest : List ℕ) → IsNodeValue node → HasHead node (descriptor_bytes node ++ rest)
unfolding descriptor_bytes count_of
head-read node rest ok =
    let few = few-records node.records ok.fits in
    let w : List ℕ = descriptor_bytes node ++ rest in
    record {
      forward = number-read 0 4 node.forward w _ refl ok.forward;
      backward = number-read 4 4 node.backward w _ refl ok.backward;
      kind = kind_of-byte_of node.kind;
      height = refl;
      count = number-read 10 2 (length node.records) w _ refl (omega (arith, few));
    }

-- ---- the records

abbrev joined : List (List ℕ) → List ℕ
joined records = flat_map (λ r. r) records

abbrev before : List (List ℕ) → ℕ → ℕ
before records k = sum_by (λ r. length r) (take k records)

length-joined : (records : List (List ℕ)) → length (joined records) ≡ sum_by (λ r. length r) records
length-joined records = length-flat_map (λ (r : List ℕ). r) records

-- record k stands behind those before it
record-stands : (records : List (List ℕ)) (k : ℕ) (rest : List ℕ) → k < length records
    → (tail : List ℕ) × (drop (before records k) (joined records ++ rest) ≡ get_or records k [] ++ tail)
record-stands [] k rest lt = absurd (omega arith)
record-stands (r ∷ records) zero rest lt = (joined records ++ rest, append_assoc r (joined records) rest)
record-stands (r ∷ records) (suc k) rest lt =
    let later = record-stands records k rest (omega arith) in
    let place = sum_by-cons (λ (x : List ℕ). length x) r (take k records) in
    let first = drop-drop (before records k) (length r) ((r ++ joined records) ++ rest) in
    let skipped = drop_at r (joined records ++ rest) (length r) refl in (
      later.0,
      ap (λ n. drop n ((r ++ joined records) ++ rest)) place ∙ sym first
          ∙ ap (λ (bytes : List ℕ). drop (before records k) (drop (length r) bytes)) (append_assoc r (joined records) rest)
          ∙ ap (drop (before records k)) skipped
          ∙ later.1,
    )

-- where record k begins, and the bytes from there to the next one
body-read : (front : List ℕ) (records : List (List ℕ)) (k : ℕ) (rest : List ℕ) → length front ≡ 14 → k < length records
    → slice_range (front ++ (joined records ++ rest)) (start_of records k) (start_of records (k + 1)) ≡ get_or records k []
unfolding start_of
body-read front records k rest whole lt =
    let stands = record-stands records k rest lt in
    let more = sum_by_more (λ (r : List ℕ). length r) records k [] lt in
    let len : 14 + before records (k + 1) - (14 + before records k) ≡ length (get_or records k []) = omega (arith, more) in
    let place : drop (14 + before records k) (front ++ (joined records ++ rest)) ≡ get_or records k [] ++ stands.0 =
    sym (drop-drop (before records k) 14 (front ++ (joined records ++ rest)))
    ∙ ap (drop (before records k)) (drop_at front (joined records ++ rest) 14 whole)
    ∙ stands.1 in
    (λ i. take (len i) (place i)) ∙ take_at (get_or records k []) stands.0 _ refl

-- ---- the row of offsets

length-offsets : (records : List (List ℕ)) (n : ℕ) → length (offsets_down records n) ≡ 2 * n + 2
unfolding offsets_down
length-offsets records zero = refl
length-offsets records (suc n) = omega (arith, length-offsets records n)

-- the offsets from that of record k on
offsets-from : (records : List (List ℕ)) (k m : ℕ) → drop (2 * m) (offsets_down records (m + k)) ≡ offsets_down records k
unfolding offsets_down
offsets-from records k zero = ap (offsets_down records) (let e : 0 + k ≡ k = omega arith in e)
offsets-from records k (suc m) =
    let two : 2 * suc m ≡ 2 + 2 * m = omega arith in
    let same : suc m + k ≡ suc (m + k) = omega arith in
    (λ i. drop (two i) (offsets_down records (same i)))
    ∙ sym (drop-drop (2 * m) 2 (offsets_down records (suc (m + k))))
    ∙ offsets-from records k m

offset-first : (records : List (List ℕ)) (k : ℕ) → (rest : List ℕ) × (offsets_down records k ≡ big_bytes 2 (start_of records k) ++ rest)
unfolding offsets_down
offset-first records zero = ([], sym (append-nil (big_bytes 2 (start_of records zero))))
offset-first records (suc k) = (offsets_down records k, refl)

offset-read : (front : List ℕ) (records : List (List ℕ)) (k : ℕ) → length front + 2 * length records ≡ 510 → k ≤ length records → start_of records k < 2 ^ 16
    → offset_of (front ++ offset_bytes records) k ≡ start_of records k
unfolding offset_of
offset-read front records k whole le small =
    let m : ℕ = length records - k in
    let first = offset-first records k in
    let place : 510 - 2 * k ≡ length front + 2 * m = omega arith in
    let all : length records ≡ m + k = omega arith in
    let stands : drop (510 - 2 * k) (front ++ offset_bytes records) ≡ big_bytes 2 (start_of records k) ++ first.0 =
    ap (λ n. drop n (front ++ offset_bytes records)) place
    ∙ sym (drop-drop (2 * m) (length front) (front ++ offset_bytes records))
    ∙ ap (drop (2 * m)) (drop_at front (offset_bytes records) (length front) refl)
    ∙ ap (λ n. drop (2 * m) (offsets_down records n)) all
    ∙ offsets-from records k m
    ∙ first.1 in
    number-read (510 - 2 * k) 2 (start_of records k) (front ++ offset_bytes records) first.0 stands small

-- ---- the whole node

length-descriptor : (node : Node) → length (descriptor_bytes node) ≡ 14
unfolding descriptor_bytes
length-descriptor node = refl

front-whole : (node : Node) → IsNodeValue node
    → length (descriptor_bytes node ++ joined node.records ++ replicate (496 - size_of node.records) 0) + 2 * length node.records ≡ 510
front-whole node ok =
    let fits = ok.fits in
    let one = length-append (descriptor_bytes node ++ joined node.records) (replicate (496 - size_of node.records) 0) in
    let two = length-append (descriptor_bytes node) (joined node.records) in
    let fill = length-replicate {A = ℕ} (496 - size_of node.records) 0 in
    omega (arith, one, two, fill, length-descriptor node, length-joined node.records, size_of-lengths node.records)

-- the bytes of a node are 512
pub length-node_bytes : (node : Node) → IsNodeValue node → length (node_bytes node) ≡ 512
unfolding node_bytes
length-node_bytes node ok =
    let front : List ℕ = descriptor_bytes node ++ joined node.records ++ replicate (496 - size_of node.records) 0 in
    omega (arith, length-append front (offset_bytes node.records), front-whole node ok, length-offsets node.records (length node.records))

-- and the node is read back from them
pub node_of-node_bytes : (node : Node) → IsNodeValue node → node_of (node_bytes node) ≡ Ok node
unfolding node_bytes
node_of-node_bytes node ok =
    let records : List (List ℕ) = node.records in
    let filler : List ℕ = replicate (496 - size_of records) 0 in
    let offset : (k : ℕ) → k ≤ length records → offset_of (node_bytes node) k ≡ start_of records k =
    λ k le. let room = start-room records k ok.fits in
    offset-read (descriptor_bytes node ++ joined records ++ filler) records k (front-whole node ok) le (omega (arith, room)) in
    let from_records = append_assoc (descriptor_bytes node ++ joined records) filler (offset_bytes records)
    ∙ append_assoc (descriptor_bytes node) (joined records) (filler ++ offset_bytes records) in
    let body : (k : ℕ) → k < length records → slice_range (node_bytes node) (start_of records k) (start_of records (k + 1)) ≡ get_or records k [] =
    λ k lt. ap (λ (bytes : List ℕ). slice_range bytes (start_of records k) (start_of records (k + 1))) from_records
    ∙ body-read (descriptor_bytes node) records k (filler ++ offset_bytes records) (length-descriptor node) lt in
    node_of-encoded node (node_bytes node) ok.fits
    (subst (HasHead node) (sym from_records) (head-read node (joined records ++ (filler ++ offset_bytes records)) ok))
    (record { offsets = λ k lt. offset k (omega arith); bodies = body })
    (offset (length records) (omega arith))
