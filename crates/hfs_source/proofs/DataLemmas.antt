-- Pieces of the user data of sectors.
use Rattle.std.proofs.Common.{◌≡◌, ◌∙◌, ℕ, ◌+◌, ◌-◌, ◌*◌, ◌<◌, ◌≤◌, Bool, true, false, cond, List, ◌++◌, length, take, drop, Option, Some, None, ap, sym, replicate, arith, refl, zero, suc}
use Rattle.std.specs.Prelude.{IfSome}
use Rattle.std.proofs.lemmas.List.{length-take, length-drop, length-replicate, length-append, take-append-le, drop-append-le, drop-drop, drop-take, take-take, drop-replicate, take-replicate}
use Rattle.std.proofs.lemmas.Slice.{take-put_mid}
use Rattle.std.proofs.Math.Seq.{take-add, drop-append-add}
use borrow.Rule.Slice.PartMut.{put_mid}
use Rattle.hfs_fields.specs.Mdb.{bytes_at}
use Rattle.hfs_source.specs.Images.{HasAt}
use Rattle.hfs_source.specs.Sectors.{count_without, sector_count, other_count, user_data_of, data_from, data_of, data_start, others_of, sector_data, start_by_mode, is_mode_2_form_1, has_pattern}

-- ---- one sector

start-within : (head : List ℕ) → IfSome (data_start head) (λ start. start ≤ 24)
unfolding data_start start_by_mode
start-within head = by (has_pattern head) _ (is_mode_2_form_1 head)
  where
    by : (a b c : Bool) → IfSome (cond a (cond b (Some 16) (cond c (Some 24) None)) None) (λ start. start ≤ 24)
    by false b c = tt
    by true true c = omega arith
    by true false true = omega arith
    by true false false = tt

pub length-sector_data : (sector : List ℕ) → length sector ≡ 2352 → length (sector_data sector) ≡ 2048
unfolding sector_data
length-sector_data sector whole = by (data_start (take 24 sector)) (start-within (take 24 sector))
  where
    by : (o : Option ℕ) → IfSome o (λ start. start ≤ 24) → length (data_from o sector) ≡ 2048
    by None within = length-replicate {A = ℕ} 2048 0
    by (Some start) within = omega (arith, length-take 2048 (drop start sector), length-drop start sector, whole, within)

-- a part of a sector's data, as it stands in the sector
pub data-there : (sector : List ℕ) (start from k : ℕ) → from + k ≤ 2048 → Some start ≡ data_start (take 24 sector)
    → bytes_at (start + from) k sector ≡ bytes_at from k (sector_data sector)
unfolding sector_data
data-there sector start from k within is =
    let room : from + (2048 - from) ≡ 2048 = omega (arith, within) in
    let cut : drop from (take 2048 (drop start sector)) ≡ take (2048 - from) (drop (start + from) sector) =
    ap (λ n. drop from (take n (drop start sector))) (sym room) ∙ drop-take from (2048 - from) (drop start sector)
    ∙ ap (take (2048 - from)) (drop-drop from start sector) in
    sym (ap (take k) cut ∙ take-take k (2048 - from) (drop (start + from) sector) (omega (arith, within)))
    ∙ ap (λ o. bytes_at from k (data_from o sector)) is

-- and zeros, where there is none
pub data-missing : (sector : List ℕ) (from k : ℕ) → from + k ≤ 2048 → None ≡ data_start (take 24 sector) → replicate k 0 ≡ bytes_at from k (sector_data sector)
unfolding sector_data
data-missing sector from k within is =
    let zeros : List ℕ = replicate 2048 0 in
    sym (ap (take k) (drop-replicate from 2048 0) ∙ take-replicate k (2048 - from) 0 (omega (arith, within)))
    ∙ ap (λ o. bytes_at from k (data_from o sector)) is

-- ---- the sectors of a file

first-whole : (m : ℕ) (file : List ℕ) → suc m * 2352 ≤ length file → length (sector_data (take 2352 file)) ≡ 2048
first-whole m file inside = length-sector_data (take 2352 file) (omega (arith, length-take 2352 file, inside))

rest-inside : (m : ℕ) (file : List ℕ) → suc m * 2352 ≤ length file → m * 2352 ≤ length (drop 2352 file)
rest-inside m file inside = omega (arith, length-drop 2352 file, inside)

length-data_of : (m : ℕ) (file : List ℕ) → m * 2352 ≤ length file → length (data_of m file) ≡ m * 2048
unfolding data_of
length-data_of zero file inside = refl
length-data_of (suc m) file inside =
    omega (arith, length-append (sector_data (take 2352 file)) (data_of m (drop 2352 file)), first-whole m file inside, length-data_of m (drop 2352 file) (rest-inside m file inside))

sectors-inside : (file : List ℕ) → sector_count file * 2352 ≤ length file
sectors-inside file = omega arith

pub length-user_data_of : (file : List ℕ) → length (user_data_of file) ≡ sector_count file * 2048
length-user_data_of file = length-data_of (sector_count file) file (sectors-inside file)

-- what lies in one sector
piece : (n m from k : ℕ) (file : List ℕ) → n < m → m * 2352 ≤ length file → from + k ≤ 2048
    → take k (drop (n * 2048 + from) (data_of m file)) ≡ take k (drop from (sector_data (take 2352 (drop (n * 2352) file))))
unfolding data_of
piece zero zero from k file lt inside within = absurd (omega (arith, lt))
piece (suc n) zero from k file lt inside within = absurd (omega (arith, lt))
piece zero (suc m) from k file lt inside within =
    let own = sector_data (take 2352 file) in
    let whole : length own ≡ 2048 = first-whole m file inside in
    let first : 0 * 2048 + from ≡ from = omega arith in
    let begun : 0 * 2352 ≡ 0 = omega arith in
    ap (λ i. take k (drop i (own ++ data_of m (drop 2352 file)))) first ∙ ap (take k) (drop-append-le from own (data_of m (drop 2352 file)) (omega (arith, whole, within)))
    ∙ take-append-le k (drop from own) (data_of m (drop 2352 file)) (omega (arith, length-drop from own, whole, within))
    ∙ ap (λ i. take k (drop from (sector_data (take 2352 (drop i file))))) (sym begun)
piece (suc n) (suc m) from k file lt inside within =
    let own = sector_data (take 2352 file) in
    let whole : length own ≡ 2048 = first-whole m file inside in
    let behind : suc n * 2048 + from ≡ length own + (n * 2048 + from) = omega (arith, whole) in
    let next : 2352 + n * 2352 ≡ suc n * 2352 = omega arith in
    ap (λ i. take k (drop i (own ++ data_of m (drop 2352 file)))) behind
    ∙ ap (take k) (drop-append-add own (data_of m (drop 2352 file)) (n * 2048 + from))
    ∙ piece n m from k (drop 2352 file) (omega (arith, lt)) (rest-inside m file inside) within
    ∙ ap (λ l. take k (drop from (sector_data (take 2352 l)))) (drop-drop (n * 2352) 2352 file ∙ ap (λ i. drop i file) next)

-- a sector that was read is one of the file's
sector-there : (n : ℕ) (sector file : List ℕ) → length sector ≡ 2352 → HasAt (n * 2352) sector file → n < sector_count file
sector-there n sector file whole own =
    let cut : 2352 ≡ length (take 2352 (drop (n * 2352) file)) = sym whole ∙ ap length own ∙ ap (λ k. length (take k (drop (n * 2352) file))) whole in
    omega (arith, cut, length-take 2352 (drop (n * 2352) file), length-drop (n * 2352) file)

-- what was laid goes on to the next piece
pub laid-more : (n from place done count room : ℕ) (sector old part file : List ℕ) → n * 2048 + from ≡ place + done → from + count ≤ 2048
    → length sector ≡ 2352 → HasAt (n * 2352) sector file → length part ≡ count → part ≡ bytes_at from count (sector_data sector) → done ≤ length old
    → take done old ≡ take done (drop place (user_data_of file)) → take (done + count) (put_mid done room old part) ≡ take (done + count) (drop place (user_data_of file))
laid-more n from place done count room sector old part file here within whole own long is few before =
    let same : sector ≡ take 2352 (drop (n * 2352) file) = own ∙ ap (λ k. take k (drop (n * 2352) file)) whole in
    let laid : part ≡ take count (drop done (drop place (user_data_of file))) =
    is ∙ ap (λ s. bytes_at from count (sector_data s)) same
    ∙ sym (piece n (sector_count file) from count file (sector-there n sector file whole own) (sectors-inside file) within)
    ∙ ap (λ i. take count (drop i (user_data_of file))) here ∙ ap (take count) (sym (drop-drop done place (user_data_of file))) in
    take-put_mid done room old part (done + count) (omega (arith, long)) few
    ∙ (λ i. before i ++ laid i) ∙ sym (take-add done count (drop place (user_data_of file)))

-- ---- sectors without user data

pub others-more : (n m count more : ℕ) (file : List ℕ) (all : ℕ) → n < m → more ≡ count_without (data_start (bytes_at (n * 2352) 24 file))
    → count + others_of (m - n) (drop (n * 2352) file) ≡ all → count + more + others_of (m - (n + 1)) (drop ((n + 1) * 2352) file) ≡ all
unfolding others_of
others-more n m count more file all lt is own =
    let left : m - n ≡ suc (m - (n + 1)) = omega (arith, lt) in
    let next : n * 2352 + 2352 ≡ (n + 1) * 2352 = omega arith in
    let same : others_of (m - n) (drop (n * 2352) file) ≡ others_of (suc (m - (n + 1))) (drop (n * 2352) file) = ap (λ k. others_of k (drop (n * 2352) file)) left in
    let rest : others_of (m - (n + 1)) (drop 2352 (drop (n * 2352) file)) ≡ others_of (m - (n + 1)) (drop ((n + 1) * 2352) file) =
    ap (others_of (m - (n + 1))) (drop-drop 2352 (n * 2352) file ∙ ap (λ i. drop i file) next) in
    omega (arith, same, rest, is, own)

pub others-end : (n m count : ℕ) (file : List ℕ) → m ≤ n → m ≡ sector_count file → count + others_of (m - n) (drop (n * 2352) file) ≡ others_of m file
    → count ≡ other_count file
unfolding others_of
others-end n m count file end whole own =
    let none : m - n ≡ 0 = omega (arith, end) in
    let nothing : others_of (m - n) (drop (n * 2352) file) ≡ 0 = ap (λ k. others_of k (drop (n * 2352) file)) none in
    let all : others_of m file ≡ other_count file = ap (λ k. others_of k file) whole in
    omega (arith, own, nothing, all)
