-- Bytes with zeros behind them, and what is laid at their end.
use Rattle.std.proofs.Common.{◌≡◌, ◌∙◌, ℕ, ◌+◌, ◌-◌, ◌≤◌, List, [], ◌∷◌, ◌++◌, length, drop, Option, Some, None, ap, sym, subst, arith}
use Rattle.std.specs.Prelude.{replicate, IfSome}
use Rattle.std.specs.Option.{option_map}
use Rattle.std.specs.Io.KnownBytes.{Appends}
use Rattle.std.proofs.lemmas.List.{append_assoc, append-nil, replicate-append-replicate, length-append, length-replicate, take_all, drop_all}
use Rattle.hfs_source.specs.Writes.{filled_to, sized_to, laid_at, laid}

-- zeros more
pub filled-more : (len n : ℕ) (bytes : List ℕ) → length bytes ≤ len → filled_to (len + n) bytes ≡ filled_to len bytes ++ replicate n 0
filled-more len n bytes le =
    let e : len + n - length bytes ≡ (len - length bytes) + n = omega (arith, le) in
    let both : List ℕ = replicate (len - length bytes) 0 ++ replicate n 0 in
    let joined : replicate ((len - length bytes) + n) 0 ≡ both = sym (replicate-append-replicate (len - length bytes) n 0) in
    ap (λ k. bytes ++ replicate k 0) e ∙ ap (λ l. bytes ++ l) joined ∙ sym (append_assoc bytes (replicate (len - length bytes) 0) (replicate n 0))

pub filled-enough : (len : ℕ) (bytes : List ℕ) → len ≤ length bytes → filled_to len bytes ≡ bytes
filled-enough len bytes le =
    let e : len - length bytes ≡ 0 = omega (arith, le) in
    ap (λ k. bytes ++ replicate k 0) e ∙ append-nil bytes

pub length-filled : (len : ℕ) (bytes : List ℕ) → length bytes ≤ len → length (filled_to len bytes) ≡ len
length-filled len bytes le =
    let e : length bytes + (len - length bytes) ≡ len = omega (arith, le) in
    length-append bytes (replicate (len - length bytes) 0) ∙ ap (λ k. length bytes + k) (length-replicate (len - length bytes) 0) ∙ e

pub sized-filled : (len : ℕ) (bytes : List ℕ) → length bytes ≤ len → sized_to len bytes ≡ filled_to len bytes
sized-filled len bytes le = take_all len (filled_to len bytes) (omega (arith, length-filled len bytes le))

-- a piece that is laid where the bytes end, with zeros up to there
laid-whole : (len byte : ℕ) (more bytes : List ℕ) → length bytes ≤ len → laid_at len (byte ∷ more) bytes ≡ filled_to len bytes ++ (byte ∷ more)
laid-whole len byte more bytes le =
    let none : drop (len + length (byte ∷ more)) bytes ≡ [] = drop_all (len + length (byte ∷ more)) bytes (omega (arith, le)) in
    ap (λ l. l ++ ((byte ∷ more) ++ drop (len + length (byte ∷ more)) bytes)) (sized-filled len bytes le)
    ∙ ap (λ l. filled_to len bytes ++ ((byte ∷ more) ++ l)) none ∙ ap (λ l. filled_to len bytes ++ l) (append-nil (byte ∷ more))

length-whole : (len : ℕ) (piece bytes : List ℕ) → length bytes ≤ len → length (filled_to len bytes ++ piece) ≡ len + length piece
length-whole len piece bytes le = length-append (filled_to len bytes) piece ∙ ap (λ k. k + length piece) (length-filled len bytes le)

pub laid-end : (len : ℕ) (piece bytes : List ℕ) → length bytes ≤ len → filled_to (len + length piece) (laid_at len piece bytes) ≡ filled_to len bytes ++ piece
laid-end len [] bytes le =
    let e : len + 0 ≡ len = omega arith in
    ap (λ k. filled_to k bytes) e ∙ sym (append-nil (filled_to len bytes))
laid-end len (byte ∷ more) bytes le =
    let long : len + length (byte ∷ more) ≤ length (filled_to len bytes ++ (byte ∷ more)) = omega (arith, length-whole len (byte ∷ more) bytes le) in
    ap (filled_to (len + length (byte ∷ more))) (laid-whole len byte more bytes le) ∙ filled-enough (len + length (byte ∷ more)) (filled_to len bytes ++ (byte ∷ more)) long

pub length-laid : (len : ℕ) (piece bytes : List ℕ) → length bytes ≤ len → length (laid_at len piece bytes) ≤ len + length piece
length-laid len [] bytes le = omega (arith, le)
length-laid len (byte ∷ more) bytes le =
    let e : length (laid_at len (byte ∷ more) bytes) ≡ len + length (byte ∷ more) = ap length (laid-whole len byte more bytes le) ∙ length-whole len (byte ∷ more) bytes le in
    omega (arith, e)

-- what was written behind known bytes, and behind the zeros that were left out after them, comes to what there is
pub written : (known new : Option (List ℕ)) (len n : ℕ) (place : Option ℕ) (piece : List ℕ) → IfSome known (λ bytes. length bytes ≤ len) → place ≡ Some len
    → length piece ≡ n → new ≡ laid place piece known → Appends (option_map (filled_to len) known) (option_map (filled_to (len + n)) new) piece
written None new len n place piece le at e is = tt
written (Some bytes) new len n place piece le at e is =
    let whole : new ≡ Some (laid_at len piece bytes) = is ∙ ap (λ (p : Option ℕ). laid p piece (Some bytes)) at in
    let long : filled_to (len + n) (laid_at len piece bytes) ≡ filled_to len bytes ++ piece =
    ap (λ k. filled_to (len + k) (laid_at len piece bytes)) (sym e) ∙ laid-end len piece bytes le in
    subst (λ (o : Option (List ℕ)). Appends (Some (filled_to len bytes)) (option_map (filled_to (len + n)) o) piece) (sym whole) long

-- the same of what a writer shows that went to the end before
pub written_from : (old known there new : Option (List ℕ)) (len len' n : ℕ) (place : Option ℕ) (piece : List ℕ) → old ≡ option_map (filled_to len) known
    → IfSome known (λ bytes. length bytes ≤ len) → there ≡ known → len' ≡ len → place ≡ Some len → length piece ≡ n → new ≡ laid place piece there
    → Appends old (option_map (filled_to (len' + n)) new) piece
written_from old known there new len len' n place piece shown le same long at e is =
    let fact : Appends (option_map (filled_to len) known) (option_map (filled_to (len + n)) new) piece =
    written known new len n place piece le at e (is ∙ ap (laid place piece) same) in
    subst (λ (o : Option (List ℕ)). Appends o (option_map (filled_to (len' + n)) new) piece) (sym shown)
    (subst (λ k. Appends (option_map (filled_to len) known) (option_map (filled_to (k + n)) new) piece) (sym long) fact)
