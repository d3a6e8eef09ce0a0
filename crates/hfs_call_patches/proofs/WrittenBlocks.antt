-- The blocks of a fork from one of them to another have all of its bytes between.
use Rattle.std.proofs.Common.{◌≡◌, inl, inr, ℕ, zero, suc, ◌+◌, ◌-◌, ◌*◌, ◌/◌, ◌<◌, ◌≤◌, Bool, cond, ltb, List, [], ◌∷◌, length, take, drop, refl, sym, ◌∙◌, ap, subst, arith}
use Rattle.std.specs.Prelude.{slice_index, min, max}
use Rattle.std.proofs.lemmas.Bool.{lt-ltb}
use Rattle.std.proofs.lemmas.List.Elements.{All-weaker}
use Rattle.hfs_blocks.specs.declared.run.Run.{Run}
use Rattle.hfs_blocks.specs.Blocks.{AreRunsWithin}
use Rattle.hfs_space.specs.TreeFiles.{node_count}
use Rattle.hfs_call_patches.specs.Written.{first_written, last_written}
use Rattle.hfs_fields.specs.Each.{Each}
use Rattle.hfs_fields.specs.Members.{In}
use Rattle.hfs_fields.proofs.ElementLemmas.{each-mono}
use Rattle.hfs_call_patches.specs.Laid.{IsTouched, AreWritten}

in_part : (ns : List ℕ) (a b p : ℕ) → a ≤ p → p < b → p < length ns → In (slice_index ns p) (drop a (take b ns))
in_part [] a b p from to lt = absurd (omega (arith, lt))
in_part (x ∷ ns) a zero p from to lt = absurd (omega (arith, to))
in_part (x ∷ ns) zero (suc b) zero from to lt = inl refl
in_part (x ∷ ns) zero (suc b) (suc p) from to lt = inr (in_part ns zero b p (omega arith) (omega (arith, to)) (omega (arith, lt)))
in_part (x ∷ ns) (suc a) (suc b) zero from to lt = absurd (omega (arith, from))
in_part (x ∷ ns) (suc a) (suc b) (suc p) from to lt = in_part ns a b p (omega (arith, from)) (omega (arith, to)) (omega (arith, lt))

each_self : (ns : List ℕ) → Each (λ k. In k ns) ns
each_self [] = tt
each_self (x ∷ ns) = (inl refl, each-mono (λ k. In k ns) (λ k. In k (x ∷ ns)) ns (λ k there. inr there) (each_self ns))

each_part : (P : ℕ → Type 0) (ns : List ℕ) (a b : ℕ) → Each P ns → Each P (drop a (take b ns))
each_part P [] zero zero h = tt
each_part P [] zero (suc b) h = tt
each_part P [] (suc a) zero h = tt
each_part P [] (suc a) (suc b) h = tt
each_part P (x ∷ ns) zero zero h = tt
each_part P (x ∷ ns) (suc a) zero h = tt
each_part P (x ∷ ns) zero (suc b) h = (h.0, each_part P ns zero b h.1)
each_part P (x ∷ ns) (suc a) (suc b) h = each_part P ns a b h.1

module _ (ns : List ℕ) (from count offset given a b : ℕ) (first_zero : 0 < count → 512 * a ≤ from) (first_byte : 0 < given → 512 * a ≤ offset) (last_zero : 0 < count → from + count ≤ 512 * b) (last_byte : 0 < given → offset + given ≤ 512 * b) where
  part_written : AreWritten ns from count offset given (drop a (take b ns))
  part_written = record {
    own = each_part (λ k. In k ns) ns a b (each_self ns);
    zeros = λ k t. touched from count first_zero last_zero k t;
    bytes = λ k t. touched offset given first_byte last_byte k t;
  }
    where
      touched : (o n : ℕ) → (0 < n → 512 * a ≤ o) → (0 < n → o + n ≤ 512 * b) → (k : ℕ) → IsTouched ns o n k → In k (drop a (take b ns))
      touched o n first last k t =
          let p = t.place in
          let starts = t.has.starts in
          let ends = t.has.ends in
          let low = first t.has.some in
          let high = last t.has.some in
          subst (λ (x : ℕ). In x (drop a (take b ns))) t.is (in_part ns a b p (omega (arith, low, starts)) (omega (arith, ends, high)) t.within)

-- the blocks from that of the first to that of the last
pub written_by : (from end offset given first last : ℕ) → first ≡ first_written from end offset given → last ≡ last_written from end offset given → from ≤ end
    → (ns xs ys : List ℕ) → ys ≡ drop (first / 512) xs → xs ≡ take (node_count last) ns → AreWritten ns from (end - from) offset given ys
written_by from end offset given first last first_is last_is order ns xs ys ys_is xs_is =
    subst (AreWritten ns from (end - from) offset given) (sym (ys_is ∙ ap (drop (first / 512)) xs_is))
    (part_written ns from (end - from) offset given (first / 512) (node_count last)
    (λ some. let is = zero_first (omega (arith, some)) in omega (arith, is))
    (λ some. let is = byte_first some in omega (arith, is))
    (λ some. let is = zero_last (omega (arith, some)) in omega (arith, is, order))
    (λ some. let is = byte_last some in omega (arith, is)))
  where
    zero_first : from < end → first ≤ from
    zero_first lt = let is = first_is ∙ ap (λ (b : Bool). min (cond b from 4294967295) (cond (ltb 0 given) offset 4294967295)) (lt-ltb from end lt) in omega (arith, is)

    byte_first : 0 < given → first ≤ offset
    byte_first lt = let is = first_is ∙ ap (λ (b : Bool). min (cond (ltb from end) from 4294967295) (cond b offset 4294967295)) (lt-ltb 0 given lt) in omega (arith, is)

    zero_last : from < end → end ≤ last
    zero_last lt = let is = last_is ∙ ap (λ (b : Bool). max (cond b end 0) (cond (ltb 0 given) (offset + given) 0)) (lt-ltb from end lt) in omega (arith, is)

    byte_last : 0 < given → offset + given ≤ last
    byte_last lt = let is = last_is ∙ ap (λ (b : Bool). max (cond (ltb from end) end 0) (cond b (offset + given) 0)) (lt-ltb 0 given lt) in omega (arith, is)
