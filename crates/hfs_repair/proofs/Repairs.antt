-- The bytes of the wrong numbers, written, make the repaired image.
use Rattle.std.proofs.Common.{◌≡◌, ℕ, zero, suc, List, [], ◌∷◌, ◌++◌, set, refl, ap, ◌∙◌}
use Rattle.std.specs.List.{flat_map}
use Rattle.byteorder.specs.Endian.{big_bytes}
use Rattle.hfs_repair.specs.declared.byte_put.BytePut.{BytePut}
use Rattle.hfs_repair.specs.Fields.{PlacedNumber}
use Rattle.hfs_repair.specs.Puts.{puts_from, number_puts, puts_of, put_all}
use Rattle.hfs_repair.specs.Repair.{wrong_in, laid_over, with_numbers, repair}

shifted : (at : ℕ) (bytes : List ℕ) (b : ℕ) (image : List ℕ) → put_all (puts_from (suc at) bytes) (b ∷ image) ≡ b ∷ put_all (puts_from at bytes) image
shifted at [] b image = refl
shifted at (x ∷ bytes) b image = shifted (suc at) bytes b (set image at x)

nowhere : (at : ℕ) (bytes : List ℕ) → put_all (puts_from at bytes) [] ≡ []
nowhere at [] = refl
nowhere at (x ∷ bytes) = nowhere (suc at) bytes

laid : (image : List ℕ) (at : ℕ) (bytes : List ℕ) → put_all (puts_from at bytes) image ≡ laid_over image at bytes
laid [] at bytes = nowhere at bytes
laid (b ∷ image) zero [] = refl
laid (b ∷ image) zero (x ∷ bytes) = shifted 0 bytes x image ∙ ap (λ (ys : List ℕ). x ∷ ys) (laid image zero bytes)
laid (b ∷ image) (suc at) bytes = shifted at bytes b image ∙ ap (λ (ys : List ℕ). b ∷ ys) (laid image at bytes)

pub put-append : (ps qs : List BytePut) (image : List ℕ) → put_all (ps ++ qs) image ≡ put_all qs (put_all ps image)
put-append [] qs image = refl
put-append (p ∷ ps) qs image = put-append ps qs (set image p.at p.byte)

put-numbers : (ns : List PlacedNumber) (image : List ℕ) → put_all (flat_map (λ n. number_puts n.1) ns) image ≡ with_numbers ns image
put-numbers [] image = refl
put-numbers (n ∷ ns) image =
    put-append (number_puts n.1) (flat_map (λ m. number_puts m.1) ns) image
    ∙ ap (put_all (flat_map (λ m. number_puts m.1) ns)) (laid image n.1.at (big_bytes n.1.width n.1.now))
    ∙ put-numbers ns (laid_over image n.1.at (big_bytes n.1.width n.1.now))

pub put-repair : (image : List ℕ) → put_all (puts_of (wrong_in image)) image ≡ repair image
unfolding puts_of repair
put-repair image = put-numbers (wrong_in image) image
