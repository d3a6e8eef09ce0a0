-- Lemmas about the definitions of specs/Sparse.antt.
use Rattle.std.specs.Prelude.{◌≡◌, ℕ, ◌*◌, List, length, take, drop, Option, Some, None, IsSome, IfSome, unwrap_or}
use Rattle.std.proofs.Common.{refl, sym, ap, subst, ◌∙◌, true≢false, [], ◌∷◌}
use Rattle.hfs_fields.specs.Each.{Each}
use Rattle.hfs_blocks.specs.Blocks.{block_at}
use Rattle.hfs_blocks.specs.Layers.{Numbered, changes}
use Rattle.hfs_source.specs.Sparse.{zero_block, sparse, HasEach, HasGrown, HoldsFrom, IsOf, StaysOf}

-- ---- laws

pub grown-itself : (read : Numbered) → HasGrown read read
grown-itself read = λ n some. refl

pub grown-on : (old middle new : Numbered) → HasGrown old middle → HasGrown middle new → HasGrown old new
grown-on old middle new p q = λ n some. q n (subst (λ o. IsSome o) (sym (p n some)) some) ∙ p n some

pub has-grown : (old new : Numbered) → HasGrown old new → (n : ℕ) → IsSome (changes old n) → IsSome (changes new n)
has-grown old new grown n some = subst (λ o. IsSome o) (sym (grown n some)) some

pub each-grown : (old new : Numbered) → HasGrown old new → (numbers : List ℕ) → HasEach old numbers → HasEach new numbers
each-grown old new grown [] h = tt
each-grown old new grown (n ∷ numbers) h = (has-grown old new grown n h.0, each-grown old new grown numbers h.1)

-- blocks that were read are the same in what grew of them
pub each-same : (old new : Numbered) → HasGrown old new → (numbers : List ℕ) → HasEach old numbers → Each (λ n. sparse new n ≡ sparse old n) numbers
each-same old new grown [] h = tt
each-same old new grown (n ∷ numbers) h = (ap (λ o. unwrap_or o zero_block) (grown n h.0), each-same old new grown numbers h.1)

read-same : (bytes : List ℕ) (n : ℕ) (o : Option (List ℕ)) → IsSome o → ((block : List ℕ) → o ≡ Some block → block ≡ block_at bytes n)
    → block_at bytes n ≡ unwrap_or o zero_block
read-same bytes n None some is = absurd (true≢false (sym some))
read-same bytes n (Some block) some is = sym (is block refl)

-- and those of the image whose bytes they are
pub each-of : (bytes : List ℕ) (read : Numbered) → IsOf bytes read → (numbers : List ℕ) → HasEach read numbers
    → Each (λ n. block_at bytes n ≡ sparse read n) numbers
each-of bytes read is [] h = tt
each-of bytes read is (n ∷ numbers) h = (read-same bytes n (changes read n) h.0 (is n), each-of bytes read is numbers h.1)

-- of known bytes
pub stays-on : (known : Option (List ℕ)) (old middle new : Numbered) → StaysOf known old middle → StaysOf known middle new → StaysOf known old new
stays-on None old middle new p q = tt
stays-on (Some bytes) old middle new p q = λ is. q (p is)

-- of 512 bytes that were read from the place of a block on
pub block-from : (known : Option (List ℕ)) (n : ℕ) (block : List ℕ) → length block ≡ 512 → HoldsFrom known (512 * n) block
    → IfSome known (λ image. block ≡ block_at image n)
block-from None n block long held = tt
block-from (Some image) n block long held = held ∙ ap (λ k. take k (drop (512 * n) image)) long
