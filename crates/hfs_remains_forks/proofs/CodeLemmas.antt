-- Numbers for files, forks and blocks.
use Rattle.std.proofs.Common.{◌≡◌, ℕ, ◌+◌, ◌<◌, Bool, true, false, ◌&&◌, ◌==◌, nat_eq, List, length, take, get_or, Option, refl, sym, ap, ◌∙◌, arith, inl, inr}
use Rattle.std.specs.Option.{option_or}
use Rattle.std.proofs.lemmas.Bool.{cases_eq, eq-eqb, ne_eqb}
use Rattle.hfs_fields.specs.declared.key.ExtKey.{ExtKey}
use Rattle.hfs_space.specs.Extents.{Overflow}
use Rattle.hfs_catalog.specs.Indexes.{Numbered, number_of, only_if, NotesFirst}
use Rattle.hfs_catalog.proofs.Indexed.{first_place_more}
use Rattle.hfs_remains.specs.OverflowRecords.{has_key}
use Rattle.hfs_remains_forks.specs.Chains.{code, NotesRecord, KnowsRecords}

no-and : (p q : Bool) → (p && false && q) ≡ false
no-and true q = refl
no-and false q = refl

no-last : (p q : Bool) → (p && q && false) ≡ false
no-last true true = refl
no-last true false = refl
no-last false q = refl

pub code-same : (a b c x y z : ℕ) → b < 256 → c < 65536 → y < 256 → z < 65536 → nat_eq (code a b c) (code x y z) ≡ ((a == x) && (b == y) && (c == z))
code-same a b c x y z b-fits c-fits y-fits z-fits =
    elim (cases_eq a x) [
      | inr other ↦
          ne_eqb (code a b c) (code x y z) (λ e. other (omega (arith, e, b-fits, c-fits, y-fits, z-fits)))
          ∙ ap (λ (t : Bool). t && (b == y) && (c == z)) (sym (ne_eqb a x other))
      | inl file ↦
          elim (cases_eq b y) [
            | inr other ↦
                ne_eqb (code a b c) (code x y z) (λ e. other (omega (arith, e, file, c-fits, z-fits)))
                ∙ sym (no-and (a == x) (c == z)) ∙ ap (λ (t : Bool). (a == x) && t && (c == z)) (sym (ne_eqb b y other))
            | inl fork ↦
                elim (cases_eq c z) [
                  | inr other ↦
                      ne_eqb (code a b c) (code x y z) (λ e. other (omega (arith, e, file, fork)))
                      ∙ sym (no-last (a == x) (b == y)) ∙ ap (λ (t : Bool). (a == x) && (b == y) && t) (sym (ne_eqb c z other))
                  | inl block ↦
                      eq-eqb (code a b c) (code x y z) (omega (arith, file, fork, block))
                      ∙ (λ t. sym (eq-eqb a x file) t && sym (eq-eqb b y fork) t && sym (eq-eqb c z block) t)
                ]
          ]
    ]

pub notes-record : (old new : Numbered) (i n : ℕ) (r : ExtKey × List ℕ) → r.0.fork < 256 → r.0.block < 65536 → n ≡ code r.0.file r.0.fork r.0.block
    → NotesFirst old new n i → NotesRecord i r old new
notes-record old new i n r fork-fits block-fits is notes file fork block fork-small block-small =
    notes (code file fork block)
    ∙ (λ t. option_or (number_of old (code file fork block)) (only_if (nat_eq (is t) (code file fork block)) i))
    ∙ ap (λ (b : Bool). option_or (number_of old (code file fork block)) (only_if b i)) (code-same r.0.file r.0.fork r.0.block file fork block fork-fits block-fits fork-small block-small)

pub knows-more : (old new : Numbered) (records : Overflow) (i : ℕ) (r : ExtKey × List ℕ) → i < length records → r ≡ get_or records i r
    → NotesRecord i r old new → KnowsRecords old (take i records) → KnowsRecords new (take (i + 1) records)
knows-more old new records i r within is notes known file fork block fork-small block-small =
    notes file fork block fork-small block-small
    ∙ ap (λ (o : Option ℕ). option_or o (only_if (has_key file fork block r) i)) (known file fork block fork-small block-small)
    ∙ sym (first_place_more (has_key file fork block) records i r within is)
