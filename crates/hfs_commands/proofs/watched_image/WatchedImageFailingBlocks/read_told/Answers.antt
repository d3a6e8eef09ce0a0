-- A block's place is its number times 512, and what is held as a whole stays as it is.
use Rattle.std.proofs.Common.{◌≡◌, ◌∙◌, ℕ, ◌*◌, List, Some, Result, Ok, Err, OnOk, length, take, drop, refl, sym, subst, arith, rules}
use Rattle.std.specs.Arc.{arc_value}
use Rattle.hfs_source.specs.Images.{HasAt, OfEach}
use Rattle.hfs_source.specs.Sparse.{HoldsFrom}
use Rattle.hfs_commands.specs.OpenedFiles.{stored_bytes}
use Rattle.hfs_commands.proofs.watched_image.WatchedImageFailingBlocks.read_told.Goals as goal

held_from : {A E : Type 0} (r : Result A E) (place at : ℕ) (bytes all into : List ℕ) → bytes ≡ all → place ≡ at
    → OnOk r (OfEach (λ image. image ≡ bytes) (HasAt place into)) → OnOk r (HoldsFrom (Some all) at into)
held_from (Ok x) place at bytes all into same here h =
    subst (λ n. into ≡ take (length into) (drop n all)) here (subst (λ image. into ≡ take (length into) (drop place image)) same (h bytes refl))
held_from (Err e) place at bytes all into same here h = tt

held_of : {A E : Type 0} (r : Result A E) (place at : ℕ) (bytes all into : List ℕ) → bytes ≡ all → place ≡ at
    → OnOk r (OfEach (λ image. image ≡ bytes) (HasAt place into)) → OnOk r (OfEach (λ image. image ≡ all) (HasAt at into))
held_of (Ok x) place at bytes all into same here h = λ image e. subst (λ n. HasAt n into image) here (h image (e ∙ sym same))
held_of (Err e) place at bytes all into same here h = tt

pub returns-in-Whole-clause-read : goal.returns-in-Whole-clause-read
returns-in-Whole-clause-read g c =
    let at : c.from-place.result * 512 ≡ 512 * c.args.first = omega (arith, c.from-place.ensures) in
    let bytes = c.read_at-in-Whole.new.self.bytes.now in
    let lent : c.as_slice-bytes.result.now ≡ (arc_value c.in-Whole.all).items = search rules in
    let same : bytes ≡ (arc_value c.in-Whole.all).items = c.read_at-in-Whole.ensures.held bytes refl ∙ lent in
    subst (λ file. OnOk c.read_at-in-Whole.result (HoldsFrom (stored_bytes file) (512 * c.args.first) c.read_at-in-Whole.new.into)) (sym c.in-Whole.is)
    (held_from c.read_at-in-Whole.result (c.from-place.result * 512) (512 * c.args.first) bytes (arc_value c.in-Whole.all).items
    c.read_at-in-Whole.new.into same at c.read_at-in-Whole.ensures.read)

pub returns-in-Whole-clause-seen : goal.returns-in-Whole-clause-seen
returns-in-Whole-clause-seen g c =
    let at : c.from-place.result * 512 ≡ 512 * c.args.first = omega (arith, c.from-place.ensures) in
    let bytes = c.read_at-in-Whole.new.self.bytes.now in
    let lent : c.as_slice-bytes.result.now ≡ (arc_value c.in-Whole.all).items = search rules in
    let same : bytes ≡ (arc_value c.in-Whole.all).items = c.read_at-in-Whole.ensures.held bytes refl ∙ lent in
    held_of c.read_at-in-Whole.result (c.from-place.result * 512) (512 * c.args.first) bytes (arc_value c.in-Whole.all).items
    c.read_at-in-Whole.new.into same at c.read_at-in-Whole.ensures.read
