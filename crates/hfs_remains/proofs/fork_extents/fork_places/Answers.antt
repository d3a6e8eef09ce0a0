use Rattle.std.proofs.Common.{◌≡◌, ℕ, List, Option, None, ◌++◌, length, take, drop, slice_index_or, sym, ap, ◌∙◌, arith}
use Rattle.std.specs.Option.{option_or}
use Rattle.std.proofs.lemmas.List.{take_at}
use Rattle.hfs_catalog.specs.Indexes.{only_if}
use Rattle.hfs_catalog.proofs.Indexed.{first_place_more}
use Rattle.hfs_remains.specs.OverflowRecords.{has_key}
use Rattle.hfs_remains.proofs.fork_extents.fork_places.Goals as goal

pub loop-i-init : goal.loop-i-init
loop-i-init c = record { places = λ block lt. c.in_ok-places.ensures.none block; long = c.in_ok-places.ensures.long }

pub loop-i-preserved : goal.loop-i-preserved
loop-i-preserved c =
    let x = c.index-records-i.result in
    let was = c.deref_mut.ensures.value in
    let new = c.note_place.new.places in
    let long : length new ≡ c.loop-i.places.len = omega (arith, ap (λ (l : List (Option ℕ)). length l) was) in
    let whole : take c.loop-i.places.len (new ++ drop (length new) c.loop-i.places.items) ≡ new = take_at new (drop (length new) c.loop-i.places.items) c.loop-i.places.len long in
    record {
      places = λ block lt.
          ap (λ (l : List (Option ℕ)). slice_index_or l block None) whole
          ∙ c.note_place.ensures block lt
          ∙ ap (λ (o : Option ℕ). option_or o (only_if (has_key c.args.file c.args.fork block x) c.loop-i.i))
          (ap (λ (l : List (Option ℕ)). slice_index_or l block None) was ∙ c.loop-i.invariant.places block lt)
          ∙ sym (first_place_more (has_key c.args.file c.args.fork block) c.args.records.now c.loop-i.i x c.loop-i-test.true c.index-records-i.is);
      long = ap (λ (l : List (Option ℕ)). length l) whole ∙ long ∙ omega arith;
    }
