-- Entry by entry.
use Rattle.std.proofs.Common.{rules, ◌≡◌, ◌∙◌, sym, ap, subst, refl, true, false, length, arith}
use Rattle.hfs_fields.proofs.OutcomeLemmas.{on_err}
use Rattle.hfs_encodings.specs.IncomingAppleDouble.{PartsLie, entry_place, lies_within}
use Rattle.hfs_encodings.proofs.Entries.{entries_end, entries_less, entries_more, entry_is, entry_lies, some_fail_later}
use Rattle.hfs_encodings.proofs.incoming_apple_double.read_entries.Goals as goal

pub loop-left-init : goal.loop-left-init
loop-left-init g c = record {
  scanned = λ file h. refl;
  at = refl;
  lie = record { finder = tt; resource = tt; dates = tt };
  held = λ file h. h;
  later = λ place count f. f;
}

pub read_piece-requires-clause-within : goal.read_piece-requires-clause-within
read_piece-requires-clause-within g c = omega (arith, c.loop-left.invariant.at, c.requires.room, c.loop-left-test.true)

pub returns-in_err-read_piece-clause-fails : goal.returns-in_err-read_piece-clause-fails
returns-in_err-read_piece-clause-fails g c =
    on_err _ _ (some_fail_later (g.S.PlacedBytes.Holds c.read_piece.new.source) (g.S.PlacedBytes.Fails c.loop-left.source) (g.S.PlacedBytes.Fails c.args.source.now) c.loop-left.invariant.later c.in_err-read_piece.ensures.fails)

pub returns-then-not-lies_within-clause-found : goal.returns-then-not-lies_within-clause-found
returns-then-not-lies_within-clause-found g c = λ file h.
    let size : length c.read_piece.new.into ≡ 12 = search rules in
    let test : lies_within c.args.len (entry_place c.read_piece.new.into) ≡ false = sym (ap (lies_within c.args.len) c.entry_place.ensures) ∙ sym c.lies_within.ensures ∙ c.if-not-lies_within.true in
    entries_less c.args.len file c.loop-left.left c.loop-left.place c.loop-left.parts c.read_piece.new.into _ c.loop-left-test.true
    (entry_is c.loop-left.place c.read_piece.new.into file size (c.in_ok-read_piece.ensures.read file h)) test
    (c.loop-left.invariant.scanned file (c.in_ok-read_piece.ensures.held file h))

pub loop-left-preserved : goal.loop-left-preserved
loop-left-preserved g c =
    let size : length c.read_piece.new.into ≡ 12 = search rules in
    let test : lies_within c.args.len (entry_place c.read_piece.new.into) ≡ true = sym (ap (lies_within c.args.len) c.entry_place.ensures) ∙ sym c.lies_within.ensures ∙ c.if-not-lies_within.false in
    record {
      scanned = λ file h.
          entries_more c.args.len file c.loop-left.left _ c.loop-left.place _ c.loop-left.parts _ c.read_piece.new.into _ c.loop-left-test.true refl refl
          (entry_is c.loop-left.place c.read_piece.new.into file size (c.in_ok-read_piece.ensures.read file h)) test c.with_entry-parts.ensures
          (c.loop-left.invariant.scanned file (c.in_ok-read_piece.ensures.held file h));
      at = omega (arith, c.loop-left.invariant.at, c.loop-left-test.true);
      lie = subst (PartsLie c.args.len) (sym c.with_entry-parts.ensures) (entry_lies c.args.len c.read_piece.new.into c.loop-left.parts test c.loop-left.invariant.lie);
      held = λ file h. c.loop-left.invariant.held file (c.in_ok-read_piece.ensures.held file h);
      later = λ place count f. c.loop-left.invariant.later place count (c.in_ok-read_piece.ensures.later place count f);
    }

pub returns-clause-found : goal.returns-clause-found
returns-clause-found g c = λ file h.
    entries_end c.args.len file c.loop-left.left c.loop-left.place c.loop-left.parts _ (omega (arith, c.loop-left-test.false)) (c.loop-left.invariant.scanned file h)
