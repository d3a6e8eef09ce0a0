-- Item by item.
use Rattle.std.proofs.Common.{◌≡◌, ◌∙◌, ◌+◌, sym, ap, ◌∷◌, drop, option_map, arith, Bor, List, ℕ}
use Rattle.std.proofs.lemmas.List.{at_drop_all, at_drop_more}
use Rattle.hfs_put_sources.specs.Items.{PlannedItem}
use Rattle.hfs_put_sources.specs.Later.{told_at}
use Rattle.hfs_put_sources.proofs.WrongLemmas.{wrong-behind, wrong-here, wrong-none}
use Rattle.hfs_put_sources.proofs.wrong_files.first_wrong_file.Goals as goal

pub returns-in-Some-clause-wrong : goal.returns-in-Some-clause-wrong
returns-in-Some-clause-wrong g c = λ host h.
    let items = c.args.items.now in
    let place = c.loop-item.item-index in
    let item = c.item-item.result in
    let left : drop place items ≡ item ∷ drop (place + 1) items =
    at_drop_more (λ (l : List PlannedItem). l) items place item c.loop-item-test.true ∙ (λ t. sym c.item-item.is t ∷ drop (place + 1) items) in
    sym (wrong-here host (told_at c.args.manifests.now) (drop place items) (drop (place + 1) items) item (option_map (λ (p : Bor (List ℕ)). p.now) c.in_ok-path.field-0)
    c.in-Some.path.now left (c.in_ok-path.ensures.wrong host h) (ap (option_map (λ (p : Bor (List ℕ)). p.now)) c.in-Some.is))
    ∙ c.loop-item.invariant.right host (c.in_ok-path.ensures.held host h)

pub loop-item-preserved : goal.loop-item-preserved
loop-item-preserved g c =
    let items = c.args.items.now in
    let place = c.loop-item.item-index in
    let item = c.item-item.result in
    let left : drop place items ≡ item ∷ drop (place + 1) items =
    at_drop_more (λ (l : List PlannedItem). l) items place item c.loop-item-test.true ∙ (λ t. sym c.item-item.is t ∷ drop (place + 1) items) in
    record {
      right = λ host h.
          wrong-behind host (told_at c.args.manifests.now) (drop place items) (drop (place + 1) items) item (option_map (λ (p : Bor (List ℕ)). p.now) c.in_ok-path.field-0) left
          (c.in_ok-path.ensures.wrong host h) (ap (option_map (λ (p : Bor (List ℕ)). p.now)) c.in_default.is)
          ∙ c.loop-item.invariant.right host (c.in_ok-path.ensures.held host h);
      held = λ host h. c.loop-item.invariant.held host (c.in_ok-path.ensures.held host h);
      later = λ fault f. c.loop-item.invariant.later fault (c.in_ok-path.ensures.later fault f);
    }

pub returns-clause-wrong : goal.returns-clause-wrong
returns-clause-wrong g c = λ host h.
    let items = c.args.items.now in
    let place = c.loop-item.item-index in
    sym (wrong-none host (told_at c.args.manifests.now) (drop place items) (at_drop_all (λ (l : List PlannedItem). l) items place (omega (arith, c.loop-item-test.false))))
    ∙ c.loop-item.invariant.right host h
