-- A viewer that learns one told list after the other.
use Rattle.std.proofs.Common.{◌≡◌, ℕ, zero, suc, ◌+◌, ◌<◌, ◌≤◌, List, [], ◌∷◌, length, get_or, take, refl, ap, arith}
use Rattle.std.proofs.lemmas.List.Elements.{All-weaker, All-more}
use mathlib.Core.List.{IsPrefix}
use Rattle.hfs_model.specs.declared.reply.Reply.{Reply}
use Rattle.hfs_shared.specs.declared.item.Item.{Item}
use Rattle.hfs_shared.specs.Tolds.{ToldState}
use Rattle.hfs_shared.proofs.Prefixes.{prefix_trans}
use Rattle.hfs_shared.specs.declared.done.Done.{Done}
use Rattle.hfs_runs.specs.Tellings.{AllBegin, OfEach}

-- what began a list begins a longer one
pub begin_longer : (old new : List Item) (answers : List (Reply × ToldState)) → IsPrefix old new → AllBegin old answers → AllBegin new answers
begin_longer old new answers longer all =
    All-weaker (λ (a : Reply × ToldState). IsPrefix a.1.list old) (λ (a : Reply × ToldState). IsPrefix a.1.list new) (λ a begins. prefix_trans a.1.list old new begins longer) answers all

pub begin_more : (old new : List Item) (answers : List (Reply × ToldState)) (at : ℕ) (none : Reply × ToldState) → at < length answers → IsPrefix old new
    → AllBegin old (take at answers) → IsPrefix (get_or answers at none).1.list new → AllBegin new (take (at + 1) answers)
begin_more old new answers at none below longer all one =
    All-more (λ (a : Reply × ToldState). IsPrefix a.1.list new) answers at none below (begin_longer old new (take at answers) longer all) one

pub each_begin_more : (old new : List Item) (dones : List Done) (at : ℕ) (none : Done) → at < length dones → IsPrefix old new
    → OfEach (AllBegin old) (take at dones) → AllBegin new (get_or dones at none).replies.items → OfEach (AllBegin new) (take (at + 1) dones)
each_begin_more old new dones at none below longer all one =
    All-more (λ (d : Done). AllBegin new d.replies.items) dones at none below
    (All-weaker (λ (d : Done). AllBegin old d.replies.items) (λ (d : Done). AllBegin new d.replies.items) (λ d begin. begin_longer old new d.replies.items longer begin) (take at dones) all) one

-- so many members as there are, are all
pub whole_taken : {A : Type 0} (n : ℕ) (xs : List A) → length xs ≤ n → take n xs ≡ xs
whole_taken zero [] le = refl
whole_taken (suc n) [] le = refl
whole_taken zero (x ∷ xs) le = absurd (omega (arith, le))
whole_taken (suc n) (x ∷ xs) le = ap (λ l. x ∷ l) (whole_taken n xs (omega (arith, le)))
