-- What the parts of the edits tell where something is wanting is what the call is to tell.
use Rattle.std.proofs.Common.{◌≡◌, ℕ, zero, suc, ◌<◌, ◌≤◌, Bool, cond, ltb, List, [], length, refl, sym, ◌∙◌, ap, subst, arith, Option, Some, None}
use Rattle.std.proofs.lemmas.Bool.{lt-ltb, le-ltb}
use Rattle.hfs_fields.specs.declared.extent.Extent.{Extent}
use Rattle.hfs_fields.specs.declared.file_record.FileRecord.{FileRecord}
use Rattle.hfs_btree.specs.Header.{depth_of, free_nodes}
use Rattle.hfs_space.specs.Bitmap.{is_used}
use Rattle.hfs_space.specs.Choice.{AreChosen, AreFreeOnce, IsRoom}
use Rattle.hfs_space.specs.declared.choosing.Room.{Room}
use Rattle.hfs_record_edits.proofs.Needs.{need-none}
use Rattle.hfs_record_edits.proofs.WantsProved.{some-records}
use Rattle.hfs_record_edits.specs.Need.{extents_need, HasNodesFor}
use Rattle.hfs_model.specs.declared.call.Fork.{Fork}
use Rattle.hfs_model.specs.declared.journal.Want.TheVariants as want
use Rattle.hfs_check.specs.Parts.{Blocks, mdb_in, extents_nodes, overflow_in}
use Rattle.hfs_check.specs.Sound.{AreBlocksSound}
use Rattle.hfs_record_edits.specs.Growing.{records_coming, IsWantOfNodes}
use Rattle.hfs_record_edits.specs.declared.growing.NodesWanted.{NodesWanted}
use Rattle.hfs_record_edits.specs.Wants.{blocks_wanted, want_of, IsForkWant}
use Rattle.hfs_record_edits.proofs.Adds.{empty-content}
use Rattle.hfs_model.specs.Forks.{blocks}
use Rattle.hfs_btree.specs.Tree.{Store}
use Rattle.hfs_space.specs.Extents.{Overflow}
use Rattle.hfs_space.specs.TreeKeys.{overflow_of}
use Rattle.std.specs.Int.{div_ceil}
use Rattle.hfs_call_patches.proofs.Coming.{records_few}
use Rattle.hfs_record_edits.specs.declared.room.Supply.{Supply}
use Rattle.hfs_record_edits.specs.declared.room.Growth.{Growth}
use Rattle.hfs_call_patches.specs.Edits.{extents_of, blocks_of}
use Rattle.hfs_call_patches.specs.Room.{block_after}
use Rattle.hfs_call_patches.specs.Wanting.{supply_in, growth_of, MeetsWant, IsWanting}

too_few : (s : Supply) (g : Growth) → s.blocks < g.blocks → want_of s g ≡ Some (want.Room s.blocks g.blocks)
too_few s g few = ap (λ (b : Bool). cond b (Some (want.Room s.blocks g.blocks)) (cond (ltb s.nodes (extents_need g.records s.depth s.records)) (Some (want.ExtentNodes s.nodes s.depth)) None)) (lt-ltb s.blocks g.blocks few)

enough_blocks : (s : Supply) (g : Growth) → g.blocks ≤ s.blocks → want_of s g ≡ cond (ltb s.nodes (extents_need g.records s.depth s.records)) (Some (want.ExtentNodes s.nodes s.depth)) None
enough_blocks s g enough = ap (λ (b : Bool). cond b (Some (want.Room s.blocks g.blocks)) (cond (ltb s.nodes (extents_need g.records s.depth s.records)) (Some (want.ExtentNodes s.nodes s.depth)) None)) (le-ltb s.blocks g.blocks enough)

-- no block is chosen where none is wanted
none_chosen : (used : ℕ → Bool) (n : ℕ) (after : Option ℕ) → AreChosen used n after 0 []
none_chosen used n None = record { row = record { first = 0; count = 0 }; rest = []; is_row = refl; enough = λ _. refl; more = λ lt. absurd (omega (arith, lt)); parts = refl }
none_chosen used n (Some first) = record {
  row = record { first = first; count = 0 };
  rest = [];
  is_row = (refl, record { few = omega arith; within = λ some. absurd (omega (arith, some)); free = λ b from to. absurd (omega (arith, from, to)); ends = λ less. absurd (omega (arith, less)) });
  enough = λ _. refl;
  more = λ lt. absurd (omega (arith, lt));
  parts = refl;
}

-- and no record comes without pieces
none_coming : (es : List Extent) → records_coming es [] ≡ 0
none_coming es = omega arith

-- ---- which want is told

nodes_told : (most : ℕ) (es pieces : List Extent) (store : Store) (nodes : NodesWanted) → IsWantOfNodes (records_coming es pieces) store nodes → records_coming es pieces ≤ div_ceil most 3 → IsForkWant most (want.ExtentNodes nodes.free nodes.depth)
nodes_told most es pieces store nodes is few = (
  records_coming es pieces,
  length (overflow_of store),
  record {
    some = some-records (records_coming es pieces) (depth_of store) (length (overflow_of store)) (free_nodes store) is.few;
    few = few;
    empty = λ none. ap (λ (o : Overflow). length o) (empty-content store (sym is.depth ∙ none));
    wanting = (let need = ap (λ (d : ℕ). extents_need (records_coming es pieces) d (length (overflow_of store))) is.depth in let less = is.few in let free = is.free in omega (arith, need, less, free));
  },
)

module _ (total : ℕ) (old : Blocks) (h : AreBlocksSound total old) (fork : Fork) (f : FileRecord) (len wanted : ℕ) (count : wanted ≡ blocks_wanted (mdb_in old).allocation_block_size (length (blocks_of old fork f)) len) where
  -- fewer blocks are free than are wanted
  pub meets_room : (room : Room) → IsRoom (is_used old (mdb_in old).bitmap_start) (mdb_in old).allocation_blocks wanted room → IsWanting fork f len old (want.Room room.free room.wanted)
  meets_room room is =
      let free : room.free ≡ (mdb_in old).free_blocks = is.free ∙ sym h.space.counted in
      let few : (mdb_in old).free_blocks < wanted = (let less = is.few in let all = is.all in omega (arith, free, less, all)) in
      record {
        meets = record {
          wanted = wanted;
          count = count;
          pieces = [];
          chosen = λ enough. absurd (omega (arith, few, enough));
          is = (λ i. Some (want.Room (free i) (is.all i))) ∙ sym (too_few (supply_in old) (growth_of wanted (extents_of old fork f) []) few);
        };
        told = (is.few, (let all = is.all in omega (arith, all, count)));
      }

  module _ (pieces : List Extent) (chosen : AreChosen (is_used old (mdb_in old).bitmap_start) (mdb_in old).allocation_blocks (block_after (extents_of old fork f)) wanted pieces) (enough : wanted ≤ (mdb_in old).free_blocks) where
    -- the extents tree has too few free nodes
    pub meets_nodes : (free : AreFreeOnce (is_used old (mdb_in old).bitmap_start) (mdb_in old).allocation_blocks wanted pieces) (nodes : NodesWanted) → IsWantOfNodes (records_coming (extents_of old fork f) pieces) (extents_nodes old) nodes
        → IsWanting fork f len old (want.ExtentNodes nodes.free nodes.depth)
    unfolding overflow_in
    meets_nodes free nodes is = record {
      meets = record {
        wanted = wanted;
        count = count;
        pieces = pieces;
        chosen = λ _. chosen;
        is =
            (λ i. Some (want.ExtentNodes (is.free i) (is.depth i)))
            ∙ sym (ap (λ (b : Bool). cond b (Some (want.ExtentNodes (free_nodes (extents_nodes old)) (depth_of (extents_nodes old)))) None)
            (lt-ltb (free_nodes (extents_nodes old)) (extents_need (records_coming (extents_of old fork f) pieces) (depth_of (extents_nodes old)) (length (overflow_in old))) is.few))
            ∙ sym (enough_blocks (supply_in old) (growth_of wanted (extents_of old fork f) pieces) enough);
      };
      told =
          nodes_told (blocks (mdb_in old).allocation_block_size len) (extents_of old fork f) pieces (extents_nodes old) nodes is
          (records_few (extents_of old fork f) pieces (blocks (mdb_in old).allocation_block_size len) free.some (let long = free.enough in omega (arith, long, count)));
    }

    -- nothing is wanting
    pub meets_none : HasNodesFor (records_coming (extents_of old fork f) pieces) (extents_nodes old) → MeetsWant fork f len old None
    unfolding overflow_in
    meets_none has = record {
      wanted = wanted;
      count = count;
      pieces = pieces;
      chosen = λ _. chosen;
      is =
          sym (ap (λ (b : Bool). cond b (Some (want.ExtentNodes (free_nodes (extents_nodes old)) (depth_of (extents_nodes old)))) None)
          (le-ltb (free_nodes (extents_nodes old)) (extents_need (records_coming (extents_of old fork f) pieces) (depth_of (extents_nodes old)) (length (overflow_in old))) has))
          ∙ sym (enough_blocks (supply_in old) (growth_of wanted (extents_of old fork f) pieces) enough);
    }

  -- nothing is wanting where no block comes
  pub meets_less : wanted ≡ 0 → MeetsWant fork f len old None
  unfolding overflow_in
  meets_less none = record {
    wanted = wanted;
    count = count;
    pieces = [];
    chosen = λ _. subst (λ (k : ℕ). AreChosen (is_used old (mdb_in old).bitmap_start) (mdb_in old).allocation_blocks (block_after (extents_of old fork f)) k []) (sym none) (none_chosen _ _ (block_after (extents_of old fork f)));
    is =
        sym (ap (λ (b : Bool). cond b (Some (want.ExtentNodes (free_nodes (extents_nodes old)) (depth_of (extents_nodes old)))) None)
        (le-ltb (free_nodes (extents_nodes old)) (extents_need (records_coming (extents_of old fork f) []) (depth_of (extents_nodes old)) (length (overflow_in old)))
        (let need = ap (λ (k : ℕ). extents_need k (depth_of (extents_nodes old)) (length (overflow_in old))) (none_coming (extents_of old fork f)) ∙ need-none (depth_of (extents_nodes old)) (length (overflow_in old)) in omega (arith, need))))
        ∙ sym (enough_blocks (supply_in old) (growth_of wanted (extents_of old fork f) []) (omega (arith, none)));
  }
