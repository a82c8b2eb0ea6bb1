-- The tables of inodes and of blocks in one part: inode ids, inode spots, block ids, block spots.
use Rattle.std.specs.Prelude.{ℕ, ◌≡◌, true, false, List, length, take, drop}
use Rattle.std.proofs.Common.{◌∙◌, arith, length-take, length-drop}
use Rattle.format.specs.Bytes.{Bytes}
use Rattle.record_places.specs.Place.{block_at}
use Rattle.table_rows.specs.declared.Updated.{Updated}
use Rattle.calls.specs.Mount.{most_inodes, most_blocks}
use Rattle.table_rows.specs.Rows.{GoodPart, IndexedPart, UpdatesPart}
use Rattle.table_rows.specs.Parts.{part, put_back, put_long, part_long, part_same, part_before, part_after}
use Rattle.table_fill.specs.Gather.{table, AllGood, Tabulates}
use Rattle.table_fill.specs.Laws.{SameSizes}
use Rattle.table_fill.proofs.Laws.{tabulates_block, tabulates_inode}
use Rattle.table_fill.specs.Parts.{inode_rows, block_rows, inode_part, block_part, tables_in, Room, SameLengths, inode_index_size, block_index_size, Indexed}

part_size : (a n : ℕ) (l m : List ℕ) → length l ≡ length m → length (part a n l) ≡ length (part a n m)
part_size a n l m e = omega (arith, length-take n (drop a l), length-take n (drop a m), length-drop a l, length-drop a m)

front_size : (n : ℕ) (l m : List ℕ) → length l ≡ length m → length (take n l) ≡ length (take n m)
front_size n l m e = omega (arith, length-take n l, length-take n m)

back_size : (n : ℕ) (l m : List ℕ) → length l ≡ length m → length (drop n l) ≡ length (drop n m)
back_size n l m e = omega (arith, length-drop n l, length-drop n m)

pub same_sizes : {iw bw rows iw' bw' rows' : List ℕ} → SameLengths iw bw rows iw' bw' rows' → SameSizes (tables_in iw bw rows) (tables_in iw' bw' rows')
same_sizes {rows = rows} {rows' = rows'} s =
    let i = part_size 0 inode_rows rows rows' s.both in
    let b = part_size inode_rows block_rows rows rows' s.both in
    record {
      inodes = record { words = s.inodes; ids = front_size most_inodes (inode_part rows) (inode_part rows') i; spots = back_size most_inodes (inode_part rows) (inode_part rows') i };
      blocks = record { words = s.blocks; ids = front_size most_blocks (block_part rows) (block_part rows') b; spots = back_size most_blocks (block_part rows) (block_part rows') b };
    }

pub lengths_trans : {a b c d e f g h i : List ℕ} → SameLengths a b c d e f → SameLengths d e f g h i → SameLengths a b c g h i
lengths_trans x y = record { inodes = x.inodes ∙ y.inodes; blocks = x.blocks ∙ y.blocks; both = x.both ∙ y.both }

module _ {image : Bytes} {iw bw rows : List ℕ} (room : Room iw bw rows) (good : AllGood image (tables_in iw bw rows)) where
  pub inode_part_lem : GoodPart image most_inodes iw (inode_part rows)
  inode_part_lem = record { room = room.inodes; good = good.inodes }

  pub block_part_lem : GoodPart image most_blocks bw (block_part rows)
  block_part_lem = record { room = room.blocks; good = good.blocks }

  -- a record shown to the table of its kind, and its part put back
  module _ (p : ℕ) (r : Updated) (y : List ℕ) where
    pub shown_block : length y ≡ length (block_part rows) → block_at image p ≡ true → (bw' : List ℕ) → UpdatesPart image p most_blocks bw (block_part rows) r bw' y
        → Tabulates image p (tables_in iw bw rows) r (tables_in iw bw' (put_back inode_rows block_rows rows y))
    shown_block l e bw' k =
        let n : length y ≡ block_rows = l ∙ part_long inode_rows block_rows rows (omega (arith, room.both)) in
        rw (
          part_before inode_rows block_rows rows y (omega (arith, room.both)) 0 inode_rows (omega arith),
          part_same inode_rows block_rows rows y (omega (arith, room.both)) n,
        )
        (tabulates_block image p (tables_in iw bw rows) r (table bw' (take most_blocks y) (drop most_blocks y)) e k)

    pub shown_inode : length y ≡ length (inode_part rows) → block_at image p ≡ false → (iw' : List ℕ) → UpdatesPart image p most_inodes iw (inode_part rows) r iw' y
        → Tabulates image p (tables_in iw bw rows) r (tables_in iw' bw (put_back 0 inode_rows rows y))
    shown_inode l e iw' k =
        let n : length y ≡ inode_rows = l ∙ part_long 0 inode_rows rows (omega (arith, room.both)) in
        rw (
          part_same 0 inode_rows rows y (omega (arith, room.both)) n,
          part_after 0 inode_rows rows y (omega (arith, room.both)) n inode_rows block_rows (omega arith),
        )
        (tabulates_inode image p (tables_in iw bw rows) r (table iw' (take most_inodes y) (drop most_inodes y)) e k)

-- ---- the index of inode ids and that of block ids, one behind the other

-- and still are with the index of one kind, and its rows, put back
module _ {iw bw index rows : List ℕ} (room : Room iw bw rows) (x : Indexed iw bw index rows) (z y : List ℕ) where
  pub indexed_block : (bw' : List ℕ) → length z ≡ block_index_size → length y ≡ block_rows → IndexedPart most_blocks bw' z y
      → Indexed iw bw' (put_back inode_index_size block_index_size index z) (put_back inode_rows block_rows rows y)
  indexed_block bw' lz ly k = record {
    long = put_long inode_index_size block_index_size index z (omega (arith, x.long)) lz ∙ x.long;
    inodes = rw (
      part_before inode_index_size block_index_size index z (omega (arith, x.long)) 0 inode_index_size (omega arith),
      part_before inode_rows block_rows rows y (omega (arith, room.both)) 0 inode_rows (omega arith),
    ) x.inodes;
    blocks = rw (
      part_same inode_index_size block_index_size index z (omega (arith, x.long)) lz,
      part_same inode_rows block_rows rows y (omega (arith, room.both)) ly,
    ) k;
  }

  pub indexed_inode : (iw' : List ℕ) → length z ≡ inode_index_size → length y ≡ inode_rows → IndexedPart most_inodes iw' z y
      → Indexed iw' bw (put_back 0 inode_index_size index z) (put_back 0 inode_rows rows y)
  indexed_inode iw' lz ly k = record {
    long = put_long 0 inode_index_size index z (omega (arith, x.long)) lz ∙ x.long;
    inodes = rw (
      part_same 0 inode_index_size index z (omega (arith, x.long)) lz,
      part_same 0 inode_rows rows y (omega (arith, room.both)) ly,
    ) k;
    blocks = rw (
      part_after 0 inode_index_size index z (omega (arith, x.long)) lz inode_index_size block_index_size (omega arith),
      part_after 0 inode_rows rows y (omega (arith, room.both)) ly inode_rows block_rows (omega arith),
    ) x.blocks;
  }
