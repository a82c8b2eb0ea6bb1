-- The tables of inodes and of blocks in one part: inode ids, inode spots, block ids, block spots.
use Rattle.std.specs.Prelude.{ℕ, ◌+◌, ◌≡◌, Bool, List, length, take, drop}
use Rattle.format.specs.Bytes.{Bytes}
use Rattle.table_words.specs.Occupancy.{capacity}
use Rattle.calls.specs.Mount.{most_inodes, most_blocks}
use Rattle.table_rows.specs.Rows.{IndexedPart}
use Rattle.table_index.specs.Index.{slots}
use Rattle.table_rows.specs.Parts.{part}
use Rattle.table_fill.specs.Gather.{Tables, tables}
use Rattle.table_fill.specs.Laws.{Going}
use Rattle.table_fill.specs.Twins.{TwinIndex}

-- the rows of inodes, of blocks, and of both: an id and a spot each
abbrev pub inode_rows : ℕ
inode_rows = most_inodes + most_inodes

abbrev pub block_rows : ℕ
block_rows = most_blocks + most_blocks

abbrev pub all_rows : ℕ
all_rows = inode_rows + block_rows

abbrev pub inode_part : List ℕ → List ℕ
inode_part rows = part 0 inode_rows rows

abbrev pub block_part : List ℕ → List ℕ
block_part rows = part inode_rows block_rows rows

-- the tables by their words and the part that holds their rows
abbrev pub tables_in : List ℕ → List ℕ → List ℕ → Tables
tables_in iw bw rows =
    tables
    iw (take most_inodes (inode_part rows)) (drop most_inodes (inode_part rows))
    bw (take most_blocks (block_part rows)) (drop most_blocks (block_part rows))

-- the words and the part are as large as document 01 has the tables
pub record Room (iw bw rows : List ℕ) : Type 0 where
  pub inodes : capacity iw ≡ most_inodes
  pub blocks : capacity bw ≡ most_blocks
  pub both : length rows ≡ all_rows

-- slices keep their lengths, and then the tables their sizes
pub record SameLengths (iw bw rows iw' bw' rows' : List ℕ) : Type 0 where
  pub inodes : length iw ≡ length iw'
  pub blocks : length bw ≡ length bw'
  pub both : length rows ≡ length rows'

-- ---- the index of inode ids and that of block ids, one behind the other

abbrev pub inode_index_size : ℕ
inode_index_size = slots + most_inodes

abbrev pub block_index_size : ℕ
block_index_size = slots + most_blocks

abbrev pub id_index_size : ℕ
id_index_size = inode_index_size + block_index_size

-- the taken rows of both tables are indexed
pub record Indexed (iw bw index rows : List ℕ) : Type 0 where
  pub long : length index ≡ id_index_size
  pub inodes : IndexedPart most_inodes iw (part 0 inode_index_size index) (inode_part rows)
  pub blocks : IndexedPart most_blocks bw (part inode_index_size block_index_size index) (block_part rows)

-- the records at the first i places are in the tables, and indexed
pub record Turn (image : Bytes) (places : List ℕ) (n : ℕ) (iw₀ bw₀ rows₀ twins₀ iw bw index rows twins : List ℕ) (agreed : Bool) (i : ℕ) : Type 0 where
  pub going : Going image places n (tables_in iw₀ bw₀ rows₀) (tables_in iw bw rows) agreed i
  pub lengths : SameLengths iw bw rows iw₀ bw₀ rows₀
  pub indexed : Indexed iw bw index rows
  pub twins_indexed : TwinIndex image places twins i
  pub twins_long : length twins ≡ length twins₀
