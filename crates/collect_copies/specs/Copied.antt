-- The places of the records that a collection copies, by the tables of a mount. Document 01, "Collect".
use Rattle.std.specs.Prelude.{ℕ, ◌+◌, ◌≤◌, ◌≡◌, Bool, true, false, cond, not, ◌&&◌, List, [], ◌∷◌, length, eqb, leb, ltb}
use Rattle.format.specs.Bytes.{Bytes, le32}
use Rattle.volume.specs.Lists.{keep, all, has}
use Rattle.volume.specs.View.{View}
use Rattle.volume.specs.Counting.{Volume}
use Rattle.volume.specs.Fate.{is_dead}
use Rattle.calls.specs.Mount.{most_inodes, most_blocks}
use Rattle.record_places.specs.Place.{block_at, by_place, AllLie}
use Rattle.table_rows.specs.Parts.{part}
use Rattle.table_rows.specs.Table.{found}
use Rattle.table_rows.specs.Rows.{Usable, RowsOf}
use Rattle.inode_fate.specs.Fates.{fate_by}
use Rattle.mount_state.specs.State.{inode_ids_at, inode_spots_at, block_ids_at, block_spots_at, tables_size}

-- the rows of the ids of one kind, and those of both
pub record Table : Type 0 where
  pub ids : List ℕ
  pub spots : List ℕ

pub record Tables : Type 0 where
  pub inodes : Table
  pub blocks : Table

-- a kind is told by whether it is that of blocks
abbrev pub table_of : Bool → Tables → Table
table_of true t = t.blocks
table_of false t = t.inodes

-- the rows of n inodes and of k blocks in the tables of a mounted volume
abbrev pub tables_of : ℕ → ℕ → List ℕ → Tables
tables_of n k tables = record {
  inodes = record { ids = part inode_ids_at n tables; spots = part inode_spots_at n tables };
  blocks = record { ids = part block_ids_at k tables; spots = part block_spots_at k tables };
}

-- they are those of a volume
pub record AllRows (F : View ℕ) (v : Volume ℕ) (t : Tables) : Type 0 where
  pub inodes : RowsOf F v.inodes t.inodes.ids t.inodes.spots
  pub blocks : RowsOf F v.blocks t.blocks.ids t.blocks.spots

-- the copies that there can be: each is of an id of its own
abbrev pub most_copies : ℕ
most_copies = most_inodes + most_blocks

-- a place among the n bytes from o on
unfoldable pub inside : ℕ → ℕ → ℕ → Bool
inside o n p = leb o p && ltb p (o + n)

-- "no other file area has a record of its id"; "names its id as id, parent or owner, its own records in the source area apart":
-- the record at q keeps the dead record of id i, a block or an inode, where `near` tells whether q lies in the source
unfoldable pub holds : Bytes → ℕ → Bool → Bool → ℕ → Bool
holds image i block near q = cond (eqb (le32 image (q + 4)) i) (not near) (cond block false (eqb (le32 image (q + 12)) i))

unfoldable pub unheld : Bytes → ℕ → ℕ → List ℕ → ℕ → Bool → Bool
unheld image o n ps i block = all (λ q. not (holds image i block (inside o n q) q)) ps

-- the inode whose fate a record has: an inode's own id, "A block is dead when its owner is"
abbrev pub bearer : Bytes → ℕ → ℕ
bearer image p = cond (block_at image p) (le32 image (p + 12)) (le32 image (p + 4))

-- the record at p is not copied, though it counts
unfoldable pub dropped : Bytes → ℕ → ℕ → List ℕ → Table → ℕ → Bool
dropped image o n ps u p =
    is_dead (fate_by (by_place image) (length u.ids) u.ids u.spots (bearer image p))
    && unheld image o n ps (le32 image (p + 4)) (block_at image p)

-- the record at p has the bytes of the one that a table holds for its id
unfoldable pub counts_in : Bytes → Table → ℕ → Bool
counts_in image u p = has ((by_place image).same p) (found (length u.ids) u.ids u.spots (le32 image (p + 4)))

-- "the counting records that lie in the source are copied"
unfoldable pub copied : Bytes → ℕ → ℕ → List ℕ → Tables → ℕ → Bool
copied image o n ps t p =
    inside o n p && (counts_in image (table_of (block_at image p) t) p && not (dropped image o n ps t.inodes p))

-- "in order of their first place there, each once"
unfoldable pub first_at : Bytes → List ℕ → List ℕ
first_at image [] = []
first_at image (p ∷ l) = p ∷ keep (λ q. not ((by_place image).same p q)) (first_at image l)

unfoldable pub copied_places : Bytes → ℕ → ℕ → List ℕ → Tables → List ℕ
copied_places image o n ps t = first_at image (keep (copied image o n ps t) ps)

-- no record of a list has the bytes of the one at p
unfoldable pub none_same : Bytes → List ℕ → ℕ → Bool
none_same image l p = all (λ q. not ((by_place image).same q p)) l

-- Safety of the rows of n inodes and k blocks: what a mounted volume's tables are relied on for here.
pub record Rowed (image : Bytes) (n k : ℕ) (tables : List ℕ) : Type 0 where
  pub long : length tables ≡ tables_size
  pub inodes_few : n ≤ most_inodes
  pub blocks_few : k ≤ most_blocks
  pub inodes : Usable image (part inode_ids_at n tables) (part inode_spots_at n tables)
  pub blocks : Usable image (part block_ids_at k tables) (part block_spots_at k tables)

-- the places of whole records, rows that may be used, and a place for each copy that there can be
pub record Lent (image : Bytes) (ps : List ℕ) (n k : ℕ) (tables copies : List ℕ) : Type 0 where
  pub lie : AllLie image ps (length ps)
  pub rows : Rowed image n k tables
  pub room : length copies ≡ most_copies
