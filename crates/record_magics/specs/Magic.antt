-- The magics of records, and places where no record starts (T-10).
use Rattle.std.specs.Prelude.{ℕ, ◌+◌, ◌-◌, ◌/◌, ◌%◌, ◌^◌, ◌≤◌, ◌<◌, ◌≡◌, Bool, cond, not, ◌&&◌, ◌||◌, List, length, get_or, drop, eqb, ltb}
use Rattle.format.specs.Bytes.{Bytes, byte_at, le32}
use Rattle.format.specs.Record.{inode, block, record_size}
use Rattle.format.specs.Reading.{ERASED}

-- ---- the bytes of the magics: c0 8b 5f 92 of inodes, b9 23 ba 53 of blocks, eight different ones

-- of four places in a row, counted from 0, the one where a magic starts that has the byte b at the last of them; 4 where no magic has it
unfoldable pub start_of : ℕ → ℕ
start_of b =
    cond (eqb b 0xc0 || eqb b 0xb9) 3 (cond (eqb b 0x8b || eqb b 0x23) 2 (cond (eqb b 0x5f || eqb b 0xba) 1 (cond (eqb b 0x92 || eqb b 0x53) 0 4)))

unfoldable pub in_magic : ℕ → Bool
in_magic b = ltb (start_of b) 4

-- marks: one bit to a byte, 1 where a magic has it
abbrev pub bit_of : List ℕ → ℕ → ℕ
bit_of marks b = get_or marks (b / 64) 0 / 2 ^ (b % 64) % 2

pub record Marks (marks : List ℕ) : Type 0 where
  pub size : length marks ≡ 4
  pub bit : (b : ℕ) → b < 256 → bit_of marks b ≡ cond (in_magic b) 1 0

-- a magic at a place
unfoldable pub magic_at : Bytes → ℕ → Bool
magic_at area p = eqb (le32 area p) inode.magic || eqb (le32 area p) block.magic

-- ---- sixteen places, of which four bytes tell: the last of each four places

abbrev pub clear : Bytes → ℕ → Bool
clear area p = not (in_magic (byte_at area p))

-- none of the four bytes that tell of sixteen places is in a magic
unfoldable pub clear_all : Bytes → ℕ → Bool
clear_all area at = clear area (at + 3) && clear area (at + 7) && clear area (at + 11) && clear area (at + 15)

-- all four are erased
unfoldable pub erased_fourths : Bytes → ℕ → Bool
erased_fourths area at =
    eqb (byte_at area (at + 3)) ERASED && eqb (byte_at area (at + 7)) ERASED && eqb (byte_at area (at + 11)) ERASED && eqb (byte_at area (at + 15)) ERASED

-- ---- places where no record starts

-- none starts at the n places from a place on
pub record Passed (area : Bytes) (at n : ℕ) : Type 0 where
  pub none : (j : ℕ) → j < n → record_size (drop (at + j) area) ≡ 0

-- the search has come from a place to a place, inside the area if it began there, and passed over no record
pub record Onward (area : Bytes) (from to : ℕ) : Type 0 where
  pub onward : from ≤ to
  pub within : from ≤ length area → to ≤ length area
  pub passed : Passed area from (to - from)
