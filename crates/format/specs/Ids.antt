-- The ranges of ids. Document 01: "directories 0 to 0fffffff, files 10000000 to 7fffffff, blocks 80000000 to fffffffe, NONE ffffffff".
use Rattle.std.specs.Prelude.{ℕ, Bool, ◌&&◌, ltb, leb}

abbrev pub NONE : ℕ
NONE = 0xffffffff

abbrev pub first_file_id : ℕ
first_file_id = 0x10000000

abbrev pub first_block_id : ℕ
first_block_id = 0x80000000

-- the id of the root directory
abbrev pub root_id : ℕ
root_id = 0

unfoldable pub is_directory_id : ℕ → Bool
is_directory_id i = ltb i first_file_id

unfoldable pub is_file_id : ℕ → Bool
is_file_id i = leb first_file_id i && ltb i first_block_id

unfoldable pub is_inode_id : ℕ → Bool
is_inode_id i = ltb i first_block_id

unfoldable pub is_block_id : ℕ → Bool
is_block_id i = leb first_block_id i && ltb i NONE
