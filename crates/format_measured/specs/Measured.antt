-- Document 01, "Measured on the bench": the cases marked (P), one table under one theorem.
use Rattle.std.specs.Prelude.{ℕ, ◌≤◌, ◌≡◌, Bool, true, false, List, [], ◌∷◌, map, replicate}
use Rattle.format.specs.Bytes.{Bytes}
use Rattle.format.specs.Ids.{NONE}
use Rattle.format.specs.Record.{record_size}
use Rattle.format.specs.Encoding.{inode_bytes, block_bytes}
use Rattle.format.specs.BlockSize.{greatest_block}
use Rattle.volume.specs.Path.{good_path}

-- the record of a file below the root, with a name of n bytes
abbrev file_named : ℕ → Bytes
file_named n = inode_bytes 0x10000000 0 0 (replicate n 0x61)

-- the record of a file's first block, with n bytes of data
abbrev block_with : ℕ → Bytes
block_with n = block_bytes 0x80000000 0 0x10000000 NONE (replicate n 0x41)

-- a case, and what was measured
pub record Case : Type 0 where
  pub is : ℕ
  pub measured : ℕ

abbrev case : ℕ → ℕ → Case
case x y = record { is = x; measured = y }

abbrev yes_no : Bool → ℕ
yes_no true = 1
yes_no false = 0

abbrev pub cases : List Case
cases =
    -- "Greatest block size by shortest area", amended by T-03: "128 gives 28, 4,096 gives 2,012, 4,166 gives 2,047, 4,168 gives 2,048"
    case (greatest_block 128) 28
    ∷ case (greatest_block 4096) 2012
    ∷ case (greatest_block 4166) 2047
    ∷ case (greatest_block 4168) 2048
    -- "Name length 255 acceptable, 0 not, for a file whose parent is a directory id"
    ∷ case (record_size (file_named 255)) 275
    ∷ case (record_size (file_named 0)) 0
    -- (a deletion record may have no name: the encoder is right at 0)
    ∷ case (record_size (inode_bytes 0x10000000 0 NONE [])) 20
    -- "Data length 2,048 acceptable, 2,049 and 0 not"
    ∷ case (record_size (block_with 2048)) 2072
    ∷ case (record_size (block_with 2049)) 0
    ∷ case (record_size (block_with 0)) 0
    -- "Paths '/' and '/a' good; '', '//a', '/a/' bad"
    ∷ case (yes_no (good_path [] (0x2f ∷ []))) 1
    ∷ case (yes_no (good_path [] (0x2f ∷ 0x61 ∷ []))) 1
    ∷ case (yes_no (good_path [] [])) 0
    ∷ case (yes_no (good_path (0x2f ∷ []) [])) 0
    ∷ case (yes_no (good_path [] (0x2f ∷ 0x2f ∷ 0x61 ∷ []))) 0
    ∷ case (yes_no (good_path [] (0x2f ∷ 0x61 ∷ 0x2f ∷ []))) 0
    ∷ []

pub record Measured : Type 0 where
  pub table : map (λ c. c.is) cases ≡ map (λ c. c.measured) cases
  -- "and more"
  pub beyond : (n : ℕ) → 4168 ≤ n → greatest_block n ≡ 2048
