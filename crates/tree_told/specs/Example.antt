-- Trees by computation: document 01's undamaged area, a fresh pair, and one volume with all that T-07 speaks of but the depth.
use Rattle.std.specs.Prelude.{ℕ, ◌-◌, ◌≡◌, List, [], ◌∷◌, ◌++◌, length, replicate}
use Rattle.format.specs.Bytes.{Bytes}
use Rattle.format.specs.Ids.{NONE}
use Rattle.format.specs.Encoding.{inode_bytes, block_bytes, area_header}
use Rattle.format.specs.Reading.{ERASED}
use Rattle.volume.specs.Lists.{joined}
use Rattle.volume.specs.View.{by_bytes}
use Rattle.volume.specs.Listing.{deeper, show_directory, tree_text}
use Rattle.calls.specs.Mount.{volume}
use Rattle.calls.specs.Mount.{mount_number}
use Rattle.calls.specs.Tree.{attempt_tree, tree_answer, buffer_with}
use Rattle.calls.specs.declared.Descriptor.{Descriptor}

-- an area of a size: records behind its header, and then free space
unfoldable pub holding : ℕ → ℕ → Bytes → Bytes
holding size id records = let front = area_header size 0 id ++ records in front ++ replicate (size - length front) ERASED

-- an area with records, and a scratch area
unfoldable pub pair : ℕ → Bytes → Bytes
pair size records = holding size 0 records ++ holding size 255 []

abbrev pub areas : ℕ → List Descriptor
areas size = record { offset = 0; length = size } ∷ record { offset = size; length = size } ∷ []

abbrev pub root : Bytes
root = inode_bytes 0 0 NONE []

abbrev pub first_file : ℕ
first_file = 0x10000000

-- "root at 24, file "a" at 44, block of 10 at 65, block of 5 at 99, all data 41 hex, FF from 128", in areas that end sooner
unfoldable pub bench : Bytes
bench =
    pair 160 (root ++ (inode_bytes first_file 0 0 (0x61 ∷ []) ++ (
    block_bytes 0x80000000 0 first_file NONE (replicate 10 0x41) ++ block_bytes 0x80000001 0 first_file 0x80000000 (replicate 5 0x41))))

unfoldable pub fresh : Bytes
fresh = pair 160 root

-- the directory `d` with two files of one name, the one read first of the higher id and broken
-- a directory whose name is a newline, and a file `+`: a newline is lower than `+`, but `/` is higher
-- an orphan; a deletion record, once a directory in the root, and a file below it
unfoldable pub mixed : Bytes
mixed =
    pair 320 (root
    ++ (inode_bytes 1 0 0 (100 ∷ [])
    ++ (inode_bytes 0x10000002 0 1 (97 ∷ [])
    ++ (block_bytes 0x80000001 0 0x10000002 0x80000009 (1 ∷ [])
    ++ (inode_bytes 0x10000001 0 1 (97 ∷ [])
    ++ (inode_bytes 0x10000003 0 0 (43 ∷ [])
    ++ (block_bytes 0x80000000 0 0x10000003 NONE (replicate 10 0)
    ++ (inode_bytes 2 0 0 (10 ∷ [])
    ++ (inode_bytes 0x10000004 0 7 (98 ∷ [])
    ++ (inode_bytes 3 0 0 (99 ∷ [])
    ++ (inode_bytes 3 1 NONE []
    ++ inode_bytes 0x10000005 0 3 (101 ∷ []))))))))))))

-- `/`
abbrev pub root_line : Bytes
root_line = 47 ∷ 10 ∷ []

-- ` /`, the directory whose name is a newline
abbrev pub newline_line : Bytes
newline_line = 32 ∷ 47 ∷ 10 ∷ []

-- ` + 10`
abbrev pub plus_line : Bytes
plus_line = 32 ∷ 43 ∷ 32 ∷ 49 ∷ 48 ∷ 10 ∷ []

-- ` d`
abbrev pub d_line : Bytes
d_line = 32 ∷ 100 ∷ 10 ∷ []

-- `  a 0` and `  a broken`
abbrev pub empty_line : Bytes
empty_line = 32 ∷ 32 ∷ 97 ∷ 32 ∷ 48 ∷ 10 ∷ []

abbrev pub broken_line : Bytes
broken_line = 32 ∷ 32 ∷ 97 ∷ 32 ∷ 98 ∷ 114 ∷ 111 ∷ 107 ∷ 101 ∷ 110 ∷ 10 ∷ []

pub record Computed : Type 0 where
  -- "document 01's undamaged area then gives `/` and ` a 15`"
  pub bench_mounts : mount_number bench (areas 160) ≡ 0
  pub bench_tree : tree_text by_bytes (volume bench (areas 160)) ≡ 47 ∷ 10 ∷ 32 ∷ 97 ∷ 32 ∷ 49 ∷ 53 ∷ 10 ∷ []
  -- "the fresh pair's third is `/`"
  pub fresh_mounts : mount_number fresh (areas 160) ≡ 0
  pub fresh_tree : tree_text by_bytes (volume fresh (areas 160)) ≡ 47 ∷ 10 ∷ []
  pub mixed_mounts : mount_number mixed (areas 320) ≡ 0
  pub mixed_tree : tree_text by_bytes (volume mixed (areas 320)) ≡ joined (λ l. l) (root_line ∷ newline_line ∷ plus_line ∷ d_line ∷ empty_line ∷ broken_line ∷ [])
  -- at the greatest depth a directory with children gives one line, and one without none
  pub cut_short : show_directory by_bytes (volume mixed (areas 320)) 0 1 ≡ deeper ∷ []
  pub cut_empty : show_directory by_bytes (volume mixed (areas 320)) 0 2 ≡ []
  -- a buffer that is longer keeps its rest, and one that is shorter takes what fits
  pub longer : buffer_with (7 ∷ 7 ∷ 7 ∷ []) (attempt_tree fresh (areas 160)) ≡ 47 ∷ 10 ∷ 7 ∷ []
  pub shorter : buffer_with (7 ∷ []) (attempt_tree fresh (areas 160)) ≡ 47 ∷ []
  pub whole : (tree_answer (attempt_tree fresh (areas 160))).length ≡ 2
