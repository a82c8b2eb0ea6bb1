-- Small volumes for the cases of T-07: images, and records without an image.
use Rattle.std.specs.Prelude.{ℕ, List, [], ◌∷◌, ◌++◌, replicate}
use Rattle.format.specs.Bytes.{Bytes}
use Rattle.format.specs.Ids.{NONE}
use Rattle.format.specs.Encoding.{inode_bytes, block_bytes}
use Rattle.volume.specs.View.{by_bytes}
use Rattle.volume.specs.Counting.{Volume, volume_of}
use Rattle.volume.specs.Listing.{Line, tree_lines}
use Rattle.calls.specs.Format.{image_formatted}
use Rattle.case_volumes.specs.Volumes.{holding, two, root_record, file, other, a, b}

-- document 01's undamaged area, in fewer bytes: the root, the file a, a block of 10 and a block of 5, all data 41 hex
unfoldable pub undamaged : Bytes
undamaged =
    holding 0 0 (root_record ++ (inode_bytes file 0 0 a ++ (block_bytes 0x80000000 0 file NONE (replicate 10 0x41)
    ++ block_bytes 0x80000001 0 file 0x80000000 (replicate 5 0x41))))
    ++ holding 0 255 []

-- a fresh pair
unfoldable pub fresh : Bytes
fresh = image_formatted (replicate 320 0) two

-- ---- records in the order in which they are read, the root's before them

unfoldable pub below : List Bytes → Volume Bytes
below rs = volume_of by_bytes (root_record ∷ rs)

abbrev pub lines_below : List Bytes → List Line
lines_below rs = tree_lines by_bytes (below rs)

-- a directory in another
abbrev pub directory : ℕ → ℕ → Bytes → Bytes
directory i above name = inode_bytes i 0 above name

-- three directories: 1 has the directory 4 in it, 3 the directory 5 and a file; the one file that was in 2 is deleted
unfoldable pub cut_short : Volume Bytes
cut_short =
    below (directory 1 0 a ∷ directory 2 0 b ∷ directory 3 0 (0x63 ∷ []) ∷ directory 4 1 a ∷ directory 5 3 a ∷ inode_bytes other 0 3 b
    ∷ inode_bytes file 0 2 a ∷ inode_bytes file 1 NONE [] ∷ [])
