-- Small volumes for the cases: areas of 160 bytes, the last of them scratch.
use Rattle.std.specs.Prelude.{ℕ, ◌-◌, List, [], ◌∷◌, ◌++◌, length, set, replicate}
use Rattle.format.specs.Bytes.{Bytes}
use Rattle.format.specs.Ids.{NONE}
use Rattle.format.specs.Reading.{ERASED}
use Rattle.format.specs.Encoding.{inode_front, sealed, inode_bytes, block_bytes, area_header}
use Rattle.calls.specs.Create.{image_created}
use Rattle.calls.specs.Rename.{image_renamed}
use Rattle.calls.specs.Overwrite.{image_overwritten}
use Rattle.calls.specs.declared.Descriptor.{Descriptor}

-- an area with a collection count and an id: records one behind the other, and then free space
unfoldable pub holding : ℕ → ℕ → Bytes → Bytes
holding count id records = let front = area_header 160 count id ++ records in front ++ replicate (160 - length front) ERASED

abbrev pub area₀ : Descriptor
area₀ = record { offset = 0; length = 160 }

abbrev pub area₁ : Descriptor
area₁ = record { offset = 160; length = 160 }

abbrev pub area₂ : Descriptor
area₂ = record { offset = 320; length = 160 }

abbrev pub area₃ : Descriptor
area₃ = record { offset = 480; length = 160 }

-- a file area and scratch, and two file areas and scratch
abbrev pub two : List Descriptor
two = area₀ ∷ area₁ ∷ []

abbrev pub three : List Descriptor
three = area₀ ∷ area₁ ∷ area₂ ∷ []

-- ---- records

abbrev pub root_record : Bytes
root_record = inode_bytes 0 0 NONE []

-- the file a, and the names "a" and "b"
abbrev pub file : ℕ
file = 0x10000000

abbrev pub other : ℕ
other = 0x10000001

abbrev pub a : Bytes
a = 0x61 ∷ []

abbrev pub b : Bytes
b = 0x62 ∷ []

abbrev pub slash : Bytes → Bytes
slash name = 0x2f ∷ name

-- the root's path, and those of "d", of "e" in it, and of "a" in that
abbrev pub top : Bytes
top = slash []

abbrev pub path_d : Bytes
path_d = slash (0x64 ∷ [])

abbrev pub path_e : Bytes
path_e = path_d ++ slash (0x65 ∷ [])

abbrev pub path_a : Bytes
path_a = path_e ++ slash a

-- ---- volumes

-- the file a with a block of one byte
unfoldable pub one_byte : Bytes
one_byte = holding 0 0 (root_record ++ (inode_bytes file 0 0 a ++ block_bytes 0x80000000 0 file NONE (0x6f ∷ []))) ++ holding 0 255 []

-- a was deleted; its deletion record lies in the area that is collected, its older record in the other
unfoldable pub deleted : Bytes
deleted = holding 0 0 (root_record ++ inode_bytes file 1 NONE []) ++ (holding 1 1 (inode_bytes file 0 0 a) ++ holding 0 255 [])

-- the first area ends in a torn record
unfoldable pub torn : Bytes
torn = holding 0 0 (root_record ++ (0xc0 ∷ 0x8b ∷ [])) ++ (holding 1 1 [] ++ holding 0 255 [])

-- a file below the directory 1, of which there is no record
unfoldable pub orphaned : Bytes
orphaned = holding 0 0 (root_record ++ inode_bytes file 0 1 a) ++ holding 0 255 []

-- the file was named b and is named a: the older record is read last
unfoldable pub older_last : Bytes
older_last = holding 0 0 (root_record ++ (inode_bytes file 1 0 a ++ inode_bytes file 0 0 b)) ++ holding 0 255 []

-- scratch still holds a record of a
unfoldable pub used_scratch : Bytes
used_scratch = holding 0 0 root_record ++ holding 0 255 (inode_bytes file 0 0 a)

-- two versions of one sequence, one in each file area
unfoldable pub clashing : Bytes
clashing = holding 0 0 (root_record ++ inode_bytes file 0 0 a) ++ (holding 1 1 (inode_bytes file 0 0 b) ++ holding 0 255 [])

-- two files, and the first one's record overwritten in a byte: its name's length, by which more than the other file would be skipped
unfoldable pub two_files : Bytes
two_files = holding 0 0 (root_record ++ (inode_bytes file 0 0 a ++ inode_bytes other 0 0 b)) ++ holding 0 255 []

unfoldable pub first_hit : Bytes
first_hit = set two_files 61 200

-- two files of one name
unfoldable pub twins : Bytes
twins = holding 0 0 (root_record ++ (inode_bytes file 0 0 a ++ inode_bytes other 0 0 a)) ++ holding 0 255 []

-- ---- reserved bytes and counts (T-14)

-- the file a with a reserved byte of 1, and a right check
unfoldable pub reserved_inode : Bytes
reserved_inode = sealed (set (inode_front file 0 0 1) 16 1) a

-- a reserved byte of 1 in the header of the file area, and in that of scratch
unfoldable pub reserved_area : Bytes
reserved_area = set one_byte 22 1

unfoldable pub reserved_scratch : Bytes
reserved_scratch = set one_byte 182 1

-- empty areas of these counts
unfoldable pub counted : List ℕ → Bytes
counted [] = []
counted (n ∷ l) = holding n 0 [] ++ counted l

-- the directories 1 and 2, each below the other, and a file in one
unfoldable pub looping : Bytes
looping = holding 0 0 (root_record ++ (inode_bytes 1 0 2 a ++ (inode_bytes 2 0 1 b ++ inode_bytes file 0 1 a))) ++ holding 0 255 []

-- ---- damage (T-08)

-- three bytes between two records of the first area and two behind them, five in the second, and seven in scratch, that are no records
unfoldable pub littered : Bytes
littered =
    holding 0 0 (root_record ++ (replicate 3 0 ++ (inode_bytes file 0 0 a ++ replicate 2 0)))
    ++ (holding 9 1 (replicate 5 0) ++ holding 7 255 (replicate 7 0))

-- ---- renames (T-01)

-- the directory 1, named d, the directory 2, named e, in it, and the file a in that
unfoldable pub nested : Bytes
nested =
    holding 0 0 (root_record ++ (inode_bytes 1 0 0 (0x64 ∷ []) ++ (inode_bytes 2 0 1 (0x65 ∷ []) ++ inode_bytes file 0 2 a)))
    ++ holding 0 255 []

-- the directory e moved to the root, with a new name
unfoldable pub moved : Bytes
moved = image_renamed nested two [] path_e (slash b)

-- the file a, of one byte, renamed to b; and then a new file a
unfoldable pub renamed : Bytes
renamed = image_renamed one_byte two [] (slash a) (slash b)

unfoldable pub reused : Bytes
reused = image_created renamed two [] (slash a) 1

-- an image with the record of that rename overwritten in one byte, its name
abbrev pub hit : Bytes → Bytes
hit image = set image 110 0

-- ---- overwrites (T-05)

-- the file a in three blocks, "abcd" in the first area and "efg" and "h" in the second; "h" is at the last sequence. The file b is broken: the one
-- block of it names another that is not there
unfoldable pub logged : Bytes
logged =
    holding 0 0 (root_record ++ (inode_bytes file 0 0 a ++ (inode_bytes other 0 0 b ++ block_bytes 0x80000000 0 file NONE (0x61 ∷ 0x62 ∷ 0x63 ∷ 0x64 ∷ []))))
    ++ (holding 1 1 (block_bytes 0x80000001 7 file 0x80000000 (0x65 ∷ 0x66 ∷ 0x67 ∷ [])
    ++ (block_bytes 0x80000002 0xffffffff file 0x80000001 (0x68 ∷ []) ++ block_bytes 0x80000003 0 other 0x80000004 (0x69 ∷ [])))
    ++ holding 0 255 [])

-- "xy" and "xyz"
abbrev pub xy : Bytes
xy = 0x78 ∷ 0x79 ∷ []

abbrev pub xyz : Bytes
xyz = 0x78 ∷ 0x79 ∷ 0x7a ∷ []

-- inside the first block of a, from there into the second, and the whole second one
unfoldable pub inside : Bytes
inside = image_overwritten logged three [] (slash a) 1 xy

unfoldable pub across : Bytes
across = image_overwritten logged three [] (slash a) 2 xyz

unfoldable pub whole_block : Bytes
whole_block = image_overwritten logged three [] (slash a) 4 xyz

-- the file a with two blocks of one byte, and room for one more
unfoldable pub two_bytes : Bytes
two_bytes =
    holding 0 0 (root_record ++ (inode_bytes file 0 0 a ++ (block_bytes 0x80000000 0 file NONE (0x6f ∷ []) ++ block_bytes 0x80000001 0 file 0x80000000 (0x6b ∷ []))))
    ++ holding 0 255 []

-- the file a with a block of 45 bytes, one more than the greatest block size, and no room for another
unfoldable pub long : ℕ → Bytes
long sequence = holding 0 0 (root_record ++ (inode_bytes file 0 0 a ++ block_bytes 0x80000000 sequence file NONE (replicate 45 0x6f)))
