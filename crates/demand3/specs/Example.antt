-- Two damaged images to which demand 3 applies: a file whose path still finds it, and the same file with its path ambiguous.
use Rattle.std.specs.Prelude.{ℕ, List, [], ◌∷◌, ◌++◌, set, replicate}
use Rattle.format.specs.Bytes.{Bytes}
use Rattle.format.specs.Ids.{NONE}
use Rattle.format.specs.Encoding.{inode_bytes, block_bytes, area_header}
use Rattle.calls.specs.declared.Descriptor.{Descriptor}

-- Two areas of 160 bytes
unfoldable pub areas : List Descriptor
areas = record { offset = 0; length = 160 } ∷ record { offset = 160; length = 160 } ∷ []

-- the root; the file a, with a block of two bytes; and another file, which was named a and now is named b
unfoldable pub image : Bytes
image =
    area_header 160 0 0
    ++ (inode_bytes 0 0 NONE []
    ++ (inode_bytes 0x10000000 0 0 (0x61 ∷ [])
    ++ (inode_bytes 0x10000001 0 0 (0x61 ∷ [])
    ++ (inode_bytes 0x10000001 1 0 (0x62 ∷ [])
    ++ (block_bytes 0x80000000 0 0x10000000 NONE (0x6f ∷ 0x6b ∷ [])
    ++ (replicate 27 0xff
    ++ (area_header 160 0 255
    ++ replicate 136 0xff)))))))

-- a byte of the other file's newest record overwritten, or one of its older record
unfoldable pub newer_lost : Bytes
newer_lost = set image 90 0xee

unfoldable pub older_lost : Bytes
older_lost = set image 70 0xee

-- the file a, and its path
abbrev pub file : ℕ
file = 0x10000000

abbrev pub path : Bytes
path = 0x2f ∷ 0x61 ∷ []
