-- Records and area headers as they are written. Document 01, "Layouts": in reserved bytes "writers store 0".
use Rattle.std.specs.Prelude.{ℕ, [], ◌∷◌, ◌++◌, length}
use Rattle.format.specs.Bytes.{Bytes, enc16, enc32}
use Rattle.format.specs.Crc.{check}
use Rattle.format.specs.Record.{inode, block}
use Rattle.format.specs.AreaHeader.{area_magic1, area_magic2, area_magic3, area_magic4}

-- the header bytes before the check field
unfoldable pub inode_front : ℕ → ℕ → ℕ → ℕ → Bytes
inode_front id sequence parent n = enc32 inode.magic (enc32 id (enc32 sequence (enc32 parent (0 ∷ n ∷ []))))

unfoldable pub block_front : ℕ → ℕ → ℕ → ℕ → ℕ → Bytes
block_front id sequence owner previous n = enc32 block.magic (enc32 id (enc32 sequence (enc32 owner (enc32 previous (enc16 n [])))))

-- those bytes, their check, and the body
unfoldable pub sealed : Bytes → Bytes → Bytes
sealed front body = front ++ enc16 (check front body) body

unfoldable pub inode_bytes : ℕ → ℕ → ℕ → Bytes → Bytes
inode_bytes id sequence parent name = sealed (inode_front id sequence parent (length name)) name

unfoldable pub block_bytes : ℕ → ℕ → ℕ → ℕ → Bytes → Bytes
block_bytes id sequence owner previous text = sealed (block_front id sequence owner previous (length text)) text

unfoldable pub area_header : ℕ → ℕ → ℕ → Bytes
area_header size count id =
    enc32 area_magic1 (enc32 area_magic2 (enc32 area_magic3 (enc32 area_magic4 (enc32 size (0 ∷ count ∷ 0 ∷ id ∷ [])))))
