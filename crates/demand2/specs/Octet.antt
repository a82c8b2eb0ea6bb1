-- Lists of bytes, each below 256, as they are stored, and as records are written and read.
use Rattle.std.specs.Prelude.{ℕ, zero, suc, ◌+◌, ◌^◌, ◌<◌, length, take, drop}
use mathlib.Core.List.{List, ◌++◌, Memᴰ}
use Rattle.std.proofs.Common.{arith}
use Rattle.format.specs.Bytes.{Bytes, le32, enc16}
use Rattle.format.specs.Crc.{check}
use Rattle.format.specs.Reading.{ERASED}
use Rattle.format.specs.Record.{record_size}
use Rattle.format.specs.AreaHeader.{area_magic1, area_magic2, area_magic3, area_magic4}
use Rattle.format.specs.Encoding.{inode_front, block_front, sealed, inode_bytes, block_bytes, area_header}
use Rattle.format_laws.specs.Crc.{Octets}
use Rattle.format_laws.specs.Encoding.{octets_none, octets_cons, octets16, octets32, inode_front_octets, block_front_octets}
use Rattle.format_laws.specs.Octets.{octet_at, octets_take, octets_drop, octets_append}
use Rattle.format_laws.specs.Reading.{records_lawful}
use Rattle.format_laws.specs.Taken.{records_from_lem, from_each}
use Rattle.calls.specs.Image.{put, erased}
use Rattle.calls.specs.Areas.{area_bytes, file_areas}
use Rattle.calls.specs.Mount.{accepted_records}
use Rattle.calls.specs.declared.Descriptor.{Descriptor}
use Rattle.calls_laws.specs.Records.{stored}

pub octets_erased : (n : ℕ) → Octets (erased n)
octets_erased zero = octets_none
octets_erased (suc n) = octets_cons ERASED (omega arith) (octets_erased n)

-- bytes stored into bytes
pub octets_put : (image : Bytes) (p : ℕ) (b : Bytes) → Octets image → Octets b → Octets (put image p b)
unfolding put
octets_put image p b o k =
    octets_append (take p image) (b ++ drop (p + length b) image) (octets_take p image o)
    (octets_append b (drop (p + length b) image) k (octets_drop (p + length b) image o))

-- records and area headers as they are written
octets_sealed : (front body : Bytes) → Octets front → Octets body → Octets (sealed front body)
unfolding sealed
octets_sealed front body f b = octets_append front (enc16 (check front body) body) f (octets16 (check front body) b)

pub octets_inode : (id sequence parent : ℕ) (name : Bytes) → length name < 256 → Octets name → Octets (inode_bytes id sequence parent name)
unfolding inode_bytes
octets_inode id sequence parent name l o =
    octets_sealed (inode_front id sequence parent (length name)) name (inode_front_octets id sequence parent (length name) l) o

pub octets_block : (id sequence owner previous : ℕ) (text : Bytes) → Octets text → Octets (block_bytes id sequence owner previous text)
unfolding block_bytes
octets_block id sequence owner previous text o =
    octets_sealed (block_front id sequence owner previous (length text)) text (block_front_octets id sequence owner previous (length text)) o

pub octets_header : (size count id : ℕ) → count < 256 → id < 256 → Octets (area_header size count id)
unfolding area_header
octets_header size count id c i =
    octets32 area_magic1 (octets32 area_magic2 (octets32 area_magic3 (octets32 area_magic4 (octets32 size
    (octets_cons 0 (omega arith) (octets_cons count c (octets_cons 0 (omega arith) (octets_cons id i octets_none))))))))

-- a number of four bytes fits into 32 bits
pub le32_fits : (l : Bytes) → Octets l → (i : ℕ) → le32 l i < 2 ^ 32
unfolding le32
le32_fits l o i = omega (arith, octet_at l o i, octet_at l o (i + 1), octet_at l o (i + 2), octet_at l o (i + 3))

-- the records of an image of bytes are bytes
pub record_octets : (image : Bytes) (ds : List Descriptor) → Octets image → (b : Bytes) → Memᴰ b (accepted_records image ds) → Octets b
unfolding accepted_records
record_octets image ds o b m =
    let s = stored image (file_areas image ds) b m in
    let a = area_bytes image s.area in
    let t = from_each record_size records_lawful a 24 s.one (rw (records_from_lem record_size a) at s.taken_there) in
    rw (← s.bytes_are, t.is)
    (octets_take (record_size (drop s.one.place a)) (drop s.one.place a)
    (octets_drop s.one.place a (octets_take s.area.length (drop s.area.offset image) (octets_drop s.area.offset image o))))
