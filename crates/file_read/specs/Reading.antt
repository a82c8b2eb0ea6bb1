-- What a read gives, by the rows of the table of blocks. Document 01, "Open and read".
use Rattle.std.specs.Prelude.{Option as Answer, None, Some, ℕ, min, ◌-◌, ◌*◌, ◌≤◌, ◌≡◌, cond, List, ◌++◌, length, take, drop, ltb}
use Rattle.std.proofs.Math.Option.{Option, none, some}
use Rattle.format.specs.Bytes.{Bytes}
use Rattle.volume.specs.View.{by_bytes}
use Rattle.volume.specs.Counting.{Volume}
use Rattle.volume.specs.Contents.{chain_back, file_blocks}
use Rattle.volume_laws.specs.Map.{over_volume}
use Rattle.calls.specs.Image.{put}
use Rattle.calls.specs.Read.{Given, give_file, read_answer, buffer_after}
use Rattle.calls.specs.declared.ReadAnswer.{ReadAnswer}
use Rattle.calls.specs.Mount.{most_blocks}
use Rattle.record_places.specs.Place.{bytes_at, by_place}
use Rattle.table_rows.specs.Table.{found}
use Rattle.file_blocks.specs.Blocks.{text_size}
use Rattle.file_read.specs.declared.Chain.{Chain}

-- what a read of a file gives, where the blocks of the volume v are held by their places
abbrev pub file_given : Bytes → Volume ℕ → ℕ → ℕ → ℕ → Given
file_given image v file position room = give_file (file_blocks by_bytes (over_volume (bytes_at image) v) file) position room

-- the answer and the buffer of such a read
pub record FileRead (image : Bytes) (v : Volume ℕ) (file position : ℕ) (buffer : Bytes) (r : ReadAnswer) (buffer' : Bytes) : Type 0 where
  pub answer : r ≡ read_answer (file_given image v file position (length buffer))
  pub bytes : buffer' ≡ buffer_after (file_given image v file position (length buffer)) buffer

-- the answer of a read that gives no byte
abbrev pub without : ℕ → ReadAnswer
without n = record { number = n; given = 0; headers = 0 }

-- the blocks of a chain in file order
abbrev pub chain_of : Bytes → List ℕ → List ℕ → Chain → Option (List ℕ)
chain_of image ids spots h = chain_back (by_place image) (found (length ids) ids spots) h.file h.count h.last

-- the chain is whole, and its size is told
abbrev pub Whole : Bytes → List ℕ → List ℕ → Chain → Type 0
Whole image ids spots h = text_size (by_place image) (chain_of image ids spots h) ≡ some h.size

-- and its numbers are those of a table of blocks
pub record FullChain (image : Bytes) (ids spots : List ℕ) (h : Chain) : Type 0 where
  pub whole : Whole image ids spots h
  pub few : h.count ≤ most_blocks
  pub small : h.size ≤ most_blocks * 65535

-- the blocks of a file in file order, by what was found
abbrev pub blocks_in : Bytes → List ℕ → List ℕ → Answer Chain → Option (List ℕ)
blocks_in image ids spots None = none
blocks_in image ids spots (Some h) = chain_of image ids spots h

-- the buffer b with as many bytes of a text from a position on as there are and as it has room for, in its front
unfoldable pub filled : Bytes → ℕ → Bytes → Bytes
filled text from b = take (length b) (drop from text) ++ drop (length (take (length b) (drop from text))) b

-- the buffer b, for the bytes of a file from a position on, with those of some data that starts at begin of the file
unfoldable pub laid : Bytes → ℕ → ℕ → Bytes → Bytes
laid text begin from b =
    cond (ltb (begin - from) (length b))
    (put b (begin - from) (take (min (length text - (from - begin)) (length b - (begin - from))) (drop (from - begin) text)))
    b
