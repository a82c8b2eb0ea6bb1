-- Reading a file. Document 01, "Open and read" and refusals 9, 11, 13 and 14.
use Rattle.std.specs.Prelude.{ℕ, ◌+◌, List, ◌++◌, cond, length, take, drop, eqb, leb}
use Rattle.std.proofs.Math.Option.{Option, none, some}
use Rattle.format.specs.Bytes.{Bytes}
use Rattle.format.specs.Ids.{is_directory_id}
use Rattle.volume.specs.View.{by_bytes}
use Rattle.volume.specs.Counting.{Volume}
use Rattle.volume.specs.Fate.{is_live, fate_of}
use Rattle.volume.specs.Contents.{file_blocks, text_of, headers_from}
use Rattle.calls.specs.Mount.{volume, mount_number}
use Rattle.calls.specs.declared.Descriptor.{Descriptor}
use Rattle.calls.specs.declared.Handle.{Handle}
use Rattle.calls.specs.declared.ReadAnswer.{ReadAnswer}

-- what a read gives: bytes and the number of block headers followed, or a number of refusal
pub data Given : Type 0 where
  given : Bytes → ℕ → Given
  refused : ℕ → Given

-- "as many bytes as the buffer and the file allow"; headers are followed "from the last block back to the one holding
-- the first byte given, 0 if no byte is given"
unfoldable pub give_blocks : List Bytes → ℕ → ℕ → Given
give_blocks bs position room =
    let bytes = take room (drop position (text_of by_bytes bs)) in
    given bytes (cond (eqb (length bytes) 0) 0 (headers_from by_bytes position bs))

-- "13: read .. of a broken file", "14: read begins after the end"
abbrev pub give_file : Option (List Bytes) → ℕ → ℕ → Given
give_file none position room = refused 13
give_file (some bs) position room = cond (leb position (length (text_of by_bytes bs))) (give_blocks bs position room) (refused 14)

-- "9: .. a handle's id isn't live", "11: a file where a directory is needed, or the reverse"
unfoldable pub give : Volume Bytes → ℕ → ℕ → ℕ → Given
give v id position room =
    cond (is_live (fate_of by_bytes v id))
    (cond (is_directory_id id) (refused 11) (give_file (file_blocks by_bytes v id) position room))
    (refused 9)

unfoldable pub read_given : Bytes → List Descriptor → ℕ → ℕ → ℕ → Given
read_given image ds id position room =
    cond (eqb (mount_number image ds) 0) (give (volume image ds) id position room) (refused (mount_number image ds))

-- the answer, the buffer and the position afterwards; a refused read changes neither
abbrev pub read_answer : Given → ReadAnswer
read_answer (given bytes headers) = record { number = 0; given = length bytes; headers = headers }
read_answer (refused n) = record { number = n; given = 0; headers = 0 }

abbrev pub buffer_after : Given → Bytes → Bytes
buffer_after (given bytes headers) buffer = bytes ++ drop (length bytes) buffer
buffer_after (refused n) buffer = buffer

abbrev pub handle_after : Given → Handle → Handle
handle_after (given bytes headers) h = record { id = h.id; position = h.position + length bytes }
handle_after (refused n) h = h
