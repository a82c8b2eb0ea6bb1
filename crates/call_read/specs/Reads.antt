-- Reading by mounted tables. Document 01, "Open and read" and refusals 9, 11, 13 and 14.
use Rattle.std.specs.Prelude.{ℕ, ◌≡◌, List, true, false, length}
use Rattle.std.proofs.Common.{◌∙◌, eq-eqb, ne_eqb}
use Rattle.format.specs.Bytes.{Bytes}
use Rattle.format.specs.Ids.{is_directory_id}
use Rattle.volume.specs.View.{by_bytes}
use Rattle.volume.specs.Counting.{Volume}
use Rattle.volume.specs.Fate.{is_live, fate_of}
use Rattle.volume_laws.specs.Map.{over_volume, fate_of_map}
use Rattle.record_places.specs.Place.{bytes_at, by_place}
use Rattle.record_places.specs.Laws.{place_views}
use Rattle.calls.specs.Mount.{mount_number}
use Rattle.calls.specs.Read.{Given, refused, give, read_given, read_answer, buffer_after}
use Rattle.calls.specs.Outcome.{code, code_nonzero}
use Rattle.calls.specs.declared.Descriptor.{Descriptor}
use Rattle.calls.specs.declared.Refusal.{Refusal}
use Rattle.calls.specs.declared.ReadAnswer.{ReadAnswer}
use Rattle.area_pass.specs.Bridge.{placed_volume, volume_places}
use Rattle.file_read.specs.Reading.{file_given, FileRead, without}
use Rattle.mount_state.specs.State.{Holds}
use Rattle.mount_state.specs.declared.Mounted.{Mounted}

-- what a read gives, where the records of the volume v are held by their places
abbrev pub mounted_given : Bytes → Volume ℕ → ℕ → ℕ → ℕ → Given
mounted_given image v id position room = give (over_volume (bytes_at image) v) id position room

-- the answer and the buffer of such a read
pub record MountedRead (image : Bytes) (v : Volume ℕ) (id position : ℕ) (buffer : Bytes) (r : ReadAnswer) (buffer' : Bytes) : Type 0 where
  pub answer : r ≡ read_answer (mounted_given image v id position (length buffer))
  pub bytes : buffer' ≡ buffer_after (mounted_given image v id position (length buffer)) buffer

-- ---- the ways that a read of a mounted volume ends

fate_is : (image : Bytes) (v : Volume ℕ) (id : ℕ) → fate_of by_bytes (over_volume (bytes_at image) v) id ≡ fate_of (by_place image) v id
fate_is image v id = fate_of_map (by_place image) by_bytes (bytes_at image) (place_views image) v id

module _ {image : Bytes} {v : Volume ℕ} {id position : ℕ} {b : Bytes} {r : ReadAnswer} where
  refuses : (n : ℕ) → mounted_given image v id position (length b) ≡ refused n → r ≡ without n → MountedRead image v id position b r b
  refuses n e q = record { answer = rw (e, q); bytes = rw e }

  pub reads_nothing : is_live (fate_of (by_place image) v id) ≡ false → r ≡ without 9 → MountedRead image v id position b r b
  unfolding give
  reads_nothing l = refuses 9 (rw (fate_is image v id, l))

  pub reads_directory : is_live (fate_of (by_place image) v id) ≡ true → is_directory_id id ≡ true → r ≡ without 11 → MountedRead image v id position b r b
  unfolding give
  reads_directory l d = refuses 11 (rw (fate_is image v id, l, d))

  pub reads_file : is_live (fate_of (by_place image) v id) ≡ true → is_directory_id id ≡ false → {b' : Bytes} → FileRead image v id position b r b'
      → MountedRead image v id position b r b'
  unfolding give
  reads_file l d f =
      let e : mounted_given image v id position (length b) ≡ file_given image v id position (length b) = rw (fate_is image v id, l, d) in
      record { answer = rw e f.answer; bytes = rw e f.bytes }

-- ---- a read of a mounted volume is that of the call

-- the answer and the buffer of the call
pub record Reads (image : Bytes) (ds : List Descriptor) (id position : ℕ) (buffer : Bytes) (r : ReadAnswer) (buffer' : Bytes) : Type 0 where
  pub answer : r ≡ read_answer (read_given image ds id position (length buffer))
  pub bytes : buffer' ≡ buffer_after (read_given image ds id position (length buffer)) buffer

pub read_is : {image : Bytes} {ds : List Descriptor} {m : Mounted} {t : List ℕ} → Holds image ds m t → (id position : ℕ) (b : Bytes) {r : ReadAnswer} {b' : Bytes}
    → MountedRead image (placed_volume image ds) id position b r b' → Reads image ds id position b r b'
unfolding read_given
read_is {image} {ds} h id position b f =
    let e : read_given image ds id position (length b) ≡ mounted_given image (placed_volume image ds) id position (length b) =
    rw (eq-eqb (mount_number image ds) 0 h.number, volume_places image ds) in
    record { answer = rw e f.answer; bytes = rw e f.bytes }

pub read_refused : (image : Bytes) (ds : List Descriptor) (id position : ℕ) (b : Bytes) (r : Refusal) → code r ≡ mount_number image ds → Reads image ds id position b (without (code r)) b
unfolding read_given
read_refused image ds id position b r k =
    let e : read_given image ds id position (length b) ≡ refused (code r) = rw (k, ne_eqb (mount_number image ds) 0 (λ z. code_nonzero r (k ∙ z))) in
    record { answer = rw e; bytes = rw e }
