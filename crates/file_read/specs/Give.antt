-- What a read of a file gives, by what is known of its blocks.
use Rattle.std.specs.Prelude.{ℕ, min, ◌-◌, ◌≤◌, ◌<◌, ◌≡◌, refl, ◌≢◌, cond, List, [], ◌∷◌, map, take, drop, eqb}
use Rattle.std.proofs.Math.Path.{sym}
use Rattle.std.proofs.Common.{ap, ◌∙◌, arith, length-take, length-drop}
use Rattle.std.proofs.Math.Option.{none, some}
use Rattle.std.proofs.Math.ListN.{length}
use borrow.Author.Tests.{le-leb, lt-leb, ne_eqb}
use Rattle.format.specs.Bytes.{Bytes}
use Rattle.volume.specs.View.{by_bytes}
use Rattle.volume.specs.Counting.{Volume}
use Rattle.volume.specs.Contents.{file_blocks, text_of, headers_from}
use Rattle.volume_laws.specs.Map.{over_volume, file_blocks_map, text_of_map, headers_from_map}
use Rattle.calls.specs.Read.{given, refused, give_blocks, give_file, read_answer, buffer_after}
use Rattle.calls.specs.declared.ReadAnswer.{ReadAnswer}
use Rattle.record_places.specs.Place.{bytes_at, by_place}
use Rattle.record_places.specs.Laws.{place_views}
use Rattle.file_read.specs.Reading.{file_given, FileRead, without, filled}

empty : (l : Bytes) → length l ≡ 0 → l ≡ []
empty [] e = refl
empty (x ∷ l) e = absurd (omega arith)

-- ---- what is given of a file whose blocks are bs

module _ (image : Bytes) (v : Volume ℕ) (file position room : ℕ) (bs : List ℕ) (whole : file_blocks (by_place image) v file ≡ some bs) where
  -- its blocks by their bytes
  by_bytes_lem : file_blocks by_bytes (over_volume (bytes_at image) v) file ≡ some (map (bytes_at image) bs)
  by_bytes_lem = file_blocks_map (by_place image) by_bytes (bytes_at image) (place_views image) v file ∙ rw whole

  same_text : text_of by_bytes (map (bytes_at image) bs) ≡ text_of (by_place image) bs
  same_text = text_of_map (by_place image) by_bytes (bytes_at image) (place_views image) bs

  gives_past : length (text_of (by_place image) bs) < position → file_given image v file position room ≡ refused 14
  gives_past h = rw (by_bytes_lem, same_text, lt-leb position (length (text_of (by_place image) bs)) h)

  -- the bytes that are given
  abbrev part : Bytes
  part = take room (drop position (text_of (by_place image) bs))

  part_long : length part ≡ min room (length (text_of (by_place image) bs) - position)
  part_long = length-take room (drop position (text_of (by_place image) bs)) ∙ ap (min room) (length-drop position (text_of (by_place image) bs))

  gives : position ≤ length (text_of (by_place image) bs)
      → file_given image v file position room ≡ given part (cond (eqb (length part) 0) 0 (headers_from (by_place image) position bs))
  unfolding give_blocks
  gives h = rw (
    by_bytes_lem,
    same_text,
    le-leb position (length (text_of (by_place image) bs)) h,
    headers_from_map (by_place image) by_bytes (bytes_at image) (place_views image) position bs,
  )

  gives_none : position ≤ length (text_of (by_place image) bs) → length part ≡ 0 → file_given image v file position room ≡ given [] 0
  gives_none h e = gives h ∙ rw (empty part e)

  gives_some : position ≤ length (text_of (by_place image) bs) → length part ≢ 0
      → file_given image v file position room ≡ given part (headers_from (by_place image) position bs)
  gives_some h e = gives h ∙ rw (ne_eqb (length part) 0 e)

-- ---- the ways that a read ends

module _ {image : Bytes} {v : Volume ℕ} {file position : ℕ} {b : Bytes} {r : ReadAnswer} where
  refuses : (n : ℕ) → file_given image v file position (length b) ≡ refused n → r ≡ without n → FileRead image v file position b r b
  refuses n e q = record { answer = rw (e, q); bytes = rw e }

  pub reads_broken : file_blocks (by_place image) v file ≡ none → r ≡ without 13 → FileRead image v file position b r b
  reads_broken e = refuses 13 (rw (file_blocks_map (by_place image) by_bytes (bytes_at image) (place_views image) v file, e))

  -- s is the size of the file, and n the number of bytes given
  module _ (bs : List ℕ) (whole : file_blocks (by_place image) v file ≡ some bs) (s : ℕ) (size : s ≡ length (text_of (by_place image) bs)) where
    pub reads_past : s < position → r ≡ without 14 → FileRead image v file position b r b
    reads_past h = refuses 14 (gives_past image v file position (length b) bs whole (omega arith))

    pub reads_none : position ≤ s → (n : ℕ) → n ≡ min (length b) (s - position) → n ≡ 0 → r ≡ without 0 → FileRead image v file position b r b
    reads_none h n is z q =
        let long = part_long image v file position (length b) bs whole in
        let e = gives_none image v file position (length b) bs whole (omega arith) (omega arith) in
        record { answer = rw (e, q); bytes = rw e }

    pub reads_some : position ≤ s → (n : ℕ) → n ≡ min (length b) (s - position) → n ≢ 0 → (k : ℕ) {b' : Bytes}
        → r ≡ record { number = 0; given = n; headers = k }
        → k ≡ headers_from (by_place image) position bs → b' ≡ filled (text_of (by_place image) bs) position b
        → FileRead image v file position b r b'
    unfolding filled
    reads_some h n is z k q hk hb =
        let long : length (part image v file position (length b) bs whole) ≡ n = part_long image v file position (length b) bs whole ∙ sym (is ∙ rw size) in
        let e = gives_some image v file position (length b) bs whole (omega arith) (λ y. z (sym long ∙ y)) in
        record { answer = rw (e, q, long, hk); bytes = rw e hb }

-- the same of a volume w that has those blocks by their bytes, as a call's volume has them
pub file_read : {image : Bytes} {v : Volume ℕ} {file position : ℕ} {b : Bytes} {r : ReadAnswer} {b' : Bytes} → FileRead image v file position b r b'
    → (w : Volume Bytes) → w ≡ over_volume (bytes_at image) v
    → (r ≡ read_answer (give_file (file_blocks by_bytes w file) position (length b))) × (b' ≡ buffer_after (give_file (file_blocks by_bytes w file) position (length b)) b)
file_read f w e = (rw e f.answer, rw e f.bytes)
