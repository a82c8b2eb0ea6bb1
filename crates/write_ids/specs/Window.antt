-- The ids from one on that records name, a place of occupancy words to each. Document 01, "Create, append, unlink".
use Rattle.std.specs.Prelude.{ℕ, ◌+◌, ◌*◌, ◌/◌, ◌<◌, ◌≡◌, cond, List, [], ◌∷◌, get_or}
use Rattle.format.specs.Bytes.{Bytes}
use Rattle.volume.specs.Counting.{volume_of}
use Rattle.volume_laws.specs.Map.{over_volume}
use Rattle.calls.specs.Mount.{most_records, most_blocks}
use Rattle.calls.specs.Storing.{named_ids, is_among}
use Rattle.record_places.specs.Place.{block_at, bytes_at, by_place}
use Rattle.table_words.specs.Occupancy.{bits, capacity}

-- words for more ids than all records name, three at most to each, and one append takes
abbrev pub id_words : ℕ
id_words = (most_records * 3 + most_blocks) / 64 + 1

-- the k-th place is taken where the id first + k is named, and free where not
unfoldable pub Marks : ℕ → List ℕ → List ℕ → Type 0
Marks first names words = (k : ℕ) → k < capacity words → get_or (bits words) k 0 ≡ cond (is_among (first + k) names) 1 0

-- the ids that the records at some places name "as id, parent, owner or previous"
abbrev pub named_at : Bytes → List ℕ → List ℕ
named_at image ps = named_ids (over_volume (bytes_at image) (volume_of (by_place image) ps))

-- names and those of the record at a place
abbrev pub with_names : Bytes → ℕ → List ℕ → List ℕ
with_names image p names =
    cond (block_at image p)
    ((by_place image).previous p ∷ (by_place image).owner p ∷ (by_place image).id p ∷ names)
    ((by_place image).parent p ∷ (by_place image).id p ∷ names)

-- the same names as `named_at`, in the order of the records
unfoldable pub names_of : Bytes → List ℕ → List ℕ
names_of image [] = []
names_of image (p ∷ ps) = with_names image p (names_of image ps)
