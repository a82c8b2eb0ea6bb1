-- Where new records go and which ids they take. Document 01, "Create, append, unlink".
use Rattle.std.specs.Prelude.{ℕ, zero, suc, ◌+◌, List, [], ◌∷◌, ◌++◌, Bool, true, false, cond, not, length, eqb, leb}
use Rattle.std.proofs.Math.Option.{Option, none, some}
use Rattle.format.specs.Bytes.{Bytes}
use Rattle.format.specs.Record.{record_size, record_id, record_link, block_previous}
use Rattle.format.specs.Reading.{area_clean, area_free}
use Rattle.volume.specs.Lists.{all, bind}
use Rattle.volume.specs.Counting.{Volume}
use Rattle.calls.specs.Image.{put}
use Rattle.calls.specs.Areas.{area_bytes, area_end}
use Rattle.calls.specs.declared.Descriptor.{Descriptor}

-- the free space of an area: from a place up to its end
pub record Space : Type 0 where
  pub from : ℕ
  pub end : ℕ

-- the free space of the clean file areas, in descriptor order; "a damaged area waits for collection"
unfoldable pub spaces : Bytes → List Descriptor → List Space
spaces image [] = []
spaces image (d ∷ fs) =
    cond (area_clean record_size (area_bytes image d))
    (record { from = d.offset + area_free record_size (area_bytes image d); end = area_end d } ∷ spaces image fs)
    (spaces image fs)

-- bytes and the place where they are stored
pub record Store : Type 0 where
  pub place : ℕ
  pub bytes : Bytes

-- where n bytes fit first: the place, and the space left
pub record Fit : Type 0 where
  pub place : ℕ
  pub left : List Space

abbrev pub keep_space : Space → Option Fit → Option Fit
keep_space s none = none
keep_space s (some f) = some (record { place = f.place; left = s ∷ f.left })

-- "Each record goes to the first clean file area, in descriptor order, with room, at the start of its free space"
unfoldable pub first_fit : ℕ → List Space → Option Fit
first_fit n [] = none
first_fit n (s ∷ ss) =
    cond (leb (s.from + n) s.end)
    (some (record { place = s.from; left = record { from = s.from + n; end = s.end } ∷ ss }))
    (keep_space s (first_fit n ss))

abbrev pub prepend : Store → Option (List Store) → Option (List Store)
prepend s none = none
prepend s (some l) = some (s ∷ l)

-- records placed one after the other: all or none
unfoldable pub place_all : List Space → List Bytes → Option (List Store)
place_all ss [] = some []
place_all ss (b ∷ bs) = bind (first_fit (length b) ss) (λ f. prepend (record { place = f.place; bytes = b }) (place_all f.left bs))

-- the image after these stores, one after the other
unfoldable pub store_all : Bytes → List Store → Bytes
store_all image [] = image
store_all image (s ∷ l) = store_all (put image s.place s.bytes) l

-- 15 where there is no place
abbrev pub no_place : Option (List Store) → Bool
no_place none = true
no_place (some l) = false

abbrev pub stored_or : Bytes → Option (List Store) → Bytes
stored_or image none = image
stored_or image (some l) = store_all image l

-- the ids that records name "as id, parent, owner or previous"
unfoldable pub named_by_inodes : List Bytes → List ℕ
named_by_inodes [] = []
named_by_inodes (b ∷ bs) = record_id b ∷ record_link b ∷ named_by_inodes bs

unfoldable pub named_by_blocks : List Bytes → List ℕ
named_by_blocks [] = []
named_by_blocks (b ∷ bs) = record_id b ∷ record_link b ∷ block_previous b ∷ named_by_blocks bs

unfoldable pub named_ids : Volume Bytes → List ℕ
named_ids v = named_by_inodes v.inodes ++ named_by_blocks v.blocks

unfoldable pub is_among : ℕ → List ℕ → Bool
is_among i l = not (all (λ j. not (eqb i j)) l)

-- the smallest number from i on that is not among l, sought over k numbers
unfoldable pub unused_from : ℕ → ℕ → List ℕ → ℕ
unused_from zero i l = i
unused_from (suc k) i l = cond (is_among i l) (unused_from k (suc i) l) i

-- "the smallest id of their range that no accepted record names": of more numbers than l has members, one is not among them
unfoldable pub unused_id : ℕ → List ℕ → ℕ
unused_id first l = unused_from (length l) first l
