-- The order of inodes held by their places, and what the code's answers say.
use Rattle.std.specs.Prelude.{ℕ, ◌≡◌, Bool, false, ◌&&◌, ◌||◌, take, drop, ltb}
use mathlib.Core.List.{List, ◌∷◌, ◌++◌, Memᴰ}
use Rattle.format.specs.Bytes.{Bytes}
use Rattle.volume.specs.Lists.{same}
use Rattle.volume.specs.Listing.{bytes_before}
use Rattle.record_places.specs.Place.{by_place, block_at, Lies}

-- "in order of name bytes, then id", of the inodes at p and q
unfoldable pub place_before : Bytes → ℕ → ℕ → Bool
place_before image p q =
    bytes_before ((by_place image).name p) ((by_place image).name q)
    || (same ((by_place image).name p) ((by_place image).name q) && ltb ((by_place image).id p) ((by_place image).id q))

-- Safety: a whole inode stands at p, and at each of some places
abbrev pub InodeAt : Bytes → ℕ → Type 0
InodeAt image p = Lies image p × (block_at image p ≡ false)

abbrev pub Inodes : Bytes → List ℕ → Type 0
Inodes image ps = (p : ℕ) → Memᴰ p ps → InodeAt image p

-- a member put at place k
abbrev pub inserted : ℕ → ℕ → List ℕ → List ℕ
inserted k a l = take k l ++ (a ∷ drop k l)
