-- Paths and their names. Document 01, "Paths".
use Rattle.std.specs.Prelude.{ℕ, List, [], ◌∷◌, ◌++◌, Bool, false, cond, not, ◌&&◌, length, leb, eqb}
use Rattle.format.specs.Bytes.{Bytes}
use Rattle.volume.specs.Lists.{all}

abbrev pub SLASH : ℕ
SLASH = 0x2f

-- the segments of a path between its slashes, of which there is one more than slashes
unfoldable pub split_byte : ℕ → List Bytes → List Bytes
split_byte b [] = cond (eqb b SLASH) ([] ∷ [] ∷ []) ((b ∷ []) ∷ [])
split_byte b (p ∷ ps) = cond (eqb b SLASH) ([] ∷ p ∷ ps) ((b ∷ p) ∷ ps)

unfoldable pub segments : Bytes → List Bytes
segments [] = [] ∷ []
segments (b ∷ l) = split_byte b (segments l)

abbrev pub longest_name : ℕ
longest_name = 255

abbrev pub longest_path : ℕ
longest_path = 1024

-- "names of 1 to 255 bytes, .. no NUL"; a segment has no slash
unfoldable pub good_segment : Bytes → Bool
good_segment n = leb 1 (length n) && leb (length n) longest_name && all (λ b. not (eqb b 0)) n

-- "parted by single slashes, none at the end"
unfoldable pub good_segments : List Bytes → Bool
good_segments ns = all good_segment ns

unfoldable pub is_absolute : Bytes → Bool
is_absolute [] = false
is_absolute (b ∷ l) = eqb b SLASH

-- the names of an absolute path, which come after its leading slash; "'/' is the root"
unfoldable pub absolute_names : Bytes → List Bytes
absolute_names [] = []
absolute_names (b ∷ []) = []
absolute_names (b ∷ c ∷ l) = segments (c ∷ l)

unfoldable pub good_absolute : Bytes → Bool
good_absolute p = is_absolute p && leb (length p) longest_path && good_segments (absolute_names p)

unfoldable pub good_relative : Bytes → Bool
good_relative p = leb (length p) longest_path && good_segments (segments p)

-- "A path without a leading slash is taken below a base path .., which must then be a good absolute path; else the base isn't looked at"
unfoldable pub good_path : Bytes → Bytes → Bool
good_path base p = cond (is_absolute p) (good_absolute p) (good_absolute base && good_relative p)

-- the names of a path in order, the base's first
unfoldable pub path_names : Bytes → Bytes → List Bytes
path_names base p = cond (is_absolute p) (absolute_names p) (absolute_names base ++ segments p)
