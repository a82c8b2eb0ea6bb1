-- The names of a path one by one: what the code answers, in terms of the segments of base and path.
use Rattle.std.specs.Prelude.{ℕ, suc, ◌+◌, ◌-◌, ◌≤◌, ◌<◌, ◌≡◌, List, [], ◌∷◌, ◌++◌, Bool, true, false, cond, not, length, take, drop, eqb, ltb}
use Rattle.format.specs.Bytes.{Bytes}
use Rattle.format.specs.Record.{name_good}
use Rattle.volume.specs.Lists.{all}
use Rattle.volume.specs.Path.{SLASH, longest_name, longest_path, segments, good_segments, path_names}
use Rattle.path_names.specs.declared.Walk.{Walk}
use Rattle.path_names.specs.declared.Walk.TheVariants.{InBase, InPath}

-- ---- segments

abbrev pub no_nul : Bytes → Bool
no_nul s = all (λ b. not (eqb b 0)) s

-- how many bytes stand before the first slash: all, where there is none
unfoldable pub to_slash : Bytes → ℕ
to_slash [] = 0
to_slash (b ∷ l) = cond (eqb b SLASH) 0 (suc (to_slash l))

-- where the segment that starts at a place ends
unfoldable pub segment_end : Bytes → ℕ → ℕ
segment_end s from = from + to_slash (drop from s)

-- and its bytes
abbrev pub segment_at : Bytes → ℕ → Bytes
segment_at s from = take (segment_end s from - from) (drop from s)

-- r is that end, which is not before the place, and inside if the place is
pub record Ended (s : Bytes) (from r : ℕ) : Type 0 where
  pub end : r ≡ segment_end s from
  pub onward : from ≤ r
  pub within : from ≤ length s → r ≤ length s

-- ---- names still to come

-- in one slice, from a place on: none at its end, so that the root has none
unfoldable pub segments_from : Bytes → ℕ → List Bytes
segments_from s at = cond (ltb at (length s)) (segments (drop at s)) []

-- from a cursor on, "the base's first"
unfoldable pub names_from : Bytes → Bytes → Walk → List Bytes
names_from base path (InBase at) = segments_from base at ++ segments_from path 0
names_from base path (InPath at) = segments_from path at

unfoldable pub any_names : List Bytes → Bool
any_names [] = false
any_names (n ∷ ns) = true

unfoldable pub one_name : List Bytes → Bool
one_name [] = false
one_name (n ∷ []) = true
one_name (n ∷ m ∷ ns) = false

unfoldable pub first_name : List Bytes → Bytes
first_name [] = []
first_name (n ∷ ns) = n

unfoldable pub rest_names : List Bytes → List Bytes
rest_names [] = []
rest_names (n ∷ ns) = ns

-- ---- what a walk promises

-- the segments of s from a place on are good
pub record Good (s : Bytes) (at : ℕ) : Type 0 where
  pub short : length s ≤ longest_path
  pub good : good_segments (segments_from s at) ≡ true

-- a place in the base of a good path has the next name there, and those of the path behind it
pub record ReachedInBase (base path : Bytes) (at : ℕ) : Type 0 where
  pub inside : at < length base
  pub base_good : Good base at
  pub path_some : 0 < length path
  pub path_good : Good path 0

-- the cursors of a good path: while the base has a name left, the next name is there
abbrev pub Reached : Bytes → Bytes → Walk → Type 0
Reached base path (InBase at) = ReachedInBase base path at
Reached base path (InPath at) = Good path at

pub record Started (base path : Bytes) (w : Walk) : Type 0 where
  pub reached : Reached base path w
  pub names : names_from base path w ≡ path_names base path

-- the next name, which a record may bear
pub record Named (base path : Bytes) (w : Walk) (name : Bytes) : Type 0 where
  pub first : name ≡ first_name (names_from base path w)
  pub some : 1 ≤ length name
  pub short : length name ≤ longest_name
  pub clean : name_good name ≡ true

-- r is the cursor behind that name
pub record Stepped (base path : Bytes) (w r : Walk) : Type 0 where
  pub reached : Reached base path r
  pub rest : names_from base path r ≡ rest_names (names_from base path w)
