-- The areas of a format, written one after the other.
use Rattle.std.specs.Prelude.{ℕ, max, ◌+◌, ◌*◌, ◌-◌, ◌≤◌, ◌<◌, ◌≡◌, Bool, cond, List, [], ◌∷◌, ◌++◌, length, get_or, drop, eqb}
use Rattle.std.proofs.Math.Path.{refl}
use Rattle.std.proofs.Common.{◌∙◌}
use Rattle.std.proofs.Math.Bool.{true, false}
use Rattle.std.proofs.lemmas.Bool.{false≢true}
use native.Mathlib.Omega.{arith}
use Rattle.std.proofs.Math.Numerals.{add-one}
use Rattle.std.proofs.Math.Nat.{zero-max, max-zero}
use Rattle.std.proofs.Math.ListN.{length-append, length-replicate}
use Rattle.format.specs.Bytes.{Bytes}
use Rattle.format.specs.Reading.{ERASED}
use Rattle.format.specs.AreaHeader.{area_header_size, scratch_id}
use Rattle.format.specs.Encoding.{area_header}
use Rattle.format_laws.specs.Encoding.{header_size_lem}
use Rattle.volume.specs.Lists.{all}
use Rattle.calls.specs.Areas.{most_areas, largest_image, good_area}
use Rattle.area_list.specs.Numbers.{paired}
use Rattle.calls.specs.Image.{put, erased}
use Rattle.calls.specs.Format.{empty_area, longest_length, Labelled, numbered, labelled, blanked, rooted, root_bytes}
use Rattle.calls.specs.declared.Descriptor.{Descriptor}
use Rattle.image_laws.specs.Laws.{length_put}
use Rattle.area_list.specs.Described.{area_of}
use Rattle.area_list.specs.Listing.{pair_step, pair_holds, paired_end}
use Rattle.area_list.specs.Good.{AreaFits, fits}

-- good areas as pairs, few enough for one byte of id each, and their image
pub record Lent (image : Bytes) (pairs : List ℕ) : Type 0 where
  pub small : length image ≤ largest_image
  pub few : length pairs ≤ most_areas * 2
  pub good : all (good_area (length image)) (paired pairs) ≡ true

-- an image of the same length
pub lent_kept : {x y : Bytes} {pairs : List ℕ} → length y ≡ length x → Lent x pairs → Lent y pairs
lent_kept e l = record { small = rw e l.small; few = l.few; good = rw e l.good }

-- the area i of the list
pub lent_fits : {x : Bytes} {pairs : List ℕ} → Lent x pairs → (i : ℕ) → i * 2 + 1 < length pairs
    → AreaFits (length x) (area_of (get_or pairs (i * 2) 0) (get_or pairs (i * 2 + 1) 0))
lent_fits {x} {pairs} l i h = fits (length x) _ (pair_holds (good_area (length x)) pairs i l.good h)

-- ---- the longest

-- the longest of the first i areas, and of those that are left
pub record Growing (pairs : List ℕ) (most i : ℕ) : Type 0 where
  pub whole : max most (longest_length (paired (drop (i * 2) pairs))) ≡ longest_length (paired pairs)

module _ (pairs : List ℕ) where
  pub growing_begins : Growing pairs 0 0
  growing_begins = record { whole = zero-max (longest_length (paired pairs)) }

  module _ (most i : ℕ) (g : Growing pairs most i) where
    pub growing_on : i * 2 + 1 < length pairs → Growing pairs (max most (get_or pairs (i * 2 + 1) 0)) (i + 1)
    unfolding longest_length
    growing_on h =
        let n = get_or pairs (i * 2 + 1) 0 in
        let l = longest_length (paired (drop ((i + 1) * 2) pairs)) in
        let e : max (max most n) l ≡ max most (max n l) = omega arith in
        record { whole = e ∙ (rw (pair_step pairs i h) at g.whole) }

    pub growing_ends : length pairs ≤ i * 2 + 1 → most ≡ longest_length (paired pairs)
    unfolding longest_length
    growing_ends h = rw (paired_end pairs (i * 2) h, max-zero) at g.whole

-- ---- all areas

abbrev pub scratch_here : Bool → ℕ → ℕ → Bool
scratch_here true n most = false
scratch_here false n most = eqb n most

-- the id of the next file area, at the place i
abbrev pub next_file : Bool → ℕ → ℕ
next_file true i = i - 1
next_file false i = i

-- the labels of the areas that are left, when scratch has its place or not
unfoldable pub labels : Bool → ℕ → ℕ → List Descriptor → List Labelled
labels true most n ds = numbered n ds
labels false most n ds = labelled most n ds

-- the image x is what the format makes of x₀ in so many areas
pub record Writing (x₀ : Bytes) (pairs : List ℕ) (most : ℕ) (x : Bytes) (placed : Bool) (i : ℕ) : Type 0 where
  pub behind : placed ≡ true → 0 < i
  pub long : length x ≡ length x₀
  pub left : blanked x (labels placed most (next_file placed i) (paired (drop (i * 2) pairs))) ≡ blanked x₀ (labelled most 0 (paired pairs))

module _ (x₀ : Bytes) (pairs : List ℕ) (most : ℕ) where
  pub writing_begins : Writing x₀ pairs most x₀ false 0
  unfolding labels
  writing_begins = record { behind = λ e. absurd (false≢true e); long = refl; left = refl }

  module _ (x : Bytes) (placed : Bool) (i : ℕ) (w : Writing x₀ pairs most x placed i) (l : Lent x₀ pairs) where
    abbrev o : ℕ
    o = get_or pairs (i * 2) 0

    abbrev n : ℕ
    n = get_or pairs (i * 2 + 1) 0

    -- the area of a turn
    writing_fits : i * 2 + 1 < length pairs → AreaFits (length x) (area_of o n)
    writing_fits h = rw w.long (lent_fits l i h)

    pub writing_room : i * 2 + 1 < length pairs → (o + n ≤ length x) × (area_header_size ≤ n) × (length x ≤ largest_image)
    writing_room h =
        let f = writing_fits h in
        let a = f.long in
        let b = f.inside in
        let c = l.small in
        let d = w.long in
        (b, omega arith, omega arith)

    step : (id : ℕ) → i * 2 + 1 < length pairs → length (put x o (empty_area n 0 id)) ≡ length x₀
    unfolding empty_area
    step id h =
        let f = writing_fits h in
        let a = f.inside in
        let b = f.long in
        let k = length-append (area_header n 0 id) (erased (n - area_header_size)) in
        let e = length-replicate (n - area_header_size) ERASED in
        length_put x o (area_header n 0 id ++ erased (n - area_header_size)) (omega (arith, header_size_lem n 0 id)) ∙ w.long

    abbrev rest : List Descriptor
    rest = paired (drop ((i + 1) * 2) pairs)

    -- one area more
    ahead : {id : ℕ} {later : List Labelled} → i * 2 + 1 < length pairs
        → labels placed most (next_file placed i) (area_of o n ∷ rest) ≡ record { area = area_of o n; id = id } ∷ later
        → blanked (put x o (empty_area n 0 id)) later ≡ blanked x₀ (labelled most 0 (paired pairs))
    unfolding blanked
    ahead h e = rw (pair_step pairs i h, e) at w.left

    pub writing_scratch : i * 2 + 1 < length pairs → scratch_here placed n most ≡ true → Writing x₀ pairs most (put x o (empty_area n 0 scratch_id)) true (i + 1)
    unfolding labels labelled numbered
    writing_scratch h e = record { behind = λ _. omega arith; long = step scratch_id h; left = ahead h (go placed e) }
      where
        go : (p : Bool) → scratch_here p n most ≡ true
            → labels p most (next_file p i) (area_of o n ∷ rest) ≡ record { area = area_of o n; id = scratch_id } ∷ labels true most (next_file true (i + 1)) rest
        go true c = absurd (false≢true c)
        go false c = let z : i + 1 - 1 ≡ i = omega arith in rw (c, z)

    pub writing_file : i * 2 + 1 < length pairs → scratch_here placed n most ≡ false → Writing x₀ pairs most (put x o (empty_area n 0 (next_file placed i))) placed (i + 1)
    unfolding labels labelled numbered
    writing_file h e = record { behind = λ _. omega arith; long = step (next_file placed i) h; left = ahead h (go placed w.behind e) }
      where
        go : (p : Bool) → (p ≡ true → 0 < i) → scratch_here p n most ≡ false
            → labels p most (next_file p i) (area_of o n ∷ rest) ≡ record { area = area_of o n; id = next_file p i } ∷ labels p most (next_file p (i + 1)) rest
        go true b c = let z : i + 1 - 1 ≡ i - 1 + 1 = let g = b refl in omega arith in rw (z, add-one (i - 1))
        go false b c = rw (c, add-one i)

    pub writing_ends : length pairs ≤ i * 2 + 1 → x ≡ blanked x₀ (labelled most 0 (paired pairs))
    unfolding blanked labelled numbered labels
    writing_ends h = go placed (rw (paired_end pairs (i * 2) h) at w.left)
      where
        go : (p : Bool) → blanked x (labels p most (next_file p i) []) ≡ blanked x₀ (labelled most 0 (paired pairs)) → x ≡ blanked x₀ (labelled most 0 (paired pairs))
        go true e = e
        go false e = e

-- ---- the root

abbrev pub first_file : ℕ → ℕ → ℕ
first_file n most = cond (eqb n most) 1 0

pub first_small : (n most : ℕ) → first_file n most ≤ 1
first_small n most = go (eqb n most)
  where
    go : (t : Bool) → cond t 1 0 ≤ 1
    go true = omega arith
    go false = omega arith

pub root_put : (x : Bytes) (pairs : List ℕ) (most : ℕ) → 4 ≤ length pairs
    → put x (get_or pairs (first_file (get_or pairs 1 0) most * 2) 0 + area_header_size) root_bytes ≡ rooted x (labelled most 0 (paired pairs))
unfolding rooted labelled numbered paired
root_put x [] most h = absurd (omega arith)
root_put x (o ∷ []) most h = absurd (omega arith)
root_put x (o ∷ n ∷ []) most h = absurd (omega arith)
root_put x (o ∷ n ∷ p ∷ []) most h = absurd (omega arith)
root_put x (o ∷ n ∷ p ∷ m ∷ l) most h = go (eqb n most)
  where
    go : (t : Bool) → put x (get_or (o ∷ n ∷ p ∷ m ∷ l) (cond t 1 0 * 2) 0 + area_header_size) root_bytes
        ≡ rooted x
        (cond t (record { area = area_of o n; id = scratch_id } ∷ numbered 0 (paired (p ∷ m ∷ l)))
        (record { area = area_of o n; id = 0 } ∷ labelled most 1 (paired (p ∷ m ∷ l))))
    go true = refl
    go false = refl
