-- Names in the image, and two of them compared byte by byte.
use Rattle.std.specs.Prelude.{ℕ, ◌+◌, ◌-◌, ◌≤◌, ◌<◌, ◌≡◌, refl, ◌&&◌, ◌||◌, List, [], ◌∷◌, length, take, drop, ltb}
use Rattle.std.proofs.Common.{arith, length-take, length-drop}
use Rattle.std.proofs.lemmas.Bool.Decides.{nat_tests}
use Rattle.format.specs.Bytes.{Bytes, byte_at}
use Rattle.volume.specs.Lists.{same}
use Rattle.volume.specs.Listing.{bytes_before}
use Rattle.volume_laws.specs.Lists.{mem_place}
use Rattle.volume_laws.specs.Sort.{Order, bytes_then_number}
use Rattle.record_places.specs.Place.{by_place, size_at, Lies}
use Rattle.record_places.specs.Laws.{size_inode, size_least}
use Rattle.table_rows.specs.Rows.{InodeTable}
use Rattle.std.specs.Ordering.{nat_cmp, is_lt, ordering_then}
use Rattle.std.specs.Cmp.Lexicographic.{slice_cmp}
use Rattle.inode_order.specs.Order.{place_before, InodeAt, Inodes}

-- ---- one name

name_long : (image : Bytes) (p : ℕ) → Lies image p → length ((by_place image).name p) ≡ size_at image p - 20
name_long image p h =
    omega (arith, length-take (size_at image p - 20) (drop (p + 20) image), length-drop (p + 20) image, size_least image p)

-- its size stands in the header
pub name_told : (image : Bytes) (p : ℕ) → InodeAt image p → byte_at image (p + 17) ≡ length ((by_place image).name p)
name_told image p h = omega (arith, name_long image p h.0, size_inode image p h.1)

pub name_inside : (image : Bytes) (p : ℕ) → Lies image p → p + 20 + length ((by_place image).name p) ≤ length image
name_inside image p h = omega (arith, name_long image p h, size_least image p)

-- the part of the image that is lent for it
pub name_lent : (image : Bytes) (p : ℕ) → Lies image p → (n : ℕ) → n ≡ length ((by_place image).name p)
    → take (p + 20 + n - (p + 20)) (drop (p + 20) image) ≡ (by_place image).name p
name_lent image p h n e =
    let z : p + 20 + n - (p + 20) ≡ size_at image p - 20 = omega (arith, name_long image p h) in
    rw z

-- ---- two names, and then two numbers, as the library compares them

names_less : (l m : Bytes) (x y : ℕ) → is_lt (ordering_then (slice_cmp nat_cmp l m) (nat_cmp x y)) ≡ (bytes_before l m || (same l m && ltb x y))
unfolding bytes_before same
names_less [] [] x y = grind (arith, nat_tests)
names_less [] (v ∷ m) x y = refl
names_less (u ∷ l) [] x y = refl
names_less (u ∷ l) (v ∷ m) x y = grind (arith, nat_tests, names_less l m x y)

-- ---- two inodes

pub place_less : (image : Bytes) (p q : ℕ) → is_lt (ordering_then (slice_cmp nat_cmp ((by_place image).name p) ((by_place image).name q))
    (nat_cmp ((by_place image).id p) ((by_place image).id q))) ≡ place_before image p q
unfolding place_before
place_less image p q = names_less ((by_place image).name p) ((by_place image).name q) ((by_place image).id p) ((by_place image).id q)

pub place_order : (image : Bytes) → Order (place_before image)
unfolding place_before
place_order image = bytes_then_number (by_place image).name (by_place image).id

-- the spots of a table of inodes
pub table_inodes : {image : Bytes} {ids spots : List ℕ} → InodeTable image ids spots → Inodes image spots
table_inodes {image} {spots = spots} t p m =
    let k = mem_place spots 0 m in
    let h : k.0 < length spots = k.1 in
    let e = t.usable.pairs in
    (rw k.2 at (t.usable.lie k.0 (omega arith)), rw k.2 at (t.kind k.0 (omega arith)))
