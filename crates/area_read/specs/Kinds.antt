-- What an area is by its header. Document 01, "Layouts": "Id 255 is scratch; any other is a file area. A descriptor without a valid header is passed over."
use Rattle.std.specs.Prelude.{ℕ, ◌≤◌, ◌≡◌, Bool, cond, eqb}
use Rattle.std.proofs.Math.Path.{refl}
use Rattle.std.proofs.Math.Bool.{true, false}
use Rattle.format.specs.Bytes.{Bytes}
use Rattle.format.specs.AreaHeader.{area_header_size, area_id, scratch_id, valid_header, is_file_area, is_scratch}
use Rattle.calls.specs.Areas.{area_bytes}
use Rattle.calls.specs.Collect.{count_of}
use Rattle.calls.specs.declared.Descriptor.{Descriptor}
use Rattle.area_list.specs.Described.{area_of}
use Rattle.area_read.specs.declared.AreaKind.{AreaKind}
use Rattle.area_read.specs.declared.AreaKind.TheVariants.{File, Scratch, Invalid}

abbrev pub file_test : Bytes → Descriptor → Bool
file_test image d = is_file_area d.length (area_bytes image d)

abbrev pub scratch_test : Bytes → Descriptor → Bool
scratch_test image d = is_scratch d.length (area_bytes image d)

unfoldable pub kind_of : Bytes → Descriptor → AreaKind
kind_of image d = cond (file_test image d) File (cond (scratch_test image d) Scratch Invalid)

-- whether a kind is that of file areas, and of scratch
abbrev pub is_file : AreaKind → Bool
is_file File = true
is_file Scratch = false
is_file Invalid = false

abbrev pub is_scratch_kind : AreaKind → Bool
is_scratch_kind File = false
is_scratch_kind Scratch = true
is_scratch_kind Invalid = false

-- ---- ids and counts

abbrev pub id_of : Bytes → Descriptor → ℕ
id_of image d = area_id (area_bytes image d)

-- r is the id of the area at o, whatever its length
pub record HasId (image : Bytes) (o r : ℕ) : Type 0 where
  pub is : (n : ℕ) → area_header_size ≤ n → r ≡ id_of image (area_of o n)

-- r is the collection count of the area at o, whatever its length
pub record HasCount (image : Bytes) (o r : ℕ) : Type 0 where
  pub is : (n : ℕ) → area_header_size ≤ n → r ≡ count_of image (area_of o n)

-- ---- the kind by the header

module _ (image : Bytes) (d : Descriptor) where
  abbrev valid : Bool
  valid = valid_header d.length (area_bytes image d)

  abbrev scratched : Bool
  scratched = eqb (id_of image d) scratch_id

  pub kind_invalid : valid ≡ false → Invalid ≡ kind_of image d
  unfolding kind_of is_file_area is_scratch
  kind_invalid e = rw e

  pub kind_scratch : valid ≡ true → scratched ≡ true → Scratch ≡ kind_of image d
  unfolding kind_of is_file_area is_scratch
  kind_scratch e f = rw (e, f)

  pub kind_file : valid ≡ true → scratched ≡ false → File ≡ kind_of image d
  unfolding kind_of is_file_area is_scratch
  kind_file e f = rw (e, f)

  -- and the tests by the kind
  pub kind_tests : (k : AreaKind) → kind_of image d ≡ k → (file_test image d ≡ is_file k) × (scratch_test image d ≡ is_scratch_kind k)
  unfolding is_file_area is_scratch
  kind_tests k q = go valid scratched refl refl
    where
      go : (b c : Bool) → valid ≡ b → scratched ≡ c → (file_test image d ≡ is_file k) × (scratch_test image d ≡ is_scratch_kind k)
      go true true e f = rw (← q, ← kind_scratch e f, e, f) (refl, refl)
      go true false e f = rw (← q, ← kind_file e f, e, f) (refl, refl)
      go false c e f = rw (← q, ← kind_invalid e, e) (refl, refl)
