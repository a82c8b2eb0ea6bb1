-- The records of an image's file areas, by membership: each is acceptable, so that the volume they make is sound.
use Rattle.std.specs.Prelude.{◌≤◌, ◌<◌, ◌≡◌, refl, length, take, drop}
use Rattle.std.proofs.Common.{sym, ap, ◌∙◌, inl, inr, ⊎_elim, arith, length-take, length-drop, length-take-le, take-take}
use mathlib.Core.List.{List, [], ◌∷◌, Memᴰ}
use Rattle.format.specs.Bytes.{Bytes}
use Rattle.format.specs.AreaHeader.{area_header_size}
use Rattle.format.specs.Record.{inode, block, record_size}
use Rattle.format.specs.Reading.{Placed, area_records}
use Rattle.format_laws.specs.Record.{kind_formed, Stands, an_inode, a_block, nothing, stands}
use Rattle.format_laws.specs.Reading.{records_lawful}
use Rattle.format_laws.specs.Taken.{records_from_lem, from_each}
use Rattle.volume.specs.View.{by_bytes}
use Rattle.volume.specs.Counting.{volume_of}
use Rattle.volume_laws.specs.Tests.{true→T}
use Rattle.volume_laws.specs.Sound.{Sound, Acceptable, sound}
use Rattle.calls.specs.Areas.{area_bytes, file_areas}
use Rattle.calls.specs.Mount.{bytes_of, records_of, records_in, accepted_records, volume}
use Rattle.calls.specs.declared.Descriptor.{Descriptor}

-- a record of an image, by its bytes: the area where it is taken, and the record there
pub record Stored (image : Bytes) (fs : List Descriptor) (b : Bytes) : Type 0 where
  pub area : Descriptor
  pub listed : Memᴰ area fs
  pub one : Placed
  pub taken_there : Memᴰ one (records_of image area)
  pub bytes_are : one.bytes ≡ b

pub stored : (image : Bytes) (fs : List Descriptor) (b : Bytes) → Memᴰ b (records_in image fs) → Stored image fs b
unfolding records_in
stored image [] b m = absurd (mathlib.Core.List.Memᴰ.not-nil m)
stored image (d ∷ fs) b m = ⊎_elim here (λ n. there (stored image fs b n)) (mathlib.Core.List.Memᴰ.append_cases (bytes_of (records_of image d)) m)
  where
    here : Memᴰ b (bytes_of (records_of image d)) → Stored image (d ∷ fs) b
    here n =
        let r = mathlib.Core.List.Memᴰ.of_map (λ (p : Placed). p.bytes) (records_of image d) n in
        record { area = d; listed = mathlib.Core.List.Memᴰ.head refl; one = r.0; taken_there = r.1; bytes_are = r.2 }

    there : Stored image fs b → Stored image (d ∷ fs) b
    there s = record { area = s.area; listed = mathlib.Core.List.Memᴰ.tail s.listed; one = s.one; taken_there = s.taken_there; bytes_are = s.bytes_are }

pub stored_mem : (image : Bytes) (fs : List Descriptor) (b : Bytes) → Stored image fs b → Memᴰ b (records_in image fs)
unfolding records_in
stored_mem image fs b s = go fs s.listed
  where
    go : (l : List Descriptor) → Memᴰ s.area l → Memᴰ b (records_in image l)
    go [] m = elim m [ ]
    go (d ∷ l) (mathlib.Core.List.Memᴰ.head e) =
        let m : Memᴰ s.one (records_of image d) = rw e at s.taken_there in
        mathlib.Core.List.Memᴰ.append_left (records_in image l) (mathlib.Core.List.Memᴰ.cast (sym s.bytes_are) (mathlib.Core.List.Memᴰ.map (λ (p : Placed). p.bytes) m))
    go (d ∷ l) (mathlib.Core.List.Memᴰ.tail m) = mathlib.Core.List.Memᴰ.append_right (bytes_of (records_of image d)) (go l m)

-- ---- a record that is taken is whole

front_whole : (t : Bytes) → 0 < record_size t
    → (0 < length (take (record_size t) t)) × (record_size (take (record_size t) t) ≡ length (take (record_size t) t))
front_whole t h =
    let l = length-take-le (record_size t) t (records_lawful.inside t) in
    (omega arith, records_lawful.local t (take (record_size t) t) h (take-take (record_size t) (record_size t) t (omega arith)) ∙ sym l)

-- in an area
pub taken_whole : (area b : Bytes) → Memᴰ b (bytes_of (area_records record_size area)) → (0 < length b) × (record_size b ≡ length b)
taken_whole area b m =
    let r = mathlib.Core.List.Memᴰ.of_map (λ (p : Placed). p.bytes) (area_records record_size area) m in
    rw (← r.2) (at r.0 r.1)
  where
    at : (p : Placed) → Memᴰ p (area_records record_size area) → (0 < length p.bytes) × (record_size p.bytes ≡ length p.bytes)
    at p k =
        let t = from_each record_size records_lawful area area_header_size p (rw (records_from_lem record_size area) at k) in
        rw t.is (front_whole (drop p.place area) t.accepted)

-- in areas
pub records_whole : (image : Bytes) (fs : List Descriptor) (b : Bytes) → Memᴰ b (records_in image fs) → (0 < length b) × (record_size b ≡ length b)
records_whole image fs b m =
    let s = stored image fs b m in
    taken_whole (area_bytes image s.area) b (mathlib.Core.List.Memᴰ.cast (sym s.bytes_are) (mathlib.Core.List.Memᴰ.map (λ (p : Placed). p.bytes) s.taken_there))

-- ---- and acceptable

-- the bytes at which a record is taken are acceptable
front_acceptable : (t : Bytes) → 0 < record_size t → Acceptable (take (record_size t) t)
front_acceptable t h = go (stands t)
  where
    go : Stands t → Acceptable (take (record_size t) t)
    go (an_inode a e) = inl (rw e (true→T (kind_formed inode t a)))
    go (a_block a e) = inr (rw e (true→T (kind_formed block t a)))
    go (nothing e) = absurd (omega arith)

-- every record that areas read as is acceptable
pub records_accepted : (image : Bytes) (fs : List Descriptor) (b : Bytes) → Memᴰ b (records_in image fs) → Acceptable b
records_accepted image fs b m =
    let s = stored image fs b m in
    let k = rw (records_from_lem record_size (area_bytes image s.area)) at s.taken_there in
    let t = from_each record_size records_lawful (area_bytes image s.area) area_header_size s.one k in
    rw (← s.bytes_are, t.is) (front_acceptable (drop s.one.place (area_bytes image s.area)) t.accepted)

-- and no longer than the image
pub records_short : (image : Bytes) (fs : List Descriptor) (b : Bytes) → Memᴰ b (records_in image fs) → length b ≤ length image
records_short image fs b m =
    let s = stored image fs b m in
    let k = rw (records_from_lem record_size (area_bytes image s.area)) at s.taken_there in
    let t = from_each record_size records_lawful (area_bytes image s.area) area_header_size s.one k in
    let rest = drop s.one.place (area_bytes image s.area) in
    omega (
      arith,
      ap length s.bytes_are,
      ap length t.is,
      length-take (record_size rest) rest,
      length-drop s.one.place (area_bytes image s.area),
      length-take s.area.length (drop s.area.offset image),
      length-drop s.area.offset image,
    )

pub records_sound : (image : Bytes) (fs : List Descriptor) → Sound by_bytes (volume_of by_bytes (records_in image fs))
records_sound image fs = sound (records_in image fs) (records_accepted image fs)

pub volume_sound : (image : Bytes) (ds : List Descriptor) → Sound by_bytes (volume image ds)
unfolding volume accepted_records
volume_sound image ds = records_sound image (file_areas image ds)
