-- The records at the places listed are the records that the areas read as.
use Rattle.std.specs.Prelude.{ℕ, ◌+◌, ◌-◌, ◌≡◌, refl, take, drop}
use Rattle.std.proofs.Common.{sym, ap, ap₂, ◌∙◌, ⊎_elim, drop-drop}
use mathlib.Core.List.Memᴰ
use mathlib.Core.List.{List, [], ◌∷◌, ◌++◌, map, Memᴰ}
use Rattle.format.specs.Bytes.{Bytes}
use Rattle.format.specs.Record.{record_size}
use Rattle.format.specs.AreaHeader.{area_header_size}
use Rattle.format.specs.Reading.{Placed}
use Rattle.format_laws.specs.Bytes.{drop_take}
use Rattle.format_laws.specs.Reading.{records_lawful}
use Rattle.format_laws.specs.Taken.{Taken, records_from_lem, from_each}
use Rattle.volume.specs.View.{by_bytes}
use Rattle.volume.specs.Counting.{Volume, volume_of}
use Rattle.volume_laws.specs.Lists.{map_append}
use Rattle.volume_laws.specs.Map.{over_volume, volume_of_map}
use Rattle.record_places.specs.Place.{bytes_at, by_place, Lies}
use Rattle.record_places.specs.Laws.{place_views, bytes_taken, lies_taken}
use Rattle.calls.specs.Areas.{area_bytes, file_areas}
use Rattle.calls.specs.Mount.{records_of, bytes_of, records_in, accepted_records, volume}
use Rattle.calls.specs.declared.Descriptor.{Descriptor}
use Rattle.area_pass.specs.Listing.{record_places, places_in}

-- a record that an area reads as, seen from the image
module _ (image : Bytes) (d : Descriptor) (r : Placed) (m : Memᴰ r (records_of image d)) where
  taken_there : Taken record_size (area_bytes image d) area_header_size r
  taken_there = from_each record_size records_lawful (area_bytes image d) area_header_size r (rw (records_from_lem record_size (area_bytes image d)) at m)

  rest_there : drop r.place (area_bytes image d) ≡ take (d.length - r.place) (drop (d.offset + r.place) image)
  rest_there = drop_take r.place d.length (drop d.offset image) ∙ rw (drop-drop r.place d.offset image)

  pub record_bytes_lem : bytes_at image (d.offset + r.place) ≡ r.bytes
  record_bytes_lem =
      let t = taken_there in
      bytes_taken image (d.offset + r.place) (d.length - r.place) (rw rest_there at t.accepted) ∙ sym (rw rest_there at t.is)

  pub record_lies : Lies image (d.offset + r.place)
  record_lies = lies_taken image (d.offset + r.place) (d.length - r.place) (rw rest_there at taken_there.accepted)

record_places_bytes : (image : Bytes) (d : Descriptor) (l : List Placed) → ((r : Placed) → Memᴰ r l → bytes_at image (d.offset + r.place) ≡ r.bytes)
    → map (bytes_at image) (record_places d.offset l) ≡ bytes_of l
unfolding record_places
record_places_bytes image d [] h = refl
record_places_bytes image d (r ∷ l) h =
    ap₂ (λ (b : Bytes) (bs : List Bytes). b ∷ bs) (h r (Memᴰ.head refl)) (record_places_bytes image d l (λ s n. h s (Memᴰ.tail n)))

pub places_bytes : (image : Bytes) (fs : List Descriptor) → map (bytes_at image) (places_in image fs) ≡ records_in image fs
unfolding places_in records_in
places_bytes image [] = refl
places_bytes image (d ∷ fs) =
    map_append (bytes_at image) (record_places d.offset (records_of image d)) (places_in image fs)
    ∙ ap₂ (λ (x y : List Bytes). x ++ y) (record_places_bytes image d (records_of image d) (record_bytes_lem image d)) (places_bytes image fs)

-- what stands at each place listed lies in the image
pub record_places_each : (base p : ℕ) (l : List Placed) → Memᴰ p (record_places base l) → (r : Placed) × Memᴰ r l × (p ≡ base + r.place)
unfolding record_places
record_places_each base p [] m = absurd (Memᴰ.not-nil m)
record_places_each base p (r ∷ l) m =
    ⊎_elim (λ e. (r, Memᴰ.head refl, e)) (λ n. let t = record_places_each base p l n in (t.0, Memᴰ.tail t.1, t.2)) (Memᴰ.cases_cons m)

-- a place that is listed is that of a record of one of the areas
pub record PlacedIn (image : Bytes) (fs : List Descriptor) (p : ℕ) : Type 0 where
  pub area : Descriptor
  pub among : Memᴰ area fs
  pub there : Placed
  pub taken : Memᴰ there (records_of image area)
  pub at : p ≡ area.offset + there.place

pub places_in_lem : (image : Bytes) (fs : List Descriptor) (p : ℕ) → Memᴰ p (places_in image fs) → PlacedIn image fs p
unfolding places_in
places_in_lem image [] p m = absurd (Memᴰ.not-nil m)
places_in_lem image (d ∷ fs) p m =
    ⊎_elim
    (λ n. let t = record_places_each d.offset p (records_of image d) n in
    record { area = d; among = Memᴰ.head refl; there = t.0; taken = t.1; at = t.2 })
    (λ n. let t = places_in_lem image fs p n in
    record { area = t.area; among = Memᴰ.tail t.among; there = t.there; taken = t.taken; at = t.at })
    (Memᴰ.append_cases (record_places d.offset (records_of image d)) m)

pub places_lie : (image : Bytes) (fs : List Descriptor) (p : ℕ) → Memᴰ p (places_in image fs) → Lies image p
places_lie image fs p m =
    let t = places_in_lem image fs p m in
    rw t.at (record_lies image t.area t.there t.taken)

-- the volume, of its records held by place
abbrev pub placed_volume : Bytes → List Descriptor → Volume ℕ
placed_volume image ds = volume_of (by_place image) (places_in image (file_areas image ds))

pub volume_places : (image : Bytes) (ds : List Descriptor) → volume image ds ≡ over_volume (bytes_at image) (placed_volume image ds)
unfolding volume accepted_records
volume_places image ds =
    ap (volume_of by_bytes) (sym (places_bytes image (file_areas image ds)))
    ∙ volume_of_map (by_place image) by_bytes (bytes_at image) (place_views image) (places_in image (file_areas image ds))
