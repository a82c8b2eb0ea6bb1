-- No record has a byte in the free space.
use Rattle.std.specs.Prelude.{ℕ, ◌+◌, ◌≤◌, ◌<◌, ◌≡◌, refl, Bool, cond, length, drop}
use Rattle.std.proofs.Common.{sym, ap, ◌∙◌, arith, length-take, length-drop}
use Rattle.std.proofs.Math.Bool.{true, false}
use mathlib.Core.List.{List, [], ◌∷◌, Memᴰ}
use Rattle.format.specs.Bytes.{Bytes}
use Rattle.format.specs.Record.{record_size}
use Rattle.format.specs.Reading.{area_free, area_clean}
use Rattle.format_laws.specs.Record.{record_inside}
use Rattle.format_laws.specs.Reading.{ends_before_free}
use Rattle.volume_laws.specs.Lists.{keep_mem}
use Rattle.calls.specs.Areas.{area_bytes, area_end, file_areas}
use Rattle.calls.specs.Mount.{bad_description}
use Rattle.calls.specs.Storing.{spaces}
use Rattle.calls.specs.declared.Descriptor.{Descriptor}
use Rattle.calls_laws.specs.Checks.{InArea, area_fits, areas_apart}
use Rattle.record_places.specs.Place.{size_at}
use Rattle.record_places.specs.Stays.{bytes_long}
use Rattle.area_pass.specs.Listing.{places_in}
use Rattle.area_pass.specs.Bridge.{PlacedIn, places_in_lem, record_bytes_lem, record_lies}
use Rattle.write_room.specs.Spaces.{Each, ClearOf}

module _ (image : Bytes) (ds : List Descriptor) (described : bad_description image ds ≡ false) where
  in_list : (d : Descriptor) → Memᴰ d (file_areas image ds) → Memᴰ d ds
  unfolding file_areas
  in_list d m = (keep_mem _ ds m).0

  area_long : (d : Descriptor) → Memᴰ d ds → length (area_bytes image d) ≡ d.length
  area_long d m =
      let f = area_fits image ds described d m in
      omega (arith, f.1, length-take d.length (drop d.offset image), length-drop d.offset image)

  module _ (p : ℕ) (t : PlacedIn image (file_areas image ds) p) where
    -- it ends where the free space of its area starts, or before
    ends : p + size_at image p ≤ t.area.offset + area_free record_size (area_bytes image t.area)
    ends =
        let a = in_list t.area t.among in
        let f = area_fits image ds described t.area a in
        let l = area_long t.area a in
        let s : size_at image p ≡ length t.there.bytes =
        sym (bytes_long image p (rw t.at (record_lies image t.area t.there t.taken)))
        ∙ rw t.at (ap length (record_bytes_lem image t.area t.there t.taken)) in
        let e = ends_before_free record_size record_inside (area_bytes image t.area) (omega (arith, f.0)) t.there t.taken in
        omega (arith, t.at)

    inside : (j : ℕ) → j < size_at image p → InArea t.area (p + j)
    unfolding area_free
    inside j h = (omega (arith, t.at), omega (arith, ends, area_long t.area (in_list t.area t.among)))

    -- so it has no byte in the free space of any
    clear : (d : Descriptor) → Memᴰ d (file_areas image ds)
        → ClearOf p (size_at image p) (record { from = d.offset + area_free record_size (area_bytes image d); end = area_end d })
    clear d m j h a b =
        let e : d ≡ t.area =
        areas_apart image ds described d t.area (in_list d m) (in_list t.area t.among) (p + j) (omega arith, b) (inside j h) in
        omega (arith, rw e at a, ends)

    pub clear_of : (fs : List Descriptor) → ((d : Descriptor) → Memᴰ d fs → Memᴰ d (file_areas image ds))
        → Each (ClearOf p (size_at image p)) (spaces image fs)
    unfolding spaces
    clear_of [] h = tt
    clear_of (d ∷ fs) h = go (area_clean record_size (area_bytes image d)) (clear_of fs (λ e m. h e (Memᴰ.tail m)))
      where
        go : (c : Bool) → Each (ClearOf p (size_at image p)) (spaces image fs)
            → Each (ClearOf p (size_at image p))
            (cond c (record { from = d.offset + area_free record_size (area_bytes image d); end = area_end d } ∷ spaces image fs) (spaces image fs))
        go true ih = (clear d (h d (Memᴰ.head refl)), ih)
        go false ih = ih

  pub records_clear : (p : ℕ) → Memᴰ p (places_in image (file_areas image ds)) → Each (ClearOf p (size_at image p)) (spaces image (file_areas image ds))
  records_clear p m = clear_of p (places_in_lem image (file_areas image ds) p m) (file_areas image ds) (λ d k. k)
