-- An area erased whole, with the header that it had; and what makes scratch ready.
use Rattle.std.specs.Prelude.{ℕ, ◌+◌, ◌≤◌, ◌≡◌, true, false, length, take, drop}
use Rattle.std.proofs.Math.Path.{sym}
use Rattle.std.proofs.Common.{◌∙◌, take-take}
use Rattle.format.specs.Bytes.{Bytes}
use Rattle.format.specs.AreaHeader.{area_header_size}
use Rattle.calls.specs.Image.{put, part, erased}
use Rattle.calls.specs.Areas.{area_bytes}
use Rattle.calls.specs.Storing.{store_all}
use Rattle.calls.specs.Collect.{is_blank, reset_stores, ready_stores}
use Rattle.area_list.specs.Described.{area_of}

module _ (x : Bytes) (o n : ℕ) (inside : o + n ≤ length x) (header : area_header_size ≤ n) where
  abbrev own : Bytes
  own = take area_header_size (area_bytes x (area_of o n))

  -- the header copied out, the area erased, the header stored
  pub reset_done : (h y z : Bytes) → h ≡ part x o area_header_size → y ≡ put x o (erased n) → z ≡ put y o h
      → z ≡ store_all x (reset_stores (area_of o n) own)
  unfolding store_all reset_stores
  reset_done h y z e f g =
      let q : h ≡ own = e ∙ sym (take-take area_header_size n (drop o x) header) in
      rw (← q, ← f) g

  -- done only where it is needed
  pub ready_blank : is_blank (area_bytes x (area_of o n)) ≡ true → x ≡ store_all x (ready_stores x (area_of o n))
  unfolding store_all ready_stores
  ready_blank e = rw e

  pub ready_reset : is_blank (area_bytes x (area_of o n)) ≡ false → (z : Bytes) → z ≡ store_all x (reset_stores (area_of o n) own)
      → z ≡ store_all x (ready_stores x (area_of o n))
  unfolding ready_stores
  ready_reset e z f = rw e f
