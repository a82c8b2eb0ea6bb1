-- Copies written back to back read as the copies in a clean area.
use Rattle.std.specs.Prelude.{ℕ, ◌+◌, ◌≡◌, refl, true}
use Rattle.std.proofs.Math.Path.{sym, ap}
use Rattle.std.proofs.Common.{◌∙◌}
use mathlib.Core.List.{List, [], ◌∷◌, ◌++◌, append_assoc, Memᴰ}
use Rattle.std.proofs.Math.ListN.{length, take, drop, replicate}
use Rattle.std.proofs.Math.Seq.{drop-drop, take-append_seam, drop-append_seam}
use Rattle.format.specs.Bytes.{Bytes}
use Rattle.format.specs.AreaHeader.{area_header_size}
use Rattle.format.specs.Reading.{Acceptor, ERASED, area_records, area_clean}
use Rattle.format_laws.specs.Reading.{Lawful}
use Rattle.format_laws.specs.Taken.{records_from, records_from_lem, from_take}
use Rattle.format_laws.specs.Clean.{Clean, free, next, erased_records, clean_area}
use Rattle.calls.specs.Mount.{bytes_of}
use Rattle.image_laws.specs.Stores.{joined_bytes}
use Rattle.demand2.specs.Area.{Whole, followed}

module _ (size : Acceptor) (ok : Lawful size) where
  -- records one after the other, and then erased bytes
  reads_from : (cs : List Bytes) → ((c : Bytes) → Memᴰ c cs → Whole size c) → (area : Bytes) (q n : ℕ)
      → drop q area ≡ joined_bytes cs ++ replicate n ERASED
      → (bytes_of (records_from size area q) ≡ cs) × Clean size (drop q area)
  unfolding joined_bytes
  reads_from [] h area q n e = (rw e (ap bytes_of (erased_records size ok q n)), free n e)
  reads_from (c ∷ cs) h area q n e =
      let a = h c (Memᴰ.head refl) in
      let rest = joined_bytes cs ++ replicate n ERASED in
      let f : drop q area ≡ c ++ rest = e ∙ append_assoc c (joined_bytes cs) (replicate n ERASED) in
      let l : size (drop q area) ≡ length c = ap size f ∙ followed size ok c a rest in
      let d : drop (q + length c) area ≡ rest = sym (drop-drop (length c) q area) ∙ ap (drop (length c)) f ∙ drop-append_seam c rest in
      let t : take (length c) (drop q area) ≡ c = ap (take (length c)) f ∙ take-append_seam c rest in
      let ih = reads_from cs (λ x m. h x (Memᴰ.tail m)) area (q + length c) n d in (
        ap bytes_of (from_take size ok area q (length c) l a.some_bytes) ∙ (λ i. t i ∷ ih.0 i),
        next {t = drop q area} (rw l a.some_bytes) (rw (l, drop-drop (length c) q area) ih.1),
      )

  pub reads_back : (cs : List Bytes) → ((c : Bytes) → Memᴰ c cs → Whole size c) → (area : Bytes) (n : ℕ)
      → drop area_header_size area ≡ joined_bytes cs ++ replicate n ERASED → (bytes_of (area_records size area) ≡ cs) × (area_clean size area ≡ true)
  reads_back cs h area n e =
      let r = reads_from cs h area area_header_size n e in
      (ap bytes_of (records_from_lem size area) ∙ r.0, clean_area size ok area r.1)
