-- The scratch area's header: restored, and with another id when it takes the source's.
use Rattle.std.specs.Prelude.{ℕ, ◌≤◌, ◌≡◌, true, false, [], ◌∷◌, ◌++◌, length, eqb}
use Rattle.std.proofs.Common.{sym, ◌∙◌, append_assoc, arith, length-take-le, eqb→eq}
use Rattle.std.proofs.Math.Path.{ap}
use Rattle.std.proofs.Math.ListN.{take, get_or, length-append}
use Rattle.std.proofs.Math.Seq.{take-append_seam, get_or-append_seam}
use Rattle.format.specs.Bytes.{Bytes}
use Rattle.format.specs.AreaHeader.{area_header_size, area_id, collection_count, scratch_id, valid_header, is_file_area, is_scratch}
use Rattle.format.specs.Encoding.{area_header}
use Rattle.format_laws.specs.Crc.{Octets}
use Rattle.format_laws.specs.Header.{valid_same, valid_written}
use Rattle.volume_laws.specs.Tests.{true→T, T→true, and_T}

-- the header of an area with another id, its last byte
unfoldable pub header_with_id : Bytes → ℕ → Bytes
header_with_id area id = take 23 area ++ (id ∷ [])

module _ (area : Bytes) (id : ℕ) (long : area_header_size ≤ length area) where
  front : length (take 23 area) ≡ 23
  front = length-take-le 23 area (omega arith)

  pub renamed_size : length (header_with_id area id) ≡ area_header_size
  unfolding header_with_id
  renamed_size = omega (arith, length-append (take 23 area) (id ∷ []), front)

  module _ (rest : Bytes) where
    renamed_same : take 23 (header_with_id area id ++ rest) ≡ take 23 area
    unfolding header_with_id
    renamed_same =
        ap (take 23) (append_assoc (take 23 area) (id ∷ []) rest)
        ∙ ap (λ (k : ℕ). take k (take 23 area ++ ((id ∷ []) ++ rest))) (sym front)
        ∙ take-append_seam (take 23 area) ((id ∷ []) ++ rest)

    pub renamed_id : area_id (header_with_id area id ++ rest) ≡ id
    unfolding header_with_id
    renamed_id =
        ap area_id (append_assoc (take 23 area) (id ∷ []) rest)
        ∙ ap (λ (k : ℕ). get_or (take 23 area ++ (id ∷ rest)) k 0) (sym front)
        ∙ get_or-append_seam (take 23 area) id rest 0

    renamed_valid : (n : ℕ) → valid_header n (header_with_id area id ++ rest) ≡ valid_header n area
    renamed_valid n = valid_same n (header_with_id area id ++ rest) area renamed_same

    -- scratch with the id of a file area is a file area
    pub renamed_file : (n : ℕ) → is_scratch n area ≡ true → eqb id scratch_id ≡ false → is_file_area n (header_with_id area id ++ rest) ≡ true
    unfolding is_scratch is_file_area
    renamed_file n s e = rw (
      is_file_area,
      renamed_valid n,
      renamed_id,
      e,
      T→true {b = valid_header n area}
          (and_T (valid_header n area) (eqb (area_id area) scratch_id) (true→T s)).0,
    )

-- "its header restored": the header of a scratch area is the one that would be written anew (T-14)
pub restored_anew : (n : ℕ) (area : Bytes) → Octets area → area_header_size ≤ length area → is_scratch n area ≡ true
    → take area_header_size area ≡ area_header n (collection_count area) scratch_id
unfolding is_scratch
restored_anew n area o long s =
    let t = and_T (valid_header n area) (eqb (area_id area) scratch_id) (true→T s) in
    valid_written area o n long (T→true t.0) ∙ ap (area_header n (collection_count area)) (eqb→eq (area_id area) scratch_id t.1)
