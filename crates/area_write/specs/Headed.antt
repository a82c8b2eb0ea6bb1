-- A header over an erased area.
use Rattle.std.specs.Prelude.{ℕ, ◌+◌, ◌≤◌, ◌≡◌, length}
use Rattle.std.proofs.Common.{◌∙◌, arith}
use Rattle.format.specs.Bytes.{Bytes}
use Rattle.format.specs.AreaHeader.{area_header_size}
use Rattle.format.specs.Encoding.{area_header}
use Rattle.format_laws.specs.Encoding.{header_size_lem}
use Rattle.calls.specs.Image.{put, erased}
use Rattle.calls.specs.Format.{empty_area}
use Rattle.image_laws.specs.Stores.{put_erased}

-- a header written over erased bytes
pub headed : (x : Bytes) (o n count id : ℕ) → o + n ≤ length x → area_header_size ≤ n
    → put (put x o (erased n)) o (area_header n count id) ≡ put x o (empty_area n count id)
unfolding empty_area
headed x o n count id h g =
    let k = header_size_lem n count id in
    put_erased x o n (area_header n count id) h (omega arith) ∙ rw k
