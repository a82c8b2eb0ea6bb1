-- A record is stored in three parts: the header bytes before the check, the check, and the body.
use Rattle.std.specs.Prelude.{ℕ, ◌+◌, ◌≤◌, ◌≡◌, [], ◌++◌, length}
use Rattle.std.proofs.Common.{append_assoc, arith, length-append}
use Rattle.format.specs.Bytes.{Bytes, enc16}
use Rattle.format.specs.Crc.{check}
use Rattle.format.specs.Encoding.{sealed}
use Rattle.calls.specs.Image.{put}
use Rattle.image_laws.specs.Laws.{put_put}

pub sealed_parts : (x : Bytes) (at : ℕ) (front body : Bytes) (v : ℕ) → at + (length front + 2 + length body) ≤ length x
    → v ≡ check front body
    → put (put (put x at front) (at + length front) (enc16 v [])) (at + length front + 2) body ≡ put x at (sealed front body)
unfolding sealed
sealed_parts x at front body v room e =
    let field = enc16 v [] in
    let l : length (front ++ field) ≡ length front + 2 = length-append front field in
    let end : at + length front + 2 ≡ at + length (front ++ field) = omega arith in
    rw (put_put x at front field (omega arith), end, put_put x at (front ++ field) body (omega arith), append_assoc, e)
