-- The register after a slice, taken in chunks of two bytes and of four.
use Rattle.std.proofs.Common.{◌≡◌, ℕ, zero, suc, ◌+◌, ◌*◌, ◌/◌, ◌<◌, List, [], length, get_or, drop, ◌∙◌, ap, arith, add-zero}
use Rattle.std.proofs.lemmas.List.{get_or-take, get_or-drop}
use Rattle.std.specs.Simd.{first_chunks}
use Rattle.format.specs.Bytes.{Bytes, byte_at}
use Rattle.format.specs.Crc.{crc_byte, crc_over}
use Rattle.crc_laws.specs.Bytes.{two_steps, four_steps}

-- byte j of chunk i stands at n * i + j
chunk_byte : (n k i j : ℕ) (s : Bytes) → i < k → j < n → get_or (get_or (first_chunks n k s) i []) j 0 ≡ byte_at s (n * i + j)
chunk_byte n zero i j s h l = absurd (omega arith)
chunk_byte n (suc k) zero j s h l = get_or-take n s j 0 l ∙ ap (byte_at s) (omega arith)
chunk_byte n (suc k) (suc i) j s h l =
    chunk_byte n k i j (drop n s) (omega arith) l ∙ get_or-drop n s (n * i + j) 0 ∙ ap (byte_at s) (omega arith)

-- a turn of a loop over the chunks, which takes chunk i
pub two_chunk : (r : ℕ) (s : Bytes) (chunks : List Bytes) (i : ℕ) → chunks ≡ first_chunks 2 (length s / 2) s → i < length chunks
    → length chunks ≡ length s / 2
    → crc_over r (drop (2 * i) s)
    ≡ crc_over (crc_byte (crc_byte r (get_or (get_or chunks i []) 0 0)) (get_or (get_or chunks i []) 1 0)) (drop (2 * (i + 1)) s)
two_chunk r s chunks i e h n =
    let k : i < length s / 2 = omega arith in
    let turn = two_steps r s (2 * i) (omega arith) in
    let next : 2 * (i + 1) ≡ 2 * i + 2 = omega arith in
    rw (e, chunk_byte 2 (length s / 2) i 0 s k (omega arith), chunk_byte 2 (length s / 2) i 1 s k (omega arith), next, add-zero) turn

pub four_chunk : (r : ℕ) (s : Bytes) (chunks : List Bytes) (i : ℕ) → chunks ≡ first_chunks 4 (length s / 4) s → i < length chunks
    → length chunks ≡ length s / 4
    → crc_over r (drop (4 * i) s)
    ≡ crc_over
    (crc_byte
    (crc_byte (crc_byte (crc_byte r (get_or (get_or chunks i []) 0 0)) (get_or (get_or chunks i []) 1 0)) (get_or (get_or chunks i []) 2 0))
    (get_or (get_or chunks i []) 3 0))
    (drop (4 * (i + 1)) s)
four_chunk r s chunks i e h n =
    let k : i < length s / 4 = omega arith in
    let turn = four_steps r s (4 * i) (omega arith) in
    let next : 4 * (i + 1) ≡ 4 * i + 4 = omega arith in
    let byte = λ (j : ℕ) (l : j < 4). chunk_byte 4 (length s / 4) i j s k l in
    rw (e, byte 0 (omega arith), byte 1 (omega arith), byte 2 (omega arith), byte 3 (omega arith), next, add-zero) turn
