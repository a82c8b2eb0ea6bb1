-- A valid area header: which bytes it turns on, and that length, count and id determine it.
use Rattle.std.specs.Prelude.{ℕ, suc, ◌+◌, ◌*◌, ◌/◌, ◌%◌, ◌≤◌, ◌<◌, ◌≡◌, true, ◌&&◌, ◌∷◌, ◌++◌, length, take, drop, eqb}
use Rattle.std.proofs.Math.Path.{sym, ap}
use Rattle.std.proofs.Common.{◌∙◌, arith, drop-cons, eqb-true}
use Rattle.format.specs.Bytes.{Bytes, byte_at, le32, enc32}
use Rattle.format.specs.AreaHeader.{
  area_header_size,
  header_length,
  header_version,
  header_reserved,
  collection_count,
  area_id,
  area_magic1,
  area_magic2,
  area_magic3,
  area_magic4,
  magics_right,
  valid_header,
}
use Rattle.format.specs.Encoding.{area_header}
use Rattle.format_laws.specs.Bytes.{same_byte, same_le32}
use Rattle.format_laws.specs.Crc.{Octets}
use Rattle.format_laws.specs.Record.{and_left, and_right}

-- the id, the last byte, has no part in it
module _ (n : ℕ) (h k : Bytes) (same : take 23 h ≡ take 23 k) where
  word : (i : ℕ) → i + 4 ≤ 23 → le32 h i ≡ le32 k i
  word = same_le32 23 h k same

  pub valid_same : valid_header n h ≡ valid_header n k
  unfolding valid_header magics_right
  valid_same = rw (
    word 0 (omega arith),
    word 4 (omega arith),
    word 8 (omega arith),
    word 12 (omega arith),
    word 16 (omega arith),
    same_byte 23 h k same 20 (omega arith),
    same_byte 23 h k same 22 (omega arith),
  )

-- what a valid header holds besides count and id
pub record ValidHeader (n : ℕ) (h : Bytes) : Type 0 where
  pub magic1 : le32 h 0 ≡ area_magic1
  pub magic2 : le32 h 4 ≡ area_magic2
  pub magic3 : le32 h 8 ≡ area_magic3
  pub magic4 : le32 h 12 ≡ area_magic4
  pub length_is : header_length h ≡ n
  pub version_0 : header_version h ≡ 0
  pub reserved_0 : header_reserved h ≡ 0

pub valid_holds : (n : ℕ) (h : Bytes) → valid_header n h ≡ true → ValidHeader n h
unfolding valid_header magics_right
valid_holds n h v =
    let a = eqb (le32 h 0) area_magic1 in
    let b = a && eqb (le32 h 4) area_magic2 in
    let c = b && eqb (le32 h 8) area_magic3 in
    let d = c && eqb (le32 h 12) area_magic4 in
    let e = d && eqb (header_length h) n in
    let f = e && eqb (header_version h) 0 in
    let vf = and_left f (eqb (header_reserved h) 0) v in
    let ve = and_left e (eqb (header_version h) 0) vf in
    let vd = and_left d (eqb (header_length h) n) ve in
    let vc = and_left c (eqb (le32 h 12) area_magic4) vd in
    let vb = and_left b (eqb (le32 h 8) area_magic3) vc in
    record {
      magic1 = eqb-true _ _ (and_left a (eqb (le32 h 4) area_magic2) vb);
      magic2 = eqb-true _ _ (and_right a (eqb (le32 h 4) area_magic2) vb);
      magic3 = eqb-true _ _ (and_right b (eqb (le32 h 8) area_magic3) vc);
      magic4 = eqb-true _ _ (and_right c (eqb (le32 h 12) area_magic4) vd);
      length_is = eqb-true _ _ (and_right d (eqb (header_length h) n) ve);
      version_0 = eqb-true _ _ (and_right e (eqb (header_version h) 0) vf);
      reserved_0 = eqb-true _ _ (and_right f (eqb (header_reserved h) 0) v);
    }

-- four bytes are their number as it is written
bytes_written : (a b c d : ℕ) → a < 256 → b < 256 → c < 256 → d < 256 → (l : Bytes)
    → enc32 (a + b * 256 + c * 65536 + d * 16777216) l ≡ a ∷ b ∷ c ∷ d ∷ l
bytes_written a b c d ha hb hc hd l =
    let r : (a + b * 256 + c * 65536 + d * 16777216) % 256 ≡ a = omega arith in
    let p : (a + b * 256 + c * 65536 + d * 16777216) / 256 ≡ b + c * 256 + d * 65536 = omega arith in
    let q : (b + c * 256 + d * 65536) / 256 ≡ c + d * 256 = omega arith in
    let s : (b + c * 256 + d * 65536) % 256 ≡ b = omega arith in
    let t : (c + d * 256) / 256 ≡ d = omega arith in
    let u : (c + d * 256) % 256 ≡ c = omega arith in
    let v : d % 256 ≡ d = omega arith in
    rw (r, p, q, s, t, u, v)

module _ (h : Bytes) (o : Octets h) where
  next : (i j : ℕ) → i < length h → suc i ≡ j → drop i h ≡ byte_at h i ∷ drop j h
  next i j room e = rw (← e) (drop-cons h i 0 room)

  word_written : (p q : ℕ) → q ≤ length h → p + 4 ≡ q → drop p h ≡ enc32 (le32 h p) (drop q h)
  unfolding le32
  word_written p q room e =
      next p (p + 1) (omega arith) (omega arith)
      ∙ ap (λ (l : Bytes). byte_at h p ∷ l) (next (p + 1) (p + 2) (omega arith) (omega arith))
      ∙ ap (λ (l : Bytes). byte_at h p ∷ byte_at h (p + 1) ∷ l) (next (p + 2) (p + 3) (omega arith) (omega arith))
      ∙ ap (λ (l : Bytes). byte_at h p ∷ byte_at h (p + 1) ∷ byte_at h (p + 2) ∷ l) (next (p + 3) q (omega arith) (omega arith))
      ∙ sym (bytes_written (byte_at h p) (byte_at h (p + 1)) (byte_at h (p + 2)) (byte_at h (p + 3)) (o.at p (omega arith))
      (o.at (p + 1) (omega arith)) (o.at (p + 2) (omega arith)) (o.at (p + 3) (omega arith)) (drop q h))

  -- so the header of a valid area is the one that would be written anew
  pub valid_written : (n : ℕ) → area_header_size ≤ length h → valid_header n h ≡ true
      → take area_header_size h ≡ area_header n (collection_count h) (area_id h)
  unfolding area_header
  valid_written n long v = ap (take area_header_size) whole
    where
      w : ValidHeader n h
      w = valid_holds n h v

      word : (p q v : ℕ) → q ≤ length h → p + 4 ≡ q → le32 h p ≡ v → drop p h ≡ enc32 v (drop q h)
      word p q v room e m = rw (← m) (word_written p q room e)

      bytes : drop 20 h ≡ 0 ∷ collection_count h ∷ 0 ∷ area_id h ∷ drop 24 h
      bytes = rw (
        next 20 21 (omega arith) (omega arith),
        next 21 22 (omega arith) (omega arith),
        next 22 23 (omega arith) (omega arith),
        next 23 24 (omega arith) (omega arith),
        w.version_0,
        w.reserved_0,
      )

      whole : h ≡ area_header n (collection_count h) (area_id h) ++ drop 24 h
      whole =
          word 0 4 area_magic1 (omega arith) (omega arith) w.magic1
          ∙ rw (
            word 4 8 area_magic2 (omega arith) (omega arith) w.magic2,
            word 8 12 area_magic3 (omega arith) (omega arith) w.magic3,
            word 12 16 area_magic4 (omega arith) (omega arith) w.magic4,
            word 16 20 n (omega arith) (omega arith) w.length_is,
            bytes,
          )
