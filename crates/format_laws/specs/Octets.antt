-- Lists of bytes, each below 256: by their members, in parts, and joined.
use Rattle.std.specs.Prelude.{ℕ, suc, ◌+◌, ◌<◌, refl, length, take, drop}
use Rattle.std.proofs.Common.{⊎_elim, arith, length-take, length-drop, get_or-take, get_or-drop}
use mathlib.Core.List.Memᴰ
use mathlib.Core.List.{[], ◌∷◌, ◌++◌, Memᴰ}
use Rattle.std.proofs.Math.Decide.{dec_lt}
use Rattle.std.proofs.Math.ListN.{get_or-eq_default}
use Rattle.format.specs.Bytes.{Bytes, byte_at}
use Rattle.format_laws.specs.Crc.{Octets}
use Rattle.format_laws.specs.Encoding.{octets_none, octets_cons}

pub octet : (l : Bytes) → Octets l → {x : ℕ} → Memᴰ x l → x < 256
octet [] o m = elim m [ ]
octet (y ∷ l) o (Memᴰ.head e) = rw e (o.at 0 (omega arith))
octet (y ∷ l) o (Memᴰ.tail m) = octet l (record { at = λ i h. o.at (suc i) (omega arith) }) m

pub octets : (l : Bytes) → ((x : ℕ) → Memᴰ x l → x < 256) → Octets l
octets [] h = octets_none
octets (y ∷ l) h = octets_cons y (h y (Memᴰ.head refl)) (octets l (λ x m. h x (Memᴰ.tail m)))

-- at every place: past the end it is 0
pub octet_at : (l : Bytes) → Octets l → (i : ℕ) → byte_at l i < 256
octet_at l o i = go (dec_lt i (length l))
  where
    go : Dec (i < length l) → byte_at l i < 256
    go (yes h) = o.at i h
    go (no h) = omega (arith, get_or-eq_default l 0 {n = i} (omega arith))

module _ (n : ℕ) (l : Bytes) (o : Octets l) where
  pub octets_take : Octets (take n l)
  octets_take = record {
    at = λ i h. let f : i < n = omega (arith, length-take n l) in rw (get_or-take n l i 0 f)
        (o.at i (omega (arith, length-take n l)));
  }

  pub octets_drop : Octets (drop n l)
  octets_drop = record { at = λ i h. rw (get_or-drop n l i 0) (o.at (n + i) (omega (arith, length-drop n l))) }

pub octets_append : (a b : Bytes) → Octets a → Octets b → Octets (a ++ b)
octets_append a b h k = octets (a ++ b) (λ x m. ⊎_elim (octet a h) (octet b k) (Memᴰ.append_cases a m))
