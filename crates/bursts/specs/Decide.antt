-- What T-11 supposes, as tests that compute.
use Rattle.std.specs.Prelude.{ℕ, zero, suc, ◌+◌, ◌*◌, Bool, true, not, ◌&&◌, ◌||◌, ltb, leb, eqb, length}
use Rattle.format.specs.Bytes.{Bytes, byte_at}
use Rattle.format.specs.Record.{Kind, acceptable}
use Rattle.bursts.specs.Words.{bit_at}

-- whether a test passes at every number below m
unfoldable pub below : (ℕ → Bool) → ℕ → Bool
below f zero = true
below f (suc m) = f m && below f m

-- whether the altered bits of n bytes are all from one place up to another
unfoldable pub alters_only : ℕ → Bytes → Bytes → ℕ → ℕ → Bool
alters_only n t s from to = below (λ p. eqb (bit_at s p) (bit_at t p) || (leb from p && ltb p to)) (n * 8)

unfoldable pub are_octets : Bytes → Bool
are_octets l = below (λ i. ltb (byte_at l i) 256) (length l)

unfoldable pub is_damaged : Kind → Bytes → Bytes → Bool
is_damaged k t s = are_octets t && (are_octets s && (acceptable k t && eqb (k.body_length s) (k.body_length t)))

-- whether the bit at the place `one` was altered, and all that were are within 16 from the place `start` on, and in the bytes from .. to
unfoldable pub is_burst : ℕ → Bytes → Bytes → ℕ → ℕ → ℕ → ℕ → Bool
is_burst n t s one start from to =
    (ltb one (n * 8) && not (eqb (bit_at s one) (bit_at t one)))
    && (alters_only n t s start (start + 16) && alters_only n t s (from * 8) (to * 8))
