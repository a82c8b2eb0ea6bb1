-- A bit alone at the top of the register, 8000 hex, is not there again within 16,575 bits, of which the first leads to 1021 hex: computed.
-- Two bits of a record are no further apart: it has 16,576 at most.
use Rattle.std.specs.Prelude.{ℕ, zero, suc, ◌<◌, ◌≡◌, refl, Bool, true, false, eqb}
use Rattle.std.proofs.lemmas.Bool.{false≢true, eqb-false}
use Rattle.std.proofs.Common.{arith, le_of_suc-le-suc}
use Rattle.format.specs.Crc.{crc_bit}
use Rattle.crc_laws.specs.Register.{crc_bits}

-- none of the n registers from r on is the top bit alone
never : ℕ → ℕ → Bool
never zero r = true
never (suc n) r = elim (eqb r 0x8000) [ true ↦ false | false ↦ never n (crc_bit r) ]

none_is : (n r : ℕ) → never n r ≡ true → (j : ℕ) → j < n → crc_bits j r ≡ 0x8000 → ⊥
unfolding never crc_bits
none_is zero r t j h = absurd (omega arith)
none_is (suc n) r t j h = go (eqb r 0x8000) refl t (none_is n (crc_bit r)) j h
  where
    go : (b : Bool) → eqb r 0x8000 ≡ b → (elim b as (λ (x : Bool). Bool) [ true ↦ false | false ↦ never n (crc_bit r) ]) ≡ true
        → (never n (crc_bit r) ≡ true → (j : ℕ) → j < n → crc_bits j (crc_bit r) ≡ 0x8000 → ⊥)
        → (j : ℕ) → j < suc n → crc_bits j r ≡ 0x8000 → ⊥
    go true e t ih j h = absurd (false≢true t)
    go false e t ih zero h = eqb-false r 0x8000 e
    go false e t ih (suc j) h = ih t j (le_of_suc-le-suc h)

computed : never 16575 0x1021 ≡ true
unfolding never crc_bit
computed = refl

pub top_again : (j : ℕ) → j < 16575 → crc_bits j 0x1021 ≡ 0x8000 → ⊥
top_again = none_is 16575 0x1021 computed
