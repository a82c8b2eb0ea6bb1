-- Tables: the rule of a table by one test over the whole of it, and the register four bytes later by two tables.
use Rattle.std.specs.Prelude.{ℕ, zero, suc, ◌+◌, ◌/◌, ◌%◌, ◌<◌, ◌≡◌, true, List, [], ◌∷◌, eqb, length, get_or}
use Rattle.std.proofs.Common.{sym, ap, ap₂, ◌∙◌, arith, add-zero, zero-add, add-suc, suc-add, le_of_suc-le-suc, eqb-true}
use Rattle.std.specs.Int.Bits.{bit_xor}
use Rattle.format_laws.specs.Record.{and_left, and_right}
use Rattle.crc_laws.specs.Register.{crc_bits}
use Rattle.crc_laws.specs.Bytes.{by_halves}
use Rattle.crc_laws.specs.Table.{by_rule, TableOf, high_later, low_later, Tables}

entries : (rule : ℕ → ℕ) (t : List ℕ) (i : ℕ) → by_rule rule i t ≡ true → (k : ℕ) → k < length t → get_or t k 0 ≡ rule (i + k)
unfolding by_rule
entries rule [] i e k h = absurd (omega arith)
entries rule (x ∷ t) i e zero h = eqb-true _ _ (and_left _ _ e) ∙ ap rule (sym (add-zero i))
entries rule (x ∷ t) i e (suc k) h =
    entries rule t (suc i) (and_right (eqb x (rule i)) _ e) k (le_of_suc-le-suc h) ∙ ap rule (suc-add i k ∙ sym (add-suc i k))

-- a table that passes the test is one
pub table_of : (rule : ℕ → ℕ) (t : List ℕ) → length t ≡ 256 → by_rule rule 0 t ≡ true → TableOf rule t
table_of rule t n e = record { size = n; at = λ i h. entries rule t 0 e i (omega arith) ∙ ap rule (zero-add i) }

-- the register 32 bits later, by them
pub four_later : (high low : List ℕ) → Tables high low → (x : ℕ) → x < 65536
    → bit_xor (get_or high (x / 256) 0) (get_or low (x % 256) 0) ≡ crc_bits 32 x
unfolding high_later low_later
four_later high low t x h = ap₂ bit_xor (t.of_high.at (x / 256) (omega arith)) (t.of_low.at (x % 256) (omega arith)) ∙ sym (by_halves 32 x h)
