-- Two places of an image that share no byte.
use Rattle.std.specs.Prelude.{ℕ, ◌+◌, ◌≤◌, ◌<◌, ◌≡◌}
use Rattle.std.proofs.Common.{sym, arith}

-- no byte of the n from p on is one of the m from q on
pub record Apart (p n q m : ℕ) : Type 0 where
  pub no_common : (i j : ℕ) → i < n → j < m → p + i ≡ q + j → ⊥

pub apart_before : (p n q m : ℕ) → p + n ≤ q → Apart p n q m
apart_before p n q m h = record { no_common = λ i j f g e. omega arith }

pub apart_after : (p n q m : ℕ) → q + m ≤ p → Apart p n q m
apart_after p n q m h = record { no_common = λ i j f g e. omega arith }

pub apart_sym : {p n q m : ℕ} → Apart p n q m → Apart q m p n
apart_sym a = record { no_common = λ i j f g e. a.no_common j i g f (sym e) }

-- a part of what is apart is as much apart
pub apart_part : {p n q m : ℕ} → Apart p n q m → (k l : ℕ) → k + l ≤ m → Apart p n (q + k) l
apart_part a k l h = record { no_common = λ i j f g e. a.no_common i (k + j) f (omega arith) (omega arith) }

pub apart_front : {p n q m : ℕ} → Apart p n q m → (l : ℕ) → l ≤ m → Apart p n q l
apart_front a l h = record { no_common = λ i j f g e. a.no_common i j f (omega arith) e }
