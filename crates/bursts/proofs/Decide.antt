-- What T-11 supposes, as tests that compute.
use Rattle.std.specs.Prelude.{ℕ, zero, suc, ◌+◌, ◌*◌, ◌≤◌, ◌<◌, ◌≡◌, refl, Bool, true, false, not, ◌&&◌, ◌||◌, ltb, leb, eqb, length}
use Rattle.std.proofs.Common.{⊎_elim, arith, leb-true, ltb-true, ltb-false, eqb-true}
use Rattle.std.proofs.lemmas.Bool.{eqb-false, not-true}
use Rattle.format.specs.Bytes.{Bytes, byte_at}
use Rattle.format.specs.Record.{Kind, acceptable}
use Rattle.format_laws.specs.Crc.{Octets}
use Rattle.format_laws.specs.Record.{and_left, and_right, or_cases}
use Rattle.bursts.specs.Words.{bit_at, Altered, Part, IsKind, Damaged, Sure, a_burst}
use Rattle.bursts.specs.Decide.{below, alters_only, are_octets, is_damaged, is_burst}

pub below_at : (f : ℕ → Bool) (m : ℕ) → below f m ≡ true → (p : ℕ) → p < m → f p ≡ true
unfolding below
below_at f zero e p h = absurd (omega arith)
below_at f (suc m) e p h = go (ltb p m) refl (below_at f m (and_right (f m) (below f m) e) p)
  where
    go : (b : Bool) → ltb p m ≡ b → (p < m → f p ≡ true) → f p ≡ true
    go true l ih = ih (ltb-true p m l)
    go false l ih =
        let q : p ≡ m = omega (arith, ltb-false p m l) in
        rw q (and_left (f m) (below f m) e)

alters_only_lem : (n : ℕ) (t s : Bytes) (from to : ℕ) → alters_only n t s from to ≡ true → (p : ℕ) → Altered n t s p → (from ≤ p) × (p < to)
unfolding alters_only
alters_only_lem n t s from to e p a =
    ⊎_elim (λ q. absurd (a.1 (eqb-true _ _ q)))
    (λ q. (leb-true _ _ (and_left (leb from p) (ltb p to) q), ltb-true _ _ (and_right (leb from p) (ltb p to) q)))
    (or_cases (eqb (bit_at s p) (bit_at t p)) (leb from p && ltb p to)
    (below_at (λ p. eqb (bit_at s p) (bit_at t p) || (leb from p && ltb p to)) (n * 8) e p a.0))

pub are_octets_lem : (l : Bytes) → are_octets l ≡ true → Octets l
unfolding are_octets
are_octets_lem l e = record { at = λ i h. ltb-true _ _ (below_at (λ i. ltb (byte_at l i) 256) (length l) e i h) }

pub is_damaged_lem : (k : Kind) (t s : Bytes) → IsKind k → is_damaged k t s ≡ true → Damaged k t s
unfolding is_damaged
is_damaged_lem k t s i e =
    let l = eqb (k.body_length s) (k.body_length t) in
    let a = and_right (are_octets t) (are_octets s && (acceptable k t && l)) e in
    let b = and_right (are_octets s) (acceptable k t && l) a in
    record {
      kind = i;
      bytes_before_lem = are_octets_lem t (and_left (are_octets t) (are_octets s && (acceptable k t && l)) e);
      bytes_after = are_octets_lem s (and_left (are_octets s) (acceptable k t && l) a);
      accepted = and_left (acceptable k t) l b;
      same_length = eqb-true _ _ (and_right (acceptable k t) l b);
    }

pub is_sure_lem : (k : Kind) (n : ℕ) (t s : Bytes) (one start from to : ℕ) → Part k n from to → is_burst n t s one start from to ≡ true → Sure k n t s
unfolding is_burst
is_sure_lem k n t s one start from to part e =
    let first = ltb one (n * 8) && not (eqb (bit_at s one) (bit_at t one)) in
    let spans = alters_only n t s start (start + 16) in
    let lies = alters_only n t s (from * 8) (to * 8) in
    let a = and_left first (spans && lies) e in
    let b = and_right first (spans && lies) e in
    a_burst
    (record {
      one = one;
      one_altered = (ltb-true _ _ (and_left (ltb one (n * 8)) _ a), eqb-false _ _ (not-true (eqb (bit_at s one) (bit_at t one)) (and_right (ltb one (n * 8)) _ a)));
      start = start;
      span = alters_only_lem n t s start (start + 16) (and_left spans lies b);
    })
    (record { from = from; to = to; part = part; inside = alters_only_lem n t s (from * 8) (to * 8) (and_right spans lies b) })
