-- Free space byte by byte: erased bytes at the end of the parts, and as many of the last stretch as there are.
use Rattle.std.specs.Prelude.{ℕ, zero, suc, ◌+◌, ◌-◌, ◌≤◌, ◌<◌, ◌≡◌, refl, ◌≢◌, Bool, true, false, cond, ◌&&◌, List, [], ◌∷◌, ◌++◌, length, eqb}
use Rattle.std.proofs.Common.{sym, ap, ◌∙◌, append-nil, arith, length-append, get_or-append-add, eqb-true, eq-eqb}
use mathlib.Core.List.Memᴰ
use Rattle.std.proofs.Math.Decide.{dec_lt}
use Rattle.format.specs.Bytes.{Bytes, byte_at}
use Rattle.format.specs.Reading.{ERASED, Part, taken, stretch, placed, erased_end, free_size}
use Rattle.format_laws.specs.Record.{and_left, and_right}
use Rattle.format_laws.specs.Reading.{passed, joined, free_taken, erased_end_le}
use Rattle.damage_told.specs.Runs.{Alternate, nothing, one_record, last_stretch, and_record, parts_sum, InRecords}

-- the bytes at the end are erased ..
erased_from : (s : Bytes) (i : ℕ) → length s ≤ i + erased_end s → i < length s → byte_at s i ≡ ERASED
unfolding erased_end
erased_from [] i h l = absurd (omega arith)
erased_from (b ∷ s) i h l = go (eqb (erased_end s) (length s) && eqb b ERASED) refl i h l (erased_from s)
  where
    whole : (eqb (erased_end s) (length s) && eqb b ERASED) ≡ true → erased_end s ≡ length s
    whole e = eqb-true (erased_end s) (length s) (and_left (eqb (erased_end s) (length s)) (eqb b ERASED) e)

    go : (t : Bool) → (eqb (erased_end s) (length s) && eqb b ERASED) ≡ t → (i : ℕ) → suc (length s) ≤ i + cond t (suc (erased_end s)) (erased_end s)
        → i < suc (length s) → ((i : ℕ) → length s ≤ i + erased_end s → i < length s → byte_at s i ≡ ERASED) → byte_at (b ∷ s) i ≡ ERASED
    go true e zero h l ih = eqb-true b ERASED (and_right (eqb (erased_end s) (length s)) (eqb b ERASED) e)
    go true e (suc i) h l ih = ih i (omega (arith, whole e)) (omega arith)
    go false e zero h l ih = absurd (omega (arith, erased_end_le s))
    go false e (suc i) h l ih = ih i (omega arith) (omega arith)

-- .. and the one before them is not
erased_no_more : (s : Bytes) (i : ℕ) → i + 1 + erased_end s ≡ length s → byte_at s i ≢ ERASED
unfolding erased_end
erased_no_more [] i h = absurd (omega arith)
erased_no_more (b ∷ s) i h = go (eqb (erased_end s) (length s) && eqb b ERASED) refl i h (erased_no_more s)
  where
    whole : (eqb (erased_end s) (length s) && eqb b ERASED) ≡ true → erased_end s ≡ length s
    whole e = eqb-true (erased_end s) (length s) (and_left (eqb (erased_end s) (length s)) (eqb b ERASED) e)

    go : (t : Bool) → (eqb (erased_end s) (length s) && eqb b ERASED) ≡ t → (i : ℕ) → i + 1 + cond t (suc (erased_end s)) (erased_end s) ≡ suc (length s)
        → ((i : ℕ) → i + 1 + erased_end s ≡ length s → byte_at s i ≢ ERASED) → byte_at (b ∷ s) i ≢ ERASED
    go true e i h ih q = omega (arith, whole e)
    go false e zero h ih q =
        let w : true ≡ false = rw (eq-eqb (erased_end s) (length s) (omega arith), eq-eqb b ERASED q) at e in
        let z : ◌≡◌ {A = ℕ} 0 1 = cc in
        omega arith
    go false e (suc i) h ih q = ih i (omega arith) q

behind : (q x : Bytes) (i : ℕ) → length q ≤ i → byte_at (q ++ x) i ≡ byte_at x (i - length q)
behind q x i h =
    let w : i ≡ length q + (i - length q) = omega arith in
    ap (λ (n : ℕ). byte_at (q ++ x) n) w ∙ get_or-append-add q x (i - length q) 0

free_fits : (l : List Part) → free_size l ≤ length (joined l)
free_fits l = omega (arith, parts_sum 0 l)

-- free space is erased ..
pub free_erased : (l : List Part) (i : ℕ) → length (joined l) ≤ i + free_size l → i < length (joined l) → byte_at (joined l) i ≡ ERASED
unfolding free_size joined passed
free_erased [] i h l = absurd (omega arith)
free_erased (stretch s ∷ []) i h l = rw (append-nil s) (erased_from s i (omega (arith, length-append s [])) (omega (arith, length-append s [])))
free_erased (taken r ∷ m) i h l =
    let n = length-append r (joined m) in
    let f = free_taken [] r m in
    let g : length r ≤ i = omega (arith, free_fits m) in
    behind r (joined m) i g ∙ free_erased m (i - length r) (omega arith) (omega arith)
free_erased (stretch s ∷ q ∷ m) i h l =
    let n = length-append s (joined (q ∷ m)) in
    let g : length s ≤ i = omega (arith, free_fits (q ∷ m)) in
    behind s (joined (q ∷ m)) i g ∙ free_erased (q ∷ m) (i - length s) (omega arith) (omega arith)

-- .. and an erased byte right before it is one of a record
abbrev EndsInRecord : List Part → Type 0
EndsInRecord l = (o i : ℕ) → i + 1 + free_size l ≡ length (joined l) → byte_at (joined l) i ≡ ERASED → InRecords (placed o l) (o + i)

record_ends : (r : Bytes) (l : List Part) → EndsInRecord l → EndsInRecord (taken r ∷ l)
unfolding placed joined passed
record_ends r l ih o i h e = go (dec_lt i (length r))
  where
    n : length (r ++ joined l) ≡ length r + length (joined l)
    n = length-append r (joined l)

    go : Dec (i < length r) → InRecords (record { place = o; bytes = r } ∷ placed (o + length r) l) (o + i)
    go (yes g) = (record { place = o; bytes = r }, Memᴰ.head refl, omega arith, omega arith)
    go (no g) =
        let k = ih (o + length r) (i - length r) (omega (arith, h, n, free_taken [] r l)) (sym (behind r (joined l) i (omega arith)) ∙ e) in
        (k.0, Memᴰ.tail k.1, omega (arith, k.2), omega (arith, k.3))

pub free_behind : {l : List Part} → Alternate l → EndsInRecord l
unfolding free_size placed joined passed
free_behind nothing o i h e = absurd (omega arith)
free_behind (one_record {r} {l} g a) o i h e = record_ends r l (free_behind a) o i h e
free_behind (last_stretch {s} g) o i h e =
    absurd (erased_no_more s i (omega (arith, length-append s [])) (rw (append-nil s) at e))
free_behind (and_record {s} {r} {l} z g a) o i h e =
    let m = length-append s (r ++ joined l) in
    let n = length-append r (joined l) in
    let f = free_taken [] r l in
    let w : length s ≤ i = omega (arith, free_fits l) in
    let k = record_ends r l (free_behind a) (o + length s) (i - length s) (omega arith) (sym (behind s (r ++ joined l) i w) ∙ e) in
    (k.0, k.1, omega (arith, k.2), omega (arith, k.3))
