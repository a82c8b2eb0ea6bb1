-- Ids for new records: what the search for one finds.
use Rattle.std.specs.Prelude.{ℕ, zero, suc, ◌+◌, ◌*◌, ◌≤◌, ◌<◌, ◌≡◌, refl, Bool, true, false, cond, not, length, T, eqb}
use Rattle.std.proofs.Common.{ap, ⊎_elim, arith, eqb→eq, T_not}
use mathlib.Core.List.Memᴰ
use mathlib.Core.List.{List, [], ◌∷◌, Memᴰ}
use Rattle.std.proofs.Math.Decide.{ℕ_discrete, dec_lt}
use Rattle.std.proofs.Math.Dec.{eqb_refl, not_T}
use Rattle.format.specs.Bytes.{Bytes}
use Rattle.volume.specs.Lists.{all}
use Rattle.volume_laws.specs.Tests.{true→T, not_is_false}
use Rattle.volume_laws.specs.Lists.{all_mem, not_all}
use Rattle.volume_laws.specs.Once.{Nodup, pigeons}
use Rattle.calls.specs.Storing.{named_by_inodes, named_by_blocks, is_among, unused_from, unused_id}

pub among : (i : ℕ) (l : List ℕ) → T (is_among i l) → Memᴰ i l
unfolding is_among
among i l t =
    let n = not_all (λ j. not (eqb i j)) l (T_not (all (λ j. not (eqb i j)) l) t) in
    Memᴰ.cast (eqb→eq i n.0 (true→T (not_is_false (eqb i n.0) n.2))) n.1

pub not_among : (i : ℕ) (l : List ℕ) → ¬ T (is_among i l) → ¬ Memᴰ i l
unfolding is_among
not_among i l n m = n (not_T (all (λ j. not (eqb i j)) l) (λ t. T_not (eqb i i) (all_mem (λ j. not (eqb i j)) l t m) (eqb_refl i)))

-- what is found is the smallest from i on that is not among l, if it is found before the search ends
record Sought (k i : ℕ) (l : List ℕ) (r : ℕ) : Type 0 where
  from : i ≤ r
  within : r ≤ i + k
  passed : (j : ℕ) → i ≤ j → j < r → Memᴰ j l
  stopped : r < i + k → ¬ Memᴰ r l

sought : (k i : ℕ) (l : List ℕ) → Sought k i l (unused_from k i l)
unfolding unused_from
sought zero i l = record { from = omega arith; within = omega arith; passed = λ j h g. absurd (omega arith); stopped = λ h. absurd (omega arith) }
sought (suc k) i l = go (is_among i l) refl (sought k (suc i) l)
  where
    first : (r j : ℕ) → Sought k (suc i) l r → T (is_among i l) → i ≤ j → j < r → Dec (j ≡ i) → Memᴰ j l
    first r j s t h g (yes e) = Memᴰ.cast e (among i l t)
    first r j s t h g (no e) = s.passed j (omega arith) g

    go : (b : Bool) → is_among i l ≡ b → Sought k (suc i) l (unused_from k (suc i) l) → Sought (suc k) i l (cond b (unused_from k (suc i) l) i)
    go true e s = record {
      from = omega (arith, s.from);
      within = omega (arith, s.within);
      passed = λ j h g. first _ j s (true→T e) h g (ℕ_discrete j i);
      stopped = λ h. s.stopped (omega arith);
    }
    go false e s = record {
      from = omega arith;
      within = omega arith;
      passed = λ j h g. absurd (omega arith);
      stopped = λ h. not_among i l (λ t. rw e at t);
    }

-- n numbers from i on
unfoldable pub upwards : ℕ → ℕ → List ℕ
upwards zero i = []
upwards (suc n) i = i ∷ upwards n (suc i)

pub upwards_mem : (n i : ℕ) {j : ℕ} → Memᴰ j (upwards n i) → (i ≤ j) × (j < i + n)
unfolding upwards
upwards_mem zero i m = absurd (Memᴰ.not-nil m)
upwards_mem (suc n) i m =
    ⊎_elim (λ e. (omega arith, omega arith)) (λ k. let h = upwards_mem n (suc i) k in (omega (arith, h.0), omega (arith, h.1)))
    (Memᴰ.cases_cons m)

pub upwards_nodup : (n i : ℕ) → Nodup (upwards n i)
unfolding upwards
upwards_nodup zero i = tt
upwards_nodup (suc n) i = ((λ m. let h = upwards_mem n (suc i) m in omega (arith, h.0)), upwards_nodup n (suc i))

pub upwards_length : (n i : ℕ) → length (upwards n i) ≡ n
unfolding upwards
upwards_length zero i = refl
upwards_length (suc n) i = ap suc (upwards_length n (suc i))

-- "the smallest id of their range": of more numbers than l has members, one is not among them
pub record Smallest (first : ℕ) (l : List ℕ) (i : ℕ) : Type 0 where
  pub from : first ≤ i
  pub near : i ≤ first + length l
  pub unused : ¬ Memᴰ i l
  pub smallest : (j : ℕ) → first ≤ j → j < i → Memᴰ j l

pub unused_smallest : (first : ℕ) (l : List ℕ) → Smallest first l (unused_id first l)
unfolding unused_id
unused_smallest first l = record { from = s.from; near = s.within; unused = free; smallest = s.passed }
  where
    r : ℕ
    r = unused_from (length l) first l

    s : Sought (length l) first l r
    s = sought (length l) first l

    each : Memᴰ r l → (j : ℕ) → Memᴰ j (upwards (suc (length l)) first) → r ≡ first + length l → Memᴰ j l
    each m j k e = go (dec_lt j r) (upwards_mem (suc (length l)) first k)
      where
        go : Dec (j < r) → (first ≤ j) × (j < first + suc (length l)) → Memᴰ j l
        go (yes h) u = s.passed j u.0 h
        go (no h) u = let q : j ≡ r = omega (arith, u.1) in Memᴰ.cast q m

    free : ¬ Memᴰ r l
    free m = go (dec_lt r (first + length l))
      where
        go : Dec (r < first + length l) → ⊥
        go (yes h) = s.stopped h m
        go (no h) =
            let e : r ≡ first + length l = omega (arith, s.within) in
            let p = pigeons (upwards (suc (length l)) first) l (upwards_nodup (suc (length l)) first) (λ j k. each m j k e) in
            omega (arith, upwards_length (suc (length l)) first)

-- ---- how many ids records name

pub inodes_name : (rs : List Bytes) → length (named_by_inodes rs) ≡ 2 * length rs
unfolding named_by_inodes
inodes_name [] = refl
inodes_name (r ∷ rs) = omega (arith, inodes_name rs)

pub blocks_name : (rs : List Bytes) → length (named_by_blocks rs) ≡ 3 * length rs
unfolding named_by_blocks
blocks_name [] = refl
blocks_name (r ∷ rs) = omega (arith, blocks_name rs)
