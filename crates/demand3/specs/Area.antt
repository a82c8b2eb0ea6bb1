-- One area, over any lawful acceptor: damage to its records leaves the others, in order, at their old places.
use Rattle.std.specs.Prelude.{ℕ, ◌+◌, ◌≤◌, ◌<◌, ◌≡◌, refl, ◌≢◌, ◌⊎◌, Bool, length, drop, replicate}
use Rattle.std.proofs.Common.{sym, ap, ◌∙◌, inl, inr, arith, length-drop, drop-drop, length-take-le, get_or-drop, ext_get_or}
use Rattle.std.proofs.Math.Bool.{true, false}
use mathlib.Core.List.Memᴰ
use mathlib.Core.List.{[], ◌∷◌, Memᴰ}
use Rattle.std.proofs.Math.ListN.{take}
use Rattle.format.specs.Bytes.{Bytes, byte_at}
use Rattle.format.specs.Reading.{Acceptor, ERASED, Placed}
use Rattle.format_laws.specs.Reading.{Lawful}
use Rattle.format_laws.specs.Clean.{Clean, free, next, erased_records}
use Rattle.volume.specs.Lists.{keep, same}
use Rattle.volume_laws.specs.Tests.{true→T, stable}
use Rattle.volume_laws.specs.Lists.{same_eq}
use Rattle.format_laws.specs.Taken.{records_from, record_at, from_take, from_none}
use Rattle.demand3.specs.Words.{Within}

-- the record's bytes are in both areas the same
unfoldable pub stood : Bytes → Bytes → Placed → Bool
stood xs ys r = same (take (length r.bytes) (drop r.place ys)) (take (length r.bytes) (drop r.place xs))

-- ys is the area xs with records from p on overwritten, and nothing acceptable starts in one of those
pub record Overwritten (size : Acceptor) (xs ys : Bytes) (p : ℕ) : Type 0 where
  pub one_length : length ys ≡ length xs
  pub inside : (i : ℕ) → p ≤ i → byte_at xs i ≢ byte_at ys i → (r : Placed) × Memᴰ r (records_from size xs p) × Within r i
  pub no_new : (r : Placed) → Memᴰ r (records_from size xs p) → stood xs ys r ≡ false → (j : ℕ) → Within r j → size (drop j ys) ≡ 0

module _ (size : Acceptor) (ok : Lawful size) where
  -- A record of n bytes at p, overwritten or not
  module _ (xs ys : Bytes) (p n : ℕ) (e : size (drop p xs) ≡ n) (h : 0 < n) (o : Overwritten size xs ys p) where
    fits : n ≤ length (drop p xs)
    fits = omega (arith, ok.inside (drop p xs))

    long : length (take n (drop p xs)) ≡ n
    long = length-take-le n (drop p xs) fits

    within : (j : ℕ) → p ≤ j → j < p + n → Within (record_at xs p n) j
    within j a b = (a, omega (arith, long))

    -- what follows it
    rest : Overwritten size xs ys (p + n)
    rest = record {
      one_length = o.one_length;
      inside = λ i l f.
          let t = o.inside i (omega arith) f in
          after i l t.0 t.2 (Memᴰ.cases_cons (rw (from_take size ok xs p n e h) at t.1));
      no_new = λ r m. o.no_new r (rw (from_take size ok xs p n e h) (Memᴰ.tail m));
    }
      where
        after : (i : ℕ) → p + n ≤ i → (r : Placed) → Within r i → (r ≡ record_at xs p n) ⊎ Memᴰ r (records_from size xs (p + n))
            → (r : Placed) × Memᴰ r (records_from size xs (p + n)) × Within r i
        after i l r k (inl q) = let w : Within (record_at xs p n) i = rw q at k in absurd (omega (arith, long, w.1))
        after i l r k (inr m) = (r, m, k)

    -- overwritten: nothing is found at its bytes
    gone : stood xs ys (record_at xs p n) ≡ false → records_from size ys p ≡ records_from size ys (p + n)
    gone k = from_none size ok ys p n (omega (arith, fits, length-drop p xs, o.one_length, h))
        (λ j g. o.no_new (record_at xs p n) (rw (from_take size ok xs p n e h) (Memᴰ.head refl)) k (p + j) (within (p + j) (omega arith) (omega arith)))

    -- not overwritten: it is taken again
    again : stood xs ys (record_at xs p n) ≡ true → records_from size ys p ≡ record_at xs p n ∷ records_from size ys (p + n)
    unfolding stood
    again k =
        let a : take n (drop p ys) ≡ take n (drop p xs) = same_eq _ _ (rw long at (true→T k)) in
        from_take size ok ys p n (ok.local (drop p xs) (drop p ys) (rw e h) (rw e a) ∙ e) h ∙ rw a

    one_record : records_from size ys (p + n) ≡ keep (stood xs ys) (records_from size xs (p + n)) → (b : Bool) → stood xs ys (record_at xs p n) ≡ b
        → records_from size ys p ≡ keep (stood xs ys) (records_from size xs p)
    unfolding keep
    one_record ih true k = rw (from_take size ok xs p n e h, k) (again k ∙ rw ih)
    one_record ih false k = rw (from_take size ok xs p n e h, k) (gone k ∙ ih)

  -- free space after the records stays as it was
  free_space : (xs ys : Bytes) (p n : ℕ) → drop p xs ≡ replicate n ERASED → Overwritten size xs ys p
      → records_from size ys p ≡ keep (stood xs ys) (records_from size xs p)
  unfolding keep
  free_space xs ys p n f o = rw (alike, nothing)
    where
      nothing : records_from size xs p ≡ []
      nothing = rw f (erased_records size ok p n)

      agree : (i : ℕ) → p ≤ i → byte_at xs i ≡ byte_at ys i
      agree i l = stable _ _ (λ q. Memᴰ.not-nil (rw nothing at (o.inside i l q).1))

      alike : drop p ys ≡ drop p xs
      alike = ext_get_or 0 (drop p ys) (drop p xs) (omega (arith, length-drop p xs, length-drop p ys, o.one_length))
          (λ i l. rw (get_or-drop p ys, get_or-drop p xs) (sym (agree (p + i) (omega arith))))

  -- A clean area with records overwritten reads as those that were not
  pub area_kept : (xs ys t : Bytes) (p : ℕ) → drop p xs ≡ t → Clean size t → Overwritten size xs ys p
      → records_from size ys p ≡ keep (stood xs ys) (records_from size xs p)
  area_kept xs ys t p e (free n f) o = free_space xs ys p n (e ∙ f) o
  area_kept xs ys t p e (next h c) o =
      one_record xs ys p (size t) (ap size e) h o
      (area_kept xs ys (drop (size t) t) (p + size t) (sym (drop-drop (size t) p xs) ∙ ap (drop (size t)) e) c
      (rest xs ys p (size t) (ap size e) h o))
      (stood xs ys (record_at xs p (size t))) refl
