-- Damage as the code holds it, in four numbers, and the laws of what is put behind it.
use Prim.Native.Nat.{ℕ, zero, suc, ◌+◌, ◌*◌, ◌≤◌}
use Rattle.std.specs.Prelude.{◌≡◌, ◌≢◌, cond, length, drop, eqb}
use Rattle.std.proofs.Math.Path.{refl, ap}
use Rattle.std.proofs.Common.{sym, ◌∙◌, arith, length-append}
use mathlib.Core.List.{List, [], ◌∷◌, ◌++◌, append-nil}
use Rattle.std.proofs.Math.Decide.{ℕ_discrete}
use Rattle.std.proofs.lemmas.List.{length-map}
use Rattle.std.proofs.Math.Dec.{eqb-suc-suc, eqb-zero-suc}
use borrow.Author.Tests.{eq-eqb, ne_eqb}
use Rattle.format.specs.Reading.{Stretch, damaged_bytes, total_size, first_stretch}
use Rattle.format_laws.specs.Reading.{total_append, total_damaged}
use Rattle.calls.specs.Areas.{most_areas, largest_image}
use Rattle.calls.specs.Report.{in_image}
use Rattle.area_damage.specs.declared.Damage.{Damage}

-- how many stretches, their bytes, and offset and length of stretch k, from 0
unfoldable pub damage_of : ℕ → List Stretch → Damage
damage_of k l = record {
  stretches = length l;
  skipped = total_size l;
  offset = (first_stretch (drop k l)).place;
  length = (first_stretch (drop k l)).size;
}

-- no damage
pub none_is : (d : Damage) → (d.stretches ≡ 0) × ((d.skipped ≡ 0) × ((d.offset ≡ 0) × (d.length ≡ 0))) → (k : ℕ) → d ≡ damage_of k []
unfolding damage_of total_size first_stretch
none_is d e k = same ∙ none k
  where
    made : ℕ → ℕ → ℕ → ℕ → Damage
    made a b o n = record { stretches = a; skipped = b; offset = o; length = n }

    same : made d.stretches d.skipped d.offset d.length ≡ made 0 0 0 0
    same = cc

    none : (k : ℕ) → record { stretches = 0; skipped = 0; offset = 0; length = 0 } ≡ damage_of k []
    none zero = refl
    none (suc k) = refl

-- ---- a stretch behind others

-- n bytes at a place put behind, if any; stretch k is kept
unfoldable pub with_stretch : ℕ → Damage → ℕ → ℕ → Damage
with_stretch k d at n = cond (eqb n 0) d (record {
  stretches = d.stretches + 1;
  skipped = d.skipped + n;
  offset = cond (eqb d.stretches k) at d.offset;
  length = cond (eqb d.stretches k) n d.length;
})

-- there is room for it in the numbers
pub record Fewer (d : Damage) (at size : ℕ) : Type 0 where
  pub few : d.stretches ≤ largest_image
  pub short : d.skipped ≤ largest_image
  pub inside : at + size ≤ largest_image

pub kept : (k : ℕ) (l : List Stretch) (x : Stretch) → first_stretch (drop k (l ++ (x ∷ []))) ≡ cond (eqb (length l) k) x (first_stretch (drop k l))
unfolding first_stretch
kept zero [] x = refl
kept zero (d ∷ l) x = rw (ne_eqb (suc (length l)) 0 (λ z. omega arith))
kept (suc zero) [] x = refl
kept (suc (suc k)) [] x = rw (eqb-zero-suc (suc k))
kept (suc k) (d ∷ l) x = rw (eqb-suc-suc (length l) k) (kept k l x)

module _ (k : ℕ) (d : Damage) (at size : ℕ) where
  pub with_none : size ≡ 0 → d ≡ with_stretch k d at size
  unfolding with_stretch
  with_none z = rw (eq-eqb size 0 z)

  pub with_kept : size ≢ 0 → d.stretches ≡ k
      → record { stretches = d.stretches + 1; skipped = d.skipped + size; offset = at; length = size } ≡ with_stretch k d at size
  unfolding with_stretch
  with_kept z h = rw (ne_eqb size 0 z, eq-eqb d.stretches k h)

  pub with_other : size ≢ 0 → d.stretches ≢ k
      → record { stretches = d.stretches + 1; skipped = d.skipped + size; offset = d.offset; length = d.length } ≡ with_stretch k d at size
  unfolding with_stretch
  with_other z h = rw (ne_eqb size 0 z, ne_eqb d.stretches k h)

module _ (k : ℕ) (d : Damage) (at size : ℕ) (l : List Stretch) (e : d ≡ damage_of k l) where
  stretch_none : size ≡ 0 → d ≡ damage_of k (l ++ damaged_bytes at size)
  unfolding damaged_bytes
  stretch_none z = e ∙ rw (z, append-nil l)

  module _ (z : size ≢ 0) where
    one_more : damaged_bytes at size ≡ record { place = at; size = size } ∷ []
    unfolding damaged_bytes
    one_more = go size z
      where
        go : (n : ℕ) → n ≢ 0 → damaged_bytes at n ≡ record { place = at; size = n } ∷ []
        go zero h = absurd (h refl)
        go (suc n) h = refl

    counted : length (l ++ damaged_bytes at size) ≡ length l + 1
    counted = rw one_more (length-append l _)

    summed : total_size (l ++ damaged_bytes at size) ≡ total_size l + size
    summed = total_append l (damaged_bytes at size) ∙ ap (λ (n : ℕ). total_size l + n) (total_damaged at size)

    stretch_kept : d.stretches ≡ k
        → record { stretches = d.stretches + 1; skipped = d.skipped + size; offset = at; length = size } ≡ damage_of k (l ++ damaged_bytes at size)
    unfolding damage_of
    stretch_kept h = rw (counted, summed, one_more, kept k l (record { place = at; size = size }), eq-eqb (length l) k (sym (ap (λ (x : Damage). x.stretches) e) ∙ h), e)

    stretch_other : d.stretches ≢ k
        → record { stretches = d.stretches + 1; skipped = d.skipped + size; offset = d.offset; length = d.length } ≡ damage_of k (l ++ damaged_bytes at size)
    unfolding damage_of
    stretch_other h = rw (counted, summed, one_more, kept k l (record { place = at; size = size }), ne_eqb (length l) k (λ z. h (ap (λ (x : Damage). x.stretches) e ∙ z)), e)

  -- of the damage l it makes that of l and the stretch
  pub stretch_behind : (d' : Damage) → d' ≡ with_stretch k d at size → d' ≡ damage_of k (l ++ damaged_bytes at size)
  stretch_behind d' r = r ∙ go (ℕ_discrete size 0) (ℕ_discrete d.stretches k)
    where
      go : Dec (size ≡ 0) → Dec (d.stretches ≡ k) → with_stretch k d at size ≡ damage_of k (l ++ damaged_bytes at size)
      go (yes z) h = sym (with_none k d at size z) ∙ stretch_none z
      go (no z) (yes h) = sym (with_kept k d at size z h) ∙ stretch_kept z h
      go (no z) (no h) = sym (with_other k d at size z h) ∙ stretch_other z h

-- ---- the damage of an area behind that of others

-- that of an area at base put behind; the first stretch is kept, at its offset in the image
unfoldable pub joined_with : Damage → ℕ → Damage → Damage
joined_with d base e = cond (eqb e.stretches 0) d (record {
  stretches = d.stretches + e.stretches;
  skipped = d.skipped + e.skipped;
  offset = cond (eqb d.stretches 0) (base + e.offset) d.offset;
  length = cond (eqb d.stretches 0) e.length d.length;
})

-- the sums, and the offset in the image, fit in the numbers
pub record Summable (d : Damage) (base : ℕ) (area : Damage) : Type 0 where
  pub stretches : (d.stretches ≤ most_areas * largest_image) × (area.stretches ≤ largest_image)
  pub skipped : (d.skipped ≤ most_areas * largest_image) × (area.skipped ≤ largest_image)
  pub offset : (base ≤ largest_image) × (area.offset ≤ largest_image)

total_image : (o : ℕ) (m : List Stretch) → total_size (in_image o m) ≡ total_size m
unfolding total_size
total_image o [] = refl
total_image o (d ∷ m) = ap (λ (n : ℕ). d.size + n) (total_image o m)

module _ (base : ℕ) (l m : List Stretch) where
  pub joined_count : length (l ++ in_image base m) ≡ length l + length m
  joined_count = length-append l (in_image base m) ∙ ap (λ (n : ℕ). length l + n) (length-map m _)

  pub joined_sum : total_size (l ++ in_image base m) ≡ total_size l + total_size m
  joined_sum = total_append l (in_image base m) ∙ ap (λ (n : ℕ). total_size l + n) (total_image base m)

module _ (d : Damage) (base : ℕ) (e : Damage) where
  pub join_none : e.stretches ≡ 0 → d ≡ joined_with d base e
  unfolding joined_with
  join_none z = rw (eq-eqb e.stretches 0 z)

  pub join_first : e.stretches ≢ 0 → d.stretches ≡ 0
      → record { stretches = d.stretches + e.stretches; skipped = d.skipped + e.skipped; offset = base + e.offset; length = e.length } ≡ joined_with d base e
  unfolding joined_with
  join_first z h = rw (ne_eqb e.stretches 0 z, eq-eqb d.stretches 0 h)

  pub join_later : e.stretches ≢ 0 → d.stretches ≢ 0
      → record { stretches = d.stretches + e.stretches; skipped = d.skipped + e.skipped; offset = d.offset; length = d.length } ≡ joined_with d base e
  unfolding joined_with
  join_later z h = rw (ne_eqb e.stretches 0 z, ne_eqb d.stretches 0 h)

  -- where d is the damage l, and e that of the area, m from its start
  joined_none : (l m : List Stretch) → d ≡ damage_of 0 l → e ≡ damage_of 0 m → e.stretches ≡ 0 → d ≡ damage_of 0 (l ++ in_image base m)
  unfolding damage_of
  joined_none l [] a b z = a ∙ rw (append-nil l)
  joined_none l (x ∷ m) a b z = absurd (omega (arith, ap (λ (y : Damage). y.stretches) b))

  joined_first : (l m : List Stretch) → d ≡ damage_of 0 l → e ≡ damage_of 0 m → e.stretches ≢ 0 → d.stretches ≡ 0
      → record { stretches = d.stretches + e.stretches; skipped = d.skipped + e.skipped; offset = base + e.offset; length = e.length } ≡ damage_of 0 (l ++ in_image base m)
  unfolding damage_of first_stretch
  joined_first [] [] a b h z = absurd (h (ap (λ (y : Damage). y.stretches) b))
  joined_first [] (x ∷ m) a b h z = rw (joined_count base [] (x ∷ m), joined_sum base [] (x ∷ m), a, b)
  joined_first (x ∷ l) m a b h z = absurd (omega (arith, ap (λ (y : Damage). y.stretches) a))

  joined_later : (l m : List Stretch) → d ≡ damage_of 0 l → e ≡ damage_of 0 m → d.stretches ≢ 0
      → record { stretches = d.stretches + e.stretches; skipped = d.skipped + e.skipped; offset = d.offset; length = d.length } ≡ damage_of 0 (l ++ in_image base m)
  unfolding damage_of first_stretch
  joined_later [] m a b z = absurd (z (ap (λ (y : Damage). y.stretches) a))
  joined_later (x ∷ l) m a b z = rw (joined_count base (x ∷ l) m, joined_sum base (x ∷ l) m, a, b)

  -- they make that of l and then m
  pub joined_behind : (d' : Damage) → d' ≡ joined_with d base e → (l m : List Stretch) → d ≡ damage_of 0 l → e ≡ damage_of 0 m → d' ≡ damage_of 0 (l ++ in_image base m)
  joined_behind d' r l m a b = r ∙ go (ℕ_discrete e.stretches 0) (ℕ_discrete d.stretches 0)
    where
      go : Dec (e.stretches ≡ 0) → Dec (d.stretches ≡ 0) → joined_with d base e ≡ damage_of 0 (l ++ in_image base m)
      go (yes z) h = sym (join_none z) ∙ joined_none l m a b z
      go (no z) (yes h) = sym (join_first z h) ∙ joined_first l m a b z h
      go (no z) (no h) = sym (join_later z h) ∙ joined_later l m a b h
