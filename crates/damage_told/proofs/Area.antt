-- What the reports of one area tell, stretch by stretch.
use Rattle.std.specs.Prelude.{ℕ, zero, suc, ◌+◌, ◌≤◌, ◌<◌, ◌≡◌, refl, ◌⊎◌, false, length, drop, get_or, leb}
use Rattle.std.proofs.Common.{inl, inr, arith, leb-false}
use mathlib.Core.List.Memᴰ
use mathlib.Core.List.{List, [], ◌∷◌, Memᴰ}
use Rattle.format.specs.Bytes.{Bytes}
use Rattle.format.specs.Record.{record_size}
use Rattle.format.specs.AreaHeader.{area_header_size}
use Rattle.format.specs.Reading.{Stretch, free_size, first_stretch, area_parts, area_damage, area_free}
use Rattle.image_laws.specs.Laws.{part_length}
use Rattle.volume_laws.specs.Lists.{get_or_mem}
use Rattle.calls.specs.Areas.{area_bytes}
use Rattle.calls.specs.Refusal.{first_refusal}
use Rattle.calls.specs.Mount.{bad_description}
use Rattle.calls.specs.AreaReport.{area_report, area_report_number, area_report_of}
use Rattle.calls.specs.declared.Descriptor.{Descriptor}
use Rattle.calls_laws.specs.Checks.{passed_first, area_fits}
use Rattle.damage_told.specs.Words.{Ascending, none, next, AreaTold, AreaReportTold}
use Rattle.damage_told.proofs.Told.{area_told}

-- ---- stretch k of some

abbrev nth : ℕ → List Stretch → Stretch
nth k l = first_stretch (drop k l)

nth_mem : (l : List Stretch) (k : ℕ) → k < length l → Memᴰ (nth k l) l
unfolding first_stretch
nth_mem [] k h = absurd (omega arith)
nth_mem (d ∷ l) zero h = Memᴰ.head refl
nth_mem (d ∷ l) (suc k) h = Memᴰ.tail (nth_mem l k (omega arith))

nth_none : (l : List Stretch) (k : ℕ) → length l ≤ k → ((nth k l).place ≡ 0) × ((nth k l).size ≡ 0)
unfolding first_stretch
nth_none [] zero h = (refl, refl)
nth_none [] (suc k) h = (refl, refl)
nth_none (d ∷ l) zero h = absurd (omega arith)
nth_none (d ∷ l) (suc k) h = nth_none l k (omega arith)

-- each of them has a number
nth_of : (l : List Stretch) (d : Stretch) → Memᴰ d l → (k : ℕ) × (k < length l) × (d ≡ nth k l)
unfolding first_stretch
nth_of [] d m = absurd (Memᴰ.not-nil m)
nth_of (e ∷ l) d m = go (Memᴰ.cases_cons m) (nth_of l d)
  where
    go : (d ≡ e) ⊎ Memᴰ d l → (Memᴰ d l → (k : ℕ) × (k < length l) × (d ≡ nth k l)) → (k : ℕ) × (k < length (e ∷ l)) × (d ≡ nth k (e ∷ l))
    go (inl q) ih = (0, omega arith, q)
    go (inr n) ih = let r = ih n in (suc r.0, omega (arith, r.1), r.2)

nth_order : {l : List Stretch} → Ascending l → (j k : ℕ) → j < k → k < length l → (nth j l).place + (nth j l).size < (nth k l).place
unfolding first_stretch
nth_order none j k h g = absurd (omega arith)
nth_order (next f a) j zero h g = absurd (omega arith)
nth_order (next {l = l} f a) zero (suc k) h g = f (nth k l) (nth_mem l k (omega arith))
nth_order (next f a) (suc j) (suc k) h g = nth_order a j k (omega arith) (omega arith)

-- ---- the area

area_reports : (image : Bytes) (d : Descriptor) → area_header_size ≤ length (area_bytes image d) → AreaReportTold (area_bytes image d) (area_report image d)
unfolding area_report area_free
area_reports image d long = record {
  same = λ k. (refl, refl, refl, refl);
  runs = λ k h. t.runs (nth k damage) (nth_mem damage k h);
  order = nth_order t.order;
  found = λ p h. let s = t.found p h in let n = nth_of damage s.0 s.1 in (n.0, n.1, rw n.2 at s.2);
  none = λ k h. nth_none damage k h;
  first = λ h. t.first (t.runs (nth 0 damage) (nth_mem damage 0 h)).some;
  free = λ p h l. t.free p (from p h) l;
  sum = t.sum;
}
  where
    t : AreaTold (area_bytes image d)
    t = area_told (area_bytes image d) long

    damage : List Stretch
    damage = area_damage record_size (area_bytes image d)

    from : (p : ℕ) → length (area_bytes image d) ≤ p + free_size (area_parts record_size (area_bytes image d)) → area_free record_size (area_bytes image d) ≤ p
    from p h = omega arith

-- ---- the call

-- the area i of a list
abbrev listed_at : List Descriptor → ℕ → Descriptor
listed_at ds i = get_or ds i (record { offset = 0; length = 0 })

module _ (image : Bytes) (ds : List Descriptor) (i : ℕ) (passed : area_report_number image ds i ≡ 0) where
  checks : (bad_description image ds ≡ false) × (leb (length ds) i ≡ false)
  unfolding area_report_number first_refusal
  checks = let a = passed_first (bad_description image ds) 0 _ passed in (a.0, (passed_first (leb (length ds) i) 0 0 a.1).0)

  long : area_header_size ≤ length (area_bytes image (listed_at ds i))
  long =
      let d = listed_at ds i in
      let f = area_fits image ds checks.0 d (get_or_mem ds i _ (leb-false (length ds) i checks.1)) in
      omega (arith, f.0, part_length image d.offset d.length f.1)

  told : AreaReportTold (area_bytes image (listed_at ds i)) (λ k. area_report_of image ds i k)
  unfolding area_report_of
  told = rw passed (area_reports image (listed_at ds i) long)

pub area_report_told : (image : Bytes) (ds : List Descriptor) (i : ℕ) → area_report_number image ds i ≡ 0
    → AreaReportTold (area_bytes image (get_or ds i (record { offset = 0; length = 0 }))) (area_report_of image ds i)
area_report_told = told
