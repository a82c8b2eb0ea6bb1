-- What the reading of an area comes to, and the laws of the loop that reads. Document 01, "How an area is read", and T-08.
use Rattle.std.specs.Prelude.{ℕ, zero, suc, ◌+◌, ◌-◌, ◌≤◌, ◌≡◌, refl, Bool, true, false, cond, take, drop, eqb, Some, None}
use Rattle.std.proofs.Math.Path.{sym, ap}
use Rattle.std.proofs.Common.{◌∙◌, arith, length-append, drop-drop, length-take-le}
use mathlib.Core.List.{List, [], ◌∷◌, ◌++◌, append-nil, append_assoc}
use Rattle.std.proofs.Math.ListN.{length, length-drop}
use Rattle.format.specs.Bytes.{Bytes}
use Rattle.format.specs.Record.{record_size}
use Rattle.format.specs.AreaHeader.{area_header_size}
use Rattle.format.specs.Reading.{parts, Stretch, erased_end, free_size, damaged_bytes, damaged, total_size, first_stretch, area_parts, area_damage, area_free}
use Rattle.format_laws.specs.Reading.{damaged_taken, damaged_last, free_taken, free_last, total_append}
use Rattle.calls.specs.Areas.{largest_image}
use Rattle.area_read.specs.Area.{next_record}
use Rattle.area_read.specs.Laws.{Found, found, not_found}
use Rattle.area_read.specs.declared.Next.{Next}
use Rattle.area_damage.specs.Damage.{damage_of, Fewer, kept}
use Rattle.area_damage.specs.declared.Damage.{Damage}

-- d and free are the reading of an area, d with its stretch k, and no number is greater than the area is long
pub record Reads (area : Bytes) (k : ℕ) (d : Damage) (free : ℕ) : Type 0 where
  pub damage : d ≡ damage_of k (area_damage record_size area)
  pub free_is : free ≡ area_free record_size area
  pub free_bytes : length area - free ≡ free_size (area_parts record_size area)
  pub stretches_few : d.stretches ≤ length area
  pub skipped_few : d.skipped ≤ length area
  pub offset_inside : d.offset ≤ length area
  pub free_inside : free ≤ length area

-- ---- the loop of reading

-- what lies before a place: no more stretches, and no more bytes of them, than bytes; each starts before it
pub record Before (at : ℕ) (l : List Stretch) : Type 0 where
  pub few : length l ≤ at
  pub short : total_size l ≤ at
  pub each : (k : ℕ) → (first_stretch (drop k l)).place ≤ at

before_none : (at : ℕ) → Before at []
unfolding total_size first_stretch
before_none at = record { few = omega arith; short = omega arith; each = none }
  where
    none : (k : ℕ) → (first_stretch (drop k [])).place ≤ at
    none zero = omega arith
    none (suc k) = omega arith

-- a stretch more, and a place behind it
before_more : (at end : ℕ) (l : List Stretch) (n : ℕ) → at + n ≤ end → Before at l → Before end (l ++ damaged_bytes at n)
unfolding damaged_bytes total_size
before_more at end l zero h b = rw (append-nil l) (record {
  few = omega (arith, b.few);
  short = omega (arith, b.short);
  each = λ k. omega (arith, b.each k);
})
before_more at end l (suc n) h b =
    let x : Stretch = record { place = at; size = suc n } in
    record {
      few = omega (arith, length-append l (x ∷ []), b.few);
      short = omega (arith, total_append l (x ∷ []), b.short);
      each = λ k. rw (kept k l x) (go (eqb (length l) k) (first_stretch (drop k l)) (b.each k));
    }
  where
    go : (t : Bool) (y : Stretch) → y.place ≤ at → (cond t (record { place = at; size = suc n }) y).place ≤ end
    go true y e = omega arith
    go false y e = omega arith

-- reading has come to a place with some damage: that and what is left make the whole
pub record Read (area : Bytes) (k at : ℕ) (d : Damage) : Type 0 where
  pub started : area_header_size ≤ at
  pub within : at ≤ length area
  pub so_far : List Stretch
  pub is : d ≡ damage_of k so_far
  pub before : Before at so_far
  pub left : so_far ++ damaged at (parts record_size (drop at area) 0) ≡ area_damage record_size area
  pub free_left : free_size (parts record_size (drop at area) 0) ≡ free_size (area_parts record_size area)

pub read_begins : (area : Bytes) (k : ℕ) (d : Damage) → area_header_size ≤ length area → d ≡ damage_of k [] → Read area k area_header_size d
unfolding area_damage area_parts
read_begins area k d h e = record {
  started = omega arith;
  within = h;
  so_far = [];
  is = e;
  before = before_none area_header_size;
  left = refl;
  free_left = refl;
}

-- there is room for one more
pub fewer : (area : Bytes) (k at : ℕ) (d : Damage) → Read area k at d → length area ≤ largest_image → (p size : ℕ) → p + size ≤ largest_image → Fewer d p size
unfolding damage_of
fewer area k at d g s p size h = record {
  few = omega (arith, g.before.few, g.within, ap (λ (y : Damage). y.stretches) g.is);
  short = omega (arith, g.before.short, g.within, ap (λ (y : Damage). y.skipped) g.is);
  inside = omega arith;
}

-- the next record f, sought from a place
module _ (area : Bytes) (k at : ℕ) (d : Damage) (g : Read area k at d) where
  module _ (f : Next) (e : Some f ≡ next_record area at) where
    seen : Found (drop at area) at f
    unfolding next_record
    seen = found (drop at area) at f e

    pub next_after : at ≤ f.at
    next_after = omega (arith, seen.at_gap)

    pub next_within : f.at + f.size ≤ length area
    next_within = omega (arith, seen.at_gap, seen.within, length-drop at area, g.within)

    gap_long : length (take seen.gap (drop at area)) ≡ seen.gap
    gap_long = length-take-le seen.gap (drop at area) (omega (arith, seen.within))

    size_long : length (take f.size (drop seen.gap (drop at area))) ≡ f.size
    size_long = length-take-le f.size _ (omega (arith, seen.within, length-drop seen.gap (drop at area)))

    onward : drop (seen.gap + f.size) (drop at area) ≡ drop (f.at + f.size) area
    onward =
        let x : at + (seen.gap + f.size) ≡ f.at + f.size = omega (arith, seen.at_gap) in
        drop-drop (seen.gap + f.size) at area ∙ rw x

    split : damaged at (parts record_size (drop at area) 0)
        ≡ damaged_bytes at (f.at - at) ++ damaged (f.at + f.size) (parts record_size (drop (f.at + f.size) area) 0)
    split =
        let a : seen.gap ≡ f.at - at = omega (arith, seen.at_gap) in
        let b : at + length (take seen.gap (drop at area)) + length (take f.size (drop seen.gap (drop at area))) ≡ f.at + f.size =
        omega (arith, gap_long, size_long, seen.at_gap) in
        ap (damaged at) seen.some
        ∙ damaged_taken at (take seen.gap (drop at area)) (take f.size (drop seen.gap (drop at area))) _
        ∙ rw (b, gap_long, onward, a)

    pub read_on : (d' : Damage) → ((l : List Stretch) → d ≡ damage_of k l → d' ≡ damage_of k (l ++ damaged_bytes at (f.at - at))) → Read area k (f.at + f.size) d'
    read_on d' h = record {
      started = omega (arith, next_after, g.started);
      within = next_within;
      so_far = g.so_far ++ damaged_bytes at (f.at - at);
      is = h g.so_far g.is;
      before = before_more at (f.at + f.size) g.so_far (f.at - at) (omega (arith, next_after)) g.before;
      left = append_assoc g.so_far (damaged_bytes at (f.at - at)) _ ∙ ap (λ (l : List Stretch). g.so_far ++ l) (sym split) ∙ g.left;
      free_left = sym (ap free_size seen.some ∙ free_taken (take seen.gap (drop at area)) _ _ ∙ rw onward) ∙ g.free_left;
    }

  pub read_ends : None ≡ next_record area at → (free : ℕ) → at ≤ free → free ≤ length area → erased_end (drop at area) ≡ length area - free → (d' : Damage)
      → ((l : List Stretch) → d ≡ damage_of k l → d' ≡ damage_of k (l ++ damaged_bytes at (free - at))) → Reads area k d' free
  unfolding area_free damage_of next_record
  read_ends e free behind inside q d' h =
      let p = not_found (drop at area) at e in
      let y : length (drop at area) - erased_end (drop at area) ≡ free - at = omega (arith, length-drop at area, q) in
      let m : damaged at (parts record_size (drop at area) 0) ≡ damaged_bytes at (free - at) = ap (damaged at) p ∙ damaged_last at (drop at area) ∙ rw y in
      let b = before_more at (length area) g.so_far (free - at) (omega arith) g.before in
      let x = h g.so_far g.is in
      let c : length area - free ≡ free_size (area_parts record_size area) = sym q ∙ sym (free_last (drop at area)) ∙ ap free_size (sym p) ∙ g.free_left in
      record {
        damage = x ∙ ap (damage_of k) (ap (λ (l : List Stretch). g.so_far ++ l) (sym m) ∙ g.left);
        free_is = omega (arith, c);
        free_bytes = c;
        stretches_few = omega (arith, b.few, ap (λ (y : Damage). y.stretches) x);
        skipped_few = omega (arith, b.short, ap (λ (y : Damage). y.skipped) x);
        offset_inside = omega (arith, b.each k, ap (λ (y : Damage). y.offset) x);
        free_inside = inside;
      }
