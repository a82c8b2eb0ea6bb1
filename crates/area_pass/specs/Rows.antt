-- The rows of areas with what they tell of their readings: starts, spans, and of each area its stretches of damage and where free space starts.
use Rattle.std.specs.Prelude.{ℕ, ◌+◌, ◌*◌, ◌≤◌, ◌<◌, ◌≡◌, refl, ◌≢◌, take, drop, get_or, set}
use Rattle.std.proofs.Common.{sym, ◌∙◌, arith, length-drop, length-set, get_or-take, get_or-drop, get_or-set_same, get_or-set_other}
use Rattle.std.proofs.Math.Path.{ap, ap₂}
use mathlib.Core.List.{List, [], ◌++◌, append-nil, append_assoc}
use Rattle.std.proofs.Math.Decide.{ℕ_discrete}
use Rattle.std.proofs.Math.ListN.{length, length-take}
use Rattle.std.proofs.lemmas.List.{take-set-le}
use Rattle.format.specs.Bytes.{Bytes}
use Rattle.format.specs.Record.{record_size}
use Rattle.format.specs.Reading.{Stretch, total_size, area_damage, area_free}
use Rattle.calls.specs.Areas.{most_areas, largest_image}
use Rattle.calls.specs.Report.{in_image, damage_in}
use Rattle.area_list.specs.Described.{described, described_step, described_end}
use Rattle.table_rows.specs.Parts.{part}
use Rattle.area_damage.specs.Damage.{damage_of, Summable, joined_count, joined_sum}
use Rattle.area_pass.specs.Reading.{Reads}
use Rattle.area_pass.specs.Listing.{Room, Listed, Files}
use Rattle.area_pass.specs.Areas.{Through, through_begins, through_on, area_room}
use Rattle.area_damage.specs.declared.Damage.{Damage}

-- where the columns start; the starts stand first
abbrev pub spans_at : ℕ
spans_at = most_areas

abbrev pub stretches_at : ℕ
stretches_at = spans_at + most_areas

abbrev pub free_at : ℕ
free_at = stretches_at + most_areas

abbrev pub area_rows : ℕ
area_rows = free_at + most_areas

-- the area of a row
abbrev pub area_at : Bytes → List ℕ → ℕ → Bytes
area_at image rows i = take (get_or rows (spans_at + i) 0) (drop (get_or rows i 0) image)

-- what the row i tells of the reading of an area
pub record Tells (area : Bytes) (rows : List ℕ) (i : ℕ) : Type 0 where
  pub stretches : get_or rows (stretches_at + i) 0 ≡ length (area_damage record_size area)
  pub free : get_or rows (free_at + i) 0 ≡ area_free record_size area

-- free space starts no later than an image ends
abbrev pub Small : List ℕ → ℕ → Type 0
Small rows i = get_or rows (free_at + i) 0 ≤ largest_image

-- what is lent
pub record Lent (image : Bytes) (rows : List ℕ) (files : ℕ) (places : List ℕ) : Type 0 where
  pub long : area_rows ≤ length rows
  pub few : files ≤ most_areas
  pub files_are : Files image (part 0 files rows) (part spans_at files rows) places

-- the readings of the first n areas are in the rows, and the areas are as they were
pub record Readings (image : Bytes) (n : ℕ) (rows rows' : List ℕ) : Type 0 where
  pub areas : take stretches_at rows' ≡ take stretches_at rows
  pub read : (i : ℕ) → i < n → Tells (area_at image rows i) rows' i
  pub small : (i : ℕ) → i < n → Small rows' i

pub record Going (image : Bytes) (rows₀ : List ℕ) (files : ℕ) (ps₀ rows ps : List ℕ) (k : ℕ) (d : Damage) (i : ℕ) : Type 0 where
  pub through : Through image (part 0 files rows₀) (part spans_at files rows₀) ps₀ ps k i
  pub long : length rows ≡ length rows₀
  pub readings : Readings image i rows₀ rows
  pub stretches_few : d.stretches ≤ i * largest_image
  pub skipped_few : d.skipped ≤ i * largest_image
  pub so_far : List Stretch
  pub is : d ≡ damage_of 0 so_far
  pub damage : so_far ++ damage_in image (described (drop i (part 0 files rows₀)) (drop i (part spans_at files rows₀)))
      ≡ damage_in image (described (part 0 files rows₀) (part spans_at files rows₀))

pub going_begins : (image : Bytes) (rows : List ℕ) (files : ℕ) (ps : List ℕ) (d : Damage) → ((k : ℕ) → d ≡ damage_of k [])
    → Going image rows files ps rows ps 0 d 0
unfolding damage_of total_size
going_begins image rows files ps d e = record {
  through = through_begins image (part 0 files rows) (part spans_at files rows) ps;
  long = refl;
  readings = record { areas = refl; read = λ i h. absurd (omega arith); small = λ i h. absurd (omega arith) };
  stretches_few = omega (arith, ap (λ (x : Damage). x.stretches) (e 0));
  skipped_few = omega (arith, ap (λ (x : Damage). x.skipped) (e 0));
  so_far = [];
  is = e 0;
  damage = refl;
}

-- what a row tells, stored
abbrev pub stored : List ℕ → ℕ → ℕ → ℕ → List ℕ
stored rows i a b = set (set rows (stretches_at + i) a) (free_at + i) b

module _ (rows : List ℕ) (i a b : ℕ) (h : i < most_areas) (long : area_rows ≤ length rows) where
  stored_areas : take stretches_at (stored rows i a b) ≡ take stretches_at rows
  stored_areas =
      take-set-le stretches_at (set rows (stretches_at + i) a) (free_at + i) b (omega arith)
      ∙ take-set-le stretches_at rows (stretches_at + i) a (omega arith)

  stored_other : (x : ℕ) → x ≢ stretches_at + i → x ≢ free_at + i → get_or (stored rows i a b) x 0 ≡ get_or rows x 0
  stored_other x p q =
      get_or-set_other (set rows (stretches_at + i) a) (free_at + i) x b 0 q
      ∙ get_or-set_other rows (stretches_at + i) x a 0 p

  same_long : length (set rows (stretches_at + i) a) ≡ length rows
  same_long = length-set rows (stretches_at + i) a

  stored_long : length (stored rows i a b) ≡ length rows
  stored_long = length-set (set rows (stretches_at + i) a) (free_at + i) b ∙ same_long

  stretches_stored : get_or (stored rows i a b) (stretches_at + i) 0 ≡ a
  stretches_stored =
      get_or-set_other (set rows (stretches_at + i) a) (free_at + i) (stretches_at + i) b 0 (λ e. omega arith)
      ∙ get_or-set_same rows (stretches_at + i) a 0 (omega arith)

  free_stored : get_or (stored rows i a b) (free_at + i) 0 ≡ b
  free_stored = get_or-set_same (set rows (stretches_at + i) a) (free_at + i) b 0 (omega (arith, same_long))

module _ (image : Bytes) (rows₀ : List ℕ) (files : ℕ) (ps₀ rows ps : List ℕ) (k : ℕ) (d : Damage) (i : ℕ) (lent : Lent image rows₀ files ps₀)
    (g : Going image rows₀ files ps₀ rows ps k d i) where
  pub damage_whole : files ≤ i → d ≡ damage_of 0 (damage_in image (described (part 0 files rows₀) (part spans_at files rows₀)))
  unfolding damage_in
  damage_whole h =
      let n : length (part 0 files rows₀) ≤ i = omega (arith, length-take files rows₀) in
      g.is ∙ ap (damage_of 0) (sym (rw (described_end (part 0 files rows₀) (part spans_at files rows₀) i n) (append-nil g.so_far)) ∙ g.damage)

  module _ (h : i < files) where
    column : (j : ℕ) → j < stretches_at → get_or rows₀ j 0 ≡ get_or rows j 0
    column j l =
        sym (get_or-take stretches_at rows₀ j 0 l) ∙ ap (λ (x : List ℕ). get_or x j 0) (sym g.readings.areas) ∙ get_or-take stretches_at rows j 0 l

    pub start_is : get_or (part 0 files rows₀) i 0 ≡ get_or rows i 0
    start_is = get_or-take files rows₀ i 0 h ∙ column i (omega (arith, lent.few))

    pub span_is : get_or (part spans_at files rows₀) i 0 ≡ get_or rows (spans_at + i) 0
    span_is = get_or-take files (drop spans_at rows₀) i 0 h ∙ get_or-drop spans_at rows₀ i 0 ∙ column (spans_at + i) (omega (arith, lent.few))

    inner : i < length (part 0 files rows₀)
    inner = omega (arith, length-take files rows₀, lent.few, lent.long)

    pub inside : get_or rows i 0 + get_or rows (spans_at + i) 0 ≤ length image
    inside = omega (arith, lent.files_are.fit.inside i inner, start_is, span_is)

    pub small : length image ≤ 65536
    small = lent.files_are.fit.small

    pub rows_long : area_rows ≤ length rows
    rows_long = omega (arith, g.long, lent.long)

    abbrev area : Bytes
    area = take (get_or rows (spans_at + i) 0) (drop (get_or rows i 0) image)

    pub room : Room (take (get_or rows (spans_at + i) 0) (drop (get_or rows i 0) image)) (get_or rows i 0) ps k
    room = rw (start_is, span_is) at (area_room image (part 0 files rows₀) (part spans_at files rows₀) ps₀ ps k i lent.files_are g.through inner)

    more : damage_in image (described (drop i (part 0 files rows₀)) (drop i (part spans_at files rows₀)))
        ≡ in_image (get_or rows i 0) (area_damage record_size area)
        ++ damage_in image (described (drop (i + 1) (part 0 files rows₀)) (drop (i + 1) (part spans_at files rows₀)))
    unfolding damage_in
    more = rw (described_step (part 0 files rows₀) (part spans_at files rows₀) i (sym lent.files_are.fit.pairs) inner, start_is, span_is)

    few : i < most_areas
    few = omega (arith, lent.few)

    area_length : length area ≤ largest_image
    area_length = omega (arith, inside, small, length-take (get_or rows (spans_at + i) 0) (drop (get_or rows i 0) image), length-drop (get_or rows i 0) image)

    pub summable : (e : Damage) (free : ℕ) → Reads (take (get_or rows (spans_at + i) 0) (drop (get_or rows i 0) image)) 0 e free → Summable d (get_or rows i 0) e
    summable e free read = record {
      stretches = (omega (arith, g.stretches_few, few), omega (arith, read.stretches_few, area_length));
      skipped = (omega (arith, g.skipped_few, few), omega (arith, read.skipped_few, area_length));
      offset = (omega (arith, inside, small), omega (arith, read.offset_inside, area_length));
    }

    -- the area is passed: r places are listed, its reading is stored, and its damage is put behind that of the areas before
    module _ (ps' : List ℕ) (r : ℕ) (e : Damage) (free : ℕ) (d' : Damage) (same : length ps' ≡ length ps)
        (listed : Listed (take (get_or rows (spans_at + i) 0) (drop (get_or rows i 0) image)) (get_or rows i 0) ps k r ps')
        (read : Reads (take (get_or rows (spans_at + i) 0) (drop (get_or rows i 0) image)) 0 e free)
        (join : (l m : List Stretch) → d ≡ damage_of 0 l → e ≡ damage_of 0 m → d' ≡ damage_of 0 (l ++ in_image (get_or rows i 0) m)) where
      abbrev rows' : List ℕ
      rows' = stored rows i e.stretches free

      same_area : area ≡ area_at image rows₀ i
      same_area = ap₂ (λ (n o : ℕ). take n (drop o image)) (sym (column (spans_at + i) (omega (arith, lent.few)))) (sym (column i (omega (arith, lent.few))))

      tells : (j : ℕ) → j < i + 1 → Dec (j ≡ i) → Tells (area_at image rows₀ j) rows' j
      unfolding damage_of
      tells j b (yes q) = rw (q, ← same_area) (record {
        stretches = stretches_stored rows i e.stretches free few rows_long ∙ ap (λ (x : Damage). x.stretches) read.damage;
        free = free_stored rows i e.stretches free few rows_long ∙ read.free_is;
      })
      tells j b (no q) =
          let t = g.readings.read j (omega arith) in
          record {
            stretches = stored_other rows i e.stretches free few rows_long (stretches_at + j) (λ z. omega arith) (λ z. omega arith) ∙ t.stretches;
            free = stored_other rows i e.stretches free few rows_long (free_at + j) (λ z. omega arith) (λ z. omega arith) ∙ t.free;
          }

      fits : (j : ℕ) → j < i + 1 → Dec (j ≡ i) → Small rows' j
      fits j b (yes q) = rw q (omega (arith, free_stored rows i e.stretches free few rows_long, read.free_inside, area_length))
      fits j b (no q) =
          omega (
            arith,
            g.readings.small j (omega arith),
            stored_other rows i e.stretches free few rows_long (free_at + j) (λ z. omega arith) (λ z. omega arith),
          )

      abbrev both : List Stretch
      both = g.so_far ++ in_image (get_or rows i 0) (area_damage record_size area)

      joined : d' ≡ damage_of 0 both
      joined = join g.so_far (area_damage record_size area) g.is read.damage

      pub going_on : Going image rows₀ files ps₀ (stored rows i e.stretches free) ps' r d' (i + 1)
      unfolding damage_of
      going_on = record {
        through = through_on image (part 0 files rows₀) (part spans_at files rows₀) ps₀ ps k i lent.files_are g.through inner ps' r same (rw (← start_is, ← span_is) at listed);
        long = stored_long rows i e.stretches free few rows_long ∙ g.long;
        readings = record {
          areas = stored_areas rows i e.stretches free few rows_long ∙ g.readings.areas;
          read = λ j b. tells j b (ℕ_discrete j i);
          small = λ j b. fits j b (ℕ_discrete j i);
        };
        stretches_few = omega (arith, g.stretches_few, read.stretches_few, area_length, ap (λ (x : Damage). x.stretches) joined, counts.0);
        skipped_few = omega (arith, g.skipped_few, read.skipped_few, area_length, ap (λ (x : Damage). x.skipped) joined, counts.1);
        so_far = both;
        is = joined;
        damage = append_assoc g.so_far _ _ ∙ ap (λ (l : List Stretch). g.so_far ++ l) (sym more) ∙ g.damage;
      }
        where
          counts : (length both ≡ d.stretches + e.stretches) × (total_size both ≡ d.skipped + e.skipped)
          counts = (
            joined_count (get_or rows i 0) g.so_far (area_damage record_size area) ∙ ap₂ (λ (a b : ℕ). a + b) (sym (ap (λ (x : Damage). x.stretches) g.is)) (sym (ap (λ (x : Damage). x.stretches) read.damage)),
            joined_sum (get_or rows i 0) g.so_far (area_damage record_size area) ∙ ap₂ (λ (a b : ℕ). a + b) (sym (ap (λ (x : Damage). x.skipped) g.is)) (sym (ap (λ (x : Damage). x.skipped) read.damage)),
          )
